-- A printed operation is read back, and its data is sound.
use Rattle.std.proofs.Common.{◌≡◌, ℕ, zero, suc, ◌+◌, ◌^◌, ◌<◌, ◌≤◌, List, [], ◌∷◌, map, refl, sym, ap, ◌∙◌, max, arith, lt-ltb, le-leb}
use Rattle.std.specs.Prelude.{All, Some, option_and_then, IsUtf8, encode_utf8_all}
use Rattle.std.proofs.lemmas.Str.{chars-encodes}
use Rattle.std.proofs.lemmas.List.Elements.{All-head, All-tail}
use Rattle.std.proofs.lemmas.List.Sums.{sum_by-cons}
use Rattle.serde_json.specs.Data.{Data, items_depth}
use Rattle.serde_json.specs.View.{items_of}
use Rattle.ot_text.specs.Change.{Change, base}
use Rattle.ot_text.specs.Parts.{part_base, base_of, parts_of, IsNormal}
use Rattle.ot_text.specs.declared.part.Part.{Part}
use Rattle.ot_text.specs.declared.part.Part.TheVariants.{Retain, Insert, Delete}
use Rattle.ot_text.proofs.PartsOf.{normal-parts_of, norm-parts_of}
use Rattle.ot_text.proofs.Norm.{base-norm}
use Rattle.wire_json.specs.Values.{most_count, elements}
use Rattle.wire_json.specs.Operations.{parts_of_list, op_of_parts, op_of_list, op_of}
use Rattle.wire_print.specs.Printed.{part_data, op_data}
use Rattle.wire_print.specs.Within.{IsSpelled, PartIsSpelled, OpIsSpelled, OpIsWithin}
use Rattle.wire_print.proofs.IsSound.{IsSound, ItemsAreSound}

-- the elements of an array of data are that data
pub elements-items_of : (ds : List Data) → elements (items_of ds) ≡ ds
elements-items_of [] = refl
elements-items_of (d ∷ ds) = ap (λ l. d ∷ l) (elements-items_of ds)

base_of-cons : (part : Part) (parts : List Part) → base_of (part ∷ parts) ≡ part_base part + base_of parts
base_of-cons part parts = sum_by-cons part_base part parts

parts_back : (parts : List Part) → IsNormal parts → base_of parts ≤ most_count → All PartIsSpelled parts → parts_of_list (map part_data parts) ≡ Some parts
parts_back [] normal small spelled = refl
parts_back (Retain k ∷ parts) normal small spelled =
    let sum : k + base_of parts ≤ most_count = omega (arith, small, base_of-cons (Retain k) parts) in
    let fits : k < 2 ^ 63 = omega (arith, sum) in
    let rest = parts_back parts normal.2 (omega (arith, sum)) (All-tail PartIsSpelled (Retain k) parts spelled) in
    rw (lt-ltb _ _ fits, rest)
parts_back (Insert text ∷ parts) normal small spelled =
    let sum : 0 + base_of parts ≤ most_count = omega (arith, small, base_of-cons (Insert text) parts) in
    let rest = parts_back parts normal.2 (omega (arith, sum)) (All-tail PartIsSpelled (Insert text) parts spelled) in
    rw (chars-encodes text (All-head PartIsSpelled (Insert text) parts spelled), rest)
parts_back (Delete zero ∷ parts) normal small spelled = absurd (omega (arith, normal.0))
parts_back (Delete (suc k) ∷ parts) normal small spelled =
    let sum : suc k + base_of parts ≤ most_count = omega (arith, small, base_of-cons (Delete (suc k)) parts) in
    rw (parts_back parts normal.2 (omega (arith, sum)) (All-tail PartIsSpelled (Delete (suc k)) parts spelled))

op_of_parts_back : (c : Change) → base c ≤ most_count → op_of_parts (parts_of c) ≡ Some c
op_of_parts_back c small =
    let fits : base_of (parts_of c) ≤ most_count = omega (arith, base-norm (parts_of c), ap base (norm-parts_of c)) in
    rw (le-leb _ _ fits) (ap Some (norm-parts_of c))

base_of-parts_of : (c : Change) → base_of (parts_of c) ≡ base c
base_of-parts_of c = sym (base-norm (parts_of c)) ∙ ap base (norm-parts_of c)

-- a printed operation is read back
pub op_back : (c : Change) → OpIsSpelled c → OpIsWithin c → op_of (op_data c) ≡ Some c
op_back c spelled fits =
    ap op_of_list (elements-items_of (map part_data (parts_of c)))
    ∙ ap (λ o. option_and_then op_of_parts o) (parts_back (parts_of c) (normal-parts_of c) (omega (arith, fits, base_of-parts_of c)) spelled)
    ∙ op_of_parts_back c fits

-- a spelled text is UTF-8
pub text_sound : (text : List ℕ) → IsSpelled text → IsUtf8 (encode_utf8_all text)
text_sound text spelled = (text, (spelled, refl))

parts_sound : (parts : List Part) → IsNormal parts → base_of parts ≤ most_count → All PartIsSpelled parts → ItemsAreSound (items_of (map part_data parts))
parts_sound [] normal small spelled = tt
parts_sound (Retain k ∷ parts) normal small spelled =
    let sum : k + base_of parts ≤ most_count = omega (arith, small, base_of-cons (Retain k) parts) in
    (omega (arith, sum), parts_sound parts normal.2 (omega (arith, sum)) (All-tail PartIsSpelled (Retain k) parts spelled))
parts_sound (Insert text ∷ parts) normal small spelled =
    let sum : 0 + base_of parts ≤ most_count = omega (arith, small, base_of-cons (Insert text) parts) in
    (text_sound text (All-head PartIsSpelled (Insert text) parts spelled), parts_sound parts normal.2 (omega (arith, sum)) (All-tail PartIsSpelled (Insert text) parts spelled))
parts_sound (Delete zero ∷ parts) normal small spelled = absurd (omega (arith, normal.0))
parts_sound (Delete (suc k) ∷ parts) normal small spelled =
    let sum : suc k + base_of parts ≤ most_count = omega (arith, small, base_of-cons (Delete (suc k)) parts) in
    (omega (arith, sum), parts_sound parts normal.2 (omega (arith, sum)) (All-tail PartIsSpelled (Delete (suc k)) parts spelled))

-- the data of an operation is sound
pub op_sound : (c : Change) → OpIsSpelled c → OpIsWithin c → IsSound (op_data c)
op_sound c spelled fits = parts_sound (parts_of c) (normal-parts_of c) (omega (arith, fits, base_of-parts_of c)) spelled

parts_flat : (parts : List Part) → items_depth (items_of (map part_data parts)) ≡ 0
parts_flat [] = refl
parts_flat (Retain k ∷ parts) = ap (λ n. max 0 n) (parts_flat parts)
parts_flat (Insert text ∷ parts) = ap (λ n. max 0 n) (parts_flat parts)
parts_flat (Delete k ∷ parts) = ap (λ n. max 0 n) (parts_flat parts)

-- no part nests
pub op_flat : (c : Change) → items_depth (items_of (map part_data (parts_of c))) ≡ 0
op_flat c = parts_flat (parts_of c)
