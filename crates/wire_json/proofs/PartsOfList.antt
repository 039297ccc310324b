-- The parts of an operation, one after another.
use Rattle.std.proofs.Common.{◌≡◌, ℕ, suc, ◌+◌, ◌<◌, ◌≤◌, List, [], ◌∷◌, ◌++◌, length, get_or, drop, map, refl, sym, ◌∙◌, ap, append_assoc, arith, true, false, add-one}
use Rattle.std.specs.Prelude.{Option, Some, None, option_map, option_and_then, nat_le}
use Rattle.std.proofs.lemmas.Bool.Decides.{nat_tests}
use Rattle.std.proofs.lemmas.List.Sums.{sum_by-append}
use Rattle.std.proofs.Math.Seq.{drop-cons}
use Rattle.serde_json.specs.Data.{Data}
use Rattle.serde_json.specs.View.{view, items_view}
use Rattle.serde_json.specs.declared.value.Value.{Value}
use Rattle.ot_text.specs.Change.{Change, base, then, nothing}
use Rattle.ot_text.specs.declared.part.Part.{Part}
use Rattle.ot_text.specs.Parts.{part_base, base_of, part_then, norm}
use Rattle.ot_text.proofs.Norm.{base-norm}
use Rattle.ot_text.proofs.Then.{norm-append}
use Rattle.wire_json.specs.Values.{most_count, elements}
use Rattle.wire_json.specs.Operations.{part_of, parts_of_list, op_of_parts, op_of_list}

base_of-append : (ps qs : List Part) → base_of (ps ++ qs) ≡ base_of ps + base_of qs
base_of-append ps qs = sum_by-append part_base ps qs

base_of-one : (part : Part) → base_of (part ∷ []) ≡ part_base part
base_of-one part = omega arith

base_of-one_more : (ps : List Part) (part : Part) → base_of (ps ++ part ∷ []) ≡ base_of ps + part_base part
base_of-one_more ps part = base_of-append ps (part ∷ []) ∙ ap (λ n. base_of ps + n) (base_of-one part)

abbrev pub behind : List Part → Option (List Part) → Option (List Part)
behind done parts = option_map (λ ps. done ++ ps) parts

-- the parts done so far are built, and then come those of the rest
pub record IsReadSoFar (all rest : List Data) (built : Change) : Type 0 where
  pub done : List Part
  pub is : built ≡ norm done
  pub small : base_of done ≤ most_count
  pub parts : parts_of_list all ≡ behind done (parts_of_list rest)

behind_more : (done : List Part) (part : Part) (parts : Option (List Part)) → behind done (option_map (λ ps. part ∷ ps) parts) ≡ behind (done ++ part ∷ []) parts
behind_more done part None = refl
behind_more done part (Some ps) = ap Some (sym (append_assoc done (part ∷ []) ps))

parts_more : (all rest : List Data) (d : Data) (ds : List Data) (done : List Part) (part : Part) → parts_of_list all ≡ behind done (parts_of_list rest) → rest ≡ d ∷ ds → part_of d ≡ Some part → parts_of_list all ≡ behind (done ++ part ∷ []) (parts_of_list ds)
parts_more all rest d ds done part parts split is_part =
    parts ∙ ap (λ r. behind done (parts_of_list r)) split ∙ ap (λ p. behind done (option_and_then (λ part. option_map (λ ps. part ∷ ps) (parts_of_list ds)) p)) is_part ∙ behind_more done part (parts_of_list ds)

-- the next one is a part
pub next : (all rest : List Data) (d : Data) (ds : List Data) (built built' : Change) (part : Part) → IsReadSoFar all rest built → rest ≡ d ∷ ds → part_of d ≡ Some part
    → true ≡ nat_le (base built + part_base part) most_count → built' ≡ then built (part_then part nothing) → IsReadSoFar all ds built'
next all rest d ds built built' part r split is_part fits is_next =
    let fit : base built + part_base part ≤ most_count = grind (arith, nat_tests) in
    record {
      done = r.done ++ part ∷ [];
      is = is_next ∙ ap (λ b. then b (part_then part nothing)) r.is ∙ sym (norm-append r.done (part ∷ []));
      small = omega (arith, fit, base_of-one_more r.done part, ap base r.is ∙ base-norm r.done);
      parts = parts_more all rest d ds r.done part r.parts split is_part;
    }

over : (parts : List Part) → most_count < base_of parts → op_of_parts parts ≡ None
over parts long = let no_fit : nat_le (base_of parts) most_count ≡ false = grind (arith, nat_tests) in rw no_fit

over_option : (done : List Part) (more : Option (List Part)) → most_count < base_of done → option_and_then op_of_parts (behind done more) ≡ None
over_option done None long = refl
over_option done (Some ps) long = over (done ++ ps) (omega (arith, base_of-append done ps))

-- the numbers grow too large
pub too_large : (all rest : List Data) (d : Data) (ds : List Data) (built : Change) (part : Part) → IsReadSoFar all rest built → rest ≡ d ∷ ds → part_of d ≡ Some part
    → false ≡ nat_le (base built + part_base part) most_count → None ≡ op_of_list all
too_large all rest d ds built part r split is_part no_fit =
    let long : most_count < base built + part_base part = grind (arith, nat_tests) in
    sym (ap (λ p. option_and_then op_of_parts p) (parts_more all rest d ds r.done part r.parts split is_part)
    ∙ over_option (r.done ++ part ∷ []) (parts_of_list ds) (omega (arith, long, base_of-one_more r.done part, ap base r.is ∙ base-norm r.done)))

-- the base of what was read so far is within the limit
pub built_small : (all rest : List Data) (built : Change) → IsReadSoFar all rest built → base built ≤ most_count
built_small all rest built r = omega (arith, ap base r.is ∙ base-norm r.done, r.small)

-- the rest of the items, with its first
pub split_items : (items : List Value) (i : ℕ) (value : Value) → i < length items → value ≡ get_or items i value → map view (drop i items) ≡ view value ∷ map view (drop (i + 1) items)
split_items items i value within item =
    ap (map view) (drop-cons items i value within ∙ ap (λ v. v ∷ drop (suc i) items) (sym item) ∙ ap (λ k. value ∷ drop k items) (sym (add-one i)))

-- the elements of an array are the views of its items
pub elements-items : (values : List Value) → elements (items_view values) ≡ map view values
elements-items [] = refl
elements-items (v ∷ values) = ap (λ l. view v ∷ l) (elements-items values)
