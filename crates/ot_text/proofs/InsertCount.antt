-- An operation puts in no more texts than characters.
use Rattle.std.proofs.Common.{◌≢◌, ℕ, ◌≤◌, List, [], ◌∷◌, length, refl, ap, arith}
use Rattle.std.proofs.lemmas.List.Sums.{sum_by-cons}
use Rattle.std.specs.Prelude.{count_by}
use Rattle.ot_text.specs.declared.part.Part.{Part}
use Rattle.ot_text.specs.declared.part.Part.TheVariants.{Retain, Insert, Delete}
use Rattle.ot_text.specs.Change.{Change, inserted}
use Rattle.ot_text.specs.Ends.{is_insert}
use Rattle.ot_text.specs.Parts.{parts_of, IsProper, IsNormal, part_inserted, inserted_of}
use Rattle.ot_text.specs.Ready.{insert_count, part_insert_count}
use Rattle.ot_text.proofs.PartsOf.{normal-parts_of, norm-parts_of}
use Rattle.ot_text.proofs.Norm.{inserted-norm}

some : (t : List ℕ) → t ≢ [] → 1 ≤ length t
some [] h = absurd (h refl)
some (c ∷ t) h = omega arith

one_text : (part : Part) → IsProper part → part_insert_count part ≤ part_inserted part
one_text (Retain k) h = omega arith
one_text (Insert t) h = some t h
one_text (Delete k) h = omega arith

texts_le : (parts : List Part) → IsNormal parts → count_by is_insert parts ≤ inserted_of parts
texts_le [] h = omega arith
texts_le (part ∷ parts) h =
    omega (
      arith,
      sum_by-cons (λ (p : Part). part_insert_count p) part parts,
      sum_by-cons part_inserted part parts,
      one_text part h.0,
      texts_le parts h.2,
    )

-- an operation puts in no more texts than characters
pub insert_count-le-inserted : (c : Change) → insert_count c ≤ inserted c
insert_count-le-inserted c =
    omega (arith, texts_le (parts_of c) (normal-parts_of c), inserted-norm (parts_of c), ap inserted (norm-parts_of c))
