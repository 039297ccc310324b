-- An operation of three parts, put together part by part.
use Rattle.std.proofs.Common.{◌≡◌, ℕ, ◌+◌, List, [], ◌∷◌, length, sym, ap, ◌∙◌, arith}
use Rattle.ot_text.specs.Change.{Change, base, target, nothing, then, retain_then, insert_then, delete_then}
use Rattle.ot_text.specs.Parts.{norm, part_then}
use Rattle.ot_text.specs.declared.part.Part.{Part}
use Rattle.ot_text.proofs.Then.{norm-append, base-then, base-retain_then, base-delete_then, target-then, target-retain_then, target-insert_then, target-delete_then}

-- the three parts make the normal operation of their list
pub three_parts : (a b c : Part) (none one two all : Change) → none ≡ nothing → one ≡ then none (part_then a nothing) → two ≡ then one (part_then b nothing) → all ≡ then two (part_then c nothing)
    → all ≡ norm (a ∷ b ∷ c ∷ [])
three_parts a b c none one two all e f g h =
    h
    ∙ ap (λ x. then x (part_then c nothing)) (g ∙ ap (λ x. then x (part_then b nothing)) (f ∙ ap (λ x. then x (part_then a nothing)) e))
    ∙ ap (λ x. then x (part_then c nothing)) (sym (norm-append (a ∷ []) (b ∷ [])))
    ∙ sym (norm-append (a ∷ b ∷ []) (c ∷ []))

-- base and target of the first part, which retains
pub sizes_retained : (k : ℕ) (none one : Change) → none ≡ nothing → one ≡ then none (retain_then k nothing) → (base one ≡ k) × (target one ≡ k)
sizes_retained k none one e f =
    let is : one ≡ retain_then k nothing = f ∙ ap (λ x. then x (retain_then k nothing)) e in (
      ap base is ∙ omega (arith, base-retain_then k nothing),
      ap target is ∙ omega (arith, target-retain_then k nothing),
    )

-- with a deletion behind it
pub sizes_deleted : (k : ℕ) (one two : Change) → two ≡ then one (delete_then k nothing) → (base two ≡ base one + k) × (target two ≡ target one)
sizes_deleted k one two e = (
  ap base e ∙ omega (arith, base-then one (delete_then k nothing), base-delete_then k nothing),
  ap target e ∙ omega (arith, target-then one (delete_then k nothing), target-delete_then k nothing),
)

-- with a text behind it
pub sizes_inserted : (t : List ℕ) (one two : Change) → two ≡ then one (insert_then t nothing) → (base two ≡ base one) × (target two ≡ target one + length t)
sizes_inserted t one two e = (
  ap base e ∙ omega (arith, base-then one (insert_then t nothing)),
  ap target e ∙ omega (arith, target-then one (insert_then t nothing), target-insert_then t nothing),
)
