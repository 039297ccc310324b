-- The operation that keeps all and puts nothing in.
use Rattle.std.proofs.Common.{◌≡◌, ◌≢◌, ◌↔◌, inl, inr, ℕ, zero, suc, Bool, IsTrue, nat_eq, List, [], ◌∷◌, length, refl, sym, ap, subst, ◌∙◌, arith}
use Rattle.std.proofs.lemmas.Bool.{eqb-true, eq-eqb}
use Rattle.ot_text.specs.declared.part.Part.TheVariants.{Retain}
use Rattle.ot_text.specs.Change.{Fate, Gone, Kept, Change, base, target, inserted, fates_target, fates_inserted, nothing, retain_then}
use Rattle.ot_text.specs.Parts.{norm, parts_of, IsNoneOrOneRetain}
use Rattle.ot_text.proofs.PartsOf.{norm-parts_of}
use Rattle.ot_text.proofs.Image.{same_change}
use Rattle.ot_text.proofs.IsNormal.{parts_of-norm}
use Rattle.ot_text.proofs.Then.{fates_target-le, base-retain_then, target-retain_then, inserted-retain_then}

nil_of_zero : (t : List ℕ) → length t ≡ 0 → t ≡ []
nil_of_zero [] e = refl
nil_of_zero (c ∷ t) e = absurd (omega arith)

all_kept : (fates : List Fate) → fates_inserted fates ≡ 0 → fates_target fates ≡ length fates
    → record { start = []; places = fates } ≡ retain_then (length fates) nothing
all_kept [] i e = refl
all_kept (Gone ∷ fates) i e = absurd (omega (arith, fates_target-le fates))
all_kept (Kept t ∷ fates) i e =
    let none : t ≡ [] = nil_of_zero t (omega arith) in
    ap (λ s. record { start = []; places = Kept s ∷ fates }) none
    ∙ ap (retain_then 1) (all_kept fates (omega arith) (omega arith))

identity_of_counts : (c : Change) → inserted c ≡ 0 → base c ≡ target c → c ≡ retain_then (base c) nothing
identity_of_counts c i e =
    let none : c.start ≡ [] = nil_of_zero c.start (omega arith) in
    same_change c (record { start = []; places = c.places }) none refl
    ∙ all_kept c.places (omega arith) (omega (arith, ap length none))

counts_of_identity : (c : Change) → c ≡ retain_then (base c) nothing → (inserted c ≡ 0) × (base c ≡ target c)
counts_of_identity c e =
    (ap inserted e ∙ inserted-retain_then (base c) nothing, omega (arith, ap target e, target-retain_then (base c) nothing))

parts_of-retain_then : (n : ℕ) → IsNoneOrOneRetain (parts_of (retain_then n nothing))
parts_of-retain_then zero = inl refl
parts_of-retain_then (suc n) = inr (suc n, parts_of-norm (Retain (suc n) ∷ []) (omega arith, tt, tt))

parts_of_identity : (c : Change) → c ≡ retain_then (base c) nothing → IsNoneOrOneRetain (parts_of c)
parts_of_identity c e = let P : Change → Type 0 = λ d. IsNoneOrOneRetain (parts_of d) in subst P (sym e) (parts_of-retain_then (base c))

retained : (c : Change) (k : ℕ) → c ≡ retain_then k nothing → c ≡ retain_then (base c) nothing
retained c k e =
    let n : base c ≡ k = omega (arith, ap base e, base-retain_then k nothing) in
    e ∙ ap (λ m. retain_then m nothing) (sym n)

identity_of_parts : (c : Change) → IsNoneOrOneRetain (parts_of c) → c ≡ retain_then (base c) nothing
identity_of_parts c are = elim are as (λ x. c ≡ retain_then (base c) nothing) [
  | inl none ↦ retained c 0 (sym (norm-parts_of c) ∙ ap norm none)
  | inr one ↦ retained c one.0 (sym (norm-parts_of c) ∙ ap norm one.1)
]

-- the identity by its value is the identity by its parts
pub parts_from_value : (c : Change) (answer : Bool) → (IsTrue answer ↔ (c ≡ retain_then (base c) nothing))
    → (IsTrue answer ↔ IsNoneOrOneRetain (parts_of c))
parts_from_value c answer value = (λ passes. parts_of_identity c (value.0 passes), λ are. value.1 (identity_of_parts c are))

-- an operation that puts nothing in is the identity where base and target are equal
pub identity_by_lengths : (c : Change) (b t i : ℕ) → b ≡ base c → t ≡ target c → i ≡ inserted c → i ≡ 0
    → (IsTrue (nat_eq b t) ↔ (c ≡ retain_then (base c) nothing))
identity_by_lengths c b t i is_base is_target is_inserted none = (
  λ passes. identity_of_counts c (sym is_inserted ∙ none) (sym is_base ∙ eqb-true b t passes ∙ is_target),
  λ same. eq-eqb b t (is_base ∙ (counts_of_identity c same).1 ∙ sym is_target),
)

-- an operation that puts something in is not the identity
pub no_identity : (c : Change) (i : ℕ) → i ≡ inserted c → i ≢ 0
    → (IsTrue (nat_eq i 0) ↔ (c ≡ retain_then (base c) nothing))
no_identity c i is_inserted some = (
  λ passes. absurd (some (eqb-true i 0 passes)),
  λ same. absurd (some (is_inserted ∙ (counts_of_identity c same).0)),
)
