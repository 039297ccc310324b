-- The test of equality of operations decides it.
use Rattle.std.proofs.Common.{◌≡◌, ℕ, Bool, true, false, ◌&&◌, List, refl, ap}
use Rattle.std.specs.Bool.{Decides}
use Rattle.std.specs.Cmp.Lexicographic.{pointwise}
use Rattle.std.proofs.lemmas.Bool.Decides.{Decides-eqb}
use Rattle.std.proofs.lemmas.Slice.Eq.{slice_eq-Decides}
use Rattle.ot_text.specs.Change.{Change, Fate, Gone, Kept}
use Rattle.ot_text.specs.Same.{same_text, same_fate, same_op}

-- the test of texts decides whether they are equal
pub text_decides : (a b : List ℕ) → Decides (same_text a b) (a ≡ b)
text_decides a b = slice_eq-Decides Decides-eqb a b (same_text a b) refl

fate_decides : (a b : Fate) → Decides (same_fate a b) (a ≡ b)
fate_decides Gone Gone = (λ _. refl, λ _. refl)
fate_decides Gone (Kept u) = (λ no. cc, λ e. cc)
fate_decides (Kept t) Gone = (λ no. cc, λ e. cc)
fate_decides (Kept t) (Kept u) = (λ yes. ap Kept ((text_decides t u).0 yes), λ e. (text_decides t u).1 cc)

-- both tests, of the two parts of what a constructor makes
pub both : {A B C : Type 0} (p q : Bool) (a a' : A) (b b' : B) (f : A → B → C) → Decides p (a ≡ a') → Decides q (b ≡ b')
    → (f a b ≡ f a' b' → (a ≡ a') × (b ≡ b')) → Decides (p && q) (f a b ≡ f a' b')
both true true a a' b b' f d e inj = (λ _. rw (d.0 refl, e.0 refl) refl, λ _. refl)
both true false a a' b b' f d e inj = (λ no. cc, λ is. e.1 (inj is).1)
both false q a a' b b' f d e inj = (λ no. cc, λ is. d.1 (inj is).0)

-- the test of operations decides whether they are equal
pub op_decides : (a b : Change) → Decides (same_op a b) (a ≡ b)
op_decides a b =
    both (same_text a.start b.start) (pointwise same_fate a.places b.places) a.start b.start a.places b.places (λ (s : List ℕ) (p : List Fate). record { start = s; places = p })
    (text_decides a.start b.start) (slice_eq-Decides fate_decides a.places b.places (pointwise same_fate a.places b.places) refl)
    (λ is. (ap (λ (c : Change). c.start) is, ap (λ (c : Change). c.places) is))
