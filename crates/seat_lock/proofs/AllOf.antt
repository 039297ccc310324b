-- What holds of each element.
use Rattle.std.proofs.Common.{◌≡◌, ◌<◌, List, [], ◌∷◌, ◌++◌, length, get_or, sym, refl, ap, subst, arith}
use Rattle.seat_lock.specs.Lists.{AllOf}
use Rattle.std.specs.List.{remove}

module _ {A : Type 0} where
  -- what follows from it holds of each too
  pub all_map : (P Q : A → Type 0) → ((x : A) → P x → Q x) → (xs : List A) → AllOf P xs → AllOf Q xs
  all_map P Q f [] p = tt
  all_map P Q f (x ∷ xs) p = (f x p.0, all_map P Q f xs p.1)

  -- of two lists, one behind the other
  pub all_append : (P : A → Type 0) → (xs ys : List A) → AllOf P xs → AllOf P ys → AllOf P (xs ++ ys)
  all_append P [] ys p q = q
  all_append P (x ∷ xs) ys p q = (p.0, all_append P xs ys p.1 q)

  -- a list is its first element and the others
  pub front_is : (xs : List A) (x : A) → 0 < length xs → x ≡ get_or xs 0 x → x ∷ remove xs 0 ≡ xs
  front_is [] x l e = absurd (omega arith)
  front_is (y ∷ ys) x l e = ap (λ z. z ∷ ys) e

  -- of the first element and of the others
  pub all_front : (P : A → Type 0) (xs : List A) (x : A) → 0 < length xs → x ≡ get_or xs 0 x → AllOf P xs → P x × AllOf P (remove xs 0)
  all_front P xs x l e all = subst (AllOf P) (sym (front_is xs x l e)) all

-- a list of no length is empty
pub nil_of : {A : Type 0} → (xs : List A) → length xs ≡ 0 → xs ≡ []
nil_of [] e = refl
nil_of (x ∷ xs) e = absurd (omega arith)
