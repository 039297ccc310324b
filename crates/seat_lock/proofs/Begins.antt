-- Lists that begin with others.
use Rattle.std.proofs.Common.{◌≡◌, ◌≤◌, List, [], ◌++◌, length, length-append, sym, ap, ◌∙◌, arith, append_assoc}
use Rattle.std.proofs.lemmas.List.{append-nil}
use Rattle.seat_lock.specs.Lists.{Begins}

module _ {A : Type 0} where
  -- a list begins with itself
  pub begins_same : (xs ys : List A) → xs ≡ ys → Begins xs ys
  begins_same xs ys e = ([], append-nil xs ∙ e)

  -- so does a list that goes on
  pub begins_more : (xs ys zs ws : List A) → Begins xs ys → ys ++ zs ≡ ws → Begins xs ws
  begins_more xs ys zs ws p e = (p.0 ++ zs, sym (append_assoc xs p.0 zs) ∙ (ap (λ l. l ++ zs) p.1 ∙ e))

  -- one after the other
  pub begins_then : (xs ys zs : List A) → Begins xs ys → Begins ys zs → Begins xs zs
  begins_then xs ys zs p q = begins_more xs ys q.0 zs p q.1

  -- a list is no longer than one that begins with it
  pub begins_length : (xs ys : List A) → Begins xs ys → length xs ≤ length ys
  begins_length xs ys p = let sum = length-append xs p.0 in let all : length (xs ++ p.0) ≡ length ys = ap (λ (l : List A). length l) p.1 in omega (arith, sum, all)
