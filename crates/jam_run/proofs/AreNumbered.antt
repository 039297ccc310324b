-- Performers in order.
use Rattle.std.proofs.Common.{◌≡◌, ⊎_elim, ℕ, zero, suc, ◌<◌, ◌≤◌, List, [], ◌∷◌, ◌++◌, length, length-append, get_or, refl, sym, ap, ◌∙◌, arith}
use Rattle.std.proofs.Math.Nat.{eq-or-lt_of_le}
use Rattle.jam_run.specs.declared.player.Player.{Player}
use Rattle.jam_run.specs.Playing.{AreNumbered}

module _ {A : Type 0} where
  in_front : (xs : List A) (x d : A) (i : ℕ) → i < length xs → get_or (xs ++ x ∷ []) i d ≡ get_or xs i d
  in_front [] x d i below = absurd (omega arith)
  in_front (y ∷ xs) x d zero below = refl
  in_front (y ∷ xs) x d (suc i) below = in_front xs x d i (omega arith)

  at_last : (xs : List A) (x d : A) → get_or (xs ++ x ∷ []) (length xs) d ≡ x
  at_last [] x d = refl
  at_last (y ∷ xs) x d = at_last xs x d

-- one performer more
pub numbered_more : (ps : List Player) (p : Player) → AreNumbered ps → p.who ≡ suc (length ps) → AreNumbered (ps ++ p ∷ [])
numbered_more ps p h who = λ i d below.
    let within : i ≤ length ps = omega (arith, below, length-append ps (p ∷ [])) in
    ⊎_elim
    (λ (same : i ≡ length ps). ap (λ k. (get_or (ps ++ p ∷ []) k d).who) same ∙ ap (λ (q : Player). q.who) (at_last ps p d) ∙ who ∙ ap suc (sym same))
    (λ (lower : i < length ps). ap (λ (q : Player). q.who) (in_front ps p d i lower) ∙ h i d lower)
    (eq-or-lt_of_le within)
