-- Which seats workers have that have worked.
use Rattle.std.proofs.Common.{◌≡◌, suc, List, [], ◌∷◌, length, refl, arith}
use Rattle.server_crew.specs.declared.worker.Worker.{Worker}
use Rattle.server_crew.specs.Workers.{HaveWorked, indexes}

module _ {L : Type 0} where
  -- the same seats have the same indexes
  pub indexes_same : (vs ws : List (Worker L)) → length ws ≡ length vs → HaveWorked vs ws → indexes ws ≡ indexes vs
  indexes_same [] [] e same = refl
  indexes_same [] (w ∷ ws) e same = absurd (omega (arith, e))
  indexes_same (v ∷ vs) [] e same = absurd (omega (arith, e))
  indexes_same (v ∷ vs) (w ∷ ws) e same = λ i. (same 0 v (omega arith)).0 i ∷ indexes_same vs ws (omega (arith, e)) (λ k d l. same (suc k) d (omega (arith, l))) i
