use Rattle.std.proofs.Common.{◌≡◌, ◌-◌, ◌^◌, [], ◌∷◌, ◌++◌, length, ap, sym, ◌∙◌, subst, Some}
use Rattle.seat_lock.specs.Lists.{AllOf}
use Rattle.seat_lock.proofs.KeepsTurns.{opens}
use Rattle.seat_lock.proofs.hall.Hall.new.Goals as goal

pub new-requires : goal.new-requires
new-requires g c = let same = c.of-about.ensures in let p = c.push.ensures.items in let pushed = rw c.in_default.is at p in let e = c.length-count.ensures in
    let items : c.push.new.self.items ≡ Some c.of-about.result.value ∷ [] = pushed ∙ (ap (λ l. l ++ Some c.args.state ∷ []) c.new-slots.ensures.items ∙ ap (λ z. Some z ∷ []) (sym same)) in
    rw items (opens _ _ _ _ _ _ (e.rows ∙ ap (λ z. length (g.S.Played.rows z)) (sym same)) (subst (λ z. AllOf (λ r. g.S.Played.seat_of r ≡ 2 ^ 64 - 1) (g.S.Played.rows z)) (sym same) c.requires)
    (subst (λ z. g.S.Played.legal (g.S.Played.fixed z) (g.S.Played.rows z)) (sym same) e.legal))
