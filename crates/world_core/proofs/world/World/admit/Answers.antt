use Rattle.std.proofs.Common.{◌≡◌, false, None, [], ◌∷◌, ◌++◌, sym, ap, ◌∙◌, subst}
use Rattle.std.specs.Prelude.{◌==◌, ◌+◌}
use Rattle.log_model.specs.Answers.{most_joins}
use Rattle.log_model.specs.Log.{join_count}
use Rattle.world_core.specs.Moves.{StartsAt}
use Rattle.world_core.specs.Values.{WorldValue}
use Rattle.world_core.proofs.IsKeptPerformer.{kept_new}
use Rattle.world_core.proofs.IsWorld.{starts_acts, world_joined}
use Rattle.world_core.proofs.world.World.admit.Goals as goal

pub invariant_of-self-2 : goal.invariant_of-self-2
invariant_of-self-2 c =
    let room : (join_count c.self.inside.desk == most_joins) ≡ false = subst (λ (w : WorldValue). (join_count w.log == most_joins) ≡ false) (sym c.self.view_is) c.requires.room in
    let starts : StartsAt c.self.inside.desk c.args.performer.stage.staged = subst (λ (w : WorldValue). StartsAt w.log c.args.performer.stage.staged) (sym c.self.view_is) c.requires.starts in
    let number : c.args.performer.who ≡ join_count c.self.inside.desk + 1 = subst (λ (w : WorldValue). c.args.performer.who ≡ join_count w.log + 1) (sym c.self.view_is) c.requires.number in
    let begun = starts_acts c.self.inside.desk c.args.performer.stage.staged starts in
    world_joined c.self.inside.desk c.serve.new.self c.self.inside.performers.items c.push_reserved.new.self.items c.self.inside.last_rows.items c.push_reserved-2.new.self.items
    c.in_ok-try_clone.field-0 c.args.lang c.args.performer c.self.invariant room starts
    (kept_new c.requires.new.0 c.args.lang c.requires.new.1 c.args.performer (number ∙ sym begun.2) begun.0 c.requires.new.2)
    c.in_ok-serve.ensures.row
    (c.push_reserved.ensures.items ∙ ap (λ ps. ps ++ c.args.performer ∷ []) c.reserve.ensures.items)
    (c.push_reserved-2.ensures.items ∙ ap (λ l. l ++ None ∷ []) c.reserve-2.ensures.items)
