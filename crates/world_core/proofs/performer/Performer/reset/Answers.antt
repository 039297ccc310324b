use Rattle.std.proofs.Common.{refl}
use Rattle.stage_state.specs.declared.act.Act.TheVariants as act
use Rattle.stage_state.specs.Replies.{reset_refusal}
use Rattle.stage_state.specs.Staged.{machine}
use Rattle.world_core.proofs.AsksFor.{asked, reset_causes}
use Rattle.world_core.proofs.performer.Performer.reset.Goals as goal

pub returns : goal.returns
returns c =
    asked (act.Reset c.args.text.now) (reset_refusal (machine c.args.self.now.stage.staged)) c.ask_reset.result c.told_of_ask.result c.args.self.now
    (record { who = c.args.self.now.who; name = c.args.self.now.name; stage = c.ask_reset.new.self; waiting = c.args.self.now.waiting; driver = c.args.self.now.driver })
    refl refl c.ask_reset.ensures.ok c.ask_reset.ensures.placed
    (reset_causes (machine c.args.self.now.stage.staged) c.args.text.now c.ask_reset.result c.ask_reset.ensures.cause)
    c.ask_reset.ensures.err c.told_of_ask.ensures refl refl refl refl c.requires
