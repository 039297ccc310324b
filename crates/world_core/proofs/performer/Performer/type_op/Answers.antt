use Rattle.std.proofs.Common.{refl}
use Rattle.stage_state.specs.declared.act.Act.TheVariants as act
use Rattle.stage_state.specs.Replies.{type_refusal}
use Rattle.stage_state.specs.Staged.{machine}
use Rattle.world_core.proofs.AsksFor.{asked, type_causes}
use Rattle.world_core.proofs.performer.Performer.type_op.Goals as goal

pub returns : goal.returns
returns c =
    asked (act.Typed c.args.op.now) (type_refusal (machine c.args.self.now.stage.staged) c.args.op.now) c.type_op.result c.told_of_ask.result c.args.self.now
    (record { who = c.args.self.now.who; name = c.args.self.now.name; stage = c.type_op.new.self; waiting = c.args.self.now.waiting; driver = c.args.self.now.driver })
    refl refl c.type_op.ensures.ok c.type_op.ensures.placed
    (type_causes (machine c.args.self.now.stage.staged) c.args.op.now c.type_op.result c.type_op.ensures.cause)
    c.type_op.ensures.err c.told_of_ask.ensures refl refl refl refl c.requires
