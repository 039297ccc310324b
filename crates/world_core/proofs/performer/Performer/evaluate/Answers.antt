use Rattle.std.proofs.Common.{refl}
use Rattle.stage_state.specs.declared.act.Act.TheVariants as act
use Rattle.stage_state.specs.Replies.{eval_refusal}
use Rattle.stage_state.specs.Staged.{machine}
use Rattle.world_core.proofs.AsksFor.{asked, eval_causes}
use Rattle.world_core.proofs.performer.Performer.evaluate.Goals as goal

pub returns : goal.returns
returns c =
    asked (act.Eval c.args.place) (eval_refusal (machine c.args.self.now.stage.staged) c.args.place) c.ask_eval.result c.told_of_ask.result c.args.self.now
    (record { who = c.args.self.now.who; name = c.args.self.now.name; stage = c.ask_eval.new.self; waiting = c.args.self.now.waiting; driver = c.args.self.now.driver })
    refl refl c.ask_eval.ensures.ok c.ask_eval.ensures.placed
    (eval_causes (machine c.args.self.now.stage.staged) c.args.place c.ask_eval.result c.ask_eval.ensures.cause)
    c.ask_eval.ensures.err c.told_of_ask.ensures refl refl refl refl c.requires
