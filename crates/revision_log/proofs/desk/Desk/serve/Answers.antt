use Rattle.std.proofs.Common.{sym, ◌∙◌}
use Rattle.log_model.proofs.Answer.{refused_answer}
use Rattle.revision_log.proofs.desk.Desk.serve.Goals as goal

pub returns-in-Some-clause-answer : goal.returns-in-Some-clause-answer
returns-in-Some-clause-answer c = sym (refused_answer c.args.self.now c.args.seat c.args.who c.args.num c.args.call.now c.in-Some.refusal (sym c.refusal.ensures ∙ c.in-Some.is)).0

pub returns-in-Some-clause-row : goal.returns-in-Some-clause-row
returns-in-Some-clause-row c = sym (refused_answer c.args.self.now c.args.seat c.args.who c.args.num c.args.call.now c.in-Some.refusal (sym c.refusal.ensures ∙ c.in-Some.is)).1
