use Rattle.std.proofs.Common.{refl}
use Rattle.activities.specs.Commands.{base_line, blank_line}
use Rattle.activities.proofs.RanCommands.{answered_base, answered_blank}
use Rattle.activities.proofs.asking.print_refused.Goals as goal

pub returns-in-BadBase-clause-answered : goal.returns-in-BadBase-clause-answered
returns-in-BadBase-clause-answered g c =
    answered_base _ c.args.refusal c.in-BadBase.want c.in-BadBase.got _ _ _ refl c.in-BadBase.is
    (c.write_line.ensures.wrote (base_line c.in-BadBase.want c.in-BadBase.got) c.print_base.ensures)

pub returns-in-Blank-clause-answered : goal.returns-in-Blank-clause-answered
returns-in-Blank-clause-answered g c =
    answered_blank _ c.args.refusal c.in-Blank.place _ _ _ refl c.in-Blank.is
    (c.write_line-in-Blank.ensures.wrote (blank_line c.in-Blank.place) c.print_blank.ensures)
