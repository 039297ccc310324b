use Rattle.draws.proofs.EditOf.{base_is, shorter, longer, place_within, place_inside, goes, comes}
use Rattle.draws.proofs.laws.edit_law.Goals as goal

pub returns-clause-base : goal.returns-clause-base
returns-clause-base c = base_is

pub returns-clause-shorter : goal.returns-clause-shorter
returns-clause-shorter c = λ n number away. (shorter n number away).1

pub returns-clause-longer : goal.returns-clause-longer
returns-clause-longer c = λ n number comes. (longer n number comes).1

pub returns-clause-place : goal.returns-clause-place
returns-clause-place c = place_within

pub returns-clause-place_away : goal.returns-clause-place_away
returns-clause-place_away c = place_inside

pub returns-clause-goes : goal.returns-clause-goes
returns-clause-goes c = goes

pub returns-clause-comes : goal.returns-clause-comes
returns-clause-comes c = comes
