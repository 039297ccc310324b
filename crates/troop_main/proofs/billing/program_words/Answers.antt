use Rattle.std.proofs.Common.{string_bytes}
use Rattle.troop_main.specs.Words.{is_dashes}
use Rattle.troop_main.proofs.ProgramOf.{behind_place, none_behind}
use Rattle.troop_main.proofs.billing.program_words.Goals as goal

pub returns-in-Some : goal.returns-in-Some
returns-in-Some c = behind_place is_dashes string_bytes c.args.words.now c.in-Some.at c.in-Some.ensures

pub returns-in-None : goal.returns-in-None
returns-in-None c = none_behind is_dashes string_bytes c.args.words.now c.in-None.ensures
