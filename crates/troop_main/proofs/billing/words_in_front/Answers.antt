use Rattle.std.proofs.Common.{string_bytes}
use Rattle.troop_main.specs.Words.{is_dashes}
use Rattle.troop_main.proofs.ProgramOf.{in_front_of, all_in_front}
use Rattle.troop_main.proofs.billing.words_in_front.Goals as goal

pub returns-in-Some : goal.returns-in-Some
returns-in-Some c = in_front_of is_dashes string_bytes c.args.words.now c.in-Some.at c.in-Some.ensures

pub returns-in-None : goal.returns-in-None
returns-in-None c = all_in_front is_dashes string_bytes c.args.words.now c.in-None.ensures
