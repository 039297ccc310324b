use Rattle.std.proofs.Common.{rules}
use Rattle.troop_hall.proofs.Entries.{rest_of, length-entries}
use Rattle.troop_hall.proofs.known.entries_from.Goals as goal

pub returns-clause-entries : goal.returns-clause-entries
returns-clause-entries c = search (rules, rest_of, length-entries)
