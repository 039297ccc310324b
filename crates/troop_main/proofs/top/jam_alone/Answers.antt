use Rattle.troop_main.proofs.top.jam_alone.Goals as goal

pub returns-clause-table : goal.returns-clause-table
returns-clause-table g c = (c.jam-handed.result.1, c.jam-handed.ensures.table)
