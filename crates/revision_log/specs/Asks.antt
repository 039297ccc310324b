-- Asks of a log that threads share.
use Rattle.std.specs.Prelude.{Bool, ◌&&◌, ◌==◌}
use Rattle.troop_entry.specs.Kinds.{is_leave}
use Rattle.revision_log.specs.declared.played.Ask.{Ask}

-- whether the ask takes no memory: a leave without a number
abbrev pub is_free_ask : Ask → Bool
is_free_ask ask = is_leave ask.call && (ask.num == 0)
