-- What kind of call it is.
use Rattle.std.specs.Prelude.{Bool, true, false}
use Rattle.troop_entry.specs.declared.call.Call.{Call}
use Rattle.troop_entry.specs.declared.call.Call.TheVariants as call

-- whether the call is a join
abbrev pub is_join : Call → Bool
is_join (call.Join name lang) = true
is_join call.Leave = false
is_join (call.Edit seen op) = false
is_join (call.Eval seen text) = false
is_join (call.Reset seen text) = false

-- whether the call is a leave
abbrev pub is_leave : Call → Bool
is_leave (call.Join name lang) = false
is_leave call.Leave = true
is_leave (call.Edit seen op) = false
is_leave (call.Eval seen text) = false
is_leave (call.Reset seen text) = false
