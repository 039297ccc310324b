-- Whether two calls are equal, as a test.
use Rattle.std.specs.Prelude.{Bool, true, false, ◌&&◌, ◌==◌}
use Rattle.ot_text.specs.Same.{same_text, same_op}
use Rattle.troop_entry.specs.declared.call.Call.{Call}
use Rattle.troop_entry.specs.declared.call.Call.TheVariants as call
use Rattle.troop_entry.specs.declared.call.Lang.{Lang}
use Rattle.troop_entry.specs.declared.call.Lang.TheVariants as lang

-- whether the languages are equal
abbrev pub same_lang : Lang → Lang → Bool
same_lang lang.Lines lang.Lines = true
same_lang lang.Lines lang.Ghci = false
same_lang lang.Ghci lang.Lines = false
same_lang lang.Ghci lang.Ghci = true

-- whether the calls are equal, what they have seen included
abbrev pub same_call : Call → Call → Bool
same_call (call.Join name lang) (call.Join other of) = same_text name other && same_lang lang of
same_call call.Leave call.Leave = true
same_call (call.Edit seen op) (call.Edit of other) = (seen == of) && same_op op other
same_call (call.Eval seen text) (call.Eval of other) = (seen == of) && same_text text other
same_call (call.Reset seen text) (call.Reset of other) = (seen == of) && same_text text other
same_call a b = false
