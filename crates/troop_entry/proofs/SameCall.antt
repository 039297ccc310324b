-- The test of equality of calls decides it.
use Rattle.std.proofs.Common.{◌≡◌, refl}
use Rattle.std.specs.Bool.{Decides}
use Rattle.std.specs.Prelude.{◌==◌}
use Rattle.std.proofs.lemmas.Bool.Decides.{Decides-eqb}
use Rattle.ot_text.specs.Same.{same_text, same_op}
use Rattle.ot_text.proofs.SameOp.{text_decides, both, op_decides}
use Rattle.troop_entry.specs.declared.call.Call.{Call}
use Rattle.troop_entry.specs.declared.call.Call.TheVariants as call
use Rattle.troop_entry.specs.declared.call.Lang.{Lang}
use Rattle.troop_entry.specs.declared.call.Lang.TheVariants as lang
use Rattle.troop_entry.specs.Same.{same_lang, same_call}

lang_decides : (a b : Lang) → Decides (same_lang a b) (a ≡ b)
lang_decides lang.Lines lang.Lines = (λ _. refl, λ _. refl)
lang_decides lang.Lines lang.Ghci = (λ no. cc, λ e. cc)
lang_decides lang.Ghci lang.Lines = (λ no. cc, λ e. cc)
lang_decides lang.Ghci lang.Ghci = (λ _. refl, λ _. refl)

-- the test of calls decides whether they are equal
pub call_decides : (a b : Call) → Decides (same_call a b) (a ≡ b)
call_decides (call.Join name lang) (call.Join other of) =
    both (same_text name other) (same_lang lang of) name other lang of call.Join (text_decides name other) (lang_decides lang of) (λ is. (cc, cc))
call_decides (call.Join name lang) call.Leave = (λ no. cc, λ e. cc)
call_decides (call.Join name lang) (call.Edit of other) = (λ no. cc, λ e. cc)
call_decides (call.Join name lang) (call.Eval of other) = (λ no. cc, λ e. cc)
call_decides (call.Join name lang) (call.Reset of other) = (λ no. cc, λ e. cc)
call_decides call.Leave (call.Join other of) = (λ no. cc, λ e. cc)
call_decides call.Leave call.Leave = (λ _. refl, λ _. refl)
call_decides call.Leave (call.Edit of other) = (λ no. cc, λ e. cc)
call_decides call.Leave (call.Eval of other) = (λ no. cc, λ e. cc)
call_decides call.Leave (call.Reset of other) = (λ no. cc, λ e. cc)
call_decides (call.Edit seen op) (call.Join other of) = (λ no. cc, λ e. cc)
call_decides (call.Edit seen op) call.Leave = (λ no. cc, λ e. cc)
call_decides (call.Edit seen op) (call.Edit of other) =
    both (seen == of) (same_op op other) seen of op other call.Edit (Decides-eqb seen of) (op_decides op other) (λ is. (cc, cc))
call_decides (call.Edit seen op) (call.Eval of other) = (λ no. cc, λ e. cc)
call_decides (call.Edit seen op) (call.Reset of other) = (λ no. cc, λ e. cc)
call_decides (call.Eval seen text) (call.Join other of) = (λ no. cc, λ e. cc)
call_decides (call.Eval seen text) call.Leave = (λ no. cc, λ e. cc)
call_decides (call.Eval seen text) (call.Edit of other) = (λ no. cc, λ e. cc)
call_decides (call.Eval seen text) (call.Eval of other) =
    both (seen == of) (same_text text other) seen of text other call.Eval (Decides-eqb seen of) (text_decides text other) (λ is. (cc, cc))
call_decides (call.Eval seen text) (call.Reset of other) = (λ no. cc, λ e. cc)
call_decides (call.Reset seen text) (call.Join other of) = (λ no. cc, λ e. cc)
call_decides (call.Reset seen text) call.Leave = (λ no. cc, λ e. cc)
call_decides (call.Reset seen text) (call.Edit of other) = (λ no. cc, λ e. cc)
call_decides (call.Reset seen text) (call.Eval of other) = (λ no. cc, λ e. cc)
call_decides (call.Reset seen text) (call.Reset of other) =
    both (seen == of) (same_text text other) seen of text other call.Reset (Decides-eqb seen of) (text_decides text other) (λ is. (cc, cc))
