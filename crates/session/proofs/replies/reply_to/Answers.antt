use Rattle.std.proofs.Common.{rules, ◌≡◌, ℕ, false, if◌then◌else◌, Option, Some, None, ap, ◌∙◌}
use Rattle.troop_entry.specs.declared.call.Call.{Call}
use Rattle.troop_entry.specs.declared.call.Request.{Request}
use Rattle.troop_entry.specs.declared.call.Request.TheVariants as request
use Rattle.troop_entry.specs.Kinds.{is_join}
use Rattle.session.specs.Replies.{call_asked}
use Rattle.session.proofs.replies.reply_to.Goals as goal

-- a request for a call other than a join asks for that call
asks : (o : Option Request) (num : ℕ) (c : Call) → o ≡ Some (request.Call num c) → is_join c ≡ false → call_asked o ≡ Some (num, c)
asks o num c is plain = ap call_asked is ∙ ap (λ b. if b then None else Some (num, c)) plain

pub returns-in-Value-Call-clause-reply : goal.returns-in-Value-Call-clause-reply
returns-in-Value-Call-clause-reply g c =
    let plain : is_join c.in-Value-Call.call ≡ false = search rules in
    ((c.in-Value-Call.num, c.in-Value-Call.call), asks _ c.in-Value-Call.num c.in-Value-Call.call (c.in-Value-Call.ensures ∙ ap Some c.in-Value-Call.field-0-is) plain, c.in_ok-reply-in-Value-Call.ensures.ok)
