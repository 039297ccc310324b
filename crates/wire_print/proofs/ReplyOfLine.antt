-- A printed reply is read back.
use Rattle.std.proofs.Common.{◌≡◌, ◌≤◌, refl, ap, ◌∙◌, arith}
use Rattle.std.specs.Prelude.{Some, option_and_then}
use Rattle.json.proofs.Printed.Utf8.{IsUtf8-are_ascii}
use Rattle.serde_json.specs.Data.{depth}
use Rattle.serde_json.specs.Read.{max_depth}
use Rattle.troop_entry.specs.declared.reply.Reply.TheVariants as desk
use Rattle.wire_json.specs.declared.replies.WireReply.{WireReply}
use Rattle.wire_json.specs.declared.replies.WireReply.TheVariants as reply
use Rattle.wire_json.specs.Replies.{reply_of_data, reply_of_line}
use Rattle.wire_print.specs.Printed.{printed_text, reply_data}
use Rattle.wire_print.specs.Within.{ReplyIsSpelled, ReplyIsWithin}
use Rattle.wire_print.proofs.IsSound.{IsSound}
use Rattle.wire_print.proofs.PrintedText.{value_of_printed, count_back, who_back, performer_back}

reply_data_back : (r : WireReply) → ReplyIsSpelled r → ReplyIsWithin r → reply_of_data (reply_data r) ≡ Some r
reply_data_back (reply.Desk (desk.Placed at who)) s h = rw (count_back at h.0, performer_back who h.1 s)
reply_data_back (reply.Desk (desk.Kept at who)) s h = rw (count_back at h, who_back who s)
reply_data_back (reply.Desk (desk.Clash num at)) s h = rw (count_back num h.0, count_back at h.1)
reply_data_back (reply.Desk (desk.NotMember who)) s h = rw (who_back who s)
reply_data_back (reply.Desk (desk.Ahead seen n)) s h = rw (count_back seen h.0, count_back n h.1)
reply_data_back (reply.Desk (desk.BadBase want got)) s h = rw (count_back want h.0, count_back got h.1)
reply_data_back (reply.Desk (desk.Crowded joins)) s h = rw (count_back joins h)
reply_data_back (reply.Bad line) s h = rw (count_back line h)
reply_data_back (reply.Long line) s h = rw (count_back line h)
reply_data_back (reply.Unfit line) s h = rw (count_back line h)

reply_sound : (r : WireReply) → ReplyIsSpelled r → ReplyIsWithin r → IsSound (reply_data r)
reply_sound (reply.Desk (desk.Placed at who)) s h = (refl, (IsUtf8-are_ascii _ refl, omega (arith, h.0), (IsUtf8-are_ascii _ refl, omega (arith, s), tt)))
reply_sound (reply.Desk (desk.Kept at who)) s h = (refl, (IsUtf8-are_ascii _ refl, omega (arith, h), (IsUtf8-are_ascii _ refl, tt, (IsUtf8-are_ascii _ refl, omega (arith, s), tt))))
reply_sound (reply.Desk (desk.Clash num at)) s h = (refl, (IsUtf8-are_ascii _ refl, omega (arith, h.1), (IsUtf8-are_ascii _ refl, IsUtf8-are_ascii _ refl, (IsUtf8-are_ascii _ refl, omega (arith, h.0), tt))))
reply_sound (reply.Desk (desk.NotMember who)) s h = (refl, (IsUtf8-are_ascii _ refl, IsUtf8-are_ascii _ refl, (IsUtf8-are_ascii _ refl, omega (arith, s), tt)))
reply_sound (reply.Desk (desk.Ahead seen n)) s h = (refl, (IsUtf8-are_ascii _ refl, omega (arith, h.1), (IsUtf8-are_ascii _ refl, IsUtf8-are_ascii _ refl, (IsUtf8-are_ascii _ refl, omega (arith, h.0), tt))))
reply_sound (reply.Desk (desk.BadBase want got)) s h = (refl, (IsUtf8-are_ascii _ refl, omega (arith, h.1), (IsUtf8-are_ascii _ refl, IsUtf8-are_ascii _ refl, (IsUtf8-are_ascii _ refl, omega (arith, h.0), tt))))
reply_sound (reply.Desk (desk.Crowded joins)) s h = (refl, (IsUtf8-are_ascii _ refl, omega (arith, h), (IsUtf8-are_ascii _ refl, IsUtf8-are_ascii _ refl, tt)))
reply_sound (reply.Bad line) s h = (refl, (IsUtf8-are_ascii _ refl, omega (arith, h), (IsUtf8-are_ascii _ refl, IsUtf8-are_ascii _ refl, tt)))
reply_sound (reply.Long line) s h = (refl, (IsUtf8-are_ascii _ refl, omega (arith, h), (IsUtf8-are_ascii _ refl, IsUtf8-are_ascii _ refl, tt)))
reply_sound (reply.Unfit line) s h = (refl, (IsUtf8-are_ascii _ refl, omega (arith, h), (IsUtf8-are_ascii _ refl, IsUtf8-are_ascii _ refl, tt)))

reply_shallow : (r : WireReply) → depth (reply_data r) ≤ max_depth
reply_shallow (reply.Desk (desk.Placed at who)) = omega arith
reply_shallow (reply.Desk (desk.Kept at who)) = omega arith
reply_shallow (reply.Desk (desk.Clash num at)) = omega arith
reply_shallow (reply.Desk (desk.NotMember who)) = omega arith
reply_shallow (reply.Desk (desk.Ahead seen n)) = omega arith
reply_shallow (reply.Desk (desk.BadBase want got)) = omega arith
reply_shallow (reply.Desk (desk.Crowded joins)) = omega arith
reply_shallow (reply.Bad line) = omega arith
reply_shallow (reply.Long line) = omega arith
reply_shallow (reply.Unfit line) = omega arith

-- a printed reply is read back
pub reply_back : (r : WireReply) → ReplyIsSpelled r → ReplyIsWithin r → reply_of_line (printed_text (reply_data r)) ≡ Some r
reply_back r s h = ap (λ o. option_and_then reply_of_data o) (value_of_printed (reply_data r) (reply_sound r s h) (reply_shallow r)) ∙ reply_data_back r s h
