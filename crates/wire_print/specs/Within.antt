-- The limits within which a printed line is read back.
use Rattle.std.specs.Prelude.{◌≡◌, ℕ, ◌≤◌, List, length, true, All}
use Rattle.std.specs.Str.{all_scalars}
use Rattle.ot_text.specs.Change.{Change, base}
use Rattle.ot_text.specs.Marked.{Marked, text_of, marks_of, runs_of}
use Rattle.ot_text.specs.Parts.{parts_of}
use Rattle.ot_text.specs.declared.part.Part.{Part}
use Rattle.ot_text.specs.declared.part.Part.TheVariants.{Retain, Insert, Delete}
use Rattle.troop_entry.specs.declared.call.Call.TheVariants as call
use Rattle.troop_entry.specs.declared.call.Request.{Request}
use Rattle.troop_entry.specs.declared.call.Request.TheVariants as request
use Rattle.troop_entry.specs.declared.entry.Deed.{Deed}
use Rattle.troop_entry.specs.declared.entry.Deed.TheVariants as deed
use Rattle.troop_entry.specs.declared.entry.Entry.{Entry}
use Rattle.troop_entry.specs.declared.reply.Reply.TheVariants as desk
use Rattle.wire_json.specs.declared.replies.WireReply.{WireReply}
use Rattle.wire_json.specs.declared.replies.WireReply.TheVariants as reply
use Rattle.wire_json.specs.Values.{most_count, most_who}

-- a count that can be read: at most 2^53 - 1
abbrev pub IsCount : ℕ → Type 0
IsCount n = n ≤ most_count

-- a performer's number, as the program has them: at most 2^32 - 1
abbrev pub IsWho : ℕ → Type 0
IsWho n = n ≤ most_who

-- Unicode scalar values, as the program's texts have them
abbrev pub IsSpelled : List ℕ → Type 0
IsSpelled text = all_scalars text ≡ true

-- a name has 1 to 32 characters
abbrev pub NameIsWithin : List ℕ → Type 0
NameIsWithin name = (1 ≤ length name) × (length name ≤ 32)

-- the text of an insert is spelled
abbrev pub PartIsSpelled : Part → Type 0
PartIsSpelled (Retain k) = Unit {0}
PartIsSpelled (Insert text) = IsSpelled text
PartIsSpelled (Delete k) = Unit {0}

-- the texts that an operation puts in are spelled
abbrev pub OpIsSpelled : Change → Type 0
OpIsSpelled op = All PartIsSpelled (parts_of op)

-- the retains and deletes of an operation sum to at most 2^53 - 1
abbrev pub OpIsWithin : Change → Type 0
OpIsWithin op = base op ≤ most_count

-- ---- What holds of all values that the program has.

-- the texts of a request are spelled, and its performer's number is one
abbrev pub RequestIsSpelled : Request → Type 0
RequestIsSpelled (request.Call num (call.Join name language)) = IsSpelled name
RequestIsSpelled (request.Call num call.Leave) = Unit {0}
RequestIsSpelled (request.Call num (call.Edit seen op)) = OpIsSpelled op
RequestIsSpelled (request.Call num (call.Eval seen text)) = IsSpelled text
RequestIsSpelled (request.Call num (call.Reset seen text)) = IsSpelled text
RequestIsSpelled (request.Stay name language) = IsSpelled name
RequestIsSpelled (request.Back who) = IsWho who
RequestIsSpelled (request.Down start who) = IsWho who
RequestIsSpelled (request.Snap who) = IsWho who

-- the performer's number of a reply is one
abbrev pub ReplyIsSpelled : WireReply → Type 0
ReplyIsSpelled (reply.Desk (desk.Placed at who)) = IsWho who
ReplyIsSpelled (reply.Desk (desk.Kept at who)) = IsWho who
ReplyIsSpelled (reply.Desk (desk.Clash num at)) = Unit {0}
ReplyIsSpelled (reply.Desk (desk.NotMember who)) = IsWho who
ReplyIsSpelled (reply.Desk (desk.Ahead seen n)) = Unit {0}
ReplyIsSpelled (reply.Desk (desk.BadBase want got)) = Unit {0}
ReplyIsSpelled (reply.Desk (desk.Crowded joins)) = Unit {0}
ReplyIsSpelled (reply.Bad line) = Unit {0}
ReplyIsSpelled (reply.Long line) = Unit {0}
ReplyIsSpelled (reply.Unfit line) = Unit {0}

-- the texts of a deed are spelled
abbrev pub DeedIsSpelled : Deed → Type 0
DeedIsSpelled (deed.Join name language) = IsSpelled name
DeedIsSpelled deed.Leave = Unit {0}
DeedIsSpelled (deed.Edit op) = OpIsSpelled op
DeedIsSpelled (deed.Eval text) = IsSpelled text
DeedIsSpelled (deed.Reset op) = OpIsSpelled op

-- the text of a document is spelled, and its marks are performers' numbers
pub record DocIsSpelled (m : Marked) : Type 0 where
  pub text : IsSpelled (text_of m)
  pub marks : All (λ run. IsWho run.0) (runs_of (marks_of m))

-- ---- What doesn't hold of all of them: the limits of the wire.

-- the counts of a request and the sum of its operation's retains and deletes are at most 2^53 - 1, its name has 1 to 32
-- characters, and a join has no number
abbrev pub RequestIsWithin : Request → Type 0
RequestIsWithin (request.Call num (call.Join name language)) = (num ≡ 0) × NameIsWithin name
RequestIsWithin (request.Call num call.Leave) = IsCount num
RequestIsWithin (request.Call num (call.Edit seen op)) = IsCount num × IsCount seen × OpIsWithin op
RequestIsWithin (request.Call num (call.Eval seen text)) = IsCount num × IsCount seen
RequestIsWithin (request.Call num (call.Reset seen text)) = IsCount num × IsCount seen
RequestIsWithin (request.Stay name language) = NameIsWithin name
RequestIsWithin (request.Back who) = Unit {0}
RequestIsWithin (request.Down start who) = IsCount start
RequestIsWithin (request.Snap who) = Unit {0}

-- the counts of a reply are at most 2^53 - 1, and the performer whose call was placed is at least 1
abbrev pub ReplyIsWithin : WireReply → Type 0
ReplyIsWithin (reply.Desk (desk.Placed at who)) = IsCount at × (1 ≤ who)
ReplyIsWithin (reply.Desk (desk.Kept at who)) = IsCount at
ReplyIsWithin (reply.Desk (desk.Clash num at)) = IsCount num × IsCount at
ReplyIsWithin (reply.Desk (desk.NotMember who)) = Unit {0}
ReplyIsWithin (reply.Desk (desk.Ahead seen n)) = IsCount seen × IsCount n
ReplyIsWithin (reply.Desk (desk.BadBase want got)) = IsCount want × IsCount got
ReplyIsWithin (reply.Desk (desk.Crowded joins)) = IsCount joins
ReplyIsWithin (reply.Bad line) = IsCount line
ReplyIsWithin (reply.Long line) = IsCount line
ReplyIsWithin (reply.Unfit line) = IsCount line

-- a deed's name has 1 to 32 characters, and its operation's retains and deletes sum to at most 2^53 - 1
abbrev pub DeedIsWithin : Deed → Type 0
DeedIsWithin (deed.Join name language) = NameIsWithin name
DeedIsWithin deed.Leave = Unit {0}
DeedIsWithin (deed.Edit op) = OpIsWithin op
DeedIsWithin (deed.Eval text) = Unit {0}
DeedIsWithin (deed.Reset op) = OpIsWithin op

-- the counts of an entry are at most 2^53 - 1, and its performer is at least 1
pub record EntryIsWithin (e : Entry) : Type 0 where
  pub at : IsCount e.at
  pub seen : IsCount e.seen
  pub one : 1 ≤ e.who
  pub deed : DeedIsWithin e.deed

-- the counts of a snapshot and of its runs are at most 2^53 - 1, and each number of its marks is at least 1
pub record SnapshotIsWithin (at : ℕ) (m : Marked) : Type 0 where
  pub at_most : IsCount at
  pub runs : All (λ run. (1 ≤ run.0) × IsCount run.1) (runs_of (marks_of m))
