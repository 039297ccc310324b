-- No printed value has a float in it.
use Rattle.std.proofs.Common.{◌≡◌, ℕ, zero, suc, List, [], ◌∷◌, map, false, refl, ap, ◌∙◌}
use Rattle.serde_json.specs.View.{items_of}
use Rattle.serde_json.specs.Data.{Members}
use Rattle.serde_json.specs.Written.{has_float, items_have_float, members_have_float}
use Rattle.ot_text.specs.Marked.{Marked, marks_of, runs_of}
use Rattle.ot_text.specs.Parts.{parts_of}
use Rattle.ot_text.specs.declared.part.Part.{Part}
use Rattle.ot_text.specs.declared.part.Part.TheVariants.{Retain, Insert, Delete}
use Rattle.author_marks.specs.declared.run.Run.{Run}
use Rattle.author_marks.specs.Runs.{run_of}
use Rattle.troop_entry.specs.declared.call.Call.TheVariants as call
use Rattle.troop_entry.specs.declared.call.Request.{Request}
use Rattle.troop_entry.specs.declared.call.Request.TheVariants as request
use Rattle.troop_entry.specs.declared.entry.Deed.{Deed}
use Rattle.troop_entry.specs.declared.entry.Deed.TheVariants as deed
use Rattle.troop_entry.specs.declared.entry.Entry.{Entry}
use Rattle.troop_entry.specs.declared.note.Note.{Note}
use Rattle.troop_entry.specs.declared.note.Note.TheVariants as note
use Rattle.troop_entry.specs.declared.reply.Reply.TheVariants as desk
use Rattle.wire_json.specs.declared.replies.WireReply.{WireReply}
use Rattle.wire_json.specs.declared.replies.WireReply.TheVariants as reply
use Rattle.wire_print.specs.Printed.{part_data, run_data, with_num, request_data, reply_data, deed_data, entry_data, snapshot_data, server_data, performer_data, life_data, lives_data, note_data, journal_data}
use Rattle.wire_print.proofs.WithNum.{with_num_some}

parts_have_none : (parts : List Part) → items_have_float (items_of (map part_data parts)) ≡ false
parts_have_none [] = refl
parts_have_none (Retain k ∷ parts) = parts_have_none parts
parts_have_none (Insert text ∷ parts) = parts_have_none parts
parts_have_none (Delete zero ∷ parts) = parts_have_none parts
parts_have_none (Delete (suc k) ∷ parts) = parts_have_none parts

runs_have_none : (runs : List Run) → items_have_float (items_of (map run_data runs)) ≡ false
runs_have_none [] = refl
runs_have_none (run ∷ runs) = runs_have_none runs

-- a number in front of members without floats is none either
num_has_none : (num : ℕ) (ms : Members) → members_have_float ms ≡ false → members_have_float (with_num num ms) ≡ false
num_has_none zero ms none = none
num_has_none (suc num) ms none = ap members_have_float (with_num_some num ms) ∙ none

-- a request has no float
pub request_has_none : (r : Request) → has_float (request_data r) ≡ false
request_has_none (request.Call num (call.Join name language)) = refl
request_has_none (request.Call num call.Leave) = num_has_none num _ refl
request_has_none (request.Call num (call.Edit seen op)) = num_has_none num _ (rw (parts_have_none (parts_of op)))
request_has_none (request.Call num (call.Eval seen text)) = num_has_none num _ refl
request_has_none (request.Call num (call.Reset seen text)) = num_has_none num _ refl
request_has_none (request.Stay name language) = refl
request_has_none (request.Back who) = refl
request_has_none (request.Down start who) = refl
request_has_none (request.Snap who) = refl

-- a reply has no float
pub reply_has_none : (r : WireReply) → has_float (reply_data r) ≡ false
reply_has_none (reply.Desk (desk.Placed at who)) = refl
reply_has_none (reply.Desk (desk.Kept at who)) = refl
reply_has_none (reply.Desk (desk.Clash num at)) = refl
reply_has_none (reply.Desk (desk.NotMember who)) = refl
reply_has_none (reply.Desk (desk.Ahead seen n)) = refl
reply_has_none (reply.Desk (desk.BadBase want got)) = refl
reply_has_none (reply.Desk (desk.Crowded joins)) = refl
reply_has_none (reply.Bad line) = refl
reply_has_none (reply.Long line) = refl
reply_has_none (reply.Unfit line) = refl

deed_has_none : (what : Deed) (at seen who : ℕ) → has_float (deed_data what at seen who) ≡ false
deed_has_none (deed.Join name language) at seen who = refl
deed_has_none deed.Leave at seen who = refl
deed_has_none (deed.Edit op) at seen who = rw (parts_have_none (parts_of op))
deed_has_none (deed.Eval text) at seen who = refl
deed_has_none (deed.Reset op) at seen who = rw (parts_have_none (parts_of op))

-- an entry has no float
pub entry_has_none : (e : Entry) → has_float (entry_data e) ≡ false
entry_has_none e = deed_has_none e.deed e.at e.seen e.who

-- the server's line has no float
pub server_has_none : (entries : ℕ) (m : Marked) → has_float (server_data entries m) ≡ false
server_has_none entries m = rw (runs_have_none (map run_of (runs_of (marks_of m))))

-- a snapshot has no float
pub snapshot_has_none : (at : ℕ) (m : Marked) → has_float (snapshot_data at m) ≡ false
snapshot_has_none at m = rw (runs_have_none (map run_of (runs_of (marks_of m))))

-- a performer's line has no float
pub performer_has_none : (name : List ℕ) (who awaits taken : ℕ) (m : Marked) → has_float (performer_data name who awaits taken m) ≡ false
performer_has_none name who awaits taken m = rw (runs_have_none (map run_of (runs_of (marks_of m))))

lives_have_none : (lives : List (List ℕ)) → items_have_float (items_of (map life_data lives)) ≡ false
lives_have_none [] = refl
lives_have_none (life ∷ lives) = lives_have_none lives

-- the line of lives has no float
pub all_lives_have_none : (who : ℕ) (lives : List (List ℕ)) → has_float (lives_data who lives) ≡ false
all_lives_have_none who lives = rw (lives_have_none lives)

notes_have_none : (notes : List Note) → items_have_float (items_of (map note_data notes)) ≡ false
notes_have_none [] = refl
notes_have_none (note.Born life place ∷ notes) = notes_have_none notes
notes_have_none (note.BootCut life bytes ∷ notes) = notes_have_none notes
notes_have_none (note.Cut life place bytes ∷ notes) = notes_have_none notes
notes_have_none (note.Skipped place ∷ notes) = notes_have_none notes
notes_have_none (note.Unclosed life ∷ notes) = notes_have_none notes

-- the line of a journal has no float
pub journal_has_none : (who : ℕ) (notes : List Note) → has_float (journal_data who notes) ≡ false
journal_has_none who notes = rw (notes_have_none notes)
