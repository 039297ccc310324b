-- The printed lines: serde_json's compact text, with the keys of each object in byte order, and a line feed.
use Rattle.std.specs.Prelude.{ℕ, pos, neg_ℤ, Bool, true, List, [], ◌∷◌, ◌++◌, map, nat_le, ◌==◌, codes, encode_utf8_all, if◌then◌else◌}
use Rattle.std.specs.List.{list_any}
use Rattle.hex.specs.Hex.{encode_lower}
use Rattle.serde_json.specs.Data.{Data, boolean, number, unsigned, string, array, object, item, no_items, Members, member, no_members}
use Rattle.serde_json.specs.Find.{of_integer}
use Rattle.serde_json.specs.View.{items_of}
use Rattle.serde_json.specs.Written.{compact_text}
use Rattle.ot_text.specs.Change.{Change}
use Rattle.ot_text.specs.Marked.{Marked, text_of, marks_of, runs_of}
use Rattle.ot_text.specs.Parts.{parts_of}
use Rattle.ot_text.specs.declared.part.Part.{Part}
use Rattle.ot_text.specs.declared.part.Part.TheVariants.{Retain, Insert, Delete}
use Rattle.author_marks.specs.declared.run.Run.{Run}
use Rattle.author_marks.specs.Runs.{run_of}
use Rattle.troop_entry.specs.declared.call.Lang.{Lang}
use Rattle.troop_entry.specs.declared.call.Lang.TheVariants as lang
use Rattle.troop_entry.specs.declared.call.Call.TheVariants as call
use Rattle.troop_entry.specs.declared.call.Request.{Request}
use Rattle.troop_entry.specs.declared.call.Request.TheVariants as request
use Rattle.troop_entry.specs.declared.entry.Deed.{Deed}
use Rattle.troop_entry.specs.declared.entry.Deed.TheVariants as deed
use Rattle.troop_entry.specs.declared.entry.Entry.{Entry}
use Rattle.troop_entry.specs.declared.note.Note.{Note}
use Rattle.troop_entry.specs.declared.note.Note.TheVariants as note
use Rattle.troop_entry.specs.declared.reply.Reply.TheVariants as desk
use Rattle.wire_json.specs.declared.replies.WireReply.{WireReply}
use Rattle.wire_json.specs.declared.replies.WireReply.TheVariants as reply
use Rattle.wire_print.specs.declared.summaries.DrillSummary.{DrillSummary}
use Rattle.wire_print.specs.declared.summaries.JamSummary.{JamSummary}

-- a value's compact text
unfoldable pub printed_text : Data → List ℕ
printed_text d = compact_text d

-- a value's line: its compact text, and a line feed
abbrev pub printed_line : Data → List ℕ
printed_line d = printed_text d ++ 10 ∷ []

-- whether there is a line feed among the bytes
abbrev pub has_line_feed : List ℕ → Bool
has_line_feed bytes = list_any (λ b. b == 10) bytes

-- ---- Kinds.

-- a count
abbrev pub count_data : ℕ → Data
count_data n = number (unsigned n)

-- a word of the formats
abbrev pub word_data : List ℕ → Data
word_data bytes = string bytes

-- a text in UTF-8
abbrev pub text_data : List ℕ → Data
text_data text = string (encode_utf8_all text)

-- the word of a language
abbrev pub lang_word : Lang → List ℕ
lang_word lang.Lines = codes "lines"
lang_word lang.Ghci = codes "ghci"

-- a language
abbrev pub lang_data : Lang → Data
lang_data language = word_data (lang_word language)

-- a retain is a positive number, an insert a string, and a delete a negative number
abbrev pub part_data : Part → Data
part_data (Retain k) = number (unsigned k)
part_data (Insert text) = text_data text
part_data (Delete k) = number (of_integer (neg_ℤ (pos k)))

-- an operation, by its normal list of parts
abbrev pub op_data : Change → Data
op_data op = array (items_of (map part_data (parts_of op)))

-- a run as a pair: the performer's number, and how many characters
abbrev pub run_data : Run → Data
run_data run = array (item (count_data run.who) (item (count_data run.count) no_items))

-- the runs of equal marks of a document, in order
abbrev pub runs_data : Marked → Data
runs_data m = array (items_of (map run_data (map run_of (runs_of (marks_of m)))))

-- ---- Requests.

-- the number of a request, from 1, in front of its other members; 0 is no number
abbrev pub with_num : ℕ → Members → Members
with_num num ms = if nat_le 1 num then member (codes "num") (count_data num) ms else ms

-- a request; a join has no number
abbrev pub request_data : Request → Data
request_data (request.Call num (call.Join name language)) = object (member (codes "call") (word_data (codes "join")) (member (codes "lang") (lang_data language) (member (codes "name") (text_data name) no_members)))
request_data (request.Call num call.Leave) = object (member (codes "call") (word_data (codes "leave")) (with_num num no_members))
request_data (request.Call num (call.Edit seen op)) = object (member (codes "call") (word_data (codes "edit")) (with_num num (member (codes "op") (op_data op) (member (codes "seen") (count_data seen) no_members))))
request_data (request.Call num (call.Eval seen text)) = object (member (codes "call") (word_data (codes "eval")) (with_num num (member (codes "seen") (count_data seen) (member (codes "text") (text_data text) no_members))))
request_data (request.Call num (call.Reset seen text)) = object (member (codes "call") (word_data (codes "reset")) (with_num num (member (codes "seen") (count_data seen) (member (codes "text") (text_data text) no_members))))
request_data (request.Stay name language) = object (member (codes "call") (word_data (codes "stay")) (member (codes "lang") (lang_data language) (member (codes "name") (text_data name) no_members)))
request_data (request.Back who) = object (member (codes "call") (word_data (codes "back")) (member (codes "who") (count_data who) no_members))
request_data (request.Down start who) = object (member (codes "call") (word_data (codes "down")) (member (codes "from") (count_data start) (member (codes "who") (count_data who) no_members)))
request_data (request.Snap who) = object (member (codes "call") (word_data (codes "snap")) (member (codes "who") (count_data who) no_members))

-- ---- Replies.

-- a reply
abbrev pub reply_data : WireReply → Data
reply_data (reply.Desk (desk.Placed at who)) = object (member (codes "at") (count_data at) (member (codes "who") (count_data who) no_members))
reply_data (reply.Desk (desk.Kept at who)) = object (member (codes "at") (count_data at) (member (codes "kept") (boolean true) (member (codes "who") (count_data who) no_members)))
reply_data (reply.Desk (desk.Clash num at)) = object (member (codes "at") (count_data at) (member (codes "no") (word_data (codes "clash")) (member (codes "num") (count_data num) no_members)))
reply_data (reply.Desk (desk.NotMember who)) = object (member (codes "no") (word_data (codes "member")) (member (codes "who") (count_data who) no_members))
reply_data (reply.Desk (desk.Ahead seen n)) = object (member (codes "length") (count_data n) (member (codes "no") (word_data (codes "ahead")) (member (codes "seen") (count_data seen) no_members)))
reply_data (reply.Desk (desk.BadBase want got)) = object (member (codes "got") (count_data got) (member (codes "no") (word_data (codes "base")) (member (codes "want") (count_data want) no_members)))
reply_data (reply.Desk (desk.Crowded joins)) = object (member (codes "joins") (count_data joins) (member (codes "no") (word_data (codes "crowded")) no_members))
reply_data (reply.Bad line) = object (member (codes "line") (count_data line) (member (codes "no") (word_data (codes "bad")) no_members))
reply_data (reply.Long line) = object (member (codes "line") (count_data line) (member (codes "no") (word_data (codes "long")) no_members))
reply_data (reply.Unfit line) = object (member (codes "line") (count_data line) (member (codes "no") (word_data (codes "unfit")) no_members))

-- ---- Entries and snapshots.

-- the entry at this position of this deed by this performer, who had seen so many rows
abbrev pub deed_data : Deed → ℕ → ℕ → ℕ → Data
deed_data (deed.Join name language) at seen who = object (member (codes "at") (count_data at) (member (codes "deed") (word_data (codes "join")) (member (codes "lang") (lang_data language) (member (codes "name") (text_data name) (member (codes "seen") (count_data seen) (member (codes "who") (count_data who) no_members))))))
deed_data deed.Leave at seen who = object (member (codes "at") (count_data at) (member (codes "deed") (word_data (codes "leave")) (member (codes "seen") (count_data seen) (member (codes "who") (count_data who) no_members))))
deed_data (deed.Edit op) at seen who = object (member (codes "at") (count_data at) (member (codes "deed") (word_data (codes "edit")) (member (codes "op") (op_data op) (member (codes "seen") (count_data seen) (member (codes "who") (count_data who) no_members)))))
deed_data (deed.Eval text) at seen who = object (member (codes "at") (count_data at) (member (codes "deed") (word_data (codes "eval")) (member (codes "seen") (count_data seen) (member (codes "text") (text_data text) (member (codes "who") (count_data who) no_members)))))
deed_data (deed.Reset op) at seen who = object (member (codes "at") (count_data at) (member (codes "deed") (word_data (codes "reset")) (member (codes "op") (op_data op) (member (codes "seen") (count_data seen) (member (codes "who") (count_data who) no_members)))))

-- an entry
abbrev pub entry_data : Entry → Data
entry_data e = deed_data e.deed e.at e.seen e.who

-- the document behind so many entries
abbrev pub snapshot_data : ℕ → Marked → Data
snapshot_data at m = object (member (codes "at") (count_data at) (member (codes "marks") (runs_data m) (member (codes "text") (text_data (text_of m)) no_members)))

-- ---- What a script prints.

-- the server's line: how many entries the log has, and its document
abbrev pub server_data : ℕ → Marked → Data
server_data entries m = object (member (codes "entries") (count_data entries) (member (codes "marks") (runs_data m) (member (codes "text") (text_data (text_of m)) no_members)))

-- a performer's line: how many operations it awaits and holds back, its name, how many entries it took, and what it holds
abbrev pub performer_data : List ℕ → ℕ → ℕ → ℕ → Marked → Data
performer_data name who awaits taken m = object (member (codes "awaits") (count_data awaits) (member (codes "marks") (runs_data m) (member (codes "name") (text_data name) (member (codes "taken") (count_data taken) (member (codes "text") (text_data (text_of m)) (member (codes "who") (count_data who) no_members))))))

-- no block stands round this place
abbrev pub blank_data : ℕ → Data
blank_data place = object (member (codes "no") (word_data (codes "blank")) (member (codes "place") (count_data place) no_members))

-- a life's bytes in lower-case hexadecimal
abbrev pub life_data : List ℕ → Data
life_data life = string (encode_lower life)

-- the lives of a performer's interpreter
abbrev pub lives_data : ℕ → List (List ℕ) → Data
lives_data who lives = object (member (codes "lives") (array (items_of (map life_data lives))) (member (codes "who") (count_data who) no_members))

-- a note of a journal
abbrev pub note_data : Note → Data
note_data (note.Born life place) = array (item (word_data (codes "born")) (item (count_data life) (item (count_data place) no_items)))
note_data (note.BootCut life bytes) = array (item (word_data (codes "bootcut")) (item (count_data life) (item (count_data bytes) no_items)))
note_data (note.Cut life place bytes) = array (item (word_data (codes "cut")) (item (count_data life) (item (count_data place) (item (count_data bytes) no_items))))
note_data (note.Skipped place) = array (item (word_data (codes "skipped")) (item (count_data place) no_items))
note_data (note.Unclosed life) = array (item (word_data (codes "unclosed")) (item (count_data life) no_items))

-- the journal of a performer's interpreter
abbrev pub journal_data : ℕ → List Note → Data
journal_data who notes = object (member (codes "journal") (array (items_of (map note_data notes))) (member (codes "who") (count_data who) no_members))

-- ---- Summaries.

-- the summary of generated steps
abbrev pub drill_data : DrillSummary → Data
drill_data s = object (member (codes "blocks") (count_data s.blocks) (member (codes "entries") (count_data s.entries) (member (codes "equal") (boolean s.equal) (member (codes "lives") (count_data s.lives) (member (codes "notes") (count_data s.notes) (member (codes "seed") (count_data s.seed) (member (codes "steps") (count_data s.steps) (member (codes "unfit") (count_data s.unfit) no_members))))))))

-- the summary of performers on threads
abbrev pub jam_data : JamSummary → Data
jam_data s = object (member (codes "calls") (count_data s.calls) (member (codes "entries") (count_data s.entries) (member (codes "equal") (boolean s.equal) (member (codes "performers") (count_data s.performers) no_members))))
