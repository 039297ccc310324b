-- The lines that a session reads and writes.
use Rattle.std.specs.Prelude.{ℕ, List, Option}
use Rattle.ot_text.specs.Marked.{Marked}
use Rattle.troop_entry.specs.declared.call.Request.{Request}
use Rattle.troop_entry.specs.declared.entry.Entry.{Entry}
use Rattle.wire_json.specs.declared.replies.WireReply.{WireReply}
use Rattle.wire_json.specs.Requests.{request_of_line}
use Rattle.wire_print.specs.Printed.{printed_line, reply_data, entry_data, snapshot_data}

-- the request of a line, if it is one
unfoldable pub request_of : List ℕ → Option Request
request_of line = request_of_line line

-- a reply as it is written
unfoldable pub reply_line : WireReply → List ℕ
reply_line r = printed_line (reply_data r)

-- an entry as it is written
unfoldable pub entry_line : Entry → List ℕ
entry_line e = printed_line (entry_data e)

-- a snapshot as it is written: how many entries made the document, and the document
unfoldable pub snapshot_line : ℕ → Marked → List ℕ
snapshot_line at m = printed_line (snapshot_data at m)
