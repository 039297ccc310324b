use Rattle.wire_print.proofs.RequestOfLine.{request_back}
use Rattle.wire_print.proofs.ReplyOfLine.{reply_back}
use Rattle.wire_print.proofs.EntryOfLine.{entry_back}
use Rattle.wire_print.proofs.SnapshotOfLine.{snapshot_back}
use Rattle.wire_print.proofs.laws.read_back_law.Goals as goal

pub returns : goal.returns
returns c = record { request = request_back; reply = reply_back; entry = entry_back; snapshot = snapshot_back }
