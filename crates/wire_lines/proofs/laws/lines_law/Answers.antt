use Rattle.wire_lines.proofs.LinesArePieces.{lines_are_pieces, whole_are_pieces}
use Rattle.wire_lines.proofs.laws.lines_law.Goals as goal

pub returns : goal.returns
returns c = record { lines = lines_are_pieces; whole = whole_are_pieces }
