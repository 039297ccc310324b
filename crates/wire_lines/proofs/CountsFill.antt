-- What is counted where a source has ended.
use Rattle.std.proofs.Common.{◌≡◌, ℕ, List, Some, sym, ◌∙◌}
use Rattle.std.specs.Prelude.{Option}
use Rattle.wire_lines.specs.declared.reader.State.TheVariants as state
use Rattle.wire_lines.specs.declared.reader.Line.{Line}
use Rattle.wire_lines.specs.declared.reader.Line.TheVariants as line
use Rattle.wire_lines.specs.Reader.{Reader}
use Rattle.wire_lines.specs.Looks.{Finishes, CountsFill}

-- at the end no fault is counted
pub counts_end : (result : Line) (old new : Reader) (remaining : Option (List ℕ)) (before now : ℕ) → Finishes result old new remaining → (new.state ≡ state.Ended) → now ≡ before → CountsFill (Some result) before now
counts_end (line.Text text) old new remaining before now h e same = same
counts_end line.End old new remaining before now h e same = same
counts_end line.Long old new remaining before now h e same = absurd h
counts_end line.Fault old new remaining before now h e same = let never : state.Fault ≡ state.Ended = sym h.0 ∙ e in absurd cc
counts_end line.Memory old new remaining before now h e same = absurd h
