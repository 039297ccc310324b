use Rattle.std.proofs.Common.{◌≡◌, ◌+◌, ◌-◌, ◌≤◌, length, drop}
use Rattle.std.specs.Prelude.{option_map}
use Rattle.lang_wrap.specs.Commands.{lines_in, closing_end}
use Rattle.lang_wrap.proofs.command.closing_end.Given as goal

-- no line that was passed over closes
abbrev pub invariant-loop-count : goal.invariant-loop-count
invariant-loop-count l = record {
  within : l.at ≤ length l.bytes;
  rest : option_map (λ n. l.at + n) (closing_end (lines_in (drop l.at l.bytes))) ≡ option_map (λ n. l.start + n) (closing_end (lines_in (drop l.start l.bytes)));
}

abbrev pub decreases-loop-count : goal.decreases-loop-count
decreases-loop-count l = length l.bytes - l.at
