use Rattle.std.proofs.Common.{◌≡◌, ◌-◌, ◌≤◌, length, drop}
use Rattle.lang_wrap.specs.Wraps.{behind_blanks}
use Rattle.lang_wrap.proofs.line.behind_blanks.Given as goal

-- what was passed over so far is blank
abbrev pub invariant-loop-at : goal.invariant-loop-at
invariant-loop-at l = record {
  within : l.at ≤ length l.line;
  passed : behind_blanks (drop l.at l.line) ≡ behind_blanks l.line;
}

abbrev pub decreases-loop-at : goal.decreases-loop-at
decreases-loop-at l = length l.line - l.at
