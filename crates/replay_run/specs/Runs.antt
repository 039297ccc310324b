-- The table of `replay`: what each outcome says of the input and of the output, where the input tells its bytes.
use Rattle.std.specs.Prelude.{◌≡◌, ◌≢◌, ◌<◌, ◌≤◌, ℕ, ◌+◌, ◌^◌, List, [], ◌++◌, length, Some, None, IfSome, All}
use Rattle.wire_lines.specs.Lines.{lines, whole_lines}
use Rattle.wire_lines.specs.Reader.{IsLong}
use Rattle.world_core.specs.Sound.{IsSoundWorld}
use Rattle.replay_run.specs.declared.outcome.Outcome.{Outcome}
use Rattle.replay_run.specs.declared.outcome.Outcome.TheVariants as outcome
use Rattle.replay_run.specs.Script.{most_line, world, shown, output, stop_of, before_stop, all_written, outcome_of, script_size, IsPlayable}
use Rattle.replay_run.specs.Outcome.{code_of, error_line}
use Rattle.replay_run.specs.Ports.{Port, IsCalm, IsFaulted, Gave, Took, TookPrefix, Reported}

-- how many bytes the lines of an input may have, each with a line feed
abbrev pub most_input : ℕ
most_input = 1073741824

-- a line stopped the run, and what the lines in front of it print was written
abbrev pub StopsBy : ℕ → Outcome → Port → Port → Type 0
StopsBy limit stop input out =
    IsCalm input × IsCalm out × IfSome input.before (λ bytes. (stop_of limit (lines bytes) ≡ Some stop) × Took out (shown (before_stop limit (lines bytes))))

-- Memory was wanting behind these lines of the input: they were played, none of them stops a run, and what they print was written, and no more. What was taken
-- of the input behind them doesn't begin with a line over the limit of a line, but where there are as many lines as numbers.
pub record RanShort (limit : ℕ) (bytes : List ℕ) (input out : Port) : Type 0 where
  pub played : List (List ℕ)
  pub others : List (List ℕ)
  pub splits : lines bytes ≡ played ++ others
  pub passes : stop_of limit played ≡ None
  pub wrote : Took out (shown played)
  pub given : List ℕ
  pub held : List ℕ
  pub gave : Gave input given
  pub given_are : lines given ≡ played ++ lines held
  pub short : length played + 1 < 2 ^ 64 → IsLong most_line held → ⊥

-- The table: what each outcome says of the input and of the output. A script that was played whole leaves a sound world.
abbrev pub Says : ℕ → Outcome → Port → Port → Type 0
Says limit outcome.Done input out =
    IsCalm input × IsCalm out × IfSome input.before (λ bytes. (stop_of limit (lines bytes) ≡ None) × (input.after ≡ Some []) × Took out (output (lines bytes)) × IsSoundWorld (world (lines bytes)))
Says limit outcome.Usage input out = ⊥
Says limit outcome.Memory input out =
    IsCalm input × IsCalm out × IfSome input.before (λ bytes. TookPrefix out (all_written limit (lines bytes)) × RanShort limit bytes input out)
Says limit outcome.ReadFault input out =
    IsFaulted input × IsCalm out × IfSome input.before (λ _. (given : List ℕ) × Gave input given × Took out (shown (before_stop limit (whole_lines given))))
Says limit outcome.WriteFault input out = IsCalm input × IsFaulted out × IfSome input.before (λ bytes. TookPrefix out (all_written limit (lines bytes)))
Says limit outcome.NetFault input out = ⊥
Says limit (outcome.BadLine n) input out = StopsBy limit (outcome.BadLine n) input out
Says limit outcome.TooMuch input out = StopsBy limit outcome.TooMuch input out

-- a run of `replay`, whose lines may have so many bytes, that ended with this status
pub record Replays (limit code : ℕ) (input out err : Port) : Type 0 where
  pub outcome : Outcome
  pub says : Says limit outcome input out
  pub code_is : code ≡ code_of outcome
  pub reported : Reported err (error_line outcome)

-- but for want of memory, where no fault was counted the status is the one by which the bytes of the input stop, or 0 where they don't; its line is
-- reported, and all that a run without faults writes was written
abbrev pub IsExact : ℕ → ℕ → Port → Port → Port → Type 0
IsExact limit code input out err = (bytes : List ℕ) → input.before ≡ Some bytes → (IsFaulted input → ⊥) → (IsFaulted out → ⊥) → code ≢ 3
    → (code ≡ code_of (outcome_of (stop_of limit (lines bytes)))) × Reported err (error_line (outcome_of (stop_of limit (lines bytes)))) × Took out (all_written limit (lines bytes))

-- The headline: with status 0 the input was read to its end, what its lines print was written, and then all of the world after them, and that world is sound.
abbrev pub IsHeadline : ℕ → Port → Port → Type 0
IsHeadline code input out = code ≡ 0 → IfSome input.before (λ bytes. (input.after ≡ Some []) × Took out (output (lines bytes)) × IsSoundWorld (world (lines bytes)))

-- of an input whose lines are all in the grammar and within both limits, where no fault was counted: the whole output was written with status 0, but for want of memory
abbrev pub IsComplete : ℕ → ℕ → Port → Port → Type 0
IsComplete limit code input out = (bytes : List ℕ) → input.before ≡ Some bytes → All IsPlayable (lines bytes) → script_size (lines bytes) ≤ limit → (IsFaulted input → ⊥) → (IsFaulted out → ⊥) → code ≢ 3
    → (code ≡ 0) × Took out (output (lines bytes))
