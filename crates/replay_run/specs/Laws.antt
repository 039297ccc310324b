-- Laws: which line is the first that stops a script, and that the statuses of `replay` are exact.
use Rattle.std.specs.Prelude.{◌≡◌, ◌≢◌, ℕ, ◌+◌, ◌<◌, ◌≤◌, List, [], ◌∷◌, ◌++◌, length, All, Some, None, ◌⊎◌}
use Rattle.replay_run.specs.declared.meaning.Meaning.TheVariants as meaning
use Rattle.replay_run.specs.declared.outcome.Outcome.{Outcome}
use Rattle.replay_run.specs.declared.outcome.Outcome.TheVariants as outcome
use Rattle.replay_run.specs.Script.{most_line, meaning_of, stop_of, before_stop, script_size, IsPlayable}
use Rattle.replay_run.specs.Ports.{Port, IsCalm, IsFaulted}
use Rattle.replay_run.specs.Runs.{Replays, IsExact}

-- the line behind these, the first of which has number k, stops by this, where the lines may have so many bytes
abbrev pub StopsBehind : ℕ → ℕ → List (List ℕ) → List ℕ → Outcome → Type 0
StopsBehind room k before line outcome.Done = ⊥
StopsBehind room k before line outcome.Usage = ⊥
StopsBehind room k before line outcome.Memory = ⊥
StopsBehind room k before line outcome.ReadFault = ⊥
StopsBehind room k before line outcome.WriteFault = ⊥
StopsBehind room k before line outcome.NetFault = ⊥
StopsBehind room k before line (outcome.BadLine n) =
    (n ≡ length before + k) × ((most_line < length line) ⊎ ((length line ≤ most_line) × (script_size (before ++ line ∷ []) ≤ room) × (meaning_of line ≡ meaning.Bad)))
StopsBehind room k before line outcome.TooMuch = (length line ≤ most_line) × (room < script_size (before ++ line ∷ []))

-- a line of the script stops it by this, and no line in front of it stops it
pub record IsFirstStop (limit : ℕ) (script : List (List ℕ)) (stop : Outcome) : Type 0 where
  pub line : List ℕ
  pub behind : List (List ℕ)
  pub splits : script ≡ before_stop limit script ++ line ∷ behind
  pub playable : All IsPlayable (before_stop limit script)
  pub within : script_size (before_stop limit script) ≤ limit
  pub stops : StopsBehind limit 1 (before_stop limit script) line stop

-- no line of the script stops it
pub record IsPlayedWhole (limit : ℕ) (script : List (List ℕ)) : Type 0 where
  pub all : before_stop limit script ≡ script
  pub playable : All IsPlayable script
  pub within : script_size script ≤ limit

-- The line by which a script stops is the first that is over the limit of a line, or with which the lines pass the limit, or that is neither blank nor a step; where it doesn't stop there is none, and where there is none it doesn't stop.
abbrev pub FirstStop : Type 0
FirstStop = (limit : ℕ) (script : List (List ℕ))
    → ((stop : Outcome) → stop_of limit script ≡ Some stop → IsFirstStop limit script stop) × (stop_of limit script ≡ None → IsPlayedWhole limit script)
    × (All IsPlayable script → script_size script ≤ limit → stop_of limit script ≡ None)

-- But for want of memory, where no fault was counted the status is exact.
abbrev pub ReplaysExactly : Type 0
ReplaysExactly = (limit code : ℕ) (input out err : Port) → Replays limit code input out err → IsExact limit code input out err

-- 4 comes only with a counted fault of the input, 5 only with one of the output, and with any other status no fault was counted of either.
abbrev pub FaultsExactly : Type 0
FaultsExactly = (limit code : ℕ) (input out err : Port) → Replays limit code input out err
    → (code ≡ 4 → IsFaulted input × IsCalm out) × (code ≡ 5 → IsCalm input × IsFaulted out)
    × (code ≢ 4 → code ≢ 5 → IsCalm input × IsCalm out)
