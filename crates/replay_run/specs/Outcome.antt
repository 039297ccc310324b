-- How a run of the program ends: its status, and its line on the error stream.
use Rattle.std.specs.Prelude.{ℕ, List, [], codes, ◌++◌, decimal}
use Rattle.replay_run.specs.declared.outcome.Outcome.{Outcome}
use Rattle.replay_run.specs.declared.outcome.Outcome.TheVariants as outcome

-- the status of each outcome
abbrev pub code_of : Outcome → ℕ
code_of outcome.Done = 0
code_of outcome.Usage = 2
code_of outcome.Memory = 3
code_of outcome.ReadFault = 4
code_of outcome.WriteFault = 5
code_of outcome.NetFault = 6
code_of (outcome.BadLine n) = 7
code_of outcome.TooMuch = 10

-- the line on the error stream; none where all went well
abbrev pub error_line : Outcome → List ℕ
error_line outcome.Done = []
error_line outcome.Usage = codes "troop: usage\n"
error_line outcome.Memory = codes "troop: out of memory\n"
error_line outcome.ReadFault = codes "troop: read fault\n"
error_line outcome.WriteFault = codes "troop: write fault\n"
error_line outcome.NetFault = codes "troop: net fault\n"
error_line (outcome.BadLine n) = codes "troop: bad line " ++ (decimal n ++ codes "\n")
error_line outcome.TooMuch = codes "troop: too much input\n"
