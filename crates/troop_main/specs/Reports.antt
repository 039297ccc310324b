-- How a run of `perform` ends: its status, and its line on the error stream.
use Rattle.std.specs.Prelude.{◌≡◌, ◌⊎◌, ℕ, List, [], ◌++◌, codes, decimal, Option, None, Some}
use Rattle.wire_json.specs.declared.replies.WireReply.{WireReply}
use Rattle.wire_print.specs.Printed.{printed_line, reply_data}
use Rattle.activities.specs.declared.errors.Side.{Side}
use Rattle.activities.specs.declared.errors.Side.TheVariants as side
use Rattle.activities.specs.declared.errors.PerformError.{PerformError}
use Rattle.activities.specs.declared.errors.PerformError.TheVariants as error
use Rattle.replay_run.specs.declared.outcome.Outcome.TheVariants as outcome
use Rattle.replay_run.specs.Outcome.{error_line}
use Rattle.replay_run.specs.Ports.{Port, Reported}

-- the status of each error
abbrev pub error_code : PerformError → ℕ
error_code error.ReadFault = 4
error_code error.WriteFault = 5
error_code error.NetFault = 6
error_code (error.BadInput line) = 7
error_code error.TooMuch = 10
error_code (error.Refused reply) = 8
error_code (error.Dropped at) = 8
error_code (error.BadPeer side line what) = 9
error_code (error.LongRequest bytes) = 11
error_code error.Memory = 3

-- how a line begins that tells of a bad peer on this side
abbrev pub bad_peer_on : Side → List ℕ
bad_peer_on side.Up = codes "troop: bad peer, up line "
bad_peer_on side.Down = codes "troop: bad peer, down line "

-- the line of each error, which carries its numbers
abbrev pub line_of_error : PerformError → List ℕ
line_of_error error.ReadFault = error_line outcome.ReadFault
line_of_error error.WriteFault = error_line outcome.WriteFault
line_of_error error.NetFault = error_line outcome.NetFault
line_of_error (error.BadInput line) = error_line (outcome.BadLine line)
line_of_error error.TooMuch = error_line outcome.TooMuch
line_of_error (error.Refused reply) = codes "troop: refused " ++ printed_line (reply_data reply)
line_of_error (error.Dropped at) = codes "troop: dropped at " ++ (decimal at ++ codes "\n")
line_of_error (error.BadPeer side line what) = bad_peer_on side ++ (decimal line ++ codes "\n")
line_of_error (error.LongRequest bytes) = codes "troop: request of " ++ (decimal bytes ++ codes " bytes is too long\n")
line_of_error error.Memory = error_line outcome.Memory

-- the status of a run that ended with this error, or well
abbrev pub end_code : Option PerformError → ℕ
end_code None = 0
end_code (Some e) = error_code e

-- its line on the error stream; none where all went well
abbrev pub end_line : Option PerformError → List ℕ
end_line None = []
end_line (Some e) = line_of_error e

-- what is told of how a run ended: just that; but want of memory where it was wanting for the line of a refusal
abbrev pub IsToldAs : Option PerformError → Option PerformError → Type 0
IsToldAs end told = (told ≡ end) ⊎ (((reply : WireReply) × (end ≡ Some (error.Refused reply))) × (told ≡ Some error.Memory))

-- how a run ended was reported, with this status
pub record ReportsEnd (end : Option PerformError) (code : ℕ) (err : Port) : Type 0 where
  pub told : Option PerformError
  pub told_as : IsToldAs end told
  pub code_is : code ≡ end_code told
  pub reported : Reported err (end_line told)
