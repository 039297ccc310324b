-- How an end is reported.
use Rattle.std.proofs.Common.{◌≡◌, ℕ, Some, inl, sym, ap}
use Rattle.activities.specs.declared.errors.PerformError.{PerformError}
use Rattle.replay_run.specs.Ports.{Port, Reported}
use Rattle.troop_main.specs.Reports.{error_code, line_of_error, ReportsEnd}

-- an error was reported as itself
pub reported_as : (e told : PerformError) (code : ℕ) (err : Port) → e ≡ told → code ≡ error_code told → Reported err (line_of_error told) → ReportsEnd (Some e) code err
reported_as e told code err is code_is wrote = record { told = Some told; told_as = inl (ap Some (sym is)); code_is = code_is; reported = wrote }
