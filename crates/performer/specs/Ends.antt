-- The errors of the four activities.
use Rattle.std.specs.Prelude.{Option, None, Some, Result, Ok, Err, if◌then◌else◌}
use Rattle.activities.specs.declared.commands.Flow.{Flow}
use Rattle.activities.specs.declared.errors.PerformError.{PerformError}
use Rattle.activities.specs.declared.errors.PerformError.TheVariants as error
use Rattle.performer.specs.declared.report.Ends.{Ends}

-- the error with which the commands ended, if there is one
abbrev pub error_of : Result Flow PerformError → Option PerformError
error_of (Ok flow) = None
error_of (Err error) = Some error

-- this error, or else the other
abbrev pub error_or : Option PerformError → Option PerformError → Option PerformError
error_or None other = other
error_or (Some error) other = Some error

-- the first error, in the order of the activities; the driver's is want of memory
abbrev pub first_error : Ends → Option PerformError
first_error ends = error_or ends.commands (error_or ends.up (error_or ends.down (if ends.starved then Some error.Memory else None)))
