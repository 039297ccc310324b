-- Which errors come with a fault of which object.
use Rattle.std.specs.Prelude.{◌≡◌, ℕ, Option, None, Some, Result, Ok, Err}
use Rattle.troop_ports.specs.Faults.{Counted}
use Rattle.activities.specs.declared.errors.PerformError.{PerformError}
use Rattle.activities.specs.declared.errors.PerformError.TheVariants as error

-- the link's count rose where the error is a fault of the net, and else it is as it was
abbrev pub CountsLink : PerformError → ℕ → ℕ → Type 0
CountsLink error.ReadFault before now = now ≡ before
CountsLink error.WriteFault before now = now ≡ before
CountsLink error.NetFault before now = Counted before now
CountsLink (error.BadInput line) before now = now ≡ before
CountsLink error.TooMuch before now = now ≡ before
CountsLink (error.Refused reply) before now = now ≡ before
CountsLink (error.Dropped at) before now = now ≡ before
CountsLink (error.BadPeer side line what) before now = now ≡ before
CountsLink (error.LongRequest bytes) before now = now ≡ before
CountsLink error.Memory before now = now ≡ before

-- the same of an answer
abbrev pub CountsResult : {A : Type 0} → Result A PerformError → ℕ → ℕ → Type 0
CountsResult (Ok x) before now = now ≡ before
CountsResult (Err e) before now = CountsLink e before now

-- the same of the end of an activity
abbrev pub CountsActivity : Option PerformError → ℕ → ℕ → Type 0
CountsActivity None before now = now ≡ before
CountsActivity (Some e) before now = CountsLink e before now

-- the output's count rose where the error is a fault of the output, and else it is as it was
abbrev pub WriteCount : PerformError → ℕ → ℕ → Type 0
WriteCount error.ReadFault before now = now ≡ before
WriteCount error.WriteFault before now = Counted before now
WriteCount error.NetFault before now = now ≡ before
WriteCount (error.BadInput line) before now = now ≡ before
WriteCount error.TooMuch before now = now ≡ before
WriteCount (error.Refused reply) before now = now ≡ before
WriteCount (error.Dropped at) before now = now ≡ before
WriteCount (error.BadPeer side line what) before now = now ≡ before
WriteCount (error.LongRequest bytes) before now = now ≡ before
WriteCount error.Memory before now = now ≡ before

-- the same of an answer, at the output
abbrev pub CountsOutput : {A : Type 0} → Result A PerformError → ℕ → ℕ → Type 0
CountsOutput (Ok x) before now = now ≡ before
CountsOutput (Err e) before now = WriteCount e before now

-- the input's count rose where the error is a fault of the input, and else it is as it was
abbrev pub ReadCount : PerformError → ℕ → ℕ → Type 0
ReadCount error.ReadFault before now = Counted before now
ReadCount error.WriteFault before now = now ≡ before
ReadCount error.NetFault before now = now ≡ before
ReadCount (error.BadInput line) before now = now ≡ before
ReadCount error.TooMuch before now = now ≡ before
ReadCount (error.Refused reply) before now = now ≡ before
ReadCount (error.Dropped at) before now = now ≡ before
ReadCount (error.BadPeer side line what) before now = now ≡ before
ReadCount (error.LongRequest bytes) before now = now ≡ before
ReadCount error.Memory before now = now ≡ before

-- the same of an answer, at the input
abbrev pub CountsInput : {A : Type 0} → Result A PerformError → ℕ → ℕ → Type 0
CountsInput (Ok x) before now = now ≡ before
CountsInput (Err e) before now = ReadCount e before now
