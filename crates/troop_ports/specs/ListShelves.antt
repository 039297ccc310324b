-- A shelf in memory.
use Rattle.std.specs.Prelude.{ℕ, List, length, nat_lt, Option, Some, None, if◌then◌else◌, Vec, String, string_bytes}
use Rattle.std.specs.declared.alloc.Global.{Global}
use Rattle.troop_ports.specs.Faults.{next_count}
use Rattle.troop_ports.specs.Feeds.{is_listed}
use Rattle.troop_ports.specs.Shelves.{File, bytes_under}
use Rattle.troop_ports.specs.declared.shelf.Fetched.{Fetched}
use Rattle.troop_ports.specs.declared.shelf.Fetched.TheVariants as fetched

-- the files, the numbers of the calls that fail, how many calls were answered, and how many faults were counted
pub record Cabinet : Type 0 where
  pub files : List File
  pub fails : List ℕ
  pub calls : ℕ
  pub faults : ℕ

-- a file by its name and its bytes
abbrev pub file_of : String Global × Vec ℕ Global → File
file_of file = record { name = string_bytes file.0; bytes = file.1.items }

-- the bytes that were given, too many bytes, or a fault
pub data Finding : Type 0 where
  Given : List ℕ → Finding
  Excess : Finding
  Fault : Finding

-- what an answer says
abbrev pub finding : Fetched → Finding
finding (fetched.Bytes bytes) = Given bytes.items
finding fetched.TooMany = Excess
finding fetched.Failed = Fault

-- what stands under a name, within a limit; where nothing does, a fault
abbrev pub within_limit : Option (List ℕ) → ℕ → Finding
within_limit None limit = Fault
within_limit (Some bytes) limit = if nat_lt limit (length bytes) then Excess else Given bytes

-- the answer to a fetch: a listed call fails, another gives what stands under the name
abbrev pub finding_of : Cabinet → List ℕ → ℕ → Finding
finding_of shelf name limit = if is_listed (next_count shelf.calls) shelf.fails then Fault else within_limit (bytes_under name shelf.files) limit

-- the shelf behind that answer
abbrev pub shelf_after : Cabinet → Finding → Cabinet
shelf_after shelf (Given bytes) = record shelf { calls = next_count shelf.calls }
shelf_after shelf Excess = record shelf { calls = next_count shelf.calls }
shelf_after shelf Fault = record shelf { calls = next_count shelf.calls; faults = next_count shelf.faults }
