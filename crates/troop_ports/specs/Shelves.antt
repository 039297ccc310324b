-- What shelves give of the files that they tell. An object that tells none tells `None`.
use Rattle.std.specs.Prelude.{◌≡◌, ℕ, ◌<◌, ◌≤◌, List, length, Option, Some, IfSome, IsSomeAnd, option_map, find, bytes_eq}
use Rattle.troop_ports.specs.declared.shelf.Fetched.{Fetched}
use Rattle.troop_ports.specs.declared.shelf.Fetched.TheVariants as fetched
use Rattle.troop_ports.specs.Faults.{Counted}

-- the bytes of a name, and those that stand under it
pub record File : Type 0 where
  pub name : List ℕ
  pub bytes : List ℕ

-- what stands under a name: the bytes of the first file that has it
abbrev pub bytes_under : List ℕ → List File → Option (List ℕ)
bytes_under name files = option_map (λ file. file.bytes) (find (λ file. bytes_eq file.name name) files)

-- what is given stands under the name; there are too many bytes only where more than so many stand there
abbrev pub Fetches : Fetched → List ℕ → ℕ → Option (List File) → Type 0
Fetches (fetched.Bytes given) name limit told = IfSome told (λ files. bytes_under name files ≡ Some given.items)
Fetches fetched.TooMany name limit told = IfSome told (λ files. IsSomeAnd (bytes_under name files) (λ bytes. limit < length bytes))
Fetches fetched.Failed name limit told = Unit {0}

-- no more bytes are given than the limit
abbrev pub FetchFits : Fetched → ℕ → Type 0
FetchFits (fetched.Bytes given) limit = length given.items ≤ limit
FetchFits fetched.TooMany limit = Unit {0}
FetchFits fetched.Failed limit = Unit {0}

-- a fetch that failed counted a fault, and any other leaves the count as it was
abbrev pub CountsFetch : Fetched → ℕ → ℕ → Type 0
CountsFetch (fetched.Bytes given) before now = now ≡ before
CountsFetch fetched.TooMany before now = now ≡ before
CountsFetch fetched.Failed before now = Counted before now
