-- What a run does to an input, an output or an error stream.
use Rattle.std.specs.Prelude.{◌≡◌, ℕ, List, ◌++◌, ◌⊎◌, Option}
use Rattle.troop_ports.specs.Faults.{Counted}
use Rattle.troop_ports.specs.Bytes.{in_front, at_end}

-- what an object tells before and after a run: the bytes that are left or that were taken, where it tells them, and its
-- count of faults
pub record Port : Type 0 where
  pub before : Option (List ℕ)
  pub after : Option (List ℕ)
  pub faults_before : ℕ
  pub faults_after : ℕ

-- the port of what an object told before and after, and of its counts of faults
abbrev pub port_of : Option (List ℕ) → Option (List ℕ) → ℕ → ℕ → Port
port_of before after faults_before faults_after = record { before = before; after = after; faults_before = faults_before; faults_after = faults_after }

-- no fault was counted
abbrev pub IsCalm : Port → Type 0
IsCalm port = port.faults_after ≡ port.faults_before

-- a fault was counted
abbrev pub IsFaulted : Port → Type 0
IsFaulted port = Counted port.faults_before port.faults_after

-- the input gave these bytes
abbrev pub Gave : Port → List ℕ → Type 0
Gave input bytes = input.before ≡ in_front bytes input.after

-- the output took these bytes
abbrev pub Took : Port → List ℕ → Type 0
Took out bytes = out.after ≡ at_end out.before bytes

-- the output took a prefix of these bytes
abbrev pub TookPrefix : Port → List ℕ → Type 0
TookPrefix out bytes = (front : List ℕ) × (rest : List ℕ) × (bytes ≡ front ++ rest) × Took out front

-- the line was written on the error stream, or a prefix of it where a fault was counted there
abbrev pub Reported : Port → List ℕ → Type 0
Reported err line = (Took err line × IsCalm err) ⊎ (TookPrefix err line × IsFaulted err)
