-- Counts of faults that rise one behind the other.
use Rattle.std.proofs.Common.{ℕ, ◌≤◌, arith}
use Rattle.troop_ports.specs.Faults.{Counted, AddsCount}
use Rattle.troop_main.proofs.SaysServed.{counted_of_door}

-- a fault that was counted before others may have been
pub counted_first : (before mid now : ℕ) → Counted before mid → mid ≤ now → Counted before now
counted_first before mid now fault later =
    let rose = fault.rose in
    let up = fault.later in
    record { later = omega (arith, up, later); rose = omega (arith, rose, later) }

-- a fault that was counted after others may have been
pub counted_last : (before mid now : ℕ) → before ≤ mid → Counted mid now → Counted before now
counted_last before mid now later fault =
    let rose = fault.rose in
    let up = fault.later in
    record { later = omega (arith, up, later); rose = omega (arith, rose, later) }

-- a fault of the link that came back first
pub counted_up : (given up down before mid now : ℕ) → Counted given up → AddsCount up before mid → AddsCount down mid now → Counted before now
counted_up given up down before mid now fault first second = counted_first before mid now (counted_of_door given up before mid fault first) second.later

-- a fault of the link that came back second
pub counted_down : (given up down before mid now : ℕ) → Counted given down → AddsCount up before mid → AddsCount down mid now → Counted before now
counted_down given up down before mid now fault first second = counted_last before mid now first.later (counted_of_door given down mid now fault second)
