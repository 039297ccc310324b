use Rattle.std.proofs.Common.{◌≡◌, false, All}
use Rattle.troop_ports.specs.Wires.{Wire}
use Rattle.server_tests.proofs.servers.links.Given as goal

abbrev pub invariant-loop : goal.invariant-loop
invariant-loop l = All (λ (link : Wire). link.is_closed ≡ false) l.links.items
