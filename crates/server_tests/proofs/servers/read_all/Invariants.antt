use Rattle.std.proofs.Common.{◌≡◌, false}
use Rattle.server_tests.proofs.servers.read_all.Given as goal

abbrev pub invariant-loop : goal.invariant-loop
invariant-loop g l = g.L.Source.closed l.link ≡ false
