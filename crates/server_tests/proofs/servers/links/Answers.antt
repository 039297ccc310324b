use Rattle.std.proofs.Common.{rules, ◌≡◌, false, ◌∷◌, ◌++◌, []}
use Rattle.std.proofs.lemmas.List.Elements.{All-append, All-cons, All-nil}
use Rattle.troop_ports.specs.Wires.{Wire}
use Rattle.server_tests.proofs.servers.links.Goals as goal

pub loop-preserved : goal.loop-preserved
loop-preserved c =
    let items : c.push.new.self.items ≡ c.loop.links.items ++ c.in_ok-open_link.field-0 ∷ [] = search rules in
    rw items (All-append (λ (link : Wire). link.is_closed ≡ false) c.loop.links.items (c.in_ok-open_link.field-0 ∷ []) c.loop.invariant
    (All-cons (λ (link : Wire). link.is_closed ≡ false) c.in_ok-open_link.field-0 [] c.in_ok-open_link.ensures (All-nil (λ (link : Wire). link.is_closed ≡ false))))
