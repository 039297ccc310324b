use Rattle.troop_main.specs.Serving.{Telling, IsShut, net_port_of}
use Rattle.troop_main.proofs.SaysServed.{shut_by, ended, closed}
use Rattle.troop_main.proofs.serving.run.Goals as goal

pub returns-clause-says : goal.returns-clause-says
returns-clause-says g c =
    let tells : Telling g.row.N-D-L.Denot g.row.N-D.Denot = record {
      remaining = g.N.D.L.Source.remaining;
      written = g.N.D.L.Sink.taken;
      link_faults = g.N.D.L.Source.faults;
      closed = g.N.D.L.Source.closed;
      links = g.N.D.Door.links;
      retired = g.N.D.Door.retired;
      places = g.N.D.Door.places;
      door_faults = g.N.D.Door.faults;
    } in
    let given = c.in-Door.door in
    let shut = c.serve-served.new.door in
    let back : IsShut tells given shut (net_port_of c.args.addr.now (g.N.Net.site c.args.net.now) (g.N.Net.doors c.args.net.now) (g.N.Net.doors c.shut.new.self) (g.N.Net.shut_doors c.args.net.now) (g.N.Net.shut_doors c.shut.new.self) (g.N.Net.faults c.args.net.now) (g.N.Net.faults c.shut.new.self)) =
    shut_by tells given shut _ _ _ (g.N.Net.doors c.listen.new.self) _ _ (g.N.Net.shut_doors c.listen.new.self) _ _ (g.N.Net.faults c.listen.new.self) _ c.in-Door.ensures.at_site c.in-Door.ensures.doors c.in-Door.ensures.cause c.in-Door.ensures.shut_doors c.shut.ensures.doors c.shut.ensures.shut_doors c.shut.ensures.count in
    closed tells c.args.sessions c.print_end.result _ _ _ c.print_end.ensures.ends (ended tells c.args.sessions given shut _ _ back c.in-Ok.ensures.cause c.in-Ok.ensures.legal c.in-Ok.ensures.served)
