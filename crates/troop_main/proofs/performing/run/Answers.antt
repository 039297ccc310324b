use Rattle.std.proofs.Common.{ℕ, List, ap, sym, ◌∙◌, subst}
use Rattle.std.specs.Prelude.{option_copied}
use Rattle.replay_run.specs.Ports.{port_of}
use Rattle.troop_main.specs.Words.{Announced, announced}
use Rattle.troop_main.specs.Serving.{net_port_of}
use Rattle.troop_main.specs.Performing.{shelf_port_of, AreRetired, Scene, TellingLinks, Performance, FailedOpening, IsPerformance}
use Rattle.troop_main.proofs.SaysPerformed.{retired_by, unopened, performed, took_idle}
use Rattle.troop_main.proofs.performing.run.Goals as goal

pub returns-in-Ok-performed-clause-says : goal.returns-in-Ok-performed-clause-says
returns-in-Ok-performed-clause-says g c =
    let tells : TellingLinks g.row.N-L.Denot g.row.H.Denot g.row.H-C.Denot = record {
      remaining = g.N.L.Source.remaining;
      written = g.N.L.Sink.taken;
      link_faults = g.N.L.Source.faults;
      buried = g.H.Hatch.buried;
      hatch_faults = g.H.Hatch.faults;
      taken = g.H.C.Child.taken;
      child_faults = g.H.C.Child.faults;
    } in
    let scene : Scene g.row.N-L.Denot g.row.H.Denot = record {
      input = port_of (g.I.Source.remaining c.args.input.now) (g.I.Source.remaining c.perform-performed.new.commands) (g.I.Source.faults c.args.input.now) (g.I.Source.faults c.perform-performed.new.commands);
      out = port_of (g.O.Sink.taken c.args.out.now) (g.O.Sink.taken c.print_report.new.out) (g.O.Sink.faults c.args.out.now) (g.O.Sink.faults c.print_report.new.out);
      shelf = shelf_port_of (g.S.Shelf.files c.args.shelf.now) (g.S.Shelf.faults c.args.shelf.now) (g.S.Shelf.faults c.fetch_boot.new.shelf);
      net = net_port_of c.args.addr.now (g.N.Net.site c.args.net.now) (g.N.Net.links c.args.net.now) (g.N.Net.links c.retire-2.new.self) (g.N.Net.retired c.args.net.now) (g.N.Net.retired c.retire-2.new.self) (g.N.Net.faults c.args.net.now)
          (g.N.Net.faults c.retire-2.new.self);
      hatch_before = c.args.hatch;
      hatch_after = c.print_report.result.1;
    } in
    let who : List ℕ → Announced = λ name. record { name = name; lang = c.args.billing.lang; boot = option_copied c.args.billing.boot } in
    let back = c.perform-performed.new in
    let retired : AreRetired g.N.L.Source.faults c.in-Some.up back.up c.in-Some.down back.down scene.net =
    retired_by g.N.L.Source.faults c.in-Some.up back.up c.in-Some.down back.down c.args.addr.now (g.N.Net.site c.args.net.now)
    (g.N.Net.links c.args.net.now) (g.N.Net.links c.dial_both.new.net) (g.N.Net.links c.retire.new.self) (g.N.Net.links c.retire-2.new.self)
    (g.N.Net.retired c.args.net.now) (g.N.Net.retired c.dial_both.new.net) (g.N.Net.retired c.retire.new.self) (g.N.Net.retired c.retire-2.new.self)
    (g.N.Net.faults c.args.net.now) (g.N.Net.faults c.dial_both.new.net) (g.N.Net.faults c.retire.new.self) (g.N.Net.faults c.retire-2.new.self)
    c.in-Some.ensures.links c.retire.ensures.links c.retire.ensures.retired c.retire.ensures.count c.retire-2.ensures.links c.retire-2.ensures.retired c.retire-2.ensures.count in
    let r = c.in-Ok-performed.report in
    let e = c.in-Ok-performed.ensures in
    let printed = c.print_report.ensures.printed in
    let p : Performance g.row.N-L.Denot = record {
      boot = c.in-Ok.boot.items;
      up = c.in-Some.up;
      up_back = back.up;
      down = c.in-Some.down;
      down_back = back.down;
      number = r.who;
      staged = r.stage.staged;
      commands = e.shared.0;
      ends = r.ends;
      notes = r.driver.notes;
      closed = r.driver.closed;
      popped = r.taker.items;
      printed = g.O.Sink.taken back.out;
      print_faults = g.O.Sink.faults back.out;
      last = printed.0;
    } in
    let is : IsPerformance tells (who c.in-Ok-of.name) c.print_report.result.0 scene p = record {
      booted = c.in-Ok.ensures.ok;
      retired = retired;
      sent = e.opened;
      up_faults = e.counts.0;
      asked = e.asked;
      took = took_idle tells c.args.billing.lang c.in-Ok.boot.items c.args.hatch c.print_report.result.1 c.new-driver.result r.driver r.stage.staged r.ends.down
          (g.N.L.Source.remaining c.in-Some.down) (g.N.L.Source.remaining back.down) r.taker.items r.ends.starved
          c.new-driver.ensures.value e.ended (sym c.print_report.ensures.hatch) e.took;
      down_faults = e.counts.1;
      played = e.stage;
      typed = e.shared.2;
      commands_are = e.shared.1;
      read_faults = e.shared.3;
      write_faults = e.shared.4;
      prints = printed.2;
      end_is = printed.1;
    } in
    performed tells (announced c.args.billing) c.print_report.result.0 scene p
    (subst (λ (name : List ℕ). IsPerformance tells (who name) c.print_report.result.0 scene p) c.in-Ok-of.ensures is)

pub returns-clause-says : goal.returns-clause-says
returns-clause-says g c =
    let tells : TellingLinks g.row.N-L.Denot g.row.H.Denot g.row.H-C.Denot = record {
      remaining = g.N.L.Source.remaining;
      written = g.N.L.Sink.taken;
      link_faults = g.N.L.Source.faults;
      buried = g.H.Hatch.buried;
      hatch_faults = g.H.Hatch.faults;
      taken = g.H.C.Child.taken;
      child_faults = g.H.C.Child.faults;
    } in
    let scene : Scene g.row.N-L.Denot g.row.H.Denot = record {
      input = port_of (g.I.Source.remaining c.args.input.now) (g.I.Source.remaining c.perform-performed.new.commands) (g.I.Source.faults c.args.input.now) (g.I.Source.faults c.perform-performed.new.commands);
      out = port_of (g.O.Sink.taken c.args.out.now) (g.O.Sink.taken c.perform-performed.new.out) (g.O.Sink.faults c.args.out.now) (g.O.Sink.faults c.perform-performed.new.out);
      shelf = shelf_port_of (g.S.Shelf.files c.args.shelf.now) (g.S.Shelf.faults c.args.shelf.now) (g.S.Shelf.faults c.fetch_boot.new.shelf);
      net = net_port_of c.args.addr.now (g.N.Net.site c.args.net.now) (g.N.Net.links c.args.net.now) (g.N.Net.links c.retire-2.new.self) (g.N.Net.retired c.args.net.now) (g.N.Net.retired c.retire-2.new.self) (g.N.Net.faults c.args.net.now)
          (g.N.Net.faults c.retire-2.new.self);
      hatch_before = c.args.hatch;
      hatch_after = c.into_hatch.result;
    } in
    let who : List ℕ → Announced = λ name. record { name = name; lang = c.args.billing.lang; boot = option_copied c.args.billing.boot } in
    let back = c.perform-performed.new in
    let retired : AreRetired g.N.L.Source.faults c.in-Some.up back.up c.in-Some.down back.down scene.net =
    retired_by g.N.L.Source.faults c.in-Some.up back.up c.in-Some.down back.down c.args.addr.now (g.N.Net.site c.args.net.now)
    (g.N.Net.links c.args.net.now) (g.N.Net.links c.dial_both.new.net) (g.N.Net.links c.retire.new.self) (g.N.Net.links c.retire-2.new.self)
    (g.N.Net.retired c.args.net.now) (g.N.Net.retired c.dial_both.new.net) (g.N.Net.retired c.retire.new.self) (g.N.Net.retired c.retire-2.new.self)
    (g.N.Net.faults c.args.net.now) (g.N.Net.faults c.dial_both.new.net) (g.N.Net.faults c.retire.new.self) (g.N.Net.faults c.retire-2.new.self)
    c.in-Some.ensures.links c.retire.ensures.links c.retire.ensures.retired c.retire.ensures.count c.retire-2.ensures.links c.retire-2.ensures.retired c.retire-2.ensures.count in
    let e = c.in-Err-performed.ensures in
    let is : FailedOpening tells (who c.in-Ok-of.name) c.in-Err-performed.error scene = record {
      booted = (c.in-Ok.boot.items, c.in-Ok.ensures.ok);
      unplayed = (
        ap g.I.Source.faults e.untouched.0,
        ap g.I.Source.remaining e.untouched.0,
        ap g.O.Sink.faults e.untouched.1,
        ap g.O.Sink.taken e.untouched.1,
        c.into_hatch.ensures ∙ ap (λ d. d.hatch) (e.err.0 ∙ c.new-driver.ensures.value),
      );
      up = c.in-Some.up;
      up_back = back.up;
      down = c.in-Some.down;
      down_back = back.down;
      retired = retired;
      fails = e.err.1;
      counts = e.err_counts;
    } in
    unopened tells (announced c.args.billing) c.in-Err-performed.error scene
    (subst (λ (name : List ℕ). FailedOpening tells (who name) c.in-Err-performed.error scene) c.in-Ok-of.ensures is)
