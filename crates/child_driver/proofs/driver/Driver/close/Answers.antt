use Rattle.std.proofs.Common.{◌≡◌, ◌∙◌, sym}
use Rattle.std.specs.Prelude.{Some}
use Rattle.child_driver.proofs.IsClosing.{told_close, faults_close, given_close}
use Rattle.child_driver.proofs.driver.Driver.close.Goals as goal

pub returns-in-Some-clause-told : goal.returns-in-Some-clause-told
returns-in-Some-clause-told g c =
    let h = g.H.Hatch in
    let k = g.H.C.Child in
    let was : c.self.inside.life ≡ Some c.in-Some.child = sym c.take.ensures.value ∙ c.in-Some.is in
    let close = c.close_life.ensures.closing in
    told_close h.buried h.starts h.faults k.taken k.limit k.faults _ c.args.self.now
    (record c.args.self.now { hatch = c.close_life.new.hatch; life = c.take.new.self; notes = c.close_life.new.journal.notes })
    close.0 c.self.view_is c.self.invariant.steady (rw (was, c.take.ensures.after) close.1)

pub returns-in-Some-clause-faults : goal.returns-in-Some-clause-faults
returns-in-Some-clause-faults g c =
    let h = g.H.Hatch in
    let k = g.H.C.Child in
    let was : c.self.inside.life ≡ Some c.in-Some.child = sym c.take.ensures.value ∙ c.in-Some.is in
    let close = c.close_life.ensures.closing in
    faults_close h.buried h.starts h.faults k.taken k.limit k.faults _ c.args.self.now
    (record c.args.self.now { hatch = c.close_life.new.hatch; life = c.take.new.self; notes = c.close_life.new.journal.notes })
    close.0 c.self.view_is (rw (was, c.take.ensures.after) close.1)

pub returns-in-Some-clause-handed : goal.returns-in-Some-clause-handed
returns-in-Some-clause-handed g c =
    let h = g.H.Hatch in
    let k = g.H.C.Child in
    let was : c.self.inside.life ≡ Some c.in-Some.child = sym c.take.ensures.value ∙ c.in-Some.is in
    let close = c.close_life.ensures.closing in
    given_close h.buried h.starts h.faults k.taken k.limit k.faults _ c.args.self.now
    (record c.args.self.now { hatch = c.close_life.new.hatch; life = c.take.new.self; notes = c.close_life.new.journal.notes })
    close.0 c.self.view_is (rw (was, c.take.ensures.after) close.1)
