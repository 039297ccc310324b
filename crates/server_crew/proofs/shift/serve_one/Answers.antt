use Rattle.std.proofs.Common.{rules, ◌≡◌, ◌∷◌, ◌++◌, [], ◌∙◌, ap, subst, length, length-append, true, arith}
use Rattle.link_queue.specs.Balance.{weigh}
use Rattle.server_crew.specs.Shifts.{IsShift}
use Rattle.server_crew.proofs.IsShift.{one_more, weigh_both}
use Rattle.server_crew.proofs.shift.serve_one.Goals as goal

pub returns-in_default-clause-served : goal.returns-in_default-clause-served
returns-in_default-clause-served g c = λ taken before.
    let same : c.push_back.new.self.items ≡ c.args.shift.now.links.items = search rules in
    let count = ap length same in
    let z = c.into_inner-link.ensures in
    subst (λ a. IsShift g.L.Source.remaining g.L.Sink.taken g.L.Source.faults g.L.Source.closed (record { seat = c.serve_link-end.new.seat; links = c.push_back.new.self; is_spoiled = true }) (taken ++ a ∷ [])) c.new-gated.ensures
    (one_more g.L.Source.remaining g.L.Sink.taken g.L.Source.faults g.L.Source.closed c.args.shift.now (record { seat = c.serve_link-end.new.seat; links = c.push_back.new.self; is_spoiled = true }) taken c.new-gated.result.inner c.serve_link-end.new.link.inner c.into_inner-link.result c.serve_link-end.result
    c.serve_link-end.ensures.hall.1 c.serve_link-end.ensures.session c.serve_link-end.ensures.count
    (ap g.L.Source.remaining z ∙ c.close.ensures.remaining) (ap g.L.Sink.taken z ∙ c.close.ensures.taken) (ap g.L.Source.faults z ∙ c.close.ensures.count) (ap g.L.Source.closed z ∙ c.close.ensures.closed)
    (λ e. absurd (cc)) (λ f. let weight = ap (weigh f) same in omega (arith, weight)) (omega (arith, count)) (λ _. let most = before.few in omega (arith, count, most)) before)

pub returns-clause-served : goal.returns-clause-served
returns-clause-served g c = λ taken before.
    let pushed : c.push_back.new.self.items ≡ c.args.shift.now.links.items ++ c.into_inner-link.result ∷ [] = search rules in
    let count = ap length pushed in
    let one = length-append c.args.shift.now.links.items (c.into_inner-link.result ∷ []) in
    let z = c.into_inner-link.ensures in
    subst (λ a. IsShift g.L.Source.remaining g.L.Sink.taken g.L.Source.faults g.L.Source.closed (record { seat = c.serve_link-end.new.seat; links = c.push_back.new.self; is_spoiled = c.args.shift.now.is_spoiled }) (taken ++ a ∷ [])) c.new-gated.ensures
    (one_more g.L.Source.remaining g.L.Sink.taken g.L.Source.faults g.L.Source.closed c.args.shift.now (record { seat = c.serve_link-end.new.seat; links = c.push_back.new.self; is_spoiled = c.args.shift.now.is_spoiled }) taken c.new-gated.result.inner c.serve_link-end.new.link.inner c.into_inner-link.result c.serve_link-end.result
    c.serve_link-end.ensures.hall.1 c.serve_link-end.ensures.session c.serve_link-end.ensures.count
    (ap g.L.Source.remaining z ∙ c.close.ensures.remaining) (ap g.L.Sink.taken z ∙ c.close.ensures.taken) (ap g.L.Source.faults z ∙ c.close.ensures.count) (ap g.L.Source.closed z ∙ c.close.ensures.closed)
    (λ e. (e, pushed)) (λ f. let weight = ap (weigh f) pushed in let both = weigh_both f c.args.shift.now.links.items (c.into_inner-link.result ∷ []) in omega (arith, weight, both)) (omega (arith, count, one)) (λ e. let fewer = before.lost e in omega (arith, count, one, fewer)) before)
