use Rattle.std.proofs.Common.{◌≡◌, List, ℕ, Option, IfOk, IfErr, sym, ap, subst, ◌∙◌}
use Rattle.wire_lines.specs.Reader.{held_bytes}
use Rattle.activities.specs.Lines.{coming, FailsBare, GoesWhole}
use Rattle.activities.specs.declared.errors.PerformError.TheVariants as error
use Rattle.activities.proofs.SentUp.{call_sent, call_unwritten}
use Rattle.activities.proofs.up.send_call.Goals as goal

pub returns-in-Ok-clause-sent : goal.returns-in-Ok-clause-sent
returns-in-Ok-clause-sent g c =
    let taken_is = g.met.L.Link.taken_is in
    call_sent c.args.number (c.args.num, c.args.call) _ _ _ _ _ _ _ _ c.read_placing.result
    (ap (coming c.args.reader.now) c.in-Ok.ensures.remaining) c.in-Ok.ensures.wrote
    (sym (taken_is c.read_placing.new.link) ∙ c.read_placing.ensures.written ∙ taken_is c.write_call.new.link) c.read_placing.ensures.read
    (subst (λ (t : Option (List ℕ)). IfErr c.read_placing.result (λ e. e ≡ error.NetFault → FailsBare c.args.reader.now.state t (g.L.Source.remaining c.read_placing.new.link)))
    (ap (coming c.args.reader.now) c.in-Ok.ensures.remaining) c.read_placing.ensures.bare)

pub returns-in-Err-clause-sent : goal.returns-in-Err-clause-sent
returns-in-Err-clause-sent g c =
    call_unwritten c.args.number (c.args.num, c.args.call) _ _ (coming c.args.reader.now (g.L.Source.remaining c.write_call.new.link)) _ _ _ c.in-Err.error
    (held_bytes c.args.reader.now, ap (coming c.args.reader.now) (sym c.in-Err.ensures.remaining)) c.in-Err.ensures.wrote

pub returns-in-Ok-clause-whole : goal.returns-in-Ok-clause-whole
returns-in-Ok-clause-whole g c =
    subst (λ (t : Option (List ℕ)). IfOk c.read_placing.result (λ _. GoesWhole c.args.reader.now t c.read_placing.new.reader (coming c.read_placing.new.reader (g.L.Source.remaining c.read_placing.new.link))))
    (ap (coming c.args.reader.now) c.in-Ok.ensures.remaining) c.read_placing.ensures.whole
