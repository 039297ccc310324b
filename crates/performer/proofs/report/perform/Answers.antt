use Rattle.std.proofs.Common.{◌≡◌, ℕ, Bool, List, [], ◌∷◌, Option, Ok, Err, refl, sym, ap, ◌∙◌, subst, inl, inr}
use Rattle.block_queue.specs.declared.item.Item.{Item}
use Rattle.troop_ports.specs.Bytes.{at_end}
use Rattle.wire_lines.specs.declared.reader.State.{State}
use Rattle.wire_lines.specs.declared.reader.State.TheVariants as state
use Rattle.stage_state.specs.declared.played.Origin.{Origin}
use Rattle.stage_state.specs.Origins.{origin_of}
use Rattle.activities.specs.declared.errors.PerformError.{PerformError}
use Rattle.activities.specs.declared.errors.PerformError.TheVariants as error
use Rattle.activities.specs.Driving.{ToldDriver, told_driver, IsToldOf}
use Rattle.activities.specs.Lines.{coming, GaveLines}
use Rattle.activities.specs.Memory.{PlacedAct}
use Rattle.activities.specs.Up.{SentCall, TellsPlacing, call_line}
use Rattle.activities.proofs.GaveLines.{fresh}
use Rattle.performer.specs.Opening.{join_pair, down_line, OpeningFails}
use Rattle.performer.specs.Performed.{TookAll, SentAll}
use Rattle.performer.proofs.OpeningFails.{fails_kept, unfed_told, told_of}
use Rattle.performer.proofs.report.perform.Goals as goal

pub returns-in-Err-clause-err : goal.returns-in-Err-clause-err
returns-in-Err-clause-err g c =
    let told = g.L.Source.remaining c.args.up.now in
    let new : coming c.new-up_reader.result told ≡ told = ap (λ r. coming r told) c.new-up_reader.ensures ∙ fresh told in
    let join = join_pair c.args.name.now c.args.lang in (
      refl,
      inl (
        subst (λ (x : State × Option (List ℕ)). SentCall 1 join x.0 x.1 told (g.L.Source.remaining c.open_up.new.link) (g.L.Sink.taken c.args.up.now) (g.L.Sink.taken c.open_up.new.link) (Err c.in-Err.error))
            (λ i. (ap (λ r. r.state) c.new-up_reader.ensures i, new i))
            c.in-Err.ensures.sent,
        refl,
      ),
    )

pub returns-in-Err-open_down-clause-err : goal.returns-in-Err-open_down-clause-err
returns-in-Err-open_down-clause-err g c =
    let told = g.L.Source.remaining c.args.up.now in
    let new : coming c.new-up_reader.result told ≡ told = ap (λ r. coming r told) c.new-up_reader.ensures ∙ fresh told in
    let join = join_pair c.args.name.now c.args.lang in
    let rest = coming c.open_up.new.reader (g.L.Source.remaining c.open_up.new.link) in (
      refl,
      inr (
        c.in-Ok.placing,
        rest,
        subst (λ (t : Option (List ℕ)). SentCall 1 join state.Going t rest (g.L.Source.remaining c.open_up.new.link) (g.L.Sink.taken c.args.up.now) (g.L.Sink.taken c.open_up.new.link) (Ok c.in-Ok.placing)) new c.in-Ok.ensures.sent,
        inl c.in-Err-open_down.ensures.wrote,
      ),
    )

pub returns-in_default-clause-err : goal.returns-in_default-clause-err
returns-in_default-clause-err g c =
    let told = g.L.Source.remaining c.args.up.now in
    let new : coming c.new-up_reader.result told ≡ told = ap (λ r. coming r told) c.new-up_reader.ensures ∙ fresh told in
    let join = join_pair c.args.name.now c.args.lang in
    let rest = coming c.open_up.new.reader (g.L.Source.remaining c.open_up.new.link) in (
      refl,
      inr (
        c.in-Ok.placing,
        rest,
        subst (λ (t : Option (List ℕ)). SentCall 1 join state.Going t rest (g.L.Source.remaining c.open_up.new.link) (g.L.Sink.taken c.args.up.now) (g.L.Sink.taken c.open_up.new.link) (Ok c.in-Ok.placing)) new c.in-Ok.ensures.sent,
        inr (c.in-Ok-open_down.ensures.wrote, refl),
      ),
    )

pub returns-clause-err : goal.returns-clause-err
returns-clause-err g c =
    let told = g.L.Source.remaining c.args.up.now in
    let new : coming c.new-up_reader.result told ≡ told = ap (λ r. coming r told) c.new-up_reader.ensures ∙ fresh told in
    let join = join_pair c.args.name.now c.args.lang in
    let rest = coming c.open_up.new.reader (g.L.Source.remaining c.open_up.new.link) in
    let same = c.in-Err-perform_at.ensures.untouched in (
      c.in-Err-perform_at.ensures.memory,
      fails_kept c.args.name.now c.args.lang error.Memory told (g.L.Source.remaining c.open_up.new.link) _ (g.L.Sink.taken c.args.up.now) (g.L.Sink.taken c.open_up.new.link) _ (g.L.Sink.taken c.args.down.now) (g.L.Sink.taken c.open_down.new.link) _
          (ap g.L.Source.remaining same.0) (ap g.L.Sink.taken same.0) (ap g.L.Sink.taken same.1)
          (inr (
            c.in-Ok.placing,
            rest,
            subst (λ (t : Option (List ℕ)). SentCall 1 join state.Going t rest (g.L.Source.remaining c.open_up.new.link) (g.L.Sink.taken c.args.up.now) (g.L.Sink.taken c.open_up.new.link) (Ok c.in-Ok.placing)) new c.in-Ok.ensures.sent,
            inr (c.in-Ok-open_down.ensures.wrote, refl),
          )),
    )

pub returns-in-Ok-perform_at-clause-asked : goal.returns-in-Ok-perform_at-clause-asked
returns-in-Ok-perform_at-clause-asked g c =
    let laws = g.met.L.Link g.world.𝓛 g.world.𝓜 g.world.𝓡 ((λ s x. x), (λ x. x), (λ x. x), λ x. x) in
    let taken_is = laws.taken_is in
    sym (taken_is c.perform_at.new.down) ∙ c.in-Ok-perform_at.ensures.down_written ∙ taken_is c.open_down.new.link ∙ c.in-Ok-open_down.ensures.wrote
    ∙ ap (λ (who : ℕ). at_end (g.L.Sink.taken c.args.down.now) (down_line who)) (sym c.report_of.ensures.who)

pub returns-in-Ok-perform_at-clause-opened : goal.returns-in-Ok-perform_at-clause-opened
returns-in-Ok-perform_at-clause-opened g c =
    let told = g.L.Source.remaining c.args.up.now in
    let new : coming c.new-up_reader.result told ≡ told = ap (λ r. coming r told) c.new-up_reader.ensures ∙ fresh told in
    let sent = c.in-Ok.ensures.sent in
    let rest = coming c.open_up.new.reader (g.L.Source.remaining c.open_up.new.link) in
    let parts = c.report_of.ensures.parts in
    let e = c.in-Ok-perform_at.ensures in
    let at_is : c.report_of.result.stage.staged.joined ≡ c.in-Ok.placing.at =
    ap (λ s. s.staged.joined) parts.0 ∙ ap (λ (o : Origin). o.joined) e.origin ∙ ap (λ s. s.staged.joined) c.in-Ok-new.ensures.value in
    let o_is = ap (λ s. origin_of s.staged) parts.0 ∙ e.origin in
    let acts_is = ap (λ s. s.staged.acts) parts.0 in
    let up_is = ap (λ r. r.up) c.report_of.ensures.ends in (
      sent.0,
      rest,
      subst (λ (t : Option (List ℕ)). GaveLines t (sent.0 ∷ []) rest) new sent.1,
      subst (λ (p : ℕ × ℕ). TellsPlacing (record { at = p.0; who = p.1 }) sent.0) (λ i. (sym at_is i, sym c.report_of.ensures.who i)) sent.2,
      subst (λ (x : Origin × List PlacedAct × Option PerformError × Option (List ℕ)). SentAll x.0 x.1 x.2 rest (g.L.Source.remaining c.perform_at.new.up) x.3 (g.L.Sink.taken c.perform_at.new.up))
          (λ i. (sym o_is i, sym acts_is i, sym up_is i, sent.3 i)) e.sent,
    )

pub returns-in-Ok-perform_at-clause-took : goal.returns-in-Ok-perform_at-clause-took
returns-in-Ok-perform_at-clause-took g c =
    let h = g.H.Hatch in
    let k = g.H.C.Child in
    let left = g.L.Source.remaining c.open_down.new.link in
    let new : coming c.new-down_reader.result left ≡ g.L.Source.remaining c.args.down.now =
    ap (λ r. coming r left) c.new-down_reader.ensures ∙ fresh left ∙ c.in-Ok-open_down.ensures.remaining in
    let parts = c.report_of.ensures.parts in
    let e = c.in-Ok-perform_at.ensures in
    let old : ToldDriver = told_driver h.buried h.faults k.taken k.faults c.args.driver in
    let o_is = ap (λ s. origin_of s.staged) parts.0 ∙ e.origin in
    let acts_is = ap (λ s. s.staged.acts) parts.0 in
    let down_is = ap (λ r. r.down) c.report_of.ensures.ends in
    let starved_is = ap (λ r. r.starved) c.report_of.ensures.ends in
    let driver_is = ap (λ d. told_driver h.buried h.faults k.taken k.faults d) parts.1 in
    let items_is = ap (λ t. t.items) parts.2 in
    subst (λ (x : Origin × List PlacedAct × Option PerformError × Option (List ℕ) × List Item × Bool × ToldDriver).
    (took : TookAll x.0 x.1 x.2 x.3 (g.L.Source.remaining c.perform_at.new.down) x.4 x.5 old x.6) × IsToldOf x.6 took.fed.fed)
    (λ i. (sym o_is i, sym acts_is i, sym down_is i, new i, sym items_is i, sym starved_is i, sym driver_is i))
    (told_of _ _ _ _ _ _ _ old _ e.took (unfed_told h.buried h.faults k.taken k.faults c.args.driver c.requires.driver.1))
