use Rattle.std.proofs.Common.{rules, ◌≡◌, ℕ, Option, List, [], ◌∷◌, ◌++◌, sym, ap, ◌∙◌, subst}
use Rattle.block_queue.specs.declared.item.Item.{Item}
use Rattle.stage_state.specs.Origins.{origin_of, ArePlayed}
use Rattle.stage_state.specs.declared.played.Origin.{Origin}
use Rattle.activities.specs.Driving.{ToldDriver, told_driver, Drove}
use Rattle.activities.specs.Ending.{DownDone, UpDone}
use Rattle.activities.specs.Lines.{coming}
use Rattle.activities.proofs.GaveLines.{fresh}
use Rattle.performer.specs.Performed.{TookAll, SentAll, TypedAll}
use Rattle.performer.proofs.TookAll.{Three, three, took_all, sent_all, commands_plain, up_noentry, down_nonext, typed_all}
use Rattle.performer.proofs.Shares.{typed_behind, shares}
use Rattle.performer.proofs.running.perform_at.Goals as goal

pub returns-clause-took : goal.returns-clause-took
returns-clause-took g c =
    let oh = origin_of c.in-Ok-new.hall.first.staged in
    let acts = c.close-stage.result.staged.acts in
    let e = c.all_four-starved.ensures in
    let f = c.all_four-starved.new.first_seat in
    let u = c.all_four-starved.new.up_seat in
    let d = c.all_four-starved.new.seat in
    let none = c.in-Ok-new.first.made in
    let items : c.push_reserved-3.new.self.items ≡ f ∷ u ∷ d ∷ [] =
    c.push_reserved-3.ensures.items ∙ ap (λ l. l ++ d ∷ []) (c.push_reserved-2.ensures.items ∙ ap (λ l. l ++ u ∷ []) (c.push_reserved.ensures.items ∙ ap (λ l. l ++ f ∷ []) c.in-Ok-with_capacity.ensures.items)) in
    let made : f.made ≡ (none ++ u.index ∷ []) ++ d.index ∷ [] =
    e.first_seat.1.made ∙ c.seat-third.ensures.made ∙ ap (λ l. l ++ c.seat-third.result.index ∷ []) c.seat-second.ensures.made
    ∙ ap (λ i. (none ++ i ∷ []) ++ c.seat-third.result.index ∷ []) (sym e.up_seat.1.index) ∙ ap (λ j. (none ++ u.index ∷ []) ++ j ∷ []) (sym e.seat.1.index) in
    let t : Three acts f u d =
    three _ acts _ f u d none items (ap (λ s. s.staged.acts) c.in-Ok-new.ensures.hall.0 ∙ c.requires.stage.0)
    (e.first_seat.1.index ∙ c.seat-third.ensures.number.1 ∙ c.seat-second.ensures.number.1 ∙ c.in-Ok-new.ensures.seat.1) c.in-Ok-new.ensures.seat.4
    made (e.up_seat.1.made ∙ c.seat-second.ensures.new.2) (e.seat.1.made ∙ c.seat-third.ensures.new.2) c.close-stage.ensures.settled c.close-stage.ensures.whole in
    let same : oh ≡ origin_of c.args.stage.staged = ap (λ s. origin_of s.staged) c.in-Ok-new.ensures.hall.0 in
    let h = g.H.Hatch in
    let k = g.H.C.Child in
    let old : ToldDriver = told_driver h.buried h.faults k.taken k.faults c.args.driver in
    let new : ToldDriver = told_driver h.buried h.faults k.taken k.faults c.all_four-starved.new.driver in
    let told = coming c.args.down_reader.now (g.L.Source.remaining c.args.down.now) in
    let remaining = g.L.Source.remaining c.all_four-starved.new.link in
    let plain = commands_plain oh c.args.name.now c.args.who c.all_four-starved.result.1.0 _ _ _ _ c.seat-third.new.first f e.commands in
    let down = subst (λ (before : List Item). DownDone oh c.all_four-starved.result.1.1.1 told remaining c.seat-third.result d before c.all_four-starved.new.feeder.items) c.in-Ok.ensures.empty.1 e.down in
    let drove = subst (λ (before : List Item). Drove c.all_four-starved.result.0 before c.all_four-starved.new.taker.items old new) c.in-Ok.ensures.empty.2 e.drove in
    let noentry = up_noentry oh c.all_four-starved.result.1.1.0 _ _ _ _ c.seat-second.result u c.seat-second.ensures.new.1 e.up in
    let all = took_all oh acts f u d c.seat-third.result c.all_four-starved.result.1.1.1 told remaining c.all_four-starved.new.feeder.items c.all_four-starved.new.taker.items
    c.take_in.ensures.order.0 _ old new t.every t.own_f t.own_u t.own_d plain noentry c.seat-third.ensures.new.1 e.seat.1.number t.begins_d
    c.close-stage.ensures.legal down drove c.take_in.ensures.order.1 in
    subst (λ (o : Origin). TookAll o acts c.all_four-starved.result.1.1.1 told remaining c.take_in.new.self.items c.all_four-starved.result.0 old new) same
    (subst (λ (popped : List Item). TookAll oh acts c.all_four-starved.result.1.1.1 told remaining popped c.all_four-starved.result.0 old new) (sym c.take_in.ensures.popped) all)

pub returns-clause-sent : goal.returns-clause-sent
returns-clause-sent g c =
    let oh = origin_of c.in-Ok-new.hall.first.staged in
    let acts = c.close-stage.result.staged.acts in
    let e = c.all_four-starved.ensures in
    let f = c.all_four-starved.new.first_seat in
    let u = c.all_four-starved.new.up_seat in
    let d = c.all_four-starved.new.seat in
    let none = c.in-Ok-new.first.made in
    let items : c.push_reserved-3.new.self.items ≡ f ∷ u ∷ d ∷ [] =
    c.push_reserved-3.ensures.items ∙ ap (λ l. l ++ d ∷ []) (c.push_reserved-2.ensures.items ∙ ap (λ l. l ++ u ∷ []) (c.push_reserved.ensures.items ∙ ap (λ l. l ++ f ∷ []) c.in-Ok-with_capacity.ensures.items)) in
    let made : f.made ≡ (none ++ u.index ∷ []) ++ d.index ∷ [] =
    e.first_seat.1.made ∙ c.seat-third.ensures.made ∙ ap (λ l. l ++ c.seat-third.result.index ∷ []) c.seat-second.ensures.made
    ∙ ap (λ i. (none ++ i ∷ []) ++ c.seat-third.result.index ∷ []) (sym e.up_seat.1.index) ∙ ap (λ j. (none ++ u.index ∷ []) ++ j ∷ []) (sym e.seat.1.index) in
    let t : Three acts f u d =
    three _ acts _ f u d none items (ap (λ s. s.staged.acts) c.in-Ok-new.ensures.hall.0 ∙ c.requires.stage.0)
    (e.first_seat.1.index ∙ c.seat-third.ensures.number.1 ∙ c.seat-second.ensures.number.1 ∙ c.in-Ok-new.ensures.seat.1) c.in-Ok-new.ensures.seat.4
    made (e.up_seat.1.made ∙ c.seat-second.ensures.new.2) (e.seat.1.made ∙ c.seat-third.ensures.new.2) c.close-stage.ensures.settled c.close-stage.ensures.whole in
    let same : oh ≡ origin_of c.args.stage.staged = ap (λ s. origin_of s.staged) c.in-Ok-new.ensures.hall.0 in
    let plain = commands_plain oh c.args.name.now c.args.who c.all_four-starved.result.1.0 _ _ _ _ c.seat-third.new.first f e.commands in
    let nonext = down_nonext oh c.all_four-starved.result.1.1.1 _ _ c.seat-third.result d _ _ c.seat-third.ensures.new.1 e.down in
    let played : ArePlayed oh acts = c.close-stage.ensures.legal in
    let all = sent_all oh acts f u d c.seat-second.result c.all_four-starved.result.1.1.0 _ _ _ _ t.every t.own_f t.own_u t.own_d plain nonext c.seat-second.ensures.new.1
    e.up_seat.1.number t.begins_u played e.up in
    subst (λ (o : Origin). SentAll o acts c.all_four-starved.result.1.1.0 (coming c.args.up_reader.now (g.U.Source.remaining c.args.up.now)) (g.U.Source.remaining c.all_four-starved.new.up)
    (g.U.Sink.taken c.args.up.now) (g.U.Sink.taken c.all_four-starved.new.up)) same all

pub returns-clause-shared : goal.returns-clause-shared
returns-clause-shared g c =
    let oh = origin_of c.in-Ok-new.hall.first.staged in
    let acts = c.close-stage.result.staged.acts in
    let e = c.all_four-starved.ensures in
    let f = c.all_four-starved.new.first_seat in
    let u = c.all_four-starved.new.up_seat in
    let d = c.all_four-starved.new.seat in
    let none = c.in-Ok-new.first.made in
    let items : c.push_reserved-3.new.self.items ≡ f ∷ u ∷ d ∷ [] =
    c.push_reserved-3.ensures.items ∙ ap (λ l. l ++ d ∷ []) (c.push_reserved-2.ensures.items ∙ ap (λ l. l ++ u ∷ []) (c.push_reserved.ensures.items ∙ ap (λ l. l ++ f ∷ []) c.in-Ok-with_capacity.ensures.items)) in
    let made : f.made ≡ (none ++ u.index ∷ []) ++ d.index ∷ [] =
    e.first_seat.1.made ∙ c.seat-third.ensures.made ∙ ap (λ l. l ++ c.seat-third.result.index ∷ []) c.seat-second.ensures.made
    ∙ ap (λ i. (none ++ i ∷ []) ++ c.seat-third.result.index ∷ []) (sym e.up_seat.1.index) ∙ ap (λ j. (none ++ u.index ∷ []) ++ j ∷ []) (sym e.seat.1.index) in
    let t : Three acts f u d =
    three _ acts _ f u d none items (ap (λ s. s.staged.acts) c.in-Ok-new.ensures.hall.0 ∙ c.requires.stage.0)
    (e.first_seat.1.index ∙ c.seat-third.ensures.number.1 ∙ c.seat-second.ensures.number.1 ∙ c.in-Ok-new.ensures.seat.1) c.in-Ok-new.ensures.seat.4
    made (e.up_seat.1.made ∙ c.seat-second.ensures.new.2) (e.seat.1.made ∙ c.seat-third.ensures.new.2) c.close-stage.ensures.settled c.close-stage.ensures.whole in
    let same : oh ≡ origin_of c.args.stage.staged = ap (λ s. origin_of s.staged) c.in-Ok-new.ensures.hall.0 in
    let remaining = g.C.Source.remaining c.all_four-starved.new.commands in
    let behind = typed_behind oh acts f u d c.seat-third.new.first c.seat-second.result c.seat-third.result c.args.name.now c.args.who c.all_four-starved.result.1.0 c.all_four-starved.result.1.1.0
    c.all_four-starved.result.1.1.1 _ _ _ _ _ _ _ _ _ _ _ _ t e.first_seat.1.number c.seat-second.ensures.new.1 c.seat-third.ensures.new.1 e.commands e.up e.down in
    let all = typed_all oh acts f c.seat-third.new.first c.args.name.now c.args.who c.all_four-starved.result.1.0 _ _ _ _ e.first_seat.1.number t.begins_f t.own_f e.commands behind in
    let told = g.C.Source.remaining c.args.commands.now in
    let held : coming c.new-reader.result told ≡ told = ap (λ r. coming r told) c.new-reader.ensures ∙ fresh told in (
      f.number,
      u.number,
      d.number,
      shares oh acts f u d c.seat-third.new.first c.seat-second.result c.seat-third.result c.args.name.now c.args.who c.all_four-starved.result.1.0 c.all_four-starved.result.1.1.0
          c.all_four-starved.result.1.1.1 _ _ _ _ _ _ _ _ _ _ _ _ t e.first_seat.1.number e.up_seat.1.number e.seat.1.number c.seat-second.ensures.new.1 c.seat-third.ensures.new.1
          e.commands e.up e.down,
      subst (λ (o : Origin). TypedAll o acts f.number c.args.name.now c.args.who c.all_four-starved.result.1.0 told remaining (g.O.Sink.taken c.args.out.now) (g.O.Sink.taken c.all_four-starved.new.out)) same
          (subst (λ (t : Option (List ℕ)). TypedAll oh acts f.number c.args.name.now c.args.who c.all_four-starved.result.1.0 t remaining (g.O.Sink.taken c.args.out.now) (g.O.Sink.taken c.all_four-starved.new.out)) held all),
    )
