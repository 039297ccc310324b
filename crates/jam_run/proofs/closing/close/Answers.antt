use Rattle.std.proofs.Common.{List, length, sym, ◌∙◌, subst}
use Rattle.std.proofs.lemmas.List.{with_items_is}
use Rattle.seat_lock.specs.Lists.{AllOf}
use Rattle.stage_state.specs.Staged.{StageValue}
use Rattle.troop_hall.specs.Seats.{IsDeskSeat}
use Rattle.jam_run.specs.Jams.{IsJam, staged_of}
use Rattle.jam_run.proofs.IsJam.{all_of_hall, stages_within, stages_jam}
use Rattle.jam_run.proofs.closing.close.Goals as goal

pub close-desk-requires-clause-hall : goal.close-desk-requires-clause-hall
close-desk-requires-clause-hall g c =
    subst (AllOf (IsDeskSeat c.args.hall)) (sym c.in_ok-seats.ensures.0) (all_of_hall c.args.hall c.args.calls c.args.seed c.args.first c.args.players.items c.requires)

pub take_rests-requires : goal.take_rests-requires
take_rests-requires g c =
    stages_within c.args.hall c.args.calls c.args.seed c.args.first c.args.players.items c.requires c.close-desk.result c.in_ok-seats.seats.items c.in_ok-seats.ensures.0
    (record { settled = c.close-desk.ensures.settled; whole = c.close-desk.ensures.whole }) c.as_mut_slice.result.now (c.as_mut_slice.ensures.value ∙ c.in_ok-seats.ensures.1)

pub returns : goal.returns
returns g c =
    let same = c.take_rests.auto.stages in
    let ws = c.take_rests.new.stages in
    let ps = c.args.players.items in
    subst (λ (l : List StageValue). IsJam (length ps) c.args.calls c.args.seed c.close-desk.result (staged_of l)) (sym (with_items_is c.in_ok-seats.stages ws (same ∙ c.as_mut_slice.ensures.len)))
    (stages_jam c.args.hall c.args.calls c.args.seed c.args.first ps c.requires c.close-desk.result c.in_ok-seats.seats.items c.in_ok-seats.ensures.0
    (record { settled = c.close-desk.ensures.settled; whole = c.close-desk.ensures.whole }) c.as_mut_slice.result.now ws (c.as_mut_slice.ensures.value ∙ c.in_ok-seats.ensures.1)
    c.close-desk.ensures.legal same c.in_ok-take_rests.ensures)
