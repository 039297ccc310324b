use Rattle.std.proofs.Common.{◌≡◌, length, sym, ap, ◌∙◌, subst, All, false}
use Rattle.std.proofs.lemmas.List.{with_items_is}
use Rattle.jam_run.specs.declared.player.Player.{Player}
use Rattle.jam_run.specs.Joins.{join_rows}
use Rattle.jam_run.specs.Playing.{AreNumbered, indexes_of, IsCast}
use Rattle.jam_run.proofs.IsJam.{still_numbered, same_indexes}
use Rattle.jam_run.proofs.runs.play.Goals as goal

pub close-requires : goal.close-requires
close-requires g c =
    let same = c.play_all.auto.players in
    let value = c.as_mut_slice.ensures.value in
    let qs = c.play_all.new.players in
    let items = with_items_is c.in_ok-players.players qs (same ∙ c.as_mut_slice.ensures.len) in
    let seat = c.in_ok-players.ensures.seat in
    let players = c.in_ok-players.ensures.players in
    let before = c.in_ok-join_all.ensures in
    let count : length qs ≡ c.args.performers = same ∙ ap length value ∙ players.3 in
    subst (IsCast c.in-Ok.hall c.args.calls c.args.seed c.seat_all.new.first) (sym items) (record {
      numbered = still_numbered c.as_mut_slice.result.now qs same c.play_all.ensures.same (subst AreNumbered (sym value) players.1);
      played = c.play_all.ensures.played;
      calm = subst (All (λ (p : Player). p.is_wanting ≡ false)) (c.as_slice.ensures.value ∙ items) (c.are_wanting.ensures c.if-are_wanting.false);
      empty = c.in-Ok.ensures.hall.0 ∙ c.new.ensures;
      seat = seat.0;
      index = seat.4 ∙ before.same.1 ∙ c.in-Ok.ensures.seat.1;
      number = seat.3 ∙ before.same.0 ∙ c.in-Ok.ensures.seat.0;
      made = players.2 ∙ sym (same_indexes c.as_mut_slice.result.now qs same c.play_all.ensures.same ∙ ap indexes_of value);
      seen = seat.1 ∙ before.joined.0 ∙ ap join_rows (sym count);
      own = seat.2 ∙ before.joined.1 ∙ ap join_rows (sym count);
    })
