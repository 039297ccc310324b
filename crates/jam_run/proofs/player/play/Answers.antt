use Rattle.std.proofs.Common.{◌≡◌, ℕ, ◌+◌, ◌%◌, ◌^◌, sym, ap, ◌∙◌, subst}
use Rattle.jam_run.specs.Drawing.{first_number}
use Rattle.jam_run.specs.Playing.{Rests}
use Rattle.jam_run.proofs.IsPlaying.{rests_first}
use Rattle.jam_run.proofs.OnOk.{if_calm}
use Rattle.jam_run.proofs.player.play.Goals as goal

pub returns-clause-played : goal.returns-clause-played
returns-clause-played g c =
    let p = c.args.player.now in
    let e = c.make_bursts-made.ensures in
    let first : c.new-draws.result ≡ first_number c.args.seed p.who = c.new-draws.ensures ∙ ap (λ k. (c.args.seed + k) % 2 ^ 64) c.from.ensures in
    let fresh = rests_first c.args.seed p.who c.requires.joined p.seat.seen p.seat.own p.stage.staged c.requires.who_is c.requires.stage c.requires.played c.requires.own in
    record {
      seat = e.same.seat;
      made = e.same.later.made ∙ c.requires.made;
      rests = λ calm. (
        c.make_bursts-made.new.draws,
        if_calm c.make_bursts-made.result _ (sym c.is_err-player.ensures.value ∙ calm) e.made c.args.seed (subst (λ (n : ℕ). Rests c.args.seed 0 p n) (sym first) fresh),
      );
    }
