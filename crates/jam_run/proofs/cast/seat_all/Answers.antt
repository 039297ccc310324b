use Rattle.std.proofs.Common.{rules, arith, ◌≡◌, ◌++◌, ◌∷◌, [], ◌∙◌, ap, sym, subst, length}
use Rattle.std.proofs.lemmas.List.{map-append, length-append}
use Rattle.std.proofs.lemmas.List.Elements.{All-append}
use Rattle.jam_run.specs.declared.player.Player.{Player}
use Rattle.jam_run.specs.Playing.{IsSeated, AreNumbered, indexes_of}
use Rattle.jam_run.proofs.AreNumbered.{numbered_more}
use Rattle.jam_run.proofs.cast.seat_all.Goals as goal

pub loop-seated-preserved : goal.loop-seated-preserved
loop-seated-preserved c =
    let inv = c.loop-seated.invariant in
    let ps = c.loop-seated.players.items in
    let p = c.in_ok-player.player in
    let e = c.in_ok-player.ensures in
    let items : c.push.new.self.items ≡ ps ++ p ∷ [] = search rules in
    let one = length-append ps (p ∷ []) in
    let counted = ap length items in
    let before = inv.count in
    let who = e.player.1 in
    record {
      seat = search rules;
      same = search rules;
      count = omega (arith, one, counted, before);
      seated = rw items (All-append (IsSeated c.args.hall.now) ps (p ∷ []) inv.seated (search rules));
      numbered = subst AreNumbered (sym items) (numbered_more ps p inv.numbered (omega (arith, who, before)));
      made = e.made ∙ ap (λ l. l ++ p.seat.index ∷ []) inv.made ∙ sym (ap indexes_of items ∙ map-append (λ (q : Player). q.seat.index) ps (p ∷ []));
    }
