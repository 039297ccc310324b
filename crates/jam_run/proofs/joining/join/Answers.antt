use Rattle.std.proofs.Common.{◌≡◌, subst, arith}
use Rattle.troop_entry.specs.declared.call.Call.TheVariants.{Join}
use Rattle.troop_entry.specs.declared.call.Lang.TheVariants.{Lines}
use Rattle.troop_entry.specs.declared.reply.Reply.{Reply}
use Rattle.troop_hall.specs.Seats.{IsAnswered}
use Rattle.jam_run.proofs.Joined.{joined_more}
use Rattle.jam_run.proofs.joining.join.Goals as goal

pub returns-in-Placed-clause-joined : goal.returns-in-Placed-clause-joined
returns-in-Placed-clause-joined g c = λ seen own.
    let name = c.in_ok-player_name.field-0 in
    let there : c.in-Placed.at ≡ c.args.joined = omega (arith, c.if-at-joined.true) in
    joined_more c.args.first.now c.call.new.seat c.args.joined c.in-Placed.at c.in-Placed.who name c.requires.number there c.in_ok-player_name.ensures
    (subst (λ (r : Reply). IsAnswered (record { who = 0; num = 0; call = Join name Lines }) c.args.first.now r c.call.new.seat) c.in-Placed.is c.in_ok-at.ensures.ok) seen own
