use Rattle.std.proofs.Common.{◌≡◌}
use Rattle.seat_lock.specs.Values.{CallsTo}
use Rattle.stage_state.specs.declared.reply.ActReply.{ActReply}
use Rattle.stage_state.specs.Origins.{machine_at}
use Rattle.stage_state.specs.Replies.{reply_of, accepts}
use Rattle.activities.specs.Memory.{ActsAt, origin_at}
use Rattle.activities.proofs.Remembers.{call_acts}
use Rattle.activities.proofs.IfOk.{if_ok}
use Rattle.activities.proofs.stage_hall.play.Goals as goal

pub returns-clause-ok : goal.returns-clause-ok
returns-clause-ok g c =
    let o = origin_at c.args.hall.now in
    let s = c.args.seat.now in
    let t = c.call.new.seat in
    let a = c.args.act.now in
    let P : ActReply → Type 0 = λ reply. CallsTo (λ o acts a. reply_of (machine_at o acts) a) (λ o acts a. accepts (machine_at o acts) a) (λ o acts seat a. (seat, a)) o a s reply t in
    let step : (reply : ActReply) → P reply → ActsAt o a s reply t = λ reply h. call_acts o s t a reply h in
    if_ok c.call.result P (λ reply. ActsAt o a s reply t) step c.call.ensures.ok
