use Rattle.jam_run.proofs.IsLater.{later_same}
use Rattle.jam_run.proofs.joining.join_all.Goals as goal

pub loop-joined-init : goal.loop-joined-init
loop-joined-init g c = record { hall = c.requires.hall; later = later_same c.args.first.now; seen = c.requires.fresh.0; own = c.requires.fresh.1 }
