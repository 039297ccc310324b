use Rattle.std.proofs.Common.{map}
use Rattle.wire_print.proofs.HasFloat.{all_lives_have_none}
use Rattle.wire_print.proofs.journal.print_lives.Goals as goal

pub print_value-requires : goal.print_value-requires
print_value-requires c = rw c.in_ok-value.ensures (all_lives_have_none c.args.who (map (λ life. life.items) c.args.lives.now))
