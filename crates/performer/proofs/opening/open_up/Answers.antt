use Rattle.std.proofs.Common.{[], refl}
use Rattle.wire_lines.specs.Reader.{held_bytes}
use Rattle.activities.specs.Lines.{coming}
use Rattle.activities.specs.declared.errors.PerformError.TheVariants as error
use Rattle.activities.proofs.SentUp.{nothing_written, call_unwritten}
use Rattle.performer.specs.Opening.{join_pair}
use Rattle.performer.proofs.opening.open_up.Goals as goal

pub returns-in_default-clause-sent : goal.returns-in_default-clause-sent
returns-in_default-clause-sent g c =
    call_unwritten 1 (join_pair c.args.name.now c.args.lang) _ _ (coming c.args.reader.now (g.L.Source.remaining c.args.link.now)) _ _ _ error.Memory
    (held_bytes c.args.reader.now, refl) ([], nothing_written _, refl)
