use Rattle.std.proofs.Common.{◌≡◌, map, take}
use Rattle.serde_json.specs.View.{view}
use Rattle.wire_print.specs.Printed.{life_data}
use Rattle.wire_print.proofs.journal.lives_value.Given as goal

-- the values of the lives so far
abbrev pub invariant-loop-life : goal.invariant-loop-life
invariant-loop-life l = map view l.items.items ≡ map life_data (map (λ life. life.items) (take l.life-index l.lives))
