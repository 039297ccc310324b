use Rattle.std.proofs.Common.{◌+◌, ◌≤◌, drop}
use Rattle.ot_text.specs.Change.{inserted, plain}
use Rattle.ot_text.specs.Parts.{norm}
use Rattle.ot_text.proofs.AppliedInPlace.{IsAppliedInPlace}
use Rattle.gap_text.proofs.text.GapText.apply.Given as goal

abbrev pub invariant-loop-part : goal.invariant-loop-part
invariant-loop-part l = record {
  so_far : IsAppliedInPlace plain l.part-items l.fn.self.chars l.self.chars l.part-index l.place;
  room : inserted (norm (drop l.part-index l.part-items)) ≤ l.self.spare;
  paid : l.fn.self.spare + inserted (norm (drop l.part-index l.part-items)) ≤ l.self.spare + inserted l.op;
}
