use Rattle.std.proofs.Common.{◌∙◌, arith}
use Rattle.draws.proofs.DrawnEdit.{IsDrawn, went, came_at_end, came_by_chance}
use Rattle.draws.proofs.draws.Draws.edit.Goals as goal
use Rattle.draws.proofs.draws.Draws.edit.Goals.{then-chance-eq0+then-place-length+in_ok-op, else-chance-eq0+in_ok-op-2, else-chance-eq0-via-then-chance-eq0+else-place-length, else-chance-eq0-via-else-chance-eq0}

drawn : (c : goal.Joined-chance-eq0) → IsDrawn c.args.length c.args.self.now c.if-chance-eq0.draws c.if-chance-eq0.op
drawn c =
    elim c.if-chance-eq0.branch [
      | then-chance-eq0+then-place-length+in_ok-op w ↦
          went c.args.length c.args.self.now c.below-place.result c.below-chance.result c.below-place.new.self c.if-chance-eq0.draws c.if-chance-eq0.op c.below-place.ensures.drawn c.below-place.ensures.number c.below-chance.ensures.drawn (w.draws-is ∙ c.below-chance.ensures.number)
          w.if-chance-eq0.true (omega (arith, w.if-place-length.true)) (w.op-is ∙ w.in_ok-op.ensures)
      | else-chance-eq0+in_ok-op-2 w ↦
          elim w.else-chance-eq0.branch [
            | else-chance-eq0-via-then-chance-eq0+else-place-length v ↦
                came_at_end c.args.length c.args.self.now c.below-place.result c.below-place.new.self c.below-chance.new.self c.if-chance-eq0.draws w.letter-letter.result c.if-chance-eq0.op c.below-place.ensures.drawn c.below-place.ensures.number
                c.below-chance.ensures.number w.letter-letter.ensures.drawn (w.draws-is ∙ w.letter-letter.ensures.number) (omega (arith, v.if-place-length.false)) (w.op-is ∙ w.in_ok-op-2.ensures)
            | else-chance-eq0-via-else-chance-eq0 v ↦
                came_by_chance c.args.length c.args.self.now c.below-place.result c.below-chance.result c.below-place.new.self c.below-chance.new.self c.if-chance-eq0.draws w.letter-letter.result c.if-chance-eq0.op c.below-place.ensures.drawn
                c.below-place.ensures.number c.below-chance.ensures.drawn c.below-chance.ensures.number w.letter-letter.ensures.drawn (w.draws-is ∙ w.letter-letter.ensures.number) v.if-chance-eq0.false (w.op-is ∙ w.in_ok-op-2.ensures)
          ]
    ]

pub returns-clause-drawn : goal.returns-clause-drawn
returns-clause-drawn c = (drawn c).op_is

pub returns-clause-number : goal.returns-clause-number
returns-clause-number c = (drawn c).number_is
