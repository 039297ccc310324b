use Rattle.std.proofs.Common.{◌∷◌, [], ◌-◌, arith, ◌∙◌}
use Rattle.ot_text.specs.declared.part.Part.TheVariants.{Retain, Insert}
use Rattle.draws.proofs.ThreeParts.{three_parts, sizes_retained, sizes_inserted}
use Rattle.draws.proofs.edits.with.Goals as goal

pub insert_chars-requires : goal.insert_chars-requires
insert_chars-requires c =
    let one = sizes_retained c.args.place c.new-builder.result c.retain.new.self c.new-builder.ensures c.in_ok-retain.ensures.ok in
    omega (arith, one.1, c.requires.place, c.requires.short)

pub retain-requires-2-clause-base : goal.retain-requires-2-clause-base
retain-requires-2-clause-base c =
    let one = sizes_retained c.args.place c.new-builder.result c.retain.new.self c.new-builder.ensures c.in_ok-retain.ensures.ok in
    let two = sizes_inserted (c.args.letter ∷ []) c.retain.new.self c.insert_chars.new.self c.in_ok-insert_chars.ensures.ok in
    omega (arith, one.0, two.0, c.requires.place, c.requires.short)

pub retain-requires-2-clause-target : goal.retain-requires-2-clause-target
retain-requires-2-clause-target c =
    let one = sizes_retained c.args.place c.new-builder.result c.retain.new.self c.new-builder.ensures c.in_ok-retain.ensures.ok in
    let two = sizes_inserted (c.args.letter ∷ []) c.retain.new.self c.insert_chars.new.self c.in_ok-insert_chars.ensures.ok in
    omega (arith, one.1, two.1, c.requires.place, c.requires.short)

pub returns : goal.returns
returns c =
    c.finish.ensures
    ∙ three_parts (Retain c.args.place) (Insert (c.args.letter ∷ [])) (Retain (c.args.length - c.args.place)) _ _ _ _ c.new-builder.ensures c.in_ok-retain.ensures.ok c.in_ok-insert_chars.ensures.ok
    c.in_ok-retain-2.ensures.ok
