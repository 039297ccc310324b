use Rattle.std.proofs.Common.{◌-◌, arith, ◌∙◌}
use Rattle.ot_text.specs.declared.part.Part.TheVariants.{Retain, Delete}
use Rattle.draws.proofs.ThreeParts.{three_parts, sizes_retained, sizes_deleted}
use Rattle.draws.proofs.edits.without.Goals as goal

pub delete-requires : goal.delete-requires
delete-requires c =
    let one = sizes_retained c.args.place c.new-builder.result c.retain.new.self c.new-builder.ensures c.in_ok-retain.ensures.ok in
    omega (arith, one.0, c.requires.place, c.requires.short)

pub retain-requires-2-clause-base : goal.retain-requires-2-clause-base
retain-requires-2-clause-base c =
    let one = sizes_retained c.args.place c.new-builder.result c.retain.new.self c.new-builder.ensures c.in_ok-retain.ensures.ok in
    let two = sizes_deleted 1 c.retain.new.self c.delete.new.self c.in_ok-delete.ensures.ok in
    omega (arith, one.0, two.0, c.requires.place, c.requires.short)

pub retain-requires-2-clause-target : goal.retain-requires-2-clause-target
retain-requires-2-clause-target c =
    let one = sizes_retained c.args.place c.new-builder.result c.retain.new.self c.new-builder.ensures c.in_ok-retain.ensures.ok in
    let two = sizes_deleted 1 c.retain.new.self c.delete.new.self c.in_ok-delete.ensures.ok in
    omega (arith, one.1, two.1, c.requires.place, c.requires.short)

pub returns : goal.returns
returns c =
    c.finish.ensures
    ∙ three_parts (Retain c.args.place) (Delete 1) (Retain (c.args.length - c.args.place - 1)) _ _ _ _ c.new-builder.ensures c.in_ok-retain.ensures.ok c.in_ok-delete.ensures.ok c.in_ok-retain-2.ensures.ok
