use Rattle.std.proofs.Common.{length, refl}
use Rattle.gap_text.proofs.SliceRange.{slice_of_two}
use Rattle.gap_text.proofs.text.GapText.slice.Goals as goal

pub returns : goal.returns
returns c =
    let front = c.self.inside.chars.front in
    let behind = c.self.inside.chars.behind in
    let within = rw (← c.self.view_is) at c.requires.within in
    let two = slice_of_two front behind c.args.start c.args.end (length front) refl c.requires.order within in
    rw (← c.self.view_is, ← two, ← c.front-front.ensures.value, ← c.behind-behind.ensures.value, ← c.min.ensures, ← c.min-2.ensures, ← c.max.ensures, ← c.max-2.ensures) c.joined.ensures
