use Rattle.std.proofs.Common.{arith, ap, subst, refl, sym, inr, length, ◌+◌, ◌∷◌, ◌++◌, ◌∙◌}
use Rattle.std.specs.Prelude.{slice_range}
use Rattle.wire_lines.specs.Lines.{line_feed}
use Rattle.wire_lines.specs.Reader.{IsSound, IsLong, held_bytes}
use Rattle.wire_lines.proofs.IsLong.{long_cut, short_cut}
use Rattle.wire_lines.proofs.Cuts.{cut_line}
use Rattle.wire_lines.proofs.reader.LineReader.cut.Goals as goal

pub returns-then-len-at-clause-cuts : goal.returns-then-len-at-clause-cuts
returns-then-len-at-clause-cuts c = (
  refl,
  inr (
    c.requires.going,
    long_cut c.args.self.now c.args.at (subst IsSound c.self.view_is c.self.invariant.4) c.requires.feed
        (omega (arith, c.if-len-at.true, c.len.ensures, c.self.inside.front.ok.0, ap (λ r. r.limit) c.self.view_is, ap (λ r. length r.front) c.self.view_is)),
  ),
  ap (λ r. r.whole) c.self.view_is,
)

pub returns-clause-cuts : goal.returns-clause-cuts
returns-clause-cuts c =
    let cut = cut_line c.self.inside.limit c.self.inside.start c.self.inside.end c.args.at c.self.inside.front.items c.self.inside.buffer c.replace.result.items c.self.inside.state c.self.inside.whole c.args.self.now
    c.self.view_is c.self.invariant.0 (omega (arith, c.self.invariant.1, c.self.invariant.2)) (subst IsSound c.self.view_is c.self.invariant.4) c.requires.going c.requires.feed
    (omega (arith, c.if-len-at.false, c.len.ensures, c.self.inside.front.ok.0)) (ap (λ v. v.items) c.replace.ensures.value ∙ c.in-Ok.ensures.ok) in
    (cut.0, cut.1, cut.2, cut.3, cut.4 ∙ ap (λ d. c.replace.result.items ++ line_feed ∷ (d ++ slice_range c.self.inside.buffer (c.self.inside.start + (c.args.at + 1)) c.self.inside.end)) (sym (ap (λ v. v.items) c.replace.ensures.after ∙ c.new.ensures.items)), refl)

pub returns-in_default-clause-cuts : goal.returns-in_default-clause-cuts
returns-in_default-clause-cuts c =
    let same = ap (λ l. l ++ slice_range c.self.inside.buffer c.self.inside.start c.self.inside.end) c.in_default.ensures.err ∙ ap held_bytes c.self.view_is in (
      c.requires.going,
      ap (λ r. r.state) c.self.view_is ∙ c.requires.going,
      same,
      ap (λ r. r.whole) c.self.view_is,
      λ long. short_cut c.args.self.now c.args.at c.requires.feed
          (omega (arith, c.if-len-at.false, c.len.ensures, c.self.inside.front.ok.0, ap (λ r. r.limit) c.self.view_is, ap (λ r. length r.front) c.self.view_is)) (subst (IsLong c.args.self.now.limit) same long),
    )
