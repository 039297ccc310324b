use Rattle.std.proofs.Common.{◌≡◌, ℕ, ◌-◌, ◌≤◌, List, ◌++◌, arith, ap, subst, refl, inr, length, drop, ◌∙◌}
use Rattle.std.specs.Prelude.{slice_range}
use Rattle.std.proofs.Common.{length-append, []}
use Rattle.std.proofs.lemmas.List.{length-take-le, length-drop}
use Rattle.std.proofs.Math.Nat.{sub_self}
use Rattle.wire_lines.specs.Reader.{IsSound, IsLong, held_bytes}
use Rattle.wire_lines.proofs.IsLong.{long_pass, few_not_long}
use Rattle.wire_lines.proofs.IsSound.{pass_sound}
use Rattle.wire_lines.proofs.reader.LineReader.pass.Goals as goal

size : (buffer : List ℕ) (start end : ℕ) → end ≤ 4096 → length buffer ≡ 4096 → length (slice_range buffer start end) ≡ end - start
size buffer start end within long = length-take-le (end - start) (drop start buffer) (omega (arith, within, long, length-drop start buffer))

nothing : (buffer : List ℕ) (end : ℕ) → slice_range buffer end end ≡ []
nothing buffer end = rw (sub_self end) refl

pub returns-then-len-self-clause-looked : goal.returns-then-len-self-clause-looked
returns-then-len-self-clause-looked c = (
  refl,
  inr (
    c.requires.going,
    long_pass c.args.self.now (subst IsSound c.self.view_is c.self.invariant.4) c.requires.no_feed
        (omega (
          arith,
          c.if-len-self.true,
          c.len.ensures,
          c.self.inside.front.ok.0,
          size c.self.inside.buffer c.self.inside.start c.self.inside.end c.self.invariant.1 c.self.invariant.2,
          ap (λ r. r.limit) c.self.view_is,
          ap (λ r. length r.front) c.self.view_is,
          ap (λ r. length r.piece) c.self.view_is,
        )),
  ),
  ap (λ r. r.whole) c.self.view_is,
)

pub invariant_of-self-2 : goal.invariant_of-self-2
invariant_of-self-2 c = (
  omega arith,
  c.self.invariant.1,
  c.self.invariant.2,
  c.self.invariant.3,
  pass_sound c.self.inside.limit c.self.inside.start c.self.inside.end c.self.inside.front.items c.self.inside.buffer c.put_behind.new.front.items c.self.inside.state c.self.inside.whole c.args.self.now c.self.view_is
      (subst IsSound c.self.view_is c.self.invariant.4) c.requires.going c.requires.no_feed
      (omega (
        arith,
        c.if-len-self.false,
        c.len.ensures,
        c.self.inside.front.ok.0,
        size c.self.inside.buffer c.self.inside.start c.self.inside.end c.self.invariant.1 c.self.invariant.2,
        ap length c.in-Ok.ensures.ok,
        length-append c.self.inside.front.items (slice_range c.self.inside.buffer c.self.inside.start c.self.inside.end),
      ))
      c.in-Ok.ensures.ok _,
)

pub returns-clause-looked : goal.returns-clause-looked
returns-clause-looked c = record {
  going = c.requires.going;
  state = ap (λ r. r.state) c.self.view_is ∙ c.requires.going;
  front = c.in-Ok.ensures.ok ∙ ap held_bytes c.self.view_is;
  piece = nothing c.self.inside.buffer c.self.inside.end;
  short = omega (
    arith,
    c.if-len-self.false,
    c.len.ensures,
    c.self.inside.front.ok.0,
    size c.self.inside.buffer c.self.inside.start c.self.inside.end c.self.invariant.1 c.self.invariant.2,
    ap (λ r. r.limit) c.self.view_is,
    ap (λ r. length (held_bytes r)) c.self.view_is,
    length-append c.self.inside.front.items (slice_range c.self.inside.buffer c.self.inside.start c.self.inside.end),
  );
  no_feed = (pass_sound c.self.inside.limit c.self.inside.start c.self.inside.end c.self.inside.front.items c.self.inside.buffer c.put_behind.new.front.items c.self.inside.state c.self.inside.whole c.args.self.now c.self.view_is
      (subst IsSound c.self.view_is c.self.invariant.4) c.requires.going c.requires.no_feed
      (omega (
        arith,
        c.if-len-self.false,
        c.len.ensures,
        c.self.inside.front.ok.0,
        size c.self.inside.buffer c.self.inside.start c.self.inside.end c.self.invariant.1 c.self.invariant.2,
        ap length c.in-Ok.ensures.ok,
        length-append c.self.inside.front.items (slice_range c.self.inside.buffer c.self.inside.start c.self.inside.end),
      ))
      c.in-Ok.ensures.ok []).no_feed;
  whole = ap (λ r. r.whole) c.self.view_is;
}

pub returns-in_default-clause-looked : goal.returns-in_default-clause-looked
returns-in_default-clause-looked c =
    let same = ap (λ l. l ++ slice_range c.self.inside.buffer c.self.inside.start c.self.inside.end) c.in_default.ensures.err ∙ ap held_bytes c.self.view_is in (
      c.requires.going,
      ap (λ r. r.state) c.self.view_is ∙ c.requires.going,
      same,
      ap (λ r. r.whole) c.self.view_is,
      λ long. few_not_long c.args.self.now.limit (held_bytes c.args.self.now)
          (omega (
            arith,
            c.if-len-self.false,
            c.len.ensures,
            c.self.inside.front.ok.0,
            size c.self.inside.buffer c.self.inside.start c.self.inside.end c.self.invariant.1 c.self.invariant.2,
            ap (λ r. r.limit) c.self.view_is,
            ap (λ r. length (held_bytes r)) c.self.view_is,
            length-append c.self.inside.front.items (slice_range c.self.inside.buffer c.self.inside.start c.self.inside.end),
          )) (subst (IsLong c.args.self.now.limit) same long),
    )
