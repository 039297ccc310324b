-- Lines over the limit.
use Rattle.std.proofs.Common.{◌≡◌, ℕ, suc, ◌+◌, ◌<◌, ◌≤◌, List, [], ◌∷◌, ◌++◌, length, take, drop, Some, None, sym, ap, ◌∙◌, arith, append_assoc, append-nil, length-append}
use Rattle.std.proofs.lemmas.List.{length-take-le, take-append-drop}
use Rattle.memchr.specs.Find.{IsFirstByte, is_byte}
use Rattle.wire_lines.specs.Reader.{Reader, held_bytes, IsLong, IsSound}
use Rattle.wire_lines.specs.Lines.{line_feed}
use Rattle.wire_lines.proofs.HasNoFeed.{no_feed_take, no_feed_all, no_feed_append, no_feed_short, feed_there}

-- a line that goes on past the limit, up to a line feed
pub long_cut : (old : Reader) (at : ℕ) → IsSound old → IsFirstByte (is_byte 10) old.piece (Some at) → old.limit < length old.front + at → IsLong old.limit (held_bytes old)
long_cut old at sound first long = record {
  front = old.front ++ take at old.piece;
  rest = drop at old.piece;
  is = ap (λ l. old.front ++ l) (sym (take-append-drop at old.piece)) ∙ sym (append_assoc old.front (take at old.piece) (drop at old.piece));
  long = omega (arith, long, length-append old.front (take at old.piece), length-take-le at old.piece (omega (arith, first.0.high)));
  no_feed = no_feed_append old.front (take at old.piece) sound.no_feed (no_feed_take old.piece at first.0.before);
}

-- a line that goes on past the limit, up to the end of the piece
pub long_pass : (old : Reader) → IsSound old → IsFirstByte (is_byte 10) old.piece None → old.limit < length old.front + length old.piece → IsLong old.limit (held_bytes old)
long_pass old sound none long = record {
  front = held_bytes old;
  rest = [];
  is = sym (append-nil (held_bytes old));
  long = omega (arith, long, length-append old.front old.piece);
  no_feed = no_feed_append old.front old.piece sound.no_feed (no_feed_all old.piece none);
}

-- ---- Lines within the limit.

-- where a line feed stands within the limit, the line isn't long
pub fed_not_long : (limit : ℕ) (text behind bytes : List ℕ) → bytes ≡ text ++ line_feed ∷ behind → length text ≤ limit → IsLong limit bytes → ⊥
fed_not_long limit text behind bytes is short l = omega (arith, no_feed_short l.front l.rest text behind (sym l.is ∙ is) l.no_feed, short, l.long)

-- no more bytes than the limit aren't long
pub few_not_long : (limit : ℕ) (bytes : List ℕ) → length bytes ≤ limit → IsLong limit bytes → ⊥
few_not_long limit bytes few l = omega (arith, few, l.long, ap length l.is, length-append l.front l.rest)

-- a line within the limit, up to a line feed
pub short_cut : (old : Reader) (at : ℕ) → IsFirstByte (is_byte 10) old.piece (Some at) → length old.front + at ≤ old.limit → IsLong old.limit (held_bytes old) → ⊥
short_cut old at first short =
    fed_not_long old.limit (old.front ++ take at old.piece) (drop (suc at) old.piece) (held_bytes old)
    (ap (λ l. old.front ++ l) (feed_there old.piece at first.0.high first.1) ∙ sym (append_assoc old.front (take at old.piece) (line_feed ∷ drop (suc at) old.piece)))
    (omega (arith, short, length-append old.front (take at old.piece), length-take-le at old.piece (omega (arith, first.0.high))))
