-- A reader whose fields are known stays sound.
use Rattle.std.proofs.Common.{◌≡◌, ℕ, ◌≤◌, List, ◌++◌, length, Bool, None, sym, ap, ◌∙◌, subst}
use Rattle.std.specs.Prelude.{slice_range}
use Rattle.memchr.specs.Find.{IsFirstByte, is_byte}
use Rattle.wire_lines.specs.Lines.{HasNoFeed}
use Rattle.wire_lines.specs.declared.reader.State.{State}
use Rattle.wire_lines.specs.declared.reader.State.TheVariants as state
use Rattle.wire_lines.specs.Reader.{Reader, held_bytes, IsSound}
use Rattle.wire_lines.proofs.HasNoFeed.{no_feed_append, no_feed_all}

-- a reader of these fields
abbrev pub reader : ℕ → List ℕ → List ℕ → State → Bool → Reader
reader limit front piece st whole = record { limit = limit; front = front; piece = piece; state = st; whole = whole }

-- the whole piece was put behind the front
pub pass_sound : (limit start end : ℕ) (front buffer front' : List ℕ) (st : State) (whole : Bool) (old : Reader) → reader limit front (slice_range buffer start end) st whole ≡ old → IsSound old → old.state ≡ state.Going
    → IsFirstByte (is_byte 10) old.piece None → length front' ≤ limit → front' ≡ front ++ slice_range buffer start end → (piece' : List ℕ) → IsSound (reader limit front' piece' st whole)
pass_sound limit start end front buffer front' st whole old is sound going none short is_front piece' = record {
  no_feed = subst HasNoFeed (ap (λ r. held_bytes r) (sym is) ∙ sym is_front) (no_feed_append old.front old.piece sound.no_feed (no_feed_all old.piece none));
  short = short;
  ended = λ ended. let never : state.Going ≡ state.Ended = sym going ∙ sym (ap (λ r. r.state) is) ∙ ended in absurd cc;
}
