-- A line that is cut out of what is held.
use Rattle.std.proofs.Common.{◌≡◌, ℕ, ◌+◌, ◌-◌, ◌≤◌, List, [], ◌∷◌, ◌++◌, length, drop, Bool, Some, sym, ap, ◌∙◌, subst, arith, append_assoc, length-append}
use Rattle.std.specs.Prelude.{slice_range}
use Rattle.std.proofs.lemmas.List.{length-take-le, length-drop}
use Rattle.memchr.specs.Find.{IsFirstByte, is_byte}
use Rattle.wire_lines.specs.Lines.{HasNoFeed, line_feed}
use Rattle.wire_lines.specs.declared.reader.State.{State}
use Rattle.wire_lines.specs.declared.reader.State.TheVariants as state
use Rattle.wire_lines.specs.Reader.{Reader, held_bytes, IsSound}
use Rattle.wire_lines.proofs.HasNoFeed.{cut_piece, no_feed_append}
use Rattle.wire_lines.proofs.IsSound.{reader}

-- it is what stands in front of the first line feed
pub cut_line : (limit start end at : ℕ) (front buffer text : List ℕ) (st : State) (whole : Bool) (old : Reader) → reader limit front (slice_range buffer start end) st whole ≡ old → start ≤ end → end ≤ length buffer → IsSound old
    → old.state ≡ state.Going → IsFirstByte (is_byte 10) old.piece (Some at) → length front + at ≤ limit → text ≡ front ++ slice_range buffer start (start + at)
    → (old.state ≡ state.Going) × (st ≡ state.Going) × HasNoFeed text × (length text ≤ old.limit) × (held_bytes old ≡ text ++ line_feed ∷ ([] ++ slice_range buffer (start + (at + 1)) end))
cut_line limit start end at front buffer text st whole old is order within sound going first short is_text =
    let fronts : front ≡ old.front = ap (λ r. r.front) is in
    let pieces : slice_range buffer start end ≡ old.piece = ap (λ r. r.piece) is in
    let limits : limit ≡ old.limit = ap (λ r. r.limit) is in
    let parts = cut_piece buffer start end at order within (subst (λ p. IsFirstByte (is_byte 10) p (Some at)) (sym pieces) first) in
    let size : length (slice_range buffer start (start + at)) ≡ start + at - start = length-take-le (start + at - start) (drop start buffer) (omega (arith, parts.2, length-drop start buffer)) in (
      going,
      ap (λ r. r.state) is ∙ going,
      subst HasNoFeed (sym is_text) (no_feed_append front _ (subst HasNoFeed (sym fronts) sound.no_feed) parts.1),
      omega (arith, limits, short, ap length is_text, length-append front (slice_range buffer start (start + at)), size),
      ap (λ r. held_bytes r) (sym is) ∙ ap (λ p. front ++ p) parts.0 ∙ sym (append_assoc front (slice_range buffer start (start + at)) (line_feed ∷ slice_range buffer (start + (at + 1)) end))
          ∙ ap (λ l. l ++ line_feed ∷ slice_range buffer (start + (at + 1)) end) (sym is_text),
    )
