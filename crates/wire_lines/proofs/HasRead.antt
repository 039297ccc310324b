-- The lines that were given in a row, whether or not the source tells its bytes.
use Rattle.std.proofs.Common.{◌≡◌, ℕ, List, [], ◌∷◌, ◌++◌, sym, ap, ◌∙◌, append_assoc, inl, inr}
use Rattle.std.specs.Prelude.{Option}
use Rattle.std.proofs.lemmas.List.Elements.{All-push}
use Rattle.wire_lines.specs.Lines.{HasNoFeed, line_feed, with_feeds}
use Rattle.wire_lines.specs.declared.reader.State.TheVariants as state
use Rattle.wire_lines.specs.Reader.{Reader, held_bytes, EndsLine, HasRead}

with_feeds_push : (given : List (List ℕ)) (text rest : List ℕ) → with_feeds (given ++ text ∷ []) ++ rest ≡ with_feeds given ++ (text ++ line_feed ∷ rest)
with_feeds_push [] text rest = append_assoc text (line_feed ∷ []) rest
with_feeds_push (piece ∷ given) text rest =
    append_assoc piece (line_feed ∷ with_feeds (given ++ text ∷ [])) rest ∙ ap (λ l. piece ++ line_feed ∷ l) (with_feeds_push given text rest)
    ∙ sym (append_assoc piece (line_feed ∷ with_feeds given) (text ++ line_feed ∷ rest))

fed : (text bytes : List ℕ) (new : Reader) (remaining : Option (List ℕ)) → EndsLine text bytes new remaining → new.state ≡ state.Going → bytes ≡ text ++ line_feed ∷ held_bytes new
fed text bytes new remaining (inl (split, goes, whole)) going = split
fed text bytes new remaining (inr (same, some, empty, ended, part, over)) going = let never : state.Going ≡ state.Ended = sym going ∙ ended in absurd cc

-- one more line
pub read_more : (given : List (List ℕ)) (old new : Reader) (bytes text taken : List ℕ) (remaining : Option (List ℕ)) → HasRead given old bytes → old.state ≡ state.Going → HasNoFeed text → EndsLine text (held_bytes old ++ taken) new remaining → HasRead (given ++ text ∷ []) new (bytes ++ taken)
read_more given old new bytes text taken remaining h was none ends = record {
  no_feeds = All-push HasNoFeed given text h.no_feeds none;
  are = λ going. ap (λ b. b ++ taken) (h.are was) ∙ append_assoc (with_feeds given) (held_bytes old) taken ∙ ap (λ l. with_feeds given ++ l) (fed text (held_bytes old ++ taken) new remaining ends going) ∙ sym (with_feeds_push given text (held_bytes new));
}
