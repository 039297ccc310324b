-- Where the line feeds of a list stand.
use Rattle.std.proofs.Common.{◌≡◌, ℕ, zero, suc, ◌+◌, ◌-◌, ◌<◌, ◌≤◌, List, [], ◌∷◌, ◌++◌, length, take, drop, true, false, Some, get_or, refl, ap, ◌∙◌, subst, arith, eqb-true}
use Rattle.std.specs.Prelude.{◌==◌, slice_range, slice_index}
use Rattle.std.proofs.lemmas.Bool.{false_from_ne_true, or_parts}
use Rattle.std.specs.List.{list_any}
use Rattle.std.proofs.lemmas.List.{take-take, drop-take, drop-drop, length-take-le, length-drop, take_all}
use Rattle.std.proofs.lemmas.List.Folds.{list_any-append}
use Rattle.memchr.specs.Find.{Nowhere, Passes, IsFirstByte, is_byte}
use Rattle.wire_lines.specs.Lines.{HasNoFeed, line_feed}

-- there is none in a front in which none was found
pub no_feed_take : (xs : List ℕ) (n : ℕ) → Nowhere (Passes (is_byte 10) xs) 0 n → HasNoFeed (take n xs)
no_feed_take [] zero none = refl
no_feed_take [] (suc n) none = refl
no_feed_take (x ∷ xs) zero none = refl
no_feed_take (x ∷ xs) (suc n) none =
    let first : (x == line_feed) ≡ false = false_from_ne_true (x == line_feed) (none 0 (omega arith) (omega arith)) in
    rw first (no_feed_take xs n (λ k low below. none (suc k) (omega arith) (omega arith)))

-- there is none in a list in which none was found
pub no_feed_all : (xs : List ℕ) → Nowhere (Passes (is_byte 10) xs) 0 (length xs) → HasNoFeed xs
no_feed_all xs none = subst HasNoFeed (take_all (length xs) xs (omega arith)) (no_feed_take xs (length xs) none)

-- there is none in two lists behind one another
pub no_feed_append : (xs ys : List ℕ) → HasNoFeed xs → HasNoFeed ys → HasNoFeed (xs ++ ys)
no_feed_append xs ys none none' = list_any-append (λ b. b == line_feed) xs ys ∙ rw (none, none')

-- a byte that passes is a line feed
pub feed_there : (xs : List ℕ) (n : ℕ) → n < length xs → (slice_index xs n == line_feed) ≡ true → xs ≡ take n xs ++ line_feed ∷ drop (suc n) xs
feed_there [] n within here = absurd (omega arith)
feed_there (x ∷ xs) zero within here = ap (λ b. b ∷ xs) (eqb-true x 10 here)
feed_there (x ∷ xs) (suc n) within here = ap (λ l. x ∷ l) (feed_there xs n (omega arith) here)

abbrev behind_first : List ℕ → List ℕ
behind_first [] = []
behind_first (x ∷ xs) = xs

-- a front with no line feed ends in front of the first one
pub no_feed_short : (front rest text behind : List ℕ) → front ++ rest ≡ text ++ line_feed ∷ behind → HasNoFeed front → length front ≤ length text
no_feed_short [] rest text behind is none = omega arith
no_feed_short (b ∷ front) rest [] behind is none =
    let here : b ≡ line_feed = ap (λ l. get_or l 0 b) is in
    let test = or_parts (b == line_feed) (list_any (λ d. d == line_feed) front) none in
    let never : true ≡ false = subst (λ d. (d == line_feed) ≡ false) here test.0 in absurd cc
no_feed_short (b ∷ front) rest (c ∷ text) behind is none =
    let test = or_parts (b == line_feed) (list_any (λ d. d == line_feed) front) none in
    omega (arith, no_feed_short front rest text behind (ap behind_first is) test.1)

-- a part of a buffer is what stands in front of its first line feed, and what stands behind that
pub cut_piece : (buffer : List ℕ) (start end at : ℕ) → start ≤ end → end ≤ length buffer → IsFirstByte (is_byte 10) (slice_range buffer start end) (Some at)
    → (slice_range buffer start end ≡ slice_range buffer start (start + at) ++ line_feed ∷ slice_range buffer (start + (at + 1)) end) × HasNoFeed (slice_range buffer start (start + at)) × (start + (at + 1) ≤ end)
cut_piece buffer start end at order within first =
    let piece : List ℕ = slice_range buffer start end in
    let size : length piece ≡ end - start = length-take-le (end - start) (drop start buffer) (omega (arith, length-drop start buffer)) in
    let below : at < length piece = first.0.high in
    let front : take at piece ≡ slice_range buffer start (start + at) =
    take-take at (end - start) (drop start buffer) (omega (arith, size, below)) ∙ ap (λ n. take n (drop start buffer)) (omega arith) in
    let behind : drop (suc at) piece ≡ slice_range buffer (start + (at + 1)) end =
    ap (λ n. drop (suc at) (take n (drop start buffer))) (omega (arith, size, below)) ∙ drop-take (suc at) (end - (start + (at + 1))) (drop start buffer)
    ∙ ap (take (end - (start + (at + 1)))) (drop-drop (suc at) start buffer ∙ ap (λ n. drop n buffer) (omega arith)) in (
      feed_there piece at below first.1 ∙ ap (λ l. l ++ line_feed ∷ drop (suc at) piece) front ∙ ap (λ l. slice_range buffer start (start + at) ++ line_feed ∷ l) behind,
      subst HasNoFeed front (no_feed_take piece at first.0.before),
      omega (arith, size, below),
    )
