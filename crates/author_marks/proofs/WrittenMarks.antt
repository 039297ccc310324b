-- The marks that runs stand for.
use Rattle.std.proofs.Common.{◌≡◌, ℕ, ◌+◌, ◌-◌, ◌≤◌, List, [], ◌∷◌, ◌++◌, length, take, drop, map, replicate, refl, sym, ap, ◌∙◌, append_assoc, length-append, arith}
use Rattle.std.proofs.lemmas.List.{append-nil, take_at, length-replicate, replicate-append-replicate, drop_at, drop-drop, drop-append-le, drop-replicate, take-append-le}
use Rattle.std.proofs.lemmas.Grind.{flat_map-append}
use Rattle.gap_buffer.proofs.Paste.{take_past}
use Rattle.std.specs.Prelude.{None, Some}
use Rattle.author_marks.specs.declared.run.Run.{Run}
use Rattle.author_marks.specs.Authorship.{mark_by}
use Rattle.author_marks.specs.GapRuns.{written_marks, last_run, first_run}
use Rattle.author_marks.proofs.LastRun.{split_last, split_first, none_first, none_last}

-- the marks of runs, one list behind the other
pub written-append : (xs ys : List Run) → written_marks (xs ++ ys) ≡ written_marks xs ++ written_marks ys
written-append xs ys = flat_map-append (λ (run : Run). replicate run.count run.who) xs ys

-- the marks of one run
pub written_one : (run : Run) → written_marks (run ∷ []) ≡ replicate run.count run.who
written_one run = append-nil (replicate run.count run.who)

-- the marks of the last run stand last
pub written_last : (runs : List Run) (last : Run) → last_run runs ≡ Some last
    → written_marks runs ≡ written_marks (take (length runs - 1) runs) ++ replicate last.count last.who
written_last runs last h =
    ap written_marks (split_last runs last h)
    ∙ written-append (take (length runs - 1) runs) (last ∷ [])
    ∙ ap (λ t. written_marks (take (length runs - 1) runs) ++ t) (written_one last)

-- the marks of the first run stand first
pub written_first : (runs : List Run) (first : Run) → first_run runs ≡ Some first
    → written_marks runs ≡ replicate first.count first.who ++ written_marks (drop 1 runs)
written_first runs first h = ap written_marks (split_first runs first h)

-- how many marks there are, by the last run
pub length_last : (runs : List Run) (last : Run) → last_run runs ≡ Some last
    → length (written_marks runs) ≡ length (written_marks (take (length runs - 1) runs)) + last.count
length_last runs last h =
    omega (
      arith,
      ap length (written_last runs last h),
      length-append (written_marks (take (length runs - 1) runs)) (replicate last.count last.who),
      length-replicate last.count last.who,
    )

-- how many marks there are, by the first run
pub length_first : (runs : List Run) (first : Run) → first_run runs ≡ Some first
    → length (written_marks runs) ≡ first.count + length (written_marks (drop 1 runs))
length_first runs first h =
    omega (
      arith,
      ap length (written_first runs first h),
      length-append (replicate first.count first.who) (written_marks (drop 1 runs)),
      length-replicate first.count first.who,
    )

-- the last run made longer
pub written_longer : (runs : List Run) (last : Run) (who count : ℕ) → last_run runs ≡ Some last → last.who ≡ who
    → written_marks (take (length runs - 1) runs ++ record { who = who; count = last.count + count } ∷ []) ≡ written_marks runs ++ replicate count who
written_longer runs last who count h e =
    let front = take (length runs - 1) runs in
    written-append front (record { who = who; count = last.count + count } ∷ [])
    ∙ ap (λ t. written_marks front ++ t) (written_one record { who = who; count = last.count + count })
    ∙ ap (λ t. written_marks front ++ t) (sym (replicate-append-replicate last.count count who))
    ∙ sym (append_assoc (written_marks front) (replicate last.count who) (replicate count who))
    ∙ ap (λ w. (written_marks front ++ replicate last.count w) ++ replicate count who) (sym e)
    ∙ ap (λ t. t ++ replicate count who) (sym (written_last runs last h))

-- one more run behind the others
pub written_more : (runs : List Run) (who count : ℕ)
    → written_marks (runs ++ record { who = who; count = count } ∷ []) ≡ written_marks runs ++ replicate count who
written_more runs who count =
    written-append runs (record { who = who; count = count } ∷ [])
    ∙ ap (λ t. written_marks runs ++ t) (written_one record { who = who; count = count })

-- two runs of one number as one
pub written_joined : (front behind : List Run) (last first : Run) → last_run front ≡ Some last → first_run behind ≡ Some first → last.who ≡ first.who
    → written_marks ((take (length front - 1) front ++ record { who = last.who; count = last.count + first.count } ∷ []) ++ drop 1 behind) ≡ written_marks (front ++ behind)
written_joined front behind last first h i e =
    let made = take (length front - 1) front ++ record { who = last.who; count = last.count + first.count } ∷ [] in
    written-append made (drop 1 behind)
    ∙ ap (λ t. t ++ written_marks (drop 1 behind)) (written_longer front last last.who first.count h refl)
    ∙ append_assoc (written_marks front) (replicate first.count last.who) (written_marks (drop 1 behind))
    ∙ ap (λ w. written_marks front ++ (replicate first.count w ++ written_marks (drop 1 behind))) e
    ∙ ap (λ t. written_marks front ++ t) (sym (written_first behind first i))
    ∙ sym (written-append front behind)

-- how many marks there are with a longer last run
pub length_joined : (front : List Run) (last : Run) (count : ℕ) → last_run front ≡ Some last
    → length (written_marks (take (length front - 1) front ++ record { who = last.who; count = last.count + count } ∷ [])) ≡ length (written_marks front) + count
length_joined front last count h =
    omega (
      arith,
      ap length (written_longer front last last.who count h refl),
      length-append (written_marks front) (replicate count last.who),
      length-replicate count last.who,
    )

-- one run as two of its number, on both sides of the gap
pub written_split : (front behind : List Run) (first : Run) (count : ℕ) → first_run behind ≡ Some first → count ≤ first.count
    → written_marks ((front ++ record { who = first.who; count = count } ∷ []) ++ record { who = first.who; count = first.count - count } ∷ drop 1 behind) ≡ written_marks (front ++ behind)
written_split front behind first count h within =
    let made = front ++ record { who = first.who; count = count } ∷ [] in
    let both : count + (first.count - count) ≡ first.count = omega arith in
    let rest = replicate (first.count - count) first.who ++ written_marks (drop 1 behind) in
    written-append made (record { who = first.who; count = first.count - count } ∷ drop 1 behind)
    ∙ ap (λ t. t ++ rest) (written_more front first.who count)
    ∙ append_assoc (written_marks front) (replicate count first.who) rest
    ∙ ap (λ t. written_marks front ++ t) (sym (append_assoc (replicate count first.who) (replicate (first.count - count) first.who) (written_marks (drop 1 behind))))
    ∙ ap (λ t. written_marks front ++ (t ++ written_marks (drop 1 behind))) (replicate-append-replicate count (first.count - count) first.who)
    ∙ ap (λ k. written_marks front ++ (replicate k first.who ++ written_marks (drop 1 behind))) both
    ∙ ap (λ t. written_marks front ++ t) (sym (written_first behind first h))
    ∙ sym (written-append front behind)

-- fewer marks of the first run, and none of it
pub drop_within : (runs : List Run) (first : Run) (count : ℕ) → first_run runs ≡ Some first → count ≤ first.count
    → written_marks (record { who = first.who; count = first.count - count } ∷ drop 1 runs) ≡ drop count (written_marks runs)
drop_within runs first count h within =
    let short : count ≤ length (replicate first.count first.who) = omega (arith, length-replicate first.count first.who) in
    sym (
    ap (drop count) (written_first runs first h) ∙ drop-append-le count (replicate first.count first.who) (written_marks (drop 1 runs)) short
    ∙ ap (λ t. t ++ written_marks (drop 1 runs)) (drop-replicate count first.count first.who)
    )

-- the first run taken out, and more
pub drop_first : (runs : List Run) (first : Run) (count : ℕ) → first_run runs ≡ Some first → first.count ≤ count
    → drop (count - first.count) (written_marks (drop 1 runs)) ≡ drop count (written_marks runs)
drop_first runs first count h past =
    let all : first.count + (count - first.count) ≡ count = omega arith in
    let own = replicate first.count first.who in
    sym (
    ap (drop count) (written_first runs first h)
    ∙ ap (λ k. drop k (own ++ written_marks (drop 1 runs))) (sym all)
    ∙ sym (drop-drop (count - first.count) first.count (own ++ written_marks (drop 1 runs)))
    ∙ ap (drop (count - first.count)) (drop_at own (written_marks (drop 1 runs)) first.count (length-replicate first.count first.who))
    )

-- the gap moved back over the last run, and on over the first one
pub before_back : (front behind : List Run) (last : Run) → last_run front ≡ Some last
    → length (written_marks (take (length front - 1) (front ++ behind))) + last.count ≡ length (written_marks front)
before_back front behind last h =
    let shorter : length front - 1 ≤ length front = omega arith in
    omega (arith, ap (λ runs. length (written_marks runs)) (take-append-le (length front - 1) front behind shorter), length_last front last h)

-- the gap moved on over the first run
pub before_on : (front behind : List Run) (first : Run) → first_run behind ≡ Some first
    → length (written_marks (take (length front + 1) (front ++ behind))) ≡ length (written_marks front) + first.count
before_on front behind first h =
    let one : take 1 behind ≡ first ∷ [] = ap (take 1) (split_first behind first h) in
    let is : take (length front + 1) (front ++ behind) ≡ front ++ first ∷ [] =
    take_past front behind (length front + 1) 1 refl ∙ ap (λ runs. front ++ runs) one in
    omega (
      arith,
      ap (λ runs. length (written_marks runs)) is,
      ap length (written_more front first.who first.count),
      length-append (written_marks front) (replicate first.count first.who),
      length-replicate first.count first.who,
    )

-- how many marks stand on both sides
pub length_whole : (front behind : List Run) → length (written_marks (front ++ behind)) ≡ length (written_marks front) + length (written_marks behind)
length_whole front behind = omega (arith, ap length (written-append front behind), length-append (written_marks front) (written_marks behind))

-- no marks, where there is no run
pub none_written_first : (runs : List Run) → first_run runs ≡ None → length (written_marks runs) ≡ 0
none_written_first runs h = ap (λ r. length (written_marks r)) (none_first runs h)

-- no marks, where there is no last run
pub none_written_last : (runs : List Run) → last_run runs ≡ None → length (written_marks runs) ≡ 0
none_written_last runs h = ap (λ r. length (written_marks r)) (none_last runs h)

-- marks put in at the gap
pub written_put : (front behind made : List Run) (m : List ℕ) (who count place end : ℕ)
    → end ≡ place → written_marks (front ++ behind) ≡ m → length (written_marks front) ≡ place → written_marks made ≡ written_marks front ++ replicate count who
    → written_marks (made ++ behind) ≡ take place m ++ (replicate count who ++ drop end m)
written_put front behind made m who count place end same e h i =
    let all : m ≡ written_marks front ++ written_marks behind = sym e ∙ written-append front behind in
    let before : written_marks front ≡ take place m = sym (ap (take place) all ∙ take_at (written_marks front) (written_marks behind) place h) in
    let rest : written_marks behind ≡ drop place m = sym (ap (drop place) all ∙ drop_at (written_marks front) (written_marks behind) place h) in
    written-append made behind
    ∙ ap (λ t. t ++ written_marks behind) i
    ∙ append_assoc (written_marks front) (replicate count who) (written_marks behind)
    ∙ ap (λ t. t ++ (replicate count who ++ written_marks behind)) before
    ∙ ap (λ t. take place m ++ (replicate count who ++ t)) (rest ∙ ap (λ n. drop n m) (sym same))

-- the marks of a text that this performer puts in
pub map-mark_by : (who : ℕ) (t : List ℕ) → map (mark_by who) t ≡ replicate (length t) who
map-mark_by who [] = refl
map-mark_by who (c ∷ t) = ap (λ rest. who ∷ rest) (map-mark_by who t)
