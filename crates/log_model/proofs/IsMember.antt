-- The numbers of the performers.
use Rattle.std.proofs.Common.{◌≡◌, ℕ, zero, suc, ◌+◌, ◌≤◌, Bool, true, false, ◌&&◌, ◌||◌, not, Option, List, [], ◌∷◌, ◌++◌, length, take, drop, slice_get, Some, nat_lt, ◌<◌, refl, sym, ap, ◌∙◌, subst, arith, take-append-drop, true≢false}
use Rattle.std.specs.Prelude.{nat_le, ◌==◌}
use Rattle.std.proofs.Math.Bool.{or-false}
use Rattle.std.proofs.lemmas.Bool.{and_parts, and_right, or_parts}
use Rattle.std.proofs.lemmas.Bool.Decides.{nat_tests}
use Rattle.std.proofs.lemmas.List.{take_all}
use Rattle.std.proofs.lemmas.List.Folds.{list_any-append}
use Rattle.std.proofs.lemmas.List.Sums.{sum_by-append}
use Rattle.ot_text.specs.Change.{Change}
use Rattle.troop_entry.specs.declared.call.Call.{Call}
use Rattle.troop_entry.specs.declared.call.Lang.{Lang}
use Rattle.troop_entry.specs.declared.call.Call.TheVariants as call
use Rattle.troop_entry.specs.declared.reply.Reply.TheVariants as reply
use Rattle.troop_entry.specs.declared.row.Row.{Row}
use Rattle.troop_entry.specs.Kinds.{is_join, is_leave}
use Rattle.log_model.specs.Log.{is_join_by, is_leave_by, join_count, has_join, has_leave, is_member}
use Rattle.log_model.specs.Answers.{most_joins, answer_new, answer_seen, answer_edit, author, is_accepted}
use Rattle.log_model.specs.Legal.{IsRowMade, IsLegal}
use Rattle.log_model.proofs.Lists.{take_next, slice_get-within, slice_get-take, any_at, equal_true}
use Rattle.log_model.proofs.IsLegal.{legal_front}
use Rattle.log_model.proofs.Answer.{first_chosen, second_chosen, made_is_new}

-- the number of joins behind one row more
pub join_count-one_more : (log : List Row) (row : Row) → join_count (log ++ row ∷ []) ≡ join_count log + join_count (row ∷ [])
join_count-one_more log row = sum_by-append _ log (row ∷ [])

-- who has a join row behind one row more
pub has_join-one_more : (log : List Row) (row : Row) (who : ℕ) → has_join (log ++ row ∷ []) who ≡ (has_join log who || (is_join_by who row || false))
has_join-one_more log row who = list_any-append (is_join_by who) log (row ∷ [])

-- who has a leave row behind one row more
pub has_leave-one_more : (log : List Row) (row : Row) (who : ℕ) → has_leave (log ++ row ∷ []) who ≡ (has_leave log who || (is_leave_by who row || false))
has_leave-one_more log row who = list_any-append (is_leave_by who) log (row ∷ [])

-- the performers are numbered from 1 to this number
abbrev pub AreNumberedTo : ℕ → List Row → Type 0
AreNumberedTo count log = (who : ℕ) → has_join log who ≡ (nat_le 1 who && nat_le who count)

-- no more joins than a log takes, the performers are numbered from 1, and nobody left who hadn't joined
pub record AreNumbered (log : List Row) : Type 0 where
  pub few : join_count log ≤ most_joins
  pub numbers : AreNumberedTo (join_count log) log
  pub strangers : (who : ℕ) → has_join log who ≡ false → has_leave log who ≡ false

next_number : (other who count : ℕ) → who ≡ count + 1
    → ((nat_le 1 other && nat_le other count) || (who == other || false)) ≡ (nat_le 1 other && nat_le other (count + 1))
next_number other who count next = grind (arith, nat_tests)

-- the joins stay as they were behind a row that is none
same_joins : (log : List Row) (row : Row) (who : ℕ) → is_join row.call ≡ false → has_join (log ++ row ∷ []) who ≡ has_join log who
same_joins log row who no_join =
    has_join-one_more log row who ∙ ap (λ b. has_join log who || ((b && (row.who == who)) || false)) no_join ∙ or-false (has_join log who)

-- a row that is no leave changes nobody's leaving
pub same_leaves : (log : List Row) (row : Row) (who : ℕ) → is_leave row.call ≡ false → has_leave (log ++ row ∷ []) who ≡ has_leave log who
same_leaves log row who no_leave =
    has_leave-one_more log row who ∙ ap (λ b. has_leave log who || ((b && (row.who == who)) || false)) no_leave ∙ or-false (has_leave log who)

-- a row that is no join leaves the number of joins
pub same_count : (log : List Row) (row : Row) → is_join row.call ≡ false → join_count (log ++ row ∷ []) ≡ join_count log
same_count log row no_join = let none : join_count (row ∷ []) ≡ 0 = rw no_join in join_count-one_more log row ∙ omega (arith, none)

-- a row that is no join leaves the numbers
same_numbers : (log : List Row) (row : Row) → is_join row.call ≡ false → AreNumbered log
    → ((who : ℕ) → has_join log who ≡ false → has_leave (log ++ row ∷ []) who ≡ false) → AreNumbered (log ++ row ∷ [])
same_numbers log row no_join numbered strangers =
    let count : join_count (log ++ row ∷ []) ≡ join_count log = same_count log row no_join in
    record {
      few = omega (arith, count, numbered.few);
      numbers = λ who. same_joins log row who no_join ∙ numbered.numbers who ∙ ap (λ n. nat_le 1 who && nat_le who n) (sym count);
      strangers = λ who none. strangers who (sym (same_joins log row who no_join) ∙ none);
    }

-- a row that is neither a join nor a leave
neither : (log : List Row) (row : Row) → is_join row.call ≡ false → is_leave row.call ≡ false → AreNumbered log → AreNumbered (log ++ row ∷ [])
neither log row no_join no_leave numbered =
    same_numbers log row no_join numbered (λ who none. same_leaves log row who no_leave ∙ numbered.strangers who none)

-- who leaves has joined
not_stranger : (log : List Row) (who other : ℕ) → has_join log who ≡ true → has_join log other ≡ false → (who == other) ≡ false
not_stranger log who other joined none = not_equal (who == other) refl
  where
    not_equal : (b : Bool) → (who == other) ≡ b → b ≡ false
    not_equal true is =
        let same : who ≡ other = grind (arith, nat_tests, is) in
        let both : true ≡ false = sym joined ∙ ap (has_join log) same ∙ none in cc
    not_equal false is = refl

left_more : (log : List Row) (who num seat : ℕ) (op : Option Change) → IsRowMade log (record { who = who; num = num; seat = seat; call = call.Leave; op = op })
    → AreNumbered log → AreNumbered (log ++ record { who = who; num = num; seat = seat; call = call.Leave; op = op } ∷ [])
left_more log who num seat op is_made numbered =
    let row : Row = record { who = who; num = num; seat = seat; call = call.Leave; op = op } in
    let member = first_chosen (is_member log who) (reply.Placed (length log) who) (reply.NotMember who) refl (made_is_new log row is_made).1 in
    let joined : has_join log who ≡ true = (and_parts (has_join log who) (not (has_leave log who)) member.0).0 in
    same_numbers log row refl numbered (λ other none.
    has_leave-one_more log row other ∙ ap (λ b. has_leave log other || (b || false)) (not_stranger log who other joined none)
    ∙ or-false (has_leave log other) ∙ numbered.strangers other none)

joined_more : (log : List Row) (who num seat : ℕ) (name : List ℕ) (lang : Lang) (op : Option Change) → IsRowMade log (record { who = who; num = num; seat = seat; call = call.Join name lang; op = op })
    → AreNumbered log → AreNumbered (log ++ record { who = who; num = num; seat = seat; call = call.Join name lang; op = op } ∷ [])
joined_more log who num seat name lang op is_made numbered =
    let row : Row = record { who = who; num = num; seat = seat; call = call.Join name lang; op = op } in
    let next : who ≡ join_count log + 1 = ap (λ r. r.who) is_made.same in
    let room : (join_count log == most_joins) ≡ false =
    (second_chosen (join_count log == most_joins) (reply.Crowded most_joins) (reply.Placed (length log) (join_count log + 1)) refl (made_is_new log row is_made).1).0 in
    let count : join_count (log ++ row ∷ []) ≡ join_count log + 1 = join_count-one_more log row in
    record {
      few = grind (arith, nat_tests, count, numbered.few, room);
      numbers = λ other. has_join-one_more log row other ∙ ap (λ b. b || (who == other || false)) (numbered.numbers other)
          ∙ next_number other who (join_count log) next ∙ ap (λ n. nat_le 1 other && nat_le other n) (sym count);
      strangers = λ other none. same_leaves log row other refl
          ∙ numbered.strangers other ((or_parts (has_join log other) (who == other || false) (sym (has_join-one_more log row other) ∙ none)).0);
    }

numbered_more : (log : List Row) (who num seat : ℕ) (c : Call) (op : Option Change) → IsRowMade log (record { who = who; num = num; seat = seat; call = c; op = op })
    → AreNumbered log → AreNumbered (log ++ record { who = who; num = num; seat = seat; call = c; op = op } ∷ [])
numbered_more log who num seat (call.Join name lang) op is_made numbered = joined_more log who num seat name lang op is_made numbered
numbered_more log who num seat call.Leave op is_made numbered = left_more log who num seat op is_made numbered
numbered_more log who num seat (call.Edit seen o) op is_made numbered = neither log (record { who = who; num = num; seat = seat; call = call.Edit seen o; op = op }) refl refl numbered
numbered_more log who num seat (call.Eval seen text) op is_made numbered = neither log (record { who = who; num = num; seat = seat; call = call.Eval seen text; op = op }) refl refl numbered
numbered_more log who num seat (call.Reset seen text) op is_made numbered = neither log (record { who = who; num = num; seat = seat; call = call.Reset seen text; op = op }) refl refl numbered

fronts_numbered : (n : ℕ) (log : List Row) → IsLegal log → n ≤ length log → AreNumbered (take n log)
fronts_numbered zero log legal within = record { few = omega arith; numbers = λ who. grind (arith, nat_tests); strangers = λ who _. refl }
fronts_numbered (suc n) log legal within =
    let at = slice_get-within log n (omega arith) in
    rw (take_next log n at.0 at.1)
    (numbered_more (take n log) at.0.who at.0.num at.0.seat at.0.call at.0.op (legal n at.0 at.1) (fronts_numbered n log legal (omega arith)))

-- the performers of a legal log are numbered in the order of their joins
pub numbered : (log : List Row) → IsLegal log → AreNumbered log
numbered log legal = subst AreNumbered (take_all (length log) log (omega arith)) (fronts_numbered (length log) log legal (omega arith))

-- ---- who makes rows, and where

-- a row that is no join is by a member of the rows in front
pub by_member : (log : List Row) (who : ℕ) (c : Call) → is_join c ≡ false → is_accepted (answer_new log who c) ≡ true → is_member log who ≡ true
by_member log who (call.Join name lang) plain placed = absurd (cc)
by_member log who call.Leave plain placed = (first_chosen (is_member log who) (reply.Placed (length log) who) (reply.NotMember who) refl placed).0
by_member log who (call.Edit seen op) plain placed = (first_chosen (is_member log who) (answer_edit log who seen op) (reply.NotMember who) refl placed).0
by_member log who (call.Eval seen text) plain placed = (first_chosen (is_member log who) (answer_seen log who seen) (reply.NotMember who) refl placed).0
by_member log who (call.Reset seen text) plain placed = (first_chosen (is_member log who) (answer_seen log who seen) (reply.NotMember who) refl placed).0

-- a row that is no join is by a member of the rows in front of it
pub row_by_member : (log : List Row) (i : ℕ) (row : Row) → IsLegal log → slice_get log i ≡ Some row → is_join row.call ≡ false → is_member (take i log) row.who ≡ true
row_by_member log i row legal e other = by_member (take i log) row.who row.call other (made_is_new (take i log) row (legal i row e)).1

join_author : (log : List Row) (who : ℕ) (c : Call) → is_join c ≡ true → author log who c ≡ join_count log + 1
join_author log who (call.Join name lang) is = refl
join_author log who call.Leave is = absurd (cc)
join_author log who (call.Edit seen op) is = absurd (cc)
join_author log who (call.Eval seen text) is = absurd (cc)
join_author log who (call.Reset seen text) is = absurd (cc)

-- a join's performer has the next number
pub join_number : (log : List Row) (i : ℕ) (row : Row) → IsLegal log → slice_get log i ≡ Some row → is_join row.call ≡ true → row.who ≡ join_count (take i log) + 1
join_number log i row legal e is = ap (λ (r : Row). r.who) (legal i row e).same ∙ join_author (take i log) row.who row.call is

joins_of_front : (n : ℕ) (log : List Row) → join_count (take n log) ≤ join_count log
joins_of_front n log =
    let sum : join_count (take n log ++ drop n log) ≡ join_count (take n log) + join_count (drop n log) = sum_by-append _ (take n log) (drop n log) in
    let whole : join_count (take n log ++ drop n log) ≡ join_count log = ap join_count (take-append-drop n log) in
    omega (arith, sum, whole)

number_known : (count who : ℕ) (log : List Row) → AreNumberedTo count log → has_join log who ≡ true → (1 ≤ who) × (who ≤ count)
number_known count who log numbers joined =
    let tests : (nat_le 1 who && nat_le who count) ≡ true = sym (numbers who) ∙ joined in
    (grind (arith, nat_tests, (and_parts (nat_le 1 who) (nat_le who count) tests).0), grind (arith, nat_tests, (and_parts (nat_le 1 who) (nat_le who count) tests).1))

-- a row's performer is one of those that have joined
pub row_number : (log : List Row) (i : ℕ) (row : Row) → IsLegal log → slice_get log i ≡ Some row → (1 ≤ row.who) × (row.who ≤ join_count log)
row_number log i row legal e = by_kind (is_join row.call) refl
  where
    by_kind : (b : Bool) → is_join row.call ≡ b → (1 ≤ row.who) × (row.who ≤ join_count log)
    by_kind true is =
        let next = join_number log i row legal e is in
        let one : join_count (row ∷ []) ≡ 1 = rw is refl in
        let more : join_count (take (suc i) log) ≡ join_count (take i log) + 1 = ap join_count (take_next log i row e) ∙ join_count-one_more (take i log) row ∙ omega (arith, one) in
        (omega (arith, next), omega (arith, next, more, joins_of_front (suc i) log))
    by_kind false is =
        let member = row_by_member log i row legal e is in
        let joined = (and_parts (has_join (take i log) row.who) (not (has_leave (take i log) row.who)) member).0 in
        let known = number_known (join_count (take i log)) row.who (take i log) (numbered (take i log) (legal_front log i legal)).numbers joined in
        (known.0, omega (arith, known.1, joins_of_front i log))

-- none of a performer's rows stands in front of its join
pub join_first : (log : List Row) (i j : ℕ) (row other : Row) → IsLegal log → slice_get log i ≡ Some row → slice_get log j ≡ Some other
    → is_join row.call ≡ true → other.who ≡ row.who → i ≤ j
join_first log i j row other legal e f is same = by_order (nat_lt j i) refl
  where
    by_order : (b : Bool) → nat_lt j i ≡ b → i ≤ j
    by_order false past = grind (arith, nat_tests, past)
    by_order true earlier =
        let below : j < i = grind (arith, nat_tests, earlier) in
        let next = join_number log i row legal e is in
        let known = row_number (take i log) j other (legal_front log i legal) (slice_get-take log j i other below f) in
        absurd (omega (arith, next, known.1, same))

-- nor behind its leave
pub leave_last : (log : List Row) (i j : ℕ) (row other : Row) → IsLegal log → slice_get log i ≡ Some row → slice_get log j ≡ Some other
    → is_leave row.call ≡ true → other.who ≡ row.who → j ≤ i
leave_last log i j row other legal e f is same = by_order (nat_lt i j) (is_join other.call) refl refl
  where
    by_order : (b c : Bool) → nat_lt i j ≡ b → is_join other.call ≡ c → j ≤ i
    by_order false c past kind = grind (arith, nat_tests, past)
    by_order true true earlier kind = join_first log j i other row legal f e kind (sym same)
    by_order true false earlier kind =
        let below : i < j = grind (arith, nat_tests, earlier) in
        let member = row_by_member log j other legal f kind in
        let his : is_leave_by other.who row ≡ true = rw (is, equal_true row.who other.who (sym same)) refl in
        let left : has_leave (take j log) other.who ≡ true = any_at (is_leave_by other.who) (take j log) i row (slice_get-take log i j row below e) his in
        let none : is_member (take j log) other.who ≡ false = ap (λ b. has_join (take j log) other.who && not b) left ∙ and_right (has_join (take j log) other.who) false refl in
        absurd (true≢false (sym member ∙ none))
