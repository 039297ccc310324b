-- Rows under their numbers.
use Rattle.std.proofs.Common.{◌≡◌, ◌≢◌, ℕ, zero, suc, ◌+◌, ◌<◌, ◌≤◌, Bool, true, false, ◌||◌, if◌then◌else◌, nat_lt, Option, None, Some, List, [], ◌∷◌, ◌++◌, length, take, slice_get, refl, sym, ap, ◌∙◌, subst, true≢false, arith}
use Rattle.std.specs.Prelude.{◌==◌}
use Rattle.std.proofs.lemmas.Bool.{and_parts}
use Rattle.std.proofs.lemmas.Bool.Decides.{nat_tests}
use Rattle.troop_entry.specs.declared.call.Call.{Call}
use Rattle.troop_entry.specs.declared.call.Call.TheVariants as call
use Rattle.troop_entry.specs.declared.reply.Reply.{Reply}
use Rattle.troop_entry.specs.declared.reply.Reply.TheVariants as reply
use Rattle.troop_entry.specs.declared.row.Row.{Row}
use Rattle.troop_entry.specs.Same.{same_call}
use Rattle.troop_entry.proofs.SameCall.{call_decides}
use Rattle.ot_text.specs.Change.{base}
use Rattle.troop_entry.specs.Kinds.{is_join}
use Rattle.log_model.specs.Log.{is_member, join_count, doc, is_numbered, call_under_from, call_under}
use Rattle.log_model.specs.Answers.{most_joins, answer, answer_new, answer_by, answer_seen, answer_edit, earlier_call, number, row_made, served_op, is_accepted, log_after}
use Rattle.log_model.specs.Legal.{IsRowMade, IsLegal}
use Rattle.log_model.proofs.Lists.{slice_get-take, slice_get-append, slice_get-last, length-one_more, equal_true, true_equal}
use Rattle.log_model.proofs.Answer.{made_is_new}

neither_is : {A : Type 0} (b : Bool) (x : A) (o : Option A) → (if b then Some x else o) ≡ None → (b ≡ false) × (o ≡ None)
neither_is true x o none = absurd (cc)
neither_is false x o none = (refl, none)

-- where no row is found, none is there
pub none_under : (at who num : ℕ) (rows : List Row) (i : ℕ) (row : Row) → call_under_from at who num rows ≡ None → slice_get rows i ≡ Some row → is_numbered who num row ≡ false
none_under at who num [] i row none e = absurd (cc)
none_under at who num (x ∷ rows) zero row none e =
    let same : x ≡ row = cc in ap (is_numbered who num) (sym same) ∙ (neither_is (is_numbered who num x) (at, x.call) (call_under_from (suc at) who num rows) none).0
none_under at who num (x ∷ rows) (suc i) row none e =
    none_under (suc at) who num rows i row (neither_is (is_numbered who num x) (at, x.call) (call_under_from (suc at) who num rows) none).1 e

-- the first that is there is found
found_under : (at who num : ℕ) (rows : List Row) (i k : ℕ) (row : Row) → slice_get rows i ≡ Some row → is_numbered who num row ≡ true
    → ((j : ℕ) (x : Row) → j < i → slice_get rows j ≡ Some x → is_numbered who num x ≡ false) → k ≡ at + i → call_under_from at who num rows ≡ Some (k, row.call)
found_under at who num [] i k row e is first sum = absurd (cc)
found_under at who num (x ∷ rows) zero k row e is first sum =
    let same : x ≡ row = cc in
    let here : k ≡ at = omega arith in
    rw (same, is, here) refl
found_under at who num (x ∷ rows) (suc i) k row e is first sum =
    rw (first 0 x (omega arith) refl) (found_under (suc at) who num rows i k row e is (λ j y below f. first (suc j) y (omega arith) f) (omega arith))

-- one row more
pub call_under-one_more : (at who num : ℕ) (rows : List Row) (row : Row) (k : ℕ) → k ≡ at + length rows → call_under_from at who num rows ≡ None
    → call_under_from at who num (rows ++ row ∷ []) ≡ (if is_numbered who num row then Some (k, row.call) else None)
call_under-one_more at who num [] row k e none = let here : k ≡ at = omega arith in rw here refl
call_under-one_more at who num (x ∷ rows) row k e none =
    let n = neither_is (is_numbered who num x) (at, x.call) (call_under_from (suc at) who num rows) none in
    rw n.0 (call_under-one_more (suc at) who num rows row k (omega arith) n.1)

stays_found : {A : Type 0} (b : Bool) (x : A) (o new : Option A) (p : A) → (if b then Some x else o) ≡ Some p → (o ≡ Some p → new ≡ Some p) → (if b then Some x else new) ≡ Some p
stays_found true x o new p e f = e
stays_found false x o new p e f = f e

-- a row under a number stays the first under it
pub call_under-stays : (at who num : ℕ) (rows : List Row) (row : Row) (p : ℕ × Call) → call_under_from at who num rows ≡ Some p
    → call_under_from at who num (rows ++ row ∷ []) ≡ Some p
call_under-stays at who num [] row p e = absurd (cc)
call_under-stays at who num (x ∷ rows) row p e =
    stays_found (is_numbered who num x) (at, x.call) (call_under_from (suc at) who num rows) (call_under_from (suc at) who num (rows ++ row ∷ [])) p e
    (call_under-stays (suc at) who num rows row p)

-- what is found is the call of a row of theirs
pub record IsRowUnder (at who num : ℕ) (rows : List Row) (found : ℕ × Call) : Type 0 where
  pub place : ℕ
  pub sum : found.0 ≡ at + place
  pub row : Row
  pub is_row : slice_get rows place ≡ Some row
  pub call_is : row.call ≡ found.1
  pub under : is_numbered who num row ≡ true

found_or : (b : Bool) (at who num : ℕ) (x : Row) (rows : List Row) (p : ℕ × Call) → is_numbered who num x ≡ b → (if b then Some (at, x.call) else call_under_from (suc at) who num rows) ≡ Some p
    → (call_under_from (suc at) who num rows ≡ Some p → IsRowUnder (suc at) who num rows p) → IsRowUnder at who num (x ∷ rows) p
found_or true at who num x rows p is e f =
    let same : (at, x.call) ≡ p = cc in
    record { place = 0; sum = omega (arith, ap (λ (q : ℕ × Call). q.0) same); row = x; is_row = refl; call_is = ap (λ (q : ℕ × Call). q.1) same; under = is }
found_or false at who num x rows p is e f =
    let later = f e in
    record { place = suc later.place; sum = omega (arith, later.sum); row = later.row; is_row = later.is_row; call_is = later.call_is; under = later.under }

-- what is found under a number is a row of that performer under that number
pub row_under : (at who num : ℕ) (rows : List Row) (p : ℕ × Call) → call_under_from at who num rows ≡ Some p → IsRowUnder at who num rows p
row_under at who num [] p e = absurd (cc)
row_under at who num (x ∷ rows) p e = found_or (is_numbered who num x) at who num x rows p refl e (row_under (suc at) who num rows p)

-- ---- in legal logs

made_number : (num : ℕ) (c : Call) → num ≡ number num c → 1 ≤ num → is_join c ≡ false
made_number num (call.Join name lang) e some = absurd (omega arith)
made_number num call.Leave e some = refl
made_number num (call.Edit seen op) e some = refl
made_number num (call.Eval seen text) e some = refl
made_number num (call.Reset seen text) e some = refl

-- a row that has a number is no join
pub numbered_no_join : (log : List Row) (row : Row) → IsRowMade log row → 1 ≤ row.num → is_join row.call ≡ false
numbered_no_join log row is_made some = made_number row.num row.call (ap (λ (r : Row). r.num) is_made.same) some

-- a call that has a number asks for it
pub asks_number : (log : List Row) (who num : ℕ) (c : Call) → is_join c ≡ false → 1 ≤ num → earlier_call log who num c ≡ call_under log who num
asks_number log who num c no_join some =
    let test : (num == 0) ≡ false = grind (arith, nat_tests) in rw (no_join, test) refl

-- no row in front of it stands under a row's number
pub free_number : (log : List Row) (row : Row) → IsRowMade log row → 1 ≤ row.num → call_under log row.who row.num ≡ None
free_number log row is_made some =
    sym (asks_number log row.who row.num row.call (numbered_no_join log row is_made some) some) ∙ (made_is_new log row is_made).0

is_numbered-unchanged : (who num : ℕ) (row : Row) → row.who ≡ who → row.num ≡ num → is_numbered who num row ≡ true
is_numbered-unchanged who num row w n = rw (equal_true row.who who w, equal_true row.num num n) refl

not_before : (log : List Row) (i j : ℕ) (row other : Row) → IsLegal log → slice_get log i ≡ Some row → slice_get log j ≡ Some other
    → row.who ≡ other.who → row.num ≡ other.num → 1 ≤ other.num → i < j → ⊥
not_before log i j row other legal e f w n some below =
    let none = none_under 0 other.who other.num (take j log) i row (free_number (take j log) other (legal j other f) some) (slice_get-take log i j row below e) in
    let is = is_numbered-unchanged other.who other.num row w n in
    let clash : true ≡ false = sym is ∙ none in cc

-- no two rows of one performer have one number
pub distinct : (log : List Row) (i j : ℕ) (row other : Row) → IsLegal log → slice_get log i ≡ Some row → slice_get log j ≡ Some other
    → row.who ≡ other.who → row.num ≡ other.num → 1 ≤ row.num → i ≡ j
distinct log i j row other legal e f w n some = by_order (nat_lt i j) (nat_lt j i) refl refl
  where
    by_order : (b c : Bool) → nat_lt i j ≡ b → nat_lt j i ≡ c → i ≡ j
    by_order true c is is2 = absurd (not_before log i j row other legal e f w n (omega (arith, n, some)) (grind (arith, nat_tests, is)))
    by_order false true is is2 = absurd (not_before log j i other row legal f e (sym w) (sym n) some (grind (arith, nat_tests, is2)))
    by_order false false is is2 = grind (arith, nat_tests, is, is2)

-- a row is found under its number
pub found_row : (log : List Row) (i : ℕ) (row : Row) → IsLegal log → slice_get log i ≡ Some row → 1 ≤ row.num → call_under log row.who row.num ≡ Some (i, row.call)
found_row log i row legal e some =
    found_under 0 row.who row.num log i i row e (is_numbered-unchanged row.who row.num row refl refl)
    (λ j x below f. none_under 0 row.who row.num (take i log) j x (free_number (take i log) row (legal i row e) some) (slice_get-take log j i x below f))
    (omega arith)

-- a call that isn't placed leaves the log
pub unplaced : (log : List Row) (seat who num : ℕ) (c : Call) (r : Reply) → answer log who num c ≡ r → is_accepted r ≡ false → log_after log seat who num c ≡ log
unplaced log seat who num c r is plain = rw (is, plain) refl

-- a call asked again is told its row's position, and leaves the log
pub kept_again : (log : List Row) (i : ℕ) (row : Row) (seat : ℕ) → IsLegal log → slice_get log i ≡ Some row → 1 ≤ row.num
    → (answer log row.who row.num row.call ≡ reply.Kept i row.who) × (log_after log seat row.who row.num row.call ≡ log)
kept_again log i row seat legal e some =
    let found = asks_number log row.who row.num row.call (numbered_no_join (take i log) row (legal i row e) some) some ∙ found_row log i row legal e some in
    let is : answer log row.who row.num row.call ≡ reply.Kept i row.who =
    ap (λ f. answer_by f row.who row.num row.call (answer_new log row.who row.call)) found
    ∙ ap (λ (b : Bool). if b then reply.Kept i row.who else reply.Clash row.num i) ((call_decides row.call row.call).1 refl) in
    (is, unplaced log seat row.who row.num row.call (reply.Kept i row.who) is refl)

-- another call under the same number is told of it, and leaves the log
pub clash_again : (log : List Row) (i : ℕ) (row : Row) (seat : ℕ) (c : Call) → IsLegal log → slice_get log i ≡ Some row → 1 ≤ row.num
    → is_join c ≡ false → row.call ≢ c
    → (answer log row.who row.num c ≡ reply.Clash row.num i) × (log_after log seat row.who row.num c ≡ log)
clash_again log i row seat c legal e some no_join differ =
    let found = asks_number log row.who row.num c no_join some ∙ found_row log i row legal e some in
    let is : answer log row.who row.num c ≡ reply.Clash row.num i =
    ap (λ f. answer_by f row.who row.num c (answer_new log row.who c)) found
    ∙ ap (λ (b : Bool). if b then reply.Kept i row.who else reply.Clash row.num i) (not_same (same_call row.call c) refl) in
    (is, unplaced log seat row.who row.num c (reply.Clash row.num i) is refl)
  where
    not_same : (b : Bool) → same_call row.call c ≡ b → b ≡ false
    not_same true is = absurd (differ ((call_decides row.call c).0 is))
    not_same false is = refl

-- ---- what an answer tells

made_plain : (log : List Row) (seat who num : ℕ) (c : Call) → is_join c ≡ false → row_made log seat who num c ≡ record { who = who; num = num; seat = seat; call = c; op = served_op log c }
made_plain log seat who num (call.Join name lang) e = absurd (cc)
made_plain log seat who num call.Leave e = refl
made_plain log seat who num (call.Edit seen op) e = refl
made_plain log seat who num (call.Eval seen text) e = refl
made_plain log seat who num (call.Reset seen text) e = refl

-- a placed call, asked again at any later log, is told its position
pub once_placed : (log more : List Row) (seat who num : ℕ) (c : Call) → IsLegal (log_after log seat who num c ++ more) → answer log who num c ≡ reply.Placed (length log) who → 1 ≤ num → is_join c ≡ false
    → answer (log_after log seat who num c ++ more) who num c ≡ reply.Kept (length log) who
once_placed log more seat who num c legal placed some plain =
    let row : Row = record { who = who; num = num; seat = seat; call = c; op = served_op log c } in
    let is_after : log_after log seat who num c ≡ log ++ row ∷ [] = rw placed (ap (λ r. log ++ r ∷ []) (made_plain log seat who num c plain)) in
    let at : slice_get (log_after log seat who num c ++ more) (length log) ≡ Some row =
    ap (λ rows. slice_get (rows ++ more) (length log)) is_after
    ∙ slice_get-append (log ++ row ∷ []) more (length log) (omega (arith, length-one_more log row))
    ∙ slice_get-last log row in
    (kept_again (log_after log seat who num c ++ more) (length log) row seat legal at some).0

-- the row that a reply by number speaks of
pub record IsToldOf (log : List Row) (who num at : ℕ) : Type 0 where
  pub row : Row
  pub is_row : slice_get log at ≡ Some row
  pub who_is : row.who ≡ who
  pub num_is : row.num ≡ num

told_of : (log : List Row) (who num : ℕ) (c : Call) (found : ℕ × Call) → earlier_call log who num c ≡ Some found → (told : IsToldOf log who num found.0) × (told.row.call ≡ found.1)
told_of log who num c found is =
    let r = row_under 0 who num log found (asked_is (is_join c || (num == 0)) is) in
    let tests = and_parts (r.row.who == who) (r.row.num == num) r.under in (
      record {
        row = r.row;
        is_row = ap (slice_get log) (omega (arith, r.sum)) ∙ r.is_row;
        who_is = true_equal r.row.who who tests.0;
        num_is = true_equal r.row.num num tests.1;
      },
      r.call_is,
    )
  where
    asked_is : (b : Bool) → (if b then None else call_under log who num) ≡ Some found → call_under log who num ≡ Some found
    asked_is true e = absurd (cc)
    asked_is false e = e

-- whether the reply is of a number that was used
abbrev is_again : Reply → Bool
is_again (reply.Placed at who) = false
is_again (reply.Kept at who) = true
is_again (reply.Clash num at) = true
is_again (reply.NotMember who) = false
is_again (reply.Ahead seen n) = false
is_again (reply.BadBase want got) = false
is_again (reply.Crowded joins) = false

chosen_new : (b : Bool) (x y : Reply) → is_again x ≡ false → is_again y ≡ false → is_again (if b then x else y) ≡ false
chosen_new true x y p q = p
chosen_new false x y p q = q

never_again : (log : List Row) (who : ℕ) (c : Call) → is_again (answer_new log who c) ≡ false
never_again log who (call.Join name lang) = chosen_new (join_count log == most_joins) (reply.Crowded most_joins) (reply.Placed (length log) (join_count log + 1)) refl refl
never_again log who call.Leave = chosen_new (is_member log who) (reply.Placed (length log) who) (reply.NotMember who) refl refl
never_again log who (call.Edit seen op) =
    chosen_new (is_member log who) (answer_edit log who seen op) (reply.NotMember who)
    (chosen_new (nat_lt (length log) seen) (reply.Ahead seen (length log)) _ refl (chosen_new (base op == length (doc (take seen log))) (reply.Placed (length log) who) _ refl refl)) refl
never_again log who (call.Eval seen text) =
    chosen_new (is_member log who) (answer_seen log who seen) (reply.NotMember who) (chosen_new (nat_lt (length log) seen) (reply.Ahead seen (length log)) (reply.Placed (length log) who) refl refl) refl
never_again log who (call.Reset seen text) =
    chosen_new (is_member log who) (answer_seen log who seen) (reply.NotMember who) (chosen_new (nat_lt (length log) seen) (reply.Ahead seen (length log)) (reply.Placed (length log) who) refl refl) refl

-- what a reply tells of the log and the call
abbrev pub Tells : List Row → ℕ → ℕ → Call → Reply → Type 0
Tells log who num c (reply.Placed at w) = Unit {0}
Tells log who num c (reply.Kept at w) = (w ≡ who) × ((told : IsToldOf log who num at) × (told.row.call ≡ c))
Tells log who num c (reply.Clash n at) = (n ≡ num) × ((told : IsToldOf log who num at) × (told.row.call ≢ c))
Tells log who num c (reply.NotMember w) = Unit {0}
Tells log who num c (reply.Ahead seen n) = Unit {0}
Tells log who num c (reply.BadBase want got) = Unit {0}
Tells log who num c (reply.Crowded joins) = Unit {0}

tells_new : (log : List Row) (who num : ℕ) (c : Call) (r : Reply) → is_again r ≡ false → Tells log who num c r
tells_new log who num c (reply.Placed at w) e = tt
tells_new log who num c (reply.Kept at w) e = absurd (cc)
tells_new log who num c (reply.Clash n at) e = absurd (cc)
tells_new log who num c (reply.NotMember w) e = tt
tells_new log who num c (reply.Ahead seen n) e = tt
tells_new log who num c (reply.BadBase want got) e = tt
tells_new log who num c (reply.Crowded joins) e = tt

tells_by : (log : List Row) (who num : ℕ) (c : Call) (found : Option (ℕ × Call)) → earlier_call log who num c ≡ found → Tells log who num c (answer_by found who num c (answer_new log who c))
tells_by log who num c None is = tells_new log who num c (answer_new log who c) (never_again log who c)
tells_by log who num c (Some found) is = by_test (same_call found.1 c) refl
  where
    by_test : (b : Bool) → same_call found.1 c ≡ b → Tells log who num c (if b then reply.Kept found.0 who else reply.Clash num found.0)
    by_test true same = let told = told_of log who num c found is in (refl, (told.0, told.1 ∙ (call_decides found.1 c).0 same))
    by_test false differ =
        let told = told_of log who num c found is in
        (refl, (told.0, λ same. true≢false (sym ((call_decides found.1 c).1 (sym told.1 ∙ same)) ∙ differ)))

-- what an answer tells of the rows
pub tells : (log : List Row) (who num : ℕ) (c : Call) → Tells log who num c (answer log who num c)
tells log who num c = tells_by log who num c (earlier_call log who num c) refl

-- what an answer tells where the call was placed before
pub kept_tells : (log : List Row) (who num at w : ℕ) (c : Call) → answer log who num c ≡ reply.Kept at w
    → (row : Row) × (slice_get log at ≡ Some row) × (row.who ≡ who) × (row.num ≡ num) × (row.call ≡ c) × (w ≡ who)
kept_tells log who num at w c is =
    let t = subst (Tells log who num c) is (tells log who num c) in
    (t.1.0.row, t.1.0.is_row, t.1.0.who_is, t.1.0.num_is, t.1.1, t.0)

-- what an answer tells where another call was placed under the number
pub clash_tells : (log : List Row) (who num at n : ℕ) (c : Call) → answer log who num c ≡ reply.Clash n at
    → (row : Row) × (slice_get log at ≡ Some row) × (row.who ≡ who) × (row.num ≡ num) × (row.call ≢ c) × (n ≡ num)
clash_tells log who num at n c is =
    let t = subst (Tells log who num c) is (tells log who num c) in
    (t.1.0.row, t.1.0.is_row, t.1.0.who_is, t.1.0.num_is, t.1.1, t.0)
