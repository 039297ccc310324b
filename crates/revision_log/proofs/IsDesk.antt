-- What a desk keeps behind one more row.
use Rattle.std.proofs.Common.{◌≡◌, ◌≢◌, ℕ, zero, suc, ◌+◌, ◌-◌, ◌≤◌, ◌<◌, Bool, true, false, ◌&&◌, ◌||◌, not, if◌then◌else◌, Option, None, Some, List, [], ◌∷◌, ◌++◌, length, take, slice_get, get_or, set, length-set, refl, sym, ◌∙◌, ap, arith, length-append, option_map}
use Rattle.std.specs.Prelude.{nat_lt, ◌==◌, count_by}
use Rattle.std.proofs.Math.Bool.{or-false}
use Rattle.std.proofs.lemmas.Bool.{and_parts}
use Rattle.std.proofs.lemmas.Bool.Decides.{nat_tests}
use Rattle.std.proofs.lemmas.List.{take-append-le, take_all}
use Rattle.std.proofs.lemmas.List.Sums.{sum_by-append, sum_by-set, count_by-le-length}
use Rattle.std.proofs.lemmas.Option.{slice_get_within, slice_get_past, get_or_from_slice_get}
use Rattle.ot_text.specs.Marked.{Marked}
use Rattle.troop_entry.specs.declared.call.Call.{Call}
use Rattle.troop_entry.specs.declared.call.Call.TheVariants as call
use Rattle.troop_entry.specs.declared.reply.Reply.TheVariants as reply
use Rattle.troop_entry.specs.declared.row.Row.{Row}
use Rattle.troop_entry.specs.Kinds.{is_join, is_leave}
use Rattle.troop_entry.specs.Same.{same_call}
use Rattle.troop_entry.proofs.SameCall.{call_decides}
use Rattle.log_model.specs.Log.{join_count, has_join, has_leave, is_member, is_numbered, call_under, doc_after, doc}
use Rattle.log_model.specs.Answers.{most_joins, answer, answer_new, answer_by, earlier_call, served_op}
use Rattle.log_model.specs.Legal.{IsRowMade, IsLegal, OpFits}
use Rattle.log_model.proofs.DocFrom.{doc-one_more}
use Rattle.log_model.proofs.IsLegal.{legal_append, legal_runs, made_fits}
use Rattle.log_model.proofs.IsMember.{AreNumbered, numbered, join_count-one_more, has_leave-one_more, same_leaves, same_count, by_member}
use Rattle.log_model.proofs.CallUnder.{asks_number, free_number, call_under-one_more, call_under-stays, row_under}
use Rattle.log_model.proofs.Answer.{made_is_new}
use Rattle.revision_log.specs.DeskInvariant.{KeepsDocument, KeepsMembers, KeepsNumbers, IsDesk, length_at, has_not_departed, has_stayed, departed_after}
use Rattle.revision_log.specs.NumbersInvariant.{position_of}

-- ---- the document

-- an element of a list, or the one behind it
pub at_place : {A : Type 0} (xs : List A) (x : A) (i : ℕ) (y : A) → (i < length xs → slice_get xs i ≡ Some y) → (i ≡ length xs → x ≡ y) → i < suc (length xs) → slice_get (xs ++ x ∷ []) i ≡ Some y
at_place [] x zero y front last within = ap Some (last refl)
at_place [] x (suc i) y front last within = absurd (omega arith)
at_place (z ∷ xs) x zero y front last within = front (omega arith)
at_place (z ∷ xs) x (suc i) y front last within = at_place xs x i y (λ below. front (omega arith)) (λ is. last (ap suc is)) (omega arith)

-- what is kept of the document, one row further
pub document_more : (rows : List Row) (row : Row) (pairs pairs' : Marked) (lengths : List ℕ) (n : ℕ) → KeepsDocument rows pairs lengths
    → pairs' ≡ doc_after row.who row.op pairs → n ≡ length pairs' → KeepsDocument (rows ++ row ∷ []) pairs' (lengths ++ n ∷ [])
document_more rows row pairs pairs' lengths n keeps changed is =
    let doc_is : pairs' ≡ doc (rows ++ row ∷ []) = changed ∙ ap (doc_after row.who row.op) keeps.doc_is ∙ sym (doc-one_more rows row) in
    record {
      doc_is = doc_is;
      as_many = omega (arith, length-append lengths (n ∷ []), length-append rows (row ∷ []), keeps.as_many);
      lengths_are = λ i within. at_place lengths n i (length (doc (take (suc i) (rows ++ row ∷ []))))
          (λ below. keeps.lengths_are i (omega (arith, keeps.as_many, below))
          ∙ ap (λ r. Some (length (doc r))) (sym (take-append-le (suc i) rows (row ∷ []) (omega (arith, keeps.as_many, below)))))
          (λ last. is ∙ ap length doc_is ∙ ap (λ r. length (doc r)) (sym (take_all (suc i) (rows ++ row ∷ []) (omega (arith, length-append rows (row ∷ []), keeps.as_many, last)))))
          (omega (arith, within, length-append rows (row ∷ []), keeps.as_many));
    }

-- the length that is looked up is that of the document after so many rows
pub length_at_is : (rows : List Row) (pairs : Marked) (lengths : List ℕ) (n : ℕ) → KeepsDocument rows pairs lengths → n ≤ length rows → length_at lengths n ≡ length (doc (take n rows))
length_at_is rows pairs lengths zero keeps within = refl
length_at_is rows pairs lengths (suc n) keeps within = get_or_from_slice_get lengths n (length (doc (take (suc n) rows))) 0 (keeps.lengths_are n (omega arith))

or_true : (a : Bool) → (a || (true || false)) ≡ true
or_true true = refl
or_true false = refl

-- ---- the members

-- whether a performer is there is looked up by its number
has_stayed_is : (rows : List Row) (departed : List Bool) (n : ℕ) (within : Bool) → IsLegal rows → KeepsMembers rows departed → nat_lt n (length departed) ≡ within
    → is_member rows (suc n) ≡ has_not_departed (slice_get departed n)
has_stayed_is rows departed n true legal keeps test =
    let below : n < length departed = grind (arith, nat_tests, test) in
    let joined : has_join rows (suc n) ≡ true = (numbered rows legal).numbers (suc n) ∙ grind (arith, nat_tests, keeps.joins_are, below) in
    ap (λ b. b && not (has_leave rows (suc n))) joined ∙ ap has_not_departed (sym (keeps.left_are n below))
has_stayed_is rows departed n false legal keeps test =
    let past : length departed ≤ n = grind (arith, nat_tests, test) in
    let stranger : has_join rows (suc n) ≡ false = (numbered rows legal).numbers (suc n) ∙ grind (arith, nat_tests, keeps.joins_are, past) in
    ap (λ b. b && not (has_leave rows (suc n))) stranger ∙ ap has_not_departed (sym (slice_get_past departed n past))

-- the members that are looked up are those of the rows
pub member_is : (rows : List Row) (departed : List Bool) (who : ℕ) → IsLegal rows → KeepsMembers rows departed → is_member rows who ≡ has_stayed departed who
member_is rows departed zero legal keeps =
    let stranger : has_join rows 0 ≡ false = (numbered rows legal).numbers 0 in ap (λ b. b && not (has_leave rows 0)) stranger
member_is rows departed (suc n) legal keeps = has_stayed_is rows departed n (nat_lt n (length departed)) legal keeps refl

members_same : (rows : List Row) (row : Row) (departed : List Bool) → KeepsMembers rows departed → is_join row.call ≡ false → is_leave row.call ≡ false → KeepsMembers (rows ++ row ∷ []) departed
members_same rows row departed keeps no_join no_leave = record {
  joins_are = keeps.joins_are ∙ sym (same_count rows row no_join);
  left_are = λ i within. keeps.left_are i within ∙ ap Some (sym (same_leaves rows row (suc i) no_leave));
}

-- nobody has the number behind the last one yet
next_is_stranger : (rows : List Row) → IsLegal rows → has_leave rows (suc (join_count rows)) ≡ false
next_is_stranger rows legal =
    let all : AreNumbered rows = numbered rows legal in
    all.strangers (suc (join_count rows)) (all.numbers (suc (join_count rows)) ∙ grind (arith, nat_tests))

members_joined : (rows : List Row) (row : Row) (departed : List Bool) → IsLegal rows → KeepsMembers rows departed → is_join row.call ≡ true → is_leave row.call ≡ false
    → KeepsMembers (rows ++ row ∷ []) (departed ++ false ∷ [])
members_joined rows row departed legal keeps join no_leave =
    let one : join_count (row ∷ []) ≡ 1 = rw join in record {
      joins_are = omega (arith, length-append departed (false ∷ []), keeps.joins_are, join_count-one_more rows row, one);
      left_are = λ i within. at_place departed false i (has_leave (rows ++ row ∷ []) (suc i))
          (λ below. keeps.left_are i below ∙ ap Some (sym (same_leaves rows row (suc i) no_leave)))
          (λ last. sym (same_leaves rows row (suc i) no_leave ∙ ap (λ n. has_leave rows (suc n)) (last ∙ keeps.joins_are) ∙ next_is_stranger rows legal))
          (omega (arith, within, length-append departed (false ∷ [])));
    }

slice_get-set_same : {A : Type 0} (xs : List A) (i : ℕ) (x : A) → i < length xs → slice_get (set xs i x) i ≡ Some x
slice_get-set_same [] i x within = absurd (omega arith)
slice_get-set_same (y ∷ xs) zero x within = refl
slice_get-set_same (y ∷ xs) (suc i) x within = slice_get-set_same xs i x (omega arith)

slice_get-set_other : {A : Type 0} (xs : List A) (i j : ℕ) (x : A) → j ≢ i → slice_get (set xs i x) j ≡ slice_get xs j
slice_get-set_other [] i j x other = refl
slice_get-set_other (y ∷ xs) zero zero x other = absurd (other refl)
slice_get-set_other (y ∷ xs) zero (suc j) x other = refl
slice_get-set_other (y ∷ xs) (suc i) zero x other = refl
slice_get-set_other (y ∷ xs) (suc i) (suc j) x other = slice_get-set_other xs i j x (λ e. other (ap suc e))

-- a leave's row marks its performer, and nobody else
leave_marks : (rows : List Row) (row : Row) (who : ℕ) (his : Bool) → is_leave row.call ≡ true → (row.who == who) ≡ his → has_leave (rows ++ row ∷ []) who ≡ (has_leave rows who || (his || false))
leave_marks rows row who his leave is =
    has_leave-one_more rows row who ∙ ap (λ b. has_leave rows who || ((b && (row.who == who)) || false)) leave ∙ ap (λ b. has_leave rows who || (b || false)) is

left_at : (rows : List Row) (row : Row) (departed : List Bool) (i j : ℕ) (same : Bool) → KeepsMembers rows departed → is_leave row.call ≡ true → row.who ≡ suc i → i < length departed → j < length departed
    → (j == i) ≡ same → slice_get (set departed i true) j ≡ Some (has_leave (rows ++ row ∷ []) (suc j))
left_at rows row departed i j true keeps leave is there within test =
    let equal : j ≡ i = grind (arith, nat_tests, test) in
    let his : (row.who == suc j) ≡ true = grind (arith, nat_tests, is, equal) in
    ap (slice_get (set departed i true)) equal ∙ slice_get-set_same departed i true there ∙ ap Some (sym (leave_marks rows row (suc j) true leave his ∙ or_true (has_leave rows (suc j))))
left_at rows row departed i j false keeps leave is there within test =
    let other : j ≢ i = grind (arith, nat_tests, test) in
    let not_his : (row.who == suc j) ≡ false = grind (arith, nat_tests, is, other) in
    slice_get-set_other departed i j true other ∙ keeps.left_are j within ∙ ap Some (sym (leave_marks rows row (suc j) false leave not_his ∙ or-false (has_leave rows (suc j))))

found : (place : Option Bool) → has_not_departed place ≡ true → place ≡ Some false
found None there = absurd (cc)
found (Some true) there = absurd (cc)
found (Some false) there = refl

-- who is there, by the index in the list
pub is_there : (departed : List Bool) (who : ℕ) → has_stayed departed who ≡ true → (1 ≤ who) × (slice_get departed (who - 1) ≡ Some false)
is_there departed zero there = absurd (cc)
is_there departed (suc i) there =
    let same : suc i - 1 ≡ i = omega arith in (omega arith, ap (slice_get departed) same ∙ found (slice_get departed i) there)

members_left : (rows : List Row) (row : Row) (departed : List Bool) → KeepsMembers rows departed → is_join row.call ≡ false → is_leave row.call ≡ true → has_stayed departed row.who ≡ true
    → KeepsMembers (rows ++ row ∷ []) (set departed (row.who - 1) true)
members_left rows row departed keeps no_join leave there =
    let spot = is_there departed row.who there in
    let within : row.who - 1 < length departed = slice_get_within departed (row.who - 1) false spot.1 in
    record {
      joins_are = length-set departed (row.who - 1) true ∙ keeps.joins_are ∙ sym (same_count rows row no_join);
      left_are = λ j below. left_at rows row departed (row.who - 1) j (j == (row.who - 1)) keeps leave (omega (arith, spot.0)) within (omega (arith, below, length-set departed (row.who - 1) true)) refl;
    }

leave_no_join : (c : Call) → is_leave c ≡ true → is_join c ≡ false
leave_no_join (call.Join name lang) leave = absurd (cc)
leave_no_join call.Leave leave = refl
leave_no_join (call.Edit seen op) leave = absurd (cc)
leave_no_join (call.Eval seen text) leave = absurd (cc)
leave_no_join (call.Reset seen text) leave = absurd (cc)

-- who makes a leave's row is still there
pub leaver_stays : (rows : List Row) (row : Row) (departed : List Bool) → IsLegal rows → KeepsMembers rows departed → IsRowMade rows row → is_leave row.call ≡ true → has_stayed departed row.who ≡ true
leaver_stays rows row departed legal keeps is_made leave =
    sym (member_is rows departed row.who legal keeps) ∙ by_member rows row.who row.call (leave_no_join row.call leave) (made_is_new rows row is_made).1

members_more : (rows : List Row) (row : Row) (departed : List Bool) (c : Call) → row.call ≡ c → IsLegal rows → KeepsMembers rows departed → IsRowMade rows row → KeepsMembers (rows ++ row ∷ []) (departed_after row.who c departed)
members_more rows row departed (call.Join name lang) is legal keeps is_made = members_joined rows row departed legal keeps (ap is_join is) (ap is_leave is)
members_more rows row departed call.Leave is legal keeps is_made = members_left rows row departed keeps (ap is_join is) (ap is_leave is) (leaver_stays rows row departed legal keeps is_made (ap is_leave is))
members_more rows row departed (call.Edit seen op) is legal keeps is_made = members_same rows row departed keeps (ap is_join is) (ap is_leave is)
members_more rows row departed (call.Eval seen text) is legal keeps is_made = members_same rows row departed keeps (ap is_join is) (ap is_leave is)
members_more rows row departed (call.Reset seen text) is legal keeps is_made = members_same rows row departed keeps (ap is_join is) (ap is_leave is)

-- no more performers are kept than a log takes joins
pub few_joined : (rows : List Row) (departed : List Bool) → IsLegal rows → KeepsMembers rows departed → length departed ≤ most_joins
few_joined rows departed legal keeps = omega (arith, (numbered rows legal).few, keeps.joins_are)

-- ---- the numbers

-- the positions with one row more, which is new under its number
pub numbers_more : (rows : List Row) (row : Row) (places places' : List ((ℕ × ℕ) × ℕ)) (at : ℕ) → KeepsNumbers rows places → at ≡ length rows
    → (1 ≤ row.num → call_under rows row.who row.num ≡ None)
    → ((w n : ℕ) → 1 ≤ n → position_of places' w n ≡ (if (row.who == w) && (row.num == n) then Some at else position_of places w n))
    → KeepsNumbers (rows ++ row ∷ []) places'
numbers_more rows row places places' at keeps is_at free noted who num some = by_test (is_numbered who num row) (call_under rows who num) refl refl
  where
    here : (b : Bool) → is_numbered who num row ≡ b → position_of places' who num ≡ (if b then Some at else position_of places who num)
    here b is = noted who num some ∙ ap (λ (t : Bool). if t then Some at else position_of places who num) is

    by_test : (b : Bool) (found : Option (ℕ × Call)) → is_numbered who num row ≡ b → call_under rows who num ≡ found
        → position_of places' who num ≡ option_map (λ (f : ℕ × Call). f.0) (call_under (rows ++ row ∷ []) who num)
    by_test true found is is_found =
        let w : row.who ≡ who = grind (arith, nat_tests, (and_parts (row.who == who) (row.num == num) is).0) in
        let n : row.num ≡ num = grind (arith, nat_tests, (and_parts (row.who == who) (row.num == num) is).1) in
        let none : call_under rows who num ≡ None = ap (λ k. call_under rows k num) (sym w) ∙ ap (call_under rows row.who) (sym n) ∙ free (omega (arith, n, some)) in
        here true is ∙ sym (ap (option_map (λ (f : ℕ × Call). f.0)) (call_under-one_more 0 who num rows row at (omega (arith, is_at)) none
        ∙ ap (λ (t : Bool). if t then Some (at, row.call) else None) is))
    by_test false (Some p) is is_found =
        here false is ∙ keeps who num some ∙ ap (option_map (λ (f : ℕ × Call). f.0)) (is_found ∙ sym (call_under-stays 0 who num rows row p is_found))
    by_test false None is is_found =
        here false is ∙ keeps who num some ∙ ap (option_map (λ (f : ℕ × Call). f.0)) (is_found
        ∙ sym (call_under-one_more 0 who num rows row at (omega (arith, is_at)) is_found ∙ ap (λ (t : Bool). if t then Some (at, row.call) else None) is))

-- a row without a number leaves the positions
pub numbers_same : (rows : List Row) (row : Row) (places : List ((ℕ × ℕ) × ℕ)) → KeepsNumbers rows places → row.num ≡ 0 → KeepsNumbers (rows ++ row ∷ []) places
numbers_same rows row places keeps none =
    numbers_more rows row places places (length rows) keeps refl (λ some. absurd (omega (arith, none, some)))
    (λ w n some. let test : (row.num == n) ≡ false = grind (arith, nat_tests, none, some) in
    sym (ap (λ (t : Bool). if (row.who == w) && t then Some (length rows) else position_of places w n) test ∙ and_no (row.who == w) (Some (length rows)) (position_of places w n)))
  where
    and_no : {A : Type 0} (b : Bool) (x y : A) → (if b && false then x else y) ≡ y
    and_no true x y = refl
    and_no false x y = refl

-- ---- the desk

-- the operation of a row that its call makes fits the document
pub row_op_fits : (rows : List Row) (row : Row) (pairs : Marked) (lengths : List ℕ) → IsLegal rows → KeepsDocument rows pairs lengths → IsRowMade rows row → OpFits row.op (length pairs)
row_op_fits rows row pairs lengths legal keeps is_made = rw keeps.doc_is (made_fits rows row (legal_runs rows legal) is_made)

leave_has_none : (log : List Row) (c : Call) → is_leave c ≡ true → served_op log c ≡ None
leave_has_none log (call.Join name lang) leave = refl
leave_has_none log call.Leave leave = refl
leave_has_none log (call.Edit seen op) leave = absurd (cc)
leave_has_none log (call.Eval seen text) leave = refl
leave_has_none log (call.Reset seen text) leave = absurd (cc)

-- the row of a leave has no operation
pub leave_op : (rows : List Row) (row : Row) → IsRowMade rows row → is_leave row.call ≡ true → row.op ≡ None
leave_op rows row is_made leave = ap (λ (r : Row). r.op) is_made.same ∙ leave_has_none rows row.call leave

-- what is kept, one row further
pub desk_more : (rows new : List Row) (row : Row) (pairs pairs' : Marked) (lengths lengths' : List ℕ) (departed left' : List Bool) (places places' : List ((ℕ × ℕ) × ℕ)) (at n : ℕ)
    → IsDesk rows pairs lengths departed places → IsRowMade rows row → pairs' ≡ doc_after row.who row.op pairs → n ≡ length pairs' → new ≡ rows ++ row ∷ [] → lengths' ≡ lengths ++ n ∷ []
    → left' ≡ departed_after row.who row.call departed → at ≡ length rows → ((w k : ℕ) → 1 ≤ k → position_of places' w k ≡ (if (row.who == w) && (row.num == k) then Some at else position_of places w k))
    → IsDesk new pairs' lengths' left' places'
desk_more rows new row pairs pairs' lengths lengths' departed left' places places' at n desk is_made changed is_length is_new is_lengths is_left is_at noted =
    rw (is_new, is_lengths, is_left) (record {
      legal = legal_append rows row desk.legal is_made;
      document = document_more rows row pairs pairs' lengths n desk.document changed is_length;
      members = members_more rows row departed row.call refl desk.legal desk.members is_made;
      numbered = numbers_more rows row places places' at desk.numbered is_at (free_number rows row is_made) noted;
    })

-- ---- the room

-- how many stay of one performer
abbrev staying_by : Bool → ℕ
staying_by departed = if not departed then 1 else 0

-- one fewer stays behind a leave
one_fewer : (departed : List Bool) (who : ℕ) → has_stayed departed who ≡ true → count_by not (set departed (who - 1) true) + 1 ≡ count_by not departed
one_fewer departed who there =
    let at = is_there departed who there in
    let within : who - 1 < length departed = slice_get_within departed (who - 1) false at.1 in
    let here : get_or departed (who - 1) true ≡ false = get_or_from_slice_get departed (who - 1) false true at.1 in
    let fewer : count_by not (set departed (who - 1) true) + staying_by (get_or departed (who - 1) true) ≡ count_by not departed + 0 = sum_by-set _ departed (who - 1) true true within in
    let one : staying_by (get_or departed (who - 1) true) ≡ 1 = ap staying_by here in
    omega (arith, fewer, one)

-- somebody is still there
pub some_stay : (departed : List Bool) (who : ℕ) → has_stayed departed who ≡ true → 1 ≤ count_by not departed
some_stay departed who there = omega (arith, one_fewer departed who there)

-- the room that is left behind one more row
pub room_more : (c : Call) (who : ℕ) (departed left' : List Bool) (before after room old_room new_room : ℕ) → left' ≡ departed_after who c departed → (is_leave c ≡ true → has_stayed departed who ≡ true)
    → (is_leave c ≡ false → room ≡ length departed + 2) → after ≡ before + 1 → before + count_by not departed ≤ old_room → old_room ≤ new_room → before + room ≤ new_room → after + count_by not left' ≤ new_room
room_more (call.Join name lang) who departed left' before after room old_room new_room is_left there others is_after had grows has =
    let more : count_by not (departed ++ false ∷ []) ≡ count_by not departed + 1 = sum_by-append _ departed (false ∷ []) in
    rw is_left (omega (arith, more, others refl, is_after, has, count_by-le-length not departed))
room_more call.Leave who departed left' before after room old_room new_room is_left there others is_after had grows has = rw is_left (omega (arith, one_fewer departed who (there refl), is_after, had, grows))
room_more (call.Edit seen op) who departed left' before after room old_room new_room is_left there others is_after had grows has = rw is_left (omega (arith, others refl, is_after, has, count_by-le-length not departed))
room_more (call.Eval seen text) who departed left' before after room old_room new_room is_left there others is_after had grows has = rw is_left (omega (arith, others refl, is_after, has, count_by-le-length not departed))
room_more (call.Reset seen text) who departed left' before after room old_room new_room is_left there others is_after had grows has = rw is_left (omega (arith, others refl, is_after, has, count_by-le-length not departed))

-- ---- calls asked again

-- a position that is noted is that of a row, whose call decides the answer
pub record IsAsked (rows : List Row) (who num at : ℕ) : Type 0 where
  pub row : Row
  pub is_row : slice_get rows at ≡ Some row
  pub found : call_under rows who num ≡ Some (at, row.call)

-- what is looked up under a number is a row of that performer under it
pub asked_at : (rows : List Row) (places : List ((ℕ × ℕ) × ℕ)) (who num at : ℕ) → KeepsNumbers rows places → 1 ≤ num → position_of places who num ≡ Some at → IsAsked rows who num at
asked_at rows places who num at keeps some is = by_found (call_under rows who num) refl
  where
    by_found : (found : Option (ℕ × Call)) → call_under rows who num ≡ found → IsAsked rows who num at
    by_found None e = let none : Some at ≡ None = sym is ∙ keeps who num some ∙ ap (option_map (λ (f : ℕ × Call). f.0)) e in absurd (cc)
    by_found (Some p) e =
        let place : Some at ≡ Some p.0 = sym is ∙ keeps who num some ∙ ap (option_map (λ (f : ℕ × Call). f.0)) e in
        let same : at ≡ p.0 = cc in
        let row = row_under 0 who num rows p e in
        record {
          row = row.row;
          is_row = ap (slice_get rows) (omega (arith, same, row.sum)) ∙ row.is_row;
          found = e ∙ ap Some (ap (λ k. (k, p.1)) (sym same) ∙ ap (λ c. (at, c)) (sym row.call_is));
        }

-- where nothing is looked up under a number, the call wasn't placed before
pub not_asked : (rows : List Row) (places : List ((ℕ × ℕ) × ℕ)) (who num : ℕ) (c : Call) → KeepsNumbers rows places → is_join c ≡ false → 1 ≤ num → position_of places who num ≡ None → earlier_call rows who num c ≡ None
not_asked rows places who num c keeps plain some is = asks_number rows who num c plain some ∙ by_found (call_under rows who num) refl
  where
    by_found : (found : Option (ℕ × Call)) → call_under rows who num ≡ found → call_under rows who num ≡ None
    by_found None e = e
    by_found (Some p) e = let none : None ≡ Some p.0 = sym is ∙ keeps who num some ∙ ap (option_map (λ (f : ℕ × Call). f.0)) e in absurd (cc)

asked_answer : (rows : List Row) (who num at : ℕ) (c : Call) (asked : IsAsked rows who num at) → is_join c ≡ false → 1 ≤ num
    → answer rows who num c ≡ (if same_call asked.row.call c then reply.Kept at who else reply.Clash num at)
asked_answer rows who num at c asked plain some =
    ap (λ f. answer_by f who num c (answer_new rows who c)) (asks_number rows who num c plain some ∙ asked.found)

-- the answer where the row under the number has this call
pub kept_answer : (rows : List Row) (who num at : ℕ) (c : Call) (asked : IsAsked rows who num at) → is_join c ≡ false → 1 ≤ num → asked.row.call ≡ c → reply.Kept at who ≡ answer rows who num c
kept_answer rows who num at c asked plain some same =
    sym (asked_answer rows who num at c asked plain some ∙ ap (λ (b : Bool). if b then reply.Kept at who else reply.Clash num at) ((call_decides asked.row.call c).1 same))

-- the answer where the row under the number has another call
pub clash_answer : (rows : List Row) (who num at : ℕ) (c : Call) (asked : IsAsked rows who num at) → is_join c ≡ false → 1 ≤ num → asked.row.call ≢ c → reply.Clash num at ≡ answer rows who num c
clash_answer rows who num at c asked plain some differ =
    sym (asked_answer rows who num at c asked plain some ∙ ap (λ (b : Bool). if b then reply.Kept at who else reply.Clash num at) (not_same (same_call asked.row.call c) refl))
  where
    not_same : (b : Bool) → same_call asked.row.call c ≡ b → b ≡ false
    not_same true is = absurd (differ ((call_decides asked.row.call c).0 is))
    not_same false is = refl
