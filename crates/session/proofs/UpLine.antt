-- Up lines from their openings on.
use Rattle.std.proofs.Common.{◌≡◌, ◌⊎◌, inl, inr, ℕ, ◌+◌, Bool, true, false, not, ◌&&◌, ◌||◌, ◌==◌, if◌then◌else◌, List, [], ◌∷◌, ◌++◌, length, refl, sym, ap, ◌∙◌, subst, arith, Option, Some, None, append_assoc}
use Rattle.std.proofs.lemmas.List.{append-nil}
use Rattle.std.proofs.lemmas.List.Folds.{list_any-append}
use Rattle.std.specs.List.{list_any}
use Rattle.std.proofs.lemmas.Bool.Decides.{nat_tests}
use Rattle.seat_lock.specs.Lists.{Begins}
use Rattle.seat_lock.proofs.Begins.{begins_same}
use Rattle.troop_entry.specs.declared.call.Call.{Call}
use Rattle.troop_entry.specs.declared.call.Call.TheVariants as call
use Rattle.troop_entry.specs.declared.call.Lang.{Lang}
use Rattle.troop_entry.specs.declared.reply.Reply.{Reply}
use Rattle.troop_entry.specs.declared.reply.Reply.TheVariants as reply
use Rattle.troop_entry.specs.declared.row.Row.{Row}
use Rattle.log_model.specs.Log.{has_leave, has_join, is_member, is_leave_by, is_join_by, join_count}
use Rattle.log_model.specs.Answers.{answer, is_accepted, row_made, most_joins}
use Rattle.log_model.proofs.Lists.{slice_get-last, any_at}
use Rattle.troop_hall.specs.Seats.{DeskSeatValue, IsLater, IsAnswered, rows_gained}
use Rattle.wire_json.specs.declared.replies.WireReply.TheVariants as wire
use Rattle.session.specs.declared.session_end.SessionEnd.{SessionEnd}
use Rattle.session.specs.declared.session_end.SessionEnd.TheVariants as ends
use Rattle.session.specs.declared.opening.Opening.TheVariants as opening
use Rattle.session.specs.Printed.{reply_line}
use Rattle.session.specs.Ends.{Wrote, Wires}
use Rattle.session.specs.Replies.{ask_of, join_ask, log_behind, rows_of_turns}
use Rattle.session.specs.UpLines.{Talk, IsUnopened, IsCrowded, IsJoinAt, UpLine, HasAttended}
use Rattle.session.specs.Parts.{HasTalked, HasEntered, Enters}

chosen : {R : Type 0} (P : R → Type 0) (b : Bool) (x y : R) → (b ≡ true → P x) → (b ≡ false → P y) → P (if b then x else y)
chosen P true x y f g = f refl
chosen P false x y f g = g refl

same_self : (n : ℕ) → (n == n) ≡ true
same_self n = grind (arith, nat_tests)

or_true : (b : Bool) → (b || true) ≡ true
or_true true = refl
or_true false = refl

-- a test that some element of a list passes is passed in each list that begins with it
pub any_grown : {A : Type 0} (p : A → Bool) (xs ys : List A) → Begins xs ys → list_any p xs ≡ true → list_any p ys ≡ true
any_grown p xs ys b e = ap (list_any p) (sym b.1) ∙ (list_any-append p xs b.0 ∙ ap (λ z. z || list_any p b.0) e)

-- ---- the answer to a join

-- a join is placed with the next number, or the log is crowded
IsJoinAnswer : List Row → Reply → Type 0
IsJoinAnswer log (reply.Placed at who) = join_count log + 1 ≡ who
IsJoinAnswer log (reply.Kept at who) = ⊥
IsJoinAnswer log (reply.Clash num at) = ⊥
IsJoinAnswer log (reply.NotMember who) = ⊥
IsJoinAnswer log (reply.Ahead seen n) = ⊥
IsJoinAnswer log (reply.BadBase want got) = ⊥
IsJoinAnswer log (reply.Crowded joins) = Unit {0}

join_answer : (log : List Row) (name : List ℕ) (lang : Lang) → IsJoinAnswer log (answer log 0 0 (call.Join name lang))
unfolding IsJoinAnswer
join_answer log name lang = chosen (IsJoinAnswer log) (join_count log == most_joins) (reply.Crowded most_joins) (reply.Placed (length log) (join_count log + 1)) (λ _. tt) (λ _. refl)

placed_number : (log : List Row) (name : List ℕ) (lang : Lang) (at who : ℕ) → reply.Placed at who ≡ answer log 0 0 (call.Join name lang) → join_count log + 1 ≡ who
unfolding IsJoinAnswer
placed_number log name lang at who e = subst (IsJoinAnswer log) (sym e) (join_answer log name lang)

crowded_by : (log : List Row) (r : Reply) → IsJoinAnswer log r → ((at who : ℕ) → r ≡ reply.Placed at who → ⊥) → (joins : ℕ) × (r ≡ reply.Crowded joins) × (is_accepted r ≡ false)
unfolding IsJoinAnswer
crowded_by log (reply.Placed at who) h n = absurd (n at who refl)
crowded_by log (reply.Kept at who) h n = absurd h
crowded_by log (reply.Clash num at) h n = absurd h
crowded_by log (reply.NotMember who) h n = absurd h
crowded_by log (reply.Ahead seen k) h n = absurd h
crowded_by log (reply.BadBase want got) h n = absurd h
crowded_by log (reply.Crowded joins) h n = (joins, refl, refl)

after_refused : (b : Bool) (log : List Row) (m : Row) → b ≡ false → (if b then log ++ m ∷ [] else log) ≡ log
after_refused true log m e = absurd (cc)
after_refused false log m e = refl

after_placed : (b : Bool) (log : List Row) (m : Row) → b ≡ true → (if b then log ++ m ∷ [] else log) ≡ log ++ m ∷ []
after_placed true log m e = refl
after_placed false log m e = absurd (cc)

gained_refused : (b : Bool) (m : Row) → b ≡ false → (if b then m ∷ [] else []) ≡ []
gained_refused true m e = absurd (cc)
gained_refused false m e = refl

-- the join was refused
pub turned_away : (limit : ℕ) (over : SessionEnd) (s t : DeskSeatValue) (name : List ℕ) (lang : Lang) (r : Reply) (end : SessionEnd) (w : Wires) → IsAnswered (join_ask (call.Join name lang)) s r t → ((at who : ℕ) → r ≡ reply.Placed at who → ⊥)
    → Wrote ends.Crowded end (reply_line (wire.Desk r)) w.taken_before w.taken_after → w.left_after ≡ w.left_before → Enters limit (call.Join name lang) over s t end None w
turned_away limit over s t name lang r end w a refused wrote same =
    let join : Call = call.Join name lang in
    let c = crowded_by a.log r (subst (IsJoinAnswer a.log) (sym a.reply_is) (join_answer a.log name lang)) refused in
    let none : is_accepted (answer a.log 0 0 join) ≡ false = ap is_accepted (sym a.reply_is) ∙ c.2 in (
      a.own ∙ (ap (λ l. s.own ++ l) (gained_refused (is_accepted (answer a.log 0 0 join)) (row_made a.log s.number 0 0 join) none) ∙ append-nil s.own),
      inr (record {
        asked_at = a.log;
        behind = a.begins;
        begins = begins_same a.log t.seen (sym (a.seen ∙ after_refused (is_accepted (answer a.log 0 0 join)) a.log (row_made a.log s.number 0 0 join) none));
        joins = c.0;
        crowded = sym a.reply_is ∙ c.1;
        idle = record { none = refl; unread = same };
        wrote = subst (λ x. Wrote ends.Crowded end (reply_line (wire.Desk x)) w.taken_before w.taken_after) c.1 wrote;
      }),
    )

-- memory was wanting for the join
pub unopened : (limit : ℕ) (join : Call) (over : SessionEnd) (s t : DeskSeatValue) (w : Wires) → t.own ≡ s.own → w.left_after ≡ w.left_before → w.taken_after ≡ w.taken_before → Enters limit join over s t ends.Memory None w
unopened limit join over s t w own unread unwritten = (own, inl (record { memory = refl; idle = record { none = refl; unread = unread }; unwritten = unwritten }))

-- the join was placed, and its performer's lines were answered
pub entered : (limit : ℕ) (over : SessionEnd) (s t u : DeskSeatValue) (name : List ℕ) (lang : Lang) (at who : ℕ) (end : SessionEnd) (w : Wires) → IsAnswered (join_ask (call.Join name lang)) s (reply.Placed at who) t → t.number ≡ s.number
    → HasTalked limit who over t u (reply_line (wire.Desk (reply.Placed at who))) end w → HasEntered limit (call.Join name lang) over s u who end w
entered limit over s t u name lang at who end w a number h =
    let join : Call = call.Join name lang in
    let n = s.number in
    let first = reply_line (wire.Desk (reply.Placed at who)) in
    let row = row_made a.log n 0 0 join in
    let accepted : is_accepted (answer a.log 0 0 join) ≡ true = ap is_accepted (sym a.reply_is) in
    let same : row.who ≡ who = placed_number a.log name lang at who a.reply_is in
    let seen : t.seen ≡ a.log ++ row ∷ [] = a.seen ∙ after_placed (is_accepted (answer a.log 0 0 join)) a.log row accepted in
    let joined : has_join t.seen who ≡ true = ap (λ l. has_join l who) seen ∙ any_at (is_join_by who) (a.log ++ row ∷ []) (length a.log) row (slice_get-last a.log row) (ap (λ k. k == who) same ∙ same_self who) in
    record {
      asked_at = a.log;
      behind = a.begins;
      at = at;
      placed = sym a.reply_is;
      turns = h.turns;
      talk = subst (λ (x : ℕ × List Row). Talk limit x.0 who over x.1 u.seen h.turns first end w) (λ i. (number i, a.seen i)) h.talk;
      own = h.own ∙ (ap (λ k. t.own ++ rows_of_turns k who h.turns) number ∙ (ap (λ l. l ++ rows_of_turns n who h.turns) a.own ∙ append_assoc s.own (rows_gained a.log n (join_ask join)) (rows_of_turns n who h.turns)));
      joined = any_grown (is_join_by who) t.seen u.seen h.later.seen joined;
    }

-- ---- the leave at the end

-- behind the ask for its leave a performer that has joined has left
left_behind : (log : List Row) (seat who : ℕ) → has_join log who ≡ true → has_leave (log_behind seat log (ask_of who (0, call.Leave))) who ≡ true
left_behind log seat who joined =
    chosen (λ (r : Reply). has_leave (if is_accepted r then log ++ row_made log seat who 0 call.Leave ∷ [] else log) who ≡ true) (is_member log who) (reply.Placed (length log) who) (reply.NotMember who)
    (λ m. list_any-append (is_leave_by who) log (row_made log seat who 0 call.Leave ∷ []) ∙ (ap (λ z. has_leave log who || (z || false)) (same_self who) ∙ or_true (has_leave log who)))
    (λ m. gone (has_join log who) (has_leave log who) joined m)
  where
    gone : (j l : Bool) → j ≡ true → (j && not l) ≡ false → l ≡ true
    gone true true a e = refl
    gone true false a e = absurd (cc)
    gone false l a e = absurd (cc)

-- the up line of a performer who joined, and left at its end
pub departed : (limit : ℕ) (s t u : DeskSeatValue) (name : List ℕ) (lang : Lang) (joined : Option ℕ) (who : ℕ) (r : Reply) (end : SessionEnd) (w : Wires) → joined ≡ Some who → Enters limit (call.Join name lang) ends.Left s t end joined w → t.number ≡ s.number
    → IsAnswered (ask_of who (0, call.Leave)) t r u → HasAttended limit (opening.Join name lang) s u end w
departed limit s t u name lang joined who r end w is raw number a =
    let e = subst (λ o. Enters limit (call.Join name lang) ends.Left s t end o w) is raw in
    let n = s.number in
    let bye = rows_gained a.log n (ask_of who (0, call.Leave)) in
    let own : u.own ≡ t.own ++ bye = a.own ∙ ap (λ k. t.own ++ rows_gained a.log k (ask_of who (0, call.Leave))) number in
    let seen : u.seen ≡ log_behind n a.log (ask_of who (0, call.Leave)) = a.seen ∙ ap (λ k. log_behind k a.log (ask_of who (0, call.Leave))) number in
    let front = rows_gained e.asked_at n (join_ask (call.Join name lang)) in
    let rows = rows_of_turns n who e.turns in
    record {
      gained = front ++ (rows ++ bye);
      own = own ∙ (ap (λ l. l ++ bye) e.own ∙ (append_assoc s.own (front ++ rows) bye ∙ ap (λ l. s.own ++ l) (append_assoc front rows bye)));
      line = inr (inr (record {
        asked_at = e.asked_at;
        behind = e.behind;
        at = e.at;
        who = who;
        placed = e.placed;
        rows = rows ++ bye;
        attends = record {
          turns = e.turns;
          after = t.seen;
          talk = e.talk;
          bye = bye;
          closes = record {
            asked_at = a.log;
            behind = a.begins;
            begins = begins_same _ u.seen (sym seen);
            rows_are = refl;
            left = ap (λ l. has_leave l who) seen ∙ left_behind a.log n who (any_grown (is_join_by who) t.seen a.log a.begins e.joined);
          };
          rows_are = refl;
        };
        gained_is = refl;
      }));
    }

-- that of one who didn't get in
pub kept_out : (limit : ℕ) (s t : DeskSeatValue) (name : List ℕ) (lang : Lang) (joined : Option ℕ) (end : SessionEnd) (w : Wires) → joined ≡ None → Enters limit (call.Join name lang) ends.Left s t end joined w → HasAttended limit (opening.Join name lang) s t end w
kept_out limit s t name lang joined end w is raw =
    let e = subst (λ o. Enters limit (call.Join name lang) ends.Left s t end o w) is raw in
    record {
      gained = [];
      own = e.0 ∙ sym (append-nil s.own);
      line = out e.1;
    }
  where
    out : IsUnopened [] end w ⊎ IsCrowded s.seen t.seen [] (call.Join name lang) end w → UpLine limit s.number (opening.Join name lang) s.seen t.seen [] end w
    out (inl h) = inl h
    out (inr h) = inr (inl h)

-- that of a performer who joined, and stays
pub stays_on : (limit : ℕ) (s t : DeskSeatValue) (name : List ℕ) (lang : Lang) (joined : Option ℕ) (end : SessionEnd) (w : Wires) → Enters limit (call.Join name lang) ends.Away s t end joined w → HasAttended limit (opening.Stay name lang) s t end w
stays_on limit s t name lang None end w e = record {
  gained = [];
  own = e.0 ∙ sym (append-nil s.own);
  line = out e.1;
}
  where
    out : IsUnopened [] end w ⊎ IsCrowded s.seen t.seen [] (call.Join name lang) end w → UpLine limit s.number (opening.Stay name lang) s.seen t.seen [] end w
    out (inl h) = inl h
    out (inr h) = inr (inl h)
stays_on limit s t name lang (Some who) end w e =
    let rows = rows_of_turns s.number who e.turns in
    record {
      gained = rows_gained e.asked_at s.number (join_ask (call.Join name lang)) ++ rows;
      own = e.own;
      line = inr (inr (record {
        asked_at = e.asked_at;
        behind = e.behind;
        at = e.at;
        who = who;
        placed = e.placed;
        rows = rows;
        attends = record {
          turns = e.turns;
          after = t.seen;
          talk = e.talk;
          bye = [];
          closes = (begins_same t.seen t.seen refl, refl);
          rows_are = sym (append-nil rows);
        };
        gained_is = refl;
      }));
    }

-- ---- a performer that is back

-- its lines were answered
pub came_back : (limit who at : ℕ) (s t u : DeskSeatValue) (end : SessionEnd) (w : Wires) → IsLater s t → t.own ≡ s.own → IsJoinAt who t.seen at → HasTalked limit who ends.Away t u (reply_line (wire.Desk (reply.Kept at who))) end w → HasAttended limit (opening.Back who) s u end w
came_back limit who at s t u end w later own joined h =
    let n = s.number in
    let first = reply_line (wire.Desk (reply.Kept at who)) in
    let rows = rows_of_turns n who h.turns in
    record {
      gained = rows;
      own = h.own ∙ (ap (λ k. t.own ++ rows_of_turns k who h.turns) later.number ∙ ap (λ l. l ++ rows) own);
      line = inr (record {
        looked_at = t.seen;
        behind = later.seen;
        at = at;
        joined = joined;
        attends = record {
          turns = h.turns;
          after = u.seen;
          talk = subst (λ k. Talk limit k who ends.Away t.seen u.seen h.turns first end w) later.number h.talk;
          bye = [];
          closes = (begins_same u.seen u.seen refl, refl);
          rows_are = sym (append-nil rows);
        };
      });
    }

-- it has never joined
pub strange : (limit who : ℕ) (s t : DeskSeatValue) (end : SessionEnd) (w : Wires) → IsLater s t → t.own ≡ s.own → has_join t.seen who ≡ false → Wrote (ends.Stranger who) end (reply_line (wire.Desk (reply.NotMember who))) w.taken_before w.taken_after → w.left_after ≡ w.left_before
    → HasAttended limit (opening.Back who) s t end w
strange limit who s t end w later own none wrote same = record {
  gained = [];
  own = own ∙ sym (append-nil s.own);
  line = inl (record {
    looked_at = t.seen;
    behind = later.seen;
    begins = begins_same t.seen t.seen refl;
    strange = none;
    idle = record { none = refl; unread = same };
    wrote = wrote;
  });
}
