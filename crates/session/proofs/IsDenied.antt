-- Who is told that it is no member has left, and not by its own session.
use Rattle.std.proofs.Common.{◌≡◌, ℕ, suc, Bool, true, false, true≢false, not, ◌&&◌, ◌||◌, ◌==◌, if◌then◌else◌, List, [], ◌∷◌, ◌++◌, refl, sym, ap, ◌∙◌, subst, Option, Some, None}
use Rattle.std.proofs.lemmas.List.{append-nil}
use Rattle.std.proofs.lemmas.List.Folds.{list_any-append}
use Rattle.std.specs.List.{list_any}
use Rattle.troop_entry.specs.declared.call.Call.{Call}
use Rattle.troop_entry.specs.declared.call.Call.TheVariants as call
use Rattle.troop_entry.specs.declared.reply.Reply.{Reply}
use Rattle.troop_entry.specs.declared.reply.Reply.TheVariants as reply
use Rattle.troop_entry.specs.declared.row.Row.{Row}
use Rattle.troop_entry.specs.Kinds.{is_join, is_leave}
use Rattle.log_model.specs.Log.{has_leave, has_join, is_leave_by}
use Rattle.log_model.specs.Answers.{answer, is_accepted, row_made, author}
use Rattle.log_model.proofs.Answer.{is_new}
use Rattle.log_model.proofs.IsMember.{by_member}
use Rattle.troop_hall.specs.Seats.{rows_gained}
use Rattle.wire_json.specs.declared.replies.WireReply.{WireReply}
use Rattle.wire_json.specs.declared.replies.WireReply.TheVariants as wire
use Rattle.session.specs.declared.session_end.SessionEnd.{SessionEnd}
use Rattle.session.specs.declared.opening.Opening.{Opening}
use Rattle.session.specs.declared.opening.Opening.TheVariants as opening
use Rattle.session.specs.Printed.{request_of}
use Rattle.session.specs.Ends.{Wires}
use Rattle.session.specs.Replies.{AnsweredLine, call_on_line, ask_of, reply_given, log_then, rows_by, AreReplies, rows_of_turns, is_standing, is_standing_reply, asks_leave, parts}
use Rattle.session.specs.UpLines.{Stop, Parting, Ending, Overlong, Breaking, IsParting, PartsBy, Closes, Attends}
use Rattle.session.specs.Truths.{IsTrue, IsTrueReply, AreTrue, denies_member, denies_member_sent, is_denied}
use Rattle.session.proofs.AreReplies.{rows_more}
use Rattle.session.proofs.UpLine.{any_grown}
use Rattle.session.proofs.AreTrue.{IsPlain, plain_asked, are_true}

-- ---- who has left gains nothing more

member_stays : (j l : Bool) → (j && not l) ≡ true → l ≡ true → ⊥
member_stays true true e p = true≢false (sym e)
member_stays true false e p = true≢false (sym p)
member_stays false l e p = true≢false (sym e)

none_gained : (seat who : ℕ) (log : List Row) (asked : ℕ × Call) → is_join asked.1 ≡ false → has_leave log who ≡ true → rows_gained log seat (ask_of who asked) ≡ []
none_gained seat who log asked plain left = by_test (is_accepted (answer log who asked.0 asked.1)) refl
  where
    by_test : (b : Bool) → is_accepted (answer log who asked.0 asked.1) ≡ b → (if b then row_made log seat who asked.0 asked.1 ∷ [] else []) ≡ []
    by_test true e = absurd (member_stays (has_join log who) (has_leave log who) (by_member log who asked.1 plain (is_new log who asked.0 asked.1 e).1) left)
    by_test false e = refl

none_by : (seat who : ℕ) (log : List Row) (asked : Option (ℕ × Call)) → IsPlain asked → has_leave log who ≡ true → rows_by seat who asked log ≡ []
unfolding IsPlain
none_by seat who log None plain left = refl
none_by seat who log (Some asked) plain left = none_gained seat who log asked plain left

-- ---- a line that doesn't end the session gains no leave

accepted_stands : (r : Reply) → is_accepted r ≡ true → is_standing r ≡ true
accepted_stands (reply.Placed at who) e = refl
accepted_stands (reply.Kept at who) e = absurd (cc)
accepted_stands (reply.Clash num at) e = absurd (cc)
accepted_stands (reply.NotMember who) e = absurd (cc)
accepted_stands (reply.Ahead seen n) e = absurd (cc)
accepted_stands (reply.BadBase want got) e = absurd (cc)
accepted_stands (reply.Crowded joins) e = absurd (cc)

first_false : (a b : Bool) → (a && b) ≡ false → b ≡ true → a ≡ false
first_false true true e p = absurd (cc)
first_false true false e p = absurd (cc)
first_false false b e p = refl

no_leave_by : (seat who number : ℕ) (log : List Row) (asked : Option (ℕ × Call)) (r : WireReply) → r ≡ reply_given seat who number asked log → (asks_leave asked && is_standing_reply r) ≡ false → has_leave (rows_by seat who asked log) who ≡ false
no_leave_by seat who number log None r given e = refl
no_leave_by seat who number log (Some asked) r given e = by_test (is_accepted (answer log who asked.0 asked.1)) refl
  where
    by_test : (b : Bool) → is_accepted (answer log who asked.0 asked.1) ≡ b → has_leave (if b then row_made log seat who asked.0 asked.1 ∷ [] else []) who ≡ false
    by_test true p =
        let stands : is_standing_reply r ≡ true = ap is_standing_reply given ∙ accepted_stands (answer log who asked.0 asked.1) p in
        ap (λ z. (z && (author log who asked.1 == who)) || false) (first_false (is_leave asked.1) (is_standing_reply r) e stands)
    by_test false p = refl

either_false : (b c : Bool) → (b || c) ≡ false → (b ≡ false) × (c ≡ false)
either_false true c e = absurd (cc)
either_false false c e = (refl, e)

none_leave : (seat who number : ℕ) (before : List Row) (ts : List AnsweredLine) (after : List Row) → AreReplies seat who number before ts after → list_any parts ts ≡ false → has_leave (rows_of_turns seat who ts) who ≡ false
none_leave seat who number before [] after h e = refl
none_leave seat who number before (t ∷ ts) after h e =
    let both = either_false (parts t) (list_any parts ts) e in
    let first = no_leave_by seat who number t.log (call_on_line t.line) t.reply h.0 both.0 in
    let others = none_leave seat who (suc number) (log_then seat who (call_on_line t.line) t.log) ts after h.2 both.1 in
    list_any-append (is_leave_by who) (rows_by seat who (call_on_line t.line) t.log) (rows_of_turns seat who ts) ∙ (λ i. first i || others i)

-- ---- who is told so has left

denial_left : (seat who : ℕ) (log : List Row) (least : ℕ) (asked : ℕ × Call) (r : Reply) → IsTrue seat who log least asked r → denies_member r ≡ true → has_leave log who ≡ true
denial_left seat who log least asked (reply.Placed at w) h e = absurd (cc)
denial_left seat who log least asked (reply.Kept at w) h e = absurd (cc)
denial_left seat who log least asked (reply.Clash num at) h e = absurd (cc)
denial_left seat who log least asked (reply.NotMember w) h e = h.1
denial_left seat who log least asked (reply.Ahead seen n) h e = absurd (cc)
denial_left seat who log least asked (reply.BadBase want got) h e = absurd (cc)
denial_left seat who log least asked (reply.Crowded joins) h e = absurd (cc)

reply_left : (seat who number : ℕ) (log : List Row) (asked : Option (ℕ × Call)) (t : AnsweredLine) (least next : ℕ) → IsTrueReply seat who log number asked t least next → is_denied t ≡ true → has_leave log who ≡ true
reply_left seat who number log None t least next h e = let never : false ≡ true = ap denies_member_sent (sym h) ∙ e in absurd (true≢false (sym never))
reply_left seat who number log (Some asked) t least next h e = denial_left seat who log least asked h.0 h.2 (ap denies_member_sent (sym h.1) ∙ e)

turns_left : (seat who number : ℕ) (log before : List Row) (ts : List AnsweredLine) → AreTrue seat who log number before ts → list_any is_denied ts ≡ true → has_leave log who ≡ true
turns_left seat who number log before [] h e = absurd (cc)
turns_left seat who number log before (t ∷ ts) h e =
    by_test (is_denied t) refl e (turns_left seat who (suc number) log (log_then seat who (call_on_line t.line) t.log) ts h.1)
  where
    by_test : (b : Bool) → is_denied t ≡ b → (b || list_any is_denied ts) ≡ true → (list_any is_denied ts ≡ true → has_leave log who ≡ true) → has_leave log who ≡ true
    by_test true p q more = reply_left seat who number log (call_on_line t.line) t _ _ h.0 p
    by_test false p q more = more q

split_last : (seat who number : ℕ) (t : AnsweredLine) (before : List Row) (ts : List AnsweredLine) (after : List Row) → AreReplies seat who number before (ts ++ t ∷ []) after → AreReplies seat who number before ts t.log
split_last seat who number t before [] after h = h.1
split_last seat who number t before (u ∷ ts) after h = (h.0, h.1, split_last seat who (suc number) t (log_then seat who (call_on_line u.line) u.log) ts after h.2)

-- a leave that stands denies no membership
stands_accepted : (r : WireReply) → is_standing_reply r ≡ true → denies_member_sent r ≡ false
stands_accepted (wire.Desk (reply.Placed at who)) e = refl
stands_accepted (wire.Desk (reply.Kept at who)) e = refl
stands_accepted (wire.Desk (reply.Clash num at)) e = absurd (cc)
stands_accepted (wire.Desk (reply.NotMember who)) e = absurd (cc)
stands_accepted (wire.Desk (reply.Ahead seen n)) e = absurd (cc)
stands_accepted (wire.Desk (reply.BadBase want got)) e = absurd (cc)
stands_accepted (wire.Desk (reply.Crowded joins)) e = absurd (cc)
stands_accepted (wire.Bad line) e = absurd (cc)
stands_accepted (wire.Long line) e = absurd (cc)
stands_accepted (wire.Unfit line) e = absurd (cc)

second_true : (a b : Bool) → (a && b) ≡ true → b ≡ true
second_true true b e = e
second_true false b e = absurd (cc)

or_false : (a b : Bool) → (a || (b || false)) ≡ true → b ≡ false → a ≡ true
or_false true b e p = refl
or_false false true e p = absurd (true≢false p)
or_false false false e p = absurd (cc)

module _ (seat who : ℕ) (before after : List Row) (turns : List AnsweredLine) (joined : has_join before who ≡ true) (h : AreReplies seat who 2 before turns after) (refused : list_any is_denied turns ≡ true) where
  -- the log behind the lines has its leave
  pub left_after : has_leave after who ≡ true
  left_after = turns_left seat who 2 after before turns (are_true seat who 2 before turns after joined h) refused

  parted_rows : IsParting turns → has_leave (rows_of_turns seat who turns) who ≡ false
  parted_rows p =
      let h' = subst (λ ts. AreReplies seat who 2 before ts after) p.split h in
      let front = split_last seat who 2 p.last before p.earlier after h' in
      let fine = stands_accepted p.last.reply (second_true (asks_leave (call_on_line p.last.line)) (is_standing_reply p.last.reply) p.leaves) in
      let some : (list_any is_denied p.earlier || (is_denied p.last || false)) ≡ true = sym (list_any-append is_denied p.earlier (p.last ∷ [])) ∙ (ap (list_any is_denied) (sym p.split) ∙ refused) in
      let told = or_false (list_any is_denied p.earlier) (is_denied p.last) some fine in
      let left = turns_left seat who 2 p.last.log before p.earlier (are_true seat who 2 before p.earlier p.last.log joined front) told in
      let none = none_by seat who p.last.log (call_on_line p.last.line) (plain_asked (request_of p.last.line)) left in
      let rows : rows_of_turns seat who turns ≡ rows_of_turns seat who p.earlier =
      ap (rows_of_turns seat who) p.split ∙ (rows_more seat who p.last p.earlier ∙ (ap (λ l. rows_of_turns seat who p.earlier ++ l) none ∙ append-nil (rows_of_turns seat who p.earlier))) in
      ap (λ l. has_leave l who) rows ∙ none_leave seat who 2 before p.earlier p.last.log front p.goes_on

  -- and their rows don't
  pub no_leave : (stop : Stop) → PartsBy stop turns → has_leave (rows_of_turns seat who turns) who ≡ false
  no_leave Parting p = parted_rows p
  no_leave Ending p = none_leave seat who 2 before turns after h p
  no_leave Overlong p = none_leave seat who 2 before turns after h p
  no_leave Breaking p = none_leave seat who 2 before turns after h p

  -- nor does what follows them
  pub closes_none : (opening : Opening) (log bye : List Row) → Closes opening seat who after log bye → (has_leave log who ≡ true) × (bye ≡ [])
  closes_none (opening.Join name lang) log bye c = (c.left, c.rows_are ∙ none_gained seat who c.asked_at (0, call.Leave) refl (any_grown (is_leave_by who) after c.asked_at c.behind left_after))
  closes_none (opening.Stay name lang) log bye c = (any_grown (is_leave_by who) after log c.0 left_after, c.1)
  closes_none (opening.Back back) log bye c = (any_grown (is_leave_by who) after log c.0 left_after, c.1)

-- the law
pub denied_rows : (limit seat who : ℕ) (opening : Opening) (before log rows : List Row) (first : List ℕ) (end : SessionEnd) (w : Wires) → has_join before who ≡ true → (a : Attends limit seat who opening before log rows first end w) → list_any is_denied a.turns ≡ true
    → (has_leave log who ≡ true) × (has_leave rows who ≡ false)
denied_rows limit seat who opening before log rows first end w joined a refused =
    let closed = closes_none seat who before a.after a.turns joined a.talk.replies refused opening log a.bye a.closes in
    let none = no_leave seat who before a.after a.turns joined a.talk.replies refused a.talk.stop a.talk.parting in
    (closed.0, ap (λ l. has_leave l who) (a.rows_are ∙ (ap (λ l. rows_of_turns seat who a.turns ++ l) closed.1 ∙ append-nil (rows_of_turns seat who a.turns))) ∙ none)
