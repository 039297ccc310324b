-- What replies say is true, and stays true.
use Rattle.std.proofs.Common.{◌≡◌, ◌≢◌, ℕ, suc, ◌≤◌, ◌<◌, Bool, true, false, not, ◌&&◌, ◌||◌, ◌==◌, if◌then◌else◌, nat_lt, List, [], ◌∷◌, ◌++◌, length, take, refl, sym, ap, ◌∙◌, subst, arith, Option, Some, None}
use Rattle.std.proofs.lemmas.List.{length-append, take-append-le}
use Rattle.std.proofs.lemmas.Bool.Decides.{nat_tests}
use Rattle.std.proofs.Math.Seq.{take-append_seam}
use Rattle.seat_lock.specs.Lists.{Begins}
use Rattle.seat_lock.proofs.Begins.{begins_same, begins_then, begins_length}
use Rattle.ot_text.specs.Change.{Change, base}
use Rattle.troop_entry.specs.declared.call.Call.{Call}
use Rattle.troop_entry.specs.declared.call.Call.TheVariants as call
use Rattle.troop_entry.specs.declared.call.Request.{Request}
use Rattle.troop_entry.specs.declared.call.Request.TheVariants as request
use Rattle.troop_entry.specs.declared.reply.Reply.{Reply}
use Rattle.troop_entry.specs.declared.reply.Reply.TheVariants as reply
use Rattle.troop_entry.specs.declared.row.Row.{Row}
use Rattle.troop_entry.specs.Kinds.{is_join}
use Rattle.troop_entry.specs.Same.{same_call}
use Rattle.log_model.specs.Log.{has_leave, has_join, is_leave_by, is_join_by, is_member, doc, call_under}
use Rattle.log_model.specs.Answers.{answer, answer_new, answer_by, earlier_call, is_accepted, row_made}
use Rattle.log_model.proofs.Lists.{slice_get-append, slice_get-last, within_length}
use Rattle.log_model.proofs.CallUnder.{kept_tells, clash_tells}
use Rattle.session.specs.Printed.{request_of}
use Rattle.session.specs.Replies.{AnsweredLine, call_asked, call_on_line, reply_given, log_then, AreReplies}
use Rattle.session.specs.Truths.{HasSeen, IsUnder, IsTrue, IsBehindPlace, IsTrueReply, AreTrue}
use Rattle.session.proofs.UpLine.{any_grown}

chosen : {R : Type 0} (P : R → Type 0) (b : Bool) (x y : R) → (b ≡ true → P x) → (b ≡ false → P y) → P (if b then x else y)
chosen P true x y f g = f refl
chosen P false x y f g = g refl

-- ---- it stays true

under_grown : (who : ℕ) (log more : List Row) (num at : ℕ) (c : Call) → IsUnder who log num at c → IsUnder who (log ++ more) num at c
under_grown who log more num at c u = record {
  row = u.row;
  is = slice_get-append log more at (within_length log at u.row u.is) ∙ u.is;
  by = u.by;
  numbered = u.numbered;
  from_one = u.from_one;
  call = u.call;
}

true_grown : (seat who : ℕ) (log more : List Row) (least : ℕ) (asked : ℕ × Call) (r : Reply) → IsTrue seat who log least asked r → IsTrue seat who (log ++ more) least asked r
true_grown seat who log more least asked (reply.Placed at w) h =
    let within = within_length log at _ h.2 in
    let same = take-append-le at log more (omega (arith, within)) in
    (h.0, h.1, slice_get-append log more at within ∙ (h.2 ∙ ap (λ l. Some (row_made l seat who asked.0 asked.1)) (sym same)))
true_grown seat who log more least asked (reply.Kept at w) h = (h.0, under_grown who log more asked.0 at asked.1 h.1)
true_grown seat who log more least asked (reply.Clash num at) h = (h.0, (h.1.0, h.1.1, under_grown who log more num at h.1.0 h.1.2))
true_grown seat who log more least asked (reply.NotMember w) h = (h.0, any_grown (is_leave_by who) log (log ++ more) (more, refl) h.1)
true_grown seat who log more least asked (reply.Ahead seen n) h = (h.0, h.1, h.2, let l = length-append log more in let k = h.3 in omega (arith, l, k))
true_grown seat who log more least asked (reply.BadBase want got) h =
    let same = take-append-le h.seen log more h.known in
    record {
      seen = h.seen;
      op = h.op;
      call = h.call;
      want_is = h.want_is;
      known = (let l = length-append log more in let k = h.known in omega (arith, l, k));
      got_is = h.got_is ∙ ap (λ l. length (doc l)) (sym same);
      differ = h.differ;
    }
true_grown seat who log more least asked (reply.Crowded joins) h = absurd h

-- ---- it is true

-- what is to be shown of the reply r to the call at the log, which has had so many rows at least
record IsFact (seat who : ℕ) (log : List Row) (least num : ℕ) (c : Call) (r : Reply) : Type 0 where
  pub is_true : IsTrue seat who (if is_accepted r then log ++ row_made log seat who num c ∷ [] else log) least (num, c) r
  pub behind : IsBehindPlace r (length (if is_accepted r then log ++ row_made log seat who num c ∷ [] else log))

module _ (seat who : ℕ) (log : List Row) (least num : ℕ) (above : least ≤ length log) where
  placed_fact : (c : Call) → IsFact seat who log least num c (reply.Placed (length log) who)
  placed_fact c =
      let row = row_made log seat who num c in
      let l = length-append log (row ∷ []) in
      record {
        is_true = (refl, above, slice_get-last log row ∙ ap (λ z. Some (row_made z seat who num c)) (sym (take-append_seam log (row ∷ []))));
        behind = omega (arith, l);
      }

  ahead_fact : (c : Call) (seen : ℕ) → HasSeen c seen → length log < seen → IsFact seat who log least num c (reply.Ahead seen (length log))
  ahead_fact c seen is_seen beyond = record { is_true = (is_seen, beyond, above, omega arith); behind = omega arith }

  base_fact : (seen : ℕ) (op : Change) → seen ≤ length log → base op ≢ length (doc (take seen log)) → IsFact seat who log least num (call.Edit seen op) (reply.BadBase (base op) (length (doc (take seen log))))
  base_fact seen op known differ = record {
    is_true = record { seen = seen; op = op; call = refl; want_is = refl; known = known; got_is = refl; differ = differ };
    behind = tt;
  }

  stranger_left : (j l : Bool) → j ≡ true → (j && not l) ≡ false → l ≡ true
  stranger_left true true a e = refl
  stranger_left true false a e = absurd (cc)
  stranger_left false l a e = absurd (cc)

  stranger_fact : (c : Call) → has_join log who ≡ true → is_member log who ≡ false → IsFact seat who log least num c (reply.NotMember who)
  stranger_fact c joined e = record { is_true = (refl, stranger_left (has_join log who) (has_leave log who) joined e); behind = tt }

  over : (n : ℕ) → nat_lt (length log) n ≡ true → length log < n
  over n e = grind (arith, nat_tests)

  under : (n : ℕ) → nat_lt (length log) n ≡ false → n ≤ length log
  under n e = grind (arith, nat_tests)

  differs : (a b : ℕ) → (a == b) ≡ false → a ≢ b
  differs a b e same = grind (arith, nat_tests)

  new_fact : (c : Call) → is_join c ≡ false → has_join log who ≡ true → IsFact seat who log least num c (answer_new log who c)
  new_fact (call.Join name lang) plain joined = absurd (cc)
  new_fact call.Leave plain joined = chosen (IsFact seat who log least num call.Leave) (is_member log who) _ _ (λ _. placed_fact call.Leave) (λ e. stranger_fact call.Leave joined e)
  new_fact (call.Edit seen op) plain joined =
      let c : Call = call.Edit seen op in
      chosen (IsFact seat who log least num c) (is_member log who) _ _
      (λ m. chosen (IsFact seat who log least num c) (nat_lt (length log) seen) _ _ (λ e. ahead_fact c seen refl (over seen e))
      (λ e. chosen (IsFact seat who log least num c) (base op == length (doc (take seen log))) _ _ (λ _. placed_fact c) (λ d. base_fact seen op (under seen e) (differs _ _ d))))
      (λ e. stranger_fact c joined e)
  new_fact (call.Eval seen text) plain joined =
      let c : Call = call.Eval seen text in
      chosen (IsFact seat who log least num c) (is_member log who) _ _
      (λ m. chosen (IsFact seat who log least num c) (nat_lt (length log) seen) _ _ (λ e. ahead_fact c seen refl (over seen e)) (λ e. placed_fact c)) (λ e. stranger_fact c joined e)
  new_fact (call.Reset seen text) plain joined =
      let c : Call = call.Reset seen text in
      chosen (IsFact seat who log least num c) (is_member log who) _ _
      (λ m. chosen (IsFact seat who log least num c) (nat_lt (length log) seen) _ _ (λ e. ahead_fact c seen refl (over seen e)) (λ e. placed_fact c)) (λ e. stranger_fact c joined e)

  from_one : (found : ℕ × Call) (c : Call) → earlier_call log who num c ≡ Some found → 1 ≤ num
  from_one found c is = by_test (is_join c) (num == 0) refl is
    where
      by_test : (j z : Bool) → (num == 0) ≡ z → (if j || z then None else call_under log who num) ≡ Some found → 1 ≤ num
      by_test true z t e = absurd (cc)
      by_test false true t e = absurd (cc)
      by_test false false t e = grind (arith, nat_tests)

  fact_by : (c : Call) → is_join c ≡ false → has_join log who ≡ true → (found : Option (ℕ × Call)) → earlier_call log who num c ≡ found → IsFact seat who log least num c (answer_by found who num c (answer_new log who c))
  fact_by c plain joined None is = new_fact c plain joined
  fact_by c plain joined (Some found) is = chosen (IsFact seat who log least num c) (same_call found.1 c) (reply.Kept found.0 who) (reply.Clash num found.0) kept clash
    where
      by : answer log who num c ≡ (if same_call found.1 c then reply.Kept found.0 who else reply.Clash num found.0)
      by = ap (λ o. answer_by o who num c (answer_new log who c)) is

      kept : same_call found.1 c ≡ true → IsFact seat who log least num c (reply.Kept found.0 who)
      kept e =
          let t = kept_tells log who num found.0 who c (by ∙ ap (λ b. if b then reply.Kept found.0 who else reply.Clash num found.0) e) in
          record {
            is_true = (refl, record { row = t.0; is = t.1; by = t.2; numbered = t.3; from_one = from_one found c is; call = t.4 });
            behind = within_length log found.0 t.0 t.1;
          }

      clash : same_call found.1 c ≡ false → IsFact seat who log least num c (reply.Clash num found.0)
      clash e =
          let t = clash_tells log who num found.0 num c (by ∙ ap (λ b. if b then reply.Kept found.0 who else reply.Clash num found.0) e) in
          record {
            is_true = (refl, (t.0.call, t.4, record { row = t.0; is = t.1; by = t.2; numbered = t.3; from_one = from_one found c is; call = refl }));
            behind = within_length log found.0 t.0 t.1;
          }

  fact : (c : Call) → is_join c ≡ false → has_join log who ≡ true → IsFact seat who log least num c (answer log who num c)
  fact c plain joined = fact_by c plain joined (earlier_call log who num c) refl

-- ---- the replies one after the other

-- the call that is asked for, if any, is no join
unfoldable pub IsPlain : Option (ℕ × Call) → Type 0
IsPlain None = Unit {0}
IsPlain (Some asked) = is_join asked.1 ≡ false

-- nor is that of a request behind an opening
pub plain_asked : (o : Option Request) → IsPlain (call_asked o)
unfolding IsPlain
plain_asked None = tt
plain_asked (Some (request.Call num c)) = by_test (is_join c) refl
  where
    by_test : (b : Bool) → is_join c ≡ b → IsPlain (if b then None else Some (num, c))
    by_test true e = tt
    by_test false e = e
plain_asked (Some (request.Stay name lang)) = tt
plain_asked (Some (request.Back who)) = tt
plain_asked (Some (request.Down start who)) = tt
plain_asked (Some (request.Snap who)) = tt

after_begins : (b : Bool) (log : List Row) (m : Row) → Begins log (if b then log ++ m ∷ [] else log)
after_begins true log m = (m ∷ [], refl)
after_begins false log m = begins_same log log refl

then_begins : (seat who : ℕ) (asked : Option (ℕ × Call)) (log : List Row) → Begins log (log_then seat who asked log)
then_begins seat who None log = begins_same log log refl
then_begins seat who (Some asked) log = after_begins (is_accepted (answer log who asked.0 asked.1)) log (row_made log seat who asked.0 asked.1)

replies_begin : (seat who number : ℕ) (before : List Row) (ts : List AnsweredLine) (after : List Row) → AreReplies seat who number before ts after → Begins before after
replies_begin seat who number before [] after h = h
replies_begin seat who number before (t ∷ ts) after h =
    begins_then before t.log after h.1 (begins_then t.log (log_then seat who (call_on_line t.line) t.log) after (then_begins seat who (call_on_line t.line) t.log) (replies_begin seat who (suc number) (log_then seat who (call_on_line t.line) t.log) ts after h.2))

one_true : (seat who number : ℕ) (before after : List Row) (asked : Option (ℕ × Call)) (t : AnsweredLine) → IsPlain asked → has_join before who ≡ true → t.reply ≡ reply_given seat who number asked t.log → Begins before t.log → Begins (log_then seat who asked t.log) after
    → IsTrueReply seat who after number asked t (length before) (length (log_then seat who asked t.log))
unfolding IsPlain
one_true seat who number before after None t plain joined given begins grows = given
one_true seat who number before after (Some asked) t plain joined given begins grows =
    let r = answer t.log who asked.0 asked.1 in
    let f = fact seat who t.log (length before) asked.0 (begins_length before t.log begins) asked.1 plain (any_grown (is_join_by who) before t.log begins joined) in
    (r, given, subst (λ l. IsTrue seat who l (length before) asked r) grows.1 (true_grown seat who (log_then seat who (Some asked) t.log) grows.0 (length before) asked r f.is_true), f.behind)

-- what each reply says is true
pub are_true : (seat who number : ℕ) (before : List Row) (ts : List AnsweredLine) (after : List Row) → has_join before who ≡ true → AreReplies seat who number before ts after → AreTrue seat who after number before ts
are_true seat who number before [] after joined h = tt
are_true seat who number before (t ∷ ts) after joined h =
    let next = log_then seat who (call_on_line t.line) t.log in
    let grows : Begins t.log next = then_begins seat who (call_on_line t.line) t.log in
    let joined' : has_join next who ≡ true = any_grown (is_join_by who) t.log next grows (any_grown (is_join_by who) before t.log h.1 joined) in (
      one_true seat who number before after (call_on_line t.line) t (plain_asked (request_of t.line)) joined h.0 h.1 (replies_begin seat who (suc number) next ts after h.2),
      are_true seat who (suc number) next ts after joined' h.2,
    )
