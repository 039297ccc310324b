-- The replies to lines, one line more, and a longer log.
use Rattle.std.proofs.Common.{◌≡◌, ℕ, suc, ◌+◌, List, [], ◌∷◌, ◌++◌, length, sym, ap, ◌∙◌, subst, arith, append_assoc}
use Rattle.std.proofs.lemmas.List.{append-nil}
use Rattle.seat_lock.specs.Lists.{Begins, AllOf}
use Rattle.seat_lock.proofs.Begins.{begins_then}
use Rattle.troop_entry.specs.declared.row.Row.{Row}
use Rattle.session.specs.Printed.{reply_line}
use Rattle.session.specs.Replies.{AnsweredLine, call_on_line, reply_given, log_then, rows_by, AreReplies, rows_of_turns, printed}

module _ (seat who : ℕ) where
  -- they are replies between longer logs too
  pub replies_grown : (number : ℕ) (before : List Row) (ts : List AnsweredLine) (after after' : List Row) → AreReplies seat who number before ts after → Begins after after' → AreReplies seat who number before ts after'
  replies_grown number before [] after after' h grows = begins_then before after after' h grows
  replies_grown number before (t ∷ ts) after after' h grows = (h.0, h.1, replies_grown (suc number) (log_then seat who (call_on_line t.line) t.log) ts after after' h.2 grows)

  -- one reply more
  pub replies_more : (t : AnsweredLine) (number number' : ℕ) (before : List Row) (ts : List AnsweredLine) (mid after : List Row) → AreReplies seat who number before ts mid → number' ≡ number + length ts
      → t.reply ≡ reply_given seat who number' (call_on_line t.line) t.log → Begins mid t.log → Begins (log_then seat who (call_on_line t.line) t.log) after → AreReplies seat who number before (ts ++ t ∷ []) after
  replies_more t number number' before [] mid after h is given begins grows =
      let same : number' ≡ number = omega (arith, is) in
      (subst (λ n. t.reply ≡ reply_given seat who n (call_on_line t.line) t.log) same given, begins_then before mid t.log h begins, grows)
  replies_more t number number' before (u ∷ ts) mid after h is given begins grows =
      (h.0, h.1, replies_more t (suc number) number' (log_then seat who (call_on_line u.line) u.log) ts mid after h.2 (omega (arith, is)) given begins grows)

  -- the row that it gains, if any
  pub rows_more : (t : AnsweredLine) (ts : List AnsweredLine) → rows_of_turns seat who (ts ++ t ∷ []) ≡ rows_of_turns seat who ts ++ rows_by seat who (call_on_line t.line) t.log
  rows_more t [] = append-nil (rows_by seat who (call_on_line t.line) t.log)
  rows_more t (u ∷ ts) =
      ap (λ l. rows_by seat who (call_on_line u.line) u.log ++ l) (rows_more t ts) ∙ sym (append_assoc (rows_by seat who (call_on_line u.line) u.log) (rows_of_turns seat who ts) (rows_by seat who (call_on_line t.line) t.log))

-- it is written behind the others
pub printed_more : (t : AnsweredLine) (ts : List AnsweredLine) → printed (ts ++ t ∷ []) ≡ printed ts ++ reply_line t.reply
printed_more t [] = append-nil (reply_line t.reply)
printed_more t (u ∷ ts) = ap (λ l. reply_line u.reply ++ l) (printed_more t ts) ∙ sym (append_assoc (reply_line u.reply) (printed ts) (reply_line t.reply))

-- what holds of each of a list's elements, and of one more
pub all_of-more : {A : Type 0} (P : A → Type 0) (xs : List A) (x : A) → AllOf P xs → P x → AllOf P (xs ++ x ∷ [])
all_of-more P [] x h p = (p, tt)
all_of-more P (y ∷ xs) x h p = (h.0, all_of-more P xs x h.1 p)
