-- Calls that are placed: what follows of the log that they are placed at.
use Rattle.std.proofs.Common.{◌≡◌, ℕ, ◌+◌, ◌≤◌, Bool, true, false, if◌then◌else◌, Option, None, Some, List, length, take, refl, sym, ap, ◌∙◌, arith}
use Rattle.std.specs.Prelude.{nat_lt, ◌==◌}
use Rattle.std.proofs.lemmas.Bool.Decides.{nat_tests}
use Rattle.ot_text.specs.Change.{Change, base, insert_then, delete_then, nothing}
use Rattle.ot_text.proofs.Then.{base-delete_then}
use Rattle.troop_entry.specs.declared.call.Call.{Call}
use Rattle.troop_entry.specs.declared.call.Call.TheVariants as call
use Rattle.troop_entry.specs.declared.reply.Reply.{Reply}
use Rattle.troop_entry.specs.declared.reply.Reply.TheVariants as reply
use Rattle.troop_entry.specs.declared.row.Row.{Row}
use Rattle.troop_entry.specs.Same.{same_call}
use Rattle.ot_transform.specs.Chain.{IsChain}
use Rattle.log_model.specs.Log.{join_count, is_member, ops, doc}
use Rattle.log_model.specs.Answers.{most_joins, answer, answer_new, answer_by, earlier_call, answer_seen, answer_edit, author, number, row_made, served_op, is_accepted, refusal_of, log_after}
use Rattle.log_model.specs.Legal.{IsRowMade, OpFits, HasSeenAtMost}
use Rattle.log_model.proofs.DocFrom.{moved_fits}

-- one of two answers that is placed is the placed one
chosen : (b : Bool) (x y placed : Reply) → (is_accepted x ≡ true → x ≡ placed) → (is_accepted y ≡ true → y ≡ placed)
    → is_accepted (if b then x else y) ≡ true → (if b then x else y) ≡ placed
chosen true x y placed f g is = f is
chosen false x y placed f g is = g is

seen_chosen : (log : List Row) (who seen : ℕ) → is_accepted (answer_seen log who seen) ≡ true → answer_seen log who seen ≡ reply.Placed (length log) who
seen_chosen log who seen = chosen (nat_lt (length log) seen) (reply.Ahead seen (length log)) (reply.Placed (length log) who) (reply.Placed (length log) who) (λ no. cc) (λ _. refl)

edit_chosen : (log : List Row) (who seen : ℕ) (op : Change) → is_accepted (answer_edit log who seen op) ≡ true → answer_edit log who seen op ≡ reply.Placed (length log) who
edit_chosen log who seen op =
    chosen (nat_lt (length log) seen) (reply.Ahead seen (length log))
    (if base op == length (doc (take seen log)) then reply.Placed (length log) who else reply.BadBase (base op) (length (doc (take seen log))))
    (reply.Placed (length log) who) (λ no. cc)
    (chosen (base op == length (doc (take seen log))) (reply.Placed (length log) who) (reply.BadBase (base op) (length (doc (take seen log)))) (reply.Placed (length log) who) (λ _. refl) (λ no. cc))

-- a placed answer tells the length of the log and the row's performer
pub placed_is : (log : List Row) (who : ℕ) (c : Call) → is_accepted (answer_new log who c) ≡ true → answer_new log (author log who c) c ≡ reply.Placed (length log) (author log who c)
placed_is log who (call.Join name lang) =
    chosen (join_count log == most_joins) (reply.Crowded most_joins) (reply.Placed (length log) (join_count log + 1)) (reply.Placed (length log) (join_count log + 1)) (λ no. cc) (λ _. refl)
placed_is log who call.Leave = chosen (is_member log who) (reply.Placed (length log) who) (reply.NotMember who) (reply.Placed (length log) who) (λ _. refl) (λ no. cc)
placed_is log who (call.Edit seen op) = chosen (is_member log who) (answer_edit log who seen op) (reply.NotMember who) (reply.Placed (length log) who) (edit_chosen log who seen op) (λ no. cc)
placed_is log who (call.Eval seen text) = chosen (is_member log who) (answer_seen log who seen) (reply.NotMember who) (reply.Placed (length log) who) (seen_chosen log who seen) (λ no. cc)
placed_is log who (call.Reset seen text) = chosen (is_member log who) (answer_seen log who seen) (reply.NotMember who) (reply.Placed (length log) who) (seen_chosen log who seen) (λ no. cc)

-- a placed call is new: no row stands under its number
pub placed_is_new : (found : Option (ℕ × Call)) (who num : ℕ) (c : Call) (new : Reply) → is_accepted (answer_by found who num c new) ≡ true → (found ≡ None) × (is_accepted new ≡ true)
placed_is_new None who num c new is = (refl, is)
placed_is_new (Some found) who num c new is = absurd (neither (same_call found.1 c) is)
  where
    neither : (b : Bool) → is_accepted (if b then reply.Kept found.0 who else reply.Clash num found.0) ≡ true → ⊥
    neither true is = cc
    neither false is = cc

-- a placed call has no row under its number, and is placed as a new one
pub is_new : (log : List Row) (who num : ℕ) (c : Call) → is_accepted (answer log who num c) ≡ true → (earlier_call log who num c ≡ None) × (is_accepted (answer_new log who c) ≡ true)
is_new log who num c is = placed_is_new (earlier_call log who num c) who num c (answer_new log who c) is

-- where no row stands under its number, a call is answered as a new one
pub answer_fresh : (log : List Row) (who num : ℕ) (c : Call) → earlier_call log who num c ≡ None → answer log who num c ≡ answer_new log who c
answer_fresh log who num c none = ap (λ found. answer_by found who num c (answer_new log who c)) none

same_new : (log : List Row) (who : ℕ) (c : Call) → answer_new log (author log who c) c ≡ answer_new log who c
same_new log who (call.Join name lang) = refl
same_new log who call.Leave = refl
same_new log who (call.Edit seen op) = refl
same_new log who (call.Eval seen text) = refl
same_new log who (call.Reset seen text) = refl

-- ---- calls that no cause stands against

none_against : (placed : Bool) (r : Reply) → (if placed then None else Some r) ≡ None → placed ≡ true
none_against true r none = refl
none_against false r none = absurd (cc)

some_against : (placed : Bool) (r s : Reply) → (if placed then None else Some r) ≡ Some s → (placed ≡ false) × (r ≡ s)
some_against true r s some = absurd (cc)
some_against false r s some = (refl, cc)

-- a call that nothing refuses is placed
pub not_refused : (log : List Row) (who num : ℕ) (c : Call) → refusal_of log who num c ≡ None → is_accepted (answer log who num c) ≡ true
not_refused log who num c none = none_against (is_accepted (answer log who num c)) (answer log who num c) none

-- the answer to a call that nothing refuses
pub placed_answer : (log : List Row) (who num : ℕ) (c : Call) → refusal_of log who num c ≡ None → answer log who num c ≡ reply.Placed (length log) (author log who c)
placed_answer log who num c none =
    let new = is_new log who num c (not_refused log who num c none) in
    answer_fresh log who num c new.0 ∙ sym (same_new log who c) ∙ placed_is log who c new.1

-- the answer to a refused call, which leaves the log
pub refused_answer : (log : List Row) (seat who num : ℕ) (c : Call) (r : Reply) → refusal_of log who num c ≡ Some r → (answer log who num c ≡ r) × (log_after log seat who num c ≡ log)
refused_answer log seat who num c r some =
    let against = some_against (is_accepted (answer log who num c)) (answer log who num c) r some in (against.1, rw against.0 refl)

-- the row's author asks what the row's maker asked
same_asked : (log : List Row) (who num : ℕ) (c : Call) → earlier_call log (author log who c) (number num c) c ≡ earlier_call log who num c
same_asked log who num (call.Join name lang) = refl
same_asked log who num call.Leave = refl
same_asked log who num (call.Edit seen op) = refl
same_asked log who num (call.Eval seen text) = refl
same_asked log who num (call.Reset seen text) = refl

same_made : (log : List Row) (seat who num : ℕ) (c : Call) → row_made log seat who num c ≡ row_made log seat (author log who c) (number num c) c
same_made log seat who num (call.Join name lang) = refl
same_made log seat who num call.Leave = refl
same_made log seat who num (call.Edit seen op) = refl
same_made log seat who num (call.Eval seen text) = refl
same_made log seat who num (call.Reset seen text) = refl

-- a placed call makes its row
pub made_placed : (log : List Row) (seat who num : ℕ) (c : Call) → is_accepted (answer log who num c) ≡ true → IsRowMade log (row_made log seat who num c)
made_placed log seat who num c placed =
    let new = is_new log who num c placed in
    record {
      placed = answer_fresh log (author log who c) (number num c) c (same_asked log who num c ∙ new.0) ∙ placed_is log who c new.1;
      same = same_made log seat who num c;
    }

-- the call of a row is a new one there
pub made_is_new : (log : List Row) (row : Row) → IsRowMade log row → (earlier_call log row.who row.num row.call ≡ None) × (is_accepted (answer_new log row.who row.call) ≡ true)
made_is_new log row is_made = is_new log row.who row.num row.call (ap is_accepted is_made.placed)

-- ---- what a placed call had seen

-- the first of two answers was chosen, if the second is no placing
pub first_chosen : (b : Bool) (x y : Reply) → is_accepted y ≡ false → is_accepted (if b then x else y) ≡ true → (b ≡ true) × (is_accepted x ≡ true)
first_chosen true x y not is = (refl, is)
first_chosen false x y not is = absurd (cc)

-- the second of two answers was chosen, if the first is no placing
pub second_chosen : (b : Bool) (x y : Reply) → is_accepted x ≡ false → is_accepted (if b then x else y) ≡ true → (b ≡ false) × (is_accepted y ≡ true)
second_chosen true x y not is = absurd (cc)
second_chosen false x y not is = (refl, is)

same_base : (m n : ℕ) → (m == n) ≡ true → m ≡ n
same_base m n is = grind (arith, nat_tests)

not_ahead : (n seen : ℕ) → nat_lt n seen ≡ false → seen ≤ n
not_ahead n seen is = grind (arith, nat_tests)

seen_within : (log : List Row) (who seen : ℕ) → is_accepted (answer_seen log who seen) ≡ true → seen ≤ length log
seen_within log who seen is =
    not_ahead (length log) seen (second_chosen (nat_lt (length log) seen) (reply.Ahead seen (length log)) (reply.Placed (length log) who) refl is).0

-- a placed edit knows a revision, and fits its document
pub edit_within : (log : List Row) (who seen : ℕ) (op : Change) → is_accepted (answer_edit log who seen op) ≡ true → (seen ≤ length log) × (base op ≡ length (doc (take seen log)))
edit_within log who seen op is =
    let near = second_chosen (nat_lt (length log) seen) (reply.Ahead seen (length log))
    (if base op == length (doc (take seen log)) then reply.Placed (length log) who else reply.BadBase (base op) (length (doc (take seen log)))) refl is in
    let fit = first_chosen (base op == length (doc (take seen log))) (reply.Placed (length log) who) (reply.BadBase (base op) (length (doc (take seen log)))) refl near.1 in
    (not_ahead (length log) seen near.0, same_base (base op) (length (doc (take seen log))) fit.0)

-- a placed call has seen no more rows than there are
pub placed_seen : (log : List Row) (who : ℕ) (c : Call) → is_accepted (answer_new log who c) ≡ true → HasSeenAtMost (length log) c
placed_seen log who (call.Join name lang) placed = tt
placed_seen log who call.Leave placed = tt
placed_seen log who (call.Edit seen op) placed = (edit_within log who seen op (first_chosen (is_member log who) (answer_edit log who seen op) (reply.NotMember who) refl placed).1).0
placed_seen log who (call.Eval seen text) placed = seen_within log who seen (first_chosen (is_member log who) (answer_seen log who seen) (reply.NotMember who) refl placed).1
placed_seen log who (call.Reset seen text) placed = seen_within log who seen (first_chosen (is_member log who) (answer_seen log who seen) (reply.NotMember who) refl placed).1

-- ---- a placed call's operation fits the document

base-replacing : (text : List ℕ) (n : ℕ) → base (insert_then text (delete_then n nothing)) ≡ n
base-replacing text n = omega (arith, base-delete_then n nothing)

-- the operation of a placed call's row fits the document
pub placed_fits : (log : List Row) (who : ℕ) (c : Call) → IsChain 0 (ops log) → is_accepted (answer_new log who c) ≡ true → OpFits (served_op log c) (length (doc log))
placed_fits log who (call.Join name lang) run placed = tt
placed_fits log who call.Leave run placed = tt
placed_fits log who (call.Edit seen op) run placed =
    moved_fits seen log op run (edit_within log who seen op (first_chosen (is_member log who) (answer_edit log who seen op) (reply.NotMember who) refl placed).1).1
placed_fits log who (call.Eval seen text) run placed = tt
placed_fits log who (call.Reset seen text) run placed = base-replacing text (length (doc log))
