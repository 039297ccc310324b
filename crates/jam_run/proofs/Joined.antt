-- One join more.
use Rattle.std.proofs.Common.{◌≡◌, ℕ, suc, ◌+◌, Bool, true, false, if◌then◌else◌, List, [], ◌∷◌, ◌++◌, length, length-append, sym, ap, ◌∙◌, append-nil, arith}
use Rattle.std.specs.Prelude.{◌==◌, None}
use Rattle.seat_lock.proofs.AllOf.{nil_of}
use Rattle.troop_entry.specs.declared.call.Call.TheVariants.{Join}
use Rattle.troop_entry.specs.declared.call.Lang.TheVariants.{Lines}
use Rattle.troop_entry.specs.declared.reply.Reply.TheVariants as reply
use Rattle.troop_entry.specs.declared.row.Row.{Row}
use Rattle.log_model.specs.Answers.{most_joins, answer, is_accepted, row_made}
use Rattle.log_model.specs.Log.{join_count}
use Rattle.troop_hall.specs.Seats.{DeskSeatValue, IsAnswered}
use Rattle.jam_run.specs.Joins.{player_name, join_row, join_rows}
use Rattle.jam_run.proofs.JoinRows.{length-join_rows, join_count-join_rows}

-- a join's row
abbrev row_of : ℕ → ℕ → List ℕ → Row
row_of who seat name = record { who = who; num = 0; seat = seat; call = Join name Lines; op = None }

placed_at : (b : Bool) (at by n who : ℕ) → reply.Placed at by ≡ (if b then reply.Crowded most_joins else reply.Placed n who) → at ≡ n
placed_at true at by n who e = absurd (cc)
placed_at false at by n who e = cc

-- the next performer's join, which was placed behind so many
pub joined_more : (u v : DeskSeatValue) (k at by : ℕ) (name : List ℕ) → u.number ≡ 0 → at ≡ k → name ≡ player_name (k + 1)
    → IsAnswered (record { who = 0; num = 0; call = Join name Lines }) u (reply.Placed at by) v → u.seen ≡ join_rows k → u.own ≡ join_rows k
    → (v.seen ≡ join_rows (k + 1)) × (v.own ≡ join_rows (k + 1))
joined_more u v k at by name number_is at_is name_is answered seen own =
    let log : List Row = answered.log in
    let length_is : at ≡ length log = placed_at (join_count log == most_joins) at by (length log) (join_count log + 1) answered.reply_is in
    let seen_is : length u.seen ≡ k = ap length seen ∙ length-join_rows k in
    let whole : length (u.seen ++ answered.begins.0) ≡ length log = ap length answered.begins.1 in
    let none : answered.begins.0 ≡ [] = nil_of answered.begins.0 (omega (arith, at_is, length_is, seen_is, whole, length-append u.seen answered.begins.0)) in
    let log_is : log ≡ join_rows k = sym answered.begins.1 ∙ ap (λ l. u.seen ++ l) none ∙ append-nil u.seen ∙ seen in
    let one : k + 1 ≡ suc k = omega arith in
    let who_is : join_count log + 1 ≡ suc k = ap (λ l. join_count l + 1) log_is ∙ ap (λ j. j + 1) (join_count-join_rows k) ∙ one in
    let row_is : row_made log u.number 0 0 (Join name Lines) ≡ join_row k =
    ap (λ who. row_of who u.number name) who_is ∙ ap (λ seat. row_of (suc k) seat name) number_is ∙ ap (row_of (suc k) 0) (name_is ∙ ap player_name one) in
    let accepted : is_accepted (answer log 0 0 (Join name Lines)) ≡ true = ap is_accepted (sym answered.reply_is) in
    let gained : (if is_accepted (answer log 0 0 (Join name Lines)) then row_made log u.number 0 0 (Join name Lines) ∷ [] else []) ≡ join_row k ∷ [] =
    ap (λ b. if b then row_made log u.number 0 0 (Join name Lines) ∷ [] else []) accepted ∙ ap (λ r. r ∷ []) row_is in
    let more : v.seen ≡ log ++ row_made log u.number 0 0 (Join name Lines) ∷ [] =
    answered.seen ∙ ap (λ b. if b then log ++ row_made log u.number 0 0 (Join name Lines) ∷ [] else log) accepted in (
      more ∙ ap (λ r. log ++ r ∷ []) row_is ∙ ap (λ l. l ++ join_row k ∷ []) log_is ∙ ap join_rows (sym one),
      answered.own ∙ ap (λ l. u.own ++ l) gained ∙ ap (λ l. l ++ join_row k ∷ []) own ∙ ap join_rows (sym one),
    )
