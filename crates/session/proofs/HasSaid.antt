-- An up line, one line more.
use Rattle.std.proofs.Common.{◌≡◌, ℕ, ◌+◌, ◌≤◌, List, [], ◌∷◌, ◌++◌, length, refl, sym, ap, ◌∙◌, subst, Option, Some, None, IfSome, append_assoc}
use Rattle.std.proofs.lemmas.List.{append-nil, map-append}
use Rattle.seat_lock.specs.Lists.{Begins}
use Rattle.seat_lock.proofs.Begins.{begins_same, begins_then}
use Rattle.troop_entry.specs.declared.call.Call.{Call}
use Rattle.troop_entry.specs.declared.row.Row.{Row}
use Rattle.troop_hall.specs.Seats.{DeskSeatValue, IsLater}
use Rattle.wire_lines.specs.Lines.{lines}
use Rattle.wire_json.specs.declared.replies.WireReply.{WireReply}
use Rattle.wire_json.specs.declared.replies.WireReply.TheVariants as wire
use Rattle.session.specs.Replies.{AnsweredLine, call_on_line, reply_given, log_then, rows_by, rows_of_turns, lines_of_turns}
use Rattle.session.specs.Parts.{AnswersLine, HasSaid}
use Rattle.session.proofs.AreReplies.{replies_grown, replies_more, rows_more, all_of-more}

-- a seat later, and later still
pub later_then : (s t u : DeskSeatValue) → IsLater s t → IsLater t u → IsLater s u
later_then s t u a b = record {
  number = b.number ∙ a.number;
  index = b.index ∙ a.index;
  made = b.made ∙ a.made;
  seen = begins_then s.seen t.seen u.seen a.seen b.seen;
}

-- the same seat
pub later_same : (s : DeskSeatValue) → IsLater s s
later_same s = record {
  number = refl;
  index = refl;
  made = refl;
  seen = begins_same s.seen s.seen refl;
}

-- the log at which a line was answered
record IsAnswer (seat who number : ℕ) (asked : Option (ℕ × Call)) (s : DeskSeatValue) (r : WireReply) (t : DeskSeatValue) : Type 0 where
  pub log : List Row
  pub given : r ≡ reply_given seat who number asked log
  pub begins : Begins s.seen log
  pub seen : t.seen ≡ log_then seat who asked log
  pub own : t.own ≡ s.own ++ rows_by seat who asked log

answer_of : (who number : ℕ) (asked : Option (ℕ × Call)) (s : DeskSeatValue) (r : WireReply) (t : DeskSeatValue) → AnswersLine who number asked s r t → IsAnswer s.number who number asked s r t
answer_of who number asked s (wire.Desk r) t h =
    subst (λ o. IsAnswer s.number who number o s (wire.Desk r) t) (sym h.1) (record {
      log = h.2.log;
      given = ap wire.Desk h.2.reply_is;
      begins = h.2.begins;
      seen = h.2.seen;
      own = h.2.own;
    })
answer_of who number asked s (wire.Bad line) t h =
    subst (λ o. IsAnswer s.number who number o s (wire.Bad line) t) (sym h.0) (record {
      log = s.seen;
      given = ap wire.Bad h.1;
      begins = begins_same s.seen s.seen refl;
      seen = h.2;
      own = h.3 ∙ sym (append-nil s.own);
    })
answer_of who number asked s (wire.Long line) t h = absurd h
answer_of who number asked s (wire.Unfit line) t h = absurd h

-- what is left of the bytes behind one line more
pub read_more : (read : List (List ℕ)) (line : List ℕ) (before left left' : Option (List ℕ)) → IfSome before (λ bytes. (rest : List ℕ) × (lines bytes ≡ read ++ lines rest) × (left ≡ Some rest))
    → IfSome left (λ bytes. (rest : List ℕ) × (left' ≡ Some rest) × (lines bytes ≡ line ∷ lines rest))
    → IfSome before (λ bytes. (rest : List ℕ) × (lines bytes ≡ (read ++ line ∷ []) ++ lines rest) × (left' ≡ Some rest))
read_more read line None left left' a b = tt
read_more read line (Some bytes) left left' a b =
    let next = subst (λ o. IfSome o (λ z. (rest : List ℕ) × (left' ≡ Some rest) × (lines z ≡ line ∷ lines rest))) a.2 b in
    (next.0, a.1 ∙ (ap (λ l. read ++ l) next.2 ∙ sym (append_assoc read (line ∷ []) (lines next.0))), next.1)

module _ (limit who number : ℕ) (s t u : DeskSeatValue) (before left left' : Option (List ℕ)) (ts : List AnsweredLine) (line : List ℕ) (r : WireReply) where
  -- one line was answered, at this log
  pub said_more : HasSaid limit who s t before left ts → number ≡ 2 + length ts → AnswersLine who number (call_on_line line) t r u → IsLater t u → length line ≤ limit
      → IfSome left (λ bytes. (rest : List ℕ) × (left' ≡ Some rest) × (lines bytes ≡ line ∷ lines rest))
      → (log : List Row) × HasSaid limit who s u before left' (ts ++ record { line = line; log = log; reply = r } ∷ [])
  said_more said count answers later short next =
      let a = subst (λ n. IsAnswer n who number (call_on_line line) t r u) said.later.number (answer_of who number (call_on_line line) t r u answers) in
      let turn : AnsweredLine = record { line = line; log = a.log; reply = r } in
      let n = s.number in (
        a.log,
        record {
          later = later_then s t u said.later later;
          replies = replies_more n who turn 2 number s.seen ts t.seen u.seen said.replies count a.given a.begins (begins_same _ u.seen (sym a.seen));
          own = a.own ∙ (ap (λ l. l ++ rows_by n who (call_on_line line) a.log) said.own ∙ (append_assoc s.own (rows_of_turns n who ts) (rows_by n who (call_on_line line) a.log) ∙ ap (λ l. s.own ++ l) (sym (rows_more n who turn ts))));
          short = all_of-more (λ (z : AnsweredLine). length z.line ≤ limit) ts turn said.short short;
          read = subst (λ l. IfSome before (λ bytes. (rest : List ℕ) × (lines bytes ≡ l ++ lines rest) × (left' ≡ Some rest))) (sym (map-append (λ (z : AnsweredLine). z.line) ts (turn ∷ []))) (read_more (lines_of_turns ts) line before left left' said.read next);
        },
      )

-- nothing more was answered, but the seat has seen more
pub said_later : (limit who : ℕ) (s t u : DeskSeatValue) (before left : Option (List ℕ)) (ts : List AnsweredLine) → HasSaid limit who s t before left ts → IsLater t u → u.own ≡ t.own → HasSaid limit who s u before left ts
said_later limit who s t u before left ts said later own = record {
  later = later_then s t u said.later later;
  replies = replies_grown s.number who 2 s.seen ts t.seen u.seen said.replies later.seen;
  own = own ∙ said.own;
  short = said.short;
  read = said.read;
}
