-- A session from its first line.
use Rattle.std.proofs.Common.{◌≡◌, ◌⊎◌, inl, inr, ⊎_elim, ℕ, ◌≤◌, false, List, [], ◌∷◌, ◌++◌, length, refl, sym, ap, ◌∙◌, subst, Option, Some, None, IfSome, append_assoc}
use Rattle.std.specs.Prelude.{Vec}
use Rattle.std.specs.declared.alloc.Global.{Global}
use Rattle.std.proofs.lemmas.List.{append-nil}
use Rattle.troop_entry.specs.declared.row.Row.{Row}
use Rattle.troop_ports.specs.Bytes.{in_front}
use Rattle.troop_hall.specs.Seats.{DeskSeatValue}
use Rattle.std.proofs.lemmas.List.Elements.{All-nil}
use Rattle.wire_lines.specs.Lines.{lines, line_feed, HasNoFeed}
use Rattle.wire_lines.specs.Reader.{Reader, held_bytes, EndsLine, ReadsLine, IsNextLine}
use Rattle.wire_lines.proofs.LinesArePieces.{whole_are_pieces}
use Rattle.wire_lines.specs.declared.reader.State.TheVariants as state
use Rattle.wire_lines.specs.declared.reader.Line.{Line}
use Rattle.wire_lines.specs.declared.reader.Line.TheVariants as line
use Rattle.wire_json.specs.declared.replies.WireReply.TheVariants as wire
use Rattle.session.specs.declared.session_end.SessionEnd.{SessionEnd}
use Rattle.session.specs.declared.session_end.SessionEnd.TheVariants as ends
use Rattle.session.specs.declared.opening.Opening.{Opening}
use Rattle.session.specs.declared.service.Service.{Service}
use Rattle.session.specs.declared.service.Service.TheVariants as service
use Rattle.session.specs.Printed.{request_of, reply_line}
use Rattle.session.specs.Ends.{Wires, Wrote, stream, wires}
use Rattle.session.specs.UpLines.{HasAttended}
use Rattle.session.specs.DownLines.{DownLine, SnapLine}
use Rattle.session.specs.Sessions.{First, line_limit, service_asked, OpensSession, OpensBehind, IsCutAt, IsBehind, IsSilent, IsRefused, HasServed}
use Rattle.session.specs.Sessions as first
use Rattle.session.proofs.ReadsOn.{next_if_told, if_told, fault_held}

module _ (line : List ℕ) (s t : DeskSeatValue) (end : SessionEnd) (w : Wires) (o : Option Service) (is : o ≡ service_asked (request_of line)) where
  by_service : (gained : List Row) → t.own ≡ s.own ++ gained → (p : Option Service) → o ≡ p → OpensSession p s.number s.seen t.seen gained end w → OpensBehind line s t end w
  by_service gained own p e h = record {
    gained = gained;
    own = own;
    opens = inl (subst (λ x. OpensSession x s.number s.seen t.seen gained end w) (sym e ∙ is) h);
  }

  -- an up line
  pub up_behind : (opening : Opening) (limit : ℕ) (asked : Service) → o ≡ Some asked → asked ≡ service.Up opening → limit ≡ line_limit → HasAttended limit opening s t end w → OpensBehind line s t end w
  up_behind opening limit asked e asked_is same h =
      let up = subst (λ k. HasAttended k opening s t end w) same h in
      by_service up.gained up.own (Some (service.Up opening)) (e ∙ ap Some asked_is) up.line

  -- a down line
  pub down_behind : (start who : ℕ) (asked : Service) → o ≡ Some asked → asked ≡ service.Down start who → t.own ≡ s.own → w.left_after ≡ w.left_before → DownLine start who s.seen t.seen end w.taken_before w.taken_after → OpensBehind line s t end w
  down_behind start who asked e asked_is own unread h =
      by_service [] (own ∙ sym (append-nil s.own)) (Some (service.Down start who)) (e ∙ ap Some asked_is) (record { idle = record { none = refl; unread = unread }; line = h })

  -- one that begins with a snapshot
  pub snap_behind : (who : ℕ) (asked : Service) → o ≡ Some asked → asked ≡ service.Snap who → t.own ≡ s.own → w.left_after ≡ w.left_before → SnapLine who s.seen t.seen end w.taken_before w.taken_after → OpensBehind line s t end w
  snap_behind who asked e asked_is own unread h =
      by_service [] (own ∙ sym (append-nil s.own)) (Some (service.Snap who)) (e ∙ ap Some asked_is) (record { idle = record { none = refl; unread = unread }; line = h })

  -- a refusal
  pub none_behind : o ≡ None → t.own ≡ s.own → Wrote (ends.Unfit 1) end (reply_line (wire.Unfit 1)) w.taken_before w.taken_after → OpensBehind line s t end w
  none_behind e own h = by_service [] (own ∙ sym (append-nil s.own)) None e (record { none = refl; wrote = h })

-- ---- the first line

unheld : (before : Option (List ℕ)) → in_front [] before ≡ before
unheld None = refl
unheld (Some bytes) = refl

-- what an answer of a new reader says of its link's bytes
first_told : (result : Line) (old new : Reader) (before after : Option (List ℕ)) → old ≡ record { limit = line_limit; front = []; piece = []; state = state.Going; whole = false } → ReadsLine result old new before after
    → IfSome before (λ bytes. IsNextLine line_limit result bytes (stream new after))
first_told result old new before after is reads =
    let start : Reader = record { limit = line_limit; front = []; piece = []; state = state.Going; whole = false } in
    subst (λ o. IfSome o (λ bytes. IsNextLine line_limit result bytes (stream new after))) (unheld before)
    (next_if_told result start new before after (inl refl) (subst (λ r. ReadsLine result r new before after) is reads))

or_none : Option (List ℕ) → List ℕ
or_none None = []
or_none (Some bytes) = bytes

-- a first line stands in front of a line feed, or there is nothing behind it
first_cut : (text taken : List ℕ) (new : Reader) (mid : Option (List ℕ)) (bytes rest : List ℕ) → EndsLine text taken new mid → in_front taken mid ≡ Some bytes → stream new mid ≡ Some rest → (bytes ≡ text ++ line_feed ∷ rest) ⊎ ((bytes ≡ text) × (rest ≡ []))
unfolding or_none
first_cut text taken new None bytes rest ends all left = let never : None ≡ Some bytes = all in absurd cc
first_cut text taken new (Some m) bytes rest (inl ends) all left =
    let whole : taken ++ m ≡ bytes = ap or_none all in
    let held : held_bytes new ++ m ≡ rest = ap or_none left in
    inl (sym whole ∙ (ap (λ l. l ++ m) ends.0 ∙ (append_assoc text (line_feed ∷ held_bytes new) m ∙ ap (λ l. text ++ line_feed ∷ l) held)))
first_cut text taken new (Some m) bytes rest (inr ends) all left =
    let whole : taken ++ m ≡ bytes = ap or_none all in
    let held : held_bytes new ++ m ≡ rest = ap or_none left in
    let none : m ≡ [] = ends.5 in
    inr (sym whole ∙ (ap (λ l. taken ++ l) none ∙ (append-nil taken ∙ ends.0)), sym held ∙ (λ i. ends.2 i ++ none i))

-- a session with a first line
pub served_line : (text : Vec ℕ Global) (found : List ℕ) (old new : Reader) (held : List ℕ) (s t : DeskSeatValue) (end : SessionEnd) (before mid after taken taken' new_taken : Option (List ℕ)) → old ≡ record { limit = line_limit; front = []; piece = []; state = state.Going; whole = false }
    → ReadsLine (line.Text text) old new before mid → found ≡ text.items → taken' ≡ taken → OpensBehind found s t end (wires (stream new mid) (in_front held after) after taken' new_taken) → HasServed s t end before after taken new_taken
served_line text found old new held s t end before mid after taken taken' new_taken is reads same untouched h =
    let limit : old.limit ≡ line_limit = ap (λ (r : Reader). r.limit) is in
    let told = first_told (line.Text text) old new before mid is reads in
    let opened = subst (λ o. OpensBehind found s t end (wires (stream new mid) (in_front held after) after o new_taken)) untouched h in
    record {
      first = first.Line found;
      gained = opened.gained;
      held = held;
      own = opened.own;
      session = record {
        short = subst (λ (x : List ℕ × ℕ). length x.0 ≤ x.1) (λ i. (sym same i, limit i)) reads.gives.2;
        behind = stream new mid;
        first = subst (λ l. IsBehind l before (stream new mid)) (sym same) (fewer before refl told);
        opens = ⊎_elim (λ o. inl o) (λ m. inr (m.0, record { none = m.1.none; unwritten = m.1.unwritten })) opened.opens;
      };
    }
  where
    ends : EndsLine text.items reads.taken new mid
    ends = subst (λ (r : Reader). EndsLine text.items (held_bytes r ++ reads.taken) new mid) is reads.gives.3

    fewer : (o : Option (List ℕ)) → o ≡ before → IfSome o (λ bytes. IsNextLine line_limit (line.Text text) bytes (stream new mid)) → IfSome o (λ bytes. (rest : List ℕ) × (stream new mid ≡ Some rest) × (lines bytes ≡ text.items ∷ lines rest) × IsCutAt text.items bytes rest)
    fewer None same h = tt
    fewer (Some bytes) same h = (h.0, h.1, h.2, (reads.gives.1, first_cut text.items reads.taken new mid bytes h.0 ends (sym reads.given ∙ sym same) h.1))

-- the first line is over the limit
pub served_long : (old new : Reader) (s : DeskSeatValue) (end : SessionEnd) (before mid after taken taken' new_taken : Option (List ℕ)) → old ≡ record { limit = line_limit; front = []; piece = []; state = state.Going; whole = false }
    → ReadsLine line.Long old new before mid → taken' ≡ taken → Wrote (ends.Long 1) end (reply_line (wire.Long 1)) taken' new_taken → HasServed s s end before after taken new_taken
served_long old new s end before mid after taken taken' new_taken is reads untouched wrote = record {
  first = first.Long;
  gained = [];
  held = [];
  own = sym (append-nil s.own);
  session = (first_told line.Long old new before mid is reads, record { none = refl; wrote = subst (λ o. Wrote (ends.Long 1) end (reply_line (wire.Long 1)) o new_taken) untouched wrote });
}

-- a fault in front of any line
pub served_fault : (old new : Reader) (s : DeskSeatValue) (before after taken new_taken : Option (List ℕ)) → old ≡ record { limit = line_limit; front = []; piece = []; state = state.Going; whole = false } → ReadsLine line.Fault old new before after → new_taken ≡ taken
    → HasServed s s ends.LinkFault before after taken new_taken
served_fault old new s before after taken new_taken is reads untouched =
    let start : Reader = record { limit = line_limit; front = []; piece = []; state = state.Going; whole = false } in
    let held = fault_held start new before after (inl refl) (subst (λ r. ReadsLine line.Fault r new before after) is reads) in
    record {
      first = first.Failure;
      gained = [];
      held = [];
      own = sym (append-nil s.own);
      session = (inl (refl, (held_bytes new, sym (unheld before) ∙ held.2, whole_are_pieces [] (held_bytes new) (All-nil HasNoFeed) held.1)), record { none = refl; unwritten = untouched });
    }
