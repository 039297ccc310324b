-- How the lines of an up line end.
use Rattle.std.proofs.Common.{◌≡◌, inl, inr, ⊎_elim, ℕ, ◌+◌, ◌≤◌, Bool, true, false, ◌&&◌, ◌||◌, List, [], ◌∷◌, ◌++◌, length, refl, sym, ap, ◌∙◌, subst, arith, Option, Some, None, IfSome, Result, Ok, Err, append_assoc}
use Rattle.std.proofs.lemmas.List.{append-nil, length-append, map-append}
use Rattle.std.proofs.lemmas.List.Elements.{All-nil, All-push}
use Rattle.std.proofs.lemmas.List.Folds.{list_any-append}
use Rattle.std.specs.List.{list_any}
use Rattle.seat_lock.proofs.Begins.{begins_same}
use Rattle.troop_entry.specs.declared.row.Row.{Row}
use Rattle.troop_ports.specs.Bytes.{at_end, in_front}
use Rattle.troop_hall.specs.Seats.{DeskSeatValue, IsLater}
use Rattle.wire_lines.specs.Lines.{lines, line_feed, HasNoFeed, with_feeds, whole_lines}
use Rattle.wire_lines.specs.declared.reader.State.{State}
use Rattle.wire_lines.specs.declared.reader.State.TheVariants as state
use Rattle.wire_lines.proofs.LinesArePieces.{whole_are_pieces}
use Rattle.wire_json.specs.declared.replies.WireReply.{WireReply}
use Rattle.wire_json.specs.declared.replies.WireReply.TheVariants as wire
use Rattle.session.specs.declared.session_end.SessionEnd.{SessionEnd}
use Rattle.session.specs.declared.session_end.SessionEnd.TheVariants as ends
use Rattle.session.specs.Printed.{reply_line}
use Rattle.session.specs.Ends.{WroteFront, WroteLess, IsBroken, IsWhole, Wrote, wires}
use Rattle.session.specs.Replies.{AnsweredLine, call_on_line, printed, lines_of_turns, asks_leave, is_standing_reply, parts}
use Rattle.session.specs.UpLines.{Stop, Parting, Ending, Overlong, Breaking, end_by, last_by, EndsTalk, StopsAt, ReadsLines, CameWhole, long_replies, replies_owed, WroteIntoLast, StopsByFault, PartsBy, Talk}
use Rattle.session.specs.Parts.{Sends, AnswersLine, TakesLine, HasSaid, HasCut, InTalk, HasTalked}
use Rattle.session.proofs.WroteFront.{wrote_on, front_on, front_whole, front_more, less_on, less_more, at_end-nil, wrote_behind, into_last, into_opened, reply_lines, all_into, next_into, turn_into}
use Rattle.session.proofs.ReadsOn.{in_front-twice}
use Rattle.session.proofs.AreReplies.{printed_more}
use Rattle.session.proofs.HasSaid.{later_same, said_more, said_later}

either : (P : Type 0) (b : Bool) → (b ≡ true → P) → (b ≡ false → P) → P
either P true f g = f refl
either P false f g = g refl

-- ---- what was read

reads_by : (stop : Stop) (end : SessionEnd) (limit : ℕ) (read : List (List ℕ)) (before left after : Option (List ℕ)) → IfSome before (λ bytes. (rest : List ℕ) × (lines bytes ≡ read ++ lines rest) × (left ≡ Some rest))
    → ((rest : List ℕ) → left ≡ Some rest → StopsAt stop end limit rest after) → ReadsLines read stop end limit before after
reads_by stop end limit read None left after h f = tt
reads_by stop end limit read (Some bytes) left after h f = (h.0, h.1, f h.0 h.2)

-- ---- the lines that came whole

feeds_more : (read : List (List ℕ)) (line : List ℕ) → with_feeds (read ++ line ∷ []) ≡ with_feeds read ++ (line ++ line_feed ∷ [])
feeds_more [] line = refl
feeds_more (x ∷ read) line = ap (λ l. x ++ line_feed ∷ l) (feeds_more read line) ∙ sym (append_assoc x (line_feed ∷ with_feeds read) (line ++ line_feed ∷ []))

-- one line more was cut out
cut_more : (read : List (List ℕ)) (line : List ℕ) (before left left' : Option (List ℕ)) → HasCut read before left → HasNoFeed line → left ≡ in_front (line ++ line_feed ∷ []) left' → HasCut (read ++ line ∷ []) before left'
cut_more read line before left left' h none is = record {
  no_feeds = All-push HasNoFeed read line h.no_feeds none;
  are = h.are ∙ (ap (in_front (with_feeds read)) is ∙ (in_front-twice (with_feeds read) (line ++ line_feed ∷ []) left' ∙ ap (λ l. in_front l left') (sym (feeds_more read line))));
}

-- where what is held behind the lines that were cut out has no line feed, these are the lines that came whole
pub came_whole : (read : List (List ℕ)) (held : List ℕ) (before left rest : Option (List ℕ)) → HasCut read before left → HasNoFeed held → left ≡ in_front held rest
    → (given : List ℕ) × (before ≡ in_front given rest) × (whole_lines given ≡ read)
came_whole read held before left rest h none is = (with_feeds read ++ held, h.are ∙ (ap (in_front (with_feeds read)) is ∙ in_front-twice (with_feeds read) held rest), whole_are_pieces read held h.no_feeds none)

-- a session that ended otherwise was stopped by no fault
pub memory_is_no_fault : ends.Memory ≡ ends.LinkFault → ⊥
memory_is_no_fault e = cc

left_is_no_fault : ends.Left ≡ ends.LinkFault → ⊥
left_is_no_fault e = cc

long_is_no_fault : (n : ℕ) → ends.Long n ≡ ends.LinkFault → ⊥
long_is_no_fault n e = cc

whole_is_no_fault : (end : SessionEnd) → IsWhole end → end ≡ ends.LinkFault → ⊥
whole_is_no_fault end h e = subst IsWhole e h

-- what was written by a session's end is a front
front_wrote_of : (so end : SessionEnd) (old new : Option (List ℕ)) (owed : List ℕ) → Wrote so end owed old new → WroteFront owed old new
front_wrote_of so end old new owed (inl (is, wrote)) = front_whole old new owed wrote
front_wrote_of so end old new owed (inr (broken, front)) = front

-- ---- the ends

module _ (limit who : ℕ) (over : SessionEnd) (s : DeskSeatValue) (before old : Option (List ℕ)) where
  talked : (t : DeskSeatValue) (left after rest new : Option (List ℕ)) (ts : List AnsweredLine) (stop : Stop) (end : SessionEnd) → HasSaid limit who s t before left ts → ((rest : List ℕ) → left ≡ Some rest → StopsAt stop end limit rest after)
      → Wrote (end_by over stop (2 + length ts)) end (printed ts ++ last_by stop (2 + length ts)) old new → WroteIntoLast (replies_owed [] ts stop (2 + length ts)) old new → StopsByFault (lines_of_turns ts) (printed ts ++ last_by stop (2 + length ts)) end (wires before after rest old new) → PartsBy stop ts
      → HasTalked limit who over s t [] end (wires before after rest old new)
  talked t left after rest new ts stop end said stops wrote in_turn fault parting = record {
    turns = ts;
    later = said.later;
    own = said.own;
    talk = record {
      stop = stop;
      replies = said.replies;
      short = said.short;
      reads = reads_by stop end limit (lines_of_turns ts) before left after said.read stops;
      wrote = wrote;
      in_turn = in_turn;
      fault = fault;
      parting = parting;
    };
  }

  all_written : (so : SessionEnd) (ts : List AnsweredLine) (new : Option (List ℕ)) → new ≡ at_end old (printed ts) → Wrote so so (printed ts ++ []) old new
  all_written so ts new wrote = inl (refl, wrote ∙ ap (at_end old) (sym (append-nil (printed ts))))

  cut_off : (so end : SessionEnd) (ts : List AnsweredLine) (new : Option (List ℕ)) → IsBroken end → WroteFront (printed ts) old new → Wrote so end (printed ts ++ []) old new
  cut_off so end ts new b f = inr (b, front_more old new (printed ts) [] f)

  module _ (t : DeskSeatValue) (left new : Option (List ℕ)) (st : State) (number : ℕ) (talk : InTalk limit who s t before left old new st number) where
    -- no byte is left
    pub ended : (after rest : Option (List ℕ)) → IsWhole over → IfSome left (λ bytes. (bytes ≡ []) × (after ≡ Some [])) → HasTalked limit who over s t [] over (wires before after rest old new)
    ended after rest w e =
        talked t left after rest new talk.turns Ending over talk.said (λ rest is. subst (λ o. IfSome o (λ bytes. (bytes ≡ []) × (after ≡ Some []))) is e) (all_written over talk.turns new talk.wrote) (all_into old new talk.turns talk.wrote) (λ is. absurd (whole_is_no_fault over w is)) talk.goes_on

    -- the next line is over the limit
    pub overlong : (end : SessionEnd) (after rest new' : Option (List ℕ)) → IfSome left (EndsTalk limit) → Wrote (ends.Long number) end (reply_line (wire.Long number)) new new' → (end ≡ ends.LinkFault → WroteLess (reply_line (wire.Long number)) new new')
        → HasTalked limit who over s t [] end (wires before after rest old new')
    overlong end after rest new' e wrote less =
        talked t left after rest new' talk.turns Overlong end talk.said (λ rest is. subst (λ o. IfSome o (EndsTalk limit)) is e)
        (subst (λ n. Wrote (ends.Long n) end (printed talk.turns ++ reply_line (wire.Long n)) old new') talk.count (wrote_behind (ends.Long number) end (printed talk.turns) (reply_line (wire.Long number)) old new new' talk.wrote wrote))
        (subst (λ n. WroteIntoLast (replies_owed [] talk.turns Overlong n) old new') talk.count (next_into old new new' talk.turns (reply_line (wire.Long number)) talk.wrote (front_wrote_of (ends.Long number) end new new' (reply_line (wire.Long number)) wrote)))
        (λ is. inl (subst (λ n. WroteLess (printed talk.turns ++ reply_line (wire.Long n)) old new') talk.count (less_on old new new' (printed talk.turns) (reply_line (wire.Long number)) talk.wrote (less is)))) talk.goes_on

    -- the read failed, or found no memory
    pub broken : (end : SessionEnd) → IsBroken end → (after rest : Option (List ℕ)) → IfSome left (λ bytes. after ≡ Some bytes) → (end ≡ ends.LinkFault → CameWhole (lines_of_turns talk.turns) (wires before after rest old new))
        → HasTalked limit who over s t [] end (wires before after rest old new)
    broken end b after rest same fault =
        talked t left after rest new talk.turns Breaking end talk.said (λ rest is. inl (subst (λ o. IfSome o (λ bytes. after ≡ Some bytes)) is same))
        (cut_off ends.Memory end talk.turns new b (front_whole old new (printed talk.turns) talk.wrote)) (all_into old new talk.turns talk.wrote) (λ is. inr (fault is)) talk.goes_on

    -- so many lines were answered that the next has no number
    pub run_out : (rest : Option (List ℕ)) → HasTalked limit who over s t [] ends.Memory (wires before left rest old new)
    run_out rest =
        talked t left left rest new talk.turns Breaking ends.Memory talk.said (λ rest is. inl is) (cut_off ends.Memory ends.Memory talk.turns new tt (front_whole old new (printed talk.turns) talk.wrote)) (all_into old new talk.turns talk.wrote) (λ is. absurd (memory_is_no_fault is)) talk.goes_on

    module _ (u : DeskSeatValue) (left' new' : Option (List ℕ)) (line : List ℕ) (later : IsLater t u) (short : length line ≤ limit) (next : IfSome left (λ bytes. (rest : List ℕ) × (left' ≡ Some rest) × (lines bytes ≡ line ∷ lines rest))) where
      -- a line was read, and then memory was wanting
      pub starved : (rest : Option (List ℕ)) → u.own ≡ t.own → new' ≡ new → HasTalked limit who over s u [] ends.Memory (wires before left' rest old new')
      starved after own same =
          talked u left left' after new' talk.turns Breaking ends.Memory (said_later limit who s t u before left talk.turns talk.said later own)
          (λ rest is. inr (refl, (let n = subst (λ o. IfSome o (λ bytes. (rest : List ℕ) × (left' ≡ Some rest) × (lines bytes ≡ line ∷ lines rest))) is next in (line, n.0, n.2, n.1))))
          (cut_off ends.Memory ends.Memory talk.turns new' tt (front_whole old new' (printed talk.turns) (same ∙ talk.wrote))) (all_into old new' talk.turns (same ∙ talk.wrote)) (λ is. absurd (memory_is_no_fault is)) talk.goes_on

      module _ (r : WireReply) (answers : AnswersLine who number (call_on_line line) t r u) where
        more : (log : List Row) × HasSaid limit who s u before left' (talk.turns ++ record { line = line; log = log; reply = r } ∷ [])
        more = said_more limit who number s t u before left left' talk.turns line r talk.said talk.count answers later short next

        abbrev turn : AnsweredLine
        turn = record { line = line; log = more.0; reply = r }

        abbrev turns : List AnsweredLine
        turns = talk.turns ++ turn ∷ []

        all_wrote : new' ≡ at_end new (reply_line r) → new' ≡ at_end old (printed turns)
        all_wrote e = wrote_on old new new' (printed talk.turns) (reply_line r) talk.wrote e ∙ ap (at_end old) (sym (printed_more turn talk.turns))

        front_wrote : WroteFront (reply_line r) new new' → WroteFront (printed turns) old new'
        front_wrote f = subst (λ p. WroteFront p old new') (sym (printed_more turn talk.turns)) (front_on old new new' (printed talk.turns) (reply_line r) talk.wrote f)

        less_wrote : WroteLess (reply_line r) new new' → WroteLess (printed turns ++ []) old new'
        less_wrote f = less_more old new' (printed turns) [] (subst (λ p. WroteLess p old new') (sym (printed_more turn talk.turns)) (less_on old new new' (printed talk.turns) (reply_line r) talk.wrote f))

        none_parts : (asks_leave (call_on_line line) && is_standing_reply r) ≡ false → list_any parts turns ≡ false
        none_parts e = list_any-append parts talk.turns (turn ∷ []) ∙ (λ i. talk.goes_on i || (e i || false))

        -- the reply was cut
        pub cut : (after : Option (List ℕ)) (end : SessionEnd) → IsBroken end → WroteFront (reply_line r) new new' → (end ≡ ends.LinkFault → WroteLess (reply_line r) new new') → HasTalked limit who over s u [] end (wires before left' after old new')
        cut after end b f less =
            either (HasTalked limit who over s u [] end (wires before left' after old new')) (asks_leave (call_on_line line) && is_standing_reply r)
            (λ e. talked u left' left' after new' turns Parting end more.1 (λ rest is. is) (cut_off ends.Left end turns new' b (front_wrote f)) (turn_into old new new' talk.turns turn talk.wrote f) (λ is. inl (less_wrote (less is)))
            (record {
              earlier = talk.turns;
              last = turn;
              split = refl;
              goes_on = talk.goes_on;
              leaves = e;
            }))
            (λ e. talked u left' left' after new' turns Breaking end more.1 (λ rest is. inl is) (cut_off ends.Memory end turns new' b (front_wrote f)) (turn_into old new new' talk.turns turn talk.wrote f) (λ is. inl (less_wrote (less is))) (none_parts e))

        -- and it goes on
        pub goes_on : (st' : State) → (st' ≡ state.Going → (st ≡ state.Going) × HasNoFeed line × (left ≡ in_front (line ++ line_feed ∷ []) left')) → new' ≡ at_end new (reply_line r) → (asks_leave (call_on_line line) && is_standing_reply r) ≡ false
            → InTalk limit who s u before left' old new' st' (number + 1)
        goes_on st' fed e stays = record {
          turns = turns;
          said = more.1;
          goes_on = none_parts stays;
          count = (let l = length-append talk.turns (turn ∷ []) in let c = talk.count in omega (arith, l, c));
          wrote = all_wrote e;
          cut = λ going.
              let f = fed going in
              subst (λ l. HasCut l before left') (sym (map-append (λ (z : AnsweredLine). z.line) talk.turns (turn ∷ []))) (cut_more (lines_of_turns talk.turns) line before left left' (talk.cut f.0) f.1 f.2);
        }

        -- a leave stands in the log
        pub parted : (after : Option (List ℕ)) → new' ≡ at_end new (reply_line r) → (asks_leave (call_on_line line) && is_standing_reply r) ≡ true → HasTalked limit who over s u [] ends.Left (wires before left' after old new')
        parted after e leaves =
            talked u left' left' after new' turns Parting ends.Left more.1 (λ rest is. is) (all_written ends.Left turns new' (all_wrote e)) (all_into old new' turns (all_wrote e)) (λ is. absurd (left_is_no_fault is))
            (record {
              earlier = talk.turns;
              last = turn;
              split = refl;
              goes_on = talk.goes_on;
              leaves = leaves;
            })

-- ---- by what the parts of a session say

module _ (limit who : ℕ) (over : SessionEnd) (s : DeskSeatValue) (before old : Option (List ℕ)) (t : DeskSeatValue) (left new : Option (List ℕ)) (st : State) (number : ℕ) (talk : InTalk limit who s t before left old new st number) where
  -- the line was read, and what was read is the text; what was taken before the turn is what was taken before the read
  module _ (u : DeskSeatValue) (mid left' start new' : Option (List ℕ)) (text line : List ℕ) (later : IsLater t u) (next : IfSome left (λ bytes. (rest : List ℕ) × (mid ≡ Some rest) × (lines bytes ≡ text ∷ lines rest) × (length text ≤ limit))) (short : length text ≤ limit)
      (same : left' ≡ mid) (as_read : line ≡ text) (untouched : start ≡ new) where
    short' : length line ≤ limit
    short' = subst (λ l. length l ≤ limit) (sym as_read) short

    next' : IfSome left (λ bytes. (rest : List ℕ) × (left' ≡ Some rest) × (lines bytes ≡ line ∷ lines rest))
    next' = subst (λ (x : Option (List ℕ) × List ℕ). IfSome left (λ bytes. (rest : List ℕ) × (x.0 ≡ Some rest) × (lines bytes ≡ x.1 ∷ lines rest))) (sym (λ i. (same i, as_read i))) (fewer left next)
      where
        fewer : (o : Option (List ℕ)) → IfSome o (λ bytes. (rest : List ℕ) × (mid ≡ Some rest) × (lines bytes ≡ text ∷ lines rest) × (length text ≤ limit)) → IfSome o (λ bytes. (rest : List ℕ) × (mid ≡ Some rest) × (lines bytes ≡ text ∷ lines rest))
        fewer None h = tt
        fewer (Some bytes) h = (h.0, h.1, h.2)

    from : (result : Result Bool SessionEnd) → TakesLine result who number line t u start new' → TakesLine result who number line t u new new'
    from result h = subst (λ o. TakesLine result who number line t u o new') untouched h

    -- the turn was cut
    pub turn_failed : (after : Option (List ℕ)) (end : SessionEnd) → TakesLine (Err end) who number line t u start new' → HasTalked limit who over s u [] end (wires before left' after old new')
    turn_failed after end raw =
        let h = from (Err end) raw in
        ⊎_elim (λ c. cut limit who over s before old t left new st number talk u left' new' line later short' next' c.0 c.1 after end h.0 c.2 c.3)
        (λ m. subst (λ e. HasTalked limit who over s u [] e (wires before left' after old new')) (sym m.0) (starved limit who over s before old t left new st number talk u left' new' line later short' next' after m.1 m.2)) h.1

    -- it was a leave that stands in the log
    pub turn_parts : (after : Option (List ℕ)) → TakesLine (Ok true) who number line t u start new' → HasTalked limit who over s u [] ends.Left (wires before left' after old new')
    turn_parts after raw =
        let h = from (Ok true) raw in
        parted limit who over s before old t left new st number talk u left' new' line later short' next' h.0 h.1 after h.2 (sym h.3)

    -- and the session goes on
    pub turn_done : (st' : State) → (st' ≡ state.Going → (st ≡ state.Going) × HasNoFeed line × (left ≡ in_front (line ++ line_feed ∷ []) left')) → TakesLine (Ok false) who number line t u start new' → InTalk limit who s u before left' old new' st' (number + 1)
    turn_done st' fed raw =
        let h = from (Ok false) raw in
        goes_on limit who over s before old t left new st number talk u left' new' line later short' next' h.0 h.1 st' fed h.2 (sym h.3)

  module _ (left' after start new' : Option (List ℕ)) (untouched : start ≡ new) where
    -- the reply to a line over the limit was written
    pub long_sent : IfSome left (EndsTalk limit) → Sends (Ok tt) (reply_line (wire.Long number)) start new' → HasTalked limit who over s t [] (ends.Long number) (wires before left' after old new')
    long_sent long sent = overlong limit who over s before old t left new st number talk (ends.Long number) left' after new' long (inl (refl, sent ∙ ap (λ o. at_end o (reply_line (wire.Long number))) untouched)) (λ is. absurd (long_is_no_fault number is))

    -- it was cut
    pub long_cut : (end : SessionEnd) → IfSome left (EndsTalk limit) → Sends (Err end) (reply_line (wire.Long number)) start new' → HasTalked limit who over s t [] end (wires before left' after old new')
    long_cut end long sent =
        overlong limit who over s before old t left new st number talk end left' after new' long
        (inr (sent.0, subst (λ o. WroteFront (reply_line (wire.Long number)) o new') untouched sent.1)) (λ is. subst (λ o. WroteLess (reply_line (wire.Long number)) o new') untouched (sent.2 is))

    -- no line was read
    pub no_line : (end : SessionEnd) → IsBroken end → IfSome left (λ bytes. left' ≡ Some bytes) → start ≡ new' → (end ≡ ends.LinkFault → (given : List ℕ) × (before ≡ in_front given after) × (whole_lines given ≡ lines_of_turns talk.turns)) → HasTalked limit who over s t [] end (wires before left' after old new')
    no_line end b same still fault =
        subst (λ o. HasTalked limit who over s t [] end (wires before left' after old o)) (sym untouched ∙ still) (broken limit who over s before old t left new st number talk end b left' after same fault)

    -- no byte is left
    pub at_end_of_bytes : IsWhole over → IfSome left (λ bytes. (bytes ≡ []) × (left' ≡ Some [])) → start ≡ new' → HasTalked limit who over s t [] over (wires before left' after old new')
    at_end_of_bytes w e still =
        subst (λ o. HasTalked limit who over s t [] over (wires before left' after old o)) (sym untouched ∙ still) (ended limit who over s before old t left new st number talk left' after w e)

-- nothing was answered yet
pub opens : (limit who : ℕ) (s : DeskSeatValue) (left old : Option (List ℕ)) (st : State) → InTalk limit who s s left left old old st 2
opens limit who s left old st = record {
  turns = [];
  said = record {
    later = later_same s;
    replies = begins_same s.seen s.seen refl;
    own = sym (append-nil s.own);
    short = tt;
    read = unread left;
  };
  goes_on = refl;
  count = refl;
  wrote = at_end-nil old;
  cut = λ _. record { no_feeds = All-nil HasNoFeed; are = behind_none left };
}
  where
    unread : (left : Option (List ℕ)) → IfSome left (λ bytes. (rest : List ℕ) × (lines bytes ≡ [] ++ lines rest) × (left ≡ Some rest))
    unread None = tt
    unread (Some bytes) = (bytes, refl, refl)

    behind_none : (told : Option (List ℕ)) → told ≡ in_front [] told
    behind_none None = refl
    behind_none (Some bytes) = refl

-- ---- the opening's reply

-- it was written, and then the others
pub attended : (limit who : ℕ) (over : SessionEnd) (s t : DeskSeatValue) (first : List ℕ) (end : SessionEnd) (start before after rest old mid new : Option (List ℕ)) → before ≡ start → mid ≡ at_end old first
    → HasTalked limit who over s t [] end (wires before after rest mid new) → HasTalked limit who over s t first end (wires start after rest old new)
attended limit who over s t first end start before after rest old mid new same sent h =
    let talk = subst (λ o. Talk limit s.number who over s.seen t.seen h.turns [] end (wires o after rest mid new)) same h.talk in
    record {
      turns = h.turns;
      later = h.later;
      own = h.own;
      talk = record {
        stop = talk.stop;
        replies = talk.replies;
        short = talk.short;
        reads = talk.reads;
        wrote = wrote_behind (end_by over talk.stop (2 + length h.turns)) end first (printed h.turns ++ last_by talk.stop (2 + length h.turns)) old mid new sent talk.wrote;
        in_turn = into_opened old mid new first (reply_lines h.turns ++ long_replies talk.stop (2 + length h.turns)) sent talk.in_turn;
        fault = λ is. ⊎_elim (λ l. inl (less_on old mid new first (printed h.turns ++ last_by talk.stop (2 + length h.turns)) sent l)) (λ w. inr w) (talk.fault is);
        parting = talk.parting;
      };
    }

-- it was cut
pub cut_short : (limit who : ℕ) (over : SessionEnd) (s : DeskSeatValue) (first : List ℕ) (end : SessionEnd) (left after rest old new : Option (List ℕ)) → Sends (Err end) first old new → after ≡ left → HasTalked limit who over s s first end (wires left after rest old new)
cut_short limit who over s first end left after rest old new sends same = record {
  turns = [];
  later = later_same s;
  own = sym (append-nil s.own);
  talk = record {
    stop = Breaking;
    replies = begins_same s.seen s.seen refl;
    short = tt;
    reads = unread left same;
    wrote = inr (sends.0, front_more old new first [] sends.1);
    in_turn = into_last old old new [] first (at_end-nil old) sends.1;
    fault = λ is. inl (less_more old new first [] (sends.2 is));
    parting = refl;
  };
}
  where
    unread : (left : Option (List ℕ)) → after ≡ left → ReadsLines [] Breaking end limit left after
    unread None same = tt
    unread (Some bytes) same = (bytes, refl, inl same)
