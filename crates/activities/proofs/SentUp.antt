-- What the up line sent.
use Rattle.std.proofs.Common.{◌≡◌, ℕ, ◌+◌, ◌-◌, ◌^◌, min, Bool, true, false, if◌then◌else◌, List, [], ◌∷◌, ◌++◌, length, take, drop, Option, None, Some, Result, Ok, Err, IsOk, IfOk, IfErr, inl, inr, refl, sym, ap, ◌∙◌, subst, append_assoc, append-nil, length-append, arith}
use Rattle.std.proofs.lemmas.List.{take-append-drop}
use Rattle.seat_lock.specs.Lists.{Begins, AllOf}
use Rattle.seat_lock.specs.Values.{SeatValue}
use Rattle.std.specs.declared.alloc.AllocError.{AllocError}
use Rattle.troop_entry.specs.declared.call.Call.{Call}
use Rattle.troop_ports.specs.Bytes.{at_end}
use Rattle.stage_state.specs.declared.act.Act.TheVariants as act
use Rattle.stage_state.specs.declared.act.Next.{Next}
use Rattle.stage_state.specs.declared.act.Next.TheVariants as next
use Rattle.stage_state.specs.declared.reply.ActReply.{ActReply}
use Rattle.stage_state.specs.declared.reply.ActReply.TheVariants as reply
use Rattle.stage_state.specs.declared.played.Origin.{Origin}
use Rattle.stage_state.specs.Machine.{Machine, next_of, after_act, after_acts}
use Rattle.stage_state.specs.Staged.{acts_of}
use Rattle.stage_state.specs.Origins.{machine_at}
use Rattle.stage_state.specs.Replies.{accepts, sends}
use Rattle.wire_lines.specs.Reader.{Reader}
use Rattle.wire_lines.specs.declared.reader.State.{State}
use Rattle.activities.specs.Lines.{GaveLines, IsHeldBack, IsCutOff, GoesWhole, FailsBare, number_behind}
use Rattle.activities.specs.declared.up.Placing.{Placing}
use Rattle.activities.specs.declared.errors.PerformError.{PerformError}
use Rattle.activities.specs.declared.errors.PerformError.TheVariants as error
use Rattle.activities.specs.Memory.{PlacedAct, SeatMemory, seen_in, by_others, own_act, placed_row, SeesMore, Remembers, ActsAt}
use Rattle.activities.specs.Up.{call_line, call_lines, next_pair, sent_by, sent_in, IsNextAct, FitsRequest, TellsPlaced, IsUnwritten, WroteCall, ReadsReply, SentCall, UpEnds, SentUp}
use Rattle.activities.proofs.Remembers.{recalls, remembers_later, all-append}
use Rattle.activities.proofs.GaveLines.{gave_none, gave_more}
use Rattle.activities.proofs.IsCutOff.{cut_off}

-- ---- bytes

-- nothing was written
pub nothing_written : (told : Option (List ℕ)) → told ≡ at_end told []
nothing_written None = refl
nothing_written (Some bytes) = ap Some (sym (append-nil bytes))

-- bytes behind others
pub written_more : (before mid now : Option (List ℕ)) (xs ys : List ℕ) → mid ≡ at_end before xs → now ≡ at_end mid ys → now ≡ at_end before (xs ++ ys)
written_more None mid now xs ys h g = g ∙ ap (λ m. at_end m ys) h
written_more (Some bytes) mid now xs ys h g = g ∙ ap (λ m. at_end m ys) h ∙ ap Some (append_assoc bytes xs ys)

-- the first of some bytes
pub front_of : (n : ℕ) (xs : List ℕ) → Begins (take n xs) xs
front_of n xs = (drop n xs, take-append-drop n xs)

call_lines-more : (calls : List (ℕ × Call)) (c : ℕ × Call) → call_lines (calls ++ c ∷ []) ≡ call_lines calls ++ call_line c
call_lines-more [] c = append-nil (call_line c)
call_lines-more (x ∷ calls) c = ap (λ rest. call_line x ++ rest) (call_lines-more calls c) ∙ sym (append_assoc (call_line x) (call_lines calls) (call_line c))

-- the call's line was written, and then its reply was read
pub call_sent : (number : ℕ) (pair : ℕ × Call) (was : State) (told mid after remaining before wrote now : Option (List ℕ)) (r : Result Placing PerformError) → mid ≡ told
    → WroteCall pair before wrote (Ok tt) → now ≡ wrote → ReadsReply number mid after remaining r
    → IfErr r (λ e. e ≡ error.NetFault → FailsBare was told remaining) → SentCall number pair was told after remaining before now r
call_sent number pair was told mid after remaining before wrote now (Ok placing) same line kept read bare =
    (read.0, subst (λ (t : Option (List ℕ)). GaveLines t (read.0 ∷ []) after) same read.1, read.2, kept ∙ line.0, line.1)
call_sent number pair was told mid after remaining before wrote now (Err e) same line kept read bare =
    (call_line pair, read.0, read.1, subst (λ (t : Option (List ℕ)). GaveLines t read.0 read.1) same read.2, read.3, kept ∙ line.0, inr (refl, read.4, line.1), λ is all. bare is)

unwritten_part : (pair : ℕ × Call) (front : List ℕ) (e : PerformError) → IsUnwritten pair front e → e ≡ error.NetFault → front ≡ call_line pair → ⊥
unwritten_part pair front e h is all =
    let part = subst (λ (x : PerformError). IsUnwritten pair front x) is h in
    let same = ap length all in
    absurd (omega (arith, part.1, same))

-- the call's line wasn't written whole
pub call_unwritten : (number : ℕ) (pair : ℕ × Call) (was : State) (told after remaining before now : Option (List ℕ)) (e : PerformError) → IsHeldBack told remaining
    → WroteCall pair before now (Err e) → SentCall number pair was told after remaining before now (Err e)
call_unwritten number pair was told after remaining before now e held wrote =
    (wrote.0, [], told, gave_none told, held, wrote.1, inl (wrote.2, refl), λ is all. absurd (unwritten_part pair wrote.0 e wrote.2 is all))

-- ---- the calls sent

-- the machine behind what is remembered
abbrev pub machine_behind : Machine → SeatMemory → Machine
machine_behind m [] = m
machine_behind m (x ∷ k) = machine_behind (after_act x.1.1 m) k

behind_is : (m : Machine) (k : SeatMemory) → machine_behind m k ≡ after_acts (acts_of (seen_in k)) m
behind_is m [] = refl
behind_is m (x ∷ k) = behind_is (after_act x.1.1 m) k

-- the calls sent in two memories, one behind the other
pub sent_in-append : (m : Machine) (k l : SeatMemory) → sent_in m (k ++ l) ≡ sent_in m k ++ sent_in (machine_behind m k) l
sent_in-append m [] l = refl
sent_in-append m (x ∷ k) l =
    let first = if x.0 then sent_by m x.1.1 else [] in
    ap (λ rest. first ++ rest) (sent_in-append (after_act x.1.1 m) k l) ∙ sym (append_assoc first (sent_in (after_act x.1.1 m) k) (sent_in (machine_behind (after_act x.1.1 m) k) l))

-- acts of others send nothing of this seat
pub sent_in-by_others : (m : Machine) (rows : List PlacedAct) → sent_in m (by_others rows) ≡ []
sent_in-by_others m [] = refl
sent_in-by_others m (r ∷ rows) = sent_in-by_others (after_act r.1 m) rows

-- others' acts send nothing of this seat's
sent_later : (m : Machine) (k at : SeatMemory) → SeesMore k at → sent_in m at ≡ sent_in m k
sent_later m k at later =
    ap (sent_in m) (sym later.1) ∙ sent_in-append m k (by_others later.0) ∙ ap (λ rest. sent_in m k ++ rest) (sent_in-by_others (machine_behind m k) later.0)
    ∙ append-nil (sent_in m k)

mine_sends : (b : Bool) (n : Next) (m : Machine) (at : SeatMemory) (number : ℕ) → sends n ≡ b → next_of (machine_behind m at) ≡ n
    → sent_in m (at ++ own_act b number act.Next) ≡ sent_in m at ++ next_pair n
mine_sends true n m at number e h =
    sent_in-append m at ((true, (number, act.Next)) ∷ []) ∙ ap (λ rest. sent_in m at ++ rest) (append-nil (next_pair (next_of (machine_behind m at))) ∙ ap next_pair h)
mine_sends false (next.Send num c) m at number e h = absurd (cc)
mine_sends false next.NotYet m at number e h = ap (sent_in m) (append-nil at) ∙ sym (append-nil (sent_in m at))
mine_sends false next.Done m at number e h = ap (sent_in m) (append-nil at) ∙ sym (append-nil (sent_in m at))

own_next : (b : Bool) (s t u : SeatValue PlacedAct Origin) → ((own : List PlacedAct) × (t.own ≡ s.own ++ own) × AllOf IsNextAct own)
    → u.own ≡ t.own ++ placed_row b t.number act.Next → (own : List PlacedAct) × (u.own ≡ s.own ++ own) × AllOf IsNextAct own
own_next true s t u h e =
    let row : List PlacedAct = (t.number, act.Next) ∷ [] in
    (h.0 ++ row, e ∙ ap (λ l. l ++ row) h.1 ∙ append_assoc s.own h.0 row, all-append IsNextAct h.0 row h.2 (refl, tt))
own_next false s t u h e = (h.0, e ∙ append-nil t.own ∙ h.1, h.2)

quiet_seen : (b : Bool) (n : Next) (o : Origin) (log seen : List PlacedAct) (number : ℕ) → sends n ≡ b → next_of (machine_at o log) ≡ n
    → seen ≡ log ++ placed_row b number act.Next → b ≡ false → next_of (machine_at o seen) ≡ n
quiet_seen true n o log seen number e h same quiet = absurd (cc)
quiet_seen false n o log seen number e h same quiet = ap (λ rows. next_of (machine_at o rows)) (same ∙ append-nil log) ∙ h

-- ---- the line so far

-- the up line as far as it has come
pub record UpSoFar (o : Origin) (told left before now : Option (List ℕ)) (s t : SeatValue PlacedAct Origin) (number : ℕ) : Type 0 where
  pub k : SeatMemory
  pub remembers : Remembers k t
  pub nexts : (own : List PlacedAct) × (t.own ≡ s.own ++ own) × AllOf IsNextAct own
  pub calls : List (ℕ × Call)
  pub sent : sent_in (machine_at o []) k ≡ calls
  pub fit : AllOf FitsRequest calls
  pub written : now ≡ at_end before (call_lines calls)
  pub replies : List (List ℕ)
  pub gave : GaveLines told replies left
  pub placed : AllOf TellsPlaced replies
  pub even : length replies ≡ length calls
  pub counted : number ≡ number_behind 2 replies

-- before the first call
pub up_none : (o : Origin) (told before : Option (List ℕ)) (s : SeatValue PlacedAct Origin) → s.seen ≡ [] → s.own ≡ [] → UpSoFar o told told before before s s 2
up_none o told before s seen own = record {
  k = [];
  remembers = record {
    seen = sym seen;
    own = sym own;
    numbered = subst (λ (rows : List PlacedAct). AllOf (λ (r : PlacedAct). r.0 ≡ s.number) rows) (sym own) tt;
  };
  nexts = ([], sym (append-nil s.own), tt);
  calls = [];
  sent = refl;
  fit = tt;
  written = nothing_written before;
  replies = [];
  gave = gave_none told;
  placed = tt;
  even = refl;
  counted = omega arith;
}

-- the seat after one more `next`
record Nexted (o : Origin) (calls : List (ℕ × Call)) (s u : SeatValue PlacedAct Origin) (n : Next) : Type 0 where
  k : SeatMemory
  remembers : Remembers k u
  nexts : (own : List PlacedAct) × (u.own ≡ s.own ++ own) × AllOf IsNextAct own
  sent : sent_in (machine_at o []) k ≡ calls ++ next_pair n
  quiet : sends n ≡ false → next_of (machine_at o u.seen) ≡ n

nexted : (o : Origin) (told left before now : Option (List ℕ)) (s t u : SeatValue PlacedAct Origin) (number : ℕ) (n : Next)
    → (h : UpSoFar o told left before now s t number) → ActsAt o act.Next t (reply.Next n) u → u.number ≡ t.number → Nexted o h.calls s u n
nexted o told left before now s t u number n h acts same =
    let r = recalls o h.k t u act.Next (reply.Next n) h.remembers same acts in
    let at = r.0 in
    let m = machine_at o (seen_in at) in
    let is : next_of m ≡ n = cc (r.2) in
    let is_log : next_of (machine_at o acts.0) ≡ n = cc (acts.2) in
    let b = accepts m act.Next in
    record {
      k = at ++ own_act b t.number act.Next;
      remembers = r.3;
      nexts = own_next (accepts (machine_at o acts.0) act.Next) s t u h.nexts acts.4;
      sent = mine_sends b n (machine_at o []) at t.number (ap sends (sym is)) (ap next_of (behind_is (machine_at o []) at) ∙ is)
          ∙ ap (λ calls. calls ++ next_pair n) (sent_later (machine_at o []) h.k at r.1 ∙ h.sent);
      quiet = λ e. quiet_seen (accepts (machine_at o acts.0) act.Next) n o acts.0 u.seen t.number (ap sends (sym is_log)) is_log acts.3 (ap sends is_log ∙ e);
    }

-- a call went out, and was placed
pub up_sent : (o : Origin) (told mid left remaining before now later : Option (List ℕ)) (s t u : SeatValue PlacedAct Origin) (number more num : ℕ) (c : Call) (placing : Placing) (was : State)
    → UpSoFar o told mid before now s t number → ActsAt o act.Next t (reply.Next (next.Send num c)) u → u.number ≡ t.number
    → SentCall number (num, c) was mid left remaining now later (Ok placing) → more ≡ min (number + 1) (2 ^ 64 - 1) → UpSoFar o told left before later s u more
up_sent o told mid left remaining before now later s t u number more num c placing was h acts same sent count =
    let n = nexted o told mid before now s t u number (next.Send num c) h acts same in
    record {
      k = n.k;
      remembers = n.remembers;
      nexts = n.nexts;
      calls = h.calls ++ (num, c) ∷ [];
      sent = n.sent;
      fit = all-append FitsRequest h.calls ((num, c) ∷ []) h.fit (sent.4, tt);
      written = written_more before now later (call_lines h.calls) (call_line (num, c)) h.written sent.3 ∙ ap (at_end before) (sym (call_lines-more h.calls (num, c)));
      replies = h.replies ++ sent.0 ∷ [];
      gave = gave_more told mid left h.replies (sent.0 ∷ []) h.gave sent.1;
      placed = all-append TellsPlaced h.replies (sent.0 ∷ []) h.placed ((placing, sent.2), tt);
      even = omega (arith, h.even, length-append h.replies (sent.0 ∷ []), length-append h.calls ((num, c) ∷ []));
      counted = omega (arith, h.counted, length-append h.replies (sent.0 ∷ []));
    }

-- acts of others were seen
pub up_looked : (o : Origin) (told left before now : Option (List ℕ)) (s t u : SeatValue PlacedAct Origin) (number : ℕ)
    → UpSoFar o told left before now s t number → Begins t.seen u.seen → u.own ≡ t.own → u.number ≡ t.number → UpSoFar o told left before now s u number
up_looked o told left before now s t u number h further own same =
    let r = remembers_later h.k t u h.remembers further own same in
    record {
      k = r.0;
      remembers = r.2;
      nexts = (h.nexts.0, own ∙ h.nexts.1, h.nexts.2);
      calls = h.calls;
      sent = sent_later (machine_at o []) h.k r.0 r.1 ∙ h.sent;
      fit = h.fit;
      written = h.written;
      replies = h.replies;
      gave = h.gave;
      placed = h.placed;
      even = h.even;
      counted = h.counted;
    }

-- nothing goes out yet
pub up_waits : (o : Origin) (told left before now : Option (List ℕ)) (s t u : SeatValue PlacedAct Origin) (number : ℕ)
    → UpSoFar o told left before now s t number → ActsAt o act.Next t (reply.Next next.NotYet) u → u.number ≡ t.number → UpSoFar o told left before now s u number
up_waits o told left before now s t u number h acts same =
    let n = nexted o told left before now s t u number next.NotYet h acts same in
    record {
      k = n.k;
      remembers = n.remembers;
      nexts = n.nexts;
      calls = h.calls;
      sent = n.sent ∙ append-nil h.calls;
      fit = h.fit;
      written = h.written;
      replies = h.replies;
      gave = h.gave;
      placed = h.placed;
      even = h.even;
      counted = h.counted;
    }

-- a call went out, and had no reply that placed it
pub up_failed : (o : Origin) (a b : Reader) (told mid left remaining before now later : Option (List ℕ)) (s t u : SeatValue PlacedAct Origin) (number num : ℕ) (c : Call) (e : PerformError)
    → GoesWhole a told b mid → UpSoFar o told mid before now s t number → ActsAt o act.Next t (reply.Next (next.Send num c)) u → u.number ≡ t.number
    → SentCall number (num, c) b.state mid left remaining now later (Err e) → SentUp o (Some e) told remaining before later s u
up_failed o a b told mid left remaining before now later s t u number num c e whole h acts same sent =
    let n = nexted o told mid before now s t u number (next.Send num c) h acts same in
    record {
      k = n.k;
      remembers = n.remembers;
      nexts = n.nexts;
      calls = h.calls;
      lost = (num, c) ∷ [];
      sent = n.sent;
      fit = h.fit;
      front = sent.0;
      written = written_more before now later (call_lines h.calls) sent.0 h.written sent.5;
      replies = h.replies;
      last = sent.1;
      rest = sent.2;
      gave = gave_more told mid sent.2 h.replies sent.1 h.gave sent.3;
      held = sent.4;
      whole = λ is all. cut_off a b told mid remaining h.replies whole h.gave (sent.7 (cc is) (all ∙ append-nil (call_line (num, c))));
      placed = h.placed;
      even = h.even;
      ends = inr ((num, c), refl, rw (← h.counted) sent.6);
    }

-- nothing goes out any more
pub up_done : (o : Origin) (told left remaining before now : Option (List ℕ)) (s t u : SeatValue PlacedAct Origin) (number : ℕ)
    → UpSoFar o told left before now s t number → ActsAt o act.Next t (reply.Next next.Done) u → u.number ≡ t.number → IsHeldBack left remaining
    → SentUp o None told remaining before now s u
up_done o told left remaining before now s t u number h acts same held =
    let n = nexted o told left before now s t u number next.Done h acts same in
    record {
      k = n.k;
      remembers = n.remembers;
      nexts = n.nexts;
      calls = h.calls;
      lost = [];
      sent = n.sent;
      fit = h.fit;
      front = [];
      written = h.written ∙ ap (at_end before) (sym (append-nil (call_lines h.calls)));
      replies = h.replies;
      last = [];
      rest = left;
      gave = subst (λ l. GaveLines told l left) (sym (append-nil h.replies)) h.gave;
      held = held;
      whole = λ is all. absurd cc;
      placed = h.placed;
      even = h.even;
      ends = (refl, refl, refl, n.quiet refl);
    }

-- memory was wanting before a call went out
pub up_starved : (o : Origin) (told left remaining before now : Option (List ℕ)) (s t u : SeatValue PlacedAct Origin) (number : ℕ)
    → UpSoFar o told left before now s t number → Begins t.seen u.seen → u.own ≡ t.own → u.number ≡ t.number → IsHeldBack left remaining
    → accepts (machine_at o u.seen) act.Next ≡ true → SentUp o (Some error.Memory) told remaining before now s u
up_starved o told left remaining before now s t u number h further own same held wanting =
    let r = remembers_later h.k t u h.remembers further own same in
    record {
      k = r.0;
      remembers = r.2;
      nexts = (h.nexts.0, own ∙ h.nexts.1, h.nexts.2);
      calls = h.calls;
      lost = [];
      sent = sent_later (machine_at o []) h.k r.0 r.1 ∙ h.sent ∙ sym (append-nil h.calls);
      fit = h.fit;
      front = [];
      written = h.written ∙ ap (at_end before) (sym (append-nil (call_lines h.calls)));
      replies = h.replies;
      last = [];
      rest = left;
      gave = subst (λ l. GaveLines told l left) (sym (append-nil h.replies)) h.gave;
      held = held;
      whole = λ is all. absurd cc;
      placed = h.placed;
      even = h.even;
      ends = inl (refl, refl, refl, refl, wanting);
    }

-- ---- the halt

halt_sends : (b : Bool) (n : ℕ) (m : Machine) (at : SeatMemory) → sent_in m (at ++ own_act b n act.Halt) ≡ sent_in m at
halt_sends true n m at = sent_in-append m at ((true, (n, act.Halt)) ∷ []) ∙ append-nil (sent_in m at)
halt_sends false n m at = ap (sent_in m) (append-nil at)

-- what a seat remembers behind a halt
pub halted : (o : Origin) (s t : SeatValue PlacedAct Origin) (r : Result ActReply AllocError) → IsOk r → IfOk r (λ reply. ActsAt o act.Halt s reply t) → t.number ≡ s.number
    → (k : SeatMemory) → Remembers k s → (at : SeatMemory) × Remembers at t × (sent_in (machine_at o []) at ≡ sent_in (machine_at o []) k)
halted o s t (Ok reply) ok acts same k is =
    let r = recalls o k s t act.Halt reply is same acts in
    let b = accepts (machine_at o (seen_in r.0)) act.Halt in
    (r.0 ++ own_act b s.number act.Halt, r.3, halt_sends b s.number (machine_at o []) r.0 ∙ sent_later (machine_at o []) k r.0 r.1)
halted o s t (Err e) ok acts same k is = absurd (cc)

-- a closed link tells the same
abbrev pub sent_kept : (o : Origin) (end : Option PerformError) (told left before now left' now' : Option (List ℕ)) (s t : SeatValue PlacedAct Origin)
    → SentUp o end told left before now s t → left' ≡ left → now' ≡ now → SentUp o end told left' before now' s t
sent_kept o end told left before now left' now' s t h same_left same_now = record {
  k = h.k;
  remembers = h.remembers;
  nexts = h.nexts;
  calls = h.calls;
  lost = h.lost;
  sent = h.sent;
  fit = h.fit;
  front = h.front;
  written = same_now ∙ h.written;
  replies = h.replies;
  last = h.last;
  rest = h.rest;
  gave = h.gave;
  held = subst (λ (r : Option (List ℕ)). IsHeldBack h.rest r) (sym same_left) h.held;
  whole = λ is all. subst (λ (r : Option (List ℕ)). IsCutOff told h.replies r) (sym same_left) (h.whole is all);
  placed = h.placed;
  even = h.even;
  ends = subst (λ (r : Option (List ℕ)). UpEnds o t.seen (number_behind 2 h.replies) h.lost h.front h.last h.rest r end) (sym same_left) h.ends;
}

-- ---- the finish

-- what a seat remembers behind a finish
pub finished : (o : Origin) (s t : SeatValue PlacedAct Origin) (r : Result ActReply AllocError) → IsOk r → IfOk r (λ reply. ActsAt o act.Finish s reply t) → t.number ≡ s.number
    → (k : SeatMemory) → Remembers k s → (at : SeatMemory) × Begins k at × Remembers at t
finished o s t (Ok reply) ok acts same k is =
    let r = recalls o k s t act.Finish reply is same acts in
    let last = own_act (accepts (machine_at o (seen_in r.0)) act.Finish) s.number act.Finish in
    (r.0 ++ last, (by_others r.1.0 ++ last, sym (append_assoc k (by_others r.1.0) last) ∙ ap (λ l. l ++ last) r.1.1), r.3)
finished o s t (Err e) ok acts same k is = absurd (cc)
