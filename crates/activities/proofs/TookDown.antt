-- What the down line took.
use Rattle.std.proofs.Common.{◌≡◌, ℕ, Bool, true, false, List, [], ◌∷◌, ◌++◌, length, Option, None, Some, Result, Ok, Err, IfErr, refl, sym, ap, ◌∙◌, subst, append_assoc, append-nil, length-append, inl, inr, ◌≤◌, ◌+◌, ◌-◌, ◌^◌, min, arith}
use Rattle.std.specs.Prelude.{is_none}
use Rattle.seat_lock.specs.Lists.{Begins}
use Rattle.seat_lock.specs.Values.{SeatValue}
use Rattle.troop_entry.specs.declared.block.Block.{Block}
use Rattle.troop_entry.specs.declared.entry.Entry.{Entry}
use Rattle.troop_entry.specs.Told.{block_told, is_leave_of}
use Rattle.stage_state.specs.declared.act.Act.TheVariants as act
use Rattle.stage_state.specs.declared.reply.ActReply.TheVariants as reply
use Rattle.stage_state.specs.declared.reply.TakeRefusal.{TakeRefusal}
use Rattle.stage_state.specs.declared.reply.TakeRefusal.TheVariants as refusal
use Rattle.stage_state.specs.declared.played.Origin.{Origin}
use Rattle.stage_state.specs.Origins.{machine_at}
use Rattle.stage_state.specs.Machine.{Machine}
use Rattle.stage_state.specs.Replies.{take_refusal, unless, accepts}
use Rattle.block_queue.specs.declared.item.Item.{Item}
use Rattle.troop_ports.specs.Faults.{next_count, Counted}
use Rattle.wire_json.specs.Entries.{entry_of_line}
use Rattle.activities.specs.Lines.{GaveLines, IsHeldBack, IsCutOff, number_behind}
use Rattle.activities.specs.declared.down.TakenEntry.{TakenEntry}
use Rattle.activities.specs.declared.errors.PerformError.{PerformError}
use Rattle.activities.specs.declared.errors.PerformError.TheVariants as error
use Rattle.activities.specs.Driving.{block_items}
use Rattle.activities.specs.Down.{entry_takes, and_block, blocks_of, TookLines, TookEntry, TookLine, TookDown, HasLeftAt, IsUntaken, MayWant, DownEnds, longest_entry, refusal_error, end_of_leave}
use Rattle.activities.specs.Counts.{CountsLink, CountsResult}
use Rattle.activities.proofs.FedSome.{block_items-append}
use Rattle.activities.proofs.GaveLines.{gave_none, gave_more, mean_more, begins_same}
use Rattle.activities.specs.Memory.{PlacedAct, placed_row, ActsAt}
use Rattle.activities.proofs.MachineAt.{own_at, joined_at, one_more, take_gone, gone_later}

took_block : (r : Option TakeRefusal) (block told : Option Block) → Ok block ≡ unless r told → block ≡ told
took_block None block told e = cc
took_block (Some r) block told e = absurd (cc)

taken_accepts : (r : Option TakeRefusal) (block told : Option Block) → Ok block ≡ unless r told → is_none r ≡ true
taken_accepts None block told e = refl
taken_accepts (Some r) block told e = absurd (cc)

-- the entry is the last act, and this is its block
pub record TakesBlock (o : Origin) (e : Entry) (block : Option Block) (s t : SeatValue PlacedAct Origin) : Type 0 where
  pub own : t.own ≡ s.own ++ (s.number, act.Take e) ∷ []
  pub block_is : block ≡ block_told o.joined e
  pub left : is_leave_of o.own e ≡ true → (machine_at o t.seen).gone ≡ true

-- what the reply to an entry that was taken says
pub takes_block : (o : Origin) (e : Entry) (block : Option Block) (s t : SeatValue PlacedAct Origin) → ActsAt o (act.Take e) s (reply.Take (Ok block)) t → TakesBlock o e block s t
takes_block o e block s t acts =
    let log = acts.0 in
    let m = machine_at o log in
    let answer : Ok block ≡ unless (take_refusal m e) (block_told m.joined e) = cc (acts.2) in
    let ok : is_none (take_refusal m e) ≡ true = taken_accepts (take_refusal m e) block (block_told m.joined e) answer in
    let seen : t.seen ≡ log ++ (s.number, act.Take e) ∷ [] = acts.3 ∙ ap (λ b. log ++ placed_row b s.number (act.Take e)) ok in
    record {
      own = acts.4 ∙ ap (λ b. s.own ++ placed_row b s.number (act.Take e)) ok;
      block_is = took_block (take_refusal m e) block (block_told m.joined e) answer ∙ ap (λ joined. block_told joined e) (joined_at o log);
      left = λ leave.
          ap (λ rows. (machine_at o rows).gone) seen ∙ ap (λ n. n.gone) (one_more o log s.number (act.Take e))
          ∙ take_gone m e (ap (λ own. is_leave_of own e) (own_at o log) ∙ leave);
    }

refusal_is : (r : Option TakeRefusal) (refusal : TakeRefusal) (told : Option Block) → Err refusal ≡ unless r told → r ≡ Some refusal
refusal_is None refusal told e = absurd (cc)
refusal_is (Some r) refusal told e = cc

untaken : (o : Origin) (seen : List PlacedAct) (number : ℕ) (e : Entry) (refusal : TakeRefusal) → take_refusal (machine_at o seen) e ≡ Some refusal
    → (line : List ℕ) (rest remaining : Option (List ℕ)) → entry_of_line line ≡ Some e → length line ≤ longest_entry
    → IsUntaken o seen number (refusal_error number refusal) (line ∷ []) rest remaining
untaken o seen number e refusal.Gone is line rest remaining read fits = inr (line, refl, fits)
untaken o seen number e (refusal.BadPlace want got) is line rest remaining read fits = (refl, (e, read, is))
untaken o seen number e (refusal.NotSent at) is line rest remaining read fits = (refl, (e, read, is))
untaken o seen number e (refusal.BadBase want got) is line rest remaining read fits = (refl, (e, read, is))

told_want : (m : Machine) (number : ℕ) (e : Entry) (refusal : TakeRefusal) → take_refusal m e ≡ Some refusal → refusal_error number refusal ≡ error.Memory → MayWant m e
told_want m number e refusal.Gone is told = inr is
told_want m number e (refusal.BadPlace want got) is told = absurd (cc)
told_want m number e (refusal.NotSent at) is told = absurd (cc)
told_want m number e (refusal.BadBase want got) is told = absurd (cc)

placed_none : {R : Type 0} (r : Option R) → is_none r ≡ true → r ≡ None
placed_none None is = refl
placed_none (Some r) is = absurd (cc)

-- memory was wanting for an entry that would be taken
pub entry_wants : (o : Origin) (e : Entry) (number : ℕ) (s t : SeatValue PlacedAct Origin) → t.own ≡ s.own → accepts (machine_at o t.seen) (act.Take e) ≡ true
    → TookEntry o number e s t (Err error.Memory)
entry_wants o e number s t own placed =
    (own, (λ line rest remaining read fits. inr (line, refl, fits)), λ told. inl (placed_none (take_refusal (machine_at o t.seen) e) placed))

-- what the reply to an entry that was refused says
pub refuses : (o : Origin) (e : Entry) (number : ℕ) (refusal : TakeRefusal) (s t : SeatValue PlacedAct Origin) → ActsAt o (act.Take e) s (reply.Take (Err refusal)) t
    → TookEntry o number e s t (Err (refusal_error number refusal))
refuses o e number refusal s t acts =
    let log = acts.0 in
    let m = machine_at o log in
    let answer : Err refusal ≡ unless (take_refusal m e) (block_told m.joined e) = cc (acts.2) in
    let is : take_refusal m e ≡ Some refusal = refusal_is (take_refusal m e) refusal (block_told m.joined e) answer in
    let no : is_none (take_refusal m e) ≡ false = ap is_none is in
    let seen : t.seen ≡ log = acts.3 ∙ ap (λ b. log ++ placed_row b s.number (act.Take e)) no ∙ append-nil log in (
      acts.4 ∙ ap (λ b. s.own ++ placed_row b s.number (act.Take e)) no ∙ append-nil s.own,
      untaken o t.seen number e refusal (subst (λ (rows : List PlacedAct). take_refusal (machine_at o rows) e ≡ Some refusal) (sym seen) is),
      told_want (machine_at o t.seen) number e refusal (subst (λ (rows : List PlacedAct). take_refusal (machine_at o rows) e ≡ Some refusal) (sym seen) is),
    )

-- a refused entry counts no fault
pub refusal_counts : (number : ℕ) (refusal : TakeRefusal) (n : ℕ) → CountsLink (refusal_error number refusal) n n
refusal_counts number refusal.Gone n = refl
refusal_counts number (refusal.BadPlace want got) n = refl
refusal_counts number (refusal.NotSent at) n = refl
refusal_counts number (refusal.BadBase want got) n = refl

none_counted : Counted 0 0 → ⊥
none_counted h = let rose : next_count 0 ≤ 0 = h.rose in absurd (omega (arith, rose))

-- an answer that counts no fault is no fault of the link
pub unfailed : {A : Type 0} (r : Result A PerformError) (X : Type 0) → CountsResult r 0 0 → IfErr r (λ e. e ≡ error.NetFault → X)
unfailed (Ok x) X h = tt
unfailed (Err e) X h = λ is. absurd (none_counted (subst (λ (x : PerformError). CountsLink x 0 0) is h))

-- ---- the lines so far

entry_takes-more : (n : ℕ) (es : List Entry) (e : Entry) → entry_takes n (es ++ e ∷ []) ≡ entry_takes n es ++ (n, act.Take e) ∷ []
entry_takes-more n [] e = refl
entry_takes-more n (x ∷ es) e = ap (λ rest. (n, act.Take x) ∷ rest) (entry_takes-more n es e)

with-append : (b : Option Block) (bs cs : List Block) → and_block b (bs ++ cs) ≡ and_block b bs ++ cs
with-append None bs cs = refl
with-append (Some b) bs cs = refl

blocks_of-more : (joined : ℕ) (es : List Entry) (e : Entry) → blocks_of joined (es ++ e ∷ []) ≡ blocks_of joined es ++ and_block (block_told joined e) []
blocks_of-more joined [] e = refl
blocks_of-more joined (x ∷ es) e =
    ap (and_block (block_told joined x)) (blocks_of-more joined es e) ∙ with-append (block_told joined x) (blocks_of joined es) (and_block (block_told joined e) [])

-- the down line as far as it has come
pub record DownSoFar (o : Origin) (told left : Option (List ℕ)) (s t : SeatValue PlacedAct Origin) (before now : List Item) (number : ℕ) : Type 0 where
  pub given : List (List ℕ)
  pub entries : List Entry
  pub counted : number ≡ number_behind 1 given
  pub gave : GaveLines told given left
  pub lines : TookLines o given entries s t before now

-- before the first line
pub down_none : (o : Origin) (told : Option (List ℕ)) (s : SeatValue PlacedAct Origin) (before : List Item) → DownSoFar o told told s s before before 1
down_none o told s before = record {
  given = [];
  entries = [];
  counted = omega arith;
  gave = gave_none told;
  lines = record { mean = refl; own = sym (append-nil s.own); pushed = sym (append-nil before) };
}

-- a line more, whose entry was taken
lines_more : (o : Origin) (given : List (List ℕ)) (entries : List Entry) (s t u : SeatValue PlacedAct Origin) (before now later : List Item) (number : ℕ)
    (line : List ℕ) (e : Entry) (taken : TakenEntry) → TookLines o given entries s t before now → t.number ≡ s.number → entry_of_line line ≡ Some e
    → TookEntry o number e t u (Ok taken) → later ≡ now ++ block_items (and_block taken.block [])
    → TookLines o (given ++ line ∷ []) (entries ++ e ∷ []) s u before later
lines_more o given entries s t u before now later number line e taken h same read takes_block pushed = record {
  mean = mean_more entry_of_line given entries line e h.mean read;
  own = takes_block.0 ∙ ap (λ l. l ++ (t.number, act.Take e) ∷ []) h.own ∙ append_assoc s.own (entry_takes s.number entries) ((t.number, act.Take e) ∷ [])
      ∙ ap (λ n. s.own ++ (entry_takes s.number entries ++ (n, act.Take e) ∷ [])) same ∙ ap (λ l. s.own ++ l) (sym (entry_takes-more s.number entries e));
  pushed = pushed ∙ ap (λ b. now ++ block_items (and_block b [])) takes_block.1 ∙ ap (λ l. l ++ block_items (and_block (block_told o.joined e) [])) h.pushed
      ∙ append_assoc before (block_items (blocks_of o.joined entries)) (block_items (and_block (block_told o.joined e) []))
      ∙ ap (λ l. before ++ l) (sym (block_items-append (blocks_of o.joined entries) (and_block (block_told o.joined e) [])))
      ∙ ap (λ l. before ++ block_items l) (sym (blocks_of-more o.joined entries e));
}

-- a line more
pub down_more : (o : Origin) (told mid left remaining : Option (List ℕ)) (s t u : SeatValue PlacedAct Origin) (before now later : List Item) (number next : ℕ) (taken : TakenEntry)
    → DownSoFar o told mid s t before now number → t.number ≡ s.number → TookLine o number mid left remaining t u (Ok taken)
    → later ≡ now ++ block_items (and_block taken.block []) → next ≡ min (number + 1) (2 ^ 64 - 1)
    → DownSoFar o told left s u before later next
down_more o told mid left remaining s t u before now later number next taken h same line pushed count = record {
  given = h.given ++ line.0 ∷ [];
  entries = h.entries ++ line.1 ∷ [];
  counted = omega (arith, h.counted, length-append h.given (line.0 ∷ []));
  gave = gave_more told mid left h.given (line.0 ∷ []) h.gave line.2;
  lines = lines_more o h.given h.entries s t u before now later number line.0 line.1 taken h.lines same line.3 line.4 pushed;
}

-- the last line, if it was read, held no entry that was taken
pub down_wrong : (o : Origin) (told mid left remaining : Option (List ℕ)) (s t u : SeatValue PlacedAct Origin) (before now : List Item) (number : ℕ) (e : PerformError)
    → (h : DownSoFar o told mid s t before now number) → (e ≡ error.NetFault → IsCutOff told h.given remaining) → TookLine o number mid left remaining t u (Err e)
    → TookDown o (Some e) told remaining s u before now
down_wrong o told mid left remaining s t u before now number e h whole line = record {
  given = h.given;
  entries = h.entries;
  last = line.0;
  rest = line.1;
  gave = gave_more told mid line.1 h.given line.0 h.gave line.2;
  held = line.3;
  whole = λ is. whole (cc is);
  lines = record { mean = h.lines.mean; own = line.4 ∙ h.lines.own; pushed = h.lines.pushed };
  seen = u.seen;
  earlier = begins_same u.seen;
  ends = inr (subst (λ n. IsUntaken o u.seen n e line.0 line.1 remaining) h.counted line.5);
}

ends_left : (o : Origin) (seen : List PlacedAct) (given : List (List ℕ)) (entries : List Entry) (rest remaining : Option (List ℕ)) (at : ℕ) (b : Bool) → HasLeftAt o entries at → (machine_at o seen).gone ≡ true
    → (machine_at o seen).leave_sent ≡ b → DownEnds o seen given entries [] rest remaining (end_of_leave at b)
ends_left o seen given entries rest remaining at true last gone sent = (refl, (at, last), gone, sent)
ends_left o seen given entries rest remaining at false last gone sent = inl (refl, last, gone, sent)

left_unfailed : (at : ℕ) (b : Bool) → end_of_leave at b ≡ Some error.NetFault → ⊥
left_unfailed at true is = absurd cc
left_unfailed at false is = absurd cc

-- the own leave was taken
pub down_left : (o : Origin) (told mid left remaining : Option (List ℕ)) (s t u v : SeatValue PlacedAct Origin) (before now later : List Item) (number : ℕ) (taken : TakenEntry) (end : Option PerformError)
    → DownSoFar o told mid s t before now number → t.number ≡ s.number → TookLine o number mid left remaining t u (Ok taken) → taken.gone ≡ true
    → later ≡ now ++ block_items (and_block taken.block []) → Begins u.seen v.seen → v.own ≡ u.own → end ≡ end_of_leave taken.at (machine_at o v.seen).leave_sent
    → IsHeldBack left remaining → TookDown o end told remaining s v before later
down_left o told mid left remaining s t u v before now later number taken end h same line gone pushed further own ends held =
    let more = lines_more o h.given h.entries s t u before now later number line.0 line.1 taken h.lines same line.3 line.4 pushed in
    let at : HasLeftAt o (h.entries ++ line.1 ∷ []) taken.at = (h.entries, line.1, refl, sym line.4.2, sym line.4.3 ∙ gone) in
    let given = h.given ++ line.0 ∷ [] in
    record {
      given = given;
      entries = h.entries ++ line.1 ∷ [];
      last = [];
      rest = left;
      gave = subst (λ l. GaveLines told l left) (sym (append-nil given)) (gave_more told mid left h.given (line.0 ∷ []) h.gave line.2);
      held = held;
      whole = λ is. absurd (left_unfailed taken.at (machine_at o v.seen).leave_sent (sym ends ∙ is));
      lines = record { mean = more.mean; own = own ∙ more.own; pushed = more.pushed };
      seen = v.seen;
      earlier = begins_same v.seen;
      ends = subst (λ e. DownEnds o v.seen given (h.entries ++ line.1 ∷ []) [] left remaining e) (sym ends)
          (ends_left o v.seen given (h.entries ++ line.1 ∷ []) left remaining taken.at (machine_at o v.seen).leave_sent at (gone_later o u.seen v.seen further (line.4.4 gone)) refl);
    }
