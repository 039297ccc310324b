-- A whole performance, of what its activities did.
use Rattle.std.proofs.Common.{◌≡◌, ◌⊎◌, inl, inr, ℕ, Bool, true, false, if◌then◌else◌, List, [], ◌∷◌, ◌++◌, length, map, Option, None, Some, Result, Ok, Err, refl, sym, ap, ◌∙◌, subst, append_assoc, append-nil}
use Rattle.seat_lock.specs.Lists.{AllOf, IsIn, Begins}
use Rattle.seat_lock.specs.Values.{SeatValue, AccountFor, card_of}
use Rattle.seat_lock.specs.Settled.{IsSettled, AreAllSeats}
use Rattle.troop_entry.specs.declared.entry.Entry.{Entry}
use Rattle.block_queue.specs.declared.item.Item.{Item}
use Rattle.block_queue.specs.declared.item.Item.TheVariants as item
use Rattle.stage_state.specs.declared.act.Act.{Act}
use Rattle.stage_state.specs.declared.act.Act.TheVariants as act
use Rattle.stage_state.specs.declared.played.Origin.{Origin}
use Rattle.stage_state.specs.Machine.{Machine}
use Rattle.stage_state.specs.Machine.{takes_of}
use Rattle.stage_state.specs.Origins.{machine_at, ArePlayed}
use Rattle.stage_state.specs.Replies.{accepts}
use Rattle.stage_state.specs.Staged.{acts_of}
use Rattle.wire_json.specs.declared.commands.Command.{Command}
use Rattle.wire_json.specs.declared.commands.Command.TheVariants as command
use Rattle.activities.specs.declared.commands.Flow.{Flow}
use Rattle.activities.specs.declared.commands.Flow.TheVariants as flow
use Rattle.activities.specs.declared.errors.PerformError.{PerformError}
use Rattle.activities.specs.Driving.{ToldDriver, block_items, FedSome, Drove}
use Rattle.activities.specs.Memory.{PlacedAct, SeatMemory, seen_in, own_in, by_others, own_act, placed_row, SeesMore, Remembers}
use Rattle.activities.specs.Down.{entry_takes, blocks_of, TookDown}
use Rattle.activities.specs.Up.{IsNextAct, SentUp}
use Rattle.activities.specs.Commands.{done_by, RunsCommands, RanCommands}
use Rattle.activities.specs.Ending.{Halts, FinishesStage, DownDone, UpDone, CommandsDone}
use Rattle.performer.specs.Joined.{picked, entry_in, next_in, acts_by, marked_by}
use Rattle.performer.specs.Performed.{TookAll, SentAll, TypedAll, Shares, IsAskRow, HaltBehind, FinishBehind}
use Rattle.activities.proofs.GaveLines.{begins_on}
use Rattle.activities.proofs.Remembers.{all-append, own_in-append, own_in-by_others}
use Rattle.performer.proofs.IsRising.{run_rises}
use Rattle.performer.proofs.Picked.{picked_by, owned, one_of_three, entries_by, all_popped, sent_is, marked_all, front_marked}

-- an act that entry_takes no entry, and by which nothing goes out
abbrev Plain : PlacedAct → Type 0
Plain r = (entry_in r.1 ≡ []) × (next_in r.1 ≡ [])

abbrev NoEntry : PlacedAct → Type 0
NoEntry r = entry_in r.1 ≡ []

abbrev NoNext : PlacedAct → Type 0
NoNext r = next_in r.1 ≡ []

pub all_of : {A : Type 0} (P Q : A → Type 0) (xs : List A) → ((x : A) → P x → Q x) → AllOf P xs → AllOf Q xs
all_of P Q [] f h = tt
all_of P Q (x ∷ xs) f h = (f x h.0, all_of P Q xs f h.1)

-- ---- the commands' own acts are plain

mine_plain : (b : Bool) (n : ℕ) (a : Act) → Plain (n, a) → AllOf Plain (own_in (own_act b n a))
mine_plain true n a h = (h, tt)
mine_plain false n a h = tt

done_plain : (n : ℕ) (m : Machine) (c : Command) → AllOf Plain (own_in (done_by n m c))
done_plain n m (command.Edit op) = mine_plain (accepts m (act.Typed op)) n (act.Typed op) (refl, refl)
done_plain n m (command.Eval place) = mine_plain (accepts m (act.Eval place)) n (act.Eval place) (refl, refl)
done_plain n m (command.Reset text) = mine_plain (accepts m (act.Reset text)) n (act.Reset text) (refl, refl)
done_plain n m (command.Until count) = tt
done_plain n m command.Show = tt
done_plain n m command.Leave = tt

pub later_own : (k at : SeatMemory) → SeesMore k at → own_in at ≡ own_in k
later_own k at later = ap own_in (sym later.1) ∙ own_in-append k (by_others later.0) ∙ ap (λ l. own_in k ++ l) (own_in-by_others later.0) ∙ append-nil (own_in k)

ran_plain : (o : Origin) (n : ℕ) (name : List ℕ) (who : ℕ) (cs : List Command) (k end : SeatMemory) (bytes : List ℕ) → AllOf Plain (own_in k)
    → RunsCommands o n name who k cs bytes end → AllOf Plain (own_in end)
ran_plain o n name who [] k end bytes h ran = subst (λ (l : SeatMemory). AllOf Plain (own_in l)) (sym ran.1) h
ran_plain o n name who (c ∷ cs) k end bytes h ran =
    let at = ran.0 in
    let m = machine_at o (seen_in at) in
    let here : AllOf Plain (own_in at) = subst (λ (l : List PlacedAct). AllOf Plain l) (sym (later_own k at ran.2)) h in
    let more : AllOf Plain (own_in (at ++ done_by n m c)) =
    subst (λ (l : List PlacedAct). AllOf Plain l) (sym (own_in-append at (done_by n m c))) (all-append Plain (own_in at) (own_in (done_by n m c)) here (done_plain n m c)) in
    ran_plain o n name who cs (at ++ done_by n m c) end ran.1 more ran.5

last_plain : (b : Bool) (n : ℕ) (a : Act) → Plain (n, a) → AllOf Plain (placed_row b n a)
last_plain true n a h = (h, tt)
last_plain false n a h = tt

finish_plain : (o : Origin) (end : Result Flow PerformError) (u t : SeatValue PlacedAct Origin) → FinishesStage o end u t → AllOf Plain u.own → AllOf Plain t.own
finish_plain o (Ok flow.On) u t h own = absurd h
finish_plain o (Ok flow.Ended) u t h own =
    subst (λ (l : List PlacedAct). AllOf Plain l) (sym h.1) (all-append Plain u.own (placed_row h.0 u.number act.Finish) own (last_plain h.0 u.number act.Finish (refl, refl)))
finish_plain o (Ok flow.Closed) u t h own = subst (λ (l : List PlacedAct). AllOf Plain l) (sym h) own
finish_plain o (Err e) u t h own =
    subst (λ (l : List PlacedAct). AllOf Plain l) (sym h.1) (all-append Plain u.own (placed_row h.0 u.number act.Finish) own (last_plain h.0 u.number act.Finish (refl, refl)))

pub commands_plain : (o : Origin) (name : List ℕ) (who : ℕ) (end : Result Flow PerformError) (told left before now : Option (List ℕ)) (s t : SeatValue PlacedAct Origin)
    → CommandsDone o name who end told left before now s t → AllOf Plain t.own
commands_plain o name who end told left before now s t h =
    let ran = h.ran in
    let done : AllOf Plain (own_in ran.done) = ran_plain o s.number name who ran.commands [] ran.done ran.printed tt ran.ran in
    let own : AllOf Plain h.u.own =
    subst (λ (l : List PlacedAct). AllOf Plain l) (sym (later_own ran.done ran.k ran.later) ∙ ran.remembers.own) done in
    finish_plain o end h.u t h.finishes own

-- ---- the up line's acts take no entry

last_all : (P : PlacedAct → Type 0) (b : Bool) (n : ℕ) → P (n, act.Halt) → AllOf P (placed_row b n act.Halt)
last_all P true n p = (p, tt)
last_all P false n p = tt

halt_all : (P : PlacedAct → Type 0) (o : Origin) (end : Option PerformError) (u t : SeatValue PlacedAct Origin) → Halts o end u t → ((n : ℕ) → P (n, act.Halt)) → AllOf P u.own → AllOf P t.own
halt_all P o None u t h p own = subst (λ (l : List PlacedAct). AllOf P l) (sym h) own
halt_all P o (Some e) u t h p own = subst (λ (l : List PlacedAct). AllOf P l) (sym h.1) (all-append P u.own (placed_row h.0 u.number act.Halt) own (last_all P h.0 u.number (p u.number)))

-- what holds of each `next` and of a halt holds of each act of the up line
pub up_all : (P : PlacedAct → Type 0) (o : Origin) (end : Option PerformError) (told left before now : Option (List ℕ)) (s t : SeatValue PlacedAct Origin)
    → ((r : PlacedAct) → IsNextAct r → P r) → ((n : ℕ) → P (n, act.Halt)) → s.own ≡ [] → UpDone o end told left before now s t → AllOf P t.own
up_all P o end told left before now s t at_next at_halt fresh h =
    let nexts = h.sent.nexts in
    let own : h.u.own ≡ nexts.0 = nexts.1 ∙ ap (λ l. l ++ nexts.0) fresh in
    halt_all P o end h.u t h.halts at_halt (subst (λ (l : List PlacedAct). AllOf P l) (sym own) (all_of IsNextAct P nexts.0 at_next nexts.2))

pub up_noentry : (o : Origin) (end : Option PerformError) (told left before now : Option (List ℕ)) (s t : SeatValue PlacedAct Origin) → s.own ≡ []
    → UpDone o end told left before now s t → AllOf NoEntry t.own
up_noentry o end told left before now s t fresh h = up_all NoEntry o end told left before now s t (λ r e. ap entry_in e) (λ n. refl) fresh h

-- ---- the down line's acts send nothing

takes_all : (P : PlacedAct → Type 0) (n : ℕ) (es : List Entry) → ((n : ℕ) (e : Entry) → P (n, act.Take e)) → AllOf P (entry_takes n es)
takes_all P n [] at_take = tt
takes_all P n (e ∷ es) at_take = (at_take n e, takes_all P n es at_take)

-- what holds of each entry taken and of a halt holds of each act of the down line
pub down_all : (P : PlacedAct → Type 0) (o : Origin) (end : Option PerformError) (told left : Option (List ℕ)) (s t : SeatValue PlacedAct Origin) (before now : List Item)
    → ((n : ℕ) (e : Entry) → P (n, act.Take e)) → ((n : ℕ) → P (n, act.Halt)) → s.own ≡ [] → DownDone o end told left s t before now → AllOf P t.own
down_all P o end told left s t before now at_take at_halt fresh h =
    let own : h.u.own ≡ entry_takes s.number h.took.entries = h.took.lines.own ∙ ap (λ l. l ++ entry_takes s.number h.took.entries) fresh in
    halt_all P o end h.u t h.halts at_halt (subst (λ (l : List PlacedAct). AllOf P l) (sym own) (takes_all P s.number h.took.entries at_take))

pub down_nonext : (o : Origin) (end : Option PerformError) (told left : Option (List ℕ)) (s t : SeatValue PlacedAct Origin) (before now : List Item) → s.own ≡ []
    → DownDone o end told left s t before now → AllOf NoNext t.own
down_nonext o end told left s t before now fresh h = down_all NoNext o end told left s t before now (λ n e. refl) (λ n. refl) fresh h

down_own : (o : Origin) (end : Option PerformError) (u t : SeatValue PlacedAct Origin) → Halts o end u t → (b : Bool) × (t.own ≡ u.own ++ placed_row b u.number act.Halt)
down_own o None u t h = (false, h ∙ sym (append-nil u.own))
down_own o (Some e) u t h = (h.0, h.1)

-- ---- all together

abbrev pub Own : SeatValue PlacedAct Origin → List PlacedAct → Type 0
Own t acts = acts_by t.number acts ≡ t.own

pub of_own : (P : PlacedAct → Type 0) (t : SeatValue PlacedAct Origin) (acts : List PlacedAct) → Own t acts → AllOf P t.own → AllOf (λ (r : PlacedAct). r.0 ≡ t.number → P r) acts
of_own P t acts own h = owned P t.number acts (subst (λ (l : List PlacedAct). AllOf P l) (sym own) h)

pub took_all : (o : Origin) (acts : List PlacedAct) (c u d : SeatValue PlacedAct Origin) (s : SeatValue PlacedAct Origin) (end : Option PerformError) (told left : Option (List ℕ))
    (pushed popped rest : List Item) (starved : Bool) (old new : ToldDriver)
    → AllOf (λ (r : PlacedAct). IsIn r.0 (c.number ∷ u.number ∷ d.number ∷ [])) acts → Own c acts → Own u acts → Own d acts
    → AllOf Plain c.own → AllOf NoEntry u.own → s.own ≡ [] → d.number ≡ s.number → Begins d.seen acts
    → ArePlayed o acts → DownDone o end told left s d [] pushed → Drove starved [] popped old new → pushed ≡ popped ++ rest → TookAll o acts end told left popped starved old new
took_all o acts c u d s end told left pushed popped rest starved old new every own_c own_u own_d plain noentry fresh same later run down drove order =
    let es = down.took.entries in
    let h = down_own o end down.u d down.halts in
    let own : d.own ≡ entry_takes s.number es ++ placed_row h.0 s.number act.Halt =
    h.1 ∙ ap (λ l. l ++ placed_row h.0 down.u.number act.Halt) (down.took.lines.own ∙ ap (λ l. l ++ entry_takes s.number es) fresh)
    ∙ ap (λ n. entry_takes s.number es ++ placed_row h.0 n act.Halt) down.number in
    let alone = one_of_three entry_in c.number u.number d.number acts every
    (of_own NoEntry c acts own_c (all_of Plain NoEntry c.own (λ r p. p.0) plain)) (of_own NoEntry u acts own_u noentry) in
    let bs = blocks_of o.joined es in
    let items : pushed ≡ block_items bs ++ item.End ∷ [] = down.pushed ∙ ap (λ l. l ++ item.End ∷ []) down.took.lines.pushed in
    let same_blocks : drove.blocks ≡ bs = sym (all_popped bs drove.blocks rest (sym items ∙ order ∙ ap (λ l. l ++ rest) drove.popped)) in
    let fed : FedSome starved bs old new = subst (λ l. FedSome starved l old new) same_blocks drove.fed in
    let taken_is : picked entry_in acts ≡ es = picked_by entry_in d.number acts alone ∙ ap (picked entry_in) (own_d ∙ own) ∙ entries_by h.0 s.number es in
    record {
      given = down.took.given;
      entries = es;
      last = down.took.last;
      rest = down.took.rest;
      gave = down.took.gave;
      held = down.took.held;
      whole = down.took.whole;
      mean = down.took.lines.mean;
      taken = taken_is;
      seen = down.took.seen;
      earlier = begins_on _ _ _ down.took.earlier (begins_on _ _ _ down.later later);
      ends = down.took.ends;
      popped_is = drove.popped ∙ ap (λ l. block_items l ++ item.End ∷ []) same_blocks;
      fed = fed;
      rise = run_rises o acts es fed.fed run taken_is fed.first;
    }

turned : (a b n : ℕ) (r : PlacedAct) → IsIn r.0 (a ∷ b ∷ n ∷ []) → IsIn r.0 (a ∷ n ∷ b ∷ [])
turned a b n r (inl e) = inl e
turned a b n r (inr (inl e)) = inr (inr (inl e))
turned a b n r (inr (inr (inl e))) = inr (inl e)
turned a b n r (inr (inr (inr e))) = absurd e

pub sent_all : (o : Origin) (acts : List PlacedAct) (c u d s : SeatValue PlacedAct Origin) (end : Option PerformError) (told left before now : Option (List ℕ))
    → AllOf (λ (r : PlacedAct). IsIn r.0 (c.number ∷ u.number ∷ d.number ∷ [])) acts → Own c acts → Own u acts → Own d acts
    → AllOf Plain c.own → AllOf NoNext d.own → s.own ≡ [] → u.number ≡ s.number → Begins u.seen acts → ArePlayed o acts
    → UpDone o end told left before now s u → SentAll o acts end told left before now
sent_all o acts c u d s end told left before now every own_c own_u own_d plain nonext fresh same later run up =
    let alone = one_of_three next_in c.number d.number u.number acts (all_of _ _ acts (turned c.number u.number d.number) every)
    (of_own NoNext c acts own_c (all_of Plain NoNext c.own (λ r p. p.1) plain)) (of_own NoNext d acts own_d nonext) in
    record {
      calls = up.sent.calls;
      lost = up.sent.lost;
      sent = sent_is o up.k u acts up.remembers later own_u run alone ∙ up.same ∙ up.sent.sent;
      fit = up.sent.fit;
      front = up.sent.front;
      written = up.sent.written;
      replies = up.sent.replies;
      last = up.sent.last;
      rest = up.sent.rest;
      gave = up.sent.gave;
      held = up.sent.held;
      whole = up.sent.whole;
      placed = up.sent.placed;
      even = up.sent.even;
      seen = up.u.seen;
      earlier = begins_on _ _ _ up.later later;
      ends = up.sent.ends;
    }

-- ---- what `close` says of the three seats

pub record Three (acts : List PlacedAct) (f u d : SeatValue PlacedAct Origin) : Type 0 where
  pub every : AllOf (λ (r : PlacedAct). IsIn r.0 (f.number ∷ u.number ∷ d.number ∷ [])) acts
  pub own_f : Own f acts
  pub own_u : Own u acts
  pub own_d : Own d acts
  pub begins_f : Begins f.seen acts
  pub begins_u : Begins u.seen acts
  pub begins_d : Begins d.seen acts

two_made : (k : ℕ) (made none : List ℕ) (a b z : ℕ) → none ≡ [] → made ≡ (none ++ a ∷ []) ++ b ∷ [] → IsIn k made → IsIn k (z ∷ a ∷ b ∷ [])
two_made k made none a b z empty is h = inr (subst (IsIn k) (is ∙ ap (λ l. (l ++ a ∷ []) ++ b ∷ []) empty) h)

none_made : (k : ℕ) (made all : List ℕ) → made ≡ [] → IsIn k made → IsIn k all
none_made k made all is h = absurd (subst (IsIn k) is h)

pub three : (start acts : List PlacedAct) (seats : List (SeatValue PlacedAct Origin)) (f u d : SeatValue PlacedAct Origin) (none : List ℕ) → seats ≡ f ∷ u ∷ d ∷ [] → start ≡ []
    → f.index ≡ 0 → none ≡ [] → f.made ≡ (none ++ u.index ∷ []) ++ d.index ∷ [] → u.made ≡ [] → d.made ≡ []
    → IsSettled (λ (r : PlacedAct). r.0) start acts (map card_of seats) → (AreAllSeats (map card_of seats) → AccountFor (λ (r : PlacedAct). r.0) start acts seats) → Three acts f u d
three start acts seats f u d none are empty index unmade made made_u made_d settled whole =
    let all = f ∷ u ∷ d ∷ [] in
    let closed : AreAllSeats (map card_of all) = record {
      first = inl index;
      made = (
        (λ k h. two_made k f.made none u.index d.index f.index unmade made h),
        ((λ k h. none_made k u.made (f.index ∷ u.index ∷ d.index ∷ []) made_u h), ((λ k h. none_made k d.made (f.index ∷ u.index ∷ d.index ∷ []) made_d h), tt)),
      );
    } in
    let w : AccountFor (λ (r : PlacedAct). r.0) start acts all =
    subst (λ (l : List (SeatValue PlacedAct Origin)). AccountFor (λ (r : PlacedAct). r.0) start acts l) are
    (whole (subst (λ (l : List (SeatValue PlacedAct Origin)). AreAllSeats (map card_of l)) (sym are) closed)) in
    let s : IsSettled (λ (r : PlacedAct). r.0) start acts (map card_of all) =
    subst (λ (l : List (SeatValue PlacedAct Origin)). IsSettled (λ (r : PlacedAct). r.0) start acts (map card_of l)) are settled in
    let behind : w.behind ≡ acts = ap (λ l. l ++ w.behind) (sym empty) ∙ w.splits in
    record {
      every = subst (λ (l : List PlacedAct). AllOf (λ (r : PlacedAct). IsIn r.0 (f.number ∷ u.number ∷ d.number ∷ [])) l) behind w.every;
      own_f = w.own.0;
      own_u = w.own.1.0;
      own_d = w.own.1.1.0;
      begins_f = s.begins.0;
      begins_u = s.begins.1.0;
      begins_d = s.begins.1.1.0;
    }

-- ---- the commands, of all acts

typed_from : (o : Origin) (acts : List PlacedAct) (f s : SeatValue PlacedAct Origin) (name : List ℕ) (who : ℕ) (end : Result Flow PerformError) (told left before now : Option (List ℕ)) (n : ℕ)
    → n ≡ s.number → Begins f.seen acts → (h : CommandsDone o name who end told left before now s f) → Begins h.k (marked_by n acts) → FinishBehind end n (own_in h.ran.done) acts
    → TypedAll o acts n name who end told left before now
typed_from o acts f s name who end told left before now n same later h marked own_are =
    let r = h.ran in
    let in_k : Begins r.done r.k = (by_others r.later.0, r.later.1) in
    let in_acts : Begins r.k (marked_by n acts) = begins_on r.k h.k (marked_by n acts) h.behind marked in
    let in_seen : marked_by n h.u.seen ≡ r.k = ap (marked_by n) (sym r.remembers.seen) ∙ front_marked n r.k in_acts.0 acts in_acts.1 in
    record {
      given = r.given;
      commands = r.commands;
      last = r.last;
      rest = r.rest;
      gave = r.gave;
      held = r.held;
      whole = r.whole;
      mean = r.mean;
      within = r.within;
      printed = r.printed;
      done = r.done;
      ran = subst (λ (n : ℕ). RunsCommands o n name who [] r.commands r.printed r.done) (sym same) r.ran;
      front_of = begins_on r.done r.k (marked_by n acts) in_k in_acts;
      own_are = own_are;
      front = r.front;
      written = r.written;
      seen = h.u.seen;
      earlier = begins_on h.u.seen f.seen acts h.later later;
      here = (r.later.0, r.later.1 ∙ sym in_seen);
      ends = r.ends;
    }

pub typed_all : (o : Origin) (acts : List PlacedAct) (f s : SeatValue PlacedAct Origin) (name : List ℕ) (who : ℕ) (end : Result Flow PerformError) (told left before now : Option (List ℕ))
    → f.number ≡ s.number → Begins f.seen acts → Own f acts → (h : CommandsDone o name who end told left before now s f)
    → FinishBehind end f.number (own_in h.ran.done) acts → TypedAll o acts f.number name who end told left before now
typed_all o acts f s name who end told left before now same later own h own_are =
    typed_from o acts f s name who end told left before now f.number same later h (by_others later.0, sym (marked_all h.k f acts h.remembers later own)) own_are
