-- Whose acts they are, and how the stage ends.
use Rattle.std.proofs.Common.{◌≡◌, ◌⊎◌, inl, inr, ℕ, Bool, true, false, if◌then◌else◌, List, [], ◌∷◌, ◌++◌, Option, None, Some, Result, Ok, Err, refl, sym, ap, ◌∙◌, subst, append-nil}
use Rattle.seat_lock.specs.Lists.{AllOf, IsIn, Begins}
use Rattle.seat_lock.specs.Values.{SeatValue}
use Rattle.troop_entry.specs.declared.call.Call.{Call}
use Rattle.troop_entry.specs.declared.entry.Entry.{Entry}
use Rattle.troop_entry.specs.Told.{is_edit_of}
use Rattle.block_queue.specs.declared.item.Item.{Item}
use Rattle.stage_state.specs.declared.act.Act.{Act}
use Rattle.stage_state.specs.declared.act.Act.TheVariants as act
use Rattle.stage_state.specs.declared.played.Origin.{Origin}
use Rattle.stage_state.specs.Machine.{Machine, after_act, after_acts, after_own_edit, after_other_entry, after_sending}
use Rattle.stage_state.specs.Origins.{machine_at}
use Rattle.stage_state.specs.Replies.{accepts}
use Rattle.stage_state.specs.Staged.{acts_of}
use Rattle.wire_json.specs.declared.commands.Command.{Command}
use Rattle.wire_json.specs.declared.commands.Command.TheVariants as command
use Rattle.activities.specs.declared.commands.Flow.{Flow}
use Rattle.activities.specs.declared.commands.Flow.TheVariants as flow
use Rattle.activities.specs.declared.errors.PerformError.{PerformError}
use Rattle.activities.specs.Memory.{PlacedAct, SeatMemory, seen_in, own_in, own_act, placed_row}
use Rattle.activities.specs.Down.{entry_takes}
use Rattle.activities.specs.Up.{IsNextAct}
use Rattle.activities.specs.Commands.{done_by, RunsCommands}
use Rattle.activities.specs.Ending.{Halts, FinishesStage, IsFinished, DownDone, UpDone, CommandsDone}
use Rattle.performer.specs.Joined.{ask_in, acts_by}
use Rattle.performer.specs.Performed.{Shares, IsAskRow, HasHalt, HaltBehind, FinishBehind}
use Rattle.activities.proofs.Remembers.{all-append, own_in-append}
use Rattle.performer.proofs.Picked.{owned, one_of_three}
use Rattle.performer.proofs.TookAll.{Three, all_of, later_own, Own, of_own, up_all, down_all}

-- ---- the commands' own acts ask

mine_asks : (b : Bool) (n : ℕ) (a : Act) → IsAskRow (n, a) → AllOf IsAskRow (own_in (own_act b n a))
mine_asks true n a h = (h, tt)
mine_asks false n a h = tt

done_asks : (n : ℕ) (m : Machine) (c : Command) → AllOf IsAskRow (own_in (done_by n m c))
done_asks n m (command.Edit op) = mine_asks (accepts m (act.Typed op)) n (act.Typed op) refl
done_asks n m (command.Eval place) = mine_asks (accepts m (act.Eval place)) n (act.Eval place) refl
done_asks n m (command.Reset text) = mine_asks (accepts m (act.Reset text)) n (act.Reset text) refl
done_asks n m (command.Until count) = tt
done_asks n m command.Show = tt
done_asks n m command.Leave = tt

ran_asks : (o : Origin) (n : ℕ) (name : List ℕ) (who : ℕ) (cs : List Command) (k end : SeatMemory) (bytes : List ℕ) → AllOf IsAskRow (own_in k)
    → RunsCommands o n name who k cs bytes end → AllOf IsAskRow (own_in end)
ran_asks o n name who [] k end bytes h ran = subst (λ (l : SeatMemory). AllOf IsAskRow (own_in l)) (sym ran.1) h
ran_asks o n name who (c ∷ cs) k end bytes h ran =
    let at = ran.0 in
    let m = machine_at o (seen_in at) in
    let here : AllOf IsAskRow (own_in at) = subst (λ (l : List PlacedAct). AllOf IsAskRow l) (sym (later_own k at ran.2)) h in
    let more : AllOf IsAskRow (own_in (at ++ done_by n m c)) =
    subst (λ (l : List PlacedAct). AllOf IsAskRow l) (sym (own_in-append at (done_by n m c))) (all-append IsAskRow (own_in at) (own_in (done_by n m c)) here (done_asks n m c)) in
    ran_asks o n name who cs (at ++ done_by n m c) end ran.1 more ran.5

-- ---- a halt

entry_halted : (b : Bool) (e : Entry) (m : Machine) → (if b then after_own_edit e m else after_other_entry e m).halted ≡ m.halted
entry_halted true e m = refl
entry_halted false e m = refl

send_halted : (calls : List Call) (m : Machine) → (after_sending calls m).halted ≡ m.halted
send_halted [] m = refl
send_halted (c ∷ calls) m = refl

act_halted : (a : Act) (m : Machine) → (a ≡ act.Halt) ⊎ ((after_act a m).halted ≡ m.halted)
act_halted (act.Typed op) m = inr refl
act_halted (act.Eval place) m = inr refl
act_halted (act.Reset text) m = inr refl
act_halted (act.Take e) m = inr (entry_halted (is_edit_of m.own e) e m)
act_halted act.Next m = inr (send_halted m.outgoing m)
act_halted act.Finish m = inr refl
act_halted act.Halt m = inl refl

halt_next : (r : PlacedAct) (acts : List PlacedAct) (before now : Bool) → (r.1 ≡ act.Halt) ⊎ (now ≡ before) → before ≡ false → (now ≡ false → HasHalt acts) → HasHalt (r ∷ acts)
halt_next r acts before now (inl e) goes rest = inl e
halt_next r acts before now (inr e) goes rest = inr (rest (e ∙ goes))

has_halt : (acts : List PlacedAct) (m : Machine) → m.halted ≡ false → (after_acts (acts_of acts) m).halted ≡ true → HasHalt acts
has_halt [] m goes halted = let wrong : true ≡ false = sym halted ∙ goes in absurd (cc)
has_halt (r ∷ acts) m goes halted =
    halt_next r acts m.halted (after_act r.1 m).halted (act_halted r.1 m) goes (λ still. has_halt acts (after_act r.1 m) still halted)

halt_more : (xs ys : List PlacedAct) → HasHalt xs → HasHalt (xs ++ ys)
halt_more [] ys h = absurd h
halt_more (x ∷ xs) ys (inl e) = inl e
halt_more (x ∷ xs) ys (inr h) = inr (halt_more xs ys h)

halt_behind : (o : Origin) (acts : List PlacedAct) (end : Option PerformError) (u t : SeatValue PlacedAct Origin) (n : ℕ) (own : List PlacedAct) → Halts o end u t → u.number ≡ n → u.own ≡ own
    → acts_by n acts ≡ t.own → Begins t.seen acts → HaltBehind end n own acts
halt_behind o acts None u t n own h same is whole first = whole ∙ h ∙ is
halt_behind o acts (Some e) u t n own h same is whole first = (
  h.0,
  whole ∙ h.1 ∙ ap (λ l. l ++ placed_row h.0 u.number act.Halt) is ∙ ap (λ n. own ++ placed_row h.0 n act.Halt) same,
  subst HasHalt first.1 (halt_more t.seen first.0 (has_halt t.seen (machine_at o []) refl h.2)),
)

-- ---- a finish

-- the finish that an act is, if it is one
abbrev finish_in : Act → List Act
finish_in (act.Typed op) = []
finish_in (act.Eval place) = []
finish_in (act.Reset text) = []
finish_in (act.Take e) = []
finish_in act.Next = []
finish_in act.Finish = act.Finish ∷ []
finish_in act.Halt = []

abbrev NoFinish : PlacedAct → Type 0
NoFinish r = finish_in r.1 ≡ []

entry_finishing : (b : Bool) (e : Entry) (m : Machine) → (if b then after_own_edit e m else after_other_entry e m).finishing ≡ m.finishing
entry_finishing true e m = refl
entry_finishing false e m = refl

send_finishing : (calls : List Call) (m : Machine) → (after_sending calls m).finishing ≡ m.finishing
send_finishing [] m = refl
send_finishing (c ∷ calls) m = refl

act_finishing : (a : Act) (m : Machine) → finish_in a ≡ [] → (after_act a m).finishing ≡ m.finishing
act_finishing (act.Typed op) m none = refl
act_finishing (act.Eval place) m none = refl
act_finishing (act.Reset text) m none = refl
act_finishing (act.Take e) m none = entry_finishing (is_edit_of m.own e) e m
act_finishing act.Next m none = send_finishing m.outgoing m
act_finishing act.Finish m none = absurd (cc)
act_finishing act.Halt m none = refl

acts_finishing : (acts : List PlacedAct) (m : Machine) → AllOf NoFinish acts → (after_acts (acts_of acts) m).finishing ≡ m.finishing
acts_finishing [] m none = refl
acts_finishing (r ∷ acts) m none = acts_finishing acts (after_act r.1 m) none.1 ∙ act_finishing r.1 m none.0

front_all : (P : PlacedAct → Type 0) (xs ys : List PlacedAct) → AllOf P (xs ++ ys) → AllOf P xs
front_all P [] ys h = tt
front_all P (x ∷ xs) ys h = (h.0, front_all P xs ys h.1)

-- an ask finishes nothing
ask_finishes : (a : Act) → ask_in a ≡ a ∷ [] → finish_in a ≡ []
ask_finishes (act.Typed op) h = refl
ask_finishes (act.Eval place) h = refl
ask_finishes (act.Reset text) h = refl
ask_finishes (act.Take e) h = refl
ask_finishes act.Next h = refl
ask_finishes act.Finish h = absurd (cc)
ask_finishes act.Halt h = refl

either : (n : ℕ) (r : PlacedAct) → (r.0 ≡ n) ⊎ (finish_in r.1 ≡ []) → (r.0 ≡ n → NoFinish r) → NoFinish r
either n r (inl e) mine = mine e
either n r (inr e) mine = e

all_either : (n : ℕ) (acts : List PlacedAct) → AllOf (λ (r : PlacedAct). (r.0 ≡ n) ⊎ (finish_in r.1 ≡ [])) acts → AllOf (λ (r : PlacedAct). r.0 ≡ n → NoFinish r) acts → AllOf NoFinish acts
all_either n [] others mine = tt
all_either n (r ∷ acts) others mine = (either n r others.0 mine.0, all_either n acts others.1 mine.1)

-- a stage that this seat alone may finish, and that is finished, has its finish
finish_placed : (o : Origin) (acts seen own : List PlacedAct) (n : ℕ) (b : Bool) → AllOf IsAskRow own → AllOf (λ (r : PlacedAct). (r.0 ≡ n) ⊎ (finish_in r.1 ≡ [])) acts → Begins seen acts
    → (machine_at o seen).finishing ≡ true → acts_by n acts ≡ own ++ placed_row b n act.Finish → acts_by n acts ≡ own ++ (n, act.Finish) ∷ []
finish_placed o acts seen own n true asks others first finishing is = is
finish_placed o acts seen own n false asks others first finishing is =
    let none : AllOf NoFinish own = all_of IsAskRow NoFinish own (λ r h. ask_finishes r.1 h) asks in
    let mine = owned NoFinish n acts (subst (λ (l : List PlacedAct). AllOf NoFinish l) (sym (is ∙ append-nil own)) none) in
    let front : AllOf NoFinish seen =
    front_all NoFinish seen first.0 (subst (λ (l : List PlacedAct). AllOf NoFinish l) (sym first.1) (all_either n acts others mine)) in
    let wrong : true ≡ false = sym finishing ∙ acts_finishing seen (machine_at o []) front in
    absurd (cc)

finished_behind : (o : Origin) (acts : List PlacedAct) (u t : SeatValue PlacedAct Origin) (n : ℕ) (own : List PlacedAct) → IsFinished o u t → u.number ≡ n → u.own ≡ own → acts_by n acts ≡ t.own
    → Begins t.seen acts → AllOf IsAskRow own → AllOf (λ (r : PlacedAct). (r.0 ≡ n) ⊎ (finish_in r.1 ≡ [])) acts → acts_by n acts ≡ own ++ (n, act.Finish) ∷ []
finished_behind o acts u t n own h same is whole first asks others =
    finish_placed o acts t.seen own n h.0 asks others first h.2
    (whole ∙ h.1 ∙ ap (λ l. l ++ placed_row h.0 u.number act.Finish) is ∙ ap (λ n. own ++ placed_row h.0 n act.Finish) same)

finish_behind : (o : Origin) (acts : List PlacedAct) (end : Result Flow PerformError) (u t : SeatValue PlacedAct Origin) (n : ℕ) (own : List PlacedAct) → FinishesStage o end u t → u.number ≡ n → u.own ≡ own
    → acts_by n acts ≡ t.own → Begins t.seen acts → AllOf IsAskRow own → AllOf (λ (r : PlacedAct). (r.0 ≡ n) ⊎ (finish_in r.1 ≡ [])) acts → FinishBehind end n own acts
finish_behind o acts (Ok flow.On) u t n own h same is whole first asks others = absurd h
finish_behind o acts (Ok flow.Ended) u t n own h same is whole first asks others = finished_behind o acts u t n own h same is whole first asks others
finish_behind o acts (Ok flow.Closed) u t n own h same is whole first asks others = whole ∙ h ∙ is
finish_behind o acts (Err e) u t n own h same is whole first asks others = finished_behind o acts u t n own h same is whole first asks others

rotated : (a b n : ℕ) (r : PlacedAct) → IsIn r.0 (a ∷ b ∷ n ∷ []) → IsIn r.0 (b ∷ n ∷ a ∷ [])
rotated a b n r (inl e) = inr (inr (inl e))
rotated a b n r (inr (inl e)) = inl e
rotated a b n r (inr (inr (inl e))) = inr (inl e)
rotated a b n r (inr (inr (inr e))) = absurd e

-- ---- all together

-- the acts of the seat that types are those of the commands done, and then the finish
pub typed_behind : (o : Origin) (acts : List PlacedAct) (f u d sf su sd : SeatValue PlacedAct Origin) (name : List ℕ) (who : ℕ) (cend : Result Flow PerformError) (uend dend : Option PerformError)
    (ct cl cb cn ut ul ub un dt dl : Option (List ℕ)) (ib inow : List Item) → Three acts f u d → f.number ≡ sf.number → su.own ≡ [] → sd.own ≡ []
    → (typed : CommandsDone o name who cend ct cl cb cn sf f) → UpDone o uend ut ul ub un su u → DownDone o dend dt dl sd d ib inow → FinishBehind cend f.number (own_in typed.ran.done) acts
typed_behind o acts f u d sf su sd name who cend uend dend ct cl cb cn ut ul ub un dt dl ib inow t nf fresh_u fresh_d typed up down =
    let ran = typed.ran in
    let own_f : typed.u.own ≡ own_in ran.done = sym ran.remembers.own ∙ later_own ran.done ran.k ran.later in
    let asks : AllOf IsAskRow (own_in ran.done) = ran_asks o sf.number name who ran.commands [] ran.done ran.printed tt ran.ran in
    let others = one_of_three finish_in u.number d.number f.number acts (all_of _ _ acts (rotated f.number u.number d.number) t.every)
    (of_own NoFinish u acts t.own_u (up_all NoFinish o uend ut ul ub un su u (λ r e. ap finish_in e) (λ n. refl) fresh_u up))
    (of_own NoFinish d acts t.own_d (down_all NoFinish o dend dt dl sd d ib inow (λ n e. refl) (λ n. refl) fresh_d down)) in
    finish_behind o acts cend typed.u f f.number (own_in ran.done) typed.finishes (typed.number ∙ sym nf) own_f t.own_f t.begins_f asks others

pub shares : (o : Origin) (acts : List PlacedAct) (f u d sf su sd : SeatValue PlacedAct Origin) (name : List ℕ) (who : ℕ) (cend : Result Flow PerformError) (uend dend : Option PerformError)
    (ct cl cb cn ut ul ub un dt dl : Option (List ℕ)) (ib inow : List Item) → Three acts f u d → f.number ≡ sf.number → u.number ≡ su.number → d.number ≡ sd.number
    → su.own ≡ [] → sd.own ≡ [] → CommandsDone o name who cend ct cl cb cn sf f → UpDone o uend ut ul ub un su u → DownDone o dend dt dl sd d ib inow
    → Shares acts cend uend dend f.number u.number d.number
shares o acts f u d sf su sd name who cend uend dend ct cl cb cn ut ul ub un dt dl ib inow t nf nu nd fresh_u fresh_d typed up down =
    let ran = typed.ran in
    let asks : AllOf IsAskRow (own_in ran.done) = ran_asks o sf.number name who ran.commands [] ran.done ran.printed tt ran.ran in
    record {
      every = t.every;
      asks = (
        own_in ran.done,
        asks,
        typed_behind o acts f u d sf su sd name who cend uend dend ct cl cb cn ut ul ub un dt dl ib inow t nf fresh_u fresh_d typed up down,
      );
      nexts = (
        up.sent.nexts.0,
        up.sent.nexts.2,
        halt_behind o acts uend up.u u u.number up.sent.nexts.0 up.halts (up.number ∙ sym nu) (up.sent.nexts.1 ∙ ap (λ l. l ++ up.sent.nexts.0) fresh_u) t.own_u t.begins_u,
      );
      entries = (
        down.took.entries,
        halt_behind o acts dend down.u d d.number (entry_takes d.number down.took.entries) down.halts (down.number ∙ sym nd)
            (down.took.lines.own ∙ ap (λ l. l ++ entry_takes sd.number down.took.entries) fresh_d ∙ ap (λ n. entry_takes n down.took.entries) (sym nd)) t.own_d t.begins_d,
      );
    }
