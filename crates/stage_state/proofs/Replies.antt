-- The functions say what the relations do.
use Rattle.std.proofs.Common.{◌≡◌, ◌≢◌, ℕ, Bool, true, false, if◌then◌else◌, not, is_none, Option, None, Some, List, length, refl, sym, ap, ◌∙◌, subst, option_map, true≢false, arith, Result, Ok, Err, OnOk, OnErr, IfOk, IfErr}
use Rattle.std.specs.Prelude.{◌==◌, ◌&&◌, ◌-◌, ◌≤◌}
use Rattle.std.proofs.lemmas.Bool.Decides.{nat_tests}
use Rattle.ot_text.specs.Change.{Change, base}
use Rattle.troop_entry.specs.declared.entry.Entry.{Entry}
use Rattle.ot_text.proofs.SameOp.{op_decides}
use Rattle.troop_entry.specs.Told.{op_told, is_edit_of, block_told}
use Rattle.client_state.specs.Pending.{outstanding, other_base}
use Rattle.stage_state.specs.declared.act.Act.{Act}
use Rattle.stage_state.specs.declared.act.Act.TheVariants as act
use Rattle.stage_state.specs.declared.act.Next.{Next}
use Rattle.stage_state.specs.declared.act.Next.TheVariants as next
use Rattle.stage_state.specs.declared.errors.StageError.{StageError}
use Rattle.stage_state.specs.declared.errors.StageError.TheVariants as fault
use Rattle.stage_state.specs.declared.errors.TakeError.{TakeError}
use Rattle.stage_state.specs.declared.errors.TakeError.TheVariants as error
use Rattle.stage_state.specs.declared.reply.AskRefusal.{AskRefusal}
use Rattle.stage_state.specs.declared.reply.TakeRefusal.{TakeRefusal}
use Rattle.stage_state.specs.declared.reply.AskRefusal.TheVariants as ask
use Rattle.stage_state.specs.declared.reply.TakeRefusal.TheVariants as take
use Rattle.stage_state.specs.Machine.{Machine, taken_count, held_text, is_closed, block_held, next_of, IsSend, CanAct}
use Rattle.stage_state.specs.Causes.{IsTypeCause, IsEvalCause, IsResetCause, IsTakeCause}
use Rattle.stage_state.specs.declared.reply.ActReply.{ActReply}
use Rattle.stage_state.specs.declared.reply.ActReply.TheVariants as reply
use Rattle.troop_entry.specs.declared.block.Block.{Block}
use Rattle.stage_state.specs.Staged.{Staged, machine, with_act, stage_after_next, IsQuiet}
use Rattle.stage_state.specs.Replies.{unless, reply_of, stage_after, is_free, spare_left, IsAskReply, IsTakeReply, type_refusal, eval_refusal, reset_refusal, is_sent, unfit_refusal, entry_refusal, take_refusal, sends, accepts, ask_error, take_error}
use Rattle.stage_state.proofs.Machine.{machine-joined}
use Rattle.stage_state.proofs.Causes.{one_type_cause, one_eval_cause, one_reset_cause, one_take_cause}

equal_from : (m n : ℕ) → (m == n) ≡ true → m ≡ n
equal_from m n e = grind (arith, nat_tests, e)

differ_from : (m n : ℕ) → (m == n) ≡ false → m ≢ n
differ_from m n e = grind (arith, nat_tests, e)

-- ---- the error that the function says has its cause

-- the refusal of a local edit that the function says has its cause
pub type_caused : (m : Machine) (op : Change) → IsTypeCause m op (ask_error (type_refusal m op))
type_caused m op = by_tests (is_closed m) (base op == length (held_text m)) refl refl
  where
    by_tests : (b c : Bool) → is_closed m ≡ b → (base op == length (held_text m)) ≡ c → IsTypeCause m op (ask_error (type_refusal m op))
    by_tests true c p q = rw p p
    by_tests false true p q = rw (p, q) (p, equal_from (base op) (length (held_text m)) q)
    by_tests false false p q = rw (p, q) (p, (refl, refl, differ_from (base op) (length (held_text m)) q))

-- the refusal of an evaluation that the function says has its cause
pub eval_caused : (m : Machine) (place : ℕ) → IsEvalCause m place (ask_error (eval_refusal m place))
eval_caused m place = by_tests (is_closed m) (block_held place m) refl refl
  where
    by_tests : (b : Bool) (o : Option (List ℕ)) → is_closed m ≡ b → block_held place m ≡ o → IsEvalCause m place (ask_error (eval_refusal m place))
    by_tests true o p q = rw p p
    by_tests false None p q = rw (p, q) (p, refl, q)
    by_tests false (Some text) p q = rw (p, q) (p, rw q refl)

-- the refusal of a reset that the function says has its cause
pub reset_caused : (m : Machine) (text : List ℕ) → IsResetCause m text (ask_error (reset_refusal m))
reset_caused m text = by_test (is_closed m) refl
  where
    by_test : (b : Bool) → is_closed m ≡ b → IsResetCause m text (ask_error (reset_refusal m))
    by_test true p = rw p p
    by_test false p = rw p p

sent_same : (o u : Option Change) → is_sent o u ≡ true → o ≡ u
sent_same None None e = refl
sent_same None (Some u) e = absurd (cc)
sent_same (Some op) None e = absurd (cc)
sent_same (Some op) (Some u) e = ap Some ((op_decides op u).0 e)

sent_differs : (o u : Option Change) → is_sent o u ≡ false → o ≢ u
sent_differs None None e same = true≢false e
sent_differs None (Some u) e same = cc
sent_differs (Some op) None e same = cc
sent_differs (Some op) (Some u) e same = true≢false (sym ((op_decides op u).1 (cc)) ∙ e)

own_caused : (m : Machine) (e : Entry) → m.gone ≡ false → e.at ≡ taken_count m → is_edit_of m.own e ≡ true → (b : Bool) → is_sent (op_told e.deed) (outstanding m.pending) ≡ b
    → IsTakeCause m e (take_error (if b then None else Some (take.NotSent e.at)))
own_caused m e here at own true sent = (here, record { place = at; fits = rw own (sent_same (op_told e.deed) (outstanding m.pending) sent) })
own_caused m e here at own false sent = (here, (at, refl, own, sent_differs (op_told e.deed) (outstanding m.pending) sent))

other_caused : (m : Machine) (e : Entry) → m.gone ≡ false → e.at ≡ taken_count m → is_edit_of m.own e ≡ false → (o : Option Change) → op_told e.deed ≡ o
    → IsTakeCause m e (take_error (unfit_refusal o (other_base m.pending (length (held_text m)))))
other_caused m e here at other None told = (here, record { place = at; fits = rw (other, told) tt })
other_caused m e here at other (Some op) told = by_test (base op == other_base m.pending (length (held_text m))) refl
  where
    by_test : (b : Bool) → (base op == other_base m.pending (length (held_text m))) ≡ b
        → IsTakeCause m e (take_error (if b then None else Some (take.BadBase (base op) (other_base m.pending (length (held_text m))))))
    by_test true same = (here, record { place = at; fits = rw (other, told) (equal_from (base op) (other_base m.pending (length (held_text m))) same) })
    by_test false differ = (here, (at, other, ap (option_map base) told, refl, differ_from (base op) (other_base m.pending (length (held_text m))) differ))

entry_caused : (m : Machine) (e : Entry) → m.gone ≡ false → e.at ≡ taken_count m → (d : Bool) → is_edit_of m.own e ≡ d → IsTakeCause m e (take_error (entry_refusal d m e))
entry_caused m e here at true own = own_caused m e here at own (is_sent (op_told e.deed) (outstanding m.pending)) refl
entry_caused m e here at false other = other_caused m e here at other (op_told e.deed) refl

-- the refusal of an entry that the function says has its cause
pub take_caused : (m : Machine) (e : Entry) → IsTakeCause m e (take_error (take_refusal m e))
take_caused m e = by_tests m.gone (e.at == taken_count m) refl refl
  where
    by_tests : (b c : Bool) → m.gone ≡ b → (e.at == taken_count m) ≡ c
        → IsTakeCause m e (take_error (if b then Some take.Gone else (if c then entry_refusal (is_edit_of m.own e) m e else Some (take.BadPlace (taken_count m) e.at))))
    by_tests true c p q = p
    by_tests false true p q = entry_caused m e p (equal_from e.at (taken_count m) q) (is_edit_of m.own e) refl
    by_tests false false p q = (p, (refl, refl, λ same. differ_from e.at (taken_count m) q (sym same)))

-- so a cause is that of the error which the function says
pub type_cause_is : (m : Machine) (op : Change) (a : StageError) → IsTypeCause m op a → a ≡ ask_error (type_refusal m op)
type_cause_is m op a h = one_type_cause m op a (ask_error (type_refusal m op)) h (type_caused m op)

-- a refusal of an evaluation with a cause is the one that the function says
pub eval_cause_is : (m : Machine) (place : ℕ) (a : StageError) → IsEvalCause m place a → a ≡ ask_error (eval_refusal m place)
eval_cause_is m place a h = one_eval_cause m place a (ask_error (eval_refusal m place)) h (eval_caused m place)

-- a refusal of a reset with a cause is the one that the function says
pub reset_cause_is : (m : Machine) (text : List ℕ) (a : StageError) → IsResetCause m text a → a ≡ ask_error (reset_refusal m)
reset_cause_is m text a h = one_reset_cause m text a (ask_error (reset_refusal m)) h (reset_caused m text)

-- a refusal of an entry with a cause is the one that the function says
pub take_cause_is : (m : Machine) (e : Entry) (a : TakeError) → IsTakeCause m e a → a ≡ take_error (take_refusal m e)
take_cause_is m e a h = one_take_cause m e a (take_error (take_refusal m e)) h (take_caused m e)

-- ---- what is placed

no_ask_error : (o : Option AskRefusal) → ask_error o ≡ fault.Memory → o ≡ None
no_ask_error None e = refl
no_ask_error (Some ask.Closed) e = absurd (cc)
no_ask_error (Some (ask.BadBase want got)) e = absurd (cc)
no_ask_error (Some (ask.Blank place)) e = absurd (cc)

no_take_error : (o : Option TakeRefusal) → take_error o ≡ error.Memory → o ≡ None
no_take_error None e = refl
no_take_error (Some take.Gone) e = absurd (cc)
no_take_error (Some (take.BadPlace want got)) e = absurd (cc)
no_take_error (Some (take.NotSent at)) e = absurd (cc)
no_take_error (Some (take.BadBase want got)) e = absurd (cc)

none_is : {R : Type 0} (o : Option R) → is_none o ≡ true → o ≡ None
none_is None e = refl
none_is (Some r) e = absurd (cc)

send_is : (n : Next) → sends n ≡ true → IsSend n
send_is (next.Send num c) e = tt
send_is next.NotYet e = absurd (cc)
send_is next.Done e = absurd (cc)

is_send : (n : Next) → IsSend n → sends n ≡ true
is_send (next.Send num c) s = refl
is_send next.NotYet s = absurd s
is_send next.Done s = absurd s

not_true : (b : Bool) → not b ≡ true → b ≡ false
not_true true e = absurd (cc)
not_true false e = refl

-- an act that the function places can be placed
pub placed_can : (m : Machine) (a : Act) → accepts m a ≡ true → CanAct m a
placed_can m (act.Typed op) e = rw (none_is (type_refusal m op) e) at (type_caused m op)
placed_can m (act.Eval place) e = rw (none_is (eval_refusal m place) e) at (eval_caused m place)
placed_can m (act.Reset text) e = rw (none_is (reset_refusal m) e) at (reset_caused m text)
placed_can m (act.Take e) is = rw (none_is (take_refusal m e) is) at (take_caused m e)
placed_can m act.Next e = send_is (next_of m) e
placed_can m act.Finish e = not_true m.finishing e
placed_can m act.Halt e = not_true m.halted e

-- an act that can be placed is placed by the function
pub can_placed : (m : Machine) (a : Act) → CanAct m a → accepts m a ≡ true
can_placed m (act.Typed op) can = ap is_none (no_ask_error (type_refusal m op) (sym (type_cause_is m op fault.Memory can)))
can_placed m (act.Eval place) can = ap is_none (no_ask_error (eval_refusal m place) (sym (eval_cause_is m place fault.Memory can)))
can_placed m (act.Reset text) can = ap is_none (no_ask_error (reset_refusal m) (sym (reset_cause_is m text fault.Memory can)))
can_placed m (act.Take e) can = ap is_none (no_take_error (take_refusal m e) (sym (take_cause_is m e error.Memory can)))
can_placed m act.Next can = is_send (next_of m) can
can_placed m act.Finish can = ap not can
can_placed m act.Halt can = ap not can

-- memory is wanted for an entry only where it would be placed
pub take_wanting : (m : Machine) (e : Entry) (given : Result (Option Block) TakeError) → IfErr given (IsTakeCause m e) → given ≡ Err error.Memory
    → accepts m (act.Take e) ≡ true
take_wanting m e given cause is =
    can_placed m (act.Take e) (subst (λ (r : Result (Option Block) TakeError). IfErr r (IsTakeCause m e)) is cause)

-- a fact that holds anyway holds of an error
pub on_err : {T E P : Type 0} (r : Result T E) → P → OnErr r P
on_err (Ok x) p = tt
on_err (Err e) p = p

-- ---- what a play answers and leaves

-- a play that gave this: its answer, and the stage then
pub record Plays (seat : ℕ) (a : Act) (old new : Staged) (answer : ActReply) : Type 0 where
  pub reply : answer ≡ reply_of (machine old) a
  pub acts : new ≡ stage_after seat a old

placed_played : (seat : ℕ) (a : Act) (old new : Staged) → accepts (machine old) a ≡ true → new ≡ with_act seat a old → new ≡ stage_after seat a old
placed_played seat a old new is e = e ∙ sym (ap (λ (b : Bool). if b then with_act seat a old else old) is)

kept_played : (seat : ℕ) (a : Act) (old new : Staged) → accepts (machine old) a ≡ false → new ≡ old → new ≡ stage_after seat a old
kept_played seat a old new is e = e ∙ sym (ap (λ (b : Bool). if b then with_act seat a old else old) is)

-- an ask: by its refusal as a function, what its call gave, and its answer
ask_plays : (seat : ℕ) (a : Act) (old new : Staged) (f : Result (Unit {0}) AskRefusal → ActReply) (o : Option AskRefusal) (given : Result (Unit {0}) StageError) (r : Result (Unit {0}) AskRefusal)
    → reply_of (machine old) a ≡ f (unless o tt) → accepts (machine old) a ≡ is_none o
    → OnOk given (new ≡ with_act seat a old) → OnOk given (CanAct (machine old) a) → OnErr given (new ≡ old) → IfErr given (λ e. e ≡ ask_error o) → IsAskReply given r
    → Plays seat a old new (f r)
ask_plays seat a old new f o (Ok done) r is_reply is_placed ok can err cause h =
    let yes : accepts (machine old) a ≡ true = can_placed (machine old) a can in
    let none : o ≡ None = none_is o (sym is_placed ∙ yes) in
    record { reply = ap f h ∙ sym (is_reply ∙ ap (λ x. f (unless x tt)) none); acts = placed_played seat a old new yes ok }
ask_plays seat a old new f None (Err fault.Closed) r is_reply is_placed ok can err cause h = absurd (cc)
ask_plays seat a old new f None (Err (fault.BadBase want got)) r is_reply is_placed ok can err cause h = absurd (cc)
ask_plays seat a old new f None (Err (fault.Blank place)) r is_reply is_placed ok can err cause h = absurd (cc)
ask_plays seat a old new f None (Err fault.Memory) r is_reply is_placed ok can err cause h = absurd h
ask_plays seat a old new f (Some x) (Err e) r is_reply is_placed ok can err cause h =
    record { reply = ap f (refused_as x e r cause h) ∙ sym is_reply; acts = kept_played seat a old new is_placed err }
  where
    refused_as : (x : AskRefusal) (e : StageError) (r : Result (Unit {0}) AskRefusal) → e ≡ ask_error (Some x) → IsAskReply (Err e) r → r ≡ Err x
    refused_as ask.Closed fault.Closed r c h = h
    refused_as ask.Closed (fault.BadBase want got) r c h = absurd (cc)
    refused_as ask.Closed (fault.Blank place) r c h = absurd (cc)
    refused_as ask.Closed fault.Memory r c h = absurd h
    refused_as (ask.BadBase w g) fault.Closed r c h = absurd (cc)
    refused_as (ask.BadBase w g) (fault.BadBase want got) r c h = let p : want ≡ w = cc in let q : got ≡ g = cc in h ∙ ap (λ n. Err (ask.BadBase n got)) p ∙ ap (λ n. Err (ask.BadBase w n)) q
    refused_as (ask.BadBase w g) (fault.Blank place) r c h = absurd (cc)
    refused_as (ask.BadBase w g) fault.Memory r c h = absurd h
    refused_as (ask.Blank p) fault.Closed r c h = absurd (cc)
    refused_as (ask.Blank p) (fault.BadBase want got) r c h = absurd (cc)
    refused_as (ask.Blank p) (fault.Blank place) r c h = let q : place ≡ p = cc in h ∙ ap (λ n. Err (ask.Blank n)) q
    refused_as (ask.Blank p) fault.Memory r c h = absurd h

if_err_caused : {T E : Type 0} (given : Result T E) (P Q : E → Type 0) → ((e : E) → P e → Q e) → IfErr given P → IfErr given Q
if_err_caused (Ok x) P Q f h = tt
if_err_caused (Err e) P Q f h = f e h

-- the call of a local edit plays its act
pub type_plays : (seat : ℕ) (op : Change) (old new : Staged) (given : Result (Unit {0}) StageError) (r : Result (Unit {0}) AskRefusal)
    → OnOk given (new ≡ with_act seat (act.Typed op) old) → OnOk given (CanAct (machine old) (act.Typed op)) → OnErr given (new ≡ old) → IfErr given (IsTypeCause (machine old) op) → IsAskReply given r
    → Plays seat (act.Typed op) old new (reply.Typed r)
type_plays seat op old new given r ok can err cause h =
    ask_plays seat (act.Typed op) old new reply.Typed (type_refusal (machine old) op) given r refl refl ok can err (if_err_caused given _ _ (type_cause_is (machine old) op) cause) h

-- the call of an evaluation plays its act
pub eval_plays : (seat place : ℕ) (old new : Staged) (given : Result (Unit {0}) StageError) (r : Result (Unit {0}) AskRefusal)
    → OnOk given (new ≡ with_act seat (act.Eval place) old) → OnOk given (CanAct (machine old) (act.Eval place)) → OnErr given (new ≡ old) → IfErr given (IsEvalCause (machine old) place) → IsAskReply given r
    → Plays seat (act.Eval place) old new (reply.Eval r)
eval_plays seat place old new given r ok can err cause h =
    ask_plays seat (act.Eval place) old new reply.Eval (eval_refusal (machine old) place) given r refl refl ok can err (if_err_caused given _ _ (eval_cause_is (machine old) place) cause) h

-- the call of a reset plays its act
pub reset_plays : (seat : ℕ) (text : List ℕ) (old new : Staged) (given : Result (Unit {0}) StageError) (r : Result (Unit {0}) AskRefusal)
    → OnOk given (new ≡ with_act seat (act.Reset text) old) → OnOk given (CanAct (machine old) (act.Reset text)) → OnErr given (new ≡ old) → IfErr given (IsResetCause (machine old) text) → IsAskReply given r
    → Plays seat (act.Reset text) old new (reply.Reset r)
reset_plays seat text old new given r ok can err cause h =
    ask_plays seat (act.Reset text) old new reply.Reset (reset_refusal (machine old)) given r refl refl ok can err (if_err_caused given _ _ (reset_cause_is (machine old) text) cause) h

entry_plays : (seat : ℕ) (e : Entry) (old new : Staged) (o : Option TakeRefusal) (given : Result (Option Block) TakeError) (r : Result (Option Block) TakeRefusal)
    → take_refusal (machine old) e ≡ o → IfOk given (λ b. b ≡ block_told (machine old).joined e)
    → OnOk given (new ≡ with_act seat (act.Take e) old) → OnOk given (CanAct (machine old) (act.Take e)) → OnErr given (new ≡ old) → IfErr given (λ x. x ≡ take_error o) → IsTakeReply given r
    → Plays seat (act.Take e) old new (reply.Take r)
entry_plays seat e old new o (Ok b) r is_o block ok can err cause h =
    let yes : accepts (machine old) (act.Take e) ≡ true = can_placed (machine old) (act.Take e) can in
    let none : take_refusal (machine old) e ≡ None = none_is (take_refusal (machine old) e) yes in
    record {
      reply = ap reply.Take (h ∙ ap Ok block) ∙ sym (ap (λ x. reply.Take (unless x (block_told (machine old).joined e))) none);
      acts = placed_played seat (act.Take e) old new yes ok;
    }
entry_plays seat e old new None (Err x) r is_o block ok can err cause h = absurd (no_reply x cause h)
  where
    no_reply : (x : TakeError) → x ≡ error.Memory → IsTakeReply (Err x) r → ⊥
    no_reply error.Gone c h = cc
    no_reply (error.BadPlace want got) c h = cc
    no_reply (error.NotSent at) c h = cc
    no_reply (error.BadBase want got) c h = cc
    no_reply error.Memory c h = h
entry_plays seat e old new (Some x) (Err a) r is_o block ok can err cause h =
    record {
      reply = ap reply.Take (refused_as x a r cause h) ∙ sym (ap (λ x. reply.Take (unless x (block_told (machine old).joined e))) is_o);
      acts = kept_played seat (act.Take e) old new (ap is_none is_o) err;
    }
  where
    refused_as : (x : TakeRefusal) (a : TakeError) (r : Result (Option Block) TakeRefusal) → a ≡ take_error (Some x) → IsTakeReply (Err a) r → r ≡ Err x
    refused_as x error.Memory r c h = absurd h
    refused_as take.Gone error.Gone r c h = h
    refused_as take.Gone (error.BadPlace want got) r c h = absurd (cc)
    refused_as take.Gone (error.NotSent at) r c h = absurd (cc)
    refused_as take.Gone (error.BadBase want got) r c h = absurd (cc)
    refused_as (take.BadPlace w g) error.Gone r c h = absurd (cc)
    refused_as (take.BadPlace w g) (error.BadPlace want got) r c h = let p : want ≡ w = cc in let q : got ≡ g = cc in h ∙ ap (λ n. Err (take.BadPlace n got)) p ∙ ap (λ n. Err (take.BadPlace w n)) q
    refused_as (take.BadPlace w g) (error.NotSent at) r c h = absurd (cc)
    refused_as (take.BadPlace w g) (error.BadBase want got) r c h = absurd (cc)
    refused_as (take.NotSent n) error.Gone r c h = absurd (cc)
    refused_as (take.NotSent n) (error.BadPlace want got) r c h = absurd (cc)
    refused_as (take.NotSent n) (error.NotSent at) r c h = let p : at ≡ n = cc in h ∙ ap (λ k. Err (take.NotSent k)) p
    refused_as (take.NotSent n) (error.BadBase want got) r c h = absurd (cc)
    refused_as (take.BadBase w g) error.Gone r c h = absurd (cc)
    refused_as (take.BadBase w g) (error.BadPlace want got) r c h = absurd (cc)
    refused_as (take.BadBase w g) (error.NotSent at) r c h = absurd (cc)
    refused_as (take.BadBase w g) (error.BadBase want got) r c h = let p : want ≡ w = cc in let q : got ≡ g = cc in h ∙ ap (λ n. Err (take.BadBase n got)) p ∙ ap (λ n. Err (take.BadBase w n)) q

-- the call of an entry plays its act
pub take_plays : (seat : ℕ) (e : Entry) (old new : Staged) (given : Result (Option Block) TakeError) (r : Result (Option Block) TakeRefusal)
    → IfOk given (λ b. b ≡ block_told old.joined e)
    → OnOk given (new ≡ with_act seat (act.Take e) old) → OnOk given (CanAct (machine old) (act.Take e)) → OnErr given (new ≡ old) → IfErr given (IsTakeCause (machine old) e) → IsTakeReply given r
    → Plays seat (act.Take e) old new (reply.Take r)
take_plays seat e old new given r block ok can err cause h =
    entry_plays seat e old new (take_refusal (machine old) e) given r refl (subst (λ (n : ℕ). IfOk given (λ b. b ≡ block_told n e)) (sym (machine-joined old)) block) ok can err
    (if_err_caused given _ _ (take_cause_is (machine old) e) cause) h

-- the call of `next` plays its act
pub next_plays : (seat : ℕ) (old new : Staged) (n : Next) → n ≡ next_of (machine old) → new ≡ stage_after_next seat n old → Plays seat act.Next old new (reply.Next n)
next_plays seat old new n is e = record { reply = ap reply.Next is; acts = e ∙ by_next n is }
  where
    by_next : (n : Next) → n ≡ next_of (machine old) → stage_after_next seat n old ≡ stage_after seat act.Next old
    by_next (next.Send num c) is = sym (ap (λ (x : Next). if sends x then with_act seat act.Next old else old) (sym is))
    by_next next.NotYet is = sym (ap (λ (x : Next). if sends x then with_act seat act.Next old else old) (sym is))
    by_next next.Done is = sym (ap (λ (x : Next). if sends x then with_act seat act.Next old else old) (sym is))

-- the call of `finish` plays its act
pub finish_plays : (seat : ℕ) (old new : Staged) (b : Bool) → (machine old).finishing ≡ b → (b ≡ false → new ≡ with_act seat act.Finish old) → (b ≡ true → new ≡ old) → Plays seat act.Finish old new reply.Finish
finish_plays seat old new true is first again = record { reply = refl; acts = kept_played seat act.Finish old new (ap not is) (again refl) }
finish_plays seat old new false is first again = record { reply = refl; acts = placed_played seat act.Finish old new (ap not is) (first refl) }

-- the call of `halt` plays its act
pub halt_plays : (seat : ℕ) (old new : Staged) (b : Bool) → (machine old).halted ≡ b → (b ≡ false → new ≡ with_act seat act.Halt old) → (b ≡ true → new ≡ old) → Plays seat act.Halt old new reply.Halt
halt_plays seat old new true is first again = record { reply = refl; acts = kept_played seat act.Halt old new (ap not is) (again refl) }
halt_plays seat old new false is first again = record { reply = refl; acts = placed_played seat act.Halt old new (ap not is) (first refl) }

-- ---- the room that a play leaves

left_within : (b : Bool) (o n : ℕ) → o ≤ n → (if b then o - 1 else o) ≤ n
left_within true o n more = omega arith
left_within false o n more = more

-- room that didn't shrink is enough
pub kept_spare : (a : Act) (m : Machine) (o n : ℕ) → o ≤ n → spare_left a m o ≤ n
kept_spare a m o n more = left_within (accepts m a && not (is_free a)) o n more

placed_spare : (a : Act) (m : Machine) (o n : ℕ) → is_free a ≡ false → CanAct m a → n ≡ o - 1 → spare_left a m o ≤ n
placed_spare a m o n paid can used =
    let yes : (accepts m a && not (is_free a)) ≡ true = ap (λ b. b && not (is_free a)) (can_placed m a can) ∙ ap not paid in
    subst (λ (b : Bool). (if b then o - 1 else o) ≤ n) (sym yes) (omega (arith, used))

-- a call uses up no more room than its act
pub call_spare : {T E : Type 0} (a : Act) (m : Machine) (o n : ℕ) (given : Result T E) → is_free a ≡ false → OnOk given (CanAct m a) → OnOk given (n ≡ o - 1)
    → OnErr given (o ≤ n) → spare_left a m o ≤ n
call_spare a m o n (Ok x) paid can used more = placed_spare a m o n paid can used
call_spare a m o n (Err e) paid can used more = kept_spare a m o n more

-- `next` uses up no more room than its act, and none where nothing goes out
pub next_spare : (m : Machine) (o n : ℕ) (x : Next) → x ≡ next_of m → (IsSend x → n ≡ o - 1) → (IsQuiet x → n ≡ o) → spare_left act.Next m o ≤ n
next_spare m o n (next.Send num c) is used same = placed_spare act.Next m o n refl (subst (λ (x : Next). IsSend x) is tt) (used tt)
next_spare m o n next.NotYet is used same = kept_spare act.Next m o n (omega (arith, same tt))
next_spare m o n next.Done is used same = kept_spare act.Next m o n (omega (arith, same tt))
