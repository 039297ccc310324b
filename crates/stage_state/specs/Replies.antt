-- What a stage answers to an act, and whether it places it, as functions.
use Rattle.std.specs.Prelude.{◌≡◌, ℕ, Bool, true, false, if◌then◌else◌, ◌==◌, ◌-◌, ◌&&◌, not, is_none, Option, None, Some, Result, Ok, Err, List, length}
use Rattle.ot_text.specs.Change.{Change, base}
use Rattle.troop_entry.specs.declared.block.Block.{Block}
use Rattle.troop_entry.specs.declared.entry.Entry.{Entry}
use Rattle.ot_text.specs.Same.{same_op}
use Rattle.troop_entry.specs.Told.{op_told, is_edit_of, block_told}
use Rattle.client_state.specs.Pending.{outstanding, other_base}
use Rattle.stage_state.specs.declared.act.Act.{Act}
use Rattle.stage_state.specs.declared.act.Act.TheVariants as act
use Rattle.stage_state.specs.declared.act.Next.{Next}
use Rattle.stage_state.specs.declared.act.Next.TheVariants as next
use Rattle.stage_state.specs.declared.reply.AskRefusal.{AskRefusal}
use Rattle.stage_state.specs.declared.reply.AskRefusal.TheVariants as ask
use Rattle.stage_state.specs.declared.reply.TakeRefusal.{TakeRefusal}
use Rattle.stage_state.specs.declared.reply.TakeRefusal.TheVariants as take
use Rattle.stage_state.specs.declared.reply.ActReply.{ActReply}
use Rattle.stage_state.specs.declared.reply.ActReply.TheVariants as reply
use Rattle.stage_state.specs.declared.errors.StageError.{StageError}
use Rattle.stage_state.specs.declared.errors.StageError.TheVariants as fault
use Rattle.stage_state.specs.declared.errors.TakeError.{TakeError}
use Rattle.stage_state.specs.declared.errors.TakeError.TheVariants as error
use Rattle.stage_state.specs.Machine.{Machine, taken_count, held_text, is_closed, block_held, next_of}
use Rattle.stage_state.specs.Staged.{Staged, machine, with_act}

-- ---- why an act is refused, if it is

-- the refusal of a local edit
abbrev pub type_refusal : Machine → Change → Option AskRefusal
type_refusal m op =
    if is_closed m then Some ask.Closed
    else (if base op == length (held_text m) then None else Some (ask.BadBase (base op) (length (held_text m))))

-- the refusal at this place, if there is no block
abbrev pub blank_at : ℕ → Option (List ℕ) → Option AskRefusal
blank_at place None = Some (ask.Blank place)
blank_at place (Some text) = None

-- the refusal of an evaluation
abbrev pub eval_refusal : Machine → ℕ → Option AskRefusal
eval_refusal m place = if is_closed m then Some ask.Closed else blank_at place (block_held place m)

-- the refusal of a reset
abbrev pub reset_refusal : Machine → Option AskRefusal
reset_refusal m = if is_closed m then Some ask.Closed else None

-- whether an operation that there may be is the one that was sent
abbrev pub is_sent : Option Change → Option Change → Bool
is_sent None None = true
is_sent None (Some u) = false
is_sent (Some op) None = false
is_sent (Some op) (Some u) = same_op op u

-- the refusal of an operation that doesn't fit n characters
abbrev pub unfit_refusal : Option Change → ℕ → Option TakeRefusal
unfit_refusal None n = None
unfit_refusal (Some op) n = if base op == n then None else Some (take.BadBase (base op) n)

-- the refusal of an entry at its position, by whether it is an edit by the stage's own performer
abbrev pub entry_refusal : Bool → Machine → Entry → Option TakeRefusal
entry_refusal true m e = if is_sent (op_told e.deed) (outstanding m.pending) then None else Some (take.NotSent e.at)
entry_refusal false m e = unfit_refusal (op_told e.deed) (other_base m.pending (length (held_text m)))

-- the refusal of an entry: the performer is gone, the entry is at another position, or doesn't fit
abbrev pub take_refusal : Machine → Entry → Option TakeRefusal
take_refusal m e =
    if m.gone then Some take.Gone
    else (if e.at == taken_count m then entry_refusal (is_edit_of m.own e) m e else Some (take.BadPlace (taken_count m) e.at))

-- ---- the answer

-- done, unless it is refused
abbrev pub unless : {R T : Type 0} → Option R → T → Result T R
unless None done = Ok done
unless (Some refusal) done = Err refusal

-- the answer to an act
abbrev pub reply_of : Machine → Act → ActReply
reply_of m (act.Typed op) = reply.Typed (unless (type_refusal m op) tt)
reply_of m (act.Eval place) = reply.Eval (unless (eval_refusal m place) tt)
reply_of m (act.Reset text) = reply.Reset (unless (reset_refusal m) tt)
reply_of m (act.Take e) = reply.Take (unless (take_refusal m e) (block_told m.joined e))
reply_of m act.Next = reply.Next (next_of m)
reply_of m act.Finish = reply.Finish
reply_of m act.Halt = reply.Halt

-- whether something goes out
abbrev pub sends : Next → Bool
sends (next.Send num c) = true
sends next.NotYet = false
sends next.Done = false

-- whether the act is placed
abbrev pub accepts : Machine → Act → Bool
accepts m (act.Typed op) = is_none (type_refusal m op)
accepts m (act.Eval place) = is_none (eval_refusal m place)
accepts m (act.Reset text) = is_none (reset_refusal m)
accepts m (act.Take e) = is_none (take_refusal m e)
accepts m act.Next = sends (next_of m)
accepts m act.Finish = not m.finishing
accepts m act.Halt = not m.halted

-- the stage after an act: a placed one joins its acts
abbrev pub stage_after : ℕ → Act → Staged → Staged
stage_after seat a s = if accepts (machine s) a then with_act seat a s else s

-- ---- the error that a refusal is, and want of memory where there is none

-- the error of an ask
abbrev pub ask_error : Option AskRefusal → StageError
ask_error None = fault.Memory
ask_error (Some ask.Closed) = fault.Closed
ask_error (Some (ask.BadBase want got)) = fault.BadBase want got
ask_error (Some (ask.Blank place)) = fault.Blank place

-- the error of an entry
abbrev pub take_error : Option TakeRefusal → TakeError
take_error None = error.Memory
take_error (Some take.Gone) = error.Gone
take_error (Some (take.BadPlace want got)) = error.BadPlace want got
take_error (Some (take.NotSent at)) = error.NotSent at
take_error (Some (take.BadBase want got)) = error.BadBase want got

-- whether the play of an act takes no memory
abbrev pub is_free : Act → Bool
is_free (act.Typed op) = false
is_free (act.Eval place) = false
is_free (act.Reset text) = false
is_free (act.Take e) = false
is_free act.Next = false
is_free act.Finish = true
is_free act.Halt = true

-- the room that a play leaves, at least: it uses up that for one act only where it places an act that may take memory
abbrev pub spare_left : Act → Machine → ℕ → ℕ
spare_left a m spare = if accepts m a && not (is_free a) then spare - 1 else spare

-- the answer to an ask whose call gave this, where it gave no want of memory
abbrev pub IsAskReply : Result (Unit {0}) StageError → Result (Unit {0}) AskRefusal → Type 0
IsAskReply (Ok done) r = r ≡ Ok done
IsAskReply (Err fault.Closed) r = r ≡ Err ask.Closed
IsAskReply (Err (fault.BadBase want got)) r = r ≡ Err (ask.BadBase want got)
IsAskReply (Err (fault.Blank place)) r = r ≡ Err (ask.Blank place)
IsAskReply (Err fault.Memory) r = ⊥

-- the answer to an entry whose call gave this, where it gave no want of memory
abbrev pub IsTakeReply : Result (Option Block) TakeError → Result (Option Block) TakeRefusal → Type 0
IsTakeReply (Ok block) r = r ≡ Ok block
IsTakeReply (Err error.Gone) r = r ≡ Err take.Gone
IsTakeReply (Err (error.BadPlace want got)) r = r ≡ Err (take.BadPlace want got)
IsTakeReply (Err (error.NotSent at)) r = r ≡ Err (take.NotSent at)
IsTakeReply (Err (error.BadBase want got)) r = r ≡ Err (take.BadBase want got)
IsTakeReply (Err error.Memory) r = ⊥
