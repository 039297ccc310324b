-- What each step of a script is told, and what it does to a world.
use Rattle.std.specs.Prelude.{ℕ, ◌+◌, List, [], ◌∷◌, ◌++◌, length, Bool, true, false, Option, None, Some, slice_get, if◌then◌else◌}
use Rattle.std.specs.Str.{encode_utf8_all}
use Rattle.troop_entry.specs.declared.block.Block.{Block}
use Rattle.troop_entry.specs.declared.call.Call.TheVariants as call
use Rattle.troop_entry.specs.declared.call.Lang.{Lang}
use Rattle.troop_entry.specs.declared.entry.Entry.{Entry}
use Rattle.troop_entry.specs.declared.reply.Reply.{Reply}
use Rattle.troop_entry.specs.declared.reply.Reply.TheVariants as reply
use Rattle.troop_entry.specs.declared.row.Row.{Row}
use Rattle.troop_entry.specs.Told.{block_told}
use Rattle.log_model.specs.Answers.{answer, log_after}
use Rattle.log_model.specs.Log.{doc, entries, join_count}
use Rattle.stage_state.specs.declared.act.Act.{Act}
use Rattle.stage_state.specs.declared.act.Act.TheVariants as act
use Rattle.stage_state.specs.declared.act.Next.{Next}
use Rattle.stage_state.specs.declared.act.Next.TheVariants as next
use Rattle.stage_state.specs.declared.reply.AskRefusal.{AskRefusal}
use Rattle.stage_state.specs.declared.reply.AskRefusal.TheVariants as ask
use Rattle.stage_state.specs.Machine.{Machine, next_of, taken_count}
use Rattle.stage_state.specs.Replies.{type_refusal, eval_refusal, reset_refusal, stage_after}
use Rattle.stage_state.specs.Staged.{Staged, machine, new_stage, stage_at, with_act}
use Rattle.wire_json.specs.declared.steps.Step.{Step}
use Rattle.wire_json.specs.declared.steps.Step.TheVariants as step
use Rattle.world_core.specs.declared.told.Told.{Told}
use Rattle.world_core.specs.declared.told.Told.TheVariants as told
use Rattle.world_core.specs.States.{InterpreterState, PerformerState, WorldState, performer_with, with_performer, with_block, last_row}
use Rattle.world_core.specs.Feeding.{after_block, taking, refusing}

-- ---- what a step is told

-- by a reply of the log: done where the call was placed
abbrev pub told_by_reply : Reply → Told
told_by_reply (reply.Placed at who) = told.Done
told_by_reply (reply.Kept at who) = told.Refused (reply.Kept at who)
told_by_reply (reply.Clash num at) = told.Refused (reply.Clash num at)
told_by_reply (reply.NotMember who) = told.Refused (reply.NotMember who)
told_by_reply (reply.Ahead seen n) = told.Refused (reply.Ahead seen n)
told_by_reply (reply.BadBase want got) = told.Refused (reply.BadBase want got)
told_by_reply (reply.Crowded joins) = told.Refused (reply.Crowded joins)

-- by a stage that refuses what it is asked, if it does; one that is closed makes the step unfit
abbrev pub told_by_refusal : Option AskRefusal → Told
told_by_refusal None = told.Done
told_by_refusal (Some ask.Closed) = told.Unfit
told_by_refusal (Some (ask.BadBase want got)) = told.Base want got
told_by_refusal (Some (ask.Blank place)) = told.Blank place

-- by what goes out next: unfit where nothing does
abbrev pub told_by_next : Next → Told
told_by_next (next.Send num c) = told.Done
told_by_next next.NotYet = told.Unfit
told_by_next next.Done = told.Unfit

-- done where there is such a thing, and else unfit
abbrev pub told_by_some : {A : Type 0} → Option A → Told
told_by_some None = told.Unfit
told_by_some (Some x) = told.Done

-- by the performer that there is, and unfit where there is none
abbrev pub told_if_here : (PerformerState → Told) → Option PerformerState → Told
told_if_here tell None = told.Unfit
told_if_here tell (Some p) = tell p

-- a call by this number: unfit where it is a performer's that is here
abbrev pub told_unless_here : Option PerformerState → Told → Told
told_unless_here None t = t
told_unless_here (Some p) t = told.Unfit

-- whether the step was done
abbrev pub is_done : Told → Bool
is_done told.Done = true
is_done told.Unfit = false
is_done (told.Refused r) = false
is_done (told.Base want got) = false
is_done (told.Blank place) = false
is_done told.Show = false

-- the entry that the performer takes next, unless it is gone or has taken all
abbrev pub next_entry : List Row → Machine → Option Entry
next_entry log m = if m.gone then None else slice_get (entries log) (taken_count m)

-- what a performer tells of a step that it takes by itself, whatever the log is
abbrev pub told_alone : Step → PerformerState → Told
told_alone (step.Edit who op) p = told_by_refusal (type_refusal (machine p.staged) op)
told_alone (step.Eval who place) p = told_by_refusal (eval_refusal (machine p.staged) place)
told_alone (step.Reset who text) p = told_by_refusal (reset_refusal (machine p.staged))
told_alone (step.Feed who bytes) p = told_by_some (slice_get p.waiting 0)
told_alone (step.Deaf who starts) p = told.Done
told_alone (step.Leave who) p = told.Done
told_alone _ p = told.Unfit

-- what a step is told
abbrev pub told_of : Step → WorldState → Told
told_of (step.Guest name lang) w = told_by_reply (answer w.log 0 0 (call.Join name lang))
told_of (step.Call who num c) w = told_unless_here (performer_with who w.performers) (told_by_reply (answer w.log who num c))
told_of (step.Join name lang boot) w = told_by_reply (answer w.log 0 0 (call.Join name lang))
told_of (step.SnapJoin name lang boot) w = told_by_reply (answer w.log 0 0 (call.Join name lang))
told_of (step.Serve who) w = told_if_here (λ p. told_by_next (next_of (machine p.staged))) (performer_with who w.performers)
told_of (step.Take who) w = told_if_here (λ p. told_by_some (next_entry w.log (machine p.staged))) (performer_with who w.performers)
told_of (step.Again who) w = told_if_here (λ p. told_by_some (last_row w.log p.staged)) (performer_with who w.performers)
told_of (step.Edit who op) w = told_if_here (told_alone (step.Edit who op)) (performer_with who w.performers)
told_of (step.Eval who place) w = told_if_here (told_alone (step.Eval who place)) (performer_with who w.performers)
told_of (step.Reset who text) w = told_if_here (told_alone (step.Reset who text)) (performer_with who w.performers)
told_of (step.Feed who bytes) w = told_if_here (told_alone (step.Feed who bytes)) (performer_with who w.performers)
told_of (step.Deaf who starts) w = told_if_here (told_alone (step.Deaf who starts)) (performer_with who w.performers)
told_of (step.Leave who) w = told_if_here (told_alone (step.Leave who)) (performer_with who w.performers)
told_of step.Show w = told.Show

-- ---- what a step does, where it is done

-- the performer after an act of its own
abbrev pub after_own_act : Act → PerformerState → PerformerState
after_own_act a p = record p { staged = stage_after 0 a p.staged }

-- the performer that takes this entry, if there is one; a block that it is joins those that wait
abbrev pub after_next_entry : Option Entry → PerformerState → PerformerState
after_next_entry None p = p
after_next_entry (Some e) p = record p { staged = with_act 0 (act.Take e) p.staged; waiting = p.waiting ++ with_block (block_told p.staged.joined e) [] }

-- the performer whose interpreter is fed the first of these blocks, which are those that wait
abbrev pub after_feed : List Block → Option ℕ → PerformerState → PerformerState
after_feed [] bytes p = p
after_feed (block ∷ blocks) bytes p = record p { waiting = blocks; interpreter = after_block block (taking bytes p.interpreter) }

-- the performer after a step that it takes by itself
abbrev pub after_alone : Step → PerformerState → PerformerState
after_alone (step.Edit who op) p = after_own_act (act.Typed op) p
after_alone (step.Eval who place) p = after_own_act (act.Eval place) p
after_alone (step.Reset who text) p = after_own_act (act.Reset text) p
after_alone (step.Feed who bytes) p = after_feed p.waiting bytes p
after_alone (step.Deaf who starts) p = record p { interpreter = refusing starts p.interpreter }
after_alone (step.Leave who) p = after_own_act act.Finish p
after_alone _ p = p

-- an interpreter that was given nothing, and that takes all
abbrev pub new_interpreter : Lang → List ℕ → InterpreterState
new_interpreter lang boot = record {
  lang = lang;
  boot = boot;
  notes = [];
  lives = [];
  pipe = record { life = None; starts = record { refusals = 0; limit = None } };
  faults = 0;
}

-- the world with a performer of this name and this stage, whose interpreter gets the boot text in UTF-8
abbrev pub with_new : List ℕ → Lang → List ℕ → Staged → List Row → WorldState → WorldState
with_new name lang boot staged log w = record {
  log = log;
  performers = w.performers ++ record { name = name; staged = staged; waiting = []; interpreter = new_interpreter lang (encode_utf8_all boot) } ∷ [];
}

-- the world after what goes out of this performer's stage, which the log is asked under its number
abbrev pub after_next_call : ℕ → Next → WorldState → WorldState
after_next_call who (next.Send num c) w = record { log = log_after w.log 0 who num c; performers = with_performer who (after_own_act act.Next) w.performers }
after_next_call who next.NotYet w = w
after_next_call who next.Done w = w

-- what goes out of the performer's stage next, if there is such a performer
abbrev pub next_call : Option PerformerState → Next
next_call None = next.NotYet
next_call (Some p) = next_of (machine p.staged)

-- the world after a step that its performer takes by itself
abbrev pub moved_alone : ℕ → Step → WorldState → WorldState
moved_alone who s w = record w { performers = with_performer who (after_alone s) w.performers }

-- the world after a step that is done. All calls come through seat 0. A call asked again changes nothing.
abbrev pub moved : Step → WorldState → WorldState
moved (step.Guest name lang) w = record w { log = log_after w.log 0 0 0 (call.Join name lang) }
moved (step.Call who num c) w = record w { log = log_after w.log 0 who num c }
moved (step.Join name lang boot) w =
    with_new name lang boot (new_stage (join_count w.log + 1) (length w.log)) (log_after w.log 0 0 0 (call.Join name lang)) w
moved (step.SnapJoin name lang boot) w =
    with_new name lang boot (stage_at (join_count w.log + 1) (length w.log) (doc (log_after w.log 0 0 0 (call.Join name lang))))
    (log_after w.log 0 0 0 (call.Join name lang)) w
moved (step.Serve who) w = after_next_call who (next_call (performer_with who w.performers)) w
moved (step.Take who) w = record w { performers = with_performer who (λ p. after_next_entry (next_entry w.log (machine p.staged)) p) w.performers }
moved (step.Again who) w = w
moved (step.Edit who op) w = moved_alone who (step.Edit who op) w
moved (step.Eval who place) w = moved_alone who (step.Eval who place) w
moved (step.Reset who text) w = moved_alone who (step.Reset who text) w
moved (step.Feed who bytes) w = moved_alone who (step.Feed who bytes) w
moved (step.Deaf who starts) w = moved_alone who (step.Deaf who starts) w
moved (step.Leave who) w = moved_alone who (step.Leave who) w
moved step.Show w = w

-- the world after a step: whatever else it is told than `Done`, nothing changes
abbrev pub world_after : Step → WorldState → WorldState
world_after s w = if is_done (told_of s w) then moved s w else w
