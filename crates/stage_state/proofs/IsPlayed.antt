-- Played lists: one act more, a front, and what is pending then.
use Rattle.std.proofs.Common.{ℕ, Bool, true, false, if◌then◌else◌, List, [], ◌∷◌, ◌++◌, length, sym, subst}
use Rattle.ot_text.specs.Marked.{Marked}
use Rattle.troop_entry.specs.declared.call.Call.{Call}
use Rattle.troop_entry.specs.declared.entry.Entry.{Entry}
use Rattle.troop_entry.specs.Told.{op_told, is_edit_of}
use Rattle.client_state.specs.Pending.{after_own, after_told}
use Rattle.client_state.specs.Standing.{FitsOn}
use Rattle.client_state.specs.Causes.{EntryFits}
use Rattle.client_state.proofs.FitsOn.{typed_bases, told_bases, own_bases, fits_front}
use Rattle.stage_state.specs.declared.act.Act.{Act}
use Rattle.stage_state.specs.declared.act.Act.TheVariants as act
use Rattle.stage_state.specs.Machine.{Machine, machine_from, document, standing, after_own_edit, after_other_entry, after_sending, after_act, after_acts, CanAct, IsPlayed}
use Rattle.stage_state.specs.Staged.{Staged, acts_of, first_machine, machine, with_act, IsStagePlayed}
use Rattle.stage_state.proofs.Machine.{acts_of-one_more, doc_told-one_more}

-- placed acts with one more that can be placed
pub stage_after-one_more : (acts : List Act) (a : Act) (m : Machine) → IsPlayed m acts → CanAct (after_acts acts m) a → IsPlayed m (acts ++ a ∷ [])
stage_after-one_more [] a m played can = (can, tt)
stage_after-one_more (b ∷ acts) a m played can = (played.0, stage_after-one_more acts a (after_act b m) played.1 can)

-- of a stage
pub stage_placed : (seat : ℕ) (a : Act) (s : Staged) → IsStagePlayed s → CanAct (machine s) a → IsStagePlayed (with_act seat a s)
stage_placed seat a s played can = rw (acts_of-one_more s.acts seat a) (stage_after-one_more (acts_of s.acts) a (first_machine s) played can)

-- a front of placed acts is placed, and the rest behind it
pub played_front : (xs ys : List Act) (m : Machine) → IsPlayed m (xs ++ ys) → IsPlayed m xs × IsPlayed (after_acts xs m) ys
played_front [] ys m played = (tt, played)
played_front (a ∷ xs) ys m played = let rest = played_front xs ys (after_act a m) played.1 in ((played.0, rest.0), rest.1)

-- what is pending fits the document
abbrev pub PendingFits : Machine → Type 0
PendingFits m = FitsOn m.pending (length (document m))

taken_fits : (b : Bool) (m : Machine) (e : Entry) → EntryFits b (standing m) e → PendingFits m → PendingFits (if b then after_own_edit e m else after_other_entry e m)
taken_fits true m e fits f =
    subst (λ (d : Marked). FitsOn (after_own m.pending) (length d)) (sym (doc_told-one_more m.text m.entries e))
    (own_bases e.who m.pending (op_told e.deed) (document m) fits f)
taken_fits false m e fits f =
    subst (λ (d : Marked). FitsOn (after_told m.pending (op_told e.deed)) (length d)) (sym (doc_told-one_more m.text m.entries e))
    (told_bases e.who m.pending (op_told e.deed) (document m) f (fits_front m.own m.pending (op_told e.deed) (document m) f fits))

sent_fits : (calls : List Call) (m : Machine) → PendingFits m → PendingFits (after_sending calls m)
sent_fits [] m f = f
sent_fits (c ∷ calls) m f = f

act_fits : (a : Act) (m : Machine) → CanAct m a → PendingFits m → PendingFits (after_act a m)
act_fits (act.Typed op) m can f = typed_bases m.own m.pending op (document m) can.1 f
act_fits (act.Eval place) m can f = f
act_fits (act.Reset text) m can f = f
act_fits (act.Take e) m can f = taken_fits (is_edit_of m.own e) m e can.1.fits f
act_fits act.Next m can f = sent_fits m.outgoing m f
act_fits act.Finish m can f = f
act_fits act.Halt m can f = f

-- placed acts keep the unconfirmed operations fitting the document
pub acts_fit : (acts : List Act) (m : Machine) → IsPlayed m acts → PendingFits m → PendingFits (after_acts acts m)
acts_fit [] m played f = f
acts_fit (a ∷ acts) m played f = acts_fit acts (after_act a m) played.1 (act_fits a m played.0 f)

-- from a start on, the unconfirmed operations fit the document
pub run_fits : (own joined start : ℕ) (text : Marked) (acts : List Act) → IsPlayed (machine_from own joined start text) acts → PendingFits (after_acts acts (machine_from own joined start text))
run_fits own joined start text acts played = acts_fit acts (machine_from own joined start text) played tt
