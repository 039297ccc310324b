-- The blocks of the entries that a run took have rising places.
use Rattle.std.proofs.Common.{◌≡◌, ℕ, suc, ◌+◌, ◌<◌, ◌≤◌, Bool, true, false, if◌then◌else◌, List, [], ◌∷◌, ◌++◌, length, Option, None, Some, sym, ap, ◌∙◌, subst, refl, length-append, arith}
use Rattle.std.specs.Prelude.{nat_lt}
use Rattle.seat_lock.specs.Lists.{Begins}
use Rattle.troop_entry.specs.declared.block.Block.{Block}
use Rattle.troop_entry.specs.declared.call.Call.{Call}
use Rattle.troop_entry.specs.declared.entry.Entry.{Entry}
use Rattle.troop_entry.specs.declared.entry.Deed.{Deed}
use Rattle.troop_entry.specs.declared.entry.Deed.TheVariants as deed
use Rattle.troop_entry.specs.Told.{block_of_deed, is_edit_of}
use Rattle.child_driver.specs.Lives.{IsRising, AreAbove}
use Rattle.stage_state.specs.declared.act.Act.{Act}
use Rattle.stage_state.specs.declared.act.Act.TheVariants as act
use Rattle.stage_state.specs.declared.played.Origin.{Origin}
use Rattle.stage_state.specs.Machine.{Machine, taken_count, after_act, after_own_edit, after_other_entry, after_sending, CanAct, IsPlayed}
use Rattle.stage_state.specs.Origins.{machine_at, ArePlayed}
use Rattle.stage_state.specs.Staged.{acts_of}
use Rattle.activities.specs.Memory.{PlacedAct}
use Rattle.activities.specs.Down.{and_block, blocks_of}
use Rattle.performer.specs.Joined.{picked, entry_in}

-- the entries stand one behind the other, from this position on
abbrev AtFrom : ℕ → List Entry → Type 0
AtFrom n [] = Unit {0}
AtFrom n (e ∷ es) = (e.at ≡ n) × AtFrom (suc n) es

send_taken : (calls : List Call) (m : Machine) → taken_count (after_sending calls m) ≡ taken_count m
send_taken [] m = refl
send_taken (c ∷ calls) m = refl

one_taken : (b : Bool) (e : Entry) (m : Machine) → taken_count (if b then after_own_edit e m else after_other_entry e m) ≡ suc (taken_count m)
one_taken true e m = omega (arith, length-append m.entries (e ∷ []))
one_taken false e m = omega (arith, length-append m.entries (e ∷ []))

act_places : (a : Act) (acts : List PlacedAct) (m : Machine) → CanAct m a → AtFrom (taken_count (after_act a m)) (picked entry_in acts) → AtFrom (taken_count m) (entry_in a ++ picked entry_in acts)
act_places (act.Typed op) acts m can rest = rest
act_places (act.Eval place) acts m can rest = rest
act_places (act.Reset text) acts m can rest = rest
act_places (act.Take e) acts m can rest = (can.1.place, subst (λ n. AtFrom n (picked entry_in acts)) (one_taken (is_edit_of m.own e) e m) rest)
act_places act.Next acts m can rest = subst (λ n. AtFrom n (picked entry_in acts)) (send_taken m.outgoing m) rest
act_places act.Finish acts m can rest = rest
act_places act.Halt acts m can rest = rest

run_places : (acts : List PlacedAct) (m : Machine) → IsPlayed m (acts_of acts) → AtFrom (taken_count m) (picked entry_in acts)
run_places [] m played = tt
run_places (r ∷ acts) m played = act_places r.1 acts m played.0 (run_places acts (after_act r.1 m) played.1)

-- each block's place is this or greater
abbrev AreFrom : ℕ → List Block → Type 0
AreFrom n [] = Unit {0}
AreFrom n (b ∷ bs) = (n ≤ b.place) × AreFrom n bs

from_less : (bs : List Block) (n k : ℕ) → k ≤ n → AreFrom n bs → AreFrom k bs
from_less [] n k le h = tt
from_less (b ∷ bs) n k le h = (omega (arith, h.0), from_less bs n k le h.1)

above_from : (bs : List Block) (p n : ℕ) → p ≡ n → AreFrom (suc n) bs → AreAbove p bs
above_from [] p n is h = tt
above_from (b ∷ bs) p n is h = (omega (arith, is, h.0), above_from bs p n is h.1)

abbrev RisesFrom : ℕ → List Block → Type 0
RisesFrom n bs = IsRising bs × AreFrom n bs

rises_less : (bs : List Block) (n : ℕ) → RisesFrom (suc n) bs → RisesFrom n bs
rises_less bs n h = (h.0, from_less bs (suc n) n (omega arith) h.1)

behind_join : (b : Bool) (at : ℕ) (text : List ℕ) (bs : List Block) (n : ℕ) → at ≡ n → RisesFrom (suc n) bs
    → RisesFrom n (and_block (if b then Some (record { place = at; text = text }) else None) bs)
behind_join true at text bs n is h = ((above_from bs at n is h.1, h.0), (omega (arith, is), (rises_less bs n h).1))
behind_join false at text bs n is h = rises_less bs n h

deed_rises : (joined : ℕ) (d : Deed) (at : ℕ) (bs : List Block) (n : ℕ) → at ≡ n → RisesFrom (suc n) bs → RisesFrom n (and_block (block_of_deed joined at d) bs)
deed_rises joined (deed.Join name lang) at bs n is h = rises_less bs n h
deed_rises joined deed.Leave at bs n is h = rises_less bs n h
deed_rises joined (deed.Edit op) at bs n is h = rises_less bs n h
deed_rises joined (deed.Eval text) at bs n is h = behind_join (nat_lt joined at) at text bs n is h
deed_rises joined (deed.Reset op) at bs n is h = rises_less bs n h

rises : (joined : ℕ) (es : List Entry) (n : ℕ) → AtFrom n es → RisesFrom n (blocks_of joined es)
rises joined [] n at = (tt, tt)
rises joined (e ∷ es) n at = deed_rises joined e.deed e.at (blocks_of joined es) n at.0 (rises joined es (suc n) at.1)

above_first : (p : ℕ) (xs ys : List Block) → AreAbove p (xs ++ ys) → AreAbove p xs
above_first p [] ys h = tt
above_first p (x ∷ xs) ys h = (h.0, above_first p xs ys h.1)

first_rises : (xs ys : List Block) → IsRising (xs ++ ys) → IsRising xs
first_rises [] ys h = tt
first_rises (x ∷ xs) ys h = (above_first x.place xs ys h.0, first_rises xs ys h.1)

-- the blocks of a run, and so the first of them, have rising places
pub run_rises : (o : Origin) (acts : List PlacedAct) (entries : List Entry) (fed : List Block) → ArePlayed o acts → picked entry_in acts ≡ entries → Begins fed (blocks_of o.joined entries)
    → IsRising fed
run_rises o acts entries fed run is first =
    let at : AtFrom (taken_count (machine_at o [])) entries = subst (AtFrom (taken_count (machine_at o []))) is (run_places acts (machine_at o []) run) in
    first_rises fed first.0 (subst (λ (l : List Block). IsRising l) (sym first.1) (rises o.joined entries (taken_count (machine_at o [])) at).0)
