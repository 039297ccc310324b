-- A performer keeps its part of a sound world.
use Rattle.std.proofs.Common.{◌≡◌, ℕ, suc, Bool, true, false, None, Some, List, [], ◌∷◌, ◌++◌, length, drop, slice_get, refl, sym, ap, ◌∙◌, subst, inl, inr, ⊎_elim, arith}
use Rattle.std.proofs.lemmas.List.{append_assoc}
use Rattle.troop_entry.specs.declared.block.Block.{Block}
use Rattle.std.specs.Str.{encode_utf8_all}
use Rattle.troop_entry.specs.declared.call.Lang.{Lang}
use Rattle.pipe_ports.specs.Scripts.{ChildValue, HatchValue}
use Rattle.child_driver.specs.Drivers.{DriverValue}
use Rattle.troop_entry.specs.declared.entry.Entry.{Entry}
use Rattle.troop_entry.specs.Told.{block_told, is_edit_of}
use Rattle.stage_state.specs.declared.act.Act.{Act}
use Rattle.stage_state.specs.declared.act.Act.TheVariants as act
use Rattle.stage_state.specs.Machine.{Machine, after_act, taken_count}
use Rattle.stage_state.specs.Staged.{Staged, machine, with_act}
use Rattle.stage_state.proofs.Machine.{machine-joined, machine-with_act, sent_entries, taken_entries, act_follows}
use Rattle.agreement.specs.Stages.{is_local}
use Rattle.child_driver.specs.Lives.{AreBelow}
use Rattle.child_driver.proofs.IsTold.{told_none}
use Rattle.log_model.proofs.Lists.{length-one_more}
use Rattle.world_core.specs.declared.performer.Performer.{Performer}
use Rattle.world_core.specs.Moves.{IsNew, new_driver}
use Rattle.world_core.specs.States.{all_but, blocks_fed, blocks_taken, blocks_told, with_block}
use Rattle.world_core.specs.Values.{performer_state}
use Rattle.world_core.specs.WorldInvariant.{ActsOn, IsKeptPerformer, IsFedDriver}
use Rattle.world_core.proofs.BlocksFed.{StandAt, all_but-append, below_next, block_at, blocks_told-more, rising_below, rising_next}

-- ---- where the blocks are the same

-- nothing but the stage has changed, and that has the same blocks
pub kept_alike : (old new : Performer) → new.who ≡ old.who → new.stage.staged.own ≡ old.stage.staged.own → new.waiting ≡ old.waiting → new.driver ≡ old.driver
    → blocks_taken (machine new.stage.staged) ≡ blocks_taken (machine old.stage.staged) → taken_count (machine new.stage.staged) ≡ taken_count (machine old.stage.staged)
    → IsKeptPerformer old → IsKeptPerformer new
kept_alike old new who own waiting driver blocks taken h =
    let fed : blocks_fed (performer_state new) ≡ blocks_fed (performer_state old) =
    ap (λ w. all_but (length w) (blocks_taken (machine new.stage.staged))) waiting ∙ ap (all_but (length old.waiting)) blocks in
    record {
      number_is = who ∙ h.number_is ∙ sym own;
      driver_is = rw (fed, driver) h.driver_is;
      blocks_are = rw (fed, waiting, blocks) h.blocks_are;
      rising = rw blocks h.rising;
      below = rw (taken, blocks) h.below;
    }

record Alike (m n : Machine) : Type 0 where
  entries_are : n.entries ≡ m.entries
  joined_is : n.joined ≡ m.joined
  start_is : n.start ≡ m.start

local_alike : (a : Act) (m : Machine) → is_local a ≡ true → Alike m (after_act a m)
local_alike (act.Typed op) m e = record { entries_are = refl; joined_is = refl; start_is = refl }
local_alike (act.Eval place) m e = record { entries_are = refl; joined_is = refl; start_is = refl }
local_alike (act.Reset text) m e = record { entries_are = refl; joined_is = refl; start_is = refl }
local_alike (act.Take entry) m e = absurd (cc)
local_alike act.Next m e = absurd (cc)
local_alike act.Finish m e = record { entries_are = refl; joined_is = refl; start_is = refl }
local_alike act.Halt m e = record { entries_are = refl; joined_is = refl; start_is = refl }

alike_blocks : (m n : Machine) → Alike m n → blocks_taken n ≡ blocks_taken m
alike_blocks m n h = ap (λ j. blocks_told j n.entries) h.joined_is ∙ ap (blocks_told m.joined) h.entries_are

alike_taken : (m n : Machine) → Alike m n → taken_count n ≡ taken_count m
alike_taken m n h = omega (arith, h.start_is, ap length h.entries_are)

went_alike : (s t : Staged) → ActsOn s t → Alike (machine s) (machine t)
went_alike s t on =
    ⊎_elim
    (λ same. subst (λ (u : Staged). Alike (machine s) (machine u)) (sym same) (record { entries_are = refl; joined_is = refl; start_is = refl }))
    (λ more. subst (λ (u : Staged). Alike (machine s) (machine u)) (sym more.3) (subst (Alike (machine s)) (sym (machine-with_act 0 more.0 s)) (local_alike more.0 (machine s) more.1)))
    on

pub went_own : (s t : Staged) → ActsOn s t → t.own ≡ s.own
went_own s t on = ⊎_elim (λ same. ap (λ (u : Staged). u.own) same) (λ more. ap (λ (u : Staged). u.own) more.3) on

-- a performer whose stage went on by itself
pub kept_local : (old new : Performer) → ActsOn old.stage.staged new.stage.staged → new.who ≡ old.who → new.waiting ≡ old.waiting → new.driver ≡ old.driver → IsKeptPerformer old → IsKeptPerformer new
kept_local old new on who waiting driver h =
    let alike = went_alike old.stage.staged new.stage.staged on in
    kept_alike old new who (went_own old.stage.staged new.stage.staged on) waiting driver
    (alike_blocks (machine old.stage.staged) (machine new.stage.staged) alike) (alike_taken (machine old.stage.staged) (machine new.stage.staged) alike) h

next_alike : (m : Machine) → Alike m (after_act act.Next m)
next_alike m = record {
  entries_are = sent_entries m.outgoing m;
  joined_is = (act_follows act.Next m).joined;
  start_is = (act_follows act.Next m).start;
}

-- a performer whose next call went out
pub kept_sent : (old new : Performer) → new.stage.staged ≡ with_act 0 act.Next old.stage.staged → new.who ≡ old.who → new.waiting ≡ old.waiting → new.driver ≡ old.driver → IsKeptPerformer old → IsKeptPerformer new
kept_sent old new staged who waiting driver h =
    let alike : Alike (machine old.stage.staged) (machine new.stage.staged) =
    rw (staged, machine-with_act 0 act.Next old.stage.staged) (next_alike (machine old.stage.staged)) in
    kept_alike old new who (ap (λ (s : Staged). s.own) staged) waiting driver
    (alike_blocks (machine old.stage.staged) (machine new.stage.staged) alike) (alike_taken (machine old.stage.staged) (machine new.stage.staged) alike) h

-- ---- an entry taken

same_fed : (blocks fed waiting more : List Block) → fed ++ waiting ≡ blocks → all_but (length (waiting ++ more)) (blocks ++ more) ≡ fed
same_fed blocks fed waiting more is =
    ap (λ bs. all_but (length (waiting ++ more)) (bs ++ more)) (sym is)
    ∙ ap (all_but (length (waiting ++ more))) (append_assoc fed waiting more)
    ∙ all_but-append fed (waiting ++ more)

-- a performer that took the entry at its next position
pub kept_taken : (old new : Performer) (e : Entry) → new.stage.staged ≡ with_act 0 (act.Take e) old.stage.staged → e.at ≡ taken_count (machine old.stage.staged)
    → new.waiting ≡ old.waiting ++ with_block (block_told old.stage.staged.joined e) [] → new.who ≡ old.who → new.driver ≡ old.driver → IsKeptPerformer old → IsKeptPerformer new
kept_taken old new e staged at waiting who driver h =
    let m : Machine = machine old.stage.staged in
    let more : List Block = with_block (block_told old.stage.staged.joined e) [] in
    let led : machine new.stage.staged ≡ after_act (act.Take e) m = ap machine staged ∙ machine-with_act 0 (act.Take e) old.stage.staged in
    let follows = act_follows (act.Take e) m in
    let entries : (machine new.stage.staged).entries ≡ m.entries ++ e ∷ [] = ap (λ (n : Machine). n.entries) led ∙ taken_entries (is_edit_of m.own e) e m in
    let joined : (machine new.stage.staged).joined ≡ m.joined = ap (λ (n : Machine). n.joined) led ∙ follows.joined in
    let start : (machine new.stage.staged).start ≡ m.start = ap (λ (n : Machine). n.start) led ∙ follows.start in
    let blocks : blocks_taken (machine new.stage.staged) ≡ blocks_taken m ++ more =
    ap (λ j. blocks_told j (machine new.stage.staged).entries) joined ∙ ap (blocks_told m.joined) entries ∙ blocks_told-more m.joined m.entries e
    ∙ ap (λ j. blocks_taken m ++ with_block (block_told j e) []) (machine-joined old.stage.staged) in
    let taken : taken_count (machine new.stage.staged) ≡ suc (taken_count m) = omega (arith, start, ap length entries, length-one_more m.entries e) in
    let fed : blocks_fed (performer_state new) ≡ blocks_fed (performer_state old) =
    ap (λ w. all_but (length w) (blocks_taken (machine new.stage.staged))) waiting ∙ ap (all_but (length (old.waiting ++ more))) blocks
    ∙ same_fed (blocks_taken m) (blocks_fed (performer_state old)) old.waiting more h.blocks_are in
    let stand = subst (λ (n : ℕ). StandAt n more) at (block_at old.stage.staged.joined e) in
    record {
      number_is = who ∙ h.number_is ∙ sym (ap (λ (s : Staged). s.own) staged);
      driver_is = rw (fed, driver) h.driver_is;
      blocks_are = rw (fed, waiting, blocks) (sym (append_assoc (blocks_fed (performer_state old)) old.waiting more) ∙ ap (λ bs. bs ++ more) h.blocks_are);
      rising = rw blocks (rising_next (blocks_taken m) more (taken_count m) h.rising h.below stand);
      below = rw (taken, blocks) (below_next (blocks_taken m) more (taken_count m) h.below stand);
    }

-- ---- a block fed

-- a performer whose interpreter was fed the first block that waits
pub kept_fed : (old new : Performer) (block : Block) → slice_get old.waiting 0 ≡ Some block → new.stage ≡ old.stage → new.waiting ≡ drop 1 old.waiting → new.who ≡ old.who
    → ((blocks : List Block) → IsFedDriver blocks old.driver → AreBelow block.place blocks → IsFedDriver (blocks ++ block ∷ []) new.driver) → new.driver.hatch.limit ≡ None
    → IsKeptPerformer old → IsKeptPerformer new
kept_fed old new block first stage waiting who fed next h = by_waiting old.waiting refl
  where
    by_waiting : (w : List Block) → old.waiting ≡ w → IsKeptPerformer new
    by_waiting [] is = let none : slice_get [] 0 ≡ Some block = sym (ap (λ w. slice_get w 0) is) ∙ first in absurd (cc)
    by_waiting (b ∷ bs) is =
        let one : slice_get (b ∷ bs) 0 ≡ Some block = sym (ap (λ w. slice_get w 0) is) ∙ first in
        let same : b ≡ block = cc in
        let front : List Block = blocks_fed (performer_state old) in
        let all : front ++ block ∷ bs ≡ blocks_taken (machine old.stage.staged) = ap (λ (x : Block). front ++ x ∷ bs) (sym same) ∙ sym (ap (λ w. front ++ w) is) ∙ h.blocks_are in
        let left : new.waiting ≡ bs = waiting ∙ ap (drop 1) is in
        let longer : (front ++ block ∷ []) ++ bs ≡ blocks_taken (machine old.stage.staged) = append_assoc front (block ∷ []) bs ∙ all in
        let now : blocks_fed (performer_state new) ≡ front ++ block ∷ [] =
        ap (λ s. all_but (length new.waiting) (blocks_taken (machine s.staged))) stage
        ∙ ap (λ w. all_but (length w) (blocks_taken (machine old.stage.staged))) left
        ∙ ap (all_but (length bs)) (sym longer) ∙ all_but-append (front ++ block ∷ []) bs in
        record {
          number_is = who ∙ h.number_is ∙ sym (ap (λ s. s.staged.own) stage);
          driver_is = rw now (record { fed = fed front h.driver_is.fed (rising_below front block bs (rw all h.rising)); next_is = next });
          blocks_are = rw (now, left, stage) longer;
          rising = rw stage h.rising;
          below = rw stage h.below;
        }

-- ---- a new performer

-- a performer that was fed nothing, whose stage starts now
pub kept_new : (name : List ℕ) (lang : Lang) (boot : List ℕ) (p : Performer) → p.who ≡ p.stage.staged.own → p.stage.staged.acts ≡ [] → IsNew name lang boot p → IsKeptPerformer p
kept_new name lang boot p who none h = by_all p.driver h.driver_is
  where
    by_all : (d : DriverValue HatchValue ChildValue) → d ≡ new_driver lang (encode_utf8_all boot) → IsKeptPerformer p
    by_all d is = record {
      number_is = who;
      driver_is = rw (h.driver_is, h.waiting_is, none) (record {
        fed = record { open_is = refl; none_earlier = refl; told = told_none lang (encode_utf8_all boot) (Some []); counted = λ few. omega arith };
        next_is = refl;
      });
      blocks_are = rw (h.waiting_is, none) refl;
      rising = rw none tt;
      below = rw none tt;
    }

-- a stage that finished
pub finished : (s t : Staged) → ((machine s).finishing ≡ false → t ≡ with_act 0 act.Finish s) → ((machine s).finishing ≡ true → t ≡ s) → ActsOn s t
finished s t first again = by_test (machine s).finishing refl
  where
    by_test : (b : Bool) → (machine s).finishing ≡ b → ActsOn s t
    by_test false e = inr (act.Finish, refl, e, first e)
    by_test true e = inl (again e)
