-- What a close leaves, by the values of the driver.
use Rattle.std.proofs.Common.{◌≡◌, ℕ, ◌+◌, ◌-◌, ◌<◌, ◌≤◌, ◌^◌, List, [], ◌∷◌, ◌++◌, length, false, sym, ◌∙◌, ap, subst, arith, append-nil}
use Rattle.std.specs.Prelude.{Option, IfSome, option_map, is_some}
use Rattle.std.specs.List.{flat_map}
use Rattle.troop_entry.specs.declared.block.Block.{Block}
use Rattle.troop_entry.specs.declared.call.Lang.{Lang}
use Rattle.troop_entry.specs.declared.note.Note.{Note}
use Rattle.troop_entry.specs.declared.note.Note.TheVariants as note
use Rattle.pipe_ports.specs.Pipes.{Starts}
use Rattle.pipe_ports.specs.declared.child.Closing.{Closing}
use Rattle.pipe_ports.specs.declared.child.Closing.TheVariants as closing
use Rattle.child_driver.specs.Lives.{without_unclosed, fated_blocks, turns, lives_of, notes_of, AreFit, turns_of, IsTold, faulty_count}
use Rattle.child_driver.specs.Drivers.{DriverValue, births, last_of, children, driver_lives, earlier_count, Sight, sight, pipe_count}
use Rattle.child_driver.specs.Steps.{closing_notes, IsClosing}
use Rattle.child_driver.specs.DriverInvariant.{IsSteady}
use Rattle.child_driver.proofs.IsFeedStep.{buried_fault}
use Rattle.child_driver.proofs.Turns.{births_append, without_append, faulty_append}

without_closing : (answer : Closing) (notes : List Note) (number : ℕ) → without_unclosed notes ≡ notes → without_unclosed (notes ++ closing_notes answer number) ≡ without_unclosed notes
without_closing closing.Closed notes number kept = ap without_unclosed (append-nil notes)
without_closing closing.Failed notes number kept = without_append notes (note.Unclosed number) [] ∙ append-nil notes ∙ sym kept

births_closing : (answer : Closing) (notes : List Note) (number : ℕ) → births (notes ++ closing_notes answer number) ≡ births notes
births_closing closing.Closed notes number = ap births (append-nil notes)
births_closing closing.Failed notes number = births_append notes (note.Unclosed number ∷ []) ∙ grind arith

told_closing : (lang : Lang) (boot : List ℕ) (blocks : List Block) (answer : Closing) (old new : Sight) → without_unclosed old.notes ≡ old.notes → IsClosing answer old new
    → IsTold lang boot blocks (option_map (last_of (births old.notes)) old.children) old.notes
    → IsTold lang boot blocks (option_map (last_of (births new.notes)) new.children) new.notes
told_closing lang boot blocks answer old new kept close told =
    let same : without_unclosed new.notes ≡ without_unclosed old.notes = ap without_unclosed close.notes_are ∙ without_closing answer old.notes (births old.notes) kept in
    let turns_are : turns_of lang new.notes blocks ≡ turns_of lang old.notes blocks = ap (λ ns. turns (fated_blocks lang ns blocks)) same in
    let born : births new.notes ≡ births old.notes = ap births close.notes_are ∙ births_closing answer old.notes (births old.notes) in
    let lives : Option (List (List ℕ)) → Type 0 = λ ls. IfSome ls (λ ls. ls ≡ lives_of boot (turns_of lang new.notes blocks)) in
    record {
      rising = told.rising;
      fits = subst (AreFit boot) (sym turns_are) told.fits;
      lives_are =
          subst lives (ap (option_map (last_of (births new.notes))) (sym close.children_are))
          (subst lives (ap (λ n. option_map (last_of n) old.children) (sym born))
          (subst (λ ts. IfSome (option_map (last_of (births old.notes)) old.children) (λ ls. ls ≡ lives_of boot ts)) (sym turns_are) told.lives_are));
      notes_are = same ∙ told.notes_are ∙ ap (flat_map notes_of) (sym turns_are);
    }

faulty_closing : (answer : Closing) (old new : Sight) → IsClosing answer old new → new.hatch_count + new.life_count < 2 ^ 64 - 1
    → faulty_count new.notes + (old.hatch_count + old.life_count) ≤ faulty_count old.notes + (new.hatch_count + new.life_count)
faulty_closing closing.Closed old new close below =
    let notes_are : faulty_count new.notes ≡ faulty_count old.notes = ap faulty_count (close.notes_are ∙ append-nil old.notes) in
    omega (arith, notes_are, close.counts_are)
faulty_closing closing.Failed old new close below =
    let notes_are : faulty_count new.notes ≡ faulty_count old.notes + 1 = ap faulty_count close.notes_are ∙ faulty_append old.notes (note.Unclosed (births old.notes) ∷ []) in
    let counted : 1 + (old.hatch_count + old.life_count) ≤ new.hatch_count + new.life_count =
    buried_fault old.hatch_count old.life_count new.hatch_count new.life_count close.counts_are below in
    omega (arith, notes_are, counted)

module _ {H C : Type 0} (buried : H → Option (List (List ℕ))) (starts : H → Option Starts) (faults : H → ℕ)
    (taken : C → Option (List ℕ)) (limit : C → Option (Option ℕ)) (child_faults : C → ℕ) where
  ToldStill : DriverValue H C → DriverValue H C → Type 0
  ToldStill d d1 = d.closed ≡ false → (blocks : List Block) → IsTold d.lang d.boot blocks (driver_lives buried taken d) d.notes
      → IsTold d.lang d.boot blocks (driver_lives buried taken d1) d1.notes

  told_at : (d d1 : DriverValue H C) (answer : Closing) → IsSteady (is_some d.life) d.notes d.closed
      → IsClosing answer (sight buried starts faults taken limit child_faults d) (sight buried starts faults taken limit child_faults d1) → ToldStill d d1
  unfolding ToldStill
  told_at d d1 answer steady close calm blocks told =
      told_closing d.lang d.boot blocks answer (sight buried starts faults taken limit child_faults d) (sight buried starts faults taken limit child_faults d1) (steady.kept calm) close told

  -- what is told of the blocks fed stays told behind a close
  pub told_close : (d0 d d1 : DriverValue H C) (answer : Closing) → d0 ≡ d → IsSteady (is_some d0.life) d0.notes d0.closed
      → IsClosing answer (sight buried starts faults taken limit child_faults d0) (sight buried starts faults taken limit child_faults d1)
      → d.closed ≡ false → (blocks : List Block) → IsTold d.lang d.boot blocks (driver_lives buried taken d) d.notes
      → IsTold d.lang d.boot blocks (driver_lives buried taken d1) d1.notes
  unfolding ToldStill
  told_close d0 d d1 answer same steady close = subst (λ (d : DriverValue H C). ToldStill d d1) same (told_at d0 d1 answer steady close)

  -- a close tells of no more faults than were counted, while the pipe count is below its last value
  pub faults_close : (d0 d d1 : DriverValue H C) (answer : Closing) → d0 ≡ d
      → IsClosing answer (sight buried starts faults taken limit child_faults d0) (sight buried starts faults taken limit child_faults d1)
      → pipe_count faults child_faults d1 < 2 ^ 64 - 1
      → faulty_count d1.notes + pipe_count faults child_faults d ≤ faulty_count d.notes + pipe_count faults child_faults d1
  faults_close d0 d d1 answer same close below =
      subst (λ (d : DriverValue H C). faulty_count d1.notes + pipe_count faults child_faults d ≤ faulty_count d.notes + pipe_count faults child_faults d1) same
      (faulty_closing answer (sight buried starts faults taken limit child_faults d0) (sight buried starts faults taken limit child_faults d1) close below)

  -- how many children there were before the hatch was handed in stays the same behind a close
  pub given_close : (d0 d d1 : DriverValue H C) (answer : Closing) → d0 ≡ d
      → IsClosing answer (sight buried starts faults taken limit child_faults d0) (sight buried starts faults taken limit child_faults d1)
      → earlier_count buried taken d1 ≡ earlier_count buried taken d
  given_close d0 d d1 answer same close =
      ap (option_map (λ (ls : List (List ℕ)). length ls - births d1.notes)) close.children_are
      ∙ ap (λ n. option_map (λ (ls : List (List ℕ)). length ls - n) (children buried taken d0)) (ap births close.notes_are ∙ births_closing answer d0.notes (births d0.notes))
      ∙ ap (earlier_count buried taken) same
