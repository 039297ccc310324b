-- A step of a feed: a block behind the opening of its life, what is told behind a step, and the faults that it counts.
use Rattle.std.proofs.Common.{◌≡◌, ℕ, ◌+◌, ◌-◌, ◌<◌, ◌≤◌, ◌^◌, List, [], ◌∷◌, ◌++◌, length, take, Bool, true, false, not, refl, sym, ◌∙◌, ap, subst, arith, append_assoc, append-nil}
use Rattle.std.specs.Prelude.{Option, None, Some, IfSome, option_map, nat_lt, if◌then◌else◌}
use Rattle.std.proofs.lemmas.Grind.{common_steps}
use Rattle.troop_entry.specs.declared.block.Block.{Block}
use Rattle.troop_entry.specs.declared.call.Lang.{Lang}
use Rattle.troop_entry.specs.declared.note.Note.{Note}
use Rattle.troop_entry.specs.declared.note.Note.TheVariants as note
use Rattle.troop_ports.specs.Faults.{Counted}
use Rattle.pipe_ports.specs.Pipes.{Starts, limit_behind, sum_count}
use Rattle.lang_wrap.specs.Wraps.{wrap}
use Rattle.child_driver.specs.Lives.{BlockFate, Whole, Cut, Boot, Refused, births_by, IsFit, fate_bytes, notes_by, without_unclosed, faulty_count, fate_of, AreBelow, IsTold}
use Rattle.child_driver.specs.Feeding.{Pipe, wrap_fate, boot_fate, fed_fate, fed_pipe, life_left, starts_left, pipe_left}
use Rattle.child_driver.specs.Drivers.{births, last_of, children_after, with_last_longer, Sight}
use Rattle.child_driver.specs.Steps.{CountsBuriedFault, CountsFate, IsFeedStep}
use Rattle.child_driver.specs.Openings.{Covers, IsOpened}
use Rattle.child_driver.specs.DriverInvariant.{no_life}
use Rattle.child_driver.proofs.Turns.{births_append, no_life_more, without_turn, faulty_append}
use Rattle.child_driver.proofs.LivesOf.{extend_end}
use Rattle.child_driver.proofs.IsTold.{told_more, fate_told}
use Rattle.child_driver.proofs.FedPipe.{without_limit, not_refused}

children_behind : (old mid new : Option (List (List ℕ))) (boot more : List ℕ)
    → IfSome mid (λ ls. Some ls ≡ option_map (λ all. all ++ boot ∷ []) old)
    → IfSome new (λ ls. Some ls ≡ option_map (λ all. with_last_longer all more) mid)
    → IfSome new (λ ls. Some ls ≡ option_map (λ all. all ++ (boot ++ more) ∷ []) old)
children_behind old mid None boot more opened given = tt
children_behind old None (Some ls) boot more opened given = absurd (let e : Some ls ≡ None = given in cc)
children_behind None (Some m) (Some ls) boot more opened given = absurd (let e : Some m ≡ None = opened in cc)
children_behind (Some o) (Some m) (Some ls) boot more opened given =
    let first : m ≡ o ++ boot ∷ [] = let e : Some m ≡ Some (o ++ boot ∷ []) = opened in cc in
    let then_is : ls ≡ with_last_longer m more = let e : Some ls ≡ Some (with_last_longer m more) = given in cc in
    ap Some (then_is ∙ ap (λ all. with_last_longer all more) first ∙ extend_end o boot more)

covered_boot : (limit : Option ℕ) (boot size : ℕ) → Covers limit boot → boot_fate limit boot size ≡ wrap_fate (limit_behind limit boot) size
covered_boot None boot size covers = refl
covered_boot (Some most) boot size covers =
    let no : nat_lt most boot ≡ false = grind (arith, common_steps) in
    ap (λ b. if b then Boot most else wrap_fate (Some (most - boot)) size) no

-- the fate behind an opening
fate_behind_opening : (limit : Option ℕ) (refusals boot size : ℕ) → refusals ≡ 0 → Covers limit boot
    → fed_fate (record { life = None; starts = record { refusals = refusals; limit = limit } }) boot size ≡ wrap_fate (limit_behind limit boot) size
fate_behind_opening limit refusals boot size none covers =
    ap (λ b. if b then Refused else boot_fate limit boot size) (not_refused refusals none) ∙ covered_boot limit boot size covers

pipe_behind : (old mid new : Option Pipe) (fate : BlockFate) (boot size : ℕ) → ((s : Starts) → starts_left fate s ≡ without_limit s)
    → IfSome old (λ p. (p.life ≡ None) × (p.starts.refusals ≡ 0) × Covers p.starts.limit boot
    × (mid ≡ Some (record { life = Some (limit_behind p.starts.limit boot); starts = without_limit p.starts })))
    → IfSome mid (λ p. (fate ≡ fed_fate p boot size) × (new ≡ Some (fed_pipe p boot size)))
    → IfSome old (λ p. (fate ≡ fed_fate p boot size) × (new ≡ Some (fed_pipe p boot size)))
pipe_behind None mid new fate boot size started opened step = tt
pipe_behind (Some p) mid new fate boot size started opened step =
    let s : Starts = p.starts in
    let limit : Option ℕ = limit_behind s.limit boot in
    let step_is : (fate ≡ wrap_fate limit size) × (new ≡ Some (fed_pipe (record { life = Some limit; starts = without_limit s }) boot size)) =
    subst (λ m. IfSome m (λ q. (fate ≡ fed_fate q boot size) × (new ≡ Some (fed_pipe q boot size)))) opened.3 step in
    let same : p ≡ record { life = None; starts = s } = ap (λ l. record { life = l; starts = p.starts }) opened.0 in
    let fate_is : fate ≡ fed_fate (record { life = None; starts = s }) boot size =
    step_is.0 ∙ sym (fate_behind_opening s.limit s.refusals boot size opened.1 opened.2) in
    let pipe_is : new ≡ Some (fed_pipe (record { life = None; starts = s }) boot size) =
    step_is.1
    ∙ ap (λ f. let q : Pipe = record { life = life_left f limit size; starts = without_limit s } in Some q) (sym step_is.0)
    ∙ ap (λ st. let q : Pipe = record { life = life_left fate limit size; starts = st } in Some q) (sym (started s))
    ∙ ap (λ f. Some (pipe_left None s f boot size)) fate_is in
    subst (λ q. (fate ≡ fed_fate q boot size) × (new ≡ Some (fed_pipe q boot size))) (sym same) (fate_is, pipe_is)

-- a block behind the opening of its life is one step
pub step_behind : (boot wrapped : List ℕ) (place : ℕ) (fate : BlockFate) (old mid new : Sight) → old.stands ≡ false → IsOpened boot place old mid
    → IsFeedStep boot wrapped place fate mid new → IsFeedStep boot wrapped place fate old new
step_behind boot wrapped place Whole old mid new none opened step =
    record {
      fits = tt;
      notes_are = rw none ((rw opened.stands_is at step.notes_are) ∙ append-nil mid.notes ∙ opened.notes_are);
      stands_is = step.stands_is;
      children_are = rw none (children_behind old.children mid.children new.children boot wrapped opened.children_are (rw opened.stands_is at step.children_are));
      pipe_is = pipe_behind old.pipe mid.pipe new.pipe Whole (length boot) (length wrapped) (λ s. refl) opened.pipe_is step.pipe_is;
      counts_are = (step.counts_are.0 ∙ opened.hatch_is, step.counts_are.1 ∙ opened.life_is);
    }
step_behind boot wrapped place (Cut n) old mid new none opened step =
    let born : births mid.notes + 0 ≡ births old.notes + 1 =
    ap (λ ns. births ns + 0) opened.notes_are ∙ ap (λ m. m + 0) (births_append old.notes (note.Born (births old.notes + 1) place ∷ [])) ∙ grind arith in
    let cut : new.notes ≡ mid.notes ++ note.Cut (births mid.notes + 0) place n ∷ [] = rw opened.stands_is at step.notes_are in
    record {
      fits = step.fits;
      notes_are = rw none (cut
          ∙ ap (λ ns. ns ++ note.Cut (births mid.notes + 0) place n ∷ []) opened.notes_are
          ∙ append_assoc old.notes (note.Born (births old.notes + 1) place ∷ []) (note.Cut (births mid.notes + 0) place n ∷ [])
          ∙ ap (λ m. old.notes ++ (note.Born (births old.notes + 1) place ∷ note.Cut m place n ∷ [])) born);
      stands_is = step.stands_is;
      children_are = rw none (children_behind old.children mid.children new.children boot (take n wrapped) opened.children_are (rw opened.stands_is at step.children_are));
      pipe_is = pipe_behind old.pipe mid.pipe new.pipe (Cut n) (length boot) (length wrapped) (λ s. refl) opened.pipe_is step.pipe_is;
      counts_are = (step.counts_are.0, subst (λ m. Counted m step.counts_are.0) opened.life_is step.counts_are.1, step.counts_are.2 ∙ ap (λ h. sum_count h step.counts_are.0) opened.hatch_is);
    }
step_behind boot wrapped place (Boot n) old mid new none opened step =
    absurd (let e : false ≡ true = (rw opened.stands_is at step.fits).0 in cc)
step_behind boot wrapped place Refused old mid new none opened step =
    absurd (let e : false ≡ true = rw opened.stands_is at step.fits in cc)

-- what is told of the blocks fed is told of one more behind a step, and its fate is read from the notes
pub told_step : (lang : Lang) (boot : List ℕ) (blocks : List Block) (block : Block) (fate : BlockFate) (old new : Sight)
    → not old.stands ≡ no_life true old.notes → without_unclosed old.notes ≡ old.notes
    → IsFeedStep boot (wrap lang block.text) block.place fate old new
    → IsTold lang boot blocks (option_map (last_of (births old.notes)) old.children) old.notes → AreBelow block.place blocks
    → IsTold lang boot (blocks ++ block ∷ []) (option_map (last_of (births new.notes)) new.children) new.notes × (fate_of new.notes block.place ≡ fate)
told_step lang boot blocks block fate old new stands kept step told below =
    let opens : Bool = no_life true old.notes in
    let bytes : List ℕ = wrap lang block.text in
    let number : ℕ = births old.notes + births_by opens fate in
    let fit : IsFit boot opens bytes fate = subst (λ b. IsFit boot b bytes fate) stands step.fits in
    let given : IfSome new.children (λ ls. Some ls ≡ option_map (children_after opens fate (fate_bytes boot opens bytes fate)) old.children) =
    subst (λ b. IfSome new.children (λ ls. Some ls ≡ option_map (children_after b fate (fate_bytes boot b bytes fate)) old.children)) stands step.children_are in
    let notes_are : new.notes ≡ old.notes ++ notes_by opens number block.place fate =
    subst (λ b. new.notes ≡ old.notes ++ notes_by b (births old.notes + births_by b fate) block.place fate) stands step.notes_are in (
      subst (λ ns. IsTold lang boot (blocks ++ block ∷ []) (option_map (last_of (births ns)) new.children) ns) (sym notes_are)
          (told_more lang boot blocks block old.children new.children old.notes number fate told below kept fit refl given),
      ap (λ ns. fate_of ns block.place) notes_are ∙ fate_told lang boot blocks block _ old.notes number fate told below kept,
    )

-- a life stands behind a step exactly where the notes tell so
pub stands_step : (boot wrapped : List ℕ) (place : ℕ) (fate : BlockFate) (old new : Sight) → not old.stands ≡ no_life true old.notes
    → IsFeedStep boot wrapped place fate old new → not new.stands ≡ no_life true new.notes
stands_step boot wrapped place fate old new stands step =
    ap not step.stands_is
    ∙ sym (no_life_more old.notes (not old.stands) (births old.notes + births_by (not old.stands) fate) place fate (sym stands))
    ∙ ap (no_life true) (sym step.notes_are)

-- behind a step the notes don't end with `Unclosed`, where they didn't before
pub kept_step : (boot wrapped : List ℕ) (place : ℕ) (fate : BlockFate) (old new : Sight) → without_unclosed old.notes ≡ old.notes
    → IsFeedStep boot wrapped place fate old new → without_unclosed new.notes ≡ new.notes
kept_step boot wrapped place fate old new kept step =
    ap without_unclosed step.notes_are
    ∙ without_turn old.notes (not old.stands) (births old.notes + births_by (not old.stands) fate) place fate kept
    ∙ sym step.notes_are

fault_of : BlockFate → ℕ
fault_of Whole = 0
fault_of (Cut n) = 1
fault_of (Boot n) = 1
fault_of Refused = 1

faulty_turn : (opens : Bool) (number place : ℕ) (fate : BlockFate) → faulty_count (notes_by opens number place fate) ≡ fault_of fate
unfolding fault_of
faulty_turn true number place Whole = refl
faulty_turn false number place Whole = refl
faulty_turn true number place (Cut n) = refl
faulty_turn false number place (Cut n) = refl
faulty_turn true number place (Boot n) = refl
faulty_turn false number place (Boot n) = refl
faulty_turn true number place Refused = refl
faulty_turn false number place Refused = refl

-- a fault of a buried life raises the pipe count, while that is below its last value
pub buried_fault : (hatch life now left : ℕ) → CountsBuriedFault hatch life now → now + left < 2 ^ 64 - 1 → 1 + (hatch + life) ≤ now + left
buried_fault hatch life now left fault below = omega (arith, fault.1.later, fault.1.rose, fault.2)

fault_counted : (fate : BlockFate) (hatch life now left : ℕ) → CountsFate fate hatch life now left → now + left < 2 ^ 64 - 1 → fault_of fate + (hatch + life) ≤ now + left
unfolding fault_of
fault_counted Whole hatch life now left counts below = omega (arith, counts.0, counts.1)
fault_counted (Cut n) hatch life now left counts below = buried_fault hatch life now left counts below
fault_counted (Boot n) hatch life now left counts below = buried_fault hatch life now left counts below
fault_counted Refused hatch life now left counts below = omega (arith, counts.0.later, counts.0.rose, counts.1)

-- a step makes no more faulty notes than faults were counted, while the pipe count is below its last value
pub faulty_step : (boot wrapped : List ℕ) (place : ℕ) (fate : BlockFate) (old new : Sight) → IsFeedStep boot wrapped place fate old new → new.hatch_count + new.life_count < 2 ^ 64 - 1
    → faulty_count new.notes + (old.hatch_count + old.life_count) ≤ faulty_count old.notes + (new.hatch_count + new.life_count)
faulty_step boot wrapped place fate old new step below =
    let added : List Note = notes_by (not old.stands) (births old.notes + births_by (not old.stands) fate) place fate in
    let notes_are : faulty_count new.notes ≡ faulty_count old.notes + fault_of fate =
    ap faulty_count step.notes_are ∙ faulty_append old.notes added ∙ ap (λ n. faulty_count old.notes + n) (faulty_turn _ _ place fate) in
    let counted : fault_of fate + (old.hatch_count + old.life_count) ≤ new.hatch_count + new.life_count =
    fault_counted fate old.hatch_count old.life_count new.hatch_count new.life_count step.counts_are below in
    omega (arith, notes_are, counted)
