-- What is told of the blocks fed is told of one more block behind them.
use Rattle.std.proofs.Common.{◌≡◌, ℕ, ◌+◌, ◌-◌, ◌<◌, ◌≤◌, List, [], ◌∷◌, ◌++◌, length, drop, Bool, true, false, refl, sym, ◌∙◌, ap, subst, arith}
use Rattle.std.specs.Prelude.{Option, None, Some, IfSome, option_map}
use Rattle.std.specs.List.{flat_map}
use Rattle.std.proofs.Math.Seq.{drop-length}
use Rattle.std.proofs.lemmas.List.{map-append}
use Rattle.troop_entry.specs.declared.block.Block.{Block}
use Rattle.troop_entry.specs.declared.call.Lang.{Lang}
use Rattle.troop_entry.specs.declared.note.Note.{Note}
use Rattle.lang_wrap.specs.Wraps.{wrap}
use Rattle.child_driver.specs.Lives.{BlockFate, FatedBlock, fated_blocks, fated_block, Turn, turns, turn_of, births_by, lives_started, IsFit, AreFit, fate_bytes, lives_of, notes_by, notes_of, without_unclosed, fate_of, IsRising, AreAbove, AreBelow, turns_of, IsTold}
use Rattle.child_driver.specs.Drivers.{births, last_of, children_after}
use Rattle.child_driver.specs.DriverInvariant.{no_life}
use Rattle.child_driver.proofs.FateOf.{fated_same, new_fate}
use Rattle.child_driver.proofs.Turns.{next_opens, turns_more, births_more, births_told, opens_told, without_turn, fits_append, notes_append}
use Rattle.child_driver.proofs.LivesOf.{lives_more, standing_births, last_given}

above_more : (place : ℕ) (blocks : List Block) (b : Block) → AreAbove place blocks → place < b.place → AreAbove place (blocks ++ b ∷ [])
above_more place [] b all one = (one, tt)
above_more place (a ∷ blocks) b all one = (all.0, above_more place blocks b all.1 one)

rising_more : (blocks : List Block) (b : Block) → IsRising blocks → AreBelow b.place blocks → IsRising (blocks ++ b ∷ [])
rising_more [] b rising below = (tt, tt)
rising_more (a ∷ blocks) b rising below = (above_more a.place blocks b rising.0 below.0, rising_more blocks b rising.1 below.1)

-- the turns of the blocks fed, with those of one more block of this fate
told_turns : (lang : Lang) (notes : List Note) (blocks : List Block) (block : Block) (number : ℕ) (fate : BlockFate)
    → AreBelow block.place blocks → without_unclosed notes ≡ notes
    → notes ≡ flat_map notes_of (turns (fated_blocks lang notes blocks)) → number ≡ births notes + births_by (no_life true notes) fate
    → turns_of lang (notes ++ notes_by (no_life true notes) number block.place fate) (blocks ++ block ∷ [])
    ≡ turns (fated_blocks lang notes blocks) ++ turn_of (no_life true notes) (lives_started (turns (fated_blocks lang notes blocks))) (record { place = block.place; wrapped = wrap lang block.text; fate = fate }) ∷ []
told_turns lang notes blocks block number fate below kept is numbered =
    let opens : Bool = no_life true notes in
    let added : List Note = notes_by opens number block.place fate in
    let ds : List FatedBlock = fated_blocks lang notes blocks in
    let d : FatedBlock = record { place = block.place; wrapped = wrap lang block.text; fate = fate } in
    let read : fated_blocks lang (notes ++ added) (blocks ++ block ∷ []) ≡ ds ++ d ∷ [] =
    map-append (fated_block lang (notes ++ added)) blocks (block ∷ [])
    ∙ ap (λ front. front ++ fated_block lang (notes ++ added) block ∷ []) (fated_same lang notes blocks opens number block.place fate below)
    ∙ ap (λ (f : BlockFate). let d : FatedBlock = record { place = block.place; wrapped = wrap lang block.text; fate = f } in ds ++ d ∷ []) (new_fate lang notes blocks opens number block.place fate below is) in
    let none_before : 0 + lives_started (turns ds) ≡ lives_started (turns ds) = grind arith in
    let opening : next_opens true ds ≡ opens = sym (opens_told true 0 ds) ∙ ap (no_life true) (sym is) in
    ap (λ ns. turns (fated_blocks lang ns (blocks ++ block ∷ []))) (without_turn notes opens number block.place fate kept)
    ∙ ap turns read
    ∙ turns_more true 0 ds d
    ∙ ap (λ n. turns ds ++ turn_of (next_opens true ds) n d ∷ []) none_before
    ∙ ap (λ b. turns ds ++ turn_of b (lives_started (turns ds)) d ∷ []) opening

-- the lives told behind one more block, where the children are told and are the ones of that fate
lives_next : (boot : List ℕ) (n : ℕ) (ds : List FatedBlock) (d : FatedBlock) (opens : Bool) (before now : Option (List (List ℕ)))
    → IsFit boot opens d.wrapped d.fate → (opens ≡ false → 1 ≤ n) → n ≡ lives_started (turns ds)
    → IfSome now (λ ls. Some ls ≡ option_map (children_after opens d.fate (fate_bytes boot opens d.wrapped d.fate)) before)
    → IfSome (option_map (last_of n) before) (λ ls. ls ≡ lives_of boot (turns ds))
    → IfSome (option_map (last_of (n + births_by opens d.fate)) now)
    (λ ls. ls ≡ lives_of boot (turns ds ++ turn_of opens (lives_started (turns ds)) d ∷ []))
lives_next boot n ds d opens before None fit some is given told = tt
lives_next boot n ds d opens None (Some now) fit some is given told = absurd (let e : Some now ≡ None = given in cc)
lives_next boot n ds d opens (Some before) (Some now) fit some is given told =
    let bytes : List ℕ = fate_bytes boot opens d.wrapped d.fate in
    let given_is : now ≡ children_after opens d.fate bytes before = cc in
    ap (last_of (n + births_by opens d.fate)) given_is
    ∙ last_given n opens d.fate bytes before some
    ∙ ap (children_after opens d.fate bytes) told
    ∙ sym (lives_more boot ds d opens fit (λ no. subst (λ m. 1 ≤ m) is (some no)))

-- what is told of the blocks fed is told of one more, behind the notes of its turn and with its bytes
pub told_more : (lang : Lang) (boot : List ℕ) (blocks : List Block) (block : Block) (before now : Option (List (List ℕ))) (notes : List Note) (number : ℕ) (fate : BlockFate)
    → IsTold lang boot blocks (option_map (last_of (births notes)) before) notes
    → AreBelow block.place blocks → without_unclosed notes ≡ notes
    → IsFit boot (no_life true notes) (wrap lang block.text) fate
    → number ≡ births notes + births_by (no_life true notes) fate
    → IfSome now (λ ls. Some ls ≡ option_map (children_after (no_life true notes) fate (fate_bytes boot (no_life true notes) (wrap lang block.text) fate)) before)
    → IsTold lang boot (blocks ++ block ∷ []) (option_map (last_of (births (notes ++ notes_by (no_life true notes) number block.place fate))) now)
    (notes ++ notes_by (no_life true notes) number block.place fate)
told_more lang boot blocks block before now notes number fate told below kept fit numbered given =
    let opens : Bool = no_life true notes in
    let added : List Note = notes_by opens number block.place fate in
    let ds : List FatedBlock = fated_blocks lang notes blocks in
    let d : FatedBlock = record { place = block.place; wrapped = wrap lang block.text; fate = fate } in
    let turn : Turn = turn_of opens (lives_started (turns ds)) d in
    let turns_are : turns_of lang notes blocks ≡ turns ds = ap (λ ns. turns (fated_blocks lang ns blocks)) kept in
    let is : notes ≡ flat_map notes_of (turns ds) = sym kept ∙ told.notes_are ∙ ap (flat_map notes_of) turns_are in
    let more : turns_of lang (notes ++ added) (blocks ++ block ∷ []) ≡ turns ds ++ turn ∷ [] = told_turns lang notes blocks block number fate below kept is numbered in
    let born : births notes ≡ lives_started (turns ds) = ap births is ∙ births_told true 0 ds in
    let number_is : number ≡ lives_started (turns ds) + births_by opens fate = numbered ∙ ap (λ n. n + births_by opens fate) born in
    let counted : births (notes ++ added) ≡ births notes + births_by opens fate = births_more notes opens number block.place fate in
    let fits_before : AreFit boot (turns ds) = subst (AreFit boot) turns_are told.fits in
    let lives_before : IfSome (option_map (last_of (births notes)) before) (λ ls. ls ≡ lives_of boot (turns ds)) =
    subst (λ ts. IfSome (option_map (last_of (births notes)) before) (λ ls. ls ≡ lives_of boot ts)) turns_are told.lives_are in
    let lives_now : IfSome (option_map (last_of (births notes + births_by opens fate)) now) (λ ls. ls ≡ lives_of boot (turns ds ++ turn ∷ [])) =
    lives_next boot (births notes) ds d opens before now fit (standing_births notes) born given lives_before in
    record {
      rising = rising_more blocks block told.rising below;
      fits = subst (AreFit boot) (sym more) (fits_append boot (turns ds) turn fits_before fit);
      lives_are =
          subst (λ n. IfSome (option_map (last_of n) now) (λ ls. ls ≡ lives_of boot (turns_of lang (notes ++ added) (blocks ++ block ∷ [])))) (sym counted)
          (subst (λ ts. IfSome (option_map (last_of (births notes + births_by opens fate)) now) (λ ls. ls ≡ lives_of boot ts)) (sym more) lives_now);
      notes_are =
          without_turn notes opens number block.place fate kept
          ∙ ap (λ ns. ns ++ added) is
          ∙ ap (λ n. flat_map notes_of (turns ds) ++ notes_by opens n block.place fate) number_is
          ∙ sym (notes_append (turns ds) turn)
          ∙ sym (ap (flat_map notes_of) more);
    }

-- the new block's fate is read from the notes
pub fate_told : (lang : Lang) (boot : List ℕ) (blocks : List Block) (block : Block) (lives : Option (List (List ℕ))) (notes : List Note) (number : ℕ) (fate : BlockFate)
    → IsTold lang boot blocks lives notes → AreBelow block.place blocks → without_unclosed notes ≡ notes
    → fate_of (notes ++ notes_by (no_life true notes) number block.place fate) block.place ≡ fate
fate_told lang boot blocks block lives notes number fate told below kept =
    let turns_are : turns_of lang notes blocks ≡ turns (fated_blocks lang notes blocks) = ap (λ ns. turns (fated_blocks lang ns blocks)) kept in
    new_fate lang notes blocks (no_life true notes) number block.place fate below
    (sym kept ∙ told.notes_are ∙ ap (flat_map notes_of) turns_are)

last_none : (xs : List (List ℕ)) → last_of 0 xs ≡ []
last_none xs = ap (λ n. drop n xs) (grind arith) ∙ drop-length xs

none_of : (children : Option (List (List ℕ))) → IfSome (option_map (last_of 0) children) (λ ls. ls ≡ [])
none_of None = tt
none_of (Some ls) = last_none ls

-- no lives and no notes are told of no blocks
pub told_none : (lang : Lang) (boot : List ℕ) (children : Option (List (List ℕ))) → IsTold lang boot [] (option_map (last_of 0) children) []
told_none lang boot children = record { rising = tt; fits = tt; lives_are = none_of children; notes_are = refl }

-- before the first feed all children are earlier ones
pub none_given : (children : Option (List (List ℕ))) → option_map (λ (ls : List (List ℕ)). length ls - 0) children ≡ option_map (λ (ls : List (List ℕ)). length ls) children
none_given None = refl
none_given (Some ls) = ap Some (grind arith)
