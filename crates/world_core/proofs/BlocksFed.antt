-- The blocks fed, and those that wait.
use Rattle.std.proofs.Common.{◌≡◌, ℕ, suc, ◌-◌, ◌<◌, Bool, true, false, if◌then◌else◌, nat_lt, Option, None, Some, List, [], ◌∷◌, ◌++◌, length, take, refl, sym, ap, ◌∙◌, subst, arith, length-append}
use Rattle.troop_entry.specs.declared.block.Block.{Block}
use Rattle.troop_entry.specs.declared.entry.Deed.{Deed}
use Rattle.troop_entry.specs.declared.entry.Deed.TheVariants.{Join, Leave, Edit, Eval, Reset}
use Rattle.troop_entry.specs.declared.entry.Entry.{Entry}
use Rattle.troop_entry.specs.Told.{block_told, block_of_deed}
use Rattle.child_driver.specs.Lives.{AreAbove, AreBelow, IsRising}
use Rattle.world_core.specs.States.{all_but, blocks_told, with_block}

take_front : (xs ys : List Block) → take (length xs) (xs ++ ys) ≡ xs
take_front [] ys = refl
take_front (x ∷ xs) ys = ap (λ r. x ∷ r) (take_front xs ys)

-- of these and those behind them, all but those are these
pub all_but-append : (fed waiting : List Block) → all_but (length waiting) (fed ++ waiting) ≡ fed
all_but-append fed waiting =
    let n : length (fed ++ waiting) - length waiting ≡ length fed = omega (arith, length-append fed waiting) in
    ap (λ k. take k (fed ++ waiting)) n ∙ take_front fed waiting

-- the blocks of one more entry
pub blocks_told-more : (joined : ℕ) (entries : List Entry) (e : Entry)
    → blocks_told joined (entries ++ e ∷ []) ≡ blocks_told joined entries ++ with_block (block_told joined e) []
blocks_told-more joined [] e = refl
blocks_told-more joined (x ∷ entries) e =
    ap (with_block (block_told joined x)) (blocks_told-more joined entries e) ∙ by_option (block_told joined x)
  where
    by_option : (o : Option Block)
        → with_block o (blocks_told joined entries ++ with_block (block_told joined e) []) ≡ with_block o (blocks_told joined entries) ++ with_block (block_told joined e) []
    by_option None = refl
    by_option (Some b) = refl

-- these blocks' places are all this one
abbrev pub StandAt : ℕ → List Block → Type 0
StandAt at [] = Unit {0}
StandAt at (b ∷ blocks) = (b.place ≡ at) × (blocks ≡ [])

-- the block of an entry stands at the entry's position
pub block_at : (joined : ℕ) (e : Entry) → StandAt e.at (with_block (block_told joined e) [])
block_at joined e = by_deed e.deed
  where
    by_deed : (d : Deed) → StandAt e.at (with_block (block_of_deed joined e.at d) [])
    by_deed (Join name lang) = tt
    by_deed Leave = tt
    by_deed (Edit op) = tt
    by_deed (Eval text) = by_test (nat_lt joined e.at)
      where
        by_test : (b : Bool) → StandAt e.at (with_block (if b then Some (record { place = e.at; text = text }) else None) [])
        by_test true = (refl, refl)
        by_test false = tt
    by_deed (Reset op) = tt

above_more : (place : ℕ) (blocks : List Block) (b : Block) → AreAbove place blocks → place < b.place → AreAbove place (blocks ++ b ∷ [])
above_more place [] b all one = (one, tt)
above_more place (a ∷ blocks) b all one = (all.0, above_more place blocks b all.1 one)

rising_more : (blocks : List Block) (b : Block) → IsRising blocks → AreBelow b.place blocks → IsRising (blocks ++ b ∷ [])
rising_more [] b rising below = (tt, tt)
rising_more (a ∷ blocks) b rising below = (above_more a.place blocks b rising.0 below.0, rising_more blocks b rising.1 below.1)

-- blocks below a place, and then one at it
pub rising_next : (blocks more : List Block) (at : ℕ) → IsRising blocks → AreBelow at blocks → StandAt at more → IsRising (blocks ++ more)
rising_next blocks [] at rising below here = subst IsRising (sym (append_none blocks)) rising
  where
    append_none : (xs : List Block) → xs ++ [] ≡ xs
    append_none [] = refl
    append_none (x ∷ xs) = ap (λ r. x ∷ r) (append_none xs)
rising_next blocks (b ∷ more) at rising below here =
    rw here.1 (rising_more blocks b rising (subst (λ (n : ℕ). AreBelow n blocks) (sym here.0) below))

pub below_next : (blocks more : List Block) (at : ℕ) → AreBelow at blocks → StandAt at more → AreBelow (suc at) (blocks ++ more)
below_next [] [] at below here = tt
below_next [] (b ∷ more) at below here = rw here.1 (omega (arith, here.0), tt)
below_next (a ∷ blocks) more at below here = (omega (arith, below.0), below_next blocks more at below.1 here)

-- of rising blocks those in front of one are below it
pub rising_below : (fed : List Block) (b : Block) (blocks : List Block) → IsRising (fed ++ b ∷ blocks) → AreBelow b.place fed
rising_below [] b blocks rising = tt
rising_below (a ∷ fed) b blocks rising = (above_at fed rising.0, rising_below fed b blocks rising.1)
  where
    above_at : (xs : List Block) → AreAbove a.place (xs ++ b ∷ blocks) → a.place < b.place
    above_at [] all = all.0
    above_at (x ∷ xs) all = above_at xs all.1
