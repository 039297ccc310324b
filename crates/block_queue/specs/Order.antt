-- The rule of the ring: what was popped, and then what the ring holds, is what was pushed.
use Rattle.std.specs.Prelude.{◌≡◌, ℕ, Bool, true, List, [], ◌∷◌, ◌++◌}
use mathlib.Core.Option.{some}
use lib.ListN.{get_elem?}
use Rattle.block_queue.specs.declared.item.Item.{Item}
use Rattle.block_queue.specs.declared.rule.EndView.{EndView}

-- an end with this leave to push and to pop, and these items pushed and popped
abbrev pub end_view : Bool → Bool → List Item → List Item → EndView
end_view pushes pops pushed popped = record { pushes = pushes; pops = pops; pushed = pushed; popped = popped }

-- the end with this item pushed too
abbrev pub with_pushed : Item → EndView → EndView
with_pushed item v = end_view v.pushes v.pops (v.pushed ++ item ∷ []) v.popped

-- the end with this item popped too
abbrev pub with_popped : Item → EndView → EndView
with_popped item v = end_view v.pushes v.pops v.pushed (v.popped ++ item ∷ [])

-- the pass of this index has the view v: if it may push, it is the feeder's, and what it pushed is all that was pushed; if it may pop, it is the
-- taker's, and what it popped is all that was popped
abbrev pub KnowsEnds : ℕ → ℕ → List Item → List Item → ℕ → EndView → Type 0
KnowsEnds feeder taker pushed popped pass v =
    (v.pushes ≡ true → (pass ≡ feeder) × (v.pushed ≡ pushed)) × (v.pops ≡ true → (pass ≡ taker) × (v.popped ≡ popped))

-- one pass at most pushes and one at most pops, and what was popped, and then what the ring holds, is what was pushed
abbrev pub IsInOrder : List Item → List EndView → Type 0
IsInOrder items views = (feeder : ℕ) × (taker : ℕ) × (pushed : List Item) × (popped : List Item) × (pushed ≡ popped ++ items)
    × ((pass : ℕ) (v : EndView) → get_elem? views pass ≡ some v → KnowsEnds feeder taker pushed popped pass v)

-- these items are the last of all
abbrev pub AreLastOf : List Item → List Item → Type 0
AreLastOf all items = (front : List Item) × (all ≡ front ++ items)

-- these items are the last that the end pushed, and an end that may pop too knows that they are those that it didn't pop
abbrev pub KnowsUnpopped : EndView → List Item → Type 0
KnowsUnpopped v items = AreLastOf v.pushed items × (v.pops ≡ true → v.pushed ≡ v.popped ++ items)

-- an end that may push too knows that what it popped, and then these items, is what was pushed
abbrev pub KnowsWhole : EndView → List Item → Type 0
KnowsWhole v items = v.pushes ≡ true → v.pushed ≡ v.popped ++ items
