-- What contracts see of a queue and of its two ends.
use Rattle.std.specs.Prelude.{◌≡◌, ℕ, Bool, true, false, List, [], ◌++◌, length, Option, None, Some}
use Rattle.atomic_table.specs.Seated.{TableId}
use Rattle.crossbeam_queue.specs.Passes.{Pass, view}
use Rattle.block_queue.specs.declared.item.Item.{Item}
use Rattle.block_queue.specs.declared.rule.EndView.{EndView}

-- a queue: which one it is, and how many items it has room for
pub record QueueValue : Type 0 where
  pub table : TableId
  pub room : ℕ

-- an end of a queue: of which one, the items that went through this end, and those that went through the other end, where it was taken in
pub record EndValue : Type 0 where
  pub table : TableId
  pub items : List Item
  pub other : Option (List Item)

-- it is an end of this queue
abbrev pub IsEndOf : QueueValue → EndValue → Type 0
IsEndOf q e = e.table ≡ q.table

-- the items pushed are those popped, and then as many as a queue with this room holds
abbrev pub IsFullBehind : ℕ → List Item → List Item → Type 0
IsFullBehind room popped pushed = (items : List Item) × (length items ≡ room) × (pushed ≡ popped ++ items)

-- ---- for invariants alone: what an end may do, and what went through it

-- the pass of an end that pushes, with no step under way
abbrev pub MayPush : Pass Item EndView → Type 0
MayPush p = (p.me.1 ≡ []) × ((view p).pushes ≡ true)

-- the pass of an end that pops, with no step under way
abbrev pub MayPop : Pass Item EndView → Type 0
MayPop p = (p.me.1 ≡ []) × ((view p).pops ≡ true)

-- what was pushed by this pass
abbrev pub pushed_by : Pass Item EndView → List Item
pushed_by p = (view p).pushed

-- what was popped by this pass
abbrev pub popped_by : Pass Item EndView → List Item
popped_by p = (view p).popped

-- these items, if so
abbrev pub told_if : Bool → List Item → Option (List Item)
told_if true items = Some items
told_if false items = None

-- what the other end has pushed, if the one that pops has taken it in
abbrev pub taken_in_by : Pass Item EndView → Option (List Item)
taken_in_by p = told_if (view p).pushes (view p).pushed

-- what the other end has popped, if the one that pushes has taken it in
abbrev pub popped_behind : Pass Item EndView → Option (List Item)
popped_behind p = told_if (view p).pops (view p).popped
