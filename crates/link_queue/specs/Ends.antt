-- What a contract sees of a queue and of its ends.
use Rattle.std.specs.Prelude.{◌≡◌, ℕ, ◌+◌, List, [], Option}
use Rattle.atomic_table.specs.Seated.{TableId}
use Rattle.crossbeam_queue.specs.Passes.{Pass, view}
use Rattle.link_queue.specs.declared.rule.Numbered.{Numbered}
use Rattle.link_queue.specs.declared.rule.View.{View}
use Rattle.link_queue.specs.Balance.{and_link, mark_of}

-- a queue: which one it is, and how many places it has
pub record LinkQueueValue : Type 0 where
  pub table : TableId
  pub places : ℕ

-- an end: its queue; its number there; its parts of the right to know the whole; the links that were put and taken through it; and how many
-- marks that no more links come
pub record LinkEndValue (L : Type 0) : Type 0 where
  pub queue : TableId
  pub id : ℕ
  pub parts : ℕ
  pub put : List L
  pub taken : List L
  pub marks_put : ℕ
  pub marks_taken : ℕ

module _ {L : Type 0} where
  -- the end that a pass of the ring is
  abbrev pub end_of : Pass (Option (Numbered L)) (View L) → LinkEndValue L
  end_of pass = record { queue = pass.table_id; id = pass.id; parts = (view pass).parts; put = (view pass).put; taken = (view pass).taken; marks_put = (view pass).marks_put; marks_taken = (view pass).marks_taken }

  -- nothing was put or taken through the end
  abbrev pub IsUnused : LinkEndValue L → Type 0
  IsUnused end = (end.put ≡ []) × (end.taken ≡ []) × (end.marks_put ≡ 0) × (end.marks_taken ≡ 0)

  -- what was put and taken through the one end was through the other
  abbrev pub HasMovedSame : LinkEndValue L → LinkEndValue L → Type 0
  HasMovedSame old new = (new.put ≡ old.put) × (new.taken ≡ old.taken) × (new.marks_put ≡ old.marks_put) × (new.marks_taken ≡ old.marks_taken)

  -- the same end, that has put a link too, or a mark
  abbrev pub having_put : LinkEndValue L → Option (Numbered L) → LinkEndValue L
  having_put end o = record { queue = end.queue; id = end.id; parts = end.parts; put = and_link end.put o; taken = end.taken; marks_put = end.marks_put + mark_of o; marks_taken = end.marks_taken }

  -- the same end, that has taken a link too, or a mark
  abbrev pub having_taken : LinkEndValue L → Option (Numbered L) → LinkEndValue L
  having_taken end o = record { queue = end.queue; id = end.id; parts = end.parts; put = end.put; taken = and_link end.taken o; marks_put = end.marks_put; marks_taken = end.marks_taken + mark_of o }

  -- the same end, that has taken so many marks too, and then a link, if this is one
  abbrev pub having_left : LinkEndValue L → ℕ → Option (Numbered L) → LinkEndValue L
  having_left end marks o = record { queue = end.queue; id = end.id; parts = end.parts; put = end.put; taken = and_link end.taken o; marks_put = end.marks_put; marks_taken = end.marks_taken + marks }
