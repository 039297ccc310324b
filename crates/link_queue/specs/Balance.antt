-- What was put into the queue is what was taken and what the queue holds, however links are weighed; and so of the marks.
use Rattle.std.specs.Prelude.{◌≡◌, ℕ, ◌+◌, ◌<◌, List, [], ◌∷◌, ◌++◌, Option, None, Some, IfSome}
use mathlib.Core.Option.{some}
use lib.ListN.{get_elem?}
use Rattle.crossbeam_queue.specs.Passes.{Pass, view}
use Rattle.seat_lock.specs.Lists.{AllOf}
use Rattle.link_queue.specs.declared.rule.Numbered.{Numbered}
use Rattle.link_queue.specs.declared.rule.View.{View}

-- how many parts there are of the right to know the whole
abbrev pub whole : ℕ
whole = 128

module _ {L : Type 0} where
  -- what an end knows: its parts, the links that were put and taken through it, and how many marks were
  abbrev pub knows : ℕ → List L → List L → ℕ → ℕ → View L
  knows parts put taken marks_put marks_taken = record { parts = parts; put = put; taken = taken; marks_put = marks_put; marks_taken = marks_taken }

  -- nothing was put or taken through the end
  abbrev pub HasMovedNothing : View L → Type 0
  HasMovedNothing v = (v.put ≡ []) × (v.taken ≡ []) × (v.marks_put ≡ 0) × (v.marks_taken ≡ 0)

  -- the weights of the links, added up
  abbrev pub weigh : (L → ℕ) → List L → ℕ
  weigh f [] = 0
  weigh f (x ∷ xs) = f x + weigh f xs

  -- the weight of a link, if it is one
  abbrev pub weight_of : (L → ℕ) → Option (Numbered L) → ℕ
  weight_of f None = 0
  weight_of f (Some n) = f n.link

  -- the weights of the links among these, added up
  abbrev pub weigh_in : (L → ℕ) → List (Option (Numbered L)) → ℕ
  weigh_in f [] = 0
  weigh_in f (o ∷ os) = weight_of f o + weigh_in f os

  -- one for a mark, which says that no more links come, and none for a link
  abbrev pub mark_of : Option (Numbered L) → ℕ
  mark_of None = 1
  mark_of (Some n) = 0

  -- how many of these are marks
  abbrev pub marks_in : List (Option (Numbered L)) → ℕ
  marks_in [] = 0
  marks_in (o ∷ os) = mark_of o + marks_in os

  -- the links, and then this one, if it is one
  abbrev pub and_link : List L → Option (Numbered L) → List L
  and_link links None = links
  and_link links (Some n) = links ++ n.link ∷ []

  -- what an end knows that has put this too
  abbrev pub with_put : View L → Option (Numbered L) → View L
  with_put v o = knows v.parts (and_link v.put o) v.taken (v.marks_put + mark_of o) v.marks_taken

  -- what an end knows that has taken this too
  abbrev pub with_taken : View L → Option (Numbered L) → View L
  with_taken v o = knows v.parts v.put (and_link v.taken o) v.marks_put (v.marks_taken + mark_of o)

  -- what an end knows that has taken so many marks too, and then this link, if it is one
  abbrev pub with_left : View L → ℕ → Option (Numbered L) → View L
  with_left v marks o = knows v.parts v.put (and_link v.taken o) v.marks_put (v.marks_taken + marks)

  -- what these views have of something, added up
  abbrev pub total : (View L → ℕ) → List (View L) → ℕ
  total f [] = 0
  total f (v ∷ vs) = f v + total f vs

  -- The rule. All parts are somewhere; what was put is what was taken and what the queue holds, links and marks; a fact is so of each link that
  -- it holds; and an end without a part has put and taken nothing.
  pub record Balanced (fact : L → Type 0) (items : List (Option (Numbered L))) (views : List (View L)) : Type 0 where
    pub parts : total (λ v. v.parts) views ≡ whole
    pub balance : (f : L → ℕ) → total (λ v. weigh f v.put) views ≡ total (λ v. weigh f v.taken) views + weigh_in f items
    pub marks : total (λ v. v.marks_put) views ≡ total (λ v. v.marks_taken) views + marks_in items
    pub facts : AllOf (λ o. IfSome o (λ (n : Numbered L). fact n.link)) items
    pub idle : (port : ℕ) (v : View L) → get_elem? views port ≡ some v → v.parts ≡ 0 → HasMovedNothing v

  -- what an end with all parts knows of what the queue holds
  abbrev pub KnowsRest : View L → List (Option (Numbered L)) → Type 0
  KnowsRest v items = ((f : L → ℕ) → weigh f v.put ≡ weigh f v.taken + weigh_in f items) × (v.marks_put ≡ v.marks_taken + marks_in items)

  -- the end may put and take
  abbrev pub HasPart : Pass (Option (Numbered L)) (View L) → Type 0
  HasPart pass = 0 < (view pass).parts

  -- the end may know the whole
  abbrev pub HasAllParts : Pass (Option (Numbered L)) (View L) → Type 0
  HasAllParts pass = (view pass).parts ≡ whole
