-- Each move keeps the rule of the queue.
use Rattle.std.proofs.Common.{◌≡◌, ◌≢◌, ℕ, zero, suc, ◌+◌, ◌-◌, ◌<◌, List, [], ◌∷◌, ◌++◌, set, sym, refl, ap, ◌∙◌, subst, ⊎_elim, arith, Option, None, Some, IfSome}
use Rattle.seat_lock.proofs.AllOf.{all_append}
use mathlib.Core.Option.{some, none, some-ne-none}
use lib.ListN.{get_elem?}
use Rattle.crossbeam_queue.specs.Fifo.{Pushes, Pops, Forks, Merges, Learns}
use Rattle.crossbeam_queue.proofs.Lists.{at_set, at_snoc}
use Rattle.link_queue.specs.declared.rule.Numbered.{Numbered}
use Rattle.link_queue.specs.declared.rule.View.{View}
use Rattle.link_queue.specs.Balance.{knows, HasMovedNothing, weigh, weight_of, weigh_in, mark_of, marks_in, and_link, with_put, with_taken, with_left, total, Balanced, KnowsRest, whole}

module _ {L : Type 0} where
  weigh-append : (f : L → ℕ) (xs ys : List L) → weigh f (xs ++ ys) ≡ weigh f xs + weigh f ys
  weigh-append f [] ys = omega arith
  weigh-append f (x ∷ xs) ys = let e = weigh-append f xs ys in omega (arith, e)

  weigh_in-snoc : (f : L → ℕ) (xs : List (Option (Numbered L))) (o : Option (Numbered L)) → weigh_in f (xs ++ o ∷ []) ≡ weigh_in f xs + weight_of f o
  weigh_in-snoc f [] o = omega arith
  weigh_in-snoc f (x ∷ xs) o = let e = weigh_in-snoc f xs o in omega (arith, e)

  marks_in-snoc : (xs : List (Option (Numbered L))) (o : Option (Numbered L)) → marks_in (xs ++ o ∷ []) ≡ marks_in xs + mark_of o
  marks_in-snoc [] o = omega arith
  marks_in-snoc (x ∷ xs) o = let e = marks_in-snoc xs o in omega (arith, e)

  weigh_link : (f : L → ℕ) (xs : List L) (o : Option (Numbered L)) → weigh f (and_link xs o) ≡ weigh f xs + weight_of f o
  weigh_link f xs None = omega arith
  weigh_link f xs (Some x) = let e = weigh-append f xs (x.link ∷ []) in omega (arith, e)

  total_set : (f : View L → ℕ) (views : List (View L)) (port : ℕ) (v w : View L) → get_elem? views port ≡ some v → total f (set views port w) + f v ≡ total f views + f w
  total_set f [] port v w e = absurd (some-ne-none v (sym e))
  total_set f (u ∷ us) zero v w e = let same : f u ≡ f v = ap (λ o. elim o as (λ _. ℕ) [ none ↦ 0 | some x ↦ f x ]) e in omega (arith, same)
  total_set f (u ∷ us) (suc port) v w e = let r = total_set f us port v w e in omega (arith, r)

  total_snoc : (f : View L → ℕ) (views : List (View L)) (w : View L) → total f (views ++ w ∷ []) ≡ total f views + f w
  total_snoc f [] w = omega arith
  total_snoc f (u ∷ us) w = let r = total_snoc f us w in omega (arith, r)

  abbrev Idle : List (View L) → Type 0
  Idle views = (port : ℕ) (v : View L) → get_elem? views port ≡ some v → v.parts ≡ 0 → HasMovedNothing v

  idle_set : (views : List (View L)) (port : ℕ) (w : View L) → (w.parts ≡ 0 → HasMovedNothing w) → Idle views → Idle (set views port w)
  idle_set views port w mine idle j u e = ⊎_elim (λ (x : (j ≡ port) × (w ≡ u)). λ z. subst HasMovedNothing x.1 (mine (ap (λ (y : View L). y.parts) x.1 ∙ z)))
      (λ (x : (j ≢ port) × (get_elem? views j ≡ some u)). idle j u x.1) (at_set views port j w u e)

  module _ (fact : L → Type 0) where
    -- an empty queue with one end
    pub begins : Balanced fact [] (knows whole [] [] 0 0 ∷ [])
    begins = record {
      parts = refl;
      balance = λ f. refl;
      marks = refl;
      facts = tt;
      idle = λ port v e z. first_idle port v e z;
    }
      where
        first_idle : (port : ℕ) (v : View L) → get_elem? (knows whole [] [] 0 0 ∷ []) port ≡ some v → v.parts ≡ 0 → HasMovedNothing v
        first_idle zero v e z = absurd (let same : whole ≡ v.parts = ap (λ o. elim o as (λ _. ℕ) [ none ↦ whole | some x ↦ x.parts ]) e in omega (arith, same, z))
        first_idle (suc port) v e z = absurd (some-ne-none v (sym e))

    -- putting in an item
    pub puts : (n port : ℕ) (v : View L) (o : Option (Numbered L)) → 0 < v.parts → IfSome o (λ (n : Numbered L). fact n.link) → Pushes (Balanced fact) n port v o (λ w. w ≡ with_put v o)
    puts n port v o part fine items views room b at =
        let w : View L = with_put v o in (
          w,
          record {
            parts = (let s = total_set (λ u. u.parts) views port v w at in let p = b.parts in omega (arith, s, p));
            balance = λ f. (let s = total_set (λ u. weigh f u.put) views port v w at in let t = total_set (λ u. weigh f u.taken) views port v w at in let p = b.balance f in let q = weigh_link f v.put o in let r = weigh_in-snoc f items o in omega (arith, s, t, p, q, r));
            marks = (let s = total_set (λ u. u.marks_put) views port v w at in let t = total_set (λ u. u.marks_taken) views port v w at in let p = b.marks in let r = marks_in-snoc items o in omega (arith, s, t, p, r));
            facts = all_append (λ x. IfSome x (λ (n : Numbered L). fact n.link)) items (o ∷ []) b.facts (fine, tt);
            idle = idle_set views port w (λ z. absurd (omega (arith, part, z))) b.idle;
          },
          refl,
        )

    -- taking an item out
    pub takes : (port : ℕ) (v : View L) → 0 < v.parts → Pops (Balanced fact) port v (λ o w. (w ≡ with_taken v o) × IfSome o (λ (n : Numbered L). fact n.link))
    takes port v part o items views b at =
        let w : View L = with_taken v o in (
          w,
          record {
            parts = (let s = total_set (λ u. u.parts) views port v w at in let p = b.parts in omega (arith, s, p));
            balance = λ f. (let s = total_set (λ u. weigh f u.put) views port v w at in let t = total_set (λ u. weigh f u.taken) views port v w at in let p = b.balance f in let q = weigh_link f v.taken o in omega (arith, s, t, p, q));
            marks = (let s = total_set (λ u. u.marks_put) views port v w at in let t = total_set (λ u. u.marks_taken) views port v w at in let p = b.marks in omega (arith, s, t, p));
            facts = b.facts.1;
            idle = idle_set views port w (λ z. absurd (omega (arith, part, z))) b.idle;
          },
          (refl, b.facts.0),
        )

    -- a further end, with one part
    pub forks : (port : ℕ) (v : View L) → 1 < v.parts → Forks (Balanced fact) port v (knows (v.parts - 1) v.put v.taken v.marks_put v.marks_taken) (knows 1 [] [] 0 0)
    forks port v some_parts items views b at =
        let l : View L = knows (v.parts - 1) v.put v.taken v.marks_put v.marks_taken in
        let r : View L = knows 1 [] [] 0 0 in
        let vs = set views port l in
        record {
          parts = (let s = total_set (λ u. u.parts) views port v l at in let t = total_snoc (λ u. u.parts) vs r in let p = b.parts in omega (arith, s, t, p, some_parts));
          balance = λ f. (let s = total_set (λ u. weigh f u.put) views port v l at in let s2 = total_snoc (λ u. weigh f u.put) vs r in let t = total_set (λ u. weigh f u.taken) views port v l at in let t2 = total_snoc (λ u. weigh f u.taken) vs r in let p = b.balance f in omega (arith, s, s2, t, t2, p));
          marks = (let s = total_set (λ u. u.marks_put) views port v l at in let s2 = total_snoc (λ u. u.marks_put) vs r in let t = total_set (λ u. u.marks_taken) views port v l at in let t2 = total_snoc (λ u. u.marks_taken) vs r in let p = b.marks in omega (arith, s, s2, t, t2, p));
          facts = b.facts;
          idle = λ j u e. ⊎_elim (λ x. idle_set views port l (λ z. absurd (omega (arith, some_parts, z))) b.idle j u x) (λ (is : r ≡ u). λ z. absurd (let one : 1 ≡ u.parts = ap (λ (y : View L). y.parts) is in omega (arith, one, z))) (at_snoc vs r u j e);
        }

    -- giving up an end
    pub merges : (port : ℕ) (v : View L) (other : ℕ) (u : View L) → 0 < v.parts → Merges (Balanced fact) port v other u (knows (v.parts + u.parts) (v.put ++ u.put) (v.taken ++ u.taken) (v.marks_put + u.marks_put) (v.marks_taken + u.marks_taken)) (knows 0 [] [] 0 0)
    merges port v other u part items views b at two at' =
        let both : View L = knows (v.parts + u.parts) (v.put ++ u.put) (v.taken ++ u.taken) (v.marks_put + u.marks_put) (v.marks_taken + u.marks_taken) in
        let none_left : View L = knows 0 [] [] 0 0 in
        let vs = set views port both in
        record {
          parts = (let s = total_set (λ x. x.parts) views port v both at in let t = total_set (λ x. x.parts) vs other u none_left at' in let p = b.parts in omega (arith, s, t, p));
          balance = λ f. (let s = total_set (λ x. weigh f x.put) views port v both at in let s2 = total_set (λ x. weigh f x.put) vs other u none_left at' in let t = total_set (λ x. weigh f x.taken) views port v both at in
              let t2 = total_set (λ x. weigh f x.taken) vs other u none_left at' in let p = b.balance f in let q = weigh-append f v.put u.put in let q2 = weigh-append f v.taken u.taken in omega (arith, s, s2, t, t2, p, q, q2));
          marks = (let s = total_set (λ x. x.marks_put) views port v both at in let s2 = total_set (λ x. x.marks_put) vs other u none_left at' in let t = total_set (λ x. x.marks_taken) views port v both at in let t2 = total_set (λ x. x.marks_taken) vs other u none_left at' in let p = b.marks in omega (arith, s, s2, t, t2, p));
          facts = b.facts;
          idle = idle_set vs other none_left (λ _. (refl, refl, refl, refl)) (idle_set views port both (λ z. absurd (omega (arith, part, z))) b.idle);
        }

    -- where all parts are with one view, no other has put or taken anything
    total_one : (f : View L → ℕ) (views : List (View L)) (port : ℕ) (v : View L) → get_elem? views port ≡ some v → total (λ u. u.parts) views ≡ v.parts → ((j : ℕ) (u : View L) → get_elem? views j ≡ some u → u.parts ≡ 0 → f u ≡ 0) → total f views ≡ f v
    total_one f [] port v e all none_else = absurd (some-ne-none v (sym e))
    total_one f (u ∷ us) zero v e all none_else =
        let same : u ≡ v = ap (λ o. elim o as (λ _. View L) [ none ↦ u | some x ↦ x ]) e in
        let parts = ap (λ (y : View L). y.parts) same in
        let rest : total f us ≡ 0 = nothing f us (omega (arith, all, parts)) (λ j w at. none_else (suc j) w at) in
        let fs = ap f same in omega (arith, rest, fs)
      where
        nothing : (f : View L → ℕ) (us : List (View L)) → total (λ u. u.parts) us ≡ 0 → ((j : ℕ) (u : View L) → get_elem? us j ≡ some u → u.parts ≡ 0 → f u ≡ 0) → total f us ≡ 0
        nothing f [] z h = refl
        nothing f (w ∷ ws) z h = let a = h 0 w refl (omega (arith, z)) in let b = nothing f ws (omega (arith, z)) (λ j x at. h (suc j) x at) in omega (arith, a, b)
    total_one f (u ∷ us) (suc port) v e all none_else =
        let few = part_le us port v e in
        let mine : u.parts ≡ 0 = omega (arith, all, few) in
        let a = none_else 0 u refl mine in
        let r = total_one f us port v e (omega (arith, all, mine)) (λ j w at. none_else (suc j) w at) in omega (arith, a, r)
      where
        part_le : (us : List (View L)) (port : ℕ) (v : View L) → get_elem? us port ≡ some v → v.parts < suc (total (λ u. u.parts) us)
        part_le [] port v e = absurd (some-ne-none v (sym e))
        part_le (w ∷ ws) zero v e = let same : w.parts ≡ v.parts = ap (λ o. elim o as (λ _. ℕ) [ none ↦ 0 | some x ↦ x.parts ]) e in omega (arith, same)
        part_le (w ∷ ws) (suc port) v e = let r = part_le ws port v e in omega (arith, r)

    -- with all parts, what was put is what was taken and what is there
    pub learns : (port : ℕ) (v : View L) → v.parts ≡ whole → Learns (Balanced fact) port v (KnowsRest v)
    learns port v all items views b at = (
      λ f. (
          let one = total_one (λ u. weigh f u.put) views port v at (b.parts ∙ sym all) (λ j u e z. ap (weigh f) (b.idle j u e z).0) in
          let two = total_one (λ u. weigh f u.taken) views port v at (b.parts ∙ sym all) (λ j u e z. ap (weigh f) (b.idle j u e z).1) in
          let p = b.balance f in omega (arith, one, two, p)
          ),
      (
          let one = total_one (λ u. u.marks_put) views port v at (b.parts ∙ sym all) (λ j u e z. (b.idle j u e z).2) in
          let two = total_one (λ u. u.marks_taken) views port v at (b.parts ∙ sym all) (λ j u e z. (b.idle j u e z).3) in
          let p = b.marks in omega (arith, one, two, p)
          ),
    )

-- a mark that was taken before what comes then, or before another mark
module _ {L : Type 0} where
  pub left_more : (v : View L) (marks : ℕ) (o : Option (Numbered L)) → with_taken (with_left v marks None) o ≡ with_left v (marks + mark_of o) o
  left_more v marks o = let e : (v.marks_taken + marks) + mark_of o ≡ v.marks_taken + (marks + mark_of o) = omega arith in λ i. knows v.parts v.put (and_link v.taken o) v.marks_put (e i)
