-- The seats that are handed in, one after the other.
use Rattle.std.proofs.Common.{◌≡◌, ℕ, ◌<◌, List, [], ◌∷◌, ◌++◌, map, length, get_or, sym, ap, ◌∙◌, subst, append_assoc}
use Rattle.std.specs.List.{remove}
use Rattle.seat_lock.specs.declared.board.Card.{Card}
use Rattle.seat_lock.specs.declared.board.View.{View}
use Rattle.seat_lock.specs.Lists.{Begins}
use Rattle.seat_lock.specs.declared.board.Phase.TheVariants.{Waiting}
use Rattle.seat_lock.specs.Told.{joined_view, with_others, having_turn, in_phase}
use Rattle.seat_lock.proofs.AllOf.{front_is}
use Rattle.seat_lock.specs.Settled.{IsSettled}

module _ {A R F : Type 0} (card_of : A → Card R) where
  -- one seat more of those that are handed in
  pub joins_next : (v0 v u w : View R F) (items : List A) (x : A) (total : List (Card R)) → w ≡ joined_view v u → v ≡ with_others v0 v.others → u.others ≡ [] → u.card ≡ card_of x → 0 < length items → x ≡ get_or items 0 x
      → v.others ++ map card_of items ≡ total → (w ≡ with_others v0 w.others) × (w.others ++ map card_of (remove items 0) ≡ total)
  joins_next v0 v u w items x total joined held alone card some first sum =
      let others : w.others ≡ v.others ++ card_of x ∷ [] = ap (λ z. z.others) joined ∙ (λ i. v.others ++ card i ∷ alone i) in (
        joined ∙ (ap (λ (z : View R F). record z { others = v.others ++ u.card ∷ u.others }) held ∙ ap (with_others v0) (sym (ap (λ (z : View R F). z.others) joined))),
        ap (λ l. l ++ map card_of (remove items 0)) others ∙ (append_assoc v.others (card_of x ∷ []) (map card_of (remove items 0))
            ∙ (ap (λ l. v.others ++ map card_of l) (front_is items x some first) ∙ sum)),
      )

module _ {R : Type 0} where
  -- what the first seat had seen before its last turn is a beginning of the history too
  pub settled_before : (number : R → ℕ) (start log : List R) (c : Card R) (cs : List (Card R)) → Begins c.seen log → IsSettled number start log (record c { seen = log } ∷ cs) → IsSettled number start log (c ∷ cs)
  settled_before number start log c cs begins s = record {
    seats = s.seats;
    behind = s.behind;
    begins = (begins, s.begins.1);
    below = s.below;
    distinct = s.distinct;
    own = s.own;
    splits = s.splits;
    late = s.late;
    maker = s.maker;
    makers = s.makers;
    made = s.made;
    all = λ closed. s.all (record { first = closed.first; made = closed.made });
    few = λ closed. s.few (record { first = closed.first; made = closed.made });
  }

module _ {R F : Type 0} where
  -- what the closing seat knew in front of its turn, together with the others
  pub closes : (number : R → ℕ) (p v1 v2 v3 : View R F) (log : List R) (t : ℕ) (cs : List (Card R)) → v1 ≡ in_phase p (Waiting t) → v2 ≡ having_turn v1 t log → v3 ≡ with_others v2 (v2.others ++ cs) → p.others ≡ [] → Begins v1.card.seen log
      → IsSettled number v3.start v3.card.seen (v3.card ∷ v3.others) → IsSettled number p.start log (p.card ∷ cs)
  closes number p v1 v2 v3 log t cs e1 e2 e3 alone begins s =
      let P : View R F → Type 0 = λ v. IsSettled number v.start v.card.seen (v.card ∷ v.others) in
      let whole : v3 ≡ with_others (having_turn (in_phase p (Waiting t)) t log) (p.others ++ cs) = e3 ∙ ap (λ v. with_others v (v.others ++ cs)) (e2 ∙ ap (λ v. having_turn v t log) e1) in
      settled_before number p.start log p.card cs (subst (λ (v : View R F). Begins v.card.seen log) e1 begins)
      (subst (λ l. IsSettled number p.start log (record p.card { seen = log } ∷ (l ++ cs))) alone (subst P whole s))
