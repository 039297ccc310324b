-- The performer of a number among the others.
use Rattle.std.proofs.Common.{◌≡◌, ◌≢◌, ℕ, zero, suc, ◌+◌, ◌<◌, Bool, true, false, cond, if◌then◌else◌, None, Some, List, [], ◌∷◌, length, map, set, slice_get, refl, sym, ap, ◌∙◌, subst, arith}
use Rattle.std.specs.Prelude.{◌==◌}
use Rattle.std.specs.List.{position_from}
use Rattle.log_model.proofs.Lists.{true_equal, equal_true}
use Rattle.world_core.specs.declared.performer.Performer.{Performer}
use Rattle.world_core.specs.States.{PerformerState, performer_with, with_performer}
use Rattle.world_core.specs.Values.{performer_state}

-- each performer's number is that of its stage
abbrev pub AreNumbered : List Performer → Type 0
AreNumbered ps = (i : ℕ) (p : Performer) → slice_get ps i ≡ Some p → p.who ≡ p.stage.staged.own

abbrev pub has_number : ℕ → Performer → Bool
has_number who p = p.who == who

-- the performer at this index is the one of this number, and a change of it is one of the list at that index
pub record IsAt (who : ℕ) (ps : List Performer) (i : ℕ) (p : Performer) : Type 0 where
  pub inside : i < length ps
  pub is_there : slice_get ps i ≡ Some p
  pub is_found : performer_with who (map performer_state ps) ≡ Some (performer_state p)
  pub own_is : p.stage.staged.own ≡ who
  pub set_is : (change : PerformerState → PerformerState) (q : Performer) → performer_state q ≡ change (performer_state p)
      → map performer_state (set ps i q) ≡ with_performer who change (map performer_state ps)

tail_numbered : (p : Performer) (ps : List Performer) → AreNumbered (p ∷ ps) → AreNumbered ps
tail_numbered p ps all = λ i q e. all (suc i) q e

same_test : (p : Performer) (ps : List Performer) (who : ℕ) (b : Bool) → AreNumbered (p ∷ ps) → (p.who == who) ≡ b → (p.stage.staged.own == who) ≡ b
same_test p ps who b all e = subst (λ (n : ℕ). (n == who) ≡ b) (all 0 p refl) e

-- where a position is found, the performer of that number stands there
pub found : (who at : ℕ) (ps : List Performer) (k : ℕ) → AreNumbered ps → position_from (has_number who) at ps ≡ Some k
    → (i : ℕ) × (k ≡ at + i) × ((p : Performer) × IsAt who ps i p)
found who at [] k all e = absurd (cc)
found who at (p ∷ ps) k all e = by_test (p.who == who) refl (λ f. found who (at + 1) ps k (tail_numbered p ps all) f)
  where
    by_test : (b : Bool) → (p.who == who) ≡ b → (position_from (has_number who) (at + 1) ps ≡ Some k → (i : ℕ) × (k ≡ at + 1 + i) × ((q : Performer) × IsAt who ps i q))
        → (i : ℕ) × (k ≡ at + i) × ((q : Performer) × IsAt who (p ∷ ps) i q)
    by_test true t next =
        let here : (p.stage.staged.own == who) ≡ true = same_test p ps who true all t in
        let is : Some at ≡ Some k = sym (ap (λ b. cond b (Some at) (position_from (has_number who) (at + 1) ps)) t) ∙ e in
        let k_is : at ≡ k = cc in (
          0,
          omega (arith, k_is),
          (
            p,
            record {
              inside = omega arith;
              is_there = refl;
              is_found = ap (λ b. if b then Some (performer_state p) else performer_with who (map performer_state ps)) here;
              own_is = true_equal p.stage.staged.own who here;
              set_is = λ change q same.
                  ap (λ r. r ∷ map performer_state ps) same
                  ∙ sym (ap (λ b. if b then change (performer_state p) ∷ map performer_state ps else performer_state p ∷ with_performer who change (map performer_state ps)) here);
            },
          ),
        )
    by_test false t next =
        let here : (p.stage.staged.own == who) ≡ false = same_test p ps who false all t in
        let later = next (sym (ap (λ b. cond b (Some at) (position_from (has_number who) (at + 1) ps)) t) ∙ e) in
        let is = later.2.1 in (
          suc later.0,
          omega (arith, later.1),
          (
            later.2.0,
            record {
              inside = omega (arith, is.inside);
              is_there = is.is_there;
              is_found = ap (λ b. if b then Some (performer_state p) else performer_with who (map performer_state ps)) here ∙ is.is_found;
              own_is = is.own_is;
              set_is = λ change q same.
                  ap (λ r. performer_state p ∷ r) (is.set_is change q same)
                  ∙ sym (ap (λ b. if b then change (performer_state p) ∷ map performer_state ps else performer_state p ∷ with_performer who change (map performer_state ps)) here);
            },
          ),
        )

-- where none is found, there is no performer of that number
pub none_found : (who at : ℕ) (ps : List Performer) → AreNumbered ps → position_from (has_number who) at ps ≡ None
    → (performer_with who (map performer_state ps) ≡ None) × ((i : ℕ) (p : Performer) → slice_get ps i ≡ Some p → who ≢ p.stage.staged.own)
none_found who at [] all e = (refl, λ i p is. absurd (cc))
none_found who at (p ∷ ps) all e = by_test (p.who == who) refl (λ f. none_found who (at + 1) ps (tail_numbered p ps all) f)
  where
    by_test : (b : Bool) → (p.who == who) ≡ b
        → (position_from (has_number who) (at + 1) ps ≡ None → (performer_with who (map performer_state ps) ≡ None) × ((i : ℕ) (q : Performer) → slice_get ps i ≡ Some q → who ≢ q.stage.staged.own))
        → (performer_with who (map performer_state (p ∷ ps)) ≡ None) × ((i : ℕ) (q : Performer) → slice_get (p ∷ ps) i ≡ Some q → who ≢ q.stage.staged.own)
    by_test true t next =
        let is : Some at ≡ None = sym (ap (λ b. cond b (Some at) (position_from (has_number who) (at + 1) ps)) t) ∙ e in absurd (cc)
    by_test false t next =
        let here : (p.stage.staged.own == who) ≡ false = same_test p ps who false all t in
        let later = next (sym (ap (λ b. cond b (Some at) (position_from (has_number who) (at + 1) ps)) t) ∙ e) in (
          ap (λ b. if b then Some (performer_state p) else performer_with who (map performer_state ps)) here ∙ later.0,
          each here later.1,
        )
      where
        each : (p.stage.staged.own == who) ≡ false → ((i : ℕ) (q : Performer) → slice_get ps i ≡ Some q → who ≢ q.stage.staged.own)
            → (i : ℕ) (q : Performer) → slice_get (p ∷ ps) i ≡ Some q → who ≢ q.stage.staged.own
        each here none zero q is same =
            let one : p ≡ q = cc in
            let yes : (p.stage.staged.own == who) ≡ true = equal_true p.stage.staged.own who (ap (λ (r : Performer). r.stage.staged.own) one ∙ sym same) in
            let no : true ≡ false = sym yes ∙ here in absurd (cc)
        each here none (suc i) q is same = none i q is same
