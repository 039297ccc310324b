-- The edit that is drawn, by what was drawn for it.
use Rattle.std.proofs.Common.{◌≡◌, ◌≢◌, ℕ, ◌+◌, ◌<◌, ◌≤◌, Bool, true, false, ◌&&◌, nat_eq, nat_lt, if◌then◌else◌, refl, sym, ap, ◌∙◌, subst, arith}
use Rattle.std.proofs.lemmas.Bool.Decides.{nat_tests}
use Rattle.ot_text.specs.Change.{Change}
use Rattle.draws.specs.Numbers.{number_after_draw, drawn_below}
use Rattle.draws.specs.Edits.{drawn_letter, drawn_edit, drawn_place, number_after_edit, takes_away, with_one, without_one}

-- an edit, and the number held after it
pub record IsDrawn (n number later : ℕ) (op : Change) : Type 0 where
  pub op_is : op ≡ drawn_edit n number
  pub number_is : later ≡ number_after_edit n number

-- both, by whether the edit takes a character away
pub by_test : (n number : ℕ) (b : Bool) → takes_away n number ≡ b
    → (drawn_edit n number ≡ (if b then without_one (drawn_place n number) n else with_one (drawn_place n number) (drawn_letter (number_after_draw (number_after_draw number))) n))
    × (number_after_edit n number ≡ (if b then number_after_draw (number_after_draw number) else number_after_draw (number_after_draw (number_after_draw number))))
unfolding drawn_edit number_after_edit
by_test n number b e = (
  ap (λ t. if t then without_one (drawn_place n number) n else with_one (drawn_place n number) (drawn_letter (number_after_draw (number_after_draw number))) n) e,
  ap (λ t. if t then number_after_draw (number_after_draw number) else number_after_draw (number_after_draw (number_after_draw number))) e,
)

both_true : (a p n : ℕ) → a ≡ 0 → p < n → (nat_eq a 0 && nat_lt p n) ≡ true
both_true a p n e below = grind (arith, nat_tests)

at_end_false : (a p n : ℕ) → n ≤ p → (nat_eq a 0 && nat_lt p n) ≡ false
at_end_false a p n past = by_first (nat_eq a 0)
  where
    by_first : (b : Bool) → (b && nat_lt p n) ≡ false
    by_first true = grind (arith, nat_tests)
    by_first false = refl

other_false : (a p n : ℕ) → a ≢ 0 → (nat_eq a 0 && nat_lt p n) ≡ false
other_false a p n other = let no : nat_eq a 0 ≡ false = grind (arith, nat_tests) in ap (λ b. b && nat_lt p n) no

-- a character went
pub went : (n number place chance first second : ℕ) (op : Change) → place ≡ drawn_below (n + 1) number → first ≡ number_after_draw number → chance ≡ drawn_below 3 first → second ≡ number_after_draw first
    → chance ≡ 0 → place < n → op ≡ without_one place n → IsDrawn n number second op
went n number place chance first second op p f q s zero inside made =
    let drawn : takes_away n number ≡ true = both_true _ _ n (sym (q ∙ ap (drawn_below 3) f) ∙ zero) (subst (λ (k : ℕ). k < n) p inside) in
    let is = by_test n number true drawn in
    record {
      op_is = made ∙ ap (λ k. without_one k n) p ∙ sym is.0;
      number_is = s ∙ ap number_after_draw f ∙ sym is.1;
    }

came : (n number place first second third letter : ℕ) (op : Change) → place ≡ drawn_below (n + 1) number → first ≡ number_after_draw number → second ≡ number_after_draw first → letter ≡ drawn_letter second
    → third ≡ number_after_draw second → takes_away n number ≡ false → op ≡ with_one place letter n → IsDrawn n number third op
came n number place first second third letter op p f s l t drawn made =
    let is = by_test n number false drawn in
    let second_is = s ∙ ap number_after_draw f in
    record {
      op_is = made ∙ ap (λ k. with_one k letter n) p ∙ ap (λ k. with_one (drawn_below (n + 1) number) k n) (l ∙ ap drawn_letter second_is) ∙ sym is.0;
      number_is = t ∙ ap number_after_draw second_is ∙ sym is.1;
    }

-- a letter came, since the place is the end
pub came_at_end : (n number place first second third letter : ℕ) (op : Change) → place ≡ drawn_below (n + 1) number → first ≡ number_after_draw number → second ≡ number_after_draw first → letter ≡ drawn_letter second
    → third ≡ number_after_draw second → n ≤ place → op ≡ with_one place letter n → IsDrawn n number third op
came_at_end n number place first second third letter op p f s l t past made =
    came n number place first second third letter op p f s l t (at_end_false _ _ n (subst (λ (k : ℕ). n ≤ k) p past)) made

-- a letter came by chance
pub came_by_chance : (n number place chance first second third letter : ℕ) (op : Change) → place ≡ drawn_below (n + 1) number → first ≡ number_after_draw number → chance ≡ drawn_below 3 first → second ≡ number_after_draw first
    → letter ≡ drawn_letter second → third ≡ number_after_draw second → chance ≢ 0 → op ≡ with_one place letter n → IsDrawn n number third op
came_by_chance n number place chance first second third letter op p f q s l t other made =
    came n number place first second third letter op p f s l t (other_false _ _ n (λ zero. other (q ∙ ap (drawn_below 3) f ∙ zero))) made
