-- How a composition goes on.
use Rattle.std.proofs.Common.{◌≡◌, ℕ, ◌+◌, ◌-◌, ◌≤◌, List, length, take, drop, refl, sym, ap, ◌∙◌, arith}
use Rattle.std.proofs.lemmas.List.{length-take-le}
use Rattle.ot_text.specs.Change.{Change, base, target, nothing, insert_then, retain_then, delete_then, then}
use Rattle.ot_text.specs.Parts.{norm}
use Rattle.ot_text.proofs.Then.{then_assoc, then-nothing, then-insert_then, then-retain_then, then-delete_then, base-then, base-retain_then, base-delete_then, target-then, target-insert_then, target-retain_then, target-delete_then}
use Rattle.ot_transform.specs.declared.composite.Composer.{Composer}
use Rattle.ot_transform.specs.Composition.{comp}
use Rattle.ot_transform.specs.Progress.{unchanged, GoesOn}
use Rattle.ot_transform.proofs.CompSteps.{comp-second_text, comp-characters_kept, comp-characters_gone, comp-places_kept, comp-places_gone, comp-removed}

-- the composer has not moved
pub rests : (now : Composer) → GoesOn 0 0 unchanged unchanged now now
rests now = record { whole = λ c. refl; over_made = omega arith; used_up = omega arith; room = refl }

-- a step is put behind what is made
puts : (from to : Change → Change) (step : Change) (old mid new : Composer) (over used : ℕ)
    → GoesOn 0 0 unchanged unchanged old mid → new.made ≡ then mid.made step
    → ((c : Change) → comp (from c) (norm mid.rest) ≡ then step (comp (to c) (norm new.rest))) → base step ≡ over
    → base (norm new.rest) + used ≡ base (norm mid.rest)
    → target step + target (norm new.rest) ≡ target (norm mid.rest) → GoesOn over used from to old new
puts from to step old mid new over used so_far made composed goes_over used_up room = record {
  whole = λ c. so_far.whole (from c)
      ∙ ap (then mid.made) (composed c)
      ∙ sym (then_assoc mid.made step (comp (to c) (norm new.rest)))
      ∙ ap (λ x. then x (comp (to c) (norm new.rest))) (sym made);
  over_made = omega (arith, ap base made, base-then mid.made step, goes_over, so_far.over_made);
  used_up = omega (arith, used_up, so_far.used_up);
  room = omega (arith, ap target made, target-then mid.made step, room, so_far.room);
}

-- the second operation's next text
pub second_text_put : (old new : Composer) (t : List ℕ) → norm old.rest ≡ insert_then t (norm new.rest)
    → new.made ≡ then old.made (insert_then t nothing) → GoesOn 0 0 unchanged unchanged old new
second_text_put old new t rest made =
    let b : Change = norm new.rest in
    puts unchanged unchanged (insert_then t nothing) old old new 0 0 (rests old) made
    (λ c. ap (comp c) rest ∙ comp-second_text t c b ∙ sym (then-insert_then t nothing (comp c b)))
    refl
    (omega (arith, ap base rest))
    (omega (arith, ap target rest, target-insert_then t b, target-insert_then t nothing))

-- characters that the first operation puts in and the second keeps
pub characters_kept : (old mid new : Composer) (t : List ℕ) (n : ℕ) → n ≤ length t → GoesOn 0 0 unchanged unchanged old mid
    → norm mid.rest ≡ retain_then n (norm new.rest) → new.made ≡ then mid.made (insert_then (take n t) nothing)
    → GoesOn 0 n (insert_then t) (insert_then (drop n t)) old new
characters_kept old mid new t n within so_far rest made =
    let b : Change = norm new.rest in
    puts (insert_then t) (insert_then (drop n t)) (insert_then (take n t) nothing) old mid new 0 n so_far made
    (λ c. ap (comp (insert_then t c)) rest
    ∙ comp-characters_kept n t c b within
    ∙ sym (then-insert_then (take n t) nothing (comp (insert_then (drop n t) c) b)))
    refl
    (omega (arith, ap base rest, base-retain_then n b))
    (omega (arith, ap target rest, target-retain_then n b, target-insert_then (take n t) nothing, length-take-le n t within))

-- characters that the first operation puts in and the second removes
pub characters_gone : (old mid new : Composer) (t : List ℕ) (n : ℕ) → n ≤ length t → GoesOn 0 0 unchanged unchanged old mid
    → norm mid.rest ≡ delete_then n (norm new.rest) → new.made ≡ mid.made
    → GoesOn 0 n (insert_then t) (insert_then (drop n t)) old new
characters_gone old mid new t n within so_far rest made =
    let b : Change = norm new.rest in
    puts (insert_then t) (insert_then (drop n t)) nothing old mid new 0 n so_far (made ∙ sym (then-nothing mid.made))
    (λ c. ap (comp (insert_then t c)) rest ∙ comp-characters_gone n t c b within)
    refl
    (omega (arith, ap base rest, base-delete_then n b))
    (omega (arith, ap target rest, target-delete_then n b))

-- places that both keep
pub places_kept : (old mid new : Composer) (k n : ℕ) → n ≤ k → GoesOn 0 0 unchanged unchanged old mid
    → norm mid.rest ≡ retain_then n (norm new.rest) → new.made ≡ then mid.made (retain_then n nothing)
    → GoesOn n n (retain_then k) (retain_then (k - n)) old new
places_kept old mid new k n within so_far rest made =
    let b : Change = norm new.rest in
    puts (retain_then k) (retain_then (k - n)) (retain_then n nothing) old mid new n n so_far made
    (λ c. ap (comp (retain_then k c)) rest
    ∙ comp-places_kept n k c b within
    ∙ sym (then-retain_then n nothing (comp (retain_then (k - n) c) b)))
    (omega (arith, base-retain_then n nothing))
    (omega (arith, ap base rest, base-retain_then n b))
    (omega (arith, ap target rest, target-retain_then n b, target-retain_then n nothing))

-- places that the first operation keeps and the second removes
pub places_gone : (old mid new : Composer) (k n : ℕ) → n ≤ k → GoesOn 0 0 unchanged unchanged old mid
    → norm mid.rest ≡ delete_then n (norm new.rest) → new.made ≡ then mid.made (delete_then n nothing)
    → GoesOn n n (retain_then k) (retain_then (k - n)) old new
places_gone old mid new k n within so_far rest made =
    let b : Change = norm new.rest in
    puts (retain_then k) (retain_then (k - n)) (delete_then n nothing) old mid new n n so_far made
    (λ c. ap (comp (retain_then k c)) rest
    ∙ comp-places_gone n k c b within
    ∙ sym (then-delete_then n nothing (comp (retain_then (k - n) c) b)))
    (omega (arith, base-delete_then n nothing))
    (omega (arith, ap base rest, base-delete_then n b))
    (omega (arith, ap target rest, target-delete_then n b, target-delete_then n nothing))

-- places that the first operation removes
pub places_removed : (old new : Composer) (k : ℕ) → new.rest ≡ old.rest
    → new.made ≡ then old.made (delete_then k nothing) → GoesOn k 0 (delete_then k) unchanged old new
places_removed old new k rest made =
    let b : Change = norm new.rest in
    let e : norm old.rest ≡ b = ap norm (sym rest) in
    puts (delete_then k) unchanged (delete_then k nothing) old old new k 0 (rests old) made
    (λ c. ap (comp (delete_then k c)) e ∙ comp-removed k c b ∙ sym (then-delete_then k nothing (comp c b)))
    (omega (arith, base-delete_then k nothing))
    (omega (arith, ap base e))
    (omega (arith, ap target e, target-delete_then k nothing))
