-- Each way round makes the merge of both.
use Rattle.std.proofs.Common.{◌≡◌, ℕ, suc, ◌+◌, ◌&&◌, if◌then◌else◌, List, [], ◌∷◌, ◌++◌, length, map, refl, sym, ap, ◌∙◌, append-nil, arith}
use Rattle.ot_text.specs.Change.{Fate, Gone, Kept, Change, base, target, fates_target, stays, text_behind, effect_on, effect, insert_then, retain_then}
use Rattle.ot_text.proofs.EffectOf.{effect-insert_then}
use Rattle.ot_text.proofs.Then.{base-retain_then}
use Rattle.ot_transform.specs.Merge.{merge_at, merge}
use Rattle.ot_transform.specs.Transform.{place_then, left_gap_then, left_on, left, right_gap_then, right_on, right}
use Rattle.ot_transform.proofs.EachGap.{change, each_from-suc, append_of_three}

-- retaining new characters
effect-retain_new : {X : Type 0} (new other : ℕ → X) (t : List ℕ) (c : Change) (m : List X)
    → effect new (retain_then (length t) c) (map other t ++ m) ≡ map other t ++ effect new c m
effect-retain_new new other [] c m = refl
effect-retain_new new other (y ∷ t) c m = ap (λ rest. other y ∷ rest) (effect-retain_new new other t c m)

effect-left_gap : {X : Type 0} (new other : ℕ → X) (s t : List ℕ) (c : Change) (m : List X)
    → effect new (left_gap_then s t c) (map other t ++ m)
    ≡ map new s ++ (map other t ++ effect new c m)
effect-left_gap new other s t c m =
    effect-insert_then new s (retain_then (length t) c) (map other t ++ m)
    ∙ ap (λ rest. map new s ++ rest) (effect-retain_new new other t c m)

effect-right_gap : {X : Type 0} (new other : ℕ → X) (s t : List ℕ) (c : Change) (m : List X)
    → effect new (right_gap_then s t c) (map other s ++ m)
    ≡ map other s ++ (map new t ++ effect new c m)
effect-right_gap new other s t c m =
    effect-retain_new new other s (insert_then t c) m
    ∙ ap (λ rest. map other s ++ rest) (effect-insert_then new t c m)

-- one place: it is there if both keep it
abbrev if_both : {X : Type 0} → Fate → Fate → X → List X
if_both f g x = if stays f && stays g then x ∷ [] else []

effect-left_place : {X : Type 0} (new other : ℕ → X) (f g : Fate) (gs : List Fate) (c : Change) (x : X) (m : List X)
    → effect new (place_then f g c) (effect_on other (g ∷ gs) (x ∷ m))
    ≡ if_both f g x ++ effect new c (effect other (change (text_behind g) gs) m)
effect-left_place new other Gone Gone gs c x m = refl
effect-left_place new other (Kept s) Gone gs c x m = refl
effect-left_place new other Gone (Kept t) gs c x m = refl
effect-left_place new other (Kept s) (Kept t) gs c x m = refl

effect-right_place : {X : Type 0} (new other : ℕ → X) (f g : Fate) (fs : List Fate) (c : Change) (x : X) (m : List X)
    → effect new (place_then g f c) (effect_on other (f ∷ fs) (x ∷ m))
    ≡ if_both f g x ++ effect new c (effect other (change (text_behind f) fs) m)
effect-right_place new other Gone Gone fs c x m = refl
effect-right_place new other (Kept s) Gone fs c x m = refl
effect-right_place new other Gone (Kept t) fs c x m = refl
effect-right_place new other (Kept s) (Kept t) fs c x m = refl

-- the merge begins with the first gap and the first place
merge-nil : {X : Type 0} (new_a new_b : ℕ → X) (s t : List ℕ)
    → map new_a s ++ (map new_b t ++ []) ≡ merge new_a (change s []) new_b (change t []) []
merge-nil new_a new_b s t = sym (append-nil (map new_a s ++ (map new_b t ++ [])))

merge-cons : {X : Type 0} (new_a new_b : ℕ → X) (s t : List ℕ) (f g : Fate) (fs gs : List Fate) (x : X) (m : List X)
    → map new_a s
    ++ (map new_b t ++ (if_both f g x ++ merge new_a (change (text_behind f) fs) new_b (change (text_behind g) gs) m))
    ≡ merge new_a (change s (f ∷ fs)) new_b (change t (g ∷ gs)) (x ∷ m)
merge-cons new_a new_b s t f g fs gs x m =
    sym (append_of_three (map new_a s) (map new_b t) (if_both f g x) _)
    ∙ ap (λ rest. merge_at new_a (change s (f ∷ fs)) new_b (change t (g ∷ gs)) (x ∷ m) 0 ++ rest)
    (sym (each_from-suc (merge_at new_a (change s (f ∷ fs)) new_b (change t (g ∷ gs)) (x ∷ m)) 0 (suc (length m))))

effect-left_from : {X : Type 0} (new_a new_b : ℕ → X) (s t : List ℕ) (fs gs : List Fate) (m : List X)
    → length fs ≡ length m → length gs ≡ length m
    → effect new_a (left (change s fs) (change t gs)) (effect new_b (change t gs) m)
    ≡ merge new_a (change s fs) new_b (change t gs) m
effect-left_from new_a new_b s t [] [] [] p q =
    effect-left_gap new_a new_b s t (left_on [] []) [] ∙ merge-nil new_a new_b s t
effect-left_from new_a new_b s t [] gs (x ∷ m) p q = absurd (omega arith)
effect-left_from new_a new_b s t (f ∷ fs) gs [] p q = absurd (omega arith)
effect-left_from new_a new_b s t [] (g ∷ gs) [] p q = absurd (omega arith)
effect-left_from new_a new_b s t (f ∷ fs) [] (x ∷ m) p q = absurd (omega arith)
effect-left_from new_a new_b s t (f ∷ fs) (g ∷ gs) (x ∷ m) p q =
    effect-left_gap new_a new_b s t (left_on (f ∷ fs) (g ∷ gs)) (effect_on new_b (g ∷ gs) (x ∷ m))
    ∙ ap (λ rest. map new_a s ++ (map new_b t ++ rest))
    (effect-left_place new_a new_b f g gs (left (change (text_behind f) fs) (change (text_behind g) gs)) x m
    ∙ ap (λ rest. if_both f g x ++ rest)
    (effect-left_from new_a new_b (text_behind f) (text_behind g) fs gs m (omega arith) (omega arith)))
    ∙ merge-cons new_a new_b s t f g fs gs x m

effect-right_from : {X : Type 0} (new_a new_b : ℕ → X) (s t : List ℕ) (fs gs : List Fate) (m : List X)
    → length fs ≡ length m → length gs ≡ length m
    → effect new_b (right (change t gs) (change s fs)) (effect new_a (change s fs) m)
    ≡ merge new_a (change s fs) new_b (change t gs) m
effect-right_from new_a new_b s t [] [] [] p q =
    effect-right_gap new_b new_a s t (right_on [] []) [] ∙ merge-nil new_a new_b s t
effect-right_from new_a new_b s t [] gs (x ∷ m) p q = absurd (omega arith)
effect-right_from new_a new_b s t (f ∷ fs) gs [] p q = absurd (omega arith)
effect-right_from new_a new_b s t [] (g ∷ gs) [] p q = absurd (omega arith)
effect-right_from new_a new_b s t (f ∷ fs) [] (x ∷ m) p q = absurd (omega arith)
effect-right_from new_a new_b s t (f ∷ fs) (g ∷ gs) (x ∷ m) p q =
    effect-right_gap new_b new_a s t (right_on (g ∷ gs) (f ∷ fs)) (effect_on new_a (f ∷ fs) (x ∷ m))
    ∙ ap (λ rest. map new_a s ++ (map new_b t ++ rest))
    (effect-right_place new_b new_a f g fs (right (change (text_behind g) gs) (change (text_behind f) fs)) x m
    ∙ ap (λ rest. if_both f g x ++ rest)
    (effect-right_from new_a new_b (text_behind f) (text_behind g) fs gs m (omega arith) (omega arith)))
    ∙ merge-cons new_a new_b s t f g fs gs x m

-- the second operation, then the first moved through it, make the merge
pub effect-left : {X : Type 0} (new_a new_b : ℕ → X) (a b : Change) (m : List X) → base a ≡ length m
    → base b ≡ length m → effect new_a (left a b) (effect new_b b m) ≡ merge new_a a new_b b m
effect-left new_a new_b a b m p q = effect-left_from new_a new_b a.start b.start a.places b.places m p q

-- the first operation, then the second moved through it, make the merge
pub effect-right : {X : Type 0} (new_a new_b : ℕ → X) (a b : Change) (m : List X) → base a ≡ length m
    → base b ≡ length m → effect new_b (right b a) (effect new_a a m) ≡ merge new_a a new_b b m
effect-right new_a new_b a b m p q = effect-right_from new_a new_b a.start b.start a.places b.places m p q

-- a gap goes over the other one's text
base-left_gap_then : (s t : List ℕ) (c : Change) → base (left_gap_then s t c) ≡ length t + base c
base-left_gap_then s t c = base-retain_then (length t) c

base-right_gap_then : (s t : List ℕ) (c : Change) → base (right_gap_then s t c) ≡ length s + base c
base-right_gap_then s t c = base-retain_then (length s) (insert_then t c)

base-left_on : (fs gs : List Fate) → length fs ≡ length gs → base (left_on fs gs) ≡ fates_target gs
base-left_on [] [] p = refl
base-left_on [] (g ∷ gs) p = absurd (omega arith)
base-left_on (f ∷ fs) [] p = absurd (omega arith)
base-left_on (Gone ∷ fs) (Gone ∷ gs) p = base-left_on fs gs (omega arith)
base-left_on (Kept s ∷ fs) (Gone ∷ gs) p = base-left_on fs gs (omega arith)
base-left_on (Gone ∷ fs) (Kept t ∷ gs) p =
    omega (arith, base-left_gap_then [] t (left_on fs gs), base-left_on fs gs (omega arith))
base-left_on (Kept s ∷ fs) (Kept t ∷ gs) p =
    omega (arith, base-left_gap_then s t (left_on fs gs), base-left_on fs gs (omega arith))

-- an operation moved as the first has the other's target as its base
pub base-left : (a b : Change) → base a ≡ base b → base (left a b) ≡ target b
base-left a b p =
    omega (arith, base-left_gap_then a.start b.start (left_on a.places b.places), base-left_on a.places b.places p)

base-right_on : (gs fs : List Fate) → length gs ≡ length fs → base (right_on gs fs) ≡ fates_target fs
base-right_on [] [] p = refl
base-right_on [] (f ∷ fs) p = absurd (omega arith)
base-right_on (g ∷ gs) [] p = absurd (omega arith)
base-right_on (Gone ∷ gs) (Gone ∷ fs) p = base-right_on gs fs (omega arith)
base-right_on (Kept t ∷ gs) (Gone ∷ fs) p = base-right_on gs fs (omega arith)
base-right_on (Gone ∷ gs) (Kept s ∷ fs) p =
    omega (arith, base-right_gap_then s [] (right_on gs fs), base-right_on gs fs (omega arith))
base-right_on (Kept t ∷ gs) (Kept s ∷ fs) p =
    omega (arith, base-right_gap_then s t (right_on gs fs), base-right_on gs fs (omega arith))

-- an operation moved as the second has the other's target as its base
pub base-right : (a b : Change) → base a ≡ base b → base (right b a) ≡ target a
base-right a b p =
    let same : length b.places ≡ length a.places = sym p in
    omega (arith, base-right_gap_then a.start b.start (right_on b.places a.places), base-right_on b.places a.places same)
