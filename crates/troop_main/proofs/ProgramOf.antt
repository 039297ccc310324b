-- What stands in front of the first element that passes, and behind it, of a list whose elements are seen as others.
use Rattle.std.proofs.Common.{◌≡◌, ℕ, ◌+◌, ◌-◌, ◌≤◌, Bool, true, false, not, cond, List, [], ◌∷◌, length, map, take, drop, None, Some, refl, sym, ap, ◌∙◌, arith}
use Rattle.std.specs.List.{position, position_or_len, before_first, after_first}
use Rattle.std.proofs.lemmas.Bool.{ltb-false}
use Rattle.std.proofs.lemmas.List.{take-map, drop-map, take_all, drop_all, length-drop, length-map}

first_of_map : {A B : Type 0} (p : B → Bool) (f : A → B) (xs : List A) → position_or_len p (map f xs) ≡ position_or_len (λ x. p (f x)) xs
first_of_map p f [] = refl
first_of_map p f (x ∷ xs) = ap (λ n. cond (not (p (f x))) (1 + n) 0) (first_of_map p f xs)

found : (b : Bool) (n i : ℕ) → Some i ≡ cond b (Some n) None → i ≡ n
found true n i e = cc
found false n i e = absurd (cc)

-- the place that was found is that of the first
place_is : {A B : Type 0} (p : B → Bool) (f : A → B) (xs : List A) (i : ℕ) → Some i ≡ position (λ x. p (f x)) xs → i ≡ position_or_len p (map f xs)
place_is p f xs i e = found _ (position_or_len (λ x. p (f x)) xs) i e ∙ sym (first_of_map p f xs)

-- what stands in front of the place
pub in_front_of : {A B : Type 0} (p : B → Bool) (f : A → B) (xs : List A) (i : ℕ) → Some i ≡ position (λ x. p (f x)) xs → map f (take i xs) ≡ before_first p (map f xs)
in_front_of p f xs i e = sym (take-map f i xs) ∙ ap (λ n. take n (map f xs)) (place_is p f xs i e)

-- what stands behind the place
pub behind_place : {A B : Type 0} (p : B → Bool) (f : A → B) (xs : List A) (i : ℕ) → Some i ≡ position (λ x. p (f x)) xs
    → map f (take (length xs - (i + 1)) (drop (i + 1) xs)) ≡ after_first p (map f xs)
behind_place p f xs i e =
    let long : length (drop (i + 1) xs) ≤ length xs - (i + 1) = let is = length-drop (i + 1) xs in omega (arith, is) in
    ap (map f) (take_all (length xs - (i + 1)) (drop (i + 1) xs) long) ∙ sym (drop-map f (i + 1) xs) ∙ ap (λ n. drop (n + 1) (map f xs)) (place_is p f xs i e)

not_found : (b : Bool) (n : ℕ) → None ≡ cond b (Some n) None → b ≡ false
not_found true n e = absurd (cc)
not_found false n e = refl

-- none passes: the first would stand behind all
all_of_map : {A B : Type 0} (p : B → Bool) (f : A → B) (xs : List A) → None ≡ position (λ x. p (f x)) xs → length (map f xs) ≤ position_or_len p (map f xs)
all_of_map p f xs e =
    let long : length xs ≤ position_or_len (λ x. p (f x)) xs = ltb-false _ _ (not_found _ _ e) in
    let many = length-map xs f in
    let first = first_of_map p f xs in
    omega (arith, long, many, first)

-- then all stand in front of it
pub all_in_front : {A B : Type 0} (p : B → Bool) (f : A → B) (xs : List A) → None ≡ position (λ x. p (f x)) xs → map f xs ≡ before_first p (map f xs)
all_in_front p f xs e = sym (take_all (position_or_len p (map f xs)) (map f xs) (all_of_map p f xs e))

-- and none behind it
pub none_behind : {A B : Type 0} (p : B → Bool) (f : A → B) (xs : List A) → None ≡ position (λ x. p (f x)) xs → [] ≡ after_first p (map f xs)
none_behind p f xs e =
    let long = all_of_map p f xs e in
    let longer : length (map f xs) ≤ position_or_len p (map f xs) + 1 = omega (arith, long) in
    sym (drop_all (position_or_len p (map f xs) + 1) (map f xs) longer)
