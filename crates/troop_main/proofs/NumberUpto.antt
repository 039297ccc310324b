-- The number that a word names, up to one.
use Rattle.std.proofs.Common.{◌≡◌, ℕ, ◌<◌, ◌≤◌, ◌^◌, List, length, Bool, true, false, ◌&&◌, nat_lt, refl, sym, ap, ◌∙◌, arith}
use Rattle.std.specs.Prelude.{Some, None, Ok, Err, if◌then◌else◌}
use Rattle.std.specs.Str.{all_ascii_digits}
use Rattle.std.specs.Str.Parse.{digits_value, ParsesUnsigned}
use Rattle.std.proofs.lemmas.Str.Parse.{IsNumeralModel, numerals_by_value, tells_all_ascii_digits, parse_digits}
use Rattle.troop_main.specs.Words.{is_number, no_greater, number_upto}

own : IsNumeralModel (λ ds. all_ascii_digits ds ≡ true) (digits_value 10)
own = numerals_by_value _ tells_all_ascii_digits

first_part : (a b : Bool) → (a && b) ≡ true → a ≡ true
first_part true b is = refl
first_part false b is = is

second_part : (a b : Bool) → (a && b) ≡ true → b ≡ true
second_part true b is = is
second_part false b is = absurd (cc is)

-- what is greater is none
pub above : (most n : ℕ) → most < n → no_greater most n ≡ None
above most n more = grind arith

-- what isn't is that number
pub within : (most n : ℕ) → n ≤ most → no_greater most n ≡ Some n
within most n few = grind arith

big : (most v n : ℕ) → most < 2 ^ 64 → nat_lt 0 n ≡ true → ((0 < n) × (v < 2 ^ 64) → ⊥) → most < v
big most v n bound some small = grind arith

-- a word of digits that names no number of a u64 names none up to one of these
pub unread : (most : ℕ) (word : List ℕ) → most < 2 ^ 64 → is_number word ≡ true → ParsesUnsigned {E = Unit {0}} 64 10 word (Err tt) → number_upto most word ≡ None
unfolding number_upto
unread most word bound is parsed =
    let digits = first_part (all_ascii_digits word) (nat_lt 0 (length word) && nat_lt (length word) 21) is in
    let long = first_part (nat_lt 0 (length word)) (nat_lt (length word) 21) (second_part (all_ascii_digits word) (nat_lt 0 (length word) && nat_lt (length word) 21) is) in
    ap (λ b. if b then no_greater most (digits_value 10 word) else None) is
    ∙ above most (digits_value 10 word) (big most (digits_value 10 word) (length word) bound long (parse_digits own {E = Unit {0}} 64 word (Err tt) parsed digits))

-- what a word of digits names that is read
pub read : (most n : ℕ) (word : List ℕ) → is_number word ≡ true → ParsesUnsigned {E = Unit {0}} 64 10 word (Ok n) → number_upto most word ≡ no_greater most n
unfolding number_upto
read most n word is parsed =
    let digits = first_part (all_ascii_digits word) (nat_lt 0 (length word) && nat_lt (length word) 21) is in
    let value : n ≡ digits_value 10 word = (parse_digits own {E = Unit {0}} 64 word (Ok n) parsed digits).1 in
    ap (λ b. if b then no_greater most (digits_value 10 word) else None) is ∙ ap (no_greater most) (sym value)
