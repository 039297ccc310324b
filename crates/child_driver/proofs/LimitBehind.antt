-- What is left of a limit behind several writes in a row.
use Rattle.std.proofs.Common.{◌≡◌, ℕ, ◌+◌, refl, ◌∙◌, ap, subst, arith}
use Rattle.std.specs.Prelude.{Option, None, Some, IfSome, option_map}
use Rattle.pipe_ports.specs.Pipes.{bytes_within, limit_behind}
use Rattle.child_driver.specs.Openings.{Covers}

covers_more : (limit : Option ℕ) (at n piece : ℕ) → Covers limit at → n ≡ bytes_within (limit_behind limit at) piece → Covers limit (at + n)
covers_more None at n piece covered took = tt
covers_more (Some most) at n piece covered took = omega arith

-- a limit that let so many bytes through lets the bytes of one more write through
pub took_limit : (old now : Option (Option ℕ)) (at n piece : ℕ) → IfSome old (λ l. Covers l at) → now ≡ option_map (λ l. limit_behind l at) old
    → IfSome now (λ l. n ≡ bytes_within l piece) → IfSome old (λ l. Covers l (at + n))
took_limit None now at n piece covered is took = tt
took_limit (Some limit) now at n piece covered is took =
    covers_more limit at n piece covered (subst (λ o. IfSome o (λ l. n ≡ bytes_within l piece)) is took)

less_more : (limit : Option ℕ) (at n : ℕ) → limit_behind (limit_behind limit at) n ≡ limit_behind limit (at + n)
less_more None at n = refl
less_more (Some most) at n = ap Some (omega arith)

-- what is left of a limit behind one more write
pub later_limit : (old now later : Option (Option ℕ)) (at n : ℕ) → now ≡ option_map (λ l. limit_behind l at) old → later ≡ option_map (λ l. limit_behind l n) now
    → later ≡ option_map (λ l. limit_behind l (at + n)) old
later_limit None now later at n is more = more ∙ ap (option_map (λ l. limit_behind l n)) is
later_limit (Some limit) now later at n is more = more ∙ ap (option_map (λ l. limit_behind l n)) is ∙ ap Some (less_more limit at n)
