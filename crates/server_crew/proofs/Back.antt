-- Links that come back to a door that tells them, or doesn't.
use Rattle.std.proofs.Common.{◌≡◌, List, ◌++◌, refl, sym, ap, ◌∙◌, append_assoc, Option, Some, None, option_map}

module _ {L : Type 0} where
  behind_two : (told : Option (List L)) (xs ys : List L) → option_map (λ others. others ++ ys) (option_map (λ others. others ++ xs) told) ≡ option_map (λ others. others ++ (xs ++ ys)) told
  behind_two None xs ys = refl
  behind_two (Some l) xs ys = ap Some (append_assoc l xs ys)

  -- some came back, and the others are still to
  pub back_many : (old new : Option (List L)) (xs ys zs : List L) → new ≡ option_map (λ others. others ++ xs) old → zs ≡ xs ++ ys → option_map (λ others. others ++ ys) new ≡ option_map (λ others. others ++ zs) old
  back_many old new xs ys zs moved all = ap (option_map (λ others. others ++ ys)) moved ∙ (behind_two old xs ys ∙ ap (λ l. option_map (λ others. others ++ l) old) (sym all))
