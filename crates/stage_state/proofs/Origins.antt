-- The lists of acts that a hall knows of.
use Rattle.std.proofs.Common.{◌≡◌, ℕ, true, List, [], ◌∷◌, ◌++◌, subst}
use Rattle.std.proofs.lemmas.List.{map-append}
use Rattle.stage_state.specs.declared.act.Act.{Act}
use Rattle.stage_state.specs.declared.played.Origin.{Origin}
use Rattle.stage_state.specs.Machine.{IsPlayed}
use Rattle.stage_state.specs.Origins.{stage_from, machine_at, ArePlayed}
use Rattle.stage_state.specs.Replies.{accepts}
use Rattle.stage_state.specs.Staged.{acts_of, first_machine}
use Rattle.stage_state.proofs.IsPlayed.{stage_placed, played_front}
use Rattle.stage_state.proofs.Replies.{placed_can}

-- a front of acts that were placed one behind the other
pub played_begins : (o : Origin) (acts more : List (ℕ × Act)) → ArePlayed o (acts ++ more) → ArePlayed o acts
played_begins o acts more played =
    let first = first_machine (stage_from o acts) in
    (played_front (acts_of acts) (acts_of more) first (subst (λ (xs : List Act). IsPlayed first xs) (map-append (λ (a : ℕ × Act). a.1) acts more) played)).0

-- these acts with one more that is placed
pub played_accepted : (o : Origin) (acts : List (ℕ × Act)) (seat : ℕ) (a : Act) → ArePlayed o acts → accepts (machine_at o acts) a ≡ true
    → ArePlayed o (acts ++ (seat, a) ∷ [])
played_accepted o acts seat a played placed = stage_placed seat a (stage_from o acts) played (placed_can (machine_at o acts) a placed)
