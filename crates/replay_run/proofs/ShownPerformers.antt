-- The lines of performers.
use Rattle.std.proofs.Common.{◌≡◌, ℕ, ◌+◌, ◌<◌, List, [], ◌∷◌, ◌++◌, map, take, length, get_or, sym, ap, ◌∙◌, append_assoc, append-nil}
use Rattle.std.proofs.lemmas.List.{take_more, map-append}
use Rattle.world_core.specs.declared.performer.Performer.{Performer}
use Rattle.world_core.specs.States.{PerformerState}
use Rattle.world_core.specs.Values.{performer_state}
use Rattle.replay_run.specs.Shown.{shown_performer, shown_performers}

one_more : (ps : List PerformerState) (p : PerformerState) → shown_performers (ps ++ p ∷ []) ≡ shown_performers ps ++ shown_performer p
one_more [] p = append-nil (shown_performer p)
one_more (q ∷ ps) p = ap (λ l. shown_performer q ++ l) (one_more ps p) ∙ sym (append_assoc (shown_performer q) (shown_performers ps) (shown_performer p))

-- the lines of one performer more of a list
pub one_more_shown : (ps : List Performer) (i : ℕ) (p : Performer) → i < length ps → p ≡ get_or ps i p
    → shown_performers (map performer_state (take (i + 1) ps)) ≡ shown_performers (map performer_state (take i ps)) ++ shown_performer (performer_state p)
one_more_shown ps i p within is =
    ap (λ l. shown_performers (map performer_state l)) (take_more ps i p within ∙ ap (λ q. take i ps ++ q ∷ []) (sym is))
    ∙ ap shown_performers (map-append performer_state (take i ps) (p ∷ [])) ∙ one_more (map performer_state (take i ps)) (performer_state p)
