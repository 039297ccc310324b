-- Small facts of marks and of what is pending.
use Rattle.std.proofs.Common.{◌≡◌, ℕ, Bool, true, false, ◌||◌, Option, None, Some, length, refl, sym, ◌∙◌}
use Rattle.ot_text.specs.Change.{Change}
use Rattle.ot_text.specs.Marked.{Marked}
use Rattle.client_state.specs.declared.state.State.{State}
use Rattle.client_state.specs.declared.state.State.TheVariants.{Synchronized, Awaiting, WithBuffer}
use Rattle.client_state.specs.Standing.{FitsOn, pending_on}
use Rattle.client_state.specs.Pending.{outstanding, after_told, other_base, is_awaiting}
use Rattle.log_model.specs.Legal.{OpFits}
use Rattle.agreement.proofs.Through.{behind}

-- a stage that is open has not finished
pub open_end : (a b : Bool) → a || b ≡ false → a ≡ true → ⊥
open_end true b e f = cc
open_end false b e f = cc

-- what is not true is false
pub not_true : (b : Bool) → (b ≡ true → ⊥) → b ≡ false
not_true true f = absurd (f refl)
not_true false f = refl

-- who awaits nothing is synchronized
pub awaits_none : (s : State) → is_awaiting s ≡ false → s ≡ Synchronized
awaits_none Synchronized e = refl
awaits_none (Awaiting u) e = absurd (cc)
awaits_none (WithBuffer u v) e = absurd (cc)

-- the outstanding operation is moved through what is told
pub outstanding-after_told : (s : State) (o : Option Change) → outstanding (after_told s o) ≡ behind (outstanding s) o
outstanding-after_told Synchronized None = refl
outstanding-after_told Synchronized (Some b) = refl
outstanding-after_told (Awaiting u) None = refl
outstanding-after_told (Awaiting u) (Some b) = refl
outstanding-after_told (WithBuffer u v) None = refl
outstanding-after_told (WithBuffer u v) (Some b) = refl

-- who is synchronized stays so
pub stays_synchronized : (s : State) (o : Option Change) → s ≡ Synchronized → after_told s o ≡ Synchronized
stays_synchronized s None e = e
stays_synchronized s (Some b) e = rw e refl

-- an operation on the document fits the client
pub other_fits : (own : ℕ) (s : State) (o : Option Change) (d : Marked) → FitsOn s (length d) → OpFits o (length d) → OpFits o (other_base s (length (pending_on own s d)))
other_fits own s None d f g = tt
other_fits own Synchronized (Some b) d f g = g
other_fits own (Awaiting u) (Some b) d f g = g ∙ sym f
other_fits own (WithBuffer u v) (Some b) d f g = g ∙ sym f.0
