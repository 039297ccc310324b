-- What a client keeps to, beside what contracts see of it.
use Rattle.std.specs.Prelude.{◌≡◌, ℕ}
use Rattle.ot_text.specs.Change.{base, target}
use Rattle.client_state.specs.declared.state.State.{State}
use Rattle.client_state.specs.declared.state.State.TheVariants.{Synchronized, Awaiting, WithBuffer}

-- what is sent and what is held back fit one behind the other, and make a text of n characters
abbrev pub LeadsTo : State → ℕ → Type 0
LeadsTo Synchronized n = Unit {0}
LeadsTo (Awaiting u) n = target u ≡ n
LeadsTo (WithBuffer u v) n = (base v ≡ target u) × (target v ≡ n)
