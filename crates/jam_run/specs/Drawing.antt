-- Acts of a performer whose edits are drawn.
use Rattle.std.specs.Prelude.{◌≡◌, ℕ, ◌+◌, ◌%◌, ◌^◌, zero, suc, ◌++◌, Bool, true, false, List, [], ◌∷◌, length, map}
use Rattle.stage_state.specs.declared.act.Act.{Act}
use Rattle.stage_state.specs.declared.act.Act.TheVariants as act
use Rattle.stage_state.specs.Machine.{Machine, held_text, after_act}
use Rattle.draws.specs.Edits.{drawn_edit, number_after_edit}

-- the number that performer `who` draws from first
abbrev pub first_number : ℕ → ℕ → ℕ
first_number seed who = (seed + who) % 2 ^ 64

-- whether the act is an edit
abbrev pub is_typed : Act → Bool
is_typed (act.Typed op) = true
is_typed (act.Eval place) = false
is_typed (act.Reset text) = false
is_typed (act.Take e) = false
is_typed act.Next = false
is_typed act.Finish = false
is_typed act.Halt = false

-- these acts without those that take entries
abbrev pub without_takes : List Act → List Act
without_takes [] = []
without_takes (act.Typed op ∷ acts) = act.Typed op ∷ without_takes acts
without_takes (act.Eval place ∷ acts) = act.Eval place ∷ without_takes acts
without_takes (act.Reset text ∷ acts) = act.Reset text ∷ without_takes acts
without_takes (act.Take e ∷ acts) = without_takes acts
without_takes (act.Next ∷ acts) = act.Next ∷ without_takes acts
without_takes (act.Finish ∷ acts) = act.Finish ∷ without_takes acts
without_takes (act.Halt ∷ acts) = act.Halt ∷ without_takes acts

-- which of them are edits
abbrev pub steps_of : List Act → List Bool
steps_of acts = map is_typed (without_takes acts)

-- so many bursts: three edits, and then two that are none, each time
abbrev pub burst_steps : ℕ → List Bool
burst_steps zero = []
burst_steps (suc n) = burst_steps n ++ true ∷ true ∷ true ∷ false ∷ false ∷ []

-- the number held after an act: an edit is drawn for the text held before it
abbrev pub number_after_act : ℕ → Machine → Act → ℕ
number_after_act number m (act.Typed op) = number_after_edit (length (held_text m)) number
number_after_act number m (act.Eval place) = number
number_after_act number m (act.Reset text) = number
number_after_act number m (act.Take e) = number
number_after_act number m act.Next = number
number_after_act number m act.Finish = number
number_after_act number m act.Halt = number

-- the act is the edit that is drawn for the text held, or takes an entry, or sends a call
abbrev pub IsDrawn : ℕ → Machine → Act → Type 0
IsDrawn number m (act.Typed op) = op ≡ drawn_edit (length (held_text m)) number
IsDrawn number m (act.Eval place) = ⊥
IsDrawn number m (act.Reset text) = ⊥
IsDrawn number m (act.Take e) = Unit {0}
IsDrawn number m act.Next = Unit {0}
IsDrawn number m act.Finish = ⊥
IsDrawn number m act.Halt = ⊥

-- the number held after these acts
abbrev pub number_after_acts : ℕ → Machine → List Act → ℕ
number_after_acts number m [] = number
number_after_acts number m (a ∷ acts) = number_after_acts (number_after_act number m a) (after_act a m) acts

-- each of these acts is such an act where those before it have led
abbrev pub AreDrawn : ℕ → Machine → List Act → Type 0
AreDrawn number m [] = Unit {0}
AreDrawn number m (a ∷ acts) = IsDrawn number m a × AreDrawn (number_after_act number m a) (after_act a m) acts
