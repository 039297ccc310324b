-- The generated script: each step is drawn by what the world has come to.
use Rattle.std.specs.Prelude.{◌≡◌, ℕ, zero, suc, ◌+◌, ◌==◌, nat_lt, Bool, true, false, Option, None, Some, List, [], ◌∷◌, length, map, take, codes, if◌then◌else◌}
use Rattle.troop_entry.specs.declared.call.Lang.{Lang}
use Rattle.troop_entry.specs.declared.call.Lang.TheVariants as lang
use Rattle.stage_state.specs.Machine.{held_text}
use Rattle.stage_state.specs.Staged.{machine}
use Rattle.wire_json.specs.declared.steps.Step.{Step}
use Rattle.wire_json.specs.declared.steps.Step.TheVariants as step
use Rattle.world_core.specs.States.{PerformerState, WorldState, performer_with}
use Rattle.draws.specs.Numbers.{number_after_draw, drawn_below}
use Rattle.draws.specs.Edits.{drawn_edit, number_after_edit}
use Rattle.drill_run.specs.declared.kind.Kind.{Kind}
use Rattle.drill_run.specs.declared.kind.Kind.TheVariants as kind

-- ---- its performers

-- the numbers of a world's performers, in the order of their joins
abbrev pub numbers_of : WorldState → List ℕ
numbers_of w = map (λ (p : PerformerState). p.staged.own) w.performers

-- the numbers of a script's three performers
abbrev pub script_numbers : List ℕ
script_numbers = 1 ∷ 2 ∷ 3 ∷ []

-- the performers of a world are the first of these: none, 1, 1 and 2, or all three
abbrev pub IsScripted : WorldState → Type 0
IsScripted w = numbers_of w ≡ take (length w.performers) script_numbers

-- how many characters a performer holds, if it is here
abbrev pub length_held : Option PerformerState → ℕ
length_held None = 0
length_held (Some p) = length (held_text (machine p.staged))

-- how many characters the performer of this number holds
abbrev pub held_length : ℕ → WorldState → ℕ
held_length who w = length_held (performer_with who w.performers)

-- ---- its steps

-- a step, and the number held behind the draws for it
pub record DrawnStep : Type 0 where
  pub step : Step
  pub number : ℕ

-- the join of this name, with the boot text of all
abbrev pub script_join : List ℕ → Lang → Step
script_join name language = step.Join name language (codes "boot\n")

-- the join behind so many
abbrev pub join_behind : ℕ → Step
join_behind zero = script_join (codes "p1") lang.Ghci
join_behind (suc zero) = script_join (codes "p2") lang.Ghci
join_behind (suc (suc n)) = script_join (codes "p3") lang.Lines

-- the kind of step that a number below 13 stands for
abbrev pub kind_of : ℕ → Kind
kind_of n =
    if nat_lt n 3 then kind.Edit
    else (if nat_lt n 6 then kind.Serve
    else (if nat_lt n 10 then kind.Take
    else (if n == 10 then kind.Eval
    else (if n == 11 then kind.Feed else kind.ResetOrFeed))))

-- a feed; where 0 was drawn for it, the interpreter dies before it took 8 bytes
abbrev pub feed_by : Bool → ℕ → ℕ → DrawnStep
feed_by true who number = record { step = step.Feed who (Some (drawn_below 8 number)); number = number_after_draw number }
feed_by false who number = record { step = step.Feed who None; number = number }

-- a reset to one letter where 0 was drawn for it, and else a feed
abbrev pub reset_by : Bool → ℕ → Step
reset_by true who = step.Reset who (codes "x")
reset_by false who = step.Feed who None

-- the step of this kind for a performer who holds n characters
abbrev pub step_drawn : Kind → ℕ → ℕ → ℕ → DrawnStep
step_drawn kind.Edit who n number = record { step = step.Edit who (drawn_edit n number); number = number_after_edit n number }
step_drawn kind.Serve who n number = record { step = step.Serve who; number = number }
step_drawn kind.Take who n number = record { step = step.Take who; number = number }
step_drawn kind.Eval who n number = record { step = step.Eval who (drawn_below (n + 1) number); number = number_after_draw number }
step_drawn kind.Feed who n number = feed_by (drawn_below 4 number == 0) who (number_after_draw number)
step_drawn kind.ResetOrFeed who n number = record { step = reset_by (drawn_below 8 number == 0) who; number = number_after_draw number }

-- whose step it is, drawn behind its kind
abbrev pub who_drawn : ℕ → ℕ
who_drawn number = drawn_below 3 (number_after_draw number) + 1

-- a step of the three performers: first its kind is drawn, then whose it is, and then what that kind wants
unfoldable pub drawn_line : WorldState → ℕ → DrawnStep
drawn_line w number =
    step_drawn (kind_of (drawn_below 13 number)) (who_drawn number) (held_length (who_drawn number) w) (number_after_draw (number_after_draw number))

-- the script's next step: the next join, for which nothing is drawn, until all are here, and then a step of theirs
unfoldable pub script_line : WorldState → ℕ → DrawnStep
script_line w number = if nat_lt (length w.performers) 3 then record { step = join_behind (length w.performers); number = number } else drawn_line w number
