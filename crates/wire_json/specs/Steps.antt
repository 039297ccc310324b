-- The grammar of a script's steps: arrays of an exact number of elements, the first of which is the step's word.
use Rattle.std.specs.Prelude.{ℕ, List, [], ◌∷◌, codes, bytes_eq, Option, Some, None, option_map, option_and_then, if◌then◌else◌}
use Rattle.serde_json.specs.Data.{Data}
use Rattle.serde_json.specs.Find.{as_str, as_array}
use Rattle.wire_json.specs.declared.steps.Step.{Step}
use Rattle.wire_json.specs.declared.steps.Step.TheVariants as step
use Rattle.wire_json.specs.Values.{count_of, who_of, text_value, name_of, lang_of, elements}
use Rattle.wire_json.specs.Operations.{op_of}
use Rattle.wire_json.specs.Fields.{value_of}
use Rattle.wire_json.specs.Requests.{num_of, call_of}

-- a guest of this name and language
abbrev pub guest_step : Data → Data → Option Step
guest_step name language = option_and_then (λ n. option_map (λ l. step.Guest n l) (lang_of language)) (name_of name)

-- a call by this performer, under the number of its request
abbrev pub call_step : Data → Data → Option Step
call_step who request = option_and_then (λ w. option_and_then (λ n. option_map (λ c. step.Call w n c) (call_of request)) (num_of request)) (who_of who)

-- a performer of this name and language, with this boot text
abbrev pub join_step : Data → Data → Data → Option Step
join_step name language boot = option_and_then (λ n. option_and_then (λ l. option_map (λ b. step.Join n l b) (text_value boot)) (lang_of language)) (name_of name)

-- the same, whose stage begins at the document
abbrev pub snap_step : Data → Data → Data → Option Step
snap_step name language boot = option_and_then (λ n. option_and_then (λ l. option_map (λ b. step.SnapJoin n l b) (text_value boot)) (lang_of language)) (name_of name)

-- the performer types this
abbrev pub edit_step : Data → Data → Option Step
edit_step who op = option_and_then (λ w. option_map (λ o. step.Edit w o) (op_of op)) (who_of who)

-- the performer evaluates the block round this place
abbrev pub eval_step : Data → Data → Option Step
eval_step who place = option_and_then (λ w. option_map (λ p. step.Eval w p) (count_of place)) (who_of who)

-- the performer resets the document to this text
abbrev pub reset_step : Data → Data → Option Step
reset_step who text = option_and_then (λ w. option_map (λ t. step.Reset w t) (text_value text)) (who_of who)

-- the performer's interpreter is fed, and its life takes so many bytes more
abbrev pub feed_step : Data → Data → Option Step
feed_step who bytes = option_and_then (λ w. option_map (λ n. step.Feed w (Some n)) (count_of bytes)) (who_of who)

-- so many further starts of the performer's interpreter fail
abbrev pub deaf_step : Data → Data → Option Step
deaf_step who starts = option_and_then (λ w. option_map (λ n. step.Deaf w n) (count_of starts)) (who_of who)

-- the step of a word with nothing behind it
abbrev pub step_alone : List ℕ → Option Step
step_alone word = if bytes_eq word (codes "show") then Some step.Show else None

-- the step of a word with one element behind it
abbrev pub step_of_one : List ℕ → Data → Option Step
step_of_one word who =
    if bytes_eq word (codes "serve") then option_map step.Serve (who_of who)
    else (if bytes_eq word (codes "take") then option_map step.Take (who_of who)
    else (if bytes_eq word (codes "feed") then option_map (λ w. step.Feed w None) (who_of who)
    else (if bytes_eq word (codes "leave") then option_map step.Leave (who_of who)
    else (if bytes_eq word (codes "again") then option_map step.Again (who_of who) else None))))

-- the step of a word with two elements behind it
abbrev pub step_of_two : List ℕ → Data → Data → Option Step
step_of_two word x y =
    if bytes_eq word (codes "guest") then guest_step x y
    else (if bytes_eq word (codes "call") then call_step x y
    else (if bytes_eq word (codes "edit") then edit_step x y
    else (if bytes_eq word (codes "eval") then eval_step x y
    else (if bytes_eq word (codes "reset") then reset_step x y
    else (if bytes_eq word (codes "feed") then feed_step x y
    else (if bytes_eq word (codes "deaf") then deaf_step x y else None))))))

-- the step of a word with three elements behind it
abbrev pub step_of_three : List ℕ → Data → Data → Data → Option Step
step_of_three word x y z = if bytes_eq word (codes "join") then join_step x y z else (if bytes_eq word (codes "snapjoin") then snap_step x y z else None)

-- the step of a word and of the elements behind it
abbrev pub step_of_word : List ℕ → List Data → Option Step
step_of_word word [] = step_alone word
step_of_word word (x ∷ []) = step_of_one word x
step_of_word word (x ∷ y ∷ []) = step_of_two word x y
step_of_word word (x ∷ y ∷ z ∷ []) = step_of_three word x y z
step_of_word word (x ∷ y ∷ z ∷ w ∷ more) = None

-- the step of an array's elements
abbrev pub step_of_list : List Data → Option Step
step_of_list [] = None
step_of_list (first ∷ others) = option_and_then (λ word. step_of_word word others) (as_str first)

-- the step of a value
abbrev pub step_of_data : Data → Option Step
step_of_data d = option_and_then (λ ds. step_of_list (elements ds)) (as_array d)

-- the step of a line
abbrev pub step_of_line : List ℕ → Option Step
step_of_line line = option_and_then step_of_data (value_of line)
