-- The grammar of a performer's commands: arrays of an exact number of elements, the first of which is the command's word.
use Rattle.std.specs.Prelude.{ℕ, List, [], ◌∷◌, codes, bytes_eq, Option, Some, None, option_map, option_and_then, if◌then◌else◌}
use Rattle.serde_json.specs.Data.{Data}
use Rattle.serde_json.specs.Find.{as_str, as_array}
use Rattle.wire_json.specs.declared.commands.Command.{Command}
use Rattle.wire_json.specs.declared.commands.Command.TheVariants as command
use Rattle.wire_json.specs.Values.{count_of, text_value, elements}
use Rattle.wire_json.specs.Operations.{op_of}
use Rattle.wire_json.specs.Fields.{value_of}

-- the command of a word with nothing behind it
abbrev pub command_alone : List ℕ → Option Command
command_alone word =
    if bytes_eq word (codes "show") then Some command.Show
    else (if bytes_eq word (codes "leave") then Some command.Leave else None)

-- the command of a word with one element behind it
abbrev pub command_of_one : List ℕ → Data → Option Command
command_of_one word x =
    if bytes_eq word (codes "edit") then option_map command.Edit (op_of x)
    else (if bytes_eq word (codes "eval") then option_map command.Eval (count_of x)
    else (if bytes_eq word (codes "reset") then option_map command.Reset (text_value x)
    else (if bytes_eq word (codes "until") then option_map command.Until (count_of x) else None)))

-- the command of a word and of the elements behind it
abbrev pub command_of_word : List ℕ → List Data → Option Command
command_of_word word [] = command_alone word
command_of_word word (x ∷ []) = command_of_one word x
command_of_word word (x ∷ y ∷ more) = None

-- the command of an array's elements
abbrev pub command_of_list : List Data → Option Command
command_of_list [] = None
command_of_list (first ∷ others) = option_and_then (λ word. command_of_word word others) (as_str first)

-- the command of a value
abbrev pub command_of_data : Data → Option Command
command_of_data d = option_and_then (λ ds. command_of_list (elements ds)) (as_array d)

-- the command of a line
abbrev pub command_of_line : List ℕ → Option Command
command_of_line line = option_and_then command_of_data (value_of line)
