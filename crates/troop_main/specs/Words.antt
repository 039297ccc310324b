-- The words behind the program's name.
use Rattle.std.specs.Prelude.{ℕ, ◌≤◌, ◌==◌, List, [], ◌∷◌, codes, chars, bytes_eq, length, take, drop, nat_lt, nat_le, Bool, true, false, not, ◌&&◌, Option, Some, None, option_map, option_copied, if◌then◌else◌}
use Rattle.std.specs.Option.{option_or}
use Rattle.std.specs.List.{before_first, after_first}
use Rattle.std.specs.Str.{all_ascii_digits}
use Rattle.std.specs.Str.Parse.{digits_value}
use Rattle.troop_entry.specs.declared.call.Lang.{Lang}
use Rattle.troop_entry.specs.declared.call.Lang.TheVariants as lang
use Rattle.troop_main.specs.declared.billing.Billing.{Billing}
use Rattle.troop_main.specs.declared.words.Command.{Command}
use Rattle.troop_main.specs.declared.words.Command.TheVariants as command

-- who is to perform: the characters of its name, its language, and the name of the file of its boot text, if there is one
pub record Announced : Type 0 where
  pub name : List ℕ
  pub lang : Lang
  pub boot : Option (List ℕ)

-- what words ask: a script is to be played; or one that is drawn from a seed, with so many steps; or so many performers are to make so many bursts each on threads, drawn from a
-- seed; or an address is to be listened at, and perhaps so many sessions are to be served there; or an address is to be dialled, and who is to
-- perform over its links
pub data Asked : Type 0 where
  Replay : Asked
  Drill : ℕ → ℕ → Asked
  Jam : ℕ → ℕ → ℕ → Asked
  Serve : List ℕ → Option ℕ → Asked
  Perform : List ℕ → Announced → Asked

-- who is announced by a billing
abbrev pub announced : Billing → Announced
announced b = record { name = chars b.name.now; lang = b.lang; boot = option_copied b.boot }

-- what a command asks
abbrev pub asked : Command → Asked
asked command.Replay = Replay
asked (command.Drill seed steps) = Drill seed steps
asked (command.Jam performers calls seed) = Jam performers calls seed
asked (command.Serve addr sessions) = Serve addr.now sessions
asked (command.Perform addr billing) = Perform addr.now (announced billing)

-- whether words ask for a performer
abbrev pub asks_performer : Option Asked → Bool
asks_performer None = false
asks_performer (Some Replay) = false
asks_performer (Some (Drill seed steps)) = false
asks_performer (Some (Jam performers calls seed)) = false
asks_performer (Some (Serve addr sessions)) = false
asks_performer (Some (Perform addr who)) = true

-- a name has 1 to 32 characters
abbrev pub IsName : List ℕ → Type 0
IsName name = (1 ≤ length name) × (length name ≤ 32)

-- who is to perform, if anybody is, has such a name; a jam has 1 to 64 performers, and at most 1,000 bursts of each
abbrev pub KeepsLimits : Command → Type 0
KeepsLimits command.Replay = Unit {0}
KeepsLimits (command.Drill seed steps) = Unit {0}
KeepsLimits (command.Jam performers calls seed) = (1 ≤ performers) × (performers ≤ 64) × (calls ≤ 1000)
KeepsLimits (command.Serve addr sessions) = Unit {0}
KeepsLimits (command.Perform addr billing) = IsName (chars billing.name.now)

-- whether a word is no option: it isn't empty and doesn't begin with '-'
abbrev pub is_plain : List ℕ → Bool
is_plain [] = false
is_plain (c ∷ cs) = not (c == 45)

-- whether a word is a number: one to twenty decimal digits
abbrev pub is_number : List ℕ → Bool
is_number word = all_ascii_digits word && (nat_lt 0 (length word) && nat_lt (length word) 21)

-- the number, where it is no greater than this one
abbrev pub no_greater : ℕ → ℕ → Option ℕ
no_greater most count = if nat_lt most count then None else Some count

-- the number that a word names, if it names one up to this one
unfoldable pub number_upto : ℕ → List ℕ → Option ℕ
number_upto most word = if is_number word then no_greater most (digits_value 10 word) else None

-- how many sessions a word names
abbrev pub sessions_of : List ℕ → Option ℕ
sessions_of word = number_upto 1000000 word

-- how many sessions an option names that has its number behind '='
unfoldable pub sessions_joined : List ℕ → Option ℕ
sessions_joined word = if bytes_eq (take 11 word) (codes "--sessions=") then sessions_of (drop 11 word) else None

-- how many sessions an option names that has its number in the next word
unfoldable pub sessions_apart : List ℕ → List ℕ → Option ℕ
sessions_apart name word = if bytes_eq name (codes "--sessions") then sessions_of word else None

-- what an address asks, without an option
unfoldable pub serve_all : List ℕ → Option Asked
serve_all addr = if is_plain addr then Some (Serve addr None) else None

-- what an address asks beside an option that names so many sessions, if it does
unfoldable pub serve_some : List ℕ → Option ℕ → Option Asked
serve_some addr None = None
serve_some addr (Some count) = if is_plain addr then Some (Serve addr (Some count)) else None

-- what the words behind `serve` ask: one address, and perhaps the option, in front of it or behind it
unfoldable pub serve_of : List (List ℕ) → Option Asked
serve_of [] = None
serve_of (addr ∷ []) = serve_all addr
serve_of (one ∷ two ∷ []) = option_or (serve_some one (sessions_joined two)) (serve_some two (sessions_joined one))
serve_of (one ∷ two ∷ three ∷ []) = option_or (serve_some one (sessions_apart two three)) (serve_some three (sessions_apart one two))
serve_of (one ∷ two ∷ three ∷ four ∷ more) = None

-- whether the word is the one behind which another program's words stand
abbrev pub is_dashes : List ℕ → Bool
is_dashes word = bytes_eq word (codes "--")

-- the words of the program that is to be started: those behind the first `--`
abbrev pub program_of : List (List ℕ) → List (List ℕ)
program_of words = after_first is_dashes words

-- the language of this name
abbrev pub lang_named : List ℕ → Option Lang
lang_named word = if bytes_eq word (codes "lines") then Some lang.Lines else (if bytes_eq word (codes "ghci") then Some lang.Ghci else None)

-- whether a word is the name of a performer: it is no option, and has 1 to 32 characters
abbrev pub is_name : List ℕ → Bool
is_name word = is_plain word && (nat_le 1 (length (chars word)) && nat_le (length (chars word)) 32)

-- the file that a word names
abbrev pub boot_named : List ℕ → Option (List ℕ)
boot_named word = if is_plain word then Some word else None

-- the file that an option names that has it behind '='
unfoldable pub boot_joined : List ℕ → Option (List ℕ)
boot_joined word = if bytes_eq (take 7 word) (codes "--boot=") then boot_named (drop 7 word) else None

-- the file that an option names that has it in the next word
unfoldable pub boot_apart : List ℕ → List ℕ → Option (List ℕ)
boot_apart name word = if bytes_eq name (codes "--boot") then boot_named word else None

-- what an address, a name and a language ask, with this boot file, if it is there
unfoldable pub perform_with : Option (List ℕ) → List ℕ → List ℕ → List ℕ → Option Asked
perform_with boot addr name language =
    if is_plain addr && is_name name then option_map (λ l. Perform addr (record { name = chars name; lang = l; boot = boot })) (lang_named language) else None

-- what they ask beside an option that names this file, if it does
unfoldable pub perform_boot : Option (List ℕ) → List ℕ → List ℕ → List ℕ → Option Asked
perform_boot None addr name language = None
perform_boot (Some boot) addr name language = perform_with (Some boot) addr name language

-- what three words ask, and the option among them, which has its file behind '='
unfoldable pub perform_joined : List ℕ → List ℕ → List ℕ → List ℕ → Option Asked
perform_joined one two three four =
    option_or (option_or (option_or (perform_boot (boot_joined one) two three four) (perform_boot (boot_joined two) one three four))
    (perform_boot (boot_joined three) one two four)) (perform_boot (boot_joined four) one two three)

-- what three words ask, and the option among them, which has its file in the next word
unfoldable pub perform_apart : List ℕ → List ℕ → List ℕ → List ℕ → List ℕ → Option Asked
perform_apart one two three four five =
    option_or (option_or (option_or (perform_boot (boot_apart one two) three four five) (perform_boot (boot_apart two three) one four five))
    (perform_boot (boot_apart three four) one two five)) (perform_boot (boot_apart four five) one two three)

-- what the words in front of the first `--` ask behind `perform`: an address, a name and a language, and perhaps the option
unfoldable pub perform_front : List (List ℕ) → Option Asked
perform_front [] = None
perform_front (one ∷ []) = None
perform_front (one ∷ two ∷ []) = None
perform_front (one ∷ two ∷ three ∷ []) = perform_with None one two three
perform_front (one ∷ two ∷ three ∷ four ∷ []) = perform_joined one two three four
perform_front (one ∷ two ∷ three ∷ four ∷ five ∷ []) = perform_apart one two three four five
perform_front (one ∷ two ∷ three ∷ four ∷ five ∷ six ∷ more) = None

-- what the words behind `perform` ask: a program's words stand behind the first `--`, at least one
unfoldable pub perform_of : List (List ℕ) → Option Asked
perform_of words = if nat_lt 0 (length (program_of words)) then perform_front (before_first is_dashes words) else None

-- what a seed and a number of steps ask, where both are named
abbrev pub drill_with : Option ℕ → Option ℕ → Option Asked
drill_with None steps = None
drill_with (Some seed) None = None
drill_with (Some seed) (Some steps) = Some (Drill seed steps)

-- what the words behind `drill` ask: a seed, and at most 100,000 steps
unfoldable pub drill_of : List (List ℕ) → Option Asked
drill_of [] = None
drill_of (seed ∷ []) = None
drill_of (seed ∷ steps ∷ []) = drill_with (number_upto 18446744073709551615 seed) (number_upto 100000 steps)
drill_of (seed ∷ steps ∷ word ∷ more) = None

-- what a number of performers, one of bursts, and a seed ask, where all are named: there is a performer
abbrev pub jam_with : Option ℕ → Option ℕ → Option ℕ → Option Asked
jam_with None calls seed = None
jam_with (Some performers) None seed = None
jam_with (Some performers) (Some calls) None = None
jam_with (Some performers) (Some calls) (Some seed) = if nat_lt 0 performers then Some (Jam performers calls seed) else None

-- what the words behind `jam` ask: 1 to 64 performers, at most 1,000 bursts of each, and a seed
unfoldable pub jam_of : List (List ℕ) → Option Asked
jam_of [] = None
jam_of (performers ∷ []) = None
jam_of (performers ∷ calls ∷ []) = None
jam_of (performers ∷ calls ∷ seed ∷ []) = jam_with (number_upto 64 performers) (number_upto 1000 calls) (number_upto 18446744073709551615 seed)
jam_of (performers ∷ calls ∷ seed ∷ word ∷ more) = None

-- what the words behind `replay` ask: there are none
unfoldable pub replay_of : List (List ℕ) → Option Asked
replay_of [] = Some Replay
replay_of (word ∷ more) = None

-- what the words ask, if they are in the grammar
unfoldable pub asked_of : List (List ℕ) → Option Asked
asked_of [] = None
asked_of (word ∷ others) =
    if bytes_eq word (codes "replay") then replay_of others
    else (if bytes_eq word (codes "drill") then drill_of others
    else (if bytes_eq word (codes "jam") then jam_of others
    else (if bytes_eq word (codes "serve") then serve_of others
    else (if bytes_eq word (codes "perform") then perform_of others else None))))
