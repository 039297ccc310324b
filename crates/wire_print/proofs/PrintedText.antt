-- What is printed of sound data is read back, kind by kind.
use Rattle.std.proofs.Common.{◌≡◌, ℕ, ◌≤◌, List, false, refl, ◌∙◌, le-leb}
use Rattle.std.specs.Prelude.{Result, Ok, Err, OnOk, Some, IsUtf8}
use Rattle.std.proofs.lemmas.Str.{chars-encodes}
use Rattle.json.proofs.Printed.Utf8.{IsUtf8-are_ascii}
use Rattle.serde_json.specs.Data.{Data, depth}
use Rattle.serde_json.specs.Read.{max_depth}
use Rattle.troop_entry.specs.declared.call.Lang.{Lang}
use Rattle.troop_entry.specs.declared.call.Lang.TheVariants as lang
use Rattle.wire_json.specs.Values.{count_of, who_of, performer_of, name_of, lang_of}
use Rattle.wire_json.specs.Fields.{value_of}
use Rattle.wire_json.proofs.ValueOf.{value_of_text}
use Rattle.wire_print.specs.Printed.{printed_text, has_line_feed, count_data, text_data, lang_word, lang_data}
use Rattle.wire_print.specs.Within.{IsCount, IsWho, IsSpelled, NameIsWithin}
use Rattle.wire_print.proofs.IsSound.{IsSound, read-compact}
use Rattle.wire_print.proofs.CompactText.{IsUtf8-compact, compact_none}

-- what is printed of sound data has it as its value
pub value_of_printed : (d : Data) → IsSound d → depth d ≤ max_depth → value_of (printed_text d) ≡ Some d
unfolding printed_text
value_of_printed d sound shallow = value_of_text _ (IsUtf8-compact d sound) ∙ read-compact d sound shallow

-- what is printed of any data is one line
pub one_line : (d : Data) → has_line_feed (printed_text d) ≡ false
unfolding printed_text
one_line d = compact_none d

-- a count is read back
pub count_back : (n : ℕ) → IsCount n → count_of (count_data n) ≡ Some n
count_back n within = rw (le-leb _ _ within)

-- a performer's number is read back
pub who_back : (n : ℕ) → IsWho n → who_of (count_data n) ≡ Some n
who_back n within = rw (le-leb _ _ within)

-- a performer's number of at least 1 is read back
pub performer_back : (n : ℕ) → 1 ≤ n → IsWho n → performer_of (count_data n) ≡ Some n
performer_back n one within = rw (le-leb _ _ within) (rw (le-leb _ _ one))

-- a name is read back
pub name_back : (name : List ℕ) → IsSpelled name → NameIsWithin name → name_of (text_data name) ≡ Some name
name_back name spelled fits = rw (chars-encodes name spelled, le-leb _ _ fits.0, le-leb _ _ fits.1)

-- a language is read back
pub lang_back : (l : Lang) → lang_of (lang_data l) ≡ Some l
lang_back lang.Lines = refl
lang_back lang.Ghci = refl

-- the word of a language is UTF-8
pub lang_sound : (l : Lang) → IsUtf8 (lang_word l)
lang_sound lang.Lines = IsUtf8-are_ascii _ refl
lang_sound lang.Ghci = IsUtf8-are_ascii _ refl

-- what holds anyhow holds where the result is `Ok`
pub on_ok : {A E : Type 0} (r : Result A E) (P : Type 0) → P → OnOk r P
on_ok (Ok a) P h = h
on_ok (Err e) P h = tt
