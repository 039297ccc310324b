-- A printed entry is read back.
use Rattle.std.proofs.Common.{◌≡◌, ℕ, ◌≤◌, refl, ap, ◌∙◌, arith}
use Rattle.std.specs.Prelude.{Some, option_and_then}
use Rattle.std.proofs.lemmas.Str.{chars-encodes}
use Rattle.json.proofs.Printed.Utf8.{IsUtf8-are_ascii}
use Rattle.serde_json.specs.Data.{depth}
use Rattle.serde_json.specs.Read.{max_depth}
use Rattle.troop_entry.specs.declared.entry.Deed.{Deed}
use Rattle.troop_entry.specs.declared.entry.Deed.TheVariants as deed
use Rattle.troop_entry.specs.declared.entry.Entry.{Entry}
use Rattle.wire_json.specs.Entries.{entry_of_data, entry_of_line}
use Rattle.wire_print.specs.Printed.{printed_text, deed_data, entry_data}
use Rattle.wire_print.specs.Within.{IsCount, IsWho, DeedIsSpelled, DeedIsWithin, EntryIsWithin}
use Rattle.wire_print.proofs.IsSound.{IsSound}
use Rattle.wire_print.proofs.OpOf.{op_back, op_sound, op_flat, text_sound}
use Rattle.wire_print.proofs.PrintedText.{value_of_printed, count_back, performer_back, name_back, lang_back, lang_sound}

deed_back : (what : Deed) (at seen who : ℕ) → IsCount at → IsCount seen → 1 ≤ who → IsWho who → DeedIsSpelled what → DeedIsWithin what
    → entry_of_data (deed_data what at seen who) ≡ Some (record { at = at; who = who; seen = seen; deed = what })
deed_back (deed.Join name language) at seen who h k one w s d = rw (count_back at h, performer_back who one w, count_back seen k, name_back name s d, lang_back language)
deed_back deed.Leave at seen who h k one w s d = rw (count_back at h, performer_back who one w, count_back seen k)
deed_back (deed.Edit op) at seen who h k one w s d = rw (count_back at h, performer_back who one w, count_back seen k, op_back op s d)
deed_back (deed.Eval text) at seen who h k one w s d = rw (count_back at h, performer_back who one w, count_back seen k, chars-encodes text s)
deed_back (deed.Reset op) at seen who h k one w s d = rw (count_back at h, performer_back who one w, count_back seen k, op_back op s d)

deed_sound : (what : Deed) (at seen who : ℕ) → IsCount at → IsCount seen → IsWho who → DeedIsSpelled what → DeedIsWithin what → IsSound (deed_data what at seen who)
deed_sound (deed.Join name language) at seen who h k w s d =
    (refl, (IsUtf8-are_ascii _ refl, omega (arith, h), (IsUtf8-are_ascii _ refl, IsUtf8-are_ascii _ refl, (IsUtf8-are_ascii _ refl, lang_sound language, (IsUtf8-are_ascii _ refl, text_sound name s, (IsUtf8-are_ascii _ refl, omega (arith, k), (IsUtf8-are_ascii _ refl, omega (arith, w), tt)))))))
deed_sound deed.Leave at seen who h k w s d =
    (refl, (IsUtf8-are_ascii _ refl, omega (arith, h), (IsUtf8-are_ascii _ refl, IsUtf8-are_ascii _ refl, (IsUtf8-are_ascii _ refl, omega (arith, k), (IsUtf8-are_ascii _ refl, omega (arith, w), tt)))))
deed_sound (deed.Edit op) at seen who h k w s d =
    (refl, (IsUtf8-are_ascii _ refl, omega (arith, h), (IsUtf8-are_ascii _ refl, IsUtf8-are_ascii _ refl, (IsUtf8-are_ascii _ refl, op_sound op s d, (IsUtf8-are_ascii _ refl, omega (arith, k), (IsUtf8-are_ascii _ refl, omega (arith, w), tt))))))
deed_sound (deed.Eval text) at seen who h k w s d =
    (refl, (IsUtf8-are_ascii _ refl, omega (arith, h), (IsUtf8-are_ascii _ refl, IsUtf8-are_ascii _ refl, (IsUtf8-are_ascii _ refl, omega (arith, k), (IsUtf8-are_ascii _ refl, text_sound text s, (IsUtf8-are_ascii _ refl, omega (arith, w), tt))))))
deed_sound (deed.Reset op) at seen who h k w s d =
    (refl, (IsUtf8-are_ascii _ refl, omega (arith, h), (IsUtf8-are_ascii _ refl, IsUtf8-are_ascii _ refl, (IsUtf8-are_ascii _ refl, op_sound op s d, (IsUtf8-are_ascii _ refl, omega (arith, k), (IsUtf8-are_ascii _ refl, omega (arith, w), tt))))))

deed_shallow : (what : Deed) (at seen who : ℕ) → depth (deed_data what at seen who) ≤ max_depth
deed_shallow (deed.Join name language) at seen who = omega arith
deed_shallow deed.Leave at seen who = omega arith
deed_shallow (deed.Edit op) at seen who = omega (arith, op_flat op)
deed_shallow (deed.Eval text) at seen who = omega arith
deed_shallow (deed.Reset op) at seen who = omega (arith, op_flat op)

entry_sound : (e : Entry) → IsWho e.who → DeedIsSpelled e.deed → EntryIsWithin e → IsSound (entry_data e)
entry_sound e who spelled fits = deed_sound e.deed e.at e.seen e.who fits.at fits.seen who spelled fits.deed

-- a printed entry is read back
pub entry_back : (e : Entry) → IsWho e.who → DeedIsSpelled e.deed → EntryIsWithin e → entry_of_line (printed_text (entry_data e)) ≡ Some e
entry_back e who spelled fits =
    ap (λ o. option_and_then entry_of_data o) (value_of_printed (entry_data e) (entry_sound e who spelled fits) (deed_shallow e.deed e.at e.seen e.who))
    ∙ deed_back e.deed e.at e.seen e.who fits.at fits.seen fits.one who spelled fits.deed
