-- A printed request is read back.
use Rattle.std.proofs.Common.{◌≡◌, zero, suc, ◌≤◌, refl, ap, ◌∙◌, le-leb, arith}
use Rattle.std.specs.Prelude.{Some, option_and_then, codes}
use Rattle.std.proofs.lemmas.Str.{chars-encodes}
use Rattle.json.proofs.Printed.Utf8.{IsUtf8-are_ascii}
use Rattle.serde_json.specs.Data.{depth, member, no_members}
use Rattle.serde_json.specs.Read.{max_depth}
use Rattle.troop_entry.specs.declared.call.Call.TheVariants as call
use Rattle.troop_entry.specs.declared.call.Request.{Request}
use Rattle.troop_entry.specs.declared.call.Request.TheVariants as request
use Rattle.wire_json.specs.Requests.{request_of_data, request_of_line}
use Rattle.wire_print.specs.Printed.{printed_text, count_data, text_data, op_data, request_data}
use Rattle.wire_print.specs.Within.{RequestIsSpelled, RequestIsWithin}
use Rattle.wire_print.proofs.IsSound.{IsSound}
use Rattle.wire_print.proofs.WithNum.{numbered_sound, numbered_shallow}
use Rattle.wire_print.proofs.OpOf.{op_back, op_sound, op_flat, text_sound}
use Rattle.wire_print.proofs.PrintedText.{value_of_printed, count_back, who_back, name_back, lang_back, lang_sound}

request_data_back : (r : Request) → RequestIsSpelled r → RequestIsWithin r → request_of_data (request_data r) ≡ Some r
request_data_back (request.Call num (call.Join name language)) s h = rw (name_back name s h.1, lang_back language, h.0)
request_data_back (request.Call zero call.Leave) s h = refl
request_data_back (request.Call (suc num) call.Leave) s h = let one : 1 ≤ suc num = omega arith in rw (le-leb 1 (suc num) one, count_back (suc num) h)
request_data_back (request.Call zero (call.Edit seen op)) s h = rw (count_back seen h.1, op_back op s h.2)
request_data_back (request.Call (suc num) (call.Edit seen op)) s h = let one : 1 ≤ suc num = omega arith in rw (le-leb 1 (suc num) one, count_back (suc num) h.0, count_back seen h.1, op_back op s h.2)
request_data_back (request.Call zero (call.Eval seen text)) s h = rw (count_back seen h.1, chars-encodes text s)
request_data_back (request.Call (suc num) (call.Eval seen text)) s h = let one : 1 ≤ suc num = omega arith in rw (le-leb 1 (suc num) one, count_back (suc num) h.0, count_back seen h.1, chars-encodes text s)
request_data_back (request.Call zero (call.Reset seen text)) s h = rw (count_back seen h.1, chars-encodes text s)
request_data_back (request.Call (suc num) (call.Reset seen text)) s h = let one : 1 ≤ suc num = omega arith in rw (le-leb 1 (suc num) one, count_back (suc num) h.0, count_back seen h.1, chars-encodes text s)
request_data_back (request.Stay name language) s h = rw (name_back name s h, lang_back language)
request_data_back (request.Back who) s h = rw (who_back who s)
request_data_back (request.Down start who) s h = rw (count_back start h, who_back who s)
request_data_back (request.Snap who) s h = rw (who_back who s)

request_sound : (r : Request) → RequestIsSpelled r → RequestIsWithin r → IsSound (request_data r)
request_sound (request.Call num (call.Join name language)) s h = (refl, (IsUtf8-are_ascii _ refl, IsUtf8-are_ascii _ refl, (IsUtf8-are_ascii _ refl, lang_sound language, (IsUtf8-are_ascii _ refl, text_sound name s, tt))))
request_sound (request.Call zero call.Leave) s h = (refl, (IsUtf8-are_ascii _ refl, IsUtf8-are_ascii _ refl, tt))
request_sound (request.Call (suc num) call.Leave) s h = numbered_sound num (codes "leave") no_members (refl, (IsUtf8-are_ascii _ refl, IsUtf8-are_ascii _ refl, (IsUtf8-are_ascii _ refl, omega (arith, h), tt)))
request_sound (request.Call zero (call.Edit seen op)) s h = (refl, (IsUtf8-are_ascii _ refl, IsUtf8-are_ascii _ refl, (IsUtf8-are_ascii _ refl, op_sound op s h.2, (IsUtf8-are_ascii _ refl, omega (arith, h.1), tt))))
request_sound (request.Call (suc num) (call.Edit seen op)) s h = numbered_sound num (codes "edit") (member (codes "op") (op_data op) (member (codes "seen") (count_data seen) no_members)) (refl, (IsUtf8-are_ascii _ refl, IsUtf8-are_ascii _ refl, (IsUtf8-are_ascii _ refl, omega (arith, h.0), (IsUtf8-are_ascii _ refl, op_sound op s h.2, (IsUtf8-are_ascii _ refl, omega (arith, h.1), tt)))))
request_sound (request.Call zero (call.Eval seen text)) s h = (refl, (IsUtf8-are_ascii _ refl, IsUtf8-are_ascii _ refl, (IsUtf8-are_ascii _ refl, omega (arith, h.1), (IsUtf8-are_ascii _ refl, text_sound text s, tt))))
request_sound (request.Call (suc num) (call.Eval seen text)) s h = numbered_sound num (codes "eval") (member (codes "seen") (count_data seen) (member (codes "text") (text_data text) no_members)) (refl, (IsUtf8-are_ascii _ refl, IsUtf8-are_ascii _ refl, (IsUtf8-are_ascii _ refl, omega (arith, h.0), (IsUtf8-are_ascii _ refl, omega (arith, h.1), (IsUtf8-are_ascii _ refl, text_sound text s, tt)))))
request_sound (request.Call zero (call.Reset seen text)) s h = (refl, (IsUtf8-are_ascii _ refl, IsUtf8-are_ascii _ refl, (IsUtf8-are_ascii _ refl, omega (arith, h.1), (IsUtf8-are_ascii _ refl, text_sound text s, tt))))
request_sound (request.Call (suc num) (call.Reset seen text)) s h = numbered_sound num (codes "reset") (member (codes "seen") (count_data seen) (member (codes "text") (text_data text) no_members)) (refl, (IsUtf8-are_ascii _ refl, IsUtf8-are_ascii _ refl, (IsUtf8-are_ascii _ refl, omega (arith, h.0), (IsUtf8-are_ascii _ refl, omega (arith, h.1), (IsUtf8-are_ascii _ refl, text_sound text s, tt)))))
request_sound (request.Stay name language) s h = (refl, (IsUtf8-are_ascii _ refl, IsUtf8-are_ascii _ refl, (IsUtf8-are_ascii _ refl, lang_sound language, (IsUtf8-are_ascii _ refl, text_sound name s, tt))))
request_sound (request.Back who) s h = (refl, (IsUtf8-are_ascii _ refl, IsUtf8-are_ascii _ refl, (IsUtf8-are_ascii _ refl, omega (arith, s), tt)))
request_sound (request.Down start who) s h = (refl, (IsUtf8-are_ascii _ refl, IsUtf8-are_ascii _ refl, (IsUtf8-are_ascii _ refl, omega (arith, h), (IsUtf8-are_ascii _ refl, omega (arith, s), tt))))
request_sound (request.Snap who) s h = (refl, (IsUtf8-are_ascii _ refl, IsUtf8-are_ascii _ refl, (IsUtf8-are_ascii _ refl, omega (arith, s), tt)))

request_shallow : (r : Request) → depth (request_data r) ≤ max_depth
request_shallow (request.Call num (call.Join name language)) = omega arith
request_shallow (request.Call zero call.Leave) = omega arith
request_shallow (request.Call (suc num) call.Leave) = numbered_shallow num (codes "leave") no_members (omega arith)
request_shallow (request.Call zero (call.Edit seen op)) = omega (arith, op_flat op)
request_shallow (request.Call (suc num) (call.Edit seen op)) = numbered_shallow num (codes "edit") (member (codes "op") (op_data op) (member (codes "seen") (count_data seen) no_members)) (omega (arith, op_flat op))
request_shallow (request.Call zero (call.Eval seen text)) = omega arith
request_shallow (request.Call (suc num) (call.Eval seen text)) = numbered_shallow num (codes "eval") (member (codes "seen") (count_data seen) (member (codes "text") (text_data text) no_members)) (omega arith)
request_shallow (request.Call zero (call.Reset seen text)) = omega arith
request_shallow (request.Call (suc num) (call.Reset seen text)) = numbered_shallow num (codes "reset") (member (codes "seen") (count_data seen) (member (codes "text") (text_data text) no_members)) (omega arith)
request_shallow (request.Stay name language) = omega arith
request_shallow (request.Back who) = omega arith
request_shallow (request.Down start who) = omega arith
request_shallow (request.Snap who) = omega arith

-- a printed request is read back
pub request_back : (r : Request) → RequestIsSpelled r → RequestIsWithin r → request_of_line (printed_text (request_data r)) ≡ Some r
request_back r s h = ap (λ o. option_and_then request_of_data o) (value_of_printed (request_data r) (request_sound r s h) (request_shallow r)) ∙ request_data_back r s h
