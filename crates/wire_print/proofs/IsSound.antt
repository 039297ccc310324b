-- Data that is printed and read back: no floats, integers of 64 bits, text in UTF-8, and keys in order.
use Rattle.std.proofs.Common.{◌≡◌, suc, ◌^◌, ◌<◌, ◌≤◌, pos, negsuc, List, [], Option, Some, option_map, option_and_then, max, refl, sym, ap, ap₂, ◌∙◌, arith, append-nil}
use Rattle.std.specs.Prelude.{IsUtf8, ⊤}
use Rattle.serde_json.specs.Data.{Data, null, boolean, number, unsigned, negative, float, string, array, object, Items, no_items, item, Members, no_members, member, put, depth, items_depth, members_depth}
use Rattle.serde_json.specs.Read.{read, of_json, of_items, of_members, max_depth}
use Rattle.serde_json.specs.Written.{outline, items_outline, members_outline, compact_text}
use Rattle.serde_json.proofs.Numbers.{number_of-decimal, number_of-negative}
use Rattle.serde_json.proofs.Texts.{print-outline}
use Rattle.json.specs.Json as json
use Rattle.json.specs.Tree as tree
use Rattle.json.specs.Token.{Token}
use Rattle.json.specs.Lex.{tokens}
use Rattle.json.proofs.Printed.Decimals.{IsNumber-decimal, IsNumber-signed_decimal}
use Rattle.json.proofs.Printed.Tokens.{tokens-print}
use Rattle.json.proofs.Printed.Trees.{value-json_tokens, ArePrintable-json_tokens}

abbrev whole : Option (json.Json × List Token) → Option Data
whole o = option_and_then of_json (option_and_then (λ p. json.if_last p.0 p.1) o)

-- all of these members put in, one after another
abbrev pub puts : Members → Members → Members
puts no_members found = found
puts (member k d ms) found = puts ms (put k d found)

-- no floats, numbers of 64 bits, strings and keys in UTF-8, and keys in order
abbrev mutual
  pub IsSound : Data → Type 0
  IsSound null = ⊤
  IsSound (boolean b) = ⊤
  IsSound (number (unsigned n)) = n < 2 ^ 64
  IsSound (number (negative (pos n))) = ⊥
  IsSound (number (negative (negsuc n))) = n < 2 ^ 63
  IsSound (number (float x)) = ⊥
  IsSound (string s) = IsUtf8 s
  IsSound (array ds) = ItemsAreSound ds
  IsSound (object ms) = (puts ms no_members ≡ ms) × MembersAreSound ms

  pub ItemsAreSound : Items → Type 0
  ItemsAreSound no_items = ⊤
  ItemsAreSound (item d ds) = IsSound d × ItemsAreSound ds

  pub MembersAreSound : Members → Type 0
  MembersAreSound no_members = ⊤
  MembersAreSound (member k d ms) = IsUtf8 k × IsSound d × MembersAreSound ms

mutual
  of_json-outline : (d : Data) → IsSound d → of_json (outline d) ≡ Some d
  of_json-outline null h = refl
  of_json-outline (boolean b) h = refl
  of_json-outline (number (unsigned n)) h = ap (option_map number) (number_of-decimal n h)
  of_json-outline (number (negative (pos n))) h = absurd h
  of_json-outline (number (negative (negsuc n))) h = ap (option_map number) (number_of-negative n h)
  of_json-outline (number (float x)) h = absurd h
  of_json-outline (string s) h = refl
  of_json-outline (array ds) h = ap (option_map array) (of_items-outline ds h)
  of_json-outline (object ms) h = ap (option_map object) (of_members-outline ms no_members h.1 ∙ ap Some h.0)

  of_items-outline : (ds : Items) → ItemsAreSound ds → of_items (items_outline ds) ≡ Some ds
  of_items-outline no_items h = refl
  of_items-outline (item d ds) h = rw (of_json-outline d h.0, of_items-outline ds h.1)

  of_members-outline : (ms found : Members) → MembersAreSound ms → of_members (members_outline ms) found ≡ Some (puts ms found)
  of_members-outline no_members found h = refl
  of_members-outline (member k d ms) found h = rw (of_json-outline d h.1) (of_members-outline ms (put k d found) h.2)

mutual
  HasNumbers-outline : (d : Data) → IsSound d → tree.HasNumbers (outline d)
  HasNumbers-outline null h = tt
  HasNumbers-outline (boolean b) h = tt
  HasNumbers-outline (number (unsigned n)) h = IsNumber-decimal n h
  HasNumbers-outline (number (negative (pos n))) h = absurd h
  HasNumbers-outline (number (negative (negsuc n))) h = IsNumber-signed_decimal (negsuc n) h
  HasNumbers-outline (number (float x)) h = absurd h
  HasNumbers-outline (string s) h = tt
  HasNumbers-outline (array ds) h = ItemsHaveNumbers-outline ds h
  HasNumbers-outline (object ms) h = MembersHaveNumbers-outline ms h.1

  ItemsHaveNumbers-outline : (ds : Items) → ItemsAreSound ds → tree.ItemsHaveNumbers (items_outline ds)
  ItemsHaveNumbers-outline no_items h = tt
  ItemsHaveNumbers-outline (item d ds) h = (HasNumbers-outline d h.0, ItemsHaveNumbers-outline ds h.1)

  MembersHaveNumbers-outline : (ms : Members) → MembersAreSound ms → tree.MembersHaveNumbers (members_outline ms)
  MembersHaveNumbers-outline no_members h = tt
  MembersHaveNumbers-outline (member k d ms) h = (HasNumbers-outline d h.1, MembersHaveNumbers-outline ms h.2)

mutual
  depth-outline : (d : Data) → tree.depth (outline d) ≡ depth d
  depth-outline null = refl
  depth-outline (boolean b) = refl
  depth-outline (number n) = refl
  depth-outline (string s) = refl
  depth-outline (array ds) = ap suc (items_depth-outline ds)
  depth-outline (object ms) = ap suc (members_depth-outline ms)

  items_depth-outline : (ds : Items) → tree.items_depth (items_outline ds) ≡ items_depth ds
  items_depth-outline no_items = refl
  items_depth-outline (item d ds) = ap₂ max (depth-outline d) (items_depth-outline ds)

  members_depth-outline : (ms : Members) → tree.members_depth (members_outline ms) ≡ members_depth ms
  members_depth-outline no_members = refl
  members_depth-outline (member k d ms) = ap₂ max (depth-outline d) (members_depth-outline ms)

tokens-compact : (d : Data) → IsSound d → tokens (compact_text d) ≡ tree.json_tokens (outline d)
tokens-compact d h = ap tokens (sym (print-outline d)) ∙ tokens-print (tree.json_tokens (outline d)) (ArePrintable-json_tokens (outline d) (HasNumbers-outline d h))

-- the text of sound data is read back as that data
pub read-compact : (d : Data) → IsSound d → depth d ≤ max_depth → read (compact_text d) ≡ Some d
read-compact d h shallow =
    ap (λ ts. whole (json.value max_depth ts)) (tokens-compact d h ∙ sym (append-nil _))
    ∙ ap whole (value-json_tokens (outline d) max_depth [] (omega (arith, depth-outline d))) ∙ of_json-outline d h
