-- Operations, as arrays of strings and whole numbers.
use Rattle.std.specs.Prelude.{ℕ, List, [], ◌∷◌, Option, Some, None, option_map, option_and_then, if◌then◌else◌, suc, ℤ, pos, negsuc, nat_le, chars}
use Rattle.serde_json.specs.Data.{Data}
use Rattle.serde_json.specs.Find.{as_str, as_array, as_number, as_i64}
use Rattle.ot_text.specs.Change.{Change}
use Rattle.ot_text.specs.Parts.{base_of, norm}
use Rattle.ot_text.specs.declared.part.Part.{Part}
use Rattle.ot_text.specs.declared.part.Part.TheVariants.{Retain, Insert, Delete}
use Rattle.wire_json.specs.Values.{most_count, elements}

-- a whole number retains so many characters, or deletes them where it is below 0
abbrev pub part_of_int : ℤ → Part
part_of_int (pos n) = Retain n
part_of_int (negsuc n) = Delete (suc n)

-- a number without a point and an exponent
abbrev pub part_of_number : Data → Option Part
part_of_number d = option_map part_of_int (option_and_then as_i64 (as_number d))

-- an insert of the string, if there is one, and else the part of a number
abbrev pub part_or : Option (List ℕ) → Data → Option Part
part_or (Some string) d = Some (Insert (chars string))
part_or None d = part_of_number d

-- a string inserts, and a number retains or deletes
abbrev pub part_of : Data → Option Part
part_of d = part_or (as_str d) d

-- each of the elements is a part
abbrev pub parts_of_list : List Data → Option (List Part)
parts_of_list [] = Some []
parts_of_list (d ∷ ds) = option_and_then (λ part. option_map (λ parts. part ∷ parts) (parts_of_list ds)) (part_of d)

-- the normal operation of the parts, where their numbers sum to no more than the limit
abbrev pub op_of_parts : List Part → Option Change
op_of_parts parts = if nat_le (base_of parts) most_count then Some (norm parts) else None

-- the operation of an array's elements
abbrev pub op_of_list : List Data → Option Change
op_of_list ds = option_and_then op_of_parts (parts_of_list ds)

-- an operation
abbrev pub op_of : Data → Option Change
op_of d = option_and_then (λ ds. op_of_list (elements ds)) (as_array d)
