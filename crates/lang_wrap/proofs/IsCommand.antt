-- The first command of bytes is the front of them that is a command, and what is wrapped is one.
use Rattle.std.proofs.Common.{◌≡◌, ℕ, zero, suc, ◌+◌, ◌-◌, ◌≤◌, List, [], ◌∷◌, ◌++◌, length, take, drop, Bool, true, false, ◌||◌, ◌==◌, refl, sym, ◌∙◌, ap, subst, arith, append_assoc, append-nil, length-append, inl, inr}
use Rattle.std.specs.Prelude.{Option, None, Some, IfSome, option_map, slice_get, if◌then◌else◌}
use Rattle.std.specs.List.{list_any, onto_first}
use Rattle.std.specs.Str.{encode_utf8_all}
use Rattle.std.proofs.lemmas.Grind.{common_steps}
use Rattle.std.proofs.lemmas.List.{take-append-drop}
use Rattle.std.proofs.Math.Seq.{take-append_seam}
use Rattle.std.specs.Option.{option_map_or}
use Rattle.troop_entry.specs.declared.call.Lang.{Lang}
use Rattle.troop_entry.specs.declared.call.Lang.TheVariants as lang
use Rattle.lang_wrap.specs.Wraps.{opens, closes, pieces, has_brace_line, ends_with_feed, plain_form, braced_form, wrap_bytes, wrap}
use Rattle.lang_wrap.specs.Commands.{has_feed, AreLines, bytes_of_lines, IsClosed, AreCommand, IsCommand, lines_with_front, lines_in, closing_end, command_end, IsOneLine}
use Rattle.lang_wrap.proofs.HasBraceLine.{brace_line_same, one_line_encoded}
use Rattle.lang_wrap.proofs.CommandEnd.{first_line, first_no, rest_no}

-- ## A front that is a command is found

lines_joined : (ls : List (List ℕ)) (rest : List ℕ) → AreLines ls → lines_in (bytes_of_lines ls ++ rest) ≡ ls ++ lines_in rest
lines_joined [] rest all = refl
lines_joined (l ∷ ls) rest all =
    ap lines_in (append_assoc l (10 ∷ bytes_of_lines ls) rest)
    ∙ first_line l (bytes_of_lines ls ++ rest) all.0
    ∙ ap (λ more. l ∷ more) (lines_joined ls rest all.1)

length_joined : (l : List ℕ) (ls : List (List ℕ)) → length (bytes_of_lines (l ∷ ls)) ≡ length l + 1 + length (bytes_of_lines ls)
length_joined l ls = length-append l (10 ∷ bytes_of_lines ls) ∙ grind arith

closed_found : (ls more : List (List ℕ)) → IsClosed ls → closing_end (ls ++ more) ≡ Some (length (bytes_of_lines ls))
closed_found [] more closed = absurd closed
closed_found (l ∷ []) more closed = rw closed (ap Some (grind arith ∙ sym (length_joined l [])))
closed_found (l ∷ n ∷ ls) more closed =
    rw closed.0 (ap (option_map (λ m. length l + 1 + m)) (closed_found (n ∷ ls) more closed.1) ∙ ap Some (sym (length_joined l (n ∷ ls))))

command_found : (lang : Lang) (ls more : List (List ℕ)) → AreCommand lang ls → command_end lang (ls ++ more) ≡ Some (length (bytes_of_lines ls))
command_found lang.Lines [] more command = absurd command
command_found lang.Ghci [] more command = absurd command
command_found lang.Lines (l ∷ []) more command = ap Some (grind arith ∙ sym (length_joined l []))
command_found lang.Lines (l ∷ n ∷ ls) more command = absurd command
command_found lang.Ghci (l ∷ []) more command = rw command (ap Some (grind arith ∙ sym (length_joined l [])))
command_found lang.Ghci (l ∷ n ∷ ls) more command =
    rw command.0 (ap (option_map (λ m. length l + 1 + m)) (closed_found (n ∷ ls) more command.1) ∙ ap Some (sym (length_joined l (n ∷ ls))))

-- a command in front of other bytes ends where the first command ends
pub front_found : (lang : Lang) (command rest : List ℕ) → IsCommand lang command → command_end lang (lines_in (command ++ rest)) ≡ Some (length command)
front_found lang command rest is =
    ap (λ c. command_end lang (lines_in (c ++ rest))) is.bytes_are
    ∙ ap (command_end lang) (lines_joined is.lines rest is.are_lines)
    ∙ command_found lang is.lines (lines_in rest) is.command
    ∙ ap (λ c. Some (length c)) (sym is.bytes_are)

-- ## What is found is a command

-- lines of which the first ones are closed or are a command, so many bytes long
record IsFront (whole : List (List ℕ) → Type 0) (ls : List (List ℕ)) (n : ℕ) : Type 0 where
  front : List (List ℕ)
  later : List (List ℕ)
  lines_are : ls ≡ front ++ later
  holds : whole front
  size : n ≡ length (bytes_of_lines front)

mapped : (o : Option ℕ) (a n : ℕ) → option_map (λ m. a + m) o ≡ Some n → (m : ℕ) × (o ≡ Some m) × (n ≡ a + m)
mapped None a n is = absurd (let e : None ≡ Some n = is in cc)
mapped (Some m) a n is = (m, refl, let e : Some (a + m) ≡ Some n = is in cc)

closed_cons : (l : List ℕ) (ls : List (List ℕ)) → closes l ≡ false → IsClosed ls → IsClosed (l ∷ ls)
closed_cons l [] passed closed = absurd closed
closed_cons l (n ∷ ls) passed closed = (passed, closed)

open_cons : (l : List ℕ) (ls : List (List ℕ)) → opens l ≡ true → IsClosed ls → AreCommand lang.Ghci (l ∷ ls)
open_cons l [] open_line closed = absurd closed
open_cons l (n ∷ ls) open_line closed = (open_line, closed)

line_long : (l : List ℕ) (n : ℕ) → Some (length l + 1) ≡ Some n → n ≡ length (bytes_of_lines (l ∷ []))
line_long l n is = let e : length l + 1 ≡ n = cc in let f : length (bytes_of_lines (l ∷ [])) ≡ length l + 1 + 0 = length_joined l [] in omega (arith, e, f)

closed_at : (l : List ℕ) (ls : List (List ℕ)) (n : ℕ) (b : Bool) → closes l ≡ b
    → (if b then Some (length l + 1) else option_map (λ m. length l + 1 + m) (closing_end ls)) ≡ Some n
    → ((m : ℕ) → closing_end ls ≡ Some m → IsFront IsClosed ls m) → IsFront IsClosed (l ∷ ls) n
closed_at l ls n true found is later = record { front = l ∷ []; later = ls; lines_are = refl; holds = found; size = line_long l n is }
closed_at l ls n false passed is later =
    let m = mapped (closing_end ls) (length l + 1) n is in
    let f = later m.0 m.1 in
    record {
      front = l ∷ f.front;
      later = f.later;
      lines_are = ap (λ more. l ∷ more) f.lines_are;
      holds = closed_cons l f.front passed f.holds;
      size = m.2 ∙ ap (λ k. length l + 1 + k) f.size ∙ sym (length_joined l f.front);
    }

closed_some : (ls : List (List ℕ)) (n : ℕ) → closing_end ls ≡ Some n → IsFront IsClosed ls n
closed_some [] n is = absurd (let e : None ≡ Some n = is in cc)
closed_some (l ∷ ls) n is = closed_at l ls n (closes l) refl is (λ m e. closed_some ls m e)

command_at : (l : List ℕ) (ls : List (List ℕ)) (n : ℕ) (b : Bool) → opens l ≡ b
    → (if b then option_map (λ m. length l + 1 + m) (closing_end ls) else Some (length l + 1)) ≡ Some n → IsFront (AreCommand lang.Ghci) (l ∷ ls) n
command_at l ls n false plain is = record { front = l ∷ []; later = ls; lines_are = refl; holds = plain; size = line_long l n is }
command_at l ls n true open_line is =
    let m = mapped (closing_end ls) (length l + 1) n is in
    let f = closed_some ls m.0 m.1 in
    record {
      front = l ∷ f.front;
      later = f.later;
      lines_are = ap (λ more. l ∷ more) f.lines_are;
      holds = open_cons l f.front open_line f.holds;
      size = m.2 ∙ ap (λ k. length l + 1 + k) f.size ∙ sym (length_joined l f.front);
    }

command_some : (lang : Lang) (ls : List (List ℕ)) (n : ℕ) → command_end lang ls ≡ Some n → IsFront (AreCommand lang) ls n
command_some lang.Lines [] n is = absurd (let e : None ≡ Some n = is in cc)
command_some lang.Ghci [] n is = absurd (let e : None ≡ Some n = is in cc)
command_some lang.Lines (l ∷ ls) n is = record { front = l ∷ []; later = ls; lines_are = refl; holds = tt; size = line_long l n is }
command_some lang.Ghci (l ∷ ls) n is = command_at l ls n (opens l) refl is

joined_append : (xs ys : List (List ℕ)) → bytes_of_lines (xs ++ ys) ≡ bytes_of_lines xs ++ bytes_of_lines ys
joined_append [] ys = refl
joined_append (x ∷ xs) ys = ap (λ more. x ++ 10 ∷ more) (joined_append xs ys) ∙ sym (append_assoc x (10 ∷ bytes_of_lines xs) (bytes_of_lines ys))

lines_front : (xs ys : List (List ℕ)) → AreLines (xs ++ ys) → AreLines xs
lines_front [] ys all = tt
lines_front (x ∷ xs) ys all = (all.0, lines_front xs ys all.1)

lines_both : (xs ys : List (List ℕ)) → AreLines xs → AreLines ys → AreLines (xs ++ ys)
lines_both [] ys all more = more
lines_both (x ∷ xs) ys all more = (all.0, lines_both xs ys all.1 more)

is_feed : (b : ℕ) → (b == 10) ≡ true → b ≡ 10
is_feed b h = grind (arith, common_steps)

no_feed_more : (front : List ℕ) (b : ℕ) → has_feed front ≡ false → (b == 10) ≡ false → has_feed (front ++ b ∷ []) ≡ false
no_feed_more [] b none other = rw other refl
no_feed_more (x ∷ front) b none other =
    rw (first_no (x == 10) (has_feed front) none) (no_feed_more front b (rest_no (x == 10) (has_feed front) none) other)

-- the bytes are their lines, and what stands behind the last line feed
whole_at : (front : List ℕ) (b : ℕ) (bytes : List ℕ) (feed : Bool) → (b == 10) ≡ feed → has_feed front ≡ false
    → ((front : List ℕ) → has_feed front ≡ false → (tail : List ℕ) × (front ++ bytes ≡ bytes_of_lines (lines_with_front front bytes) ++ tail) × AreLines (lines_with_front front bytes))
    → (tail : List ℕ) × (front ++ b ∷ bytes ≡ bytes_of_lines (if feed then front ∷ lines_with_front [] bytes else lines_with_front (front ++ b ∷ []) bytes) ++ tail)
    × AreLines (if feed then front ∷ lines_with_front [] bytes else lines_with_front (front ++ b ∷ []) bytes)
whole_at front b bytes true feed none later =
    let w = later [] refl in
    (w.0, ap (λ c. front ++ c ∷ bytes) (is_feed b feed) ∙ ap (λ more. front ++ 10 ∷ more) w.1 ∙ sym (append_assoc front (10 ∷ bytes_of_lines (lines_in bytes)) w.0), (none, w.2))
whole_at front b bytes false other none later =
    let w = later (front ++ b ∷ []) (no_feed_more front b none other) in
    (w.0, sym (append_assoc front (b ∷ []) bytes) ∙ w.1, w.2)

lines_whole : (front bytes : List ℕ) → has_feed front ≡ false
    → (tail : List ℕ) × (front ++ bytes ≡ bytes_of_lines (lines_with_front front bytes) ++ tail) × AreLines (lines_with_front front bytes)
lines_whole front [] none = (front, append-nil front, tt)
lines_whole front (b ∷ bytes) none = whole_at front b bytes (b == 10) refl none (λ f. lines_whole f bytes)

-- where the first command ends, the bytes in front are a command
pub found_front : (lang : Lang) (bytes : List ℕ) (n : ℕ) → command_end lang (lines_in bytes) ≡ Some n → (n ≤ length bytes) × IsCommand lang (take n bytes)
found_front lang bytes n is =
    let f = command_some lang (lines_in bytes) n is in
    let w = lines_whole [] bytes refl in
    let command : List ℕ = bytes_of_lines f.front in
    let rest : List ℕ = bytes_of_lines f.later ++ w.0 in
    let bytes_are : bytes ≡ command ++ rest =
    w.1 ∙ ap (λ ls. bytes_of_lines ls ++ w.0) f.lines_are ∙ ap (λ bs. bs ++ w.0) (joined_append f.front f.later) ∙ append_assoc command (bytes_of_lines f.later) w.0 in
    let long : length bytes ≡ length command + length rest = ap length bytes_are ∙ length-append command rest in
    let taken : take n bytes ≡ command = ap (λ bs. take n bs) bytes_are ∙ ap (λ k. take k (command ++ rest)) f.size ∙ take-append_seam command rest in (
      omega (arith, long, f.size),
      record {
        lines = f.front;
        are_lines = lines_front f.front f.later (subst AreLines f.lines_are w.2);
        bytes_are = taken;
        command = f.holds;
      },
    )

-- the same of an answer that may be none
pub found_front_if : (lang : Lang) (bytes : List ℕ) (result : Option ℕ) → result ≡ command_end lang (lines_in bytes)
    → IfSome result (λ n. (n ≤ length bytes) × IsCommand lang (take n bytes))
found_front_if lang bytes None is = tt
found_front_if lang bytes (Some n) is = found_front lang bytes n (sym is)

-- a front that is a command ends where the first command ends
pub only_front : (lang : Lang) (bytes : List ℕ) (n : ℕ) → n ≤ length bytes → IsCommand lang (take n bytes) → command_end lang (lines_in bytes) ≡ Some n
only_front lang bytes n within is =
    let size : length (take n bytes) ≡ n = grind (arith, common_steps) in
    ap (λ bs. command_end lang (lines_in bs)) (sym (take-append-drop n bytes))
    ∙ front_found lang (take n bytes) (drop n bytes) is
    ∙ ap Some size

-- ## What is wrapped is a command

split_at : (b : ℕ) (bs : List ℕ) (feed : Bool) → (b == 10) ≡ feed → pieces (b ∷ bs) ≡ (if feed then [] ∷ pieces bs else onto_first b (pieces bs))
split_at b bs feed is = ap (λ f. if f then [] ∷ pieces bs else onto_first b (pieces bs)) is

joined_onto : (b : ℕ) (ps : List (List ℕ)) (bs : List ℕ) → bytes_of_lines ps ≡ bs ++ 10 ∷ [] → bytes_of_lines (onto_first b ps) ≡ b ∷ (bs ++ 10 ∷ [])
joined_onto b [] [] is = absurd (let e : [] ≡ 10 ∷ [] = is in cc)
joined_onto b [] (c ∷ bs) is = absurd (let e : [] ≡ c ∷ (bs ++ 10 ∷ []) = is in cc)
joined_onto b (p ∷ ps) bs is = ap (λ more. b ∷ more) is

joined_at : (b : ℕ) (bs : List ℕ) (feed : Bool) → (b == 10) ≡ feed → bytes_of_lines (pieces bs) ≡ bs ++ 10 ∷ [] → bytes_of_lines (pieces (b ∷ bs)) ≡ (b ∷ bs) ++ 10 ∷ []
joined_at b bs true feed later = ap bytes_of_lines (split_at b bs true feed) ∙ ap (λ more. 10 ∷ more) later ∙ ap (λ c. c ∷ (bs ++ 10 ∷ [])) (sym (is_feed b feed))
joined_at b bs false other later = ap bytes_of_lines (split_at b bs false other) ∙ joined_onto b (pieces bs) bs later

pieces_joined : (bytes : List ℕ) → bytes_of_lines (pieces bytes) ≡ bytes ++ 10 ∷ []
pieces_joined [] = refl
pieces_joined (b ∷ bs) = joined_at b bs (b == 10) refl (pieces_joined bs)

onto_lines : (b : ℕ) (ps : List (List ℕ)) → (b == 10) ≡ false → AreLines ps → AreLines (onto_first b ps)
onto_lines b [] other all = (rw other refl, tt)
onto_lines b (p ∷ ps) other all = (rw other all.0, all.1)

lines_split : (b : ℕ) (bs : List ℕ) (feed : Bool) → (b == 10) ≡ feed → AreLines (pieces bs) → AreLines (pieces (b ∷ bs))
lines_split b bs true feed later = subst AreLines (sym (split_at b bs true feed)) (refl, later)
lines_split b bs false other later = subst AreLines (sym (split_at b bs false other)) (onto_lines b (pieces bs) other later)

pieces_lines : (bytes : List ℕ) → AreLines (pieces bytes)
pieces_lines [] = (refl, tt)
pieces_lines (b ∷ bs) = lines_split b bs (b == 10) refl (pieces_lines bs)

last_closes : (ps : List (List ℕ)) → list_any (λ p. opens p || closes p) ps ≡ false → IsClosed (ps ++ (58 ∷ 125 ∷ []) ∷ [])
last_closes [] none = refl
last_closes (p ∷ ps) none =
    closed_cons p (ps ++ (58 ∷ 125 ∷ []) ∷ [])
    (rest_no (opens p) (closes p) (first_no (opens p || closes p) (list_any (λ p. opens p || closes p) ps) none))
    (last_closes ps (rest_no (opens p || closes p) (list_any (λ p. opens p || closes p) ps) none))

-- a Ghci text no line of which opens or closes is wrapped to a command
pub ghci_wrapped : (text : List ℕ) → has_brace_line text ≡ false → IsCommand lang.Ghci (wrap lang.Ghci text)
unfolding wrap
ghci_wrapped text none =
    let bytes : List ℕ = encode_utf8_all text in
    let first : List ℕ = 58 ∷ 123 ∷ [] in
    let last : List ℕ = 58 ∷ 125 ∷ [] in
    let braced_is : wrap_bytes lang.Ghci (has_brace_line text) bytes ≡ braced_form bytes = ap (λ b. if b then plain_form bytes else braced_form bytes) none in
    record {
      lines = first ∷ (pieces bytes ++ last ∷ []);
      are_lines = (refl, lines_both (pieces bytes) (last ∷ []) (pieces_lines bytes) (refl, tt));
      bytes_are = braced_is
          ∙ ap (λ more. 58 ∷ 123 ∷ 10 ∷ more) (sym (joined_append (pieces bytes) (last ∷ []) ∙ ap (λ bs. bs ++ (58 ∷ 125 ∷ 10 ∷ [])) (pieces_joined bytes) ∙ append_assoc bytes (10 ∷ []) (58 ∷ 125 ∷ 10 ∷ [])));
      command = open_cons first (pieces bytes ++ last ∷ []) refl (last_closes (pieces bytes) (brace_line_same text ∙ none));
    }

none_ended : (bytes : List ℕ) (i : ℕ) → has_feed bytes ≡ false → option_map_or (λ b. b == 10) (slice_get bytes i) false ≡ false
none_ended [] i none = refl
none_ended (b ∷ bytes) zero none = first_no (b == 10) (has_feed bytes) none
none_ended (b ∷ bytes) (suc i) none = none_ended bytes i (rest_no (b == 10) (has_feed bytes) none)

get_end : (xs : List ℕ) (x : ℕ) → slice_get (xs ++ x ∷ []) (length xs) ≡ Some x
get_end [] x = refl
get_end (y ∷ xs) x = get_end xs x

line_ended : (line : List ℕ) → ends_with_feed (line ++ 10 ∷ []) ≡ true
line_ended line =
    let at : length (line ++ 10 ∷ []) - 1 ≡ length line = rw (length-append line (10 ∷ [])) (omega arith) in
    ap (λ i. option_map_or (λ b. b == 10) (slice_get (line ++ 10 ∷ []) i) false) at ∙ ap (λ o. option_map_or (λ b. b == 10) o false) (get_end line 10)

-- a Lines text of one line is wrapped to a command
pub line_wrapped : (text : List ℕ) → IsOneLine text → IsCommand lang.Lines (wrap lang.Lines text)
unfolding wrap
line_wrapped text one = elim (one_line_encoded text one) [
  | inl none ↦ record {
    lines = encode_utf8_all text ∷ [];
    are_lines = (none, tt);
    bytes_are = ap (λ b. if b then encode_utf8_all text else encode_utf8_all text ++ 10 ∷ []) (none_ended (encode_utf8_all text) (length (encode_utf8_all text) - 1) none);
    command = tt;
  }
  | inr l ↦ record {
    lines = l.0 ∷ [];
    are_lines = (l.1, tt);
    bytes_are = ap (λ b. if b then encode_utf8_all text else encode_utf8_all text ++ 10 ∷ []) (ap ends_with_feed l.2 ∙ line_ended l.0) ∙ l.2;
    command = tt;
  }
]
