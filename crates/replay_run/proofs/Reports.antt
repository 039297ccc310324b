-- Two writes, one behind the other.
use Rattle.std.proofs.Common.{◌≡◌, ℕ, List, ◌++◌, take, drop, subst, refl, sym, ◌∙◌, ap, append_assoc, inl, inr}
use Rattle.std.specs.Prelude.{Option, Some, None}
use Rattle.std.proofs.lemmas.List.{take-append-drop}
use Rattle.troop_ports.specs.Faults.{Counted, CountsWritten}
use Rattle.troop_ports.specs.Bytes.{at_end, WritesAll}
use Rattle.troop_ports.specs.declared.sink.Written.{Written}
use Rattle.troop_ports.specs.declared.sink.Written.TheVariants as written
use Rattle.replay_run.specs.Ports.{Port, port_of, Reported, TookPrefix}

-- bytes added in two steps
pub at_end_twice : (told : Option (List ℕ)) (xs ys : List ℕ) → at_end (at_end told xs) ys ≡ at_end told (xs ++ ys)
at_end_twice None xs ys = refl
at_end_twice (Some bytes) xs ys = ap Some (append_assoc bytes xs ys)

-- a part of a line was written
pub took_part : (n : ℕ) (line : List ℕ) (p : Port) → p.after ≡ at_end p.before (take n line) → TookPrefix p line
took_part n line p wrote = (take n line, drop n line, sym (take-append-drop n line), wrote)

-- what `write_all` says, as a report
pub reported : (w : Written) (line : List ℕ) (before after : Option (List ℕ)) (old new : ℕ) → WritesAll w line before after → CountsWritten w old new → Reported (port_of before after old new) line
reported written.All line before after old new wrote counted = inl (wrote, counted)
reported (written.Part n) line before after old new wrote counted = inr (took_part n line (port_of before after old new) wrote.1, counted)

front_behind : (first line : List ℕ) (before mid after : Option (List ℕ)) (old between new : ℕ) → mid ≡ at_end before first → TookPrefix (port_of mid after between new) line → TookPrefix (port_of before after old new) (first ++ line)
front_behind first line before mid after old between new whole (front, rest, is, took) =
    (first ++ front, rest, ap (λ l. first ++ l) is ∙ sym (append_assoc first front rest), took ∙ ap (λ m. at_end m front) whole ∙ at_end_twice before first front)

-- a report behind what was taken whole
pub reported_behind : (first line : List ℕ) (before mid after : Option (List ℕ)) (old between new : ℕ) → mid ≡ at_end before first → between ≡ old → Reported (port_of mid after between new) line → Reported (port_of before after old new) (first ++ line)
reported_behind first line before mid after old between new whole same (inl then) = inl (then.0 ∙ ap (λ m. at_end m line) whole ∙ at_end_twice before first line, then.1 ∙ same)
reported_behind first line before mid after old between new whole same (inr then) = inr (front_behind first line before mid after old between new whole then.0, subst (λ k. Counted k new) same then.1)

front_short : (first line : List ℕ) (p : Port) → TookPrefix p first → TookPrefix p (first ++ line)
front_short first line p (front, rest, is, took) = (front, rest ++ line, ap (λ l. l ++ line) is ∙ append_assoc front rest line, took)

-- a fault before the rest was tried
pub reported_short : (first line : List ℕ) (n : ℕ) (before after : Option (List ℕ)) (old new : ℕ) → after ≡ at_end before (take n first) → Counted old new → Reported (port_of before after old new) (first ++ line)
reported_short first line n before after old new wrote counted = inr (front_short first line (port_of before after old new) (took_part n first (port_of before after old new) wrote), counted)

-- a part of a line was written, by another name of the line
pub took_part_of : (n : ℕ) (line whole : List ℕ) (p : Port) → line ≡ whole → p.after ≡ at_end p.before (take n line) → TookPrefix p whole
took_part_of n line whole p is wrote = (take n line, drop n line, sym is ∙ sym (take-append-drop n line), wrote)
