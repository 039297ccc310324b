-- How far a call has come: what it took so far is held.
use Rattle.std.proofs.Common.{◌≡◌, ℕ, suc, ◌+◌, ◌-◌, ◌≤◌, List, [], ◌++◌, length, Some, None, refl, sym, ap, ◌∙◌, subst, arith, append_assoc, append-nil, length-append, inl, inr}
use Rattle.std.specs.Prelude.{◌⊎◌, Option}
use Rattle.troop_ports.specs.Faults.{Counted}
use Rattle.troop_ports.specs.Bytes.{in_front}
use Rattle.wire_lines.specs.Lines.{HasNoFeed}
use Rattle.wire_lines.specs.declared.reader.State.TheVariants as state
use Rattle.wire_lines.specs.declared.reader.Line.{Line}
use Rattle.wire_lines.specs.declared.reader.Line.TheVariants as line
use Rattle.wire_lines.specs.Reader.{Reader, held_bytes, IsLong, Gives, KeepsWhole, ReadsLine, CountsLine}
use Rattle.wire_lines.specs.Looks.{Passed, Filled, Cuts, Finishes, CountsFill}

-- so many bytes were taken in this call, and are held
pub record InReading (old now : Reader) (remaining_before remaining_now : Option (List ℕ)) : Type 0 where
  pub taken : List ℕ
  pub given : remaining_before ≡ in_front taken remaining_now
  pub limit : now.limit ≡ old.limit
  pub as_before : now.state ≡ old.state
  pub whole : now.whole ≡ old.whole
  pub holds : held_bytes now ≡ held_bytes old ++ taken
  pub idle : (old.state ≡ state.Going) ⊎ (taken ≡ [])

in_front_none : (told : Option (List ℕ)) → told ≡ in_front [] told
in_front_none None = refl
in_front_none (Some rest) = refl

in_front_twice : (xs ys : List ℕ) (told : Option (List ℕ)) → in_front xs (in_front ys told) ≡ in_front (xs ++ ys) told
in_front_twice xs ys None = refl
in_front_twice xs ys (Some rest) = ap Some (sym (append_assoc xs ys rest))

-- nothing was taken yet
pub starts : (old : Reader) (remaining : Option (List ℕ)) → InReading old old remaining remaining
starts old remaining = record { taken = []; given = in_front_none remaining; limit = refl; as_before = refl; whole = refl; holds = sym (append-nil (held_bytes old)); idle = inr refl }

-- a piece was read
pub goes_on : (old now mid new : Reader) (remaining0 remaining1 remaining2 : Option (List ℕ)) → InReading old now remaining0 remaining1 → Passed now mid → mid.limit ≡ now.limit → Filled mid new remaining1 remaining2 → new.limit ≡ mid.limit → InReading old new remaining0 remaining2
goes_on old now mid new remaining0 remaining1 remaining2 r passed limit filled limit' = record {
  taken = r.taken ++ new.piece;
  given = r.given ∙ ap (in_front r.taken) filled.given ∙ in_front_twice r.taken new.piece remaining2;
  limit = limit' ∙ limit ∙ r.limit;
  as_before = filled.state ∙ sym passed.going ∙ r.as_before;
  whole = filled.whole ∙ passed.whole ∙ r.whole;
  holds = ap (λ l. l ++ new.piece) (filled.front ∙ passed.front ∙ r.holds) ∙ append_assoc (held_bytes old) r.taken new.piece;
  idle = inl (sym r.as_before ∙ passed.going);
}

-- then there is less room for more
pub shrinks : (now mid new : Reader) (remaining1 remaining2 : Option (List ℕ)) → Passed now mid → mid.limit ≡ now.limit → Filled mid new remaining1 remaining2 → new.limit ≡ mid.limit → suc (new.limit + 1 - length (held_bytes new)) ≤ now.limit + 1 - length (held_bytes now)
shrinks now mid new remaining1 remaining2 passed limit filled limit' =
    omega (arith, passed.short, filled.some, limit, limit', length-append new.front new.piece, ap length (filled.front ∙ passed.front))

held_mid : (now mid : Reader) → Passed now mid → held_bytes mid ≡ held_bytes now
held_mid now mid passed = ap (λ l. mid.front ++ l) passed.piece ∙ append-nil mid.front ∙ passed.front

gives_cut : (result : Line) (old now new : Reader) (remaining0 remaining1 : Option (List ℕ)) (r : InReading old now remaining0 remaining1) → Cuts result now new → Gives result old new r.taken remaining1
gives_cut (line.Text text) old now new remaining0 remaining1 r (going, goes, none, short, split, whole) =
    (sym r.as_before ∙ going, none, subst (λ n. length text.items ≤ n) r.limit short, inl (sym r.holds ∙ split, goes, whole))
gives_cut line.End old now new remaining0 remaining1 r (was, ended, none, empty, kept) = (ended, empty, sym r.holds ∙ none, inl (sym r.as_before ∙ was))
gives_cut line.Long old now new remaining0 remaining1 r (is, inl was, kept) =
    (is, elim r.idle [ inl going ↦ (let never : state.Long ≡ state.Going = sym was ∙ r.as_before ∙ going in absurd cc) | inr none ↦ inl (sym r.as_before ∙ was, none) ])
gives_cut line.Long old now new remaining0 remaining1 r (is, inr (going, long), kept) = (is, inr (sym r.as_before ∙ going, subst (IsLong old.limit) r.holds (subst (λ n. IsLong n (held_bytes now)) r.limit long)))
gives_cut line.Fault old now new remaining0 remaining1 r (was, is, same, kept) =
    (is, same ∙ r.holds, elim r.idle [ inl going ↦ (let never : state.Fault ≡ state.Going = sym was ∙ r.as_before ∙ going in absurd cc) | inr none ↦ inl (sym r.as_before ∙ was, none) ])
gives_cut line.Memory old now new remaining0 remaining1 r (was, is, same, kept, short) = (sym r.as_before ∙ was, is, same ∙ r.holds, λ long. short (subst (λ n. IsLong n (held_bytes new)) (sym r.limit) long))

keeps_cut : (result : Line) (old now new : Reader) → now.whole ≡ old.whole → Cuts result now new → KeepsWhole result old new
keeps_cut (line.Text text) old now new same cuts = tt
keeps_cut line.End old now new same cuts = cuts.4 ∙ same
keeps_cut line.Long old now new same cuts = cuts.2 ∙ same
keeps_cut line.Fault old now new same cuts = cuts.3 ∙ same
keeps_cut line.Memory old now new same cuts = cuts.3 ∙ same

-- looking answered
pub reads_cut : (result : Line) (old now new : Reader) (remaining0 remaining1 : Option (List ℕ)) → InReading old now remaining0 remaining1 → Cuts result now new → new.limit ≡ now.limit → ReadsLine result old new remaining0 remaining1
reads_cut result old now new remaining0 remaining1 r cuts limit = record { taken = r.taken; given = r.given; limit = limit ∙ r.limit; gives = gives_cut result old now new remaining0 remaining1 r cuts; keeps = keeps_cut result old now new r.whole cuts }

gives_last : (result : Line) (old now mid new : Reader) (remaining0 remaining1 : Option (List ℕ)) (r : InReading old now remaining0 remaining1) → Passed now mid → Finishes result mid new remaining1 → Gives result old new r.taken remaining1
gives_last (line.Text text) old now mid new remaining0 remaining1 r passed (ended, empty, is, some, none_remaining, whole) =
    (sym r.as_before ∙ passed.going, subst HasNoFeed (sym is) passed.no_feed, omega (arith, passed.short, ap length (is ∙ passed.front), r.limit), inr (sym r.holds ∙ sym passed.front ∙ sym is, some, empty, ended, whole, none_remaining))
gives_last line.End old now mid new remaining0 remaining1 r passed (ended, empty, is, none_remaining, kept) =
    (ended, empty, sym r.holds ∙ sym passed.front ∙ is, inr (sym r.as_before ∙ passed.going, none_remaining))
gives_last line.Long old now mid new remaining0 remaining1 r passed no_such = absurd no_such
gives_last line.Fault old now mid new remaining0 remaining1 r passed (is, same, kept) =
    (is, same ∙ held_mid now mid passed ∙ r.holds, inr (sym r.as_before ∙ passed.going, subst HasNoFeed (passed.front ∙ sym (held_mid now mid passed) ∙ sym same) passed.no_feed, omega (arith, passed.short, ap length (same ∙ held_mid now mid passed), r.limit)))
gives_last line.Memory old now mid new remaining0 remaining1 r passed no_such = absurd no_such

keeps_last : (result : Line) (old mid new : Reader) (remaining : Option (List ℕ)) → mid.whole ≡ old.whole → Finishes result mid new remaining → KeepsWhole result old new
keeps_last (line.Text text) old mid new remaining same finishes = tt
keeps_last line.End old mid new remaining same finishes = finishes.4 ∙ same
keeps_last line.Long old mid new remaining same finishes = absurd finishes
keeps_last line.Fault old mid new remaining same finishes = finishes.2 ∙ same
keeps_last line.Memory old mid new remaining same finishes = absurd finishes

-- reading answered
pub reads_last : (result : Line) (old now mid new : Reader) (remaining0 remaining1 remaining2 : Option (List ℕ)) → InReading old now remaining0 remaining1 → Passed now mid → mid.limit ≡ now.limit → (remaining2 ≡ remaining1) × Finishes result mid new remaining2 → new.limit ≡ mid.limit → ReadsLine result old new remaining0 remaining2
reads_last result old now mid new remaining0 remaining1 remaining2 r passed limit (same, finishes) limit' = record {
  taken = r.taken;
  given = r.given ∙ ap (in_front r.taken) (sym same);
  limit = limit' ∙ limit ∙ r.limit;
  gives = subst (λ l. Gives result old new r.taken l) (sym same) (gives_last result old now mid new remaining0 remaining1 r passed (subst (Finishes result mid new) same finishes));
  keeps = keeps_last result old mid new remaining2 (passed.whole ∙ r.whole) finishes;
}

-- no fault was counted in looking
pub counts_cut : (result : Line) (old now new : Reader) (remaining0 remaining1 : Option (List ℕ)) (before after : ℕ) → InReading old now remaining0 remaining1 → Cuts result now new → after ≡ before → CountsLine result old before after
counts_cut (line.Text text) old now new remaining0 remaining1 before after r cuts same = same
counts_cut line.End old now new remaining0 remaining1 before after r cuts same = same
counts_cut line.Long old now new remaining0 remaining1 before after r cuts same = same
counts_cut line.Fault old now new remaining0 remaining1 before after r cuts same = inl (sym r.as_before ∙ cuts.0, same)
counts_cut line.Memory old now new remaining0 remaining1 before after r cuts same = same

-- only a fault was counted in reading
pub counts_last : (result : Line) (old now mid : Reader) (remaining0 remaining1 : Option (List ℕ)) (before between after : ℕ) → InReading old now remaining0 remaining1 → Passed now mid → CountsFill (Some result) between after → between ≡ before → CountsLine result old before after
counts_last (line.Text text) old now mid remaining0 remaining1 before between after r passed counts same = counts ∙ same
counts_last line.End old now mid remaining0 remaining1 before between after r passed counts same = counts ∙ same
counts_last line.Long old now mid remaining0 remaining1 before between after r passed counts same = absurd counts
counts_last line.Fault old now mid remaining0 remaining1 before between after r passed counts same = inr (sym r.as_before ∙ passed.going, subst (λ n. Counted n after) same counts)
counts_last line.Memory old now mid remaining0 remaining1 before between after r passed counts same = absurd counts
