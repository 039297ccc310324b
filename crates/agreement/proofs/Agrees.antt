-- The agreement of whole runs, with the numbers of the calls.
use Rattle.std.proofs.Common.{◌≡◌, ◌≤◌, ℕ, suc, Bool, true, false, if◌then◌else◌, nat_eq, Option, None, Some, List, [], ◌∷◌, ◌++◌, length, take, drop, slice_get, refl, sym, ap, ◌∙◌, arith}
use Rattle.ot_text.specs.Marked.{Marked}
use Rattle.troop_entry.specs.declared.row.Row.{Row}
use Rattle.troop_entry.specs.declared.call.Call.{Call}
use Rattle.log_model.specs.Legal.{IsLegal}
use Rattle.log_model.specs.Log.{doc, entries}
use Rattle.stage_state.specs.declared.act.Act.{Act}
use Rattle.stage_state.specs.Machine.{Machine, machine_from, taken_count, after_acts, counted_from, sent_pairs, IsPlayed}
use Rattle.agreement.specs.Agreement.{Agrees, is_own_join, pairs_by, lane_pairs, lane_call}
use Rattle.agreement.proofs.Agreed.{Agreed, call_lane, calls_by}
use Rattle.agreement.proofs.Ends.{run_agrees}
use Rattle.log_model.proofs.Lists.{within_length}
use Rattle.agreement.proofs.OwnAsks.{joined_row}
use Rattle.agreement.proofs.TakenCount.{taken_within}
use Rattle.agreement.proofs.Leads.{acts_lead}

-- the calls of pairs of number and call
abbrev pub calls_of : List (ℕ × Call) → List Call
calls_of [] = []
calls_of (p ∷ ps) = p.1 ∷ calls_of ps

calls_of-append : (ps qs : List (ℕ × Call)) → calls_of (ps ++ qs) ≡ calls_of ps ++ calls_of qs
calls_of-append [] qs = refl
calls_of-append (p ∷ ps) qs = ap (λ cs. p.1 ∷ cs) (calls_of-append ps qs)

calls_of-choice : (b : Bool) (p : ℕ × Call) (ps : List (ℕ × Call)) → calls_of (if b then p ∷ ps else ps) ≡ (if b then p.1 ∷ calls_of ps else calls_of ps)
calls_of-choice true p ps = refl
calls_of-choice false p ps = refl

calls_of-pairs : (who : ℕ) (rows : List Row) → calls_of (pairs_by who rows) ≡ calls_by who rows
calls_of-pairs who [] = refl
calls_of-pairs who (row ∷ rows) =
    calls_of-choice (nat_eq row.who who) (row.num, row.call) (pairs_by who rows) ∙ ap (λ cs. if nat_eq row.who who then row.call ∷ cs else cs) (calls_of-pairs who rows)

calls_of-counted : (n : ℕ) (cs : List Call) → calls_of (counted_from n cs) ≡ cs
calls_of-counted n [] = refl
calls_of-counted n (c ∷ cs) = ap (λ r. c ∷ r) (calls_of-counted (suc n) cs)

calls_of-lane : (lane : Option (ℕ × Call)) → calls_of (lane_pairs lane) ≡ call_lane (lane_call lane)
calls_of-lane None = refl
calls_of-lane (Some p) = refl

-- without the numbers
sent_calls : (own : ℕ) (rows : List Row) (lane : Option (ℕ × Call)) (sent : List Call) → pairs_by own rows ++ lane_pairs lane ≡ counted_from 1 sent → calls_by own rows ++ call_lane (lane_call lane) ≡ sent
sent_calls own rows lane sent is =
    ap (λ cs. cs ++ call_lane (lane_call lane)) (sym (calls_of-pairs own rows))
    ∙ ap (λ cs. calls_of (pairs_by own rows) ++ cs) (sym (calls_of-lane lane))
    ∙ sym (calls_of-append (pairs_by own rows) (lane_pairs lane))
    ∙ ap calls_of is
    ∙ calls_of-counted 1 sent

with_numbers : (log : List Row) (m : Machine) (lane : Option (ℕ × Call)) → pairs_by m.own (drop (suc m.joined) log) ++ lane_pairs lane ≡ sent_pairs m → Agreed log m (lane_call lane) → Agrees log m lane
with_numbers log m lane pairs h = record {
  start_is = h.start_is;
  taken_is = h.taken_is;
  within = h.within;
  sent_is = pairs;
  seen_rises = h.seen_rises;
  accounted = h.accounted;
  has_joined = h.has_joined;
  member = h.member;
  last = h.last;
  lane_fits = h.lane_fits;
  bases = h.bases;
}

-- and back
pub agreed : (log : List Row) (m : Machine) (lane : Option (ℕ × Call)) → Agrees log m lane → Agreed log m (lane_call lane)
agreed log m lane h = record {
  start_is = h.start_is;
  taken_is = h.taken_is;
  within = h.within;
  sent_is = sent_calls m.own (drop (suc m.joined) log) lane m.sent h.sent_is;
  seen_rises = h.seen_rises;
  accounted = h.accounted;
  has_joined = h.has_joined;
  member = h.member;
  last = h.last;
  lane_fits = h.lane_fits;
  bases = h.bases;
}

-- the law of whole runs
pub runs_agree : (log : List Row) (own joined start : ℕ) (text : Marked) (acts : List Act) (lane : Option (ℕ × Call))
    → let m = after_acts acts (machine_from own joined start text) in
    IsLegal log → IsPlayed (machine_from own joined start text) acts → is_own_join own (slice_get log joined) ≡ true → start ≤ suc joined → text ≡ doc (take start log)
    → m.entries ≡ drop start (take (taken_count m) (entries log)) → pairs_by own (drop (suc joined) log) ++ lane_pairs lane ≡ sent_pairs m
    → Agrees log m lane
runs_agree log own joined start text acts lane legal played has_joined near text_is entries_is sent =
    let first : Machine = machine_from own joined start text in
    let m : Machine = after_acts acts (machine_from own joined start text) in
    let l = acts_lead acts first (omega arith) in
    let j = joined_row log joined own has_joined in
    let within : taken_count m ≤ length log =
    taken_within log m (omega (arith, l.start, near, within_length log joined j.0 j.1)) (entries_is ∙ ap (λ k. drop k (take (taken_count m) (entries log))) (sym l.start)) in
    with_numbers log m lane
    (ap (λ o. pairs_by o (drop (suc m.joined) log) ++ lane_pairs lane) l.own ∙ ap (λ j. pairs_by own (drop (suc j) log) ++ lane_pairs lane) l.joined ∙ sent)
    (run_agrees log own joined start text acts (lane_call lane) legal played has_joined near text_is entries_is within (sent_calls own (drop (suc joined) log) lane m.sent sent))
