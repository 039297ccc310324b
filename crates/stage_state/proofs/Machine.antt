-- Runs of the machine: one act more, what every act leaves, what was taken and what went out.
use Rattle.std.proofs.Common.{◌≡◌, ℕ, suc, ◌+◌, ◌≤◌, Bool, true, false, if◌then◌else◌, ◌||◌, not, None, List, [], ◌∷◌, ◌++◌, length, take, drop, refl, sym, ap, ◌∙◌, arith, append_assoc, append-nil, length-append}
use Rattle.ot_text.specs.Marked.{Marked}
use Rattle.troop_entry.specs.declared.call.Call.{Call}
use Rattle.troop_entry.specs.declared.call.Call.TheVariants as call
use Rattle.troop_entry.specs.declared.entry.Entry.{Entry}
use Rattle.troop_entry.specs.declared.row.Row.{Row}
use Rattle.log_model.specs.Log.{doc_after, doc, entries}
use Rattle.log_model.specs.Legal.{IsLegal}
use Rattle.troop_entry.specs.Told.{op_told, is_edit_of}
use Rattle.log_model.specs.Told.{doc_told}
use Rattle.log_model.proofs.DocTold.{told_doc, told_between}
use Rattle.client_state.specs.declared.state.State.{State}
use Rattle.client_state.specs.declared.state.State.TheVariants.{Synchronized, Awaiting, WithBuffer}
use Rattle.client_state.specs.Pending.{outstanding}
use Rattle.client_state.specs.Standing.{pending_on}
use Rattle.stage_state.specs.declared.act.Act.{Act}
use Rattle.stage_state.specs.declared.act.Act.TheVariants as act
use Rattle.stage_state.specs.declared.act.Next.TheVariants as next
use Rattle.stage_state.specs.Machine.{Machine, machine_from, taken_count, document, held_text, after_typing, after_own_edit, after_other_entry, after_entry_taken, takes_of, next_of, next_open, next_number, counted_from, sent_pairs, after_sending, after_act, after_acts}
use Rattle.stage_state.specs.Staged.{Staged, acts_of, first_machine, machine, with_act}

-- ---- the list of acts

-- the machine one act further
pub after_acts-one_more : (acts : List Act) (a : Act) (m : Machine) → after_acts (acts ++ a ∷ []) m ≡ after_act a (after_acts acts m)
after_acts-one_more [] a m = refl
after_acts-one_more (b ∷ acts) a m = after_acts-one_more acts a (after_act b m)

-- acts in two parts
pub after_acts-append : (xs ys : List Act) (m : Machine) → after_acts (xs ++ ys) m ≡ after_acts ys (after_acts xs m)
after_acts-append [] ys m = refl
after_acts-append (a ∷ xs) ys m = after_acts-append xs ys (after_act a m)

-- the acts alone, with one more
pub acts_of-one_more : (acts : List (ℕ × Act)) (seat : ℕ) (a : Act) → acts_of (acts ++ (seat, a) ∷ []) ≡ acts_of acts ++ a ∷ []
acts_of-one_more [] seat a = refl
acts_of-one_more (b ∷ acts) seat a = ap (λ rest. b.1 ∷ rest) (acts_of-one_more acts seat a)

-- the machine, one act further
pub machine-with_act : (seat : ℕ) (a : Act) (s : Staged) → machine (with_act seat a s) ≡ after_act a (machine s)
machine-with_act seat a s =
    ap (λ acts. after_acts acts (first_machine s)) (acts_of-one_more s.acts seat a) ∙ after_acts-one_more (acts_of s.acts) a (first_machine s)

-- ---- what every act leaves

-- the performer's number and the document at the start stay, and so many entries are taken, and calls sent, at most
pub record Follows (m n : Machine) (count : ℕ) : Type 0 where
  pub own : n.own ≡ m.own
  pub joined : n.joined ≡ m.joined
  pub start : n.start ≡ m.start
  pub text : n.text ≡ m.text
  pub taken_few : taken_count n ≤ taken_count m + count
  pub sent_few : length n.sent ≤ length m.sent + count

entry_taken : (e : Entry) (m : Machine) (b : Bool) → Follows m (if b then after_own_edit e m else after_other_entry e m) 1
entry_taken e m true = record { own = refl; joined = refl; start = refl; text = refl; taken_few = omega (arith, length-append m.entries (e ∷ [])); sent_few = omega arith }
entry_taken e m false = record { own = refl; joined = refl; start = refl; text = refl; taken_few = omega (arith, length-append m.entries (e ∷ [])); sent_few = omega arith }

next_sent : (calls : List Call) (m : Machine) → Follows m (after_sending calls m) 1
next_sent [] m = record { own = refl; joined = refl; start = refl; text = refl; taken_few = omega arith; sent_few = omega (arith, length-append m.sent (call.Leave ∷ [])) }
next_sent (c ∷ calls) m = record { own = refl; joined = refl; start = refl; text = refl; taken_few = omega arith; sent_few = omega (arith, length-append m.sent (c ∷ [])) }

-- what one act leaves as it was, and what it adds to at most
pub act_follows : (a : Act) (m : Machine) → Follows m (after_act a m) 1
act_follows (act.Typed op) m = record { own = refl; joined = refl; start = refl; text = refl; taken_few = omega arith; sent_few = omega arith }
act_follows (act.Eval place) m = record { own = refl; joined = refl; start = refl; text = refl; taken_few = omega arith; sent_few = omega arith }
act_follows (act.Reset text) m = record { own = refl; joined = refl; start = refl; text = refl; taken_few = omega arith; sent_few = omega arith }
act_follows (act.Take e) m = entry_taken e m (is_edit_of m.own e)
act_follows act.Next m = next_sent m.outgoing m
act_follows act.Finish m = record { own = refl; joined = refl; start = refl; text = refl; taken_few = omega arith; sent_few = omega arith }
act_follows act.Halt m = record { own = refl; joined = refl; start = refl; text = refl; taken_few = omega arith; sent_few = omega arith }

-- what acts leave as they were, and what they add to at most
pub acts_follow : (acts : List Act) (m : Machine) → Follows m (after_acts acts m) (length acts)
acts_follow [] m = record { own = refl; joined = refl; start = refl; text = refl; taken_few = omega arith; sent_few = omega arith }
acts_follow (a ∷ acts) m =
    let first = act_follows a m in
    let rest = acts_follow acts (after_act a m) in
    record { own = rest.own ∙ first.own; joined = rest.joined ∙ first.joined; start = rest.start ∙ first.start; text = rest.text ∙ first.text; taken_few = omega (arith, first.taken_few, rest.taken_few); sent_few = omega (arith, first.sent_few, rest.sent_few) }

-- the machine has the stage's number
pub machine-own : (s : Staged) → (machine s).own ≡ s.own
machine-own s = (acts_follow (acts_of s.acts) (first_machine s)).own

-- the position of the join stays
pub machine-joined : (s : Staged) → (machine s).joined ≡ s.joined
machine-joined s = (acts_follow (acts_of s.acts) (first_machine s)).joined

-- one more call went out
pub sent_one_more : (calls : List Call) (m : Machine) → length (after_sending calls m).sent ≡ suc (length m.sent)
sent_one_more [] m = omega (arith, length-append m.sent (call.Leave ∷ []))
sent_one_more (c ∷ calls) m = omega (arith, length-append m.sent (c ∷ []))

-- a taken entry sends nothing
pub taken_sent : (b : Bool) (e : Entry) (m : Machine) → length (if b then after_own_edit e m else after_other_entry e m).sent ≡ length m.sent
taken_sent true e m = refl
taken_sent false e m = refl

-- ---- what was taken

-- the document that entries tell, one entry further
pub doc_told-one_more : (m : Marked) (entries : List Entry) (e : Entry)
    → doc_told m (entries ++ e ∷ []) ≡ doc_after e.who (op_told e.deed) (doc_told m entries)
doc_told-one_more m [] e = refl
doc_told-one_more m (x ∷ entries) e = doc_told-one_more (doc_after x.who (op_told x.deed) m) entries e

-- what goes out leaves the entries taken
pub sent_entries : (calls : List Call) (m : Machine) → (after_sending calls m).entries ≡ m.entries
sent_entries [] m = refl
sent_entries (c ∷ calls) m = refl

-- an entry taken joins the entries
pub taken_entries : (b : Bool) (e : Entry) (m : Machine) → (if b then after_own_edit e m else after_other_entry e m).entries ≡ m.entries ++ e ∷ []
taken_entries true e m = refl
taken_entries false e m = refl

-- the entries taken are those of the acts
pub entries-after_acts : (acts : List Act) (m : Machine) → (after_acts acts m).entries ≡ m.entries ++ takes_of acts
entries-after_acts [] m = sym (append-nil m.entries)
entries-after_acts (act.Typed op ∷ acts) m = entries-after_acts acts (after_typing op m)
entries-after_acts (act.Eval place ∷ acts) m = entries-after_acts acts (after_act (act.Eval place) m)
entries-after_acts (act.Reset text ∷ acts) m = entries-after_acts acts (after_act (act.Reset text) m)
entries-after_acts (act.Take e ∷ acts) m =
    entries-after_acts acts (after_entry_taken e m)
    ∙ ap (λ before. before ++ takes_of acts) (taken_entries (is_edit_of m.own e) e m)
    ∙ append_assoc m.entries (e ∷ []) (takes_of acts)
entries-after_acts (act.Next ∷ acts) m =
    entries-after_acts acts (after_sending m.outgoing m) ∙ ap (λ before. before ++ takes_of acts) (sent_entries m.outgoing m)
entries-after_acts (act.Finish ∷ acts) m = entries-after_acts acts (after_act act.Finish m)
entries-after_acts (act.Halt ∷ acts) m = entries-after_acts acts (after_act act.Halt m)

-- with nothing outstanding the held text is the document
pub nothing_pending : (own : ℕ) (s : State) (m : Marked) → outstanding s ≡ None → pending_on own s m ≡ m
nothing_pending own Synchronized m e = refl
nothing_pending own (Awaiting u) m e = absurd (cc)
nothing_pending own (WithBuffer u v) m e = absurd (cc)

-- who has taken all entries of a legal log and awaits nothing holds its document
pub held_all : (log : List Row) (own joined : ℕ) (acts : List Act) → IsLegal log → takes_of acts ≡ entries log
    → outstanding (after_acts acts (machine_from own joined 0 [])).pending ≡ None → held_text (after_acts acts (machine_from own joined 0 [])) ≡ doc log
held_all log own joined acts legal all none =
    let first : Machine = machine_from own joined 0 [] in
    let last : Machine = after_acts acts first in
    nothing_pending last.own last.pending (document last) none
    ∙ ap (λ text. doc_told text last.entries) (acts_follow acts first).text
    ∙ ap (doc_told []) (entries-after_acts acts first ∙ all)
    ∙ told_doc log legal

-- from any start up to any position
pub held_between : (log : List Row) (own joined b t : ℕ) (acts : List Act) → IsLegal log → b ≤ t → takes_of acts ≡ drop b (take t (entries log))
    → outstanding (after_acts acts (machine_from own joined b (doc (take b log)))).pending ≡ None
    → held_text (after_acts acts (machine_from own joined b (doc (take b log)))) ≡ doc (take t log)
held_between log own joined b t acts legal before these none =
    let first : Machine = machine_from own joined b (doc (take b log)) in
    let last : Machine = after_acts acts first in
    nothing_pending last.own last.pending (document last) none
    ∙ ap (λ text. doc_told text last.entries) (acts_follow acts first).text
    ∙ ap (doc_told (doc (take b log))) (entries-after_acts acts first ∙ these)
    ∙ told_between log b t legal before

-- ---- what goes out

counted-one_more : (n k : ℕ) (cs : List Call) (c : Call) → k ≡ n + length cs → counted_from n (cs ++ c ∷ []) ≡ counted_from n cs ++ (k, c) ∷ []
counted-one_more n k [] c e = let same : k ≡ n = omega arith in rw same refl
counted-one_more n k (d ∷ cs) c e = ap (λ r. (n, d) ∷ r) (counted-one_more (suc n) k cs c (omega arith))

record Goes (m : Machine) (calls : List Call) (num : ℕ) (c : Call) : Type 0 where
  number_is : num ≡ next_number m
  sent_is : (after_sending calls m).sent ≡ m.sent ++ c ∷ []

goes : (b : Bool) (m : Machine) (calls : List Call) (num : ℕ) (c : Call) → (if b then next.Done else next_open m calls) ≡ next.Send num c → Goes m calls num c
goes true m calls num c e = absurd (cc)
goes false m (d ∷ calls) num c e =
    let same : d ≡ c = cc in
    let count : next_number m ≡ num = cc in
    record { number_is = sym count; sent_is = ap (λ x. m.sent ++ x ∷ []) same }
goes false m [] num c e =
    let leave = leaves (not m.finishing || _) m.leave_sent (next_number m) e in
    record { number_is = sym leave.0; sent_is = ap (λ x. m.sent ++ x ∷ []) leave.1 }
  where
    leaves : (a b : Bool) (k : ℕ) → (if a then next.NotYet else (if b then next.Done else next.Send k call.Leave)) ≡ next.Send num c → (k ≡ num) × (call.Leave ≡ c)
    leaves true b k e = absurd (cc)
    leaves false true k e = absurd (cc)
    leaves false false k e = (cc, cc)

-- the pairs of number and call that went out are those that were sent
pub sent_grows : (m : Machine) (num : ℕ) (c : Call) → next_of m ≡ next.Send num c → sent_pairs (after_act act.Next m) ≡ sent_pairs m ++ (num, c) ∷ []
sent_grows m num c sends =
    let g = goes (m.halted || m.gone) m m.outgoing num c sends in
    ap (counted_from 1) g.sent_is ∙ counted-one_more 1 num m.sent c (omega (arith, g.number_is))
