-- What the seats' own acts say of the acts of all.
use Rattle.std.proofs.Common.{◌≡◌, ◌≢◌, ◌⊎◌, inl, inr, ℕ, suc, ◌+◌, ◌≤◌, Bool, true, false, not, ◌||◌, ◌==◌, if◌then◌else◌, List, [], ◌∷◌, ◌++◌, length, refl, sym, ap, ◌∙◌, subst, append_assoc, append-nil, length-append, eq-eqb, arith}
use Rattle.std.proofs.lemmas.Bool.{eqb-true}
use Rattle.seat_lock.specs.Lists.{AllOf, IsIn, Begins, rows_of}
use Rattle.seat_lock.specs.Values.{SeatValue}
use Rattle.troop_entry.specs.declared.block.Block.{Block}
use Rattle.troop_entry.specs.Told.{is_edit_of}
use Rattle.troop_entry.specs.declared.entry.Entry.{Entry}
use Rattle.block_queue.specs.declared.item.Item.{Item}
use Rattle.block_queue.specs.declared.item.Item.TheVariants as item
use Rattle.stage_state.specs.declared.act.Act.{Act}
use Rattle.stage_state.specs.declared.act.Act.TheVariants as act
use Rattle.stage_state.specs.declared.act.Next.{Next}
use Rattle.stage_state.specs.declared.act.Next.TheVariants as next
use Rattle.stage_state.specs.declared.played.Origin.{Origin}
use Rattle.stage_state.specs.Machine.{Machine, next_of, counted_from, sent_pairs, after_act, CanAct, IsPlayed, IsSend, after_acts, after_own_edit, after_other_entry}
use Rattle.stage_state.specs.Staged.{acts_of}
use Rattle.stage_state.specs.Origins.{machine_at, ArePlayed}
use Rattle.stage_state.proofs.Machine.{sent_grows}
use Rattle.activities.specs.Driving.{block_items}
use Rattle.activities.specs.Memory.{PlacedAct, SeatMemory, placed_row, seen_in, own_in, by_others, Remembers}
use Rattle.activities.specs.Down.{entry_takes}
use Rattle.activities.specs.Up.{next_pair, sent_by, sent_in}
use Rattle.performer.specs.Joined.{picked, entry_in, next_in, acts_by, marked_by}
use Rattle.activities.proofs.Remembers.{seen_in-append, own_in-append}
use Rattle.activities.proofs.SentUp.{sent_in-append, sent_in-by_others, machine_behind}

-- ---- what is picked from the acts of one seat

pick_head : {X : Type 0} (pick : Act → List X) (n : ℕ) (r : PlacedAct) (rest kept : List PlacedAct) (b : Bool) → (r.0 == n) ≡ b → (r.0 ≡ n) ⊎ (pick r.1 ≡ [])
    → picked pick rest ≡ picked pick kept → pick r.1 ++ picked pick rest ≡ picked pick (if b then r ∷ kept else kept)
pick_head pick n r rest kept true is which same = ap (λ l. pick r.1 ++ l) same
pick_head pick n r rest kept false is (inl e) same = let wrong : true ≡ false = sym (eq-eqb r.0 n e) ∙ is in absurd (cc)
pick_head pick n r rest kept false is (inr e) same = ap (λ l. l ++ picked pick rest) e ∙ same

pub picked_by : {X : Type 0} (pick : Act → List X) (n : ℕ) (acts : List PlacedAct) → AllOf (λ (r : PlacedAct). (r.0 ≡ n) ⊎ (pick r.1 ≡ [])) acts
    → picked pick acts ≡ picked pick (acts_by n acts)
picked_by pick n [] h = refl
picked_by pick n (r ∷ acts) h = pick_head pick n r acts (acts_by n acts) (r.0 == n) refl h.0 (picked_by pick n acts h.1)

-- what holds of each act of a seat, of acts of which some are its own
owned_head : (P : PlacedAct → Type 0) (n : ℕ) (r : PlacedAct) (rest : List PlacedAct) (b : Bool) → (r.0 == n) ≡ b → AllOf P (if b then r ∷ rest else rest)
    → (r.0 ≡ n → P r) × AllOf P rest
owned_head P n r rest true is h = ((λ e. h.0), h.1)
owned_head P n r rest false is h = ((λ e. let wrong : true ≡ false = sym (eq-eqb r.0 n e) ∙ is in absurd (cc)), h)

pub owned : (P : PlacedAct → Type 0) (n : ℕ) (acts : List PlacedAct) → AllOf P (acts_by n acts) → AllOf (λ (r : PlacedAct). r.0 ≡ n → P r) acts
owned P n [] h = tt
owned P n (r ∷ acts) h = let first = owned_head P n r (acts_by n acts) (r.0 == n) refl h in (first.0, owned P n acts first.1)

which : {X : Type 0} (pick : Act → List X) (a b n : ℕ) (r : PlacedAct) → IsIn r.0 (a ∷ b ∷ n ∷ []) → (r.0 ≡ a → pick r.1 ≡ []) → (r.0 ≡ b → pick r.1 ≡ [])
    → (r.0 ≡ n) ⊎ (pick r.1 ≡ [])
which pick a b n r (inl e) none_a none_b = inr (none_a (sym e))
which pick a b n r (inr (inl e)) none_a none_b = inr (none_b (sym e))
which pick a b n r (inr (inr (inl e))) none_a none_b = inl (sym e)
which pick a b n r (inr (inr (inr e))) none_a none_b = absurd e

-- of three seats one alone picks
pub one_of_three : {X : Type 0} (pick : Act → List X) (a b n : ℕ) (acts : List PlacedAct) → AllOf (λ (r : PlacedAct). IsIn r.0 (a ∷ b ∷ n ∷ [])) acts
    → AllOf (λ (r : PlacedAct). r.0 ≡ a → pick r.1 ≡ []) acts → AllOf (λ (r : PlacedAct). r.0 ≡ b → pick r.1 ≡ []) acts
    → AllOf (λ (r : PlacedAct). (r.0 ≡ n) ⊎ (pick r.1 ≡ [])) acts
one_of_three pick a b n [] every none_a none_b = tt
one_of_three pick a b n (r ∷ acts) every none_a none_b =
    (which pick a b n r every.0 none_a.0 none_b.0, one_of_three pick a b n acts every.1 none_a.1 none_b.1)

picked-append : {X : Type 0} (pick : Act → List X) (xs ys : List PlacedAct) → picked pick (xs ++ ys) ≡ picked pick xs ++ picked pick ys
picked-append pick [] ys = refl
picked-append pick (x ∷ xs) ys = ap (λ rest. pick x.1 ++ rest) (picked-append pick xs ys) ∙ sym (append_assoc (pick x.1) (picked pick xs) (picked pick ys))

entries_taken : (n : ℕ) (es : List Entry) → picked entry_in (entry_takes n es) ≡ es
entries_taken n [] = refl
entries_taken n (e ∷ es) = ap (λ rest. e ∷ rest) (entries_taken n es)

no_entry : (b : Bool) (n : ℕ) → picked entry_in (placed_row b n act.Halt) ≡ []
no_entry true n = refl
no_entry false n = refl

pub entries_by : (b : Bool) (n : ℕ) (es : List Entry) → picked entry_in (entry_takes n es ++ placed_row b n act.Halt) ≡ es
entries_by b n es = picked-append entry_in (entry_takes n es) (placed_row b n act.Halt) ∙ ap (λ l. l ++ picked entry_in (placed_row b n act.Halt)) (entries_taken n es)
    ∙ ap (λ l. es ++ l) (no_entry b n) ∙ append-nil es

-- ---- what was popped

-- the items up to the end are all that was pushed before it
pub all_popped : (xs ys : List Block) (rest : List Item) → block_items xs ++ item.End ∷ [] ≡ (block_items ys ++ item.End ∷ []) ++ rest → xs ≡ ys
all_popped [] [] rest e = refl
all_popped [] (y ∷ ys) rest e = absurd (cc)
all_popped (x ∷ xs) [] rest e = absurd (cc)
all_popped (x ∷ xs) (y ∷ ys) rest e =
    let head : x ≡ y = cc in
    let tail : block_items xs ++ item.End ∷ [] ≡ (block_items ys ++ item.End ∷ []) ++ rest = cc in
    let same : xs ≡ ys = all_popped xs ys rest tail in
    ap (λ (b : Block). b ∷ xs) head ∙ ap (λ (l : List Block). y ∷ l) same

-- ---- the seat's memory, in the end

abbrev Numbered : ℕ → SeatMemory → Type 0
Numbered n k = AllOf (λ (r : PlacedAct). r.0 ≡ n) (own_in k)

enough_more : (n : ℕ) (b same : Bool) (r : PlacedAct) (k : SeatMemory) (rest : List PlacedAct) → (r.0 == n) ≡ same
    → AllOf (λ (r : PlacedAct). r.0 ≡ n) (if b then r ∷ own_in k else own_in k) → (Numbered n k → length (own_in k) ≤ length (acts_by n (seen_in k ++ rest)))
    → length (if b then r ∷ own_in k else own_in k) ≤ length (if same then r ∷ acts_by n (seen_in k ++ rest) else acts_by n (seen_in k ++ rest))
enough_more n true true r k rest is h go = let e = go h.1 in omega (arith, e)
enough_more n true false r k rest is h go = let wrong : true ≡ false = sym (eq-eqb r.0 n h.0) ∙ is in absurd (cc)
enough_more n false true r k rest is h go = let e = go h in omega (arith, e)
enough_more n false false r k rest is h go = go h

-- at least its own acts have its number
enough : (n : ℕ) (k : SeatMemory) (rest : List PlacedAct) → Numbered n k → length (own_in k) ≤ length (acts_by n (seen_in k ++ rest))
enough n [] rest h = omega arith
enough n (x ∷ k) rest h = enough_more n x.0 (x.1.0 == n) x.1 k rest refl h (λ g. enough n k rest g)

none_head : (n : ℕ) (same : Bool) (r : PlacedAct) (rest : List PlacedAct) → (r.0 == n) ≡ same
    → length (if same then r ∷ acts_by n rest else acts_by n rest) ≤ 0 → (same ≡ false) × (length (acts_by n rest) ≤ 0)
none_head n true r rest is h = absurd (omega arith)
none_head n false r rest is h = (refl, h)

none_marked : (n : ℕ) (rest : List PlacedAct) → length (acts_by n rest) ≤ 0 → marked_by n rest ≡ by_others rest
none_marked n [] h = refl
none_marked n (r ∷ rest) h =
    let first = none_head n (r.0 == n) r rest refl h in
    ap (λ b. (b, r) ∷ marked_by n rest) first.0 ∙ ap (λ l. (false, r) ∷ l) (none_marked n rest first.1)

marks_head : (n : ℕ) (b same : Bool) (r : PlacedAct) (k : SeatMemory) (rest : List PlacedAct) → (r.0 == n) ≡ same
    → AllOf (λ (r : PlacedAct). r.0 ≡ n) (if b then r ∷ own_in k else own_in k)
    → length (if same then r ∷ acts_by n (seen_in k ++ rest) else acts_by n (seen_in k ++ rest)) ≤ length (if b then r ∷ own_in k else own_in k)
    → (same ≡ b) × Numbered n k × (length (acts_by n (seen_in k ++ rest)) ≤ length (own_in k))
marks_head n true true r k rest is h few = (refl, h.1, omega arith)
marks_head n true false r k rest is h few = let wrong : true ≡ false = sym (eq-eqb r.0 n h.0) ∙ is in absurd (cc)
marks_head n false true r k rest is h few = let e = enough n k rest h in absurd (omega (arith, e))
marks_head n false false r k rest is h few = (refl, h, few)

marks : (n : ℕ) (k : SeatMemory) (rest : List PlacedAct) → Numbered n k → length (acts_by n (seen_in k ++ rest)) ≤ length (own_in k)
    → marked_by n (seen_in k ++ rest) ≡ k ++ by_others rest
marks n [] rest h few = none_marked n rest few
marks n (x ∷ k) rest h few =
    let first = marks_head n x.0 (x.1.0 == n) x.1 k rest refl h few in
    ap (λ b. (b, x.1) ∷ marked_by n (seen_in k ++ rest)) first.0 ∙ ap (λ l. x ∷ l) (marks n k rest first.1 first.2)

-- of all acts, a seat has marked just those with its number
pub marked_all : (k : SeatMemory) (t : SeatValue PlacedAct Origin) (acts : List PlacedAct) → Remembers k t → (later : Begins t.seen acts) → acts_by t.number acts ≡ t.own
    → marked_by t.number acts ≡ k ++ by_others later.0
marked_all k t acts is later own =
    let all : seen_in k ++ later.0 ≡ acts = ap (λ l. l ++ later.0) is.seen ∙ later.1 in
    let numbered : Numbered t.number k = subst (λ (l : List PlacedAct). AllOf (λ (r : PlacedAct). r.0 ≡ t.number) l) (sym is.own) is.numbered in
    let same : length (acts_by t.number (seen_in k ++ later.0)) ≡ length (own_in k) = ap (λ l. length (acts_by t.number l)) all ∙ ap length own ∙ ap length (sym is.own) in
    ap (marked_by t.number) (sym all) ∙ marks t.number k later.0 numbered (omega (arith, same))

-- the front of marked acts is its acts, marked
pub front_marked : (n : ℕ) (k rest : SeatMemory) (acts : List PlacedAct) → k ++ rest ≡ marked_by n acts → marked_by n (seen_in k) ≡ k
front_marked n [] rest acts is = refl
front_marked n (x ∷ k) rest [] is = absurd (cc)
front_marked n (x ∷ k) rest (r ∷ acts) is =
    let head : x ≡ (r.0 == n, r) = cc in
    let tail : k ++ rest ≡ marked_by n acts = cc in
    let same : (x.1.0 == n, x.1) ≡ x = ap (λ (y : Bool × PlacedAct). (y.1.0 == n, y.1)) head ∙ sym head in
    ap (λ (y : Bool × PlacedAct). y ∷ marked_by n (seen_in k)) same ∙ ap (λ l. x ∷ l) (front_marked n k rest acts tail)

-- ---- what was sent

next_sends : (n : Next) (m : Machine) → next_of m ≡ n → IsSend n → sent_pairs (after_act act.Next m) ≡ sent_pairs m ++ next_pair n
next_sends (next.Send num c) m is h = sent_grows m num c is
next_sends next.NotYet m is h = absurd h
next_sends next.Done m is h = absurd h

take_sends : (b : Bool) (e : Entry) (m : Machine) → (if b then after_own_edit e m else after_other_entry e m).sent ≡ m.sent
take_sends true e m = refl
take_sends false e m = refl

act_sends : (a : Act) (m : Machine) → CanAct m a → sent_pairs (after_act a m) ≡ sent_pairs m ++ sent_by m a
act_sends (act.Typed op) m h = sym (append-nil (sent_pairs m))
act_sends (act.Eval place) m h = sym (append-nil (sent_pairs m))
act_sends (act.Reset text) m h = sym (append-nil (sent_pairs m))
act_sends (act.Take e) m h = ap (counted_from 1) (take_sends (is_edit_of m.own e) e m) ∙ sym (append-nil (sent_pairs m))
act_sends act.Next m h = next_sends (next_of m) m refl h
act_sends act.Finish m h = sym (append-nil (sent_pairs m))
act_sends act.Halt m h = sym (append-nil (sent_pairs m))

quiet_act : (a : Act) (m : Machine) → next_in a ≡ [] → sent_by m a ≡ []
quiet_act (act.Typed op) m h = refl
quiet_act (act.Eval place) m h = refl
quiet_act (act.Reset text) m h = refl
quiet_act (act.Take e) m h = refl
quiet_act act.Next m h = absurd (cc)
quiet_act act.Finish m h = refl
quiet_act act.Halt m h = refl

sends_head : (n : ℕ) (b : Bool) (r : PlacedAct) (m : Machine) → (r.0 == n) ≡ b → (r.0 ≡ n) ⊎ (next_in r.1 ≡ []) → sent_by m r.1 ≡ (if b then sent_by m r.1 else [])
sends_head n true r m is h = refl
sends_head n false r m is (inl e) = let wrong : true ≡ false = sym (eq-eqb r.0 n e) ∙ is in absurd (cc)
sends_head n false r m is (inr e) = quiet_act r.1 m e

-- where one seat alone sends, all that was sent was sent by its acts
pub sent_all : (n : ℕ) (acts : List PlacedAct) (m : Machine) → IsPlayed m (acts_of acts) → AllOf (λ (r : PlacedAct). (r.0 ≡ n) ⊎ (next_in r.1 ≡ [])) acts
    → sent_pairs (after_acts (acts_of acts) m) ≡ sent_pairs m ++ sent_in m (marked_by n acts)
sent_all n [] m played h = sym (append-nil (sent_pairs m))
sent_all n (r ∷ acts) m played h =
    let rest = sent_in (after_act r.1 m) (marked_by n acts) in
    sent_all n acts (after_act r.1 m) played.1 h.1 ∙ ap (λ l. l ++ rest) (act_sends r.1 m played.0)
    ∙ append_assoc (sent_pairs m) (sent_by m r.1) rest ∙ ap (λ l. sent_pairs m ++ (l ++ rest)) (sends_head n (r.0 == n) r m refl h.0)

-- so the calls sent are those that this seat remembers to have sent
pub sent_is : (o : Origin) (k : SeatMemory) (t : SeatValue PlacedAct Origin) (acts : List PlacedAct) → Remembers k t → Begins t.seen acts → acts_by t.number acts ≡ t.own
    → ArePlayed o acts → AllOf (λ (r : PlacedAct). (r.0 ≡ t.number) ⊎ (next_in r.1 ≡ [])) acts → sent_pairs (machine_at o acts) ≡ sent_in (machine_at o []) k
sent_is o k t acts is later own run alone =
    sent_all t.number acts (machine_at o []) run alone ∙ ap (sent_in (machine_at o [])) (marked_all k t acts is later own)
    ∙ sent_in-append (machine_at o []) k (by_others later.0) ∙ ap (λ l. sent_in (machine_at o []) k ++ l) (sent_in-by_others (machine_behind (machine_at o []) k) later.0)
    ∙ append-nil (sent_in (machine_at o []) k)
