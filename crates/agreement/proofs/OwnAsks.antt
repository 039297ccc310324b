-- The asks of a performer's rows.
use Rattle.std.proofs.Common.{◌≡◌, ℕ, zero, suc, ◌+◌, ◌<◌, ◌≤◌, Bool, true, false, ◌&&◌, ◌||◌, nat_eq, if◌then◌else◌, Some, List, [], ◌∷◌, ◌++◌, take, slice_get, refl, sym, ap, ◌∙◌, inl, inr, ⊎_elim, ◌⊎◌, arith}
use Rattle.troop_entry.specs.declared.call.Call.TheVariants.{Join, Leave, Edit, Eval, Reset}
use Rattle.ot_text.specs.Change.{Change}
use Rattle.troop_entry.specs.declared.row.Row.{Row}
use Rattle.troop_entry.specs.declared.call.Call.{Call}
use Rattle.troop_entry.specs.Kinds.{is_join, is_leave}
use Rattle.log_model.specs.Log.{is_join_by, is_leave_by, has_join, has_leave}
use Rattle.agreement.specs.Agreement.{is_edit, SeenRises, edits_among, edit_positions, is_own_join}
use Rattle.log_model.specs.Legal.{IsLegal, HasSeenAtMost}
use Rattle.log_model.proofs.IsMember.{join_first}
use Rattle.log_model.proofs.IsLegal.{row_seen as seen_at_most}
use Rattle.log_model.proofs.Lists.{slice_get-front, true_equal}
use Rattle.agreement.proofs.Agreed.{calls_by}
use Rattle.agreement.proofs.Leads.{but_leaves}

-- all but joins and leaves
abbrev pub asks_of : List Call → List Call
asks_of [] = []
asks_of (Join name lang ∷ cs) = asks_of cs
asks_of (Leave ∷ cs) = asks_of cs
asks_of (Edit seen op ∷ cs) = Edit seen op ∷ asks_of cs
asks_of (Eval seen text ∷ cs) = Eval seen text ∷ asks_of cs
asks_of (Reset seen text ∷ cs) = Reset seen text ∷ asks_of cs

asks_of-append : (cs ds : List Call) → asks_of (cs ++ ds) ≡ asks_of cs ++ asks_of ds
asks_of-append [] ds = refl
asks_of-append (Join name lang ∷ cs) ds = asks_of-append cs ds
asks_of-append (Leave ∷ cs) ds = asks_of-append cs ds
asks_of-append (Edit seen op ∷ cs) ds = ap (λ r. Edit seen op ∷ r) (asks_of-append cs ds)
asks_of-append (Eval seen text ∷ cs) ds = ap (λ r. Eval seen text ∷ r) (asks_of-append cs ds)
asks_of-append (Reset seen text ∷ cs) ds = ap (λ r. Reset seen text ∷ r) (asks_of-append cs ds)

-- where they are asks, nothing is a join
pub asks_of-asks : (lo hi : ℕ) (cs ds : List Call) → SeenRises lo hi (but_leaves cs ++ ds) → asks_of cs ≡ but_leaves cs
asks_of-asks lo hi [] ds a = refl
asks_of-asks lo hi (Join name lang ∷ cs) ds a = absurd a
asks_of-asks lo hi (Leave ∷ cs) ds a = asks_of-asks lo hi cs ds a
asks_of-asks lo hi (Edit s o ∷ cs) ds a = ap (λ r. Edit s o ∷ r) (asks_of-asks s hi cs ds a.1)
asks_of-asks lo hi (Eval s t ∷ cs) ds a = ap (λ r. Eval s t ∷ r) (asks_of-asks s hi cs ds a.1)
asks_of-asks lo hi (Reset s t ∷ cs) ds a = ap (λ r. Reset s t ∷ r) (asks_of-asks s hi cs ds a.1)

-- the edits, evaluations and resets of the performer's rows
abbrev pub own_asks : ℕ → List Row → List Call
own_asks who rows = asks_of (calls_by who rows)

choice_append : (b : Bool) (call : Call) (cs ds : List Call) → (if b then call ∷ (cs ++ ds) else (cs ++ ds)) ≡ (if b then call ∷ cs else cs) ++ ds
choice_append true call cs ds = refl
choice_append false call cs ds = refl

-- the calls of two lists of rows
pub calls_by-both : (who : ℕ) (xs ys : List Row) → calls_by who (xs ++ ys) ≡ calls_by who xs ++ calls_by who ys
calls_by-both who [] ys = refl
calls_by-both who (x ∷ xs) ys =
    ap (λ cs. if nat_eq x.who who then x.call ∷ cs else cs) (calls_by-both who xs ys)
    ∙ choice_append (nat_eq x.who who) x.call (calls_by who xs) (calls_by who ys)

-- and their asks
pub own_asks-append : (who : ℕ) (xs ys : List Row) → own_asks who (xs ++ ys) ≡ own_asks who xs ++ own_asks who ys
own_asks-append who xs ys = ap asks_of (calls_by-both who xs ys) ∙ asks_of-append (calls_by who xs) (calls_by who ys)

-- what a call has seen
abbrev pub call_seen : Call → ℕ
call_seen (Join name lang) = 0
call_seen Leave = 0
call_seen (Edit seen op) = seen
call_seen (Eval seen text) = seen
call_seen (Reset seen text) = seen

seen_at : (n : ℕ) (call : Call) → HasSeenAtMost n call → call_seen call ≤ n
seen_at n (Join name lang) h = omega arith
seen_at n Leave h = omega arith
seen_at n (Edit seen op) h = h
seen_at n (Eval seen text) h = h
seen_at n (Reset seen text) h = h

-- a row has seen no more than the rows in front of it
pub row_seen : (log : List Row) (t : ℕ) (row : Row) → IsLegal log → slice_get log t ≡ Some row → call_seen row.call ≤ t
row_seen log t row legal e = seen_at t row.call (seen_at_most log t row legal e)

asks_above : (lo hi : ℕ) (call : Call) (cs : List Call) → SeenRises lo hi (call ∷ cs) → lo ≤ call_seen call
asks_above lo hi (Join name lang) cs a = absurd a
asks_above lo hi Leave cs a = absurd a
asks_above lo hi (Edit s o) cs a = a.0
asks_above lo hi (Eval s t) cs a = a.0
asks_above lo hi (Reset s t) cs a = a.0

-- two lists with one front
pub append-cancel : {A : Type 0} (xs ys zs : List A) → xs ++ ys ≡ xs ++ zs → ys ≡ zs
append-cancel [] ys zs e = e
append-cancel (x ∷ xs) ys zs e = append-cancel xs ys zs (cc)

-- a call that is placed before the new ones can be asked is the first that isn't taken
head_call : (t hi : ℕ) (call : Call) (untaken new rest : List Call) → call_seen call ≤ t → SeenRises (suc t) hi new → untaken ++ new ≡ call ∷ rest → (r : List Call) × (untaken ≡ call ∷ r)
head_call t hi call [] new rest seen a e = let wrong : suc t ≤ call_seen call = asks_above (suc t) hi call rest (rw e at a) in absurd (omega arith)
head_call t hi call (x ∷ r) new rest seen a e = let same : x ≡ call = cc in (r, ap (λ c. c ∷ r) same)

-- what the row asks comes first
pub first_untaken : (b : Bool) (t hi : ℕ) (call : Call) (untaken new rest : List Call) → call_seen call ≤ t → SeenRises (suc t) hi new → untaken ++ new ≡ asks_of (if b then call ∷ [] else []) ++ rest
    → (r : List Call) × (untaken ≡ asks_of (if b then call ∷ [] else []) ++ r)
first_untaken false t hi call untaken new rest seen a e = (untaken, refl)
first_untaken true t hi (Join name lang) untaken new rest seen a e = (untaken, refl)
first_untaken true t hi Leave untaken new rest seen a e = (untaken, refl)
first_untaken true t hi (Edit s o) untaken new rest seen a e = head_call t hi (Edit s o) untaken new rest seen a e
first_untaken true t hi (Eval s x) untaken new rest seen a e = head_call t hi (Eval s x) untaken new rest seen a e
first_untaken true t hi (Reset s x) untaken new rest seen a e = head_call t hi (Reset s x) untaken new rest seen a e

-- the edit of a row, if it is an edit of the performer
pub no_own_edit : (b : Bool) (call : Call) → is_edit call && b ≡ false → edits_among (asks_of (if b then call ∷ [] else [])) ≡ []
no_own_edit false call e = refl
no_own_edit true (Join name lang) e = refl
no_own_edit true Leave e = refl
no_own_edit true (Edit s o) e = absurd (cc)
no_own_edit true (Eval s x) e = refl
no_own_edit true (Reset s x) e = refl

-- a call that is the performer's edit
pub own_edit : (b : Bool) (call : Call) → is_edit call && b ≡ true → (seen : ℕ) × (op : Change) × (call ≡ Edit seen op) × (edits_among (asks_of (if b then call ∷ [] else [])) ≡ (seen, op) ∷ [])
own_edit b (Join name lang) e = absurd (cc)
own_edit b Leave e = absurd (cc)
own_edit true (Edit s o) e = (s, o, refl, refl)
own_edit false (Edit s o) e = absurd (cc)
own_edit b (Eval s x) e = absurd (cc)
own_edit b (Reset s x) e = absurd (cc)

-- no edit among the asks, none among the rows
pub edits_none : (who n : ℕ) (rows : List Row) → edits_among (own_asks who rows) ≡ [] → edit_positions who n rows ≡ []
edits_none who n [] e = refl
edits_none who n (row ∷ rows) e = by_row (nat_eq row.who who) row.call (calls_by who rows) (edit_positions who (suc n) rows) n (λ f. edits_none who (suc n) rows f) e
  where
    by_row : (b : Bool) (call : Call) (cs : List Call) (ps : List ℕ) (k : ℕ) → (edits_among (asks_of cs) ≡ [] → ps ≡ []) → edits_among (asks_of (if b then call ∷ cs else cs)) ≡ [] → (if is_edit call && b then k ∷ ps else ps) ≡ []
    by_row false (Join name lang) cs ps k f e = f e
    by_row false Leave cs ps k f e = f e
    by_row false (Edit s o) cs ps k f e = f e
    by_row false (Eval s x) cs ps k f e = f e
    by_row false (Reset s x) cs ps k f e = f e
    by_row true (Join name lang) cs ps k f e = f e
    by_row true Leave cs ps k f e = f e
    by_row true (Edit s o) cs ps k f e = absurd (cc)
    by_row true (Eval s x) cs ps k f e = f e
    by_row true (Reset s x) cs ps k f e = f e

-- one edit among the asks, one among the rows
pub record OneRow (who n seen : ℕ) (op : Change) (rows : List Row) : Type 0 where
  pub k : ℕ
  pub row : Row
  pub place : edit_positions who n rows ≡ (n + k) ∷ []
  pub is_row : slice_get rows k ≡ Some row
  pub call_is : row.call ≡ Edit seen op

one_more : (b : Bool) (call : Call) (who n seen : ℕ) (op : Change) (row : Row) (rows : List Row) → row.call ≡ call → nat_eq row.who who ≡ b
    → (edits_among (own_asks who rows) ≡ (seen, op) ∷ [] → OneRow who (suc n) seen op rows)
    → edits_among (asks_of (if b then call ∷ calls_by who rows else calls_by who rows)) ≡ (seen, op) ∷ []
    → (k : ℕ) × (r : Row) × ((if is_edit call && b then n ∷ edit_positions who (suc n) rows else edit_positions who (suc n) rows) ≡ (n + k) ∷ []) × (slice_get (row ∷ rows) k ≡ Some r) × (r.call ≡ Edit seen op)
one_more b (Join name lang) who n seen op row rows c w f e =
    let e' : edits_among (own_asks who rows) ≡ (seen, op) ∷ [] = skip b e in
    let h : OneRow who (suc n) seen op rows = f e' in
    let s : suc n + h.k ≡ n + suc h.k = omega arith in
    (suc h.k, h.row, h.place ∙ ap (λ p. p ∷ []) s, h.is_row, h.call_is)
  where
    skip : (d : Bool) → edits_among (asks_of (if d then Join name lang ∷ calls_by who rows else calls_by who rows)) ≡ (seen, op) ∷ [] → edits_among (own_asks who rows) ≡ (seen, op) ∷ []
    skip true g = g
    skip false g = g
one_more b Leave who n seen op row rows c w f e =
    let h : OneRow who (suc n) seen op rows = f (skip b e) in
    let s : suc n + h.k ≡ n + suc h.k = omega arith in
    (suc h.k, h.row, h.place ∙ ap (λ p. p ∷ []) s, h.is_row, h.call_is)
  where
    skip : (d : Bool) → edits_among (asks_of (if d then Leave ∷ calls_by who rows else calls_by who rows)) ≡ (seen, op) ∷ [] → edits_among (own_asks who rows) ≡ (seen, op) ∷ []
    skip true g = g
    skip false g = g
one_more b (Eval s0 x) who n seen op row rows c w f e =
    let h : OneRow who (suc n) seen op rows = f (skip b e) in
    let s : suc n + h.k ≡ n + suc h.k = omega arith in
    (suc h.k, h.row, h.place ∙ ap (λ p. p ∷ []) s, h.is_row, h.call_is)
  where
    skip : (d : Bool) → edits_among (asks_of (if d then Eval s0 x ∷ calls_by who rows else calls_by who rows)) ≡ (seen, op) ∷ [] → edits_among (own_asks who rows) ≡ (seen, op) ∷ []
    skip true g = g
    skip false g = g
one_more b (Reset s0 x) who n seen op row rows c w f e =
    let h : OneRow who (suc n) seen op rows = f (skip b e) in
    let s : suc n + h.k ≡ n + suc h.k = omega arith in
    (suc h.k, h.row, h.place ∙ ap (λ p. p ∷ []) s, h.is_row, h.call_is)
  where
    skip : (d : Bool) → edits_among (asks_of (if d then Reset s0 x ∷ calls_by who rows else calls_by who rows)) ≡ (seen, op) ∷ [] → edits_among (own_asks who rows) ≡ (seen, op) ∷ []
    skip true g = g
    skip false g = g
one_more false (Edit s0 o0) who n seen op row rows c w f e =
    let h : OneRow who (suc n) seen op rows = f e in
    let s : suc n + h.k ≡ n + suc h.k = omega arith in
    (suc h.k, h.row, h.place ∙ ap (λ p. p ∷ []) s, h.is_row, h.call_is)
one_more true (Edit s0 o0) who n seen op row rows c w f e =
    let head : ◌≡◌ {A = ℕ × Change} (s0, o0) (seen, op) = cc in
    let none : edits_among (own_asks who rows) ≡ [] = cc in
    let a : s0 ≡ seen = ap (λ (p : ℕ × Change). p.0) head in
    let b : o0 ≡ op = ap (λ (p : ℕ × Change). p.1) head in
    let z : n ≡ n + 0 = omega arith in
    (0, row, ap (λ ps. n ∷ ps) (edits_none who (suc n) rows none) ∙ ap (λ k. k ∷ []) z, refl, c ∙ ap (λ k. Edit k o0) a ∙ ap (λ x. Edit seen x) b)

-- one edit among the asks is one among the rows
pub one_row : (who n seen : ℕ) (op : Change) (rows : List Row) → edits_among (own_asks who rows) ≡ (seen, op) ∷ [] → OneRow who n seen op rows
one_row who n seen op [] e = absurd (cc)
one_row who n seen op (row ∷ rows) e =
    let r = one_more (nat_eq row.who who) row.call who n seen op row rows refl refl (λ f. one_row who (suc n) seen op rows f) e in
    record { k = r.0; row = r.1; place = r.2; is_row = r.3; call_is = r.4 }

-- whether a leave is among the calls
abbrev pub any_leave : List Call → Bool
any_leave [] = false
any_leave (call ∷ calls) = is_leave call || any_leave calls

-- the same of two lists of calls
pub any_leave-append : (cs ds : List Call) → any_leave (cs ++ ds) ≡ any_leave cs || any_leave ds
any_leave-append [] ds = refl
any_leave-append (c ∷ cs) ds = ap (λ b. is_leave c || b) (any_leave-append cs ds) ∙ assoc (is_leave c) (any_leave cs) (any_leave ds)
  where
    assoc : (a b c : Bool) → a || (b || c) ≡ (a || b) || c
    assoc true b c = refl
    assoc false b c = refl

leave_choice : (b : Bool) (call : Call) (cs : List Call) → any_leave (if b then call ∷ cs else cs) ≡ (is_leave call && b) || any_leave cs
leave_choice true call cs = ap (λ x. x || any_leave cs) (sym (and-true (is_leave call)))
  where
    and-true : (a : Bool) → a && true ≡ a
    and-true true = refl
    and-true false = refl
leave_choice false call cs = ap (λ x. x || any_leave cs) (sym (and-false (is_leave call)))
  where
    and-false : (a : Bool) → a && false ≡ false
    and-false true = refl
    and-false false = refl

-- whether the performer has a leave row, by its calls
pub has_leave-calls : (who : ℕ) (rows : List Row) → has_leave rows who ≡ any_leave (calls_by who rows)
has_leave-calls who [] = refl
has_leave-calls who (row ∷ rows) =
    ap (λ b. is_leave_by who row || b) (has_leave-calls who rows) ∙ sym (leave_choice (nat_eq row.who who) row.call (calls_by who rows))

-- a performer with a join row has one
pub has_join-at : (rows : List Row) (i who : ℕ) → is_own_join who (slice_get rows i) ≡ true → has_join rows who ≡ true
has_join-at [] i who e = absurd (cc)
has_join-at (row ∷ rows) zero who e = ap (λ b. b || has_join rows who) e
has_join-at (row ∷ rows) (suc i) who e = ap (λ b. is_join_by who row || b) (has_join-at rows i who e) ∙ or-true (is_join_by who row)
  where
    or-true : (a : Bool) → a || true ≡ true
    or-true true = refl
    or-true false = refl

-- no call but joins
only_joins : (who : ℕ) (rows : List Row) → ((i : ℕ) (row : Row) → slice_get rows i ≡ Some row → (nat_eq row.who who ≡ false) ⊎ (is_join row.call ≡ true))
    → (own_asks who rows ≡ []) × (any_leave (calls_by who rows) ≡ false)
only_joins who [] f = (refl, refl)
only_joins who (row ∷ rows) f =
    let r = only_joins who rows (λ i x e. f (suc i) x e) in
    by_row (nat_eq row.who who) row.call (calls_by who rows) r.0 r.1 (f 0 row refl)
  where
    by_row : (b : Bool) (call : Call) (cs : List Call) → asks_of cs ≡ [] → any_leave cs ≡ false → (b ≡ false) ⊎ (is_join call ≡ true)
        → (asks_of (if b then call ∷ cs else cs) ≡ []) × (any_leave (if b then call ∷ cs else cs) ≡ false)
    by_row false call cs a l h = (a, l)
    by_row true (Join name lang) cs a l h = (a, l)
    by_row true Leave cs a l h = ⊎_elim (λ e. absurd (cc)) (λ e. absurd (cc)) h
    by_row true (Edit s o) cs a l h = ⊎_elim (λ e. absurd (cc)) (λ e. absurd (cc)) h
    by_row true (Eval s o) cs a l h = ⊎_elim (λ e. absurd (cc)) (λ e. absurd (cc)) h
    by_row true (Reset s o) cs a l h = ⊎_elim (λ e. absurd (cc)) (λ e. absurd (cc)) h

-- the row of its join
pub joined_row : (rows : List Row) (i who : ℕ) → is_own_join who (slice_get rows i) ≡ true → (row : Row) × (slice_get rows i ≡ Some row) × (is_join row.call ≡ true) × (row.who ≡ who)
joined_row [] i who e = absurd (cc)
joined_row (row ∷ rows) zero who e = (row, refl, left_of (is_join row.call) (nat_eq row.who who) e, true_equal row.who who (right_of (is_join row.call) (nat_eq row.who who) e))
  where
    left_of : (a b : Bool) → a && b ≡ true → a ≡ true
    left_of true b e = refl
    left_of false b e = absurd (cc)

    right_of : (a b : Bool) → a && b ≡ true → b ≡ true
    right_of true b e = e
    right_of false b e = absurd (cc)
joined_row (row ∷ rows) (suc i) who e = joined_row rows i who e

-- up to its join a performer has no row but that one
pub none_before : (log : List Row) (joined who n : ℕ) → IsLegal log → is_own_join who (slice_get log joined) ≡ true → n ≤ suc joined
    → (own_asks who (take n log) ≡ []) × (any_leave (calls_by who (take n log)) ≡ false)
none_before log joined who n legal e below =
    let j = joined_row log joined who e in
    only_joins who (take n log) (λ i row is. by_who i row (slice_get-front log i n row is) (nat_eq row.who who) refl)
  where
    by_who : (i : ℕ) (row : Row) → (i < n) × (slice_get log i ≡ Some row) → (b : Bool) → nat_eq row.who who ≡ b → (nat_eq row.who who ≡ false) ⊎ (is_join row.call ≡ true)
    by_who i row at false other = inl other
    by_who i row at true mine =
        let j = joined_row log joined who e in
        let first : joined ≤ i = join_first log joined i j.0 row legal j.1 at.1 j.2 (true_equal row.who who mine ∙ sym j.3) in
        let here : i ≡ joined = omega (arith, first, at.0, below) in
        let same : Some row ≡ Some j.0 = sym at.1 ∙ ap (slice_get log) here ∙ j.1 in
        let one : row ≡ j.0 = cc in
        inr (ap (λ (r : Row). is_join r.call) one ∙ j.2)
