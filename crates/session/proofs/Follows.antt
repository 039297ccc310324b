-- The entries that a down line writes, as they come.
use Rattle.std.proofs.Common.{◌≡◌, inl, inr, ℕ, zero, suc, ◌+◌, ◌≤◌, ◌<◌, Bool, true, false, ◌||◌, if◌then◌else◌, List, [], ◌∷◌, ◌++◌, length, take, drop, get_or, refl, sym, ap, ◌∙◌, subst, arith, Option, Ok, Err, append_assoc}
use Rattle.std.proofs.lemmas.List.{append-nil, length-append, length-drop, take-append-le, take-append-drop}
use Rattle.std.proofs.lemmas.List.Folds.{list_any-append}
use Rattle.std.proofs.lemmas.Grind.{flat_map-append}
use Rattle.std.proofs.Math.Seq.{drop-append_seam}
use Rattle.seat_lock.specs.Lists.{Begins}
use Rattle.troop_entry.specs.declared.call.Call.{Call}
use Rattle.troop_entry.specs.declared.call.Call.TheVariants as call
use Rattle.troop_entry.specs.declared.entry.Entry.{Entry}
use Rattle.troop_entry.specs.declared.row.Row.{Row}
use Rattle.troop_entry.specs.Entries.{entry_of}
use Rattle.troop_entry.specs.Told.{is_leave_of}
use Rattle.troop_ports.specs.Bytes.{at_end}
use Rattle.log_model.specs.Log.{has_leave, is_leave_by, entries, entries_from, doc}
use Rattle.log_model.proofs.DocTold.{take-entries}
use Rattle.troop_hall.proofs.Entries.{length-entries}
use Rattle.session.specs.declared.session_end.SessionEnd.{SessionEnd}
use Rattle.session.specs.declared.session_end.SessionEnd.TheVariants as ends
use Rattle.session.specs.Printed.{entry_line, snapshot_line}
use Rattle.session.specs.Ends.{WroteFront, IsBroken}
use Rattle.session.specs.DownLines.{until_leave, tells_leave_of, printed_entries, entries_owed, Follows}
use Rattle.session.specs.Shown.{Shows, InShow}
use Rattle.session.proofs.WroteFront.{wrote_on, front_on, front_whole, front_more, at_end-nil, wrote_behind}

-- ---- the entries up to the leave

either : (b c : Bool) → (b || c) ≡ false → (b ≡ false) × (c ≡ false)
either true c e = absurd (cc)
either false c e = (refl, e)

-- in front of others, with no leave among them
pub until_on : (who : ℕ) (xs ys : List Entry) → tells_leave_of who xs ≡ false → until_leave who (xs ++ ys) ≡ xs ++ until_leave who ys
until_on who [] ys e = refl
until_on who (x ∷ xs) ys e =
    let both = either (is_leave_of who x) (tells_leave_of who xs) e in
    ap (λ b. if b then x ∷ [] else x ∷ until_leave who (xs ++ ys)) both.0 ∙ ap (λ l. x ∷ l) (until_on who xs ys both.1)

first_kept : (b : Bool) (e : Entry) (es : List Entry) → (rest : List Entry) × ((if b then e ∷ [] else e ∷ es) ≡ e ∷ rest)
first_kept true e es = ([], refl)
first_kept false e es = (es, refl)

-- they are written one behind the other
pub printed_on : (xs ys : List Entry) → printed_entries (xs ++ ys) ≡ printed_entries xs ++ printed_entries ys
printed_on xs ys = flat_map-append entry_line xs ys

-- a list with one of its elements in the middle
pub split_round : {A : Type 0} (xs : List A) (i : ℕ) (x : A) → i < length xs → x ≡ get_or xs i x → xs ≡ take i xs ++ x ∷ drop (suc i) xs
split_round [] i x l e = absurd (omega arith)
split_round (y ∷ xs) zero x l e = ap (λ z. z ∷ xs) (sym e)
split_round (y ∷ xs) (suc i) x l e = ap (λ z. y ∷ z) (split_round xs i x (omega arith) e)

module _ (who : ℕ) (es pre post : List Entry) (e : Entry) (old mid new : Option (List ℕ)) (split : es ≡ pre ++ e ∷ post) (none : tells_leave_of who pre ≡ false) (wrote : mid ≡ at_end old (printed_entries pre)) where
  -- an entry was cut
  pub show_cut : WroteFront (entry_line e) mid new → WroteFront (printed_entries (until_leave who es)) old new
  show_cut f =
      let kept = first_kept (is_leave_of who e) e (until_leave who post) in
      let is : until_leave who es ≡ pre ++ e ∷ kept.0 = ap (until_leave who) split ∙ (until_on who pre (e ∷ post) none ∙ ap (λ l. pre ++ l) kept.1) in
      let bytes : printed_entries (until_leave who es) ≡ (printed_entries pre ++ entry_line e) ++ printed_entries kept.0 =
      ap printed_entries is ∙ (printed_on pre (e ∷ kept.0) ∙ sym (append_assoc (printed_entries pre) (entry_line e) (printed_entries kept.0))) in
      subst (λ l. WroteFront l old new) (sym bytes) (front_more old new (printed_entries pre ++ entry_line e) (printed_entries kept.0) (front_on old mid new (printed_entries pre) (entry_line e) wrote f))

  -- the leave was written
  pub show_last : is_leave_of who e ≡ true → new ≡ at_end mid (entry_line e) → (true ≡ tells_leave_of who es) × (new ≡ at_end old (printed_entries (until_leave who es)))
  show_last leaves sent =
      let is : until_leave who es ≡ pre ++ e ∷ [] = ap (until_leave who) split ∙ (until_on who pre (e ∷ post) none ∙ ap (λ b. pre ++ (if b then e ∷ [] else e ∷ until_leave who post)) leaves) in
      let bytes : printed_entries (until_leave who es) ≡ printed_entries pre ++ entry_line e = ap printed_entries is ∙ (printed_on pre (e ∷ []) ∙ ap (λ l. printed_entries pre ++ l) (append-nil (entry_line e))) in (
        sym (ap (tells_leave_of who) split ∙ (list_any-append (is_leave_of who) pre (e ∷ post) ∙ (λ i. none i || (leaves i || tells_leave_of who post)))),
        wrote_on old mid new (printed_entries pre) (entry_line e) wrote sent ∙ ap (at_end old) (sym bytes),
      )

-- all were written
pub show_none : (who : ℕ) (es pre : List Entry) (old new : Option (List ℕ)) → pre ≡ es → tells_leave_of who pre ≡ false → new ≡ at_end old (printed_entries pre) → (false ≡ tells_leave_of who es) × (new ≡ at_end old (printed_entries (until_leave who es)))
show_none who es pre old new same none wrote =
    let none' : tells_leave_of who es ≡ false = ap (tells_leave_of who) (sym same) ∙ none in
    let is : until_leave who es ≡ es = ap (until_leave who) (sym (append-nil es)) ∙ (until_on who es [] none' ∙ append-nil es) in
    (sym none', wrote ∙ ap (λ l. at_end old (printed_entries l)) (same ∙ sym is))

-- ---- a leave among the entries

leave_told : (who at : ℕ) (row : Row) (c : Call) → row.call ≡ c → is_leave_of who (entry_of at (record row { call = c })) ≡ is_leave_by who (record row { call = c })
leave_told who at row (call.Join name lang) e = refl
leave_told who at row call.Leave e = refl
leave_told who at row (call.Edit seen op) e = refl
leave_told who at row (call.Eval seen text) e = refl
leave_told who at row (call.Reset seen text) e = refl

leaves_told : (who at : ℕ) (rows : List Row) → tells_leave_of who (entries_from at rows) ≡ has_leave rows who
leaves_told who at [] = refl
leaves_told who at (row ∷ rows) = (λ i. leave_told who at row row.call refl i || leaves_told who (suc at) rows i)

or_true : (b : Bool) → (b || true) ≡ true
or_true true = refl
or_true false = refl

-- a leave among the entries from a position on is one of the log
pub left_by : (who start : ℕ) (log : List Row) → tells_leave_of who (drop start (entries log)) ≡ true → has_leave log who ≡ true
left_by who start log e =
    sym (leaves_told who 0 log) ∙ (ap (tells_leave_of who) (sym (take-append-drop start (entries log))) ∙ (list_any-append (is_leave_of who) (take start (entries log)) (drop start (entries log))
    ∙ (ap (λ b. tells_leave_of who (take start (entries log)) || b) e ∙ or_true (tells_leave_of who (take start (entries log))))))

-- a leave in front of a position is one of the log
pub left_before : (who start : ℕ) (log : List Row) → has_leave (take start log) who ≡ true → has_leave log who ≡ true
left_before who start log e = ap (λ l. has_leave l who) (sym (take-append-drop start log)) ∙ (list_any-append (is_leave_by who) (take start log) (drop start log) ∙ ap (λ b. b || has_leave (drop start log) who) e)

-- where no leave stands in front of the position, it is among the entries from there on
pub left_behind : (who start : ℕ) (log : List Row) → has_leave log who ≡ true → has_leave (take start log) who ≡ false → tells_leave_of who (drop start (entries log)) ≡ true
left_behind who start log left none =
    let front : tells_leave_of who (take start (entries log)) ≡ false = ap (tells_leave_of who) (sym (take-entries log start)) ∙ (leaves_told who 0 (take start log) ∙ none) in
    let all : (tells_leave_of who (take start (entries log)) || tells_leave_of who (drop start (entries log))) ≡ true =
    sym (list_any-append (is_leave_of who) (take start (entries log)) (drop start (entries log))) ∙ (ap (tells_leave_of who) (take-append-drop start (entries log)) ∙ (leaves_told who 0 log ∙ left)) in
    ap (λ b. b || tells_leave_of who (drop start (entries log))) (sym front) ∙ all

-- ---- as the log grows

entries-append : (at : ℕ) (xs ys : List Row) → entries_from at (xs ++ ys) ≡ entries_from at xs ++ entries_from (at + length xs) ys
entries-append at [] ys = let e : at + 0 ≡ at = omega arith in ap (λ n. entries_from n ys) (sym e)
entries-append at (x ∷ xs) ys = let e : suc at + length xs ≡ at + suc (length xs) = omega arith in ap (λ l. entry_of at x ∷ l) (entries-append (suc at) xs ys ∙ ap (λ n. entries_from (suc at) xs ++ entries_from n ys) e)

drop-append : {A : Type 0} (n : ℕ) (xs ys : List A) → n ≤ length xs → drop n (xs ++ ys) ≡ drop n xs ++ ys
drop-append zero xs ys l = refl
drop-append (suc n) [] ys l = absurd (omega arith)
drop-append (suc n) (x ∷ xs) ys l = drop-append n xs ys (omega arith)

abbrev nil : {A : Type 0} → List A
nil {A} = []

nil_dropped : {A : Type 0} (n : ℕ) → drop n (nil {A = A}) ≡ []
nil_dropped zero = refl
nil_dropped (suc n) = refl

drop-drop : {A : Type 0} (n m : ℕ) (xs : List A) → drop m (drop n xs) ≡ drop (n + m) xs
drop-drop zero m xs = let e : 0 + m ≡ m = omega arith in ap (λ k. drop k xs) (sym e)
drop-drop (suc n) m [] = nil_dropped m ∙ sym (nil_dropped (suc n + m))
drop-drop (suc n) m (x ∷ xs) = let e : suc n + m ≡ suc (n + m) = omega arith in drop-drop n m xs ∙ sym (ap (λ k. drop k (x ∷ xs)) e)

-- a front of a list that others begin with
pub take_grown : {A : Type 0} (n : ℕ) (xs ys : List A) → Begins xs ys → n ≤ length xs → take n ys ≡ take n xs
take_grown n xs ys b l = ap (take n) (sym b.1) ∙ take-append-le n xs b.0 l

-- the entries from a position on begin those of a longer log
pub entries_grown : (start : ℕ) (xs ys : List Row) → start ≤ length xs → Begins xs ys → Begins (drop start (entries xs)) (drop start (entries ys))
entries_grown start xs ys l b =
    let m = length-entries xs in
    (entries_from (0 + length xs) b.0, sym (drop-append start (entries xs) _ (omega (arith, l, m))) ∙ (ap (drop start) (sym (entries-append 0 xs b.0)) ∙ ap (λ z. drop start (entries z)) b.1))

begins_front : {A : Type 0} (xs ys zs : List A) (rest : List A) → ys ≡ xs ++ rest → Begins ys zs → Begins xs zs
begins_front xs ys zs rest e b = (rest ++ b.0, sym (append_assoc xs rest b.0) ∙ (ap (λ l. l ++ b.0) (sym e) ∙ b.1))

module _ (start who next : ℕ) (log log' : List Row) (old mid new : Option (List ℕ)) (show : InShow start who log next old mid) (grows : Begins log log') (found : List Entry) (is_found : found ≡ drop next (entries log')) where
  start_within : start ≤ length log
  start_within = let w = show.within in let n = show.next_is in omega (arith, w, n)

  stays' : has_leave (take start log') who ≡ false
  stays' = ap (λ l. has_leave l who) (take_grown start log log' grows start_within) ∙ show.stays

  whole_is : drop start (entries log') ≡ show.shown ++ found
  whole_is =
      let front = begins_front show.shown (drop start (entries log)) (drop start (entries log')) (drop next (entries log)) show.split (entries_grown start log log' start_within grows) in
      let rest : front.0 ≡ found =
      sym (drop-append_seam show.shown front.0) ∙ (ap (drop (length show.shown)) front.1 ∙ (drop-drop start (length show.shown) (entries log') ∙ (ap (λ k. drop k (entries log')) (sym show.next_is) ∙ sym is_found))) in
      sym front.1 ∙ ap (λ l. show.shown ++ l) rest

  owed_is : printed_entries (entries_owed start who log') ≡ printed_entries show.shown ++ printed_entries (until_leave who found)
  owed_is =
      ap (λ b. printed_entries (if b then [] else until_leave who (drop start (entries log')))) stays'
      ∙ (ap (λ l. printed_entries (until_leave who l)) whole_is ∙ (ap printed_entries (until_on who show.shown found show.none) ∙ printed_on show.shown (until_leave who found)))

  cut_off : (end : SessionEnd) → IsBroken end → (end ≡ ends.Left → ⊥) → WroteFront (printed_entries show.shown ++ printed_entries (until_leave who found)) old new → Follows [] start who log' end old new
  cut_off end b never f = record {
    wrote = inr (b, subst (λ l. WroteFront l old new) (sym owed_is) f);
    left = λ e. absurd (never e);
  }

  -- memory was wanting for the next entries
  pub starved_show : mid ≡ new → Follows [] start who log' ends.Memory old new
  starved_show same = cut_off ends.Memory tt (λ e. cc) (front_more old new (printed_entries show.shown) _ (front_whole old new (printed_entries show.shown) (sym same ∙ show.wrote)))

  -- the leave was written
  pub last_show : Shows (Ok true) who found mid new → Follows [] start who log' ends.Left old new
  last_show s = record {
    wrote = inl (refl, wrote_on old mid new (printed_entries show.shown) _ show.wrote s.1 ∙ ap (at_end old) (sym owed_is));
    left = λ _. left_by who start log' (ap (tells_leave_of who) whole_is ∙ (list_any-append (is_leave_of who) show.shown found ∙ (λ i. show.none i || sym s.0 i)));
  }

  -- an entry was cut
  pub cut_show : (end : SessionEnd) → Shows (Err end) who found mid new → Follows [] start who log' end old new
  cut_show end s = cut_off end s.0 (not_left end s.0) (front_on old mid new (printed_entries show.shown) _ show.wrote s.1)
    where
      not_left : (e : SessionEnd) → IsBroken e → e ≡ ends.Left → ⊥
      not_left e b is = subst IsBroken is b

  -- how far the entries reach
  pub found_length : next ≤ length log' → next + length found ≡ length log'
  found_length within = let l = length-drop next (entries log') in let m = length-entries log' in let f = ap length is_found in omega (arith, l, m, f, within)

  -- they were written, with no leave among them
  pub more_show : (next' : ℕ) → next' ≡ next + length found → next ≤ length log' → Shows (Ok false) who found mid new → InShow start who log' next' old new
  more_show next' is within s = record {
    shown = show.shown ++ found;
    stays = stays';
    split = whole_is ∙ (sym (append-nil (show.shown ++ found)) ∙ ap (λ l. (show.shown ++ found) ++ l) (sym (none_left (entries log') next' (let m = length-entries log' in let f = found_length within in omega (arith, m, f, is)))));
    next_is = (let l = length-append show.shown found in let n = show.next_is in omega (arith, l, n, is));
    within = (let f = found_length within in omega (arith, f, is));
    none = list_any-append (is_leave_of who) show.shown found ∙ (λ i. show.none i || sym s.0 i);
    wrote = wrote_on old mid new (printed_entries show.shown) _ show.wrote s.1
        ∙ ap (at_end old) (ap (λ l. printed_entries show.shown ++ printed_entries l) (no_cut (sym s.0)) ∙ sym (printed_on show.shown found));
  }
    where
      none_left : (xs : List Entry) (n : ℕ) → length xs ≤ n → drop n xs ≡ []
      none_left [] zero l = refl
      none_left [] (suc n) l = refl
      none_left (x ∷ xs) zero l = absurd (omega arith)
      none_left (x ∷ xs) (suc n) l = none_left xs n (omega arith)

      no_cut : tells_leave_of who found ≡ false → until_leave who found ≡ found
      no_cut e = ap (until_leave who) (sym (append-nil found)) ∙ (until_on who found [] e ∙ append-nil found)

-- nothing was written yet
pub show_opens : (start who : ℕ) (log : List Row) (old : Option (List ℕ)) → start ≤ length log → has_leave (take start log) who ≡ false → InShow start who log start old old
show_opens start who log old within stays = record {
  shown = [];
  stays = stays;
  split = refl;
  next_is = (let e : start ≡ start + 0 = omega arith in e);
  within = within;
  none = refl;
  wrote = at_end-nil old;
}

-- the leave stands in front of the start, and nothing is owed
pub nothing_owed : (start who : ℕ) (log : List Row) (old : Option (List ℕ)) → has_leave (take start log) who ≡ true → Follows [] start who log ends.Left old old
nothing_owed start who log old left = record {
  wrote = inl (refl, at_end-nil old ∙ ap (λ b. at_end old (printed_entries (if b then [] else until_leave who (drop start (entries log))))) (sym left));
  left = λ _. left_before who start log left;
}

-- other bytes were written in front
pub follows_behind : (first : List ℕ) (start who : ℕ) (log : List Row) (end : SessionEnd) (old mid new : Option (List ℕ)) → mid ≡ at_end old first → Follows [] start who log end mid new → Follows first start who log end old new
follows_behind first start who log end old mid new e f = record {
  wrote = wrote_behind ends.Left end first (printed_entries (entries_owed start who log)) old mid new e f.wrote;
  left = f.left;
}

-- they were cut
pub follows_cut : (first : List ℕ) (start who : ℕ) (log : List Row) (end : SessionEnd) (old new : Option (List ℕ)) → IsBroken end → WroteFront first old new → Follows first start who log end old new
follows_cut first start who log end old new b f = record {
  wrote = inr (b, front_more old new first (printed_entries (entries_owed start who log)) f);
  left = λ e. absurd (subst IsBroken e b);
}

-- a snapshot of the document there was written in front, and the log has grown since
pub follows_snapshot : (who at n : ℕ) (log log' : List Row) (end : SessionEnd) (old mid new : Option (List ℕ)) → n ≡ suc at → Begins log log' → suc at ≤ length log → mid ≡ at_end old (snapshot_line (suc at) (doc (take (suc at) log))) → Follows [] n who log' end mid new
    → Follows (snapshot_line (suc at) (doc (take (suc at) log'))) (suc at) who log' end old new
follows_snapshot who at n log log' end old mid new same grows within wrote f =
    follows_behind (snapshot_line (suc at) (doc (take (suc at) log'))) (suc at) who log' end old mid new
    (wrote ∙ ap (λ l. at_end old (snapshot_line (suc at) (doc l))) (sym (take_grown (suc at) log log' grows within))) (subst (λ k. Follows [] k who log' end mid new) same f)
