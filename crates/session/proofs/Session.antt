-- What is said of a session stays true as the log grows.
use Rattle.std.proofs.Common.{◌≡◌, inl, inr, ⊎_elim, ℕ, suc, ◌≤◌, Bool, true, false, ◌||◌, if◌then◌else◌, List, [], ◌∷◌, ◌++◌, length, take, drop, refl, sym, ap, ◌∙◌, subst, arith, Option, Some, None}
use Rattle.seat_lock.specs.Lists.{Begins}
use Rattle.seat_lock.proofs.Begins.{begins_same, begins_more, begins_then, begins_length}
use Rattle.troop_entry.specs.declared.call.Call.{Call}
use Rattle.troop_entry.specs.declared.call.Call.TheVariants as call
use Rattle.troop_entry.specs.declared.entry.Entry.{Entry}
use Rattle.troop_entry.specs.declared.row.Row.{Row}
use Rattle.troop_entry.specs.Told.{is_leave_of}
use Rattle.troop_ports.specs.Bytes.{at_end}
use Rattle.log_model.specs.Log.{has_leave, is_leave_by, entries, doc}
use Rattle.session.specs.declared.session_end.SessionEnd.{SessionEnd}
use Rattle.session.specs.declared.opening.Opening.{Opening}
use Rattle.session.specs.declared.opening.Opening.TheVariants as opening
use Rattle.session.specs.declared.service.Service.{Service}
use Rattle.session.specs.declared.service.Service.TheVariants as service
use Rattle.session.specs.Printed.{request_of, snapshot_line}
use Rattle.session.specs.Ends.{WroteFront, Wires}
use Rattle.session.specs.UpLines.{Closes, Attends, Joins, UpLine}
use Rattle.session.specs.DownLines.{until_leave, tells_leave_of, printed_entries, entries_owed, Follows, DownLine, SnapFollows, SnapLine}
use Rattle.session.specs.Sessions.{First, Line, Nothing, Long, Failure, OpensSession, service_asked, Session}
use Rattle.session.proofs.UpLine.{any_grown}
use Rattle.session.proofs.Follows.{printed_on, entries_grown, take_grown, left_behind}
use Rattle.session.proofs.IsJoinAt.{join_within}

grown_by : (b : Bool) (x : Entry) (us vs : List Entry) → Begins us vs → Begins (if b then x ∷ [] else x ∷ us) (if b then x ∷ [] else x ∷ vs)
grown_by true x us vs r = begins_same (x ∷ []) (x ∷ []) refl
grown_by false x us vs r = (r.0, ap (λ l. x ∷ l) r.1)

until_grown : (who : ℕ) (xs ys : List Entry) → Begins (until_leave who xs) (until_leave who (xs ++ ys))
until_grown who [] ys = (until_leave who ys, refl)
until_grown who (x ∷ xs) ys = grown_by (is_leave_of who x) x (until_leave who xs) (until_leave who (xs ++ ys)) (until_grown who xs ys)

module _ (seat : ℕ) (seen log log' gained : List Row) (grows : Begins log log') where
  -- ---- up lines

  closes_later : (opening : Opening) (who : ℕ) (after bye : List Row) → Closes opening seat who after log bye → Closes opening seat who after log' bye
  closes_later (opening.Join name lang) who after bye h = record {
    asked_at = h.asked_at;
    behind = h.behind;
    begins = begins_then _ log log' h.begins grows;
    rows_are = h.rows_are;
    left = any_grown (is_leave_by who) log log' grows h.left;
  }
  closes_later (opening.Stay name lang) who after bye h = (begins_then after log log' h.0 grows, h.1)
  closes_later (opening.Back back) who after bye h = (begins_then after log log' h.0 grows, h.1)

  attends_later : (limit who : ℕ) (opening : Opening) (before rows : List Row) (first : List ℕ) (end : SessionEnd) (w : Wires) → Attends limit seat who opening before log rows first end w → Attends limit seat who opening before log' rows first end w
  attends_later limit who opening before rows first end w a = record {
    turns = a.turns;
    after = a.after;
    talk = a.talk;
    bye = a.bye;
    closes = closes_later opening who a.after a.bye a.closes;
    rows_are = a.rows_are;
  }

  joins_later : (limit : ℕ) (opening : Opening) (join : Call) (end : SessionEnd) (w : Wires) → Joins limit seat opening join seen log gained end w → Joins limit seat opening join seen log' gained end w
  joins_later limit opening join end w (inl h) = inl h
  joins_later limit opening join end w (inr (inl h)) = inr (inl (record {
    asked_at = h.asked_at;
    behind = h.behind;
    begins = begins_then h.asked_at log log' h.begins grows;
    joins = h.joins;
    crowded = h.crowded;
    idle = h.idle;
    wrote = h.wrote;
  }))
  joins_later limit opening join end w (inr (inr h)) = inr (inr (record {
    asked_at = h.asked_at;
    behind = h.behind;
    at = h.at;
    who = h.who;
    placed = h.placed;
    rows = h.rows;
    attends = attends_later limit h.who opening _ h.rows _ end w h.attends;
    gained_is = h.gained_is;
  }))

  up_later : (limit : ℕ) (opening : Opening) (end : SessionEnd) (w : Wires) → UpLine limit seat opening seen log gained end w → UpLine limit seat opening seen log' gained end w
  up_later limit (opening.Join name lang) end w h = joins_later limit (opening.Join name lang) (call.Join name lang) end w h
  up_later limit (opening.Stay name lang) end w h = joins_later limit (opening.Stay name lang) (call.Join name lang) end w h
  up_later limit (opening.Back who) end w (inl h) = inl (record {
    looked_at = h.looked_at;
    behind = h.behind;
    begins = begins_then h.looked_at log log' h.begins grows;
    strange = h.strange;
    idle = h.idle;
    wrote = h.wrote;
  })
  up_later limit (opening.Back who) end w (inr h) = inr (record {
    looked_at = h.looked_at;
    behind = h.behind;
    at = h.at;
    joined = h.joined;
    attends = attends_later limit who (opening.Back who) h.looked_at gained _ end w h.attends;
  })

  -- ---- down lines

  owed_by : (b : Bool) (who : ℕ) (es es' : List Entry) → Begins es es' → Begins (if b then [] else until_leave who es) (if b then [] else until_leave who es')
  owed_by true who es es' b = ([], refl)
  owed_by false who es es' b = subst (λ l. Begins (until_leave who es) (until_leave who l)) b.1 (until_grown who es b.0)

  owed_grown : (start who : ℕ) → start ≤ length log → Begins (entries_owed start who log) (entries_owed start who log')
  owed_grown start who within =
      let b = entries_grown start log log' within grows in
      let same : has_leave (take start log') who ≡ has_leave (take start log) who = ap (λ l. has_leave l who) (take_grown start log log' grows within) in
      subst (λ b. Begins (entries_owed start who log) (if b then [] else until_leave who (drop start (entries log')))) (sym same)
      (owed_by (has_leave (take start log) who) who (drop start (entries log)) (drop start (entries log')) b)

  front_grown : (first : List ℕ) (xs ys : List Entry) (old new : Option (List ℕ)) → Begins xs ys → WroteFront (first ++ printed_entries xs) old new → WroteFront (first ++ printed_entries ys) old new
  front_grown first xs ys old new b f =
      (f.0, begins_more f.0 (first ++ printed_entries xs) (printed_entries b.0) (first ++ printed_entries ys) f.1 (whole first xs ys b), f.2)
    where
      whole : (first : List ℕ) (xs ys : List Entry) (b : Begins xs ys) → (first ++ printed_entries xs) ++ printed_entries b.0 ≡ first ++ printed_entries ys
      whole [] xs ys b = sym (printed_on xs b.0) ∙ ap printed_entries b.1
      whole (x ∷ first) xs ys b = ap (λ l. x ∷ l) (whole first xs ys b)

  same_by : (b c : Bool) (x : Entry) (us vs : List Entry) → (b || c) ≡ true → (c ≡ true → vs ≡ us) → (if b then x ∷ [] else x ∷ vs) ≡ (if b then x ∷ [] else x ∷ us)
  same_by true c x us vs e r = refl
  same_by false c x us vs e r = ap (λ l. x ∷ l) (r e)

  until_same : (who : ℕ) (xs ys : List Entry) → tells_leave_of who xs ≡ true → until_leave who (xs ++ ys) ≡ until_leave who xs
  until_same who [] ys e = absurd (cc)
  until_same who (x ∷ xs) ys e = same_by (is_leave_of who x) (tells_leave_of who xs) x (until_leave who xs) (until_leave who (xs ++ ys)) e (λ t. until_same who xs ys t)

  same_owed_by : (b : Bool) (who : ℕ) (es es' : List Entry) → Begins es es' → (b ≡ false → tells_leave_of who es ≡ true) → (if b then [] else until_leave who es') ≡ (if b then [] else until_leave who es)
  same_owed_by true who es es' b f = refl
  same_owed_by false who es es' b f = ap (until_leave who) (sym b.1) ∙ until_same who es b.0 (f refl)

  -- who has left is owed nothing more
  owed_same : (start who : ℕ) → start ≤ length log → has_leave log who ≡ true → entries_owed start who log' ≡ entries_owed start who log
  owed_same start who within left =
      let b = entries_grown start log log' within grows in
      let same : has_leave (take start log') who ≡ has_leave (take start log) who = ap (λ l. has_leave l who) (take_grown start log log' grows within) in
      ap (λ c. if c then [] else until_leave who (drop start (entries log'))) same
      ∙ same_owed_by (has_leave (take start log) who) who (drop start (entries log)) (drop start (entries log')) b (λ e. left_behind who start log left e)

  follows_later : (first : List ℕ) (start who : ℕ) (end : SessionEnd) (old new : Option (List ℕ)) → start ≤ length log → Follows first start who log end old new → Follows first start who log' end old new
  follows_later first start who end old new within h = record {
    wrote = ⊎_elim (λ w. inl (w.0, w.1 ∙ ap (λ l. at_end old (first ++ printed_entries l)) (sym (owed_same start who within (h.left w.0)))))
        (λ w. inr (w.0, front_grown first (entries_owed start who log) (entries_owed start who log') old new (owed_grown start who within) w.1)) h.wrote;
    left = λ e. any_grown (is_leave_by who) log log' grows (h.left e);
  }

  down_later : (start who : ℕ) (end : SessionEnd) (old new : Option (List ℕ)) → DownLine start who seen log end old new → DownLine start who seen log' end old new
  down_later start who end old new d = record {
    looked_at = d.looked_at;
    behind = d.behind;
    begins = begins_then d.looked_at log log' d.begins grows;
    written = ⊎_elim (λ h. inl (h.0, h.1, follows_later [] start who end old new (let l = begins_length d.looked_at log d.begins in let k = h.1 in omega (arith, l, k)) h.2)) (λ h. inr h) d.written;
  }

  snap_later : (who : ℕ) (end : SessionEnd) (old new : Option (List ℕ)) → SnapLine who seen log end old new → SnapLine who seen log' end old new
  snap_later who end old new d = record {
    looked_at = d.looked_at;
    behind = d.behind;
    begins = begins_then d.looked_at log log' d.begins grows;
    written = ⊎_elim (λ h. inl (follows h)) (λ h. inr h) d.written;
  }
    where
      follows : SnapFollows who d.looked_at log end old new → SnapFollows who d.looked_at log' end old new
      follows h =
          let place = join_within who h.at d.looked_at h.joined in
          let l = begins_length d.looked_at log d.begins in
          let within : suc h.at ≤ length log = omega (arith, place, l) in
          record {
            at = h.at;
            joined = h.joined;
            follows = follows_later (snapshot_line (suc h.at) (doc (take (suc h.at) log'))) (suc h.at) who end old new within
                (subst (λ m. Follows (snapshot_line (suc h.at) (doc m)) (suc h.at) who log end old new) (sym (take_grown (suc h.at) log log' grows within)) h.follows);
          }

  -- ---- whole sessions

  opens_later : (asked : Option Service) (end : SessionEnd) (w : Wires) → OpensSession asked seat seen log gained end w → OpensSession asked seat seen log' gained end w
  opens_later None end w h = h
  opens_later (Some (service.Up opening)) end w h = up_later _ opening end w h
  opens_later (Some (service.Down start who)) end w h = record { idle = h.idle; line = down_later start who end w.taken_before w.taken_after h.line }
  opens_later (Some (service.Snap who)) end w h = record { idle = h.idle; line = snap_later who end w.taken_before w.taken_after h.line }

  -- a session of a log is one of every longer log
  pub session_later : (first : First) (end : SessionEnd) (w : Wires) → Session first seat seen log gained end w → Session first seat seen log' gained end w
  session_later (Line line) end w h = record {
    short = h.short;
    behind = h.behind;
    first = h.first;
    opens = ⊎_elim (λ o. inl (opens_later (service_asked (request_of line)) end _ o)) (λ m. inr m) h.opens;
  }
  session_later Nothing end w h = h
  session_later Long end w h = h
  session_later Failure end w h = h
