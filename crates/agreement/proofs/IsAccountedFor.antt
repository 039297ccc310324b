-- Where the outstanding operation is, one row or one entry further.
use Rattle.std.proofs.Common.{◌≡◌, ℕ, suc, ◌+◌, ◌≤◌, Bool, true, false, if◌then◌else◌, Option, None, Some, List, [], ◌∷◌, length, take, drop, slice_get, refl, sym, ap, ◌∙◌, inl, inr, ⊎_elim, ◌⊎◌, arith}
use Rattle.ot_text.specs.Change.{Change, base}
use Rattle.ot_transform.specs.Chain.{through}
use Rattle.troop_entry.specs.declared.row.Row.{Row}
use Rattle.log_model.specs.Log.{ops, doc}
use Rattle.agreement.specs.Agreement.{is_edit_by, edit_positions, positions_ahead, op_of_row, op_at, IsAccountedFor}
use Rattle.log_model.proofs.Lists.{drop_next, nothing_left}
use Rattle.agreement.proofs.Dropped.{get_drop}

ahead_next : (log : List Row) (own t : ℕ) (row : Row) → slice_get log t ≡ Some row → positions_ahead log own t ≡ (if is_edit_by own row then t ∷ positions_ahead log own (suc t) else positions_ahead log own (suc t))
ahead_next log own t row e = ap (edit_positions own t) (drop_next log t row e)

ahead_other : (log : List Row) (own t : ℕ) (row : Row) → slice_get log t ≡ Some row → is_edit_by own row ≡ false → positions_ahead log own t ≡ positions_ahead log own (suc t)
ahead_other log own t row e other = ahead_next log own t row e ∙ ap (λ b. if b then t ∷ positions_ahead log own (suc t) else positions_ahead log own (suc t)) other

ahead_own : (log : List Row) (own t : ℕ) (row : Row) → slice_get log t ≡ Some row → is_edit_by own row ≡ true → positions_ahead log own t ≡ t ∷ positions_ahead log own (suc t)
ahead_own log own t row e mine = ahead_next log own t row e ∙ ap (λ b. if b then t ∷ positions_ahead log own (suc t) else positions_ahead log own (suc t)) mine

-- what is known where the next row is the performer's edit
pub record IsConfirmed (log : List Row) (own t : ℕ) (o made : Option Change) (es : List (ℕ × Change)) : Type 0 where
  pub op : Change
  pub outstanding_is : o ≡ Some op
  pub made_is : made ≡ Some op
  pub none_waits : es ≡ []
  pub ahead : positions_ahead log own (suc t) ≡ []

-- the next row is the performer's edit, so it is the outstanding operation
pub accounted_own : (log : List Row) (row : Row) (own t : ℕ) (o : Option Change) (es : List (ℕ × Change)) → slice_get log t ≡ Some row → is_edit_by own row ≡ true
    → IsAccountedFor log own t o es → IsConfirmed log own t o row.op es
accounted_own log row own t None [] e mine h = let wrong : t ∷ positions_ahead log own (suc t) ≡ [] = sym (ahead_own log own t row e mine) ∙ h in absurd (cc)
accounted_own log row own t None (f ∷ es) e mine h = absurd h
accounted_own log row own t (Some u) (f ∷ []) e mine h = let wrong : t ∷ positions_ahead log own (suc t) ≡ [] = sym (ahead_own log own t row e mine) ∙ h.ahead in absurd (cc)
accounted_own log row own t (Some u) (f ∷ g ∷ es) e mine h = absurd h
accounted_own log row own t (Some u) [] e mine h =
    let both : t ∷ positions_ahead log own (suc t) ≡ h.at ∷ [] = sym (ahead_own log own t row e mine) ∙ h.ahead in
    let here : h.at ≡ t = cc in
    let none : positions_ahead log own (suc t) ≡ [] = cc in
    record {
      op = u;
      outstanding_is = refl;
      made_is = sym (ap op_of_row e)
          ∙ ap (op_at log) (sym here)
          ∙ h.moved
          ∙ ap (λ n. Some (through u (ops (drop t (take n log))))) here
          ∙ ap (λ rows. Some (through u (ops rows))) (nothing_left t log);
      none_waits = refl;
      ahead = none;
    }

-- an edit waits
pub unserved_point : (log : List Row) (own t seen : ℕ) (op : Change) (o : Option Change) (fs es : List (ℕ × Change)) → fs ≡ (seen, op) ∷ es → IsAccountedFor log own t o fs
    → (es ≡ []) × (base op ≡ length (doc (take seen log))) × (o ≡ Some (through op (ops (drop seen (take t log))))) × (positions_ahead log own t ≡ [])
unserved_point log own t seen op o [] es is h = absurd (cc)
unserved_point log own t seen op None (f ∷ fs) es is h = absurd h
unserved_point log own t seen op (Some u) (f ∷ g ∷ fs) es is h = absurd h
unserved_point log own t seen op (Some u) (f ∷ []) es is h =
    let same : f ≡ (seen, op) = cc in
    let none : es ≡ [] = cc in
    let n : f.0 ≡ seen = ap (λ (p : ℕ × Change). p.0) same in
    let o : f.1 ≡ op = ap (λ (p : ℕ × Change). p.1) same in (
      none,
      sym (ap base o) ∙ h.fits ∙ ap (λ k. length (doc (take k log))) n,
      ap Some (h.moved ∙ ap (λ x. through x (ops (drop f.0 (take t log)))) o ∙ ap (λ k. through op (ops (drop k (take t log)))) n),
      h.ahead,
    )

one_there : (b : Bool) (at p : ℕ) (ps : List ℕ) → (if b then at ∷ ps else ps) ≡ p ∷ [] → ((b ≡ true) × (p ≡ at)) ⊎ (ps ≡ p ∷ [])
one_there true at p ps e = inl (refl, cc)
one_there false at p ps e = inr e

-- the one position that is listed is that of an edit of the performer
pub listed_row : (who at p : ℕ) (rows : List Row) → edit_positions who at rows ≡ p ∷ [] → (k : ℕ) × (row : Row) × (slice_get rows k ≡ Some row) × (is_edit_by who row ≡ true) × (p ≡ at + k)
listed_row who at p [] e = absurd (cc)
listed_row who at p (x ∷ rows) e =
    ⊎_elim
    (λ l. (0, x, refl, l.0, omega (arith, l.1)))
    (λ r. let h = listed_row who (suc at) p rows r in (suc h.0, h.1, h.2, h.3, omega (arith, h.4)))
    (one_there (is_edit_by who x) at p (edit_positions who (suc at) rows) e)

-- an operation is outstanding and no edit waits
pub served_point : (log : List Row) (own t : ℕ) (u : Change) (o : Option Change) (fs : List (ℕ × Change)) → o ≡ Some u → fs ≡ [] → IsAccountedFor log own t o fs
    → (s : ℕ) × (row : Row) × (positions_ahead log own t ≡ s ∷ []) × (op_at log s ≡ Some (through u (ops (drop t (take s log))))) × (slice_get log s ≡ Some row) × (is_edit_by own row ≡ true) × (t ≤ s)
served_point log own t u None fs is none h = absurd (cc)
served_point log own t u (Some w) (f ∷ fs) is none h = absurd (cc)
served_point log own t u (Some w) [] is none h =
    let same : w ≡ u = cc in
    let r = listed_row own t h.at (drop t log) h.ahead in
    (h.at, r.1, h.ahead, h.moved ∙ ap (λ x. Some (through x (ops (drop t (take h.at log))))) same, sym (get_drop log t r.0 h.at r.4) ∙ r.2, r.3, omega (arith, r.4))

-- nothing is outstanding
pub none_point : (log : List Row) (own t : ℕ) (o : Option Change) (fs : List (ℕ × Change)) → o ≡ None → IsAccountedFor log own t o fs → (fs ≡ []) × (positions_ahead log own t ≡ [])
none_point log own t None [] is h = (refl, h)
none_point log own t None (f ∷ fs) is h = absurd h
none_point log own t (Some u) fs is h = absurd (cc)
