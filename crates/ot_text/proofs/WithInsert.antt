-- A text put in behind a list of parts.
use Rattle.std.proofs.Common.{◌≡◌, ◌≢◌, ℕ, zero, suc, ◌-◌, ◌<◌, ◌≤◌, true, false, Option, None, Some, List, [], ◌∷◌, ◌++◌, length, get_or, take, drop, set, insert, slice_get, refl, sym, ap, ◌∙◌, append_assoc, append-nil, arith}
use Rattle.std.proofs.lemmas.Option.{slice_get_read, same_Some}
use Rattle.std.proofs.lemmas.List.{take_at, take_all, drop_at, drop_all}
use Rattle.ot_text.specs.declared.part.Part.{Part}
use Rattle.ot_text.specs.declared.part.Part.TheVariants.{Retain, Insert, Delete}
use Rattle.ot_text.specs.Change.{nothing, insert_then, delete_then, then}
use Rattle.ot_text.specs.Parts.{part_then, norm, MayFollow, MayBeFirstBehind, IsNormal}
use Rattle.ot_text.specs.Ends.{is_insert, deleted_by, last_part, with_text, with_insert}
use Rattle.ot_text.proofs.LastPart.{EndsWith, ends_with_delete, norm-last, MayBeBehind, normal-append, normal-front, normal-between, normal-back}
use Rattle.ot_text.proofs.Then.{then-part_then, norm-append, then_assoc, then-delete_then, then-insert_then, insert_then-append, delete_then-insert_then}

appended_some : (s t : List ℕ) → t ≢ [] → s ++ t ≢ []
appended_some [] t some none = some none
appended_some (x ∷ s) t some none = cc

first_stays : (x y : Part) (parts : List Part) (t : List ℕ) → MayFollow x y
    → MayBeFirstBehind x (with_insert (y ∷ parts) t)
first_stays x (Retain k) [] t m = m
first_stays (Retain l) (Insert s) [] t m = tt
first_stays (Insert l) (Insert s) [] t m = absurd m
first_stays (Delete l) (Insert s) [] t m = absurd m
first_stays x (Delete k) [] t m = m
first_stays x (Retain k) (z ∷ parts) t m = m
first_stays x (Insert s) (z ∷ parts) t m = m
first_stays x (Delete k) (z ∷ parts) t m = m

-- behind parts that do not end in a delete
normal-with_insert : (parts : List Part) (t : List ℕ) → IsNormal parts → None ≡ deleted_by (last_part parts)
    → t ≢ [] → IsNormal (with_insert parts t)
normal-with_insert [] t normal none some = (some, tt, tt)
normal-with_insert (Retain k ∷ []) t normal none some = (normal.0, tt, (some, tt, tt))
normal-with_insert (Insert s ∷ []) t normal none some = (appended_some s t some, tt, tt)
normal-with_insert (Delete k ∷ []) t normal none some = absurd (cc)
normal-with_insert (x ∷ y ∷ parts) t normal none some = (normal.0, first_stays x y parts t normal.1, normal-with_insert (y ∷ parts) t normal.2 none some)

norm-with_insert : (parts : List Part) (t : List ℕ)
    → norm (with_insert parts t) ≡ then (norm parts) (insert_then t nothing)
norm-with_insert [] t = refl
norm-with_insert (Retain k ∷ []) t = norm-append (Retain k ∷ []) (Insert t ∷ [])
norm-with_insert (Insert s ∷ []) t = insert_then-append s t nothing ∙ norm-append (Insert s ∷ []) (Insert t ∷ [])
norm-with_insert (Delete k ∷ []) t = norm-append (Delete k ∷ []) (Insert t ∷ [])
norm-with_insert (x ∷ y ∷ parts) t =
    ap (part_then x) (norm-with_insert (y ∷ parts) t)
    ∙ sym (then-part_then x (norm (y ∷ parts)) (insert_then t nothing))

-- in front of a delete that is the last part
delete_behind_insert : (parts : List Part) (t : List ℕ) (k : ℕ)
    → MayBeBehind (last_part (with_insert parts t)) (Delete k ∷ [])
delete_behind_insert [] t k = tt
delete_behind_insert (Retain l ∷ []) t k = tt
delete_behind_insert (Insert s ∷ []) t k = tt
delete_behind_insert (Delete l ∷ []) t k = tt
delete_behind_insert (x ∷ Retain l ∷ []) t k = tt
delete_behind_insert (x ∷ Insert s ∷ []) t k = tt
delete_behind_insert (x ∷ Delete l ∷ []) t k = tt
delete_behind_insert (x ∷ y ∷ z ∷ parts) t k = delete_behind_insert (y ∷ z ∷ parts) t k

no_delete : (last : Option Part) (k : ℕ) → MayBeBehind last (Delete k ∷ []) → None ≡ deleted_by last
no_delete None k b = refl
no_delete (Some (Retain l)) k b = refl
no_delete (Some (Insert t)) k b = refl
no_delete (Some (Delete l)) k b = absurd b

normal-insert_before : (front : List Part) (k : ℕ) (t : List ℕ) → IsNormal (front ++ Delete k ∷ []) → t ≢ []
    → IsNormal (with_insert front t ++ Delete k ∷ [])
normal-insert_before front k t normal some =
    let before : MayBeBehind (last_part front) (Delete k ∷ []) = normal-between front (Delete k ∷ []) normal in
    normal-append (with_insert front t) (Delete k ∷ [])
    (normal-with_insert front t (normal-front front (Delete k ∷ []) normal) (no_delete (last_part front) k before) some)
    (delete_behind_insert front t k) (normal-back front (Delete k ∷ []) normal)

norm-insert_before : (front : List Part) (k : ℕ) (t : List ℕ)
    → norm (with_insert front t ++ Delete k ∷ []) ≡ then (then (norm front) (delete_then k nothing)) (insert_then t nothing)
norm-insert_before front k t =
    norm-append (with_insert front t) (Delete k ∷ [])
    ∙ ap (λ c. then c (delete_then k nothing)) (norm-with_insert front t)
    ∙ then_assoc (norm front) (insert_then t nothing) (delete_then k nothing)
    ∙ ap (then (norm front))
    (then-insert_then t nothing (delete_then k nothing)
    ∙ sym (delete_then-insert_then k t nothing)
    ∙ sym (then-delete_then k nothing (insert_then t nothing)))
    ∙ sym (then_assoc (norm front) (delete_then k nothing) (insert_then t nothing))

with_insert-at_last : (parts front : List Part) (k n : ℕ) (t : List ℕ) → parts ≡ front ++ Delete k ∷ []
    → length front ≡ n → with_insert (take n parts) t ++ drop n parts ≡ with_insert front t ++ Delete k ∷ []
with_insert-at_last parts front k n t are len = rw (are, take_at front (Delete k ∷ []) n len, drop_at front (Delete k ∷ []) n len) refl

-- the place for an insert: the end, or in front of a delete that is the last part
pub data IsInsertPlace (parts : List Part) (n : ℕ) : Type 0 where
  AtEnd : n ≡ length parts → None ≡ deleted_by (last_part parts) → IsInsertPlace parts n
  BeforeDelete : (k : ℕ) → n ≡ length parts - 1 → Some k ≡ deleted_by (last_part parts) → IsInsertPlace parts n

-- parts with a text put in at its place are normal
pub normal-insert : (parts : List Part) (n : ℕ) (t : List ℕ) → IsInsertPlace parts n → IsNormal parts → t ≢ []
    → IsNormal (with_insert (take n parts) t ++ drop n parts)
normal-insert parts n t (AtEnd at none) normal some =
    rw (take_all n parts (omega arith), drop_all n parts (omega arith), append-nil (with_insert parts t)) (normal-with_insert parts t normal none some)
normal-insert parts n t (BeforeDelete k at is) normal some =
    let r : EndsWith parts (Delete k) = ends_with_delete parts k is in
    let len : length r.front ≡ n = omega (arith, r.len) in
    rw (with_insert-at_last parts r.front k n t r.are len) (normal-insert_before r.front k t (rw r.are at normal) some)

-- parts with a text put in at its place make the operation with that text behind it
pub norm-insert : (parts : List Part) (n : ℕ) (t : List ℕ) → IsInsertPlace parts n
    → norm (with_insert (take n parts) t ++ drop n parts) ≡ then (norm parts) (insert_then t nothing)
norm-insert parts n t (AtEnd at none) =
    rw (take_all n parts (omega arith), drop_all n parts (omega arith), append-nil (with_insert parts t)) (norm-with_insert parts t)
norm-insert parts n t (BeforeDelete k at is) =
    let r : EndsWith parts (Delete k) = ends_with_delete parts k is in
    let len : length r.front ≡ n = omega (arith, r.len) in
    ap norm (with_insert-at_last parts r.front k n t r.are len)
    ∙ norm-insert_before r.front k t
    ∙ sym (ap (λ c. then c (insert_then t nothing)) (norm-last parts (Delete k) r))

-- how `insert_at` makes such a list: the insert in front of the place takes the text, or a new one is put there
set-with_text : (parts : List Part) (i : ℕ) (p : Part) (t : List ℕ) → slice_get parts i ≡ Some p
    → is_insert p ≡ true
    → set parts i (with_text p t) ≡ with_insert (take (suc i) parts) t ++ drop (suc i) parts
set-with_text [] i p t here yes_insert = absurd (cc)
set-with_text (x ∷ parts) zero (Retain k) t here yes_insert = absurd (cc)
set-with_text (x ∷ parts) zero (Insert s) t here yes_insert = let same : x ≡ Insert s = cc in rw same refl
set-with_text (x ∷ parts) zero (Delete k) t here yes_insert = absurd (cc)
set-with_text (x ∷ []) (suc i) p t here yes_insert = absurd (cc)
set-with_text (x ∷ y ∷ parts) (suc i) p t here yes_insert = ap (λ rest. x ∷ rest) (set-with_text (y ∷ parts) i p t here yes_insert)

with_insert-take : (parts : List Part) (i : ℕ) (p : Part) (t : List ℕ) → slice_get parts i ≡ Some p
    → is_insert p ≡ false → with_insert (take (suc i) parts) t ≡ take (suc i) parts ++ Insert t ∷ []
with_insert-take [] i p t here no_insert = absurd (cc)
with_insert-take (Retain k ∷ parts) zero p t here no_insert = refl
with_insert-take (Delete k ∷ parts) zero p t here no_insert = refl
with_insert-take (Insert s ∷ parts) zero p t here no_insert =
    let same : Insert s ≡ p = cc in
    let never : is_insert (Insert s) ≡ false = ap is_insert same ∙ no_insert in
    absurd (cc)
with_insert-take (x ∷ []) (suc i) p t here no_insert = absurd (cc)
with_insert-take (x ∷ y ∷ parts) (suc i) p t here no_insert = ap (λ rest. x ∷ rest) (with_insert-take (y ∷ parts) i p t here no_insert)

-- a text put into the insert in front of a place
pub set_before : (parts : List Part) (end : ℕ) (p q r : Part) (t : List ℕ) → 0 < end → end ≤ length parts
    → p ≡ get_or parts (end - 1) p → q ≡ get_or parts (end - 1) q → true ≡ is_insert p → r ≡ with_text q t
    → set parts (end - 1) r ≡ with_insert (take end parts) t ++ drop end parts
set_before parts end p q r t some within at_p at_q yes_insert is =
    let i : suc (end - 1) ≡ end = omega arith in
    let get_p : slice_get parts (end - 1) ≡ Some p = slice_get_read parts (length parts) (end - 1) p refl (omega arith) at_p in
    let get_q : slice_get parts (end - 1) ≡ Some q = slice_get_read parts (length parts) (end - 1) q refl (omega arith) at_q in
    let same : p ≡ q = same_Some p q (sym get_p ∙ get_q) in
    ap (set parts (end - 1)) is
    ∙ set-with_text parts (end - 1) q t get_q (ap is_insert (sym same) ∙ sym yes_insert)
    ∙ ap (λ n. with_insert (take n parts) t ++ drop n parts) i

-- a text put in behind a part that is no insert
pub insert_before : (parts : List Part) (end : ℕ) (p : Part) (t : List ℕ) → 0 < end → end ≤ length parts
    → p ≡ get_or parts (end - 1) p → false ≡ is_insert p
    → insert parts end (Insert t) ≡ with_insert (take end parts) t ++ drop end parts
insert_before parts end p t some within at_p no_insert =
    let i : suc (end - 1) ≡ end = omega arith in
    let get_p : slice_get parts (end - 1) ≡ Some p = slice_get_read parts (length parts) (end - 1) p refl (omega arith) at_p in
    let pushes : with_insert (take end parts) t ≡ take end parts ++ Insert t ∷ [] =
    ap (λ n. with_insert (take n parts) t) (sym i) ∙ with_insert-take parts (end - 1) p t get_p (sym no_insert) ∙ ap (λ n. take n parts ++ Insert t ∷ []) i in
    sym (ap (λ rest. rest ++ drop end parts) pushes ∙ append_assoc (take end parts) (Insert t ∷ []) (drop end parts))

-- a text put in in front of all parts
pub insert_first : (parts : List Part) (end : ℕ) (t : List ℕ) → end ≤ 0
    → insert parts end (Insert t) ≡ with_insert (take end parts) t ++ drop end parts
insert_first parts zero t none = refl
insert_first parts (suc end) t none = absurd (omega arith)
