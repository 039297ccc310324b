-- A retain or a delete behind a list of parts.
use Rattle.std.proofs.Common.{◌≡◌, ℕ, suc, ◌+◌, ◌-◌, ◌≤◌, Option, None, Some, List, [], ◌∷◌, ◌++◌, length, set, slice_get, refl, sym, ap, ◌∙◌, arith}
use Rattle.std.proofs.lemmas.List.{set_at}
use Rattle.ot_text.specs.declared.part.Part.{Part}
use Rattle.ot_text.specs.declared.part.Part.TheVariants.{Retain, Insert, Delete}
use Rattle.ot_text.specs.Change.{base, nothing, retain_then, delete_then, then}
use Rattle.ot_text.specs.Parts.{norm, MayBeFirstBehind, IsNormal, part_base, part_then}
use Rattle.ot_text.specs.Ends.{retained_by, deleted_by, last_part}
use Rattle.ot_text.proofs.AppliedSoFar.{base-part_then}
use Rattle.ot_text.proofs.Then.{norm-append, then_assoc, retain_then-add, delete_then-add, then-retain_then, then-delete_then, base-then}

-- the last element is the last part
pub slice_get-last : (parts : List Part) → slice_get parts (length parts - 1) ≡ last_part parts
slice_get-last [] = refl
slice_get-last (part ∷ []) = refl
slice_get-last (part ∷ next ∷ parts) =
    let e : length (part ∷ next ∷ parts) - 1 ≡ suc (length (next ∷ parts) - 1) = omega arith in
    ap (slice_get (part ∷ next ∷ parts)) e ∙ slice_get-last (next ∷ parts)

-- the parts in front of the last one
pub record EndsWith (parts : List Part) (last : Part) : Type 0 where
  pub front : List Part
  pub are : parts ≡ front ++ last ∷ []
  pub len : length parts ≡ length front + 1

ends_with : (parts : List Part) (last : Part) → last_part parts ≡ Some last → EndsWith parts last
ends_with [] last is = absurd (cc)
ends_with (part ∷ []) last is = let same : part ≡ last = cc in record { front = []; are = ap (λ p. p ∷ []) same; len = omega arith }
ends_with (part ∷ next ∷ parts) last is =
    let r : EndsWith (next ∷ parts) last = ends_with (next ∷ parts) last is in
    record { front = part ∷ r.front; are = ap (λ rest. part ∷ rest) r.are; len = omega (arith, r.len) }

is_retain : (last : Option Part) (k : ℕ) → Some k ≡ retained_by last → last ≡ Some (Retain k)
is_retain None k is = absurd (cc)
is_retain (Some (Retain l)) k is = let same : k ≡ l = cc in ap (λ n. Some (Retain n)) (sym same)
is_retain (Some (Insert t)) k is = absurd (cc)
is_retain (Some (Delete l)) k is = absurd (cc)

-- a list whose last part retains ends with that retain
pub ends_with_retain : (parts : List Part) (k : ℕ) → Some k ≡ retained_by (last_part parts)
    → EndsWith parts (Retain k)
ends_with_retain parts k is = ends_with parts (Retain k) (is_retain (last_part parts) k is)

is_delete : (last : Option Part) (k : ℕ) → Some k ≡ deleted_by last → last ≡ Some (Delete k)
is_delete None k is = absurd (cc)
is_delete (Some (Retain l)) k is = absurd (cc)
is_delete (Some (Insert t)) k is = absurd (cc)
is_delete (Some (Delete l)) k is = let same : k ≡ l = cc in ap (λ n. Some (Delete n)) (sym same)

-- a list whose last part deletes ends with that delete
pub ends_with_delete : (parts : List Part) (k : ℕ) → Some k ≡ deleted_by (last_part parts) → EndsWith parts (Delete k)
ends_with_delete parts k is = ends_with parts (Delete k) (is_delete (last_part parts) k is)

set_last : (parts : List Part) (last new : Part) (r : EndsWith parts last)
    → set parts (length parts - 1) new ≡ r.front ++ new ∷ []
set_last parts last new r =
    let at : length r.front ≡ length parts - 1 = omega (arith, r.len) in
    ap (λ ps. set ps (length parts - 1) new) r.are ∙ set_at r.front last [] new (length parts - 1) at

-- the operation of a list, by its front and its last part
pub norm-last : (parts : List Part) (last : Part) (r : EndsWith parts last)
    → norm parts ≡ then (norm r.front) (part_then last nothing)
norm-last parts last r = ap norm r.are ∙ norm-append r.front (last ∷ [])

-- the count of the last part is not more than the base
last-le-base : (parts : List Part) (last : Part) → EndsWith parts last → part_base last ≤ base (norm parts)
last-le-base parts last r =
    omega (arith, ap base (norm-last parts last r), base-then (norm r.front) (part_then last nothing), base-part_then last nothing)

-- what the last part retains is no more than the base
pub retained-le-base : (parts : List Part) (k : ℕ) → Some k ≡ retained_by (last_part parts) → k ≤ base (norm parts)
retained-le-base parts k is = last-le-base parts (Retain k) (ends_with_retain parts k is)

-- what the last part deletes is no more than the base
pub deleted-le-base : (parts : List Part) (k : ℕ) → Some k ≡ deleted_by (last_part parts) → k ≤ base (norm parts)
deleted-le-base parts k is = last-le-base parts (Delete k) (ends_with_delete parts k is)

-- the first of the parts may stand right behind the part, if there is one
abbrev pub MayBeBehind : Option Part → List Part → Type 0
MayBeBehind None parts = Unit {0}
MayBeBehind (Some part) parts = MayBeFirstBehind part parts

-- normal parts behind normal ones, where they may meet
pub normal-append : (ps qs : List Part) → IsNormal ps → MayBeBehind (last_part ps) qs → IsNormal qs
    → IsNormal (ps ++ qs)
normal-append [] qs front between back = back
normal-append (p ∷ []) qs front between back = (front.0, between, back)
normal-append (p ∷ next ∷ ps) qs front between back = (front.0, front.1, normal-append (next ∷ ps) qs front.2 between back)

-- a front of normal parts is normal
pub normal-front : (ps qs : List Part) → IsNormal (ps ++ qs) → IsNormal ps
normal-front [] qs n = tt
normal-front (p ∷ []) qs n = (n.0, tt, tt)
normal-front (p ∷ next ∷ ps) qs n = (n.0, n.1, normal-front (next ∷ ps) qs n.2)

-- where normal parts are cut, the rest may stand behind the front
pub normal-between : (ps qs : List Part) → IsNormal (ps ++ qs) → MayBeBehind (last_part ps) qs
normal-between [] qs n = tt
normal-between (p ∷ []) qs n = n.1
normal-between (p ∷ next ∷ ps) qs n = normal-between (next ∷ ps) qs n.2

-- a rest of normal parts is normal
pub normal-back : (ps qs : List Part) → IsNormal (ps ++ qs) → IsNormal qs
normal-back [] qs n = n
normal-back (p ∷ ps) qs n = normal-back ps qs n.2

retain_again : (last : Option Part) (k l : ℕ) → MayBeBehind last (Retain k ∷ []) → MayBeBehind last (Retain l ∷ [])
retain_again None k l b = tt
retain_again (Some (Retain m)) k l b = absurd b
retain_again (Some (Insert t)) k l b = tt
retain_again (Some (Delete m)) k l b = tt

delete_again : (last : Option Part) (k l : ℕ) → MayBeBehind last (Delete k ∷ []) → MayBeBehind last (Delete l ∷ [])
delete_again None k l b = tt
delete_again (Some (Retain m)) k l b = tt
delete_again (Some (Insert t)) k l b = tt
delete_again (Some (Delete m)) k l b = absurd b

retain_behind : (last : Option Part) (k : ℕ) → None ≡ retained_by last → MayBeBehind last (Retain k ∷ [])
retain_behind None k none = tt
retain_behind (Some (Retain m)) k none = absurd (cc)
retain_behind (Some (Insert t)) k none = tt
retain_behind (Some (Delete m)) k none = tt

delete_behind : (last : Option Part) (k : ℕ) → None ≡ deleted_by last → MayBeBehind last (Delete k ∷ [])
delete_behind None k none = tt
delete_behind (Some (Retain m)) k none = tt
delete_behind (Some (Insert t)) k none = tt
delete_behind (Some (Delete m)) k none = absurd (cc)

-- a retain that goes on
pub normal-more_retained : (parts : List Part) (n k : ℕ) → IsNormal parts
    → Some n ≡ retained_by (last_part parts) → 1 ≤ k
    → IsNormal (set parts (length parts - 1) (Retain (n + k)))
normal-more_retained parts n k normal is some =
    let r : EndsWith parts (Retain n) = ends_with_retain parts n is in
    let split : IsNormal (r.front ++ Retain n ∷ []) = rw r.are at normal in
    rw (set_last parts (Retain n) (Retain (n + k)) r)
    (normal-append r.front (Retain (n + k) ∷ []) (normal-front r.front _ split)
    (retain_again (last_part r.front) n (n + k) (normal-between r.front _ split)) (omega arith, tt, tt))

-- a last retain made longer keeps so many places more
pub norm-more_retained : (parts : List Part) (n k : ℕ) → Some n ≡ retained_by (last_part parts)
    → norm (set parts (length parts - 1) (Retain (n + k))) ≡ then (norm parts) (retain_then k nothing)
norm-more_retained parts n k is =
    let r : EndsWith parts (Retain n) = ends_with_retain parts n is in
    ap norm (set_last parts (Retain n) (Retain (n + k)) r)
    ∙ norm-append r.front (Retain (n + k) ∷ [])
    ∙ ap (then (norm r.front)) (retain_then-add n k nothing ∙ sym (then-retain_then n nothing (retain_then k nothing)))
    ∙ sym (then_assoc (norm r.front) (retain_then n nothing) (retain_then k nothing))
    ∙ sym (ap (λ c. then c (retain_then k nothing)) (norm-last parts (Retain n) r))

-- a retain behind parts that end with none is normal
pub normal-new_retain : (parts : List Part) (k : ℕ) → IsNormal parts → None ≡ retained_by (last_part parts)
    → 1 ≤ k → IsNormal (parts ++ Retain k ∷ [])
normal-new_retain parts k normal none some = normal-append parts (Retain k ∷ []) normal (retain_behind (last_part parts) k none) (some, tt, tt)

-- a delete that goes on
pub normal-more_deleted : (parts : List Part) (n k : ℕ) → IsNormal parts
    → Some n ≡ deleted_by (last_part parts) → 1 ≤ k → IsNormal (set parts (length parts - 1) (Delete (n + k)))
normal-more_deleted parts n k normal is some =
    let r : EndsWith parts (Delete n) = ends_with_delete parts n is in
    let split : IsNormal (r.front ++ Delete n ∷ []) = rw r.are at normal in
    rw (set_last parts (Delete n) (Delete (n + k)) r)
    (normal-append r.front (Delete (n + k) ∷ []) (normal-front r.front _ split)
    (delete_again (last_part r.front) n (n + k) (normal-between r.front _ split)) (omega arith, tt, tt))

-- a last delete made longer removes so many places more
pub norm-more_deleted : (parts : List Part) (n k : ℕ) → Some n ≡ deleted_by (last_part parts)
    → norm (set parts (length parts - 1) (Delete (n + k))) ≡ then (norm parts) (delete_then k nothing)
norm-more_deleted parts n k is =
    let r : EndsWith parts (Delete n) = ends_with_delete parts n is in
    ap norm (set_last parts (Delete n) (Delete (n + k)) r)
    ∙ norm-append r.front (Delete (n + k) ∷ [])
    ∙ ap (then (norm r.front)) (delete_then-add n k nothing ∙ sym (then-delete_then n nothing (delete_then k nothing)))
    ∙ sym (then_assoc (norm r.front) (delete_then n nothing) (delete_then k nothing))
    ∙ sym (ap (λ c. then c (delete_then k nothing)) (norm-last parts (Delete n) r))

-- a delete behind parts that end with none is normal
pub normal-new_delete : (parts : List Part) (k : ℕ) → IsNormal parts → None ≡ deleted_by (last_part parts)
    → 1 ≤ k → IsNormal (parts ++ Delete k ∷ [])
normal-new_delete parts k normal none some = normal-append parts (Delete k ∷ []) normal (delete_behind (last_part parts) k none) (some, tt, tt)
