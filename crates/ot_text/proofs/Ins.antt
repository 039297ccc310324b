-- The gaps of an operation, by its parts.
use Rattle.std.proofs.Common.{◌≡◌, ℕ, zero, suc, ◌+◌, ◌≤◌, List, [], ◌∷◌, ◌++◌, refl, sym, ap, ◌∙◌, append-nil, arith}
use Rattle.std.proofs.lemmas.List.Sums.{sum_by-cons}
use Rattle.ot_text.specs.declared.part.Part.{Part}
use Rattle.ot_text.specs.declared.part.Part.TheVariants.{Retain, Insert, Delete}
use Rattle.ot_text.specs.Change.{Change, ins, insert_then, retain_then, delete_then}
use Rattle.ot_text.specs.Parts.{part_base, base_of, norm, IsNormal, parts_of}
use Rattle.ot_text.specs.Gaps.{InsertsAt}
use Rattle.ot_text.proofs.PartsOf.{normal-parts_of, norm-parts_of}
use Rattle.ot_text.proofs.IsNormal.{start-delete_then, start_of_uninserted, delete_is_no_insert}

-- behind places that are kept or removed, the gaps are those of what follows
ins-retain_then : (k : ℕ) (c : Change) (i j : ℕ) → i ≡ k + j → ins (retain_then k c) i ≡ ins c j
ins-retain_then zero c i j at = let e : i ≡ j = omega arith in ap (ins c) e
ins-retain_then (suc k) c zero j at = absurd (omega arith)
ins-retain_then (suc k) c (suc i) j at = ins-retain_then k c i j (omega arith)

ins-delete_then : (k : ℕ) (c : Change) (i j : ℕ) → c.start ≡ [] → i ≡ k + j → ins (delete_then k c) i ≡ ins c j
ins-delete_then zero c i j none at = let e : i ≡ j = omega arith in ap (ins c) e
ins-delete_then (suc k) c zero j none at = absurd (omega arith)
ins-delete_then (suc k) c (suc zero) j none at =
    sym (start-delete_then k c ∙ none) ∙ ins-delete_then k c zero j none (omega arith)
ins-delete_then (suc k) c (suc (suc i)) j none at = ins-delete_then k c (suc i) j none (omega arith)

-- a text at a gap in or in front of places that are kept or removed stands behind them
record StandsBehind (k : ℕ) (c : Change) (i x : ℕ) (t : List ℕ) : Type 0 where
  pub gap : ℕ
  pub at : i ≡ k + gap
  pub text : ins c gap ≡ x ∷ t

one_further : (k : ℕ) (c : Change) (i x : ℕ) (t : List ℕ) → StandsBehind k c i x t
    → StandsBehind (suc k) c (suc i) x t
one_further k c i x t s = record { gap = s.gap; at = omega (arith, s.at); text = s.text }

behind_retained : (k : ℕ) (c : Change) (i x : ℕ) (t : List ℕ) → ins (retain_then k c) i ≡ x ∷ t
    → StandsBehind k c i x t
behind_retained zero c i x t h = record { gap = i; at = omega arith; text = h }
behind_retained (suc k) c zero x t h = absurd (cc)
behind_retained (suc k) c (suc i) x t h = one_further k c i x t (behind_retained k c i x t h)

behind_deleted : (k : ℕ) (c : Change) (i x : ℕ) (t : List ℕ) → c.start ≡ [] → ins (delete_then k c) i ≡ x ∷ t
    → StandsBehind k c i x t
behind_deleted zero c i x t none h = record { gap = i; at = omega arith; text = h }
behind_deleted (suc k) c zero x t none h = let no : [] ≡ x ∷ t = sym (start-delete_then (suc k) c ∙ none) ∙ h in absurd (cc)
behind_deleted (suc k) c (suc zero) x t none h = absurd (cc)
behind_deleted (suc k) c (suc (suc i)) x t none h = one_further k c (suc i) x t (behind_deleted k c (suc i) x t none h)

none_behind_delete : (k : ℕ) (parts : List Part) → IsNormal (Delete k ∷ parts) → (norm parts).start ≡ []
none_behind_delete k parts n = start_of_uninserted [] parts n.2 (delete_is_no_insert k [] parts n.1)

-- between two inserts of a normal list stands a retain or a delete
some_between : (s : List ℕ) (before : List Part) (t : List ℕ) (behind : List Part)
    → IsNormal (Insert s ∷ before ++ Insert t ∷ behind) → 1 ≤ base_of before
some_between s [] t behind n = absurd n.1
some_between s (Retain k ∷ before) t behind n = omega (arith, sum_by-cons part_base (Retain k) before, n.2.0)
some_between s (Insert u ∷ before) t behind n = absurd n.1
some_between s (Delete k ∷ before) t behind n = omega (arith, sum_by-cons part_base (Delete k) before, n.2.0)

ins-insert_then : (s : List ℕ) (c : Change) (i : ℕ) → 1 ≤ i → ins (insert_then s c) i ≡ ins c i
ins-insert_then s c zero some = absurd (omega arith)
ins-insert_then s c (suc i) some = refl

ins-norm : (before : List Part) (t : List ℕ) (behind : List Part) → IsNormal (before ++ Insert t ∷ behind)
    → ins (norm (before ++ Insert t ∷ behind)) (base_of before) ≡ t
ins-norm [] t behind n = ap (λ s. t ++ s) (start_of_uninserted t behind n.2 n.1) ∙ append-nil t
ins-norm (Retain k ∷ before) t behind n =
    ins-retain_then k (norm (before ++ Insert t ∷ behind)) (base_of (Retain k ∷ before)) (base_of before) (sum_by-cons part_base (Retain k) before)
    ∙ ins-norm before t behind n.2
ins-norm (Insert s ∷ before) t behind n =
    let none_passed : base_of (Insert s ∷ before) ≡ base_of before = omega (arith, sum_by-cons part_base (Insert s) before) in
    ap (ins (norm (Insert s ∷ before ++ Insert t ∷ behind))) none_passed
    ∙ ins-insert_then s (norm (before ++ Insert t ∷ behind)) (base_of before) (some_between s before t behind n)
    ∙ ins-norm before t behind n.2
ins-norm (Delete k ∷ before) t behind n =
    ins-delete_then k (norm (before ++ Insert t ∷ behind)) (base_of (Delete k ∷ before)) (base_of before) (none_behind_delete k (before ++ Insert t ∷ behind) n)
    (sum_by-cons part_base (Delete k) before)
    ∙ ins-norm before t behind n.2

-- one part more in front
inserts_behind : (part : Part) (parts : List Part) (i j : ℕ) (t : List ℕ) → i ≡ part_base part + j
    → InsertsAt parts j t → InsertsAt (part ∷ parts) i t
inserts_behind part parts i j t at s = record {
  before = part ∷ s.before;
  behind = s.behind;
  are = ap (λ rest. part ∷ rest) s.are;
  passed = omega (arith, sum_by-cons part_base part s.before, s.passed);
}

inserts_at : (parts : List Part) (i x : ℕ) (t : List ℕ) → IsNormal parts → ins (norm parts) i ≡ x ∷ t
    → InsertsAt parts i (x ∷ t)
inserts_at [] zero x t n h = absurd (cc)
inserts_at [] (suc i) x t n h = absurd (cc)
inserts_at (Retain k ∷ parts) i x t n h =
    let s : StandsBehind k (norm parts) i x t = behind_retained k (norm parts) i x t h in
    inserts_behind (Retain k) parts i s.gap (x ∷ t) s.at (inserts_at parts s.gap x t n.2 s.text)
inserts_at (Insert s ∷ parts) zero x t n h =
    let whole : s ≡ x ∷ t = sym (append-nil s) ∙ ap (λ u. s ++ u) (sym (start_of_uninserted s parts n.2 n.1)) ∙ h in
    record { before = []; behind = parts; are = ap (λ u. Insert u ∷ parts) whole; passed = refl }
inserts_at (Insert s ∷ parts) (suc i) x t n h =
    inserts_behind (Insert s) parts (suc i) (suc i) (x ∷ t) (omega arith) (inserts_at parts (suc i) x t n.2 h)
inserts_at (Delete k ∷ parts) i x t n h =
    let s : StandsBehind k (norm parts) i x t = behind_deleted k (norm parts) i x t (none_behind_delete k parts n) h in
    inserts_behind (Delete k) parts i s.gap (x ∷ t) s.at (inserts_at parts s.gap x t n.2 s.text)

-- an insert of the parts stands at its gap
pub ins_by_parts : (c : Change) (i : ℕ) (text : List ℕ) → InsertsAt (parts_of c) i text → ins c i ≡ text
ins_by_parts c i text s =
    let normal = rw s.are at (normal-parts_of c) in
    ap (λ d. ins d i) (sym (norm-parts_of c) ∙ ap norm s.are)
    ∙ ap (ins (norm (s.before ++ Insert text ∷ s.behind))) (sym s.passed)
    ∙ ins-norm s.before text s.behind normal

empty_unless : (u : List ℕ) → ((x : ℕ) (t : List ℕ) → u ≡ x ∷ t → ⊥) → u ≡ []
empty_unless [] never = refl
empty_unless (x ∷ t) never = absurd (never x t refl)

-- at a gap without an insert nothing is put in
pub ins_else_empty : (c : Change) (i : ℕ) → ((text : List ℕ) → InsertsAt (parts_of c) i text → ⊥) → ins c i ≡ []
ins_else_empty c i none =
    empty_unless (ins c i)
    (λ x t h. none (x ∷ t) (inserts_at (parts_of c) i x t (normal-parts_of c) (ap (λ d. ins d i) (norm-parts_of c) ∙ h)))
