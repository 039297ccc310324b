-- The places that an operation keeps, by its parts.
use Rattle.std.proofs.Common.{◌≡◌, ℕ, zero, suc, ◌+◌, ◌-◌, ◌<◌, ◌≤◌, ◌⊎◌, inl, inr, true, false, IsTrue, ◌↔◌, List, [], ◌∷◌, ◌++◌, refl, sym, ap, ◌∙◌, arith}
use Rattle.std.proofs.lemmas.List.Sums.{sum_by-cons}
use Rattle.ot_text.specs.declared.part.Part.{Part}
use Rattle.ot_text.specs.declared.part.Part.TheVariants.{Retain, Insert, Delete}
use Rattle.ot_text.specs.Change.{Change, keeps_place, retain_then, delete_then}
use Rattle.ot_text.specs.Parts.{part_base, base_of, norm, parts_of}
use Rattle.ot_text.specs.Gaps.{Retains}
use Rattle.ot_text.proofs.PartsOf.{norm-parts_of}

keeps_place-retained : (k : ℕ) (c : Change) (i : ℕ) → i < k → keeps_place (retain_then k c) i ≡ true
keeps_place-retained zero c i below = absurd (omega arith)
keeps_place-retained (suc k) c zero below = refl
keeps_place-retained (suc k) c (suc i) below = keeps_place-retained k c i (omega arith)

keeps_place-retain_then : (k : ℕ) (c : Change) (i j : ℕ) → i ≡ k + j → keeps_place (retain_then k c) i ≡ keeps_place c j
keeps_place-retain_then zero c i j at = let e : i ≡ j = omega arith in ap (keeps_place c) e
keeps_place-retain_then (suc k) c zero j at = absurd (omega arith)
keeps_place-retain_then (suc k) c (suc i) j at = keeps_place-retain_then k c i j (omega arith)

keeps_place-deleted : (k : ℕ) (c : Change) (i : ℕ) → i < k → keeps_place (delete_then k c) i ≡ false
keeps_place-deleted zero c i below = absurd (omega arith)
keeps_place-deleted (suc k) c zero below = refl
keeps_place-deleted (suc k) c (suc i) below = keeps_place-deleted k c i (omega arith)

keeps_place-delete_then : (k : ℕ) (c : Change) (i j : ℕ) → i ≡ k + j → keeps_place (delete_then k c) i ≡ keeps_place c j
keeps_place-delete_then zero c i j at = let e : i ≡ j = omega arith in ap (keeps_place c) e
keeps_place-delete_then (suc k) c zero j at = absurd (omega arith)
keeps_place-delete_then (suc k) c (suc i) j at = keeps_place-delete_then k c i j (omega arith)

-- a place is below a count or behind it
within_or_behind : (k i : ℕ) → (i < k) ⊎ (i ≡ k + (i - k))
within_or_behind zero i = inr (omega arith)
within_or_behind (suc k) zero = inl (omega arith)
within_or_behind (suc k) (suc i) =
    elim (within_or_behind k i) as (λ x. (suc i < suc k) ⊎ (suc i ≡ suc k + (suc i - suc k))) [
      | inl below ↦ inl (omega arith)
      | inr at ↦ inr (omega arith)
    ]

retains_behind : (part : Part) (parts : List Part) (i j : ℕ) → i ≡ part_base part + j → Retains parts j
    → Retains (part ∷ parts) i
retains_behind part parts i j at r = record {
  before = part ∷ r.before;
  count = r.count;
  behind = r.behind;
  are = ap (λ rest. part ∷ rest) r.are;
  from = omega (arith, sum_by-cons part_base part r.before, r.from);
  below = omega (arith, sum_by-cons part_base part r.before, r.below);
}

retains : (parts : List Part) (i : ℕ) → keeps_place (norm parts) i ≡ true → Retains parts i
retains [] i h = absurd (cc)
retains (Retain k ∷ parts) i h = elim (within_or_behind k i) as (λ x. Retains (Retain k ∷ parts) i) [
  | inl below ↦ record { before = []; count = k; behind = parts; are = refl; from = omega arith; below = omega arith }
  | inr at ↦ retains_behind (Retain k) parts i (i - k) at (retains parts (i - k) (sym (keeps_place-retain_then k (norm parts) i (i - k) at) ∙ h))
]
retains (Insert t ∷ parts) i h = retains_behind (Insert t) parts i i (omega arith) (retains parts i h)
retains (Delete k ∷ parts) i h = elim (within_or_behind k i) as (λ x. Retains (Delete k ∷ parts) i) [
  | inl below ↦ let no : false ≡ true = sym (keeps_place-deleted k (norm parts) i below) ∙ h in absurd (cc)
  | inr at ↦ retains_behind (Delete k) parts i (i - k) at (retains parts (i - k) (sym (keeps_place-delete_then k (norm parts) i (i - k) at) ∙ h))
]

keeps_place-norm : (before : List Part) (k : ℕ) (behind : List Part) (i : ℕ) → base_of before ≤ i
    → i < base_of before + k → keeps_place (norm (before ++ Retain k ∷ behind)) i ≡ true
keeps_place-norm [] k behind i from below = keeps_place-retained k (norm behind) i (omega arith)
keeps_place-norm (Retain m ∷ before) k behind i from below =
    let more : base_of (Retain m ∷ before) ≡ m + base_of before = sum_by-cons part_base (Retain m) before in
    keeps_place-retain_then m (norm (before ++ Retain k ∷ behind)) i (i - m) (omega arith)
    ∙ keeps_place-norm before k behind (i - m) (omega arith) (omega arith)
keeps_place-norm (Insert t ∷ before) k behind i from below =
    let more : base_of (Insert t ∷ before) ≡ 0 + base_of before = sum_by-cons part_base (Insert t) before in
    keeps_place-norm before k behind i (omega arith) (omega arith)
keeps_place-norm (Delete m ∷ before) k behind i from below =
    let more : base_of (Delete m ∷ before) ≡ m + base_of before = sum_by-cons part_base (Delete m) before in
    keeps_place-delete_then m (norm (before ++ Retain k ∷ behind)) i (i - m) (omega arith)
    ∙ keeps_place-norm before k behind (i - m) (omega arith) (omega arith)

-- a place is kept exactly where a retain goes over it
pub kept_by_parts : (c : Change) (i : ℕ) → IsTrue (keeps_place c i) ↔ Retains (parts_of c) i
kept_by_parts c i = (
  λ keeps. retains (parts_of c) i (ap (λ d. keeps_place d i) (norm-parts_of c) ∙ keeps),
  λ r. ap (λ d. keeps_place d i) (sym (norm-parts_of c) ∙ ap norm r.are) ∙ keeps_place-norm r.before r.count r.behind i r.from r.below,
)
