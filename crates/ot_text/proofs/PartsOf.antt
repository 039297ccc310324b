-- The normal list of parts of an operation.
use Rattle.std.proofs.Common.{◌≡◌, ℕ, suc, List, [], ◌∷◌, refl, ap, ◌∙◌, append-nil, arith}
use Rattle.ot_text.specs.declared.part.Part.{Part}
use Rattle.ot_text.specs.declared.part.Part.TheVariants.{Retain, Insert, Delete}
use Rattle.ot_text.specs.Change.{Fate, Gone, Kept, Change, insert_then, retain_then, delete_then}
use Rattle.ot_text.specs.Parts.{norm, MayBeFirstBehind, IsNormal, text_before, one_retained, one_deleted, parts_on, parts_of}
use Rattle.ot_text.proofs.IsNormal.{behind_delete, behind_retain}
use Rattle.ot_text.proofs.Image.{same_change}

-- no insert comes first
abbrev NoInsertFirst : List Part → Type 0
NoInsertFirst parts = MayBeFirstBehind (Insert []) parts

insert_before : (t : List ℕ) (parts : List Part) → NoInsertFirst parts → MayBeFirstBehind (Insert t) parts
insert_before t [] b = tt
insert_before t (Retain k ∷ parts) b = tt
insert_before t (Insert s ∷ parts) b = absurd b
insert_before t (Delete k ∷ parts) b = tt

normal_text : (t : List ℕ) (parts : List Part) → IsNormal parts → NoInsertFirst parts → IsNormal (text_before t parts)
normal_text [] parts n b = n
normal_text (c ∷ t) parts n b = ((λ e. cc), insert_before (c ∷ t) parts b, n)

normal_retained : (parts : List Part) → IsNormal parts
    → IsNormal (one_retained parts) × NoInsertFirst (one_retained parts)
normal_retained [] n = ((omega arith, tt, tt), tt)
normal_retained (Retain k ∷ parts) n = ((omega arith, behind_retain k (suc k) parts n.1, n.2), tt)
normal_retained (Insert t ∷ parts) n = ((omega arith, tt, n), tt)
normal_retained (Delete k ∷ parts) n = ((omega arith, tt, n), tt)

normal_deleted : (parts : List Part) → IsNormal parts → NoInsertFirst parts
    → IsNormal (one_deleted parts) × NoInsertFirst (one_deleted parts)
normal_deleted [] n b = ((omega arith, tt, tt), tt)
normal_deleted (Retain k ∷ parts) n b = ((omega arith, tt, n), tt)
normal_deleted (Insert t ∷ parts) n b = absurd b
normal_deleted (Delete k ∷ parts) n b = ((omega arith, behind_delete k (suc k) parts n.1, n.2), tt)

normal_on : (fates : List Fate) → IsNormal (parts_on fates) × NoInsertFirst (parts_on fates)
normal_on [] = (tt, tt)
normal_on (Gone ∷ fates) =
    let rest : IsNormal (parts_on fates) × NoInsertFirst (parts_on fates) = normal_on fates in
    normal_deleted (parts_on fates) rest.0 rest.1
normal_on (Kept t ∷ fates) =
    let rest : IsNormal (parts_on fates) × NoInsertFirst (parts_on fates) = normal_on fates in
    normal_retained (text_before t (parts_on fates)) (normal_text t (parts_on fates) rest.0 rest.1)

-- the parts of an operation are normal
pub normal-parts_of : (c : Change) → IsNormal (parts_of c)
normal-parts_of c = normal_text c.start (parts_on c.places) (normal_on c.places).0 (normal_on c.places).1

norm-text_before : (t : List ℕ) (parts : List Part) → norm (text_before t parts) ≡ insert_then t (norm parts)
norm-text_before [] parts = refl
norm-text_before (c ∷ t) parts = refl

norm-one_retained : (parts : List Part) → norm (one_retained parts) ≡ retain_then 1 (norm parts)
norm-one_retained [] = refl
norm-one_retained (Retain k ∷ parts) = refl
norm-one_retained (Insert t ∷ parts) = refl
norm-one_retained (Delete k ∷ parts) = refl

norm-one_deleted : (parts : List Part) → norm (one_deleted parts) ≡ delete_then 1 (norm parts)
norm-one_deleted [] = refl
norm-one_deleted (Retain k ∷ parts) = refl
norm-one_deleted (Insert t ∷ parts) = refl
norm-one_deleted (Delete k ∷ parts) = refl

norm-parts_on : (fates : List Fate) → norm (parts_on fates) ≡ record { start = []; places = fates }
norm-parts_on [] = refl
norm-parts_on (Gone ∷ fates) = norm-one_deleted (parts_on fates) ∙ ap (delete_then 1) (norm-parts_on fates)
norm-parts_on (Kept t ∷ fates) =
    norm-one_retained (text_before t (parts_on fates))
    ∙ ap (retain_then 1) (norm-text_before t (parts_on fates) ∙ ap (insert_then t) (norm-parts_on fates))
    ∙ ap (λ s. record { start = []; places = Kept s ∷ fates }) (append-nil t)

-- the parts of an operation make it
pub norm-parts_of : (c : Change) → norm (parts_of c) ≡ c
norm-parts_of c =
    norm-text_before c.start (parts_on c.places)
    ∙ ap (insert_then c.start) (norm-parts_on c.places)
    ∙ same_change _ _ (append-nil c.start) refl
