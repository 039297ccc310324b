-- Each step of the ring keeps the rule, and what an end learns from it.
use Rattle.std.proofs.Common.{◌≡◌, ◌≢◌, ℕ, zero, suc, true, false, true≢false, List, [], ◌∷◌, ◌++◌, length, length-append, set, sym, refl, ap, ◌∙◌, subst, ⊎_elim, append_assoc, Bool, arith}
use Rattle.std.specs.Prelude.{IfSome, ◌≤◌}
use Rattle.std.proofs.lemmas.List.{append-nil}
use mathlib.Core.Option.{some, some-ne-none}
use lib.ListN.{get_elem?}
use Rattle.crossbeam_queue.specs.Fifo.{Pushes, Pops, Forks, Merges, Learns, Held}
use Rattle.crossbeam_queue.proofs.Lists.{at_set, at_snoc}
use Rattle.block_queue.specs.declared.item.Item.{Item}
use Rattle.block_queue.specs.declared.rule.EndView.{EndView}
use Rattle.block_queue.specs.Order.{end_view, with_pushed, with_popped, KnowsEnds, IsInOrder, AreLastOf, KnowsUnpopped, KnowsWhole}
use Rattle.block_queue.specs.Values.{told_if, IsFullBehind}

at_end : (l : List EndView) (a b : EndView) (j : ℕ) → get_elem? l j ≢ some b → get_elem? (l ++ a ∷ []) j ≡ some b → j ≡ length l
at_end [] a b zero n e = refl
at_end [] a b (suc j) n e = absurd (some-ne-none b (sym e))
at_end (x ∷ xs) a b zero n e = absurd (n e)
at_end (x ∷ xs) a b (suc j) n e = ap suc (at_end xs a b j n e)

abbrev Each : (ℕ → EndView → Type 0) → List EndView → Type 0
Each F views = (pass : ℕ) (v : EndView) → get_elem? views pass ≡ some v → F pass v

each_set : (F : ℕ → EndView → Type 0) (views : List EndView) (pass : ℕ) (w : EndView) → F pass w
    → ((j : ℕ) (u : EndView) → j ≢ pass → get_elem? views j ≡ some u → F j u) → Each F (set views pass w)
each_set F views pass w mine others j u e =
    ⊎_elim (λ (x : (j ≡ pass) × (w ≡ u)). subst (λ (y : ℕ × EndView). F y.0 y.1) (λ i. (sym x.0 i, x.1 i)) mine)
    (λ (x : (j ≢ pass) × (get_elem? views j ≡ some u)). others j u x.0 x.1) (at_set views pass j w u e)

-- the rule of an empty ring with one pass, which may do both
pub begins : IsInOrder [] (end_view true true [] [] ∷ [])
begins = (
  0,
  0,
  [],
  [],
  refl,
  each_set (KnowsEnds 0 0 [] []) (end_view true true [] [] ∷ []) 0 (end_view true true [] []) ((λ _. (refl, refl)), λ _. (refl, refl))
      (λ j u other e. absurd (other (at_end [] _ u j (λ x. some-ne-none u (sym x)) e))),
)

-- who may push keeps it by a push
pub pushes : (n pass : ℕ) (v : EndView) (x : Item) → v.pushes ≡ true
    → Pushes IsInOrder n pass v x (λ w. w ≡ with_pushed x v)
pushes n pass v x may items views _ h at =
    let w : EndView = with_pushed x v in
    let mine = h.5 pass v at in
    let pushed = h.2 ++ x ∷ [] in (
      w,
      (
        h.0,
        h.1,
        pushed,
        h.3,
        ap (λ l. l ++ x ∷ []) h.4 ∙ append_assoc h.3 items (x ∷ []),
        each_set (KnowsEnds h.0 h.1 pushed h.3) views pass w ((λ _. ((mine.0 may).0, ap (λ l. l ++ x ∷ []) (mine.0 may).1)), mine.1)
            (λ j u other e. ((λ p. absurd (other (((h.5 j u e).0 p).0 ∙ sym (mine.0 may).0))), (h.5 j u e).1)),
      ),
      refl,
    )

-- who may pop keeps it by a pop
pub pops : (pass : ℕ) (v : EndView) → v.pops ≡ true → Pops IsInOrder pass v (λ x w. w ≡ with_popped x v)
pops pass v may x items views h at =
    let w : EndView = with_popped x v in
    let mine = h.5 pass v at in
    let popped = h.3 ++ x ∷ [] in (
      w,
      (
        h.0,
        h.1,
        h.2,
        popped,
        h.4 ∙ sym (append_assoc h.3 (x ∷ []) items),
        each_set (KnowsEnds h.0 h.1 h.2 popped) views pass w (mine.0, λ _. ((mine.1 may).0, ap (λ l. l ++ x ∷ []) (mine.1 may).1))
            (λ j u other e. ((h.5 j u e).0, λ p. absurd (other (((h.5 j u e).1 p).0 ∙ sym (mine.1 may).0)))),
      ),
      refl,
    )

-- one that may do both makes two ends
pub forks : (pass : ℕ) (v : EndView) → v.pushes ≡ true → v.pops ≡ true
    → Forks IsInOrder pass v (end_view true false v.pushed []) (end_view false true [] v.popped)
forks pass v a b items views h at =
    let l : EndView = end_view true false v.pushed [] in
    let r : EndView = end_view false true [] v.popped in
    let mine = h.5 pass v at in
    let vs : List EndView = set views pass l in
    let Old : ℕ → EndView → Type 0 = λ j u. (u.pushes ≡ true → (j ≡ h.0) × (u.pushed ≡ h.2)) × (u.pops ≢ true) in
    let old : Each Old vs =
    each_set Old views pass l ((λ _. mine.0 a), λ p. true≢false (sym p)) (λ j u other e. ((h.5 j u e).0, λ p. other (((h.5 j u e).1 p).0 ∙ sym (mine.1 b).0))) in (
      h.0,
      length vs,
      h.2,
      h.3,
      h.4,
      λ j u e. ⊎_elim (λ x. ((old j u x).0, λ p. absurd ((old j u x).1 p)))
          (λ (is : r ≡ u). (
            (λ p. absurd (true≢false (sym (ap (λ (y : EndView). y.pushes) is ∙ p)))),
            λ p. (at_end vs r u j (λ x. (old j u x).1 p) e, ap (λ (y : EndView). y.popped) (sym is) ∙ (mine.1 b).1),
          ))
          (at_snoc vs r u j e),
    )

-- the end that pops takes in the end that pushes
pub merges : (pass : ℕ) (v : EndView) (other : ℕ) (u : EndView) → v.pops ≡ true → u.pushes ≡ true
    → Merges IsInOrder pass v other u (end_view true true u.pushed v.popped) (end_view false false [] [])
merges pass v other u b a items views h at two at' =
    let both : EndView = end_view true true u.pushed v.popped in
    let mine = (h.5 pass v at).1 b in
    let was : get_elem? views other ≡ some u = ⊎_elim (λ x. absurd (two x.0)) (λ x. x.1) (at_set views pass other both u at') in
    let theirs = (h.5 other u was).0 a in
    let Now : ℕ → EndView → Type 0 = λ j y. j ≢ other → KnowsEnds pass h.1 h.2 h.3 j y in
    let now : Each Now (set views pass both) =
    each_set Now views pass both (λ _. ((λ _. (refl, theirs.1)), λ _. mine)) (λ j y _ e apart. ((λ p. absurd (apart (((h.5 j y e).0 p).0 ∙ sym theirs.0))), (h.5 j y e).1)) in (
      pass,
      h.1,
      h.2,
      h.3,
      h.4,
      each_set (KnowsEnds pass h.1 h.2 h.3) (set views pass both) other (end_view false false [] []) ((λ p. absurd (true≢false (sym p))), λ p. absurd (true≢false (sym p)))
          (λ j y apart e. now j y e apart),
    )

-- the end that pushes takes in the end that pops
pub merges_popper : (pass : ℕ) (v : EndView) (other : ℕ) (u : EndView) → v.pushes ≡ true → u.pops ≡ true
    → Merges IsInOrder pass v other u (end_view true true v.pushed u.popped) (end_view false false [] [])
merges_popper pass v other u a b items views h at two at' =
    let both : EndView = end_view true true v.pushed u.popped in
    let mine = (h.5 pass v at).0 a in
    let was : get_elem? views other ≡ some u = ⊎_elim (λ x. absurd (two x.0)) (λ x. x.1) (at_set views pass other both u at') in
    let theirs = (h.5 other u was).1 b in
    let Now : ℕ → EndView → Type 0 = λ j y. j ≢ other → KnowsEnds h.0 pass h.2 h.3 j y in
    let now : Each Now (set views pass both) =
    each_set Now views pass both (λ _. ((λ _. mine), λ _. (refl, theirs.1))) (λ j y _ e apart. ((h.5 j y e).0, λ p. absurd (apart (((h.5 j y e).1 p).0 ∙ sym theirs.0)))) in (
      h.0,
      pass,
      h.2,
      h.3,
      h.4,
      each_set (KnowsEnds h.0 pass h.2 h.3) (set views pass both) other (end_view false false [] []) ((λ p. absurd (true≢false (sym p))), λ p. absurd (true≢false (sym p)))
          (λ j y apart e. now j y e apart),
    )

-- who may push knows that what the ring holds are the last items pushed
pub ends : (pass : ℕ) (v : EndView) → v.pushes ≡ true → Learns IsInOrder pass v (AreLastOf v.pushed)
ends pass v a items views h at = (h.3, ((h.5 pass v at).0 a).1 ∙ h.4)

-- who may do both knows all that was pushed
pub wholes : (pass : ℕ) (v : EndView) → v.pushes ≡ true → v.pops ≡ true → Learns IsInOrder pass v (λ items. v.pushed ≡ v.popped ++ items)
wholes pass v a b items views h at =
    let mine = h.5 pass v at in
    (mine.0 a).1 ∙ h.4 ∙ ap (λ l. l ++ items) (sym (mine.1 b).1)

-- who may push knows both, the second if he may pop
pub rests : (pass : ℕ) (v : EndView) → v.pushes ≡ true → Learns IsInOrder pass v (KnowsUnpopped v)
rests pass v a items views h at = (ends pass v a items views h at, λ b. wholes pass v a b items views h at)

-- of a full ring who may push knows that no fewer items were pushed than it holds
pub no_fewer : (room : ℕ) (v : EndView) → Held room (KnowsUnpopped v) → room ≤ length v.pushed
no_fewer room v held =
    let all = ap (λ (l : List Item). length l) held.2.0.1 in
    let both = length-append held.2.0.0 held.0 in
    let many = held.1 in
    omega (arith, all, both, many)

full_if : (pops : Bool) (room : ℕ) (popped pushed items : List Item) → length items ≡ room → (pops ≡ true → pushed ≡ popped ++ items) → IfSome (told_if pops popped) (λ out. IsFullBehind room out pushed)
full_if false room popped pushed items many whole = tt
full_if true room popped pushed items many whole = (items, many, whole refl)

-- and who may do both, that it holds what wasn't popped
pub all_held : (room : ℕ) (v : EndView) → Held room (KnowsUnpopped v) → IfSome (told_if v.pops v.popped) (λ out. IsFullBehind room out v.pushed)
all_held room v held = full_if v.pops room v.popped v.pushed held.0 held.1 held.2.1

-- who may pop knows it too, if he may push
pub if_wholes : (pass : ℕ) (v : EndView) → v.pops ≡ true → Learns IsInOrder pass v (KnowsWhole v)
if_wholes pass v b items views h at a = wholes pass v a b items views h at

none_left : (pushes : Bool) (pushed popped items : List Item) → length items ≡ 0 → (pushes ≡ true → pushed ≡ popped ++ items) → IfSome (told_if pushes pushed) (λ all. all ≡ popped)
none_left false pushed popped items none whole = tt
none_left true pushed popped [] none whole = whole refl ∙ append-nil popped
none_left true pushed popped (x ∷ xs) none whole = absurd (omega (arith, none))

-- of an empty ring who may do both knows that all that was pushed was popped
pub all_popped : (v w : EndView) → w ≡ v → Held 0 (KnowsWhole v) → IfSome (told_if w.pushes w.pushed) (λ all. all ≡ w.popped)
all_popped v w same held = subst (λ (u : EndView). IfSome (told_if u.pushes u.pushed) (λ all. all ≡ u.popped)) (sym same) (none_left v.pushes v.pushed v.popped held.0 held.1 held.2)
