-- A step along what is left of a list of parts.
use Rattle.std.proofs.Common.{◌≡◌, ℕ, zero, suc, ◌+◌, ◌-◌, ◌≤◌, min, Bool, List, [], ◌∷◌, refl, sym, ap, ◌∙◌, arith}
use Rattle.ot_text.specs.declared.part.Part.{Part}
use Rattle.ot_text.specs.declared.part.Part.TheVariants.{Retain, Insert, Delete}
use Rattle.ot_text.specs.Change.{base, nothing, retain_then, delete_then}
use Rattle.ot_text.specs.Parts.{norm, IsNormal}
use Rattle.ot_text.proofs.IsNormal.{start_of_uninserted}
use Rattle.ot_text.proofs.Then.{retain_then-add, delete_then-add, base-retain_then, base-delete_then}
use Rattle.ot_transform.specs.Rest.{shortened, first_span, first_keeps, HasNoTextFirst, places_then}
use Rattle.ot_transform.specs.Walk.{IsOver}

-- the first n places of what is left of the first part
norm-shortened : (first : Part) (others : List Part) (used n : ℕ) → 1 ≤ n
    → n ≤ first_span (shortened used (first ∷ others))
    → norm (shortened used (first ∷ others))
    ≡ places_then (first_keeps (first ∷ others)) n (norm (shortened (used + n) (first ∷ others)))
norm-shortened (Retain k) others used n some within =
    let e : k - used ≡ n + (k - (used + n)) = omega arith in
    ap (λ m. retain_then m (norm others)) e ∙ retain_then-add n (k - (used + n)) (norm others)
norm-shortened (Insert t) others used n some within = absurd (omega arith)
norm-shortened (Delete k) others used n some within =
    let e : k - used ≡ n + (k - (used + n)) = omega arith in
    ap (λ m. delete_then m (norm others)) e ∙ delete_then-add n (k - (used + n)) (norm others)

-- the same, where the parts are seen as a whole
pub norm-skipped : (whole old : List Part) (first : Part) (others : List Part) (keeps : Bool) (used n : ℕ)
    → shortened used whole ≡ old → whole ≡ first ∷ others → 1 ≤ n → n ≤ first_span old
    → keeps ≡ first_keeps (first ∷ others) → norm old ≡ places_then keeps n (norm (shortened (used + n) whole))
norm-skipped whole old first others keeps used n view split some within kind =
    let seen : shortened used (first ∷ others) ≡ old = ap (shortened used) (sym split) ∙ view in
    let within' : n ≤ first_span (shortened used (first ∷ others)) = rw seen within in
    ap norm (sym seen)
    ∙ norm-shortened first others used n some within'
    ∙ ap (λ ps. places_then (first_keeps (first ∷ others)) n (norm (shortened (used + n) ps))) (sym split)
    ∙ ap (λ b. places_then b n (norm (shortened (used + n) whole))) (sym kind)

-- parts that begin with no insert put nothing in at the start
pub start_of_untexted : (ps : List Part) → IsNormal ps → HasNoTextFirst ps → (norm ps).start ≡ []
start_of_untexted [] n h = refl
start_of_untexted (Retain k ∷ ps) n h = start_of_uninserted [] (Retain k ∷ ps) n tt
start_of_untexted (Insert t ∷ ps) n h = absurd h
start_of_untexted (Delete k ∷ ps) n h = start_of_uninserted [] (Delete k ∷ ps) n tt

-- if they go over nothing too, there are none
pub end_of_untexted : (ps : List Part) → IsNormal ps → HasNoTextFirst ps → base (norm ps) ≡ 0 → norm ps ≡ nothing
end_of_untexted [] n h e = refl
end_of_untexted (Retain k ∷ ps) n h e = absurd (omega (arith, n.0, base-retain_then k (norm ps)))
end_of_untexted (Insert t ∷ ps) n h e = absurd h
end_of_untexted (Delete k ∷ ps) n h e = absurd (omega (arith, n.0, base-delete_then k (norm ps)))

-- if they go over something, the first part does
run_of_untexted : (ps : List Part) → IsNormal ps → HasNoTextFirst ps → 1 ≤ base (norm ps) → 1 ≤ first_span ps
run_of_untexted [] n h e = absurd (omega arith)
run_of_untexted (Retain k ∷ ps) n h e = n.0
run_of_untexted (Insert t ∷ ps) n h e = absurd h
run_of_untexted (Delete k ∷ ps) n h e = n.0

-- where the shorter first run of two lists of one base is 0, both are at their end
pub both_at_end : (ps qs : List Part) (count : ℕ) → IsNormal ps → IsNormal qs → HasNoTextFirst ps → HasNoTextFirst qs
    → base (norm ps) ≡ base (norm qs) → count ≡ min (first_span ps) (first_span qs) → count ≡ 0
    → IsOver (norm ps) (norm qs)
both_at_end ps qs count na nb ha hb same is none = go (base (norm ps)) refl
  where
    go : (n : ℕ) → base (norm ps) ≡ n → IsOver (norm ps) (norm qs)
    go zero e = record { first = end_of_untexted ps na ha e; second = end_of_untexted qs nb hb (sym same ∙ e) }
    go (suc n) e = absurd (omega (arith, run_of_untexted ps na ha (omega arith), run_of_untexted qs nb hb (omega arith)))
