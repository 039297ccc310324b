-- How much of a walk over two operations is left.
use Rattle.std.proofs.Common.{◌≡◌, ℕ, ◌+◌, ◌<◌, Bool, true, false, List, [], ◌∷◌, length, refl, sym, ap, ◌∙◌, arith}
use Rattle.ot_text.specs.Change.{Change, base, inserted}
use Rattle.ot_text.proofs.Then.{base-retain_then, base-delete_then, inserted-insert_then, inserted-retain_then, inserted-delete_then}
use Rattle.ot_transform.specs.declared.step.Step.{Step}
use Rattle.ot_transform.specs.declared.step.Step.TheVariants.{First, Second, Keep, FirstDeletes, SecondDeletes, BothDelete}
use Rattle.ot_transform.specs.Rest.{places_then}
use Rattle.ot_transform.specs.Walk.{GoesOver, Leads}

-- places of the base, and characters that one of the two puts in
abbrev pub to_go : Change → Change → ℕ
to_go a b = base a + (inserted a + inserted b)

base-places_then : (keeps : Bool) (n : ℕ) (c : Change) → base (places_then keeps n c) ≡ n + base c
base-places_then true n c = base-retain_then n c
base-places_then false n c = base-delete_then n c

inserted-places_then : (keeps : Bool) (n : ℕ) (c : Change) → inserted (places_then keeps n c) ≡ inserted c
inserted-places_then true n c = inserted-retain_then n c
inserted-places_then false n c = inserted-delete_then n c

bases_over : (n : ℕ) (f g : Bool) (a b a' b' : Change) → GoesOver n f g a b a' b' → base a ≡ base b → base a' ≡ base b'
bases_over n f g a b a' b' h e =
    omega (arith, e, ap base h.first, ap base h.second, base-places_then f n a', base-places_then g n b')

to_go_over : (n : ℕ) (f g : Bool) (a b a' b' : Change) → GoesOver n f g a b a' b' → to_go a' b' < to_go a b
to_go_over n f g a b a' b' h =
    omega (
      arith,
      h.some,
      ap base h.first,
      ap inserted h.first,
      ap inserted h.second,
      base-places_then f n a',
      inserted-places_then f n a',
      inserted-places_then g n b',
    )

-- both go on over as many places
pub bases-step : (step : Step) (a b a' b' : Change) → Leads step a b a' b' → base a ≡ base b → base a' ≡ base b'
bases-step (First t) a b a' b' h e = sym (ap base h.first) ∙ e ∙ ap base h.second
bases-step (Second t) a b a' b' h e = sym (ap base h.first) ∙ e ∙ ap base h.second
bases-step (Keep n) a b a' b' h e = bases_over n true true a b a' b' h e
bases-step (FirstDeletes n) a b a' b' h e = bases_over n false true a b a' b' h e
bases-step (SecondDeletes n) a b a' b' h e = bases_over n true false a b a' b' h e
bases-step (BothDelete n) a b a' b' h e = bases_over n false false a b a' b' h e

some_text : (t : List ℕ) → (t ≡ [] → ⊥) → 0 < length t
some_text [] some = absurd (some refl)
some_text (c ∷ t) some = omega arith

-- each step leaves less to walk over
pub to_go-step : (step : Step) (a b a' b' : Change) → Leads step a b a' b' → to_go a' b' < to_go a b
to_go-step (First t) a b a' b' h =
    omega (
      arith,
      ap base h.first,
      ap inserted h.first,
      ap inserted h.second,
      inserted-insert_then t.now a',
      some_text t.now h.some,
    )
to_go-step (Second t) a b a' b' h =
    omega (
      arith,
      ap base h.first,
      ap inserted h.first,
      ap inserted h.second,
      inserted-insert_then t.now b',
      some_text t.now h.some,
    )
to_go-step (Keep n) a b a' b' h = to_go_over n true true a b a' b' h
to_go-step (FirstDeletes n) a b a' b' h = to_go_over n false true a b a' b' h
to_go-step (SecondDeletes n) a b a' b' h = to_go_over n true false a b a' b' h
to_go-step (BothDelete n) a b a' b' h = to_go_over n false false a b a' b' h
