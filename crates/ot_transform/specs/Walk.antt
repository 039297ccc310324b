-- What one step of a walk over two operations on one base leaves of both.
use Rattle.std.specs.Prelude.{◌≡◌, ◌≢◌, ◌≤◌, ℕ, Bool, true, false, List, []}
use Rattle.ot_text.specs.Change.{Change, base, nothing, insert_then}
use Rattle.ot_text.specs.Parts.{norm}
use Rattle.ot_transform.specs.declared.step.Step.{Step}
use Rattle.ot_transform.specs.declared.step.Step.TheVariants.{First, Second, Keep, FirstDeletes, SecondDeletes, BothDelete}
use Rattle.ot_transform.specs.declared.walk.Walk.{Walk}
use Rattle.ot_transform.specs.Rest.{places_then}

-- the first operation puts this text in next
pub record PutsFirst (t : List ℕ) (a b a' b' : Change) : Type 0 where
  pub some : t ≢ []
  pub first : a ≡ insert_then t a'
  pub second : b ≡ b'

-- the first operation puts nothing in next, and the second puts this text in
pub record PutsSecond (t : List ℕ) (a b a' b' : Change) : Type 0 where
  pub some : t ≢ []
  pub none_first : a.start ≡ []
  pub first : a ≡ a'
  pub second : b ≡ insert_then t b'

-- neither puts a text in next, and each keeps or removes these n places
pub record GoesOver (n : ℕ) (first_keeps second_keeps : Bool) (a b a' b' : Change) : Type 0 where
  pub some : 1 ≤ n
  pub none_first : a.start ≡ []
  pub none_second : b.start ≡ []
  pub first : a ≡ places_then first_keeps n a'
  pub second : b ≡ places_then second_keeps n b'

-- the step leads from what was left of both to what is left now
abbrev pub Leads : Step → Change → Change → Change → Change → Type 0
Leads (First t) a b a' b' = PutsFirst t.now a b a' b'
Leads (Second t) a b a' b' = PutsSecond t.now a b a' b'
Leads (Keep n) a b a' b' = GoesOver n true true a b a' b'
Leads (FirstDeletes n) a b a' b' = GoesOver n false true a b a' b'
Leads (SecondDeletes n) a b a' b' = GoesOver n true false a b a' b'
Leads (BothDelete n) a b a' b' = GoesOver n false false a b a' b'

-- nothing is left of either
pub record IsOver (a b : Change) : Type 0 where
  pub first : a ≡ nothing
  pub second : b ≡ nothing

-- both go over as many places
abbrev pub HasOneBase : Walk → Type 0
HasOneBase walk = base (norm walk.first) ≡ base (norm walk.second)

-- the step leads from the one walk to the other
abbrev pub IsStep : Step → Walk → Walk → Type 0
IsStep step old new =
    Leads step (norm old.first) (norm old.second) (norm new.first) (norm new.second)

-- nothing is left to walk over
abbrev pub IsWalkedOut : Walk → Type 0
IsWalkedOut walk = IsOver (norm walk.first) (norm walk.second)
