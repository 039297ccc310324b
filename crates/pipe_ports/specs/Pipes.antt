-- What children and hatches tell, and what the calls of both do to it.
use Rattle.std.specs.Prelude.{◌≡◌, ℕ, ◌+◌, ◌-◌, ◌^◌, ◌<◌, ◌≤◌, List, [], ◌∷◌, ◌++◌, min, Option, Some, None, IfSome, option_map}
use Rattle.troop_ports.specs.Faults.{Counted}
use Rattle.troop_ports.specs.declared.sink.Put.{Put}
use Rattle.troop_ports.specs.declared.sink.Put.TheVariants as put
use Rattle.pipe_ports.specs.declared.child.Closing.{Closing}
use Rattle.pipe_ports.specs.declared.child.Closing.TheVariants as closing
use Rattle.pipe_ports.specs.declared.hatch.Started.{Started}
use Rattle.pipe_ports.specs.declared.hatch.Started.TheVariants as started

-- how many of so many bytes a child takes that has this limit, if it is limited
abbrev pub bytes_within : Option ℕ → ℕ → ℕ
bytes_within None count = count
bytes_within (Some most) count = min count most

-- what is left of the limit behind so many bytes
abbrev pub limit_behind : Option ℕ → ℕ → Option ℕ
limit_behind limit count = option_map (λ most. most - count) limit

-- a child that tells its limit fails exactly at the limit 0; else it takes all that the limit lets through, and the limit
-- falls by as much
abbrev pub FollowsLimit : Put → ℕ → Option (Option ℕ) → Option (Option ℕ) → Type 0
FollowsLimit (put.Took n) count old new = IfSome old (λ limit. n ≡ bytes_within limit count) × (new ≡ option_map (λ limit. limit_behind limit n) old)
FollowsLimit put.Failed count old new = IfSome old (λ limit. limit ≡ Some 0) × (new ≡ old)

-- how many bytes a write took
abbrev pub put_count : Put → ℕ
put_count (put.Took n) = n
put_count put.Failed = 0

-- a close that failed counted a fault, and any other leaves the count as it was
abbrev pub CountsClose : Closing → ℕ → ℕ → Type 0
CountsClose closing.Closed before now = now ≡ before
CountsClose closing.Failed before now = Counted before now

-- the sum of two counts of faults; a count stands still at its last value
abbrev pub sum_count : ℕ → ℕ → ℕ
sum_count a b = min (a + b) (2 ^ 64 - 1)

-- what a hatch tells of the starts to come: how many are still to be refused, and how many bytes the next
-- child takes, if that is limited
pub record Starts : Type 0 where
  pub refusals : ℕ
  pub limit : Option ℕ

-- a hatch of this readiness is ready to start a child for so many bytes
abbrev pub IsReadyToStart : Option ℕ → ℕ → Type 0
IsReadyToStart None bytes = ⊥
IsReadyToStart (Some most) bytes = bytes ≤ most

-- the fact holds of the child, where one was given
abbrev pub IfStarted : {C : Type 0} → Started C → (C → Type 0) → Type 0
IfStarted (started.Child child) fact = fact child
IfStarted started.Failed fact = Unit {0}

-- where a child was given there is a place for its burial, else there are as many places as before
abbrev pub KeepsGraves : {C : Type 0} → Started C → ℕ → ℕ → Type 0
KeepsGraves (started.Child child) before now = 1 ≤ now
KeepsGraves started.Failed before now = now ≡ before

-- a start that failed counted a fault, and any other leaves the count as it was
abbrev pub CountsStart : {C : Type 0} → Started C → ℕ → ℕ → Type 0
CountsStart (started.Child child) before now = now ≡ before
CountsStart started.Failed before now = Counted before now

-- a hatch that tells its starts refuses a start exactly while some are to be refused, and then there is one fewer of these; a
-- child that is given tells the limit that was told of the next child; either way the hatch forgets that limit
abbrev pub FollowsStarts : {C : Type 0} → (C → Option (Option ℕ)) → Started C → Option Starts → Option Starts → Type 0
FollowsStarts limit (started.Child child) old new =
    IfSome old (λ s. (s.refusals ≡ 0) × (limit child ≡ Some s.limit))
    × (new ≡ option_map (λ s. record { refusals = s.refusals; limit = None }) old)
FollowsStarts limit started.Failed old new =
    IfSome old (λ s. 0 < s.refusals)
    × (new ≡ option_map (λ s. record { refusals = s.refusals - 1; limit = None }) old)

-- the bytes of the buried children behind one more burial, where those and the child's are told
abbrev pub with_burial : Option (List (List ℕ)) → Option (List ℕ) → Option (List (List ℕ))
with_burial None bytes = None
with_burial (Some past) None = None
with_burial (Some past) (Some bytes) = Some (past ++ bytes ∷ [])
