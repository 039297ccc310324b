-- What every answer meets of an object that tells nothing.
use Rattle.std.proofs.Common.{None, Result, Ok, Err, OnOk, OnErr, refl, arith}
use Rattle.pipe_ports.specs.Pipes.{IfStarted, KeepsGraves, FollowsStarts}
use Rattle.pipe_ports.specs.declared.hatch.Started.{Started}
use Rattle.pipe_ports.specs.declared.hatch.Started.TheVariants as started

-- a fact that holds anyway holds where the answer is `Ok`
pub ok_anyway : {A E : Type 0} {fact : Type 0} (answer : Result A E) → fact → OnOk answer fact
ok_anyway (Ok a) holds = holds
ok_anyway (Err e) holds = tt

-- a fact that holds anyway holds where the answer is an error
pub err_anyway : {A E : Type 0} {fact : Type 0} (answer : Result A E) → fact → OnErr answer fact
err_anyway (Ok a) holds = tt
err_anyway (Err e) holds = holds

-- a fact of every child holds of the one that was given
pub started_anyway : {C : Type 0} {fact : C → Type 0} (answer : Started C) → ((child : C) → fact child) → IfStarted answer fact
started_anyway (started.Child child) holds = holds child
started_anyway started.Failed holds = tt

-- a hatch that always has one grave has one for each child
pub one_grave : {C : Type 0} (answer : Started C) → KeepsGraves answer 1 1
one_grave (started.Child child) = omega arith
one_grave started.Failed = refl

-- a hatch that tells no starts follows none
pub no_starts : {C : Type 0} (answer : Started C) → FollowsStarts (λ _. None) answer None None
no_starts (started.Child child) = (tt, refl)
no_starts started.Failed = (tt, refl)
