-- What a run of `serve` says, by its outcome.
use Rattle.std.proofs.Common.{◌≡◌, ◌≢◌, ℕ, List, length, take, drop, Option, true, ap, sym, subst, ◌∙◌, inl, inr, arith}
use Rattle.std.proofs.lemmas.List.{take-append-drop}
use Rattle.troop_entry.specs.declared.row.Row.{Row}
use Rattle.log_model.specs.Legal.{IsLegal}
use Rattle.troop_ports.specs.Faults.{Counted, AddsCount}
use Rattle.troop_ports.specs.Bytes.{at_end}
use Rattle.troop_ports.specs.Doors.{first_of, and_last}
use Rattle.troop_ports.specs.Nets.{Site, is_at}
use Rattle.server_crew.specs.Accepting.{HasEnough, IsWithinAsked}
use Rattle.server_crew.specs.Crews.{IsRun, HasWanted}
use Rattle.replay_run.specs.declared.outcome.Outcome.{Outcome}
use Rattle.replay_run.specs.declared.outcome.Outcome.TheVariants as outcome
use Rattle.replay_run.specs.Outcome.{code_of}
use Rattle.replay_run.specs.Ports.{Port, IsCalm, TookPrefix}
use Rattle.troop_main.specs.Serving.{NetPort, net_port_of, Telling, IsShut, IsUntouched, HasClosed, SaysServed, Serves, EndsServe}

-- a part of a line was written, by another name of the line
pub took_part : (n : ℕ) (line whole : List ℕ) (p : Port) → line ≡ whole → p.after ≡ at_end p.before (take n line) → TookPrefix p whole
took_part n line whole p is wrote = (take n line, drop n line, sym is ∙ sym (take-append-drop n line), wrote)

-- a fault of a door is one of the net that takes it back
pub counted_of_door : (given count before now : ℕ) → Counted given count → AddsCount count before now → Counted before now
counted_of_door given count before now fault adds =
    let rose = fault.rose in
    let least = adds.least in
    record { later = adds.later; rose = grind arith }

-- behind a closed log, printing its line decides
pub closed : {L D : Type 0} (tells : Telling L D) (sessions : Option ℕ) (o : Outcome) (log : List Row) (net : NetPort D) (out : Port) → EndsServe o log out → HasClosed tells sessions log net → SaysServed tells sessions o net out
closed tells sessions outcome.Done log net out ends served = (ends.0, log, served, ends.1)
closed tells sessions outcome.Usage log net out ends served = absurd ends
closed tells sessions outcome.Memory log net out ends served = (ends.0, inr (log, served), ends.1)
closed tells sessions outcome.ReadFault log net out ends served = absurd ends
closed tells sessions outcome.WriteFault log net out ends served = (ends.0, log, served, ends.1)
closed tells sessions outcome.NetFault log net out ends served = absurd ends
closed tells sessions (outcome.BadLine n) log net out ends served = absurd ends
closed tells sessions outcome.TooMuch log net out ends served = absurd ends

not_usage_by : {L D : Type 0} (tells : Telling L D) (sessions : Option ℕ) (o : Outcome) (code : ℕ) (net : NetPort D) (out : Port) → SaysServed tells sessions o net out → code ≡ code_of o → code ≢ 2
not_usage_by tells sessions outcome.Done code net out says is two = absurd (omega (arith, is, two))
not_usage_by tells sessions outcome.Usage code net out says is two = absurd says
not_usage_by tells sessions outcome.Memory code net out says is two = absurd (omega (arith, is, two))
not_usage_by tells sessions outcome.ReadFault code net out says is two = absurd says
not_usage_by tells sessions outcome.WriteFault code net out says is two = absurd (omega (arith, is, two))
not_usage_by tells sessions outcome.NetFault code net out says is two = absurd (omega (arith, is, two))
not_usage_by tells sessions (outcome.BadLine n) code net out says is two = absurd says
not_usage_by tells sessions outcome.TooMuch code net out says is two = absurd says

-- a server's status is not that of usage
pub not_usage : {L D : Type 0} (tells : Telling L D) (sessions : Option ℕ) (code : ℕ) (net : NetPort D) (out err : Port) → Serves tells sessions code net out err → code ≢ 2
not_usage tells sessions code net out err run = not_usage_by tells sessions run.outcome code net out run.says run.code_is

-- a door that was given and came back, from what the net's calls say
pub shut_by : {L D : Type 0} (tells : Telling L D) (given shut : D) (asked : List ℕ) (site : Option Site) (doors0 doors1 doors2 shut0 shut1 shut2 : Option (List D)) (f0 f1 f2 : ℕ) → is_at site asked ≡ true → doors0 ≡ first_of given doors1 → f1 ≡ f0 → shut1 ≡ shut0
    → doors2 ≡ doors1 → shut2 ≡ and_last shut1 shut → AddsCount (tells.door_faults shut) f1 f2 → IsShut tells given shut (net_port_of asked site doors0 doors2 shut0 shut2 f0 f2)
shut_by tells given shut asked site doors0 doors1 doors2 shut0 shut1 shut2 f0 f1 f2 there gave same_count same_shut same_doors back adds = record {
  at_site = there;
  was_given = gave ∙ ap (first_of given) (sym same_doors);
  came_back = back ∙ ap (λ l. and_last l shut) same_shut;
  count = subst (λ f. AddsCount (tells.door_faults shut) f f2) same_count adds;
}

-- a server that ended with its door's fault
pub broken : {L D : Type 0} (tells : Telling L D) (sessions : Option ℕ) (given shut : D) (net : NetPort D) (out : Port) → IsShut tells given shut net → IsCalm out → IsUntouched out → Counted (tells.door_faults given) (tells.door_faults shut)
    → (taken : List L) × (log : List Row) × IsLegal log × IsRun tells.remaining tells.written tells.link_faults tells.closed taken log (tells.links given) (tells.links shut) (tells.retired given) (tells.retired shut) × IsWithinAsked sessions (length taken)
    → SaysServed tells sessions outcome.NetFault net out
broken tells sessions given shut net out back calm idle fault (taken, log, legal, run, within) = (
  calm,
  idle,
  counted_of_door (tells.door_faults given) (tells.door_faults shut) net.faults_before net.faults_after fault back.count,
  inr (record { given = given; shut = shut; taken = taken; log = log; is_shut = back; served = record { legal = legal; run = run }; within = within; fault = fault }),
)

-- a server for which memory was wanting
pub short_of : {L D : Type 0} (tells : Telling L D) (sessions : Option ℕ) (given shut : D) (net : NetPort D) (out : Port) → IsShut tells given shut net → IsCalm out → IsUntouched out
    → HasWanted tells.remaining tells.written tells.link_faults tells.closed sessions (tells.links given) (tells.links shut) (tells.retired given) (tells.retired shut) (tells.places given) (tells.places shut) (tells.door_faults given) (tells.door_faults shut) → SaysServed tells sessions outcome.Memory net out
short_of tells sessions given shut net out back calm idle wanted = (calm, inl (record { given = given; shut = shut; is_shut = back; wanted = wanted }), idle)

-- a server that ended as it was asked to
pub ended : {L D : Type 0} (tells : Telling L D) (sessions : Option ℕ) (given shut : D) (log : List Row) (net : NetPort D) → IsShut tells given shut net → tells.door_faults shut ≡ tells.door_faults given → IsLegal log
    → (taken : List L) × IsRun tells.remaining tells.written tells.link_faults tells.closed taken log (tells.links given) (tells.links shut) (tells.retired given) (tells.retired shut) × HasEnough sessions (length taken) (tells.links shut)
    → HasClosed tells sessions log net
ended tells sessions given shut log net back calm legal (taken, run, enough) = record { given = given; shut = shut; taken = taken; is_shut = back; served = record { legal = legal; run = run }; enough = enough; calm = calm }
