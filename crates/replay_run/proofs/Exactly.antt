-- The statuses are exact.
use Rattle.std.proofs.Common.{◌≡◌, ◌≢◌, ℕ, List, [], ◌++◌, Some, None, refl, sym, ap, ◌∙◌, subst, arith}
use Rattle.std.specs.Prelude.{IfSome, Option}
use Rattle.wire_lines.specs.Lines.{lines}
use Rattle.world_core.specs.Sound.{IsSoundWorld}
use Rattle.replay_run.specs.declared.outcome.Outcome.{Outcome}
use Rattle.replay_run.specs.declared.outcome.Outcome.TheVariants as outcome
use Rattle.std.proofs.lemmas.List.{append-nil}
use Rattle.replay_run.specs.Shown.{shown_world}
use Rattle.replay_run.specs.Script.{shown, world, output, stop_of, before_stop, shown_end, all_written, outcome_of}
use Rattle.replay_run.specs.Runs.{Says, StopsBy, Replays, IsExact, IsHeadline, IsComplete}
use Rattle.replay_run.specs.Outcome.{code_of, error_line}
use Rattle.replay_run.specs.Laws.{ReplaysExactly, FaultsExactly}
use Rattle.replay_run.specs.Ports.{Port, IsCalm, IsFaulted, Took, Reported}
use Rattle.replay_run.proofs.InPlay.{before_all}
use Rattle.replay_run.proofs.FirstStop.{goes_whole}
use Rattle.troop_ports.specs.Bytes.{at_end}

-- an outcome that the bytes lead to, with all that it writes
abbrev IsEnd : ℕ → Outcome → List ℕ → Port → Type 0
IsEnd limit o bytes out = (o ≡ outcome_of (stop_of limit (lines bytes))) × Took out (all_written limit (lines bytes))

-- a script of these bytes was played whole
abbrev WholeRun : ℕ → Port → Port → List ℕ → Type 0
WholeRun limit input out bytes = (stop_of limit (lines bytes) ≡ None) × (input.after ≡ Some []) × Took out (output (lines bytes)) × IsSoundWorld (world (lines bytes))

done_written : (limit : ℕ) (script : List (List ℕ)) → stop_of limit script ≡ None → output script ≡ all_written limit script
done_written limit script none = ap (λ l. shown l ++ shown_world (world script)) (sym (before_all limit 1 script none)) ∙ ap (λ s. shown (before_stop limit script) ++ shown_end s script) (sym none)

stop_written : (limit : ℕ) (script : List (List ℕ)) (stop : Outcome) → stop_of limit script ≡ Some stop → shown (before_stop limit script) ≡ all_written limit script
stop_written limit script stop is = sym (append-nil (shown (before_stop limit script))) ∙ ap (λ s. shown (before_stop limit script) ++ shown_end s script) (sym is)

by_stop : (limit : ℕ) (stop : Outcome) (bytes : List ℕ) (input out : Port) → input.before ≡ Some bytes → StopsBy limit stop input out → IsEnd limit stop bytes out
by_stop limit stop bytes input out told (calm, quiet, says) =
    let s : (stop_of limit (lines bytes) ≡ Some stop) × Took out (shown (before_stop limit (lines bytes))) = subst (λ b. IfSome b (λ all. (stop_of limit (lines all) ≡ Some stop) × Took out (shown (before_stop limit (lines all))))) told says in
    (sym (ap outcome_of s.0), s.1 ∙ ap (at_end out.before) (stop_written limit (lines bytes) stop s.0))

by_outcome : (limit : ℕ) (o : Outcome) (bytes : List ℕ) (input out : Port) → input.before ≡ Some bytes → (IsFaulted input → ⊥) → (IsFaulted out → ⊥) → (o ≡ outcome.Memory → ⊥) → Says limit o input out → IsEnd limit o bytes out
by_outcome limit outcome.Done bytes input out told no_fault no_fault' found (calm, quiet, says) =
    let s : WholeRun limit input out bytes = subst (λ b. IfSome b (WholeRun limit input out)) told says in
    (sym (ap outcome_of s.0), s.2 ∙ ap (at_end out.before) (done_written limit (lines bytes) s.0))
by_outcome limit outcome.Memory bytes input out told no_fault no_fault' found says = absurd (found refl)
by_outcome limit outcome.ReadFault bytes input out told no_fault no_fault' found says = absurd (no_fault says.0)
by_outcome limit outcome.Usage bytes input out told no_fault no_fault' found says = absurd says
by_outcome limit outcome.WriteFault bytes input out told no_fault no_fault' found says = absurd (no_fault' says.1)
by_outcome limit outcome.NetFault bytes input out told no_fault no_fault' found says = absurd says
by_outcome limit (outcome.BadLine n) bytes input out told no_fault no_fault' found says = by_stop limit (outcome.BadLine n) bytes input out told says
by_outcome limit outcome.TooMuch bytes input out told no_fault no_fault' found says = by_stop limit outcome.TooMuch bytes input out told says

-- of a run that the table allows
pub run_is_exact : (limit code : ℕ) (input out err : Port) → Replays limit code input out err → IsExact limit code input out err
run_is_exact limit code input out err run bytes told no_fault no_fault' found =
    let e = by_outcome limit run.outcome bytes input out told no_fault no_fault' (λ is. found (run.code_is ∙ ap code_of is)) run.says in
    (run.code_is ∙ ap code_of e.0, subst (λ o. Reported err (error_line o)) e.0 run.reported, e.1)

-- the law of it
pub replays_are_exact : ReplaysExactly
replays_are_exact = run_is_exact

-- ---- The headline, and completeness.

without_first : (told : Option (List ℕ)) (A B C D : List ℕ → Type 0) → IfSome told (λ b. A b × B b × C b × D b) → IfSome told (λ b. B b × C b × D b)
without_first None A B C D says = tt
without_first (Some bytes) A B C D (first, b, c, d) = (b, c, d)

headline_by : (limit : ℕ) (o : Outcome) (code : ℕ) (input out : Port) → code ≡ code_of o → Says limit o input out → IsHeadline code input out
headline_by limit outcome.Done code input out is (calm, quiet, says) zero =
    without_first input.before (λ bytes. stop_of limit (lines bytes) ≡ None) (λ _. input.after ≡ Some []) (λ bytes. Took out (output (lines bytes))) (λ bytes. IsSoundWorld (world (lines bytes))) says
headline_by limit outcome.Usage code input out is says zero = absurd says
headline_by limit outcome.Memory code input out is says zero = absurd (omega (arith, is, zero))
headline_by limit outcome.ReadFault code input out is says zero = absurd (omega (arith, is, zero))
headline_by limit outcome.WriteFault code input out is says zero = absurd (omega (arith, is, zero))
headline_by limit outcome.NetFault code input out is says zero = absurd says
headline_by limit (outcome.BadLine n) code input out is says zero = absurd (omega (arith, is, zero))
headline_by limit outcome.TooMuch code input out is says zero = absurd (omega (arith, is, zero))

-- of a run that the table allows, the headline
pub run_is_headline : (limit code : ℕ) (input out err : Port) → Replays limit code input out err → IsHeadline code input out
run_is_headline limit code input out err run = headline_by limit run.outcome code input out run.code_is run.says

-- of a run that the table allows: it is complete
pub run_is_complete : (limit code : ℕ) (input out err : Port) → Replays limit code input out err → IsComplete limit code input out
run_is_complete limit code input out err run bytes told playable fits no_fault no_fault' found =
    let none = goes_whole limit 1 (lines bytes) playable fits in
    let e = run_is_exact limit code input out err run bytes told no_fault no_fault' found in
    (e.0 ∙ ap (λ s. code_of (outcome_of s)) none, e.2 ∙ ap (at_end out.before) (sym (done_written limit (lines bytes) none)))

-- ---- Faults.

abbrev FaultsAre : ℕ → Port → Port → Type 0
FaultsAre code input out = (code ≡ 4 → IsFaulted input × IsCalm out) × (code ≡ 5 → IsCalm input × IsFaulted out) × (code ≢ 4 → code ≢ 5 → IsCalm input × IsCalm out)

calm_faults : (code n : ℕ) (input out : Port) → code ≡ n → (n ≡ 4 → ⊥) → (n ≡ 5 → ⊥) → IsCalm input → IsCalm out → FaultsAre code input out
calm_faults code n input out is not_4 not_5 calm quiet = (λ e. absurd (not_4 (sym is ∙ e)), λ e. absurd (not_5 (sym is ∙ e)), λ a b. (calm, quiet))

faults_by : (limit : ℕ) (o : Outcome) (code : ℕ) (input out : Port) → code ≡ code_of o → Says limit o input out → FaultsAre code input out
faults_by limit outcome.Done code input out is says = calm_faults code 0 input out is (λ e. omega (arith, e)) (λ e. omega (arith, e)) says.0 says.1
faults_by limit outcome.Usage code input out is says = absurd says
faults_by limit outcome.Memory code input out is says = calm_faults code 3 input out is (λ e. omega (arith, e)) (λ e. omega (arith, e)) says.0 says.1
faults_by limit outcome.ReadFault code input out is says = (λ e. (says.0, says.1), λ e. absurd (omega (arith, is, e)), λ a b. absurd (a is))
faults_by limit outcome.WriteFault code input out is says = (λ e. absurd (omega (arith, is, e)), λ e. (says.0, says.1), λ a b. absurd (b is))
faults_by limit outcome.NetFault code input out is says = absurd says
faults_by limit (outcome.BadLine n) code input out is says = calm_faults code 7 input out is (λ e. omega (arith, e)) (λ e. omega (arith, e)) says.0 says.1
faults_by limit outcome.TooMuch code input out is says = calm_faults code 10 input out is (λ e. omega (arith, e)) (λ e. omega (arith, e)) says.0 says.1

-- each count rose at its own status
pub faults_are_exact : FaultsExactly
faults_are_exact limit code input out err run = faults_by limit run.outcome code input out run.code_is run.says
