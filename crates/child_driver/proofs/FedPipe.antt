-- The pipe behind one call of a hatch or a child, and the children behind it.
use Rattle.std.proofs.Common.{◌≡◌, ℕ, ◌-◌, ◌<◌, List, [], ◌∷◌, ◌++◌, true, false, refl, sym, ◌∙◌, ap, subst, arith}
use Rattle.std.specs.Prelude.{Option, None, Some, IfSome, option_map, nat_lt, if◌then◌else◌}
use Rattle.std.proofs.lemmas.Grind.{common_steps}
use Rattle.troop_ports.specs.Bytes.{at_end}
use Rattle.troop_ports.specs.declared.sink.Written.TheVariants as written
use Rattle.pipe_ports.specs.Pipes.{Starts, limit_behind, with_burial}
use Rattle.child_driver.specs.Lives.{Whole, Cut, Boot, Refused}
use Rattle.child_driver.specs.Feeding.{wrap_fate, boot_fate, fed_fate, fed_pipe}
use Rattle.child_driver.specs.Drivers.{with_last_longer, pipe_of}
use Rattle.child_driver.specs.Openings.{Covers, LimitsAll}
use Rattle.child_driver.proofs.LivesOf.{extend_end}

-- ## Children

-- a child of its own for these bytes
pub new_child : (before now : Option (List (List ℕ))) (fresh taken : Option (List ℕ)) (bytes : List ℕ) → now ≡ before
    → IfSome fresh (λ b. b ≡ []) → taken ≡ at_end fresh bytes → IfSome (with_burial now taken) (λ ls. Some ls ≡ option_map (λ all. all ++ bytes ∷ []) before)
new_child before None fresh taken bytes is empty took = tt
new_child before (Some past) None taken bytes is empty took = rw took tt
new_child before (Some past) (Some b) taken bytes is empty took = rw (took, ← is, empty) refl

-- more bytes for the standing child
pub longer_child : (before now : Option (List (List ℕ))) (held taken : Option (List ℕ)) (bytes : List ℕ) → now ≡ before
    → taken ≡ at_end held bytes → IfSome (with_burial now taken) (λ ls. Some ls ≡ option_map (λ all. with_last_longer all bytes) (with_burial before held))
longer_child before None held taken bytes is took = tt
longer_child before (Some past) None taken bytes is took = rw took tt
longer_child before (Some past) (Some b) taken bytes is took = rw (took, ← is) (ap Some (sym (extend_end past b bytes)))

-- ## Limits

-- the starts to come, with no limit for the next child
abbrev pub without_limit : Starts → Starts
without_limit s = record { refusals = s.refusals; limit = None }

covered_fate : (limit : Option ℕ) (size : ℕ) → Covers limit size → Whole ≡ wrap_fate limit size
covered_fate None size covers = refl
covered_fate (Some most) size covers =
    let no : nat_lt most size ≡ false = grind (arith, common_steps) in
    ap (λ b. if b then Cut most else Whole) (sym no)

cut_fate : (most size : ℕ) → most < size → Cut most ≡ wrap_fate (Some most) size
cut_fate most size short =
    let yes : nat_lt most size ≡ true = grind (arith, common_steps) in
    ap (λ b. if b then Cut most else Whole) (sym yes)

-- the standing life's pipe behind a whole block
pub whole_pipe : (before now : Option Starts) (held left : Option (Option ℕ)) (boot size : ℕ) → now ≡ before → LimitsAll written.All size held left
    → IfSome (pipe_of (option_map Some held) before) (λ p. (Whole ≡ fed_fate p boot size) × (pipe_of (option_map Some left) now ≡ Some (fed_pipe p boot size)))
whole_pipe before now None left boot size is limits = tt
whole_pipe None now (Some limit) left boot size is limits = tt
whole_pipe (Some starts) now (Some limit) left boot size is limits =
    let fate_is : Whole ≡ wrap_fate limit size = covered_fate limit size limits.0 in
    (fate_is, rw (is, limits.1, ← fate_is) refl)

-- and behind a cut one, which leaves no life
pub cut_pipe : (before now : Option Starts) (held left : Option (Option ℕ)) (boot size n : ℕ) → now ≡ before → n < size → LimitsAll (written.Part n) size held left
    → IfSome (pipe_of (option_map Some held) before) (λ p. (Cut n ≡ fed_fate p boot size) × (pipe_of (Some None) now ≡ Some (fed_pipe p boot size)))
cut_pipe before now None left boot size n is short limits = tt
cut_pipe None now (Some limit) left boot size n is short limits = tt
cut_pipe (Some starts) now (Some limit) left boot size n is short limits =
    let fate_is : Cut n ≡ wrap_fate limit size = cut_fate n size short ∙ ap (λ l. wrap_fate l size) (sym limits.0) in
    (fate_is, rw (is, ← fate_is) refl)

-- where no start is to be refused, none is
pub not_refused : (refusals : ℕ) → refusals ≡ 0 → nat_lt 0 refusals ≡ false
not_refused refusals none = rw none refl

-- an opening under a limit that covers the boot text
pub opened_pipe : (before now : Option Starts) (fresh left : Option (Option ℕ)) (boot : ℕ)
    → IfSome before (λ s. (s.refusals ≡ 0) × (fresh ≡ Some s.limit)) → now ≡ option_map without_limit before → LimitsAll written.All boot fresh left
    → IfSome (pipe_of (Some None) before) (λ p. (p.life ≡ None) × (p.starts.refusals ≡ 0) × Covers p.starts.limit boot
    × (pipe_of (option_map Some left) now ≡ Some (record { life = Some (limit_behind p.starts.limit boot); starts = without_limit p.starts })))
opened_pipe None now fresh left boot starts is limits = tt
opened_pipe (Some s) now None left boot starts is limits = absurd (let e : None ≡ Some s.limit = starts.1 in cc)
opened_pipe (Some s) now (Some limit) left boot starts is limits =
    let same : limit ≡ s.limit = let e : Some limit ≡ Some s.limit = starts.1 in cc in
    (refl, starts.0, subst (λ l. Covers l boot) same limits.0, rw (is, limits.1, same) refl)

-- one that the limit cuts
pub boot_cut_pipe : (before now : Option Starts) (fresh left : Option (Option ℕ)) (boot size n : ℕ)
    → IfSome before (λ s. (s.refusals ≡ 0) × (fresh ≡ Some s.limit)) → now ≡ option_map without_limit before → n < boot → LimitsAll (written.Part n) boot fresh left
    → IfSome (pipe_of (Some None) before) (λ p. (Boot n ≡ fed_fate p boot size) × (pipe_of (Some None) now ≡ Some (fed_pipe p boot size)))
boot_cut_pipe None now fresh left boot size n starts is short limits = tt
boot_cut_pipe (Some s) now None left boot size n starts is short limits = absurd (let e : None ≡ Some s.limit = starts.1 in cc)
boot_cut_pipe (Some s) now (Some limit) left boot size n starts is short limits =
    let same : s.limit ≡ Some n = let e : Some limit ≡ Some s.limit = starts.1 in let f : limit ≡ Some n = limits.0 in cc in
    let yes : nat_lt n boot ≡ true = grind (arith, common_steps) in
    let fate_is : Boot n ≡ fed_fate (record { life = None; starts = s }) boot size =
    sym (ap (λ b. if b then Refused else boot_fate s.limit boot size) (not_refused s.refusals starts.0)
    ∙ ap (λ l. boot_fate l boot size) same
    ∙ ap (λ b. if b then Boot n else wrap_fate (Some (n - boot)) size) yes) in
    (fate_is, rw (is, ← fate_is) refl)

-- and one that is refused
pub refused_pipe : (before now : Option Starts) (boot size : ℕ) → IfSome before (λ s. 0 < s.refusals)
    → now ≡ option_map (λ s. record { refusals = s.refusals - 1; limit = None }) before
    → IfSome (pipe_of (Some None) before) (λ p. (Refused ≡ fed_fate p boot size) × (pipe_of (Some None) now ≡ Some (fed_pipe p boot size)))
refused_pipe None now boot size some is = tt
refused_pipe (Some s) now boot size some is =
    let yes : nat_lt 0 s.refusals ≡ true = grind (arith, common_steps) in
    let fate_is : Refused ≡ fed_fate (record { life = None; starts = s }) boot size = sym (ap (λ b. if b then Refused else boot_fate s.limit boot size) yes) in
    (fate_is, rw (is, ← fate_is) refl)
