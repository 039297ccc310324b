-- One act more at a stage.
use Rattle.std.proofs.Common.{◌≡◌, ℕ, ◌+◌, ◌^◌, ◌≤◌, max, Bool, true, false, ◌||◌, List, [], ◌∷◌, ◌++◌, length, refl, sym, ap, ◌∙◌, subst, arith}
use Rattle.std.proofs.lemmas.List.{length-map}
use Rattle.ot_text.specs.Change.{Change}
use Rattle.troop_entry.specs.declared.entry.Entry.{Entry}
use Rattle.client_state.specs.Standing.{Standing}
use Rattle.client_state.specs.Causes.{CanEdit, CanTake}
use Rattle.stage_state.specs.declared.act.Act.{Act}
use Rattle.stage_state.specs.declared.act.Act.TheVariants as act
use Rattle.stage_state.specs.Machine.{Machine, after_typing, after_entry_taken, after_act, CanAct}
use Rattle.stage_state.specs.Staged.{Staged, acts_of, first_machine, machine, with_act, last_acts}
use Rattle.stage_state.specs.StageInvariant.{KeptValue, Keeps, KeepsMarks, IsStage}
use Rattle.stage_state.proofs.Machine.{machine-with_act, machine-own, act_follows, acts_follow}
use Rattle.stage_state.proofs.IsPlayed.{stage_placed}
use Rattle.stage_state.proofs.Keeps.{held_is, client_is, closed_is, keeps_finished, keeps_halted}

-- an act that can be placed leaves a stage, where what is kept then is what the act makes of the machine
pub act_stage : (seat : ℕ) (a : Act) (s : Staged) (old new : KeptValue) (acts : List (ℕ × Act)) (after : Machine) (room left : ℕ)
    → IsStage s old room → CanAct (machine s) a → after_act a (machine s) ≡ after → Keeps new after → acts ≡ s.acts ++ (seat, a) ∷ []
    → last_acts new.finishing new.halted ≤ left → IsStage (record s { own = new.client.own; acts = acts }) new left
act_stage seat a s old new acts after room left is can does keeps one_more fit =
    let keeps' : Keeps new (after_act a (machine s)) = subst (λ (m : Machine). Keeps new m) (sym does) keeps in
    let own : new.client.own ≡ s.own = keeps'.own ∙ (act_follows a (machine s)).own ∙ machine-own s in
    let placed : IsStage (with_act seat a s) new left = record {
      played = stage_placed seat a s is.played can;
      keeps = subst (λ (m : Machine). Keeps new m) (sym (machine-with_act seat a s)) keeps';
      last_fit = fit;
      near = is.near;
    } in
    subst (λ (acts : List (ℕ × Act)). IsStage (record s { own = new.client.own; acts = acts }) new left) (sym one_more)
    (subst (λ (own : ℕ). IsStage (record (with_act seat a s) { own = own }) new left) (sym own) placed)

-- for which room was made, and which isn't one of the last
pub act_kept : (seat : ℕ) (a : Act) (s : Staged) (old new : KeptValue) (acts : List (ℕ × Act)) (after : Machine) (room made left last : ℕ)
    → IsStage s old room → CanAct (machine s) a → after_act a (machine s) ≡ after → Keeps new after → acts ≡ s.acts ++ (seat, a) ∷ []
    → KeepsMarks old new → last ≡ last_acts old.finishing old.halted → made ≡ max (last + 1) room → left + 1 ≡ made
    → IsStage (record s { own = new.client.own; acts = acts }) new left
act_kept seat a s old new acts after room made left last is can does keeps one_more marks count ready push =
    let same : last_acts new.finishing new.halted ≡ last_acts old.finishing old.halted =
    ap (λ f. last_acts f new.halted) marks.finishing ∙ ap (last_acts old.finishing) marks.halted in
    act_stage seat a s old new acts after room left is can does keeps one_more (omega (arith, same, count, ready, push))

-- what is kept, behind a local edit
pub type_stage : (seat : ℕ) (op : Change) (s : Staged) (old new : KeptValue) (acts : List (ℕ × Act)) (room made left last : ℕ)
    → IsStage s old room → (old.finishing || (old.halted || old.gone)) ≡ false → CanEdit old.client op → Keeps new (after_typing op (machine s))
    → acts ≡ s.acts ++ (seat, act.Typed op) ∷ [] → KeepsMarks old new → last ≡ last_acts old.finishing old.halted → made ≡ max (last + 1) room → left + 1 ≡ made
    → IsStage (record s { own = new.client.own; acts = acts }) new left
type_stage seat op s old new acts room made left last is «open» fits keeps one_more marks count ready push =
    act_kept seat (act.Typed op) s old new acts (after_typing op (machine s)) room made left last is
    (sym (closed_is old (machine s) is.keeps) ∙ «open», fits ∙ ap length (held_is old (machine s) is.keeps)) refl keeps one_more marks count ready push

-- what is kept, behind an entry
pub take_stage : (seat : ℕ) (e : Entry) (s : Staged) (old new : KeptValue) (acts : List (ℕ × Act)) (room made left last : ℕ)
    → IsStage s old room → old.gone ≡ false → CanTake old.client e → Keeps new (after_entry_taken e (machine s))
    → acts ≡ s.acts ++ (seat, act.Take e) ∷ [] → KeepsMarks old new → last ≡ last_acts old.finishing old.halted → made ≡ max (last + 1) room → left + 1 ≡ made
    → IsStage (record s { own = new.client.own; acts = acts }) new left
take_stage seat e s old new acts room made left last is stays fits keeps one_more marks count ready push =
    act_kept seat (act.Take e) s old new acts (after_entry_taken e (machine s)) room made left last is
    (sym is.keeps.gone_is ∙ stays, subst (λ (c : Standing). CanTake c e) (client_is old (machine s) is.keeps) fits) refl keeps one_more marks count ready push

-- what is kept, behind `finish`
pub finish_stage : (seat : ℕ) (s : Staged) (old new : KeptValue) (acts : List (ℕ × Act)) (room left : ℕ)
    → IsStage s old room → old.finishing ≡ false → new ≡ record old { finishing = true } → acts ≡ s.acts ++ (seat, act.Finish) ∷ [] → left + 1 ≡ room
    → IsStage (record s { own = new.client.own; acts = acts }) new left
finish_stage seat s old new acts room left is first e one_more push =
    let fit : last_acts false old.halted ≤ room = subst (λ (f : Bool). last_acts f old.halted ≤ room) first is.last_fit in
    subst (λ (k : KeptValue). IsStage (record s { own = k.client.own; acts = acts }) k left) (sym e)
    (act_stage seat act.Finish s old (record old { finishing = true }) acts (record (machine s) { finishing = true }) room left is
    (sym is.keeps.finishing_is ∙ first) refl (keeps_finished old (machine s) is.keeps) one_more (omega (arith, fit, push)))

-- what is kept, behind `halt`
pub halt_stage : (seat : ℕ) (s : Staged) (old new : KeptValue) (acts : List (ℕ × Act)) (room left : ℕ)
    → IsStage s old room → old.halted ≡ false → new ≡ record old { halted = true } → acts ≡ s.acts ++ (seat, act.Halt) ∷ [] → left + 1 ≡ room
    → IsStage (record s { own = new.client.own; acts = acts }) new left
halt_stage seat s old new acts room left is first e one_more push =
    let fit : last_acts old.finishing false ≤ room = subst (λ (h : Bool). last_acts old.finishing h ≤ room) first is.last_fit in
    subst (λ (k : KeptValue). IsStage (record s { own = k.client.own; acts = acts }) k left) (sym e)
    (act_stage seat act.Halt s old (record old { halted = true }) acts (record (machine s) { halted = true }) room left is
    (sym is.keeps.halted_is ∙ first) refl (keeps_halted old (machine s) is.keeps) one_more (omega (arith, fit, push)))

-- no more entries were taken than acts were placed
pub few_taken : (s : Staged) (k : KeptValue) (room : ℕ) → IsStage s k room → k.client.taken ≤ 2 ^ 62 + 1 + length s.acts
few_taken s k room is =
    let few = acts_follow (acts_of s.acts) (first_machine s) in
    omega (arith, is.keeps.taken_is, is.near, few.taken_few, length-map s.acts (λ (a : ℕ × Act). a.1))

-- nor went more calls out
pub few_sent : (s : Staged) (k : KeptValue) (room : ℕ) → IsStage s k room → k.sent ≤ length s.acts
few_sent s k room is =
    let few = acts_follow (acts_of s.acts) (first_machine s) in
    omega (arith, is.keeps.sent_is, few.sent_few, length-map s.acts (λ (a : ℕ × Act). a.1))
