-- An operation on its way through a chain of others.
use Rattle.std.proofs.Common.{◌≡◌, ℕ, ◌+◌, ◌<◌, ◌≤◌, ◌↔◌, List, [], ◌∷◌, ◌++◌, length, get_or, drop, refl, sym, ap, ◌∙◌}
use Rattle.std.proofs.lemmas.List.{drop_more}
use Rattle.ot_text.specs.declared.op.TheConstants.{MAX_LEN}
use Rattle.ot_text.specs.Change.{Change, base, target, inserted}
use Rattle.ot_transform.specs.Chain.{through, IsChain, chain_end, ChainFits}
use Rattle.ot_transform.specs.Transform.{left}
use Rattle.ot_transform.proofs.LeftLengths.{inserted-left}
use Rattle.ot_transform.proofs.Merge.{base-left}

-- moved through the first i of the chain, the operation has to go through the others
pub record IsThroughSoFar (bs : List Change) (i : ℕ) (op a : Change) : Type 0 where
  pub whole : through op (drop i bs) ≡ through a bs
  pub run : IsChain (base op) (drop i bs)
  pub room : ChainFits (inserted op) (drop i bs)

split : (bs : List Change) (i : ℕ) (b : Change) → i < length bs → b ≡ get_or bs i b → drop i bs ≡ b ∷ drop (i + 1) bs
split bs i b within is = drop_more bs i b within ∙ ap (λ x. x ∷ drop (i + 1) bs) (sym is)

-- the next operation of a chain fits what was moved so far, and its target has room
pub next_fits : (bs : List Change) (i : ℕ) (b op a : Change) → i < length bs → b ≡ get_or bs i b
    → IsThroughSoFar bs i op a → (base op ≡ base b) × (target b + inserted op ≤ MAX_LEN)
next_fits bs i b op a within is s =
    let run : IsChain (base op) (b ∷ drop (i + 1) bs) = rw (split bs i b within is) at s.run in
    let room : ChainFits (inserted op) (b ∷ drop (i + 1) bs) = rw (split bs i b within is) at s.room in
    (sym run.0, room.0)

-- one operation of the chain further
pub moved_on : (bs : List Change) (i : ℕ) (b op a : Change) → i < length bs → b ≡ get_or bs i b
    → IsThroughSoFar bs i op a → IsThroughSoFar bs (i + 1) (left op b) a
moved_on bs i b op a within is s =
    let e : drop i bs ≡ b ∷ drop (i + 1) bs = split bs i b within is in
    let run : IsChain (base op) (b ∷ drop (i + 1) bs) = rw e at s.run in
    let room : ChainFits (inserted op) (b ∷ drop (i + 1) bs) = rw e at s.room in
    let same : base op ≡ base b = sym run.0 in
    record {
      whole = ap (through op) (sym e) ∙ s.whole;
      run = rw (base-left op b same) run.1;
      room = rw (inserted-left op b same) room.1;
    }

-- a chain and another behind it
pub through-append : (a : Change) (bs cs : List Change) → through a (bs ++ cs) ≡ through (through a bs) cs
through-append a [] cs = refl
through-append a (b ∷ bs) cs = through-append (left a b) bs cs

-- an operation moved through a chain puts in as much as before
pub inserted-through : (a : Change) (bs : List Change) → IsChain (base a) bs → inserted (through a bs) ≡ inserted a
inserted-through a [] run = refl
inserted-through a (b ∷ bs) run =
    let same : base a ≡ base b = sym run.0 in
    inserted-through (left a b) bs (rw (base-left a b same) run.1) ∙ inserted-left a b same

-- an operation moved through a chain has the length that the chain leads to as its base
pub base-through : (a : Change) (bs : List Change) → IsChain (base a) bs → base (through a bs) ≡ chain_end (base a) bs
base-through a [] run = refl
base-through a (b ∷ bs) run =
    let moved : base (left a b) ≡ target b = base-left a b (sym run.0) in
    base-through (left a b) bs (rw moved run.1) ∙ ap (λ n. chain_end n bs) moved

-- a chain in two parts
pub IsChain-append : (n : ℕ) (bs cs : List Change) → IsChain n (bs ++ cs) ↔ (IsChain n bs × IsChain (chain_end n bs) cs)
IsChain-append n [] cs = (λ run. (tt, run), λ runs. runs.1)
IsChain-append n (b ∷ bs) cs =
    let rest = IsChain-append (target b) bs cs in
    (λ run. let runs = rest.0 run.1 in ((run.0, runs.0), runs.1), λ runs. (runs.0.0, rest.1 (runs.0.1, runs.1)))

-- where two chains in a row lead
pub chain_end-append : (n : ℕ) (bs cs : List Change) → chain_end n (bs ++ cs) ≡ chain_end (chain_end n bs) cs
chain_end-append n [] cs = refl
chain_end-append n (b ∷ bs) cs = chain_end-append (target b) bs cs
