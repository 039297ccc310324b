-- An operation, moved through a chain of others.
use Rattle.std.specs.Prelude.{◌≡◌, ◌+◌, ◌≤◌, ℕ, List, [], ◌∷◌}
use Rattle.ot_text.specs.declared.op.TheConstants.{MAX_LEN}
use Rattle.ot_text.specs.Change.{Change, base, target}
use Rattle.ot_transform.specs.Transform.{left}

-- the operation, moved through these one after another
abbrev pub through : Change → List Change → Change
through a [] = a
through a (b ∷ bs) = through (left a b) bs

-- a chain on a text of length n: the first base is n, and each other one is the target before it
abbrev pub IsChain : ℕ → List Change → Type 0
IsChain n [] = Unit {0}
IsChain n (b ∷ bs) = (base b ≡ n) × IsChain (target b) bs

-- the length of the text that a chain on a text of length n leads to: the last target, and n where the chain is empty
abbrev pub chain_end : ℕ → List Change → ℕ
chain_end n [] = n
chain_end n (b ∷ bs) = chain_end (target b) bs

-- each target has room for so many more characters
abbrev pub ChainFits : ℕ → List Change → Type 0
ChainFits more [] = Unit {0}
ChainFits more (b ∷ bs) = (target b + more ≤ MAX_LEN) × ChainFits more bs
