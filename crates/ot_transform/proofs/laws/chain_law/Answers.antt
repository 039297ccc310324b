use Rattle.ot_transform.proofs.Through.{through-append, inserted-through, base-through, IsChain-append, chain_end-append}
use Rattle.ot_transform.proofs.laws.chain_law.Goals as goal

pub returns : goal.returns
returns c = record {
  append = through-append;
  inserted = inserted-through;
  base = base-through;
  two_chains = IsChain-append;
  two_ends = chain_end-append;
}
