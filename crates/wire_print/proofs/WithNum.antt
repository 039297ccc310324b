-- A number in front of the other members of a request.
use Rattle.std.proofs.Common.{◌≡◌, ℕ, suc, ◌≤◌, List, refl, sym, subst, le-leb, arith}
use Rattle.std.specs.Prelude.{codes}
use Rattle.serde_json.specs.Data.{Members, member, object, depth}
use Rattle.serde_json.specs.Read.{max_depth}
use Rattle.wire_print.specs.Printed.{count_data, word_data, with_num}
use Rattle.wire_print.proofs.IsSound.{IsSound}

-- a number of at least 1 is printed
pub with_num_some : (num : ℕ) (ms : Members) → with_num (suc num) ms ≡ member (codes "num") (count_data (suc num)) ms
with_num_some num ms = let one : 1 ≤ suc num = omega arith in rw (le-leb 1 (suc num) one) refl

-- a request is sound with its number, where it is with that member
pub numbered_sound : (num : ℕ) (word : List ℕ) (ms : Members) → IsSound (object (member (codes "call") (word_data word) (member (codes "num") (count_data (suc num)) ms)))
    → IsSound (object (member (codes "call") (word_data word) (with_num (suc num) ms)))
numbered_sound num word ms h = subst (λ n. IsSound (object (member (codes "call") (word_data word) n))) (sym (with_num_some num ms)) h

-- and nests no deeper
pub numbered_shallow : (num : ℕ) (word : List ℕ) (ms : Members) → depth (object (member (codes "call") (word_data word) (member (codes "num") (count_data (suc num)) ms))) ≤ max_depth
    → depth (object (member (codes "call") (word_data word) (with_num (suc num) ms))) ≤ max_depth
numbered_shallow num word ms h = subst (λ n. depth (object (member (codes "call") (word_data word) n)) ≤ max_depth) (sym (with_num_some num ms)) h
