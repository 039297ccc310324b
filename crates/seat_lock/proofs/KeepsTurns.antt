-- The rule holds of a new table.
use Rattle.std.proofs.Common.{◌≡◌, ◌≢◌, ℕ, ◌-◌, ◌^◌, true, false, List, [], ◌∷◌, length, sym, refl, ap, subst, arith, Some, zero, suc}
use Rattle.std.proofs.lemmas.List.{append-nil}
use mathlib.Core.Option.{some, some-injective, some-ne-none}
use lib.ListN.{get_elem?}
use Rattle.atomic_table.specs.Table.{opening}
use Rattle.seat_lock.specs.declared.board.View.{View}
use Rattle.seat_lock.specs.Lists.{AllOf}
use Rattle.seat_lock.specs.Turns.{Book, Tickets, Knows, KeepsTurns}
use Rattle.seat_lock.specs.Told.{new_view}
use Rattle.seat_lock.proofs.Begins.{begins_same}
use Rattle.seat_lock.proofs.AllOf.{all_map}
use Rattle.seat_lock.proofs.RowsOf.{rows_of_none}
use Rattle.seat_lock.proofs.Updated.{true_false}

module _ {S R F : Type 0} (rows : S → List R) (fixed : S → F) (number : R → ℕ) (legal : F → List R → Type 0) (start : S) where
  abbrev first_view : View R F
  first_view = new_view 0 (rows start) (Some (fixed start)) (rows start)

  abbrev first_book : Book R
  first_book = record { log = rows start; seats = 1; keeper = λ n. 0; maker = λ n. 0 }

  abbrev first_queue : Tickets
  first_queue = record { drawn = 0; turn = 0; busy = false; waiter = λ n. 0 }

  first_seat : AllOf (λ r. number r ≡ 2 ^ 64 - 1) (rows start) → (j : ℕ) (v : View R F) → get_elem? (first_view ∷ []) j ≡ some v → v.live ≡ true → Knows number first_book j first_queue (fixed start) (rows start) v
  first_seat early zero v e live = subst (Knows number first_book 0 first_queue (fixed start) (rows start)) (some-injective first_view v e) record {
    card = record {
      begins = begins_same (rows start) (rows start) refl;
      below = omega arith;
      kept = refl;
      own = λ few. rows_of_none number 0 (rows start) (all_map (λ x. number x ≡ 2 ^ 64 - 1) (λ x. number x ≢ 0) (λ x e f. omega arith) (rows start) early);
      made = λ k pos l e. absurd (omega arith);
      sound = λ k i. absurd i;
    };
    others = tt;
    phase = tt;
    apart = (tt, tt);
    fixed = refl;
    start_is = refl;
  }
  first_seat early (suc j) v e live = absurd (some-ne-none v (sym e))

  -- the rule holds of a new table
  pub opens : (n : ℕ) → n ≡ length (rows start) → AllOf (λ r. number r ≡ 2 ^ 64 - 1) (rows start) → legal (fixed start) (rows start)
      → KeepsTurns rows fixed number legal start (opening (n ∷ 0 ∷ 0 ∷ 1 ∷ []) (Some start ∷ []) first_view)
  opens n e early lawful = record {
    b = first_book;
    q = first_queue;
    home = some (Some start);
    behind = [];
    words = ap (λ m. m ∷ 0 ∷ 0 ∷ 1 ∷ []) e;
    homes = refl;
    ordered = omega arith;
    small = omega arith;
    taken = λ t. true_false false t refl;
    rested = λ _. (start, refl, refl, refl);
    lawful = lawful;
    splits = append-nil (rows start);
    early = early;
    late = λ few. tt;
    makers = λ k pos l. absurd (omega arith);
    each_seat = first_seat early;
  }
