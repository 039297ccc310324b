-- What is fed, block by block.
use Rattle.std.proofs.Common.{◌≡◌, ℕ, ◌+◌, ◌-◌, ◌^◌, ◌<◌, ◌≤◌, Bool, true, false, List, [], ◌∷◌, ◌++◌, length, Option, None, Some, refl, sym, ap, ◌∙◌, subst, append_assoc, append-nil, length-append, arith}
use Rattle.std.specs.Prelude.{IsSome, IfSome, option_map}
use Rattle.seat_lock.specs.Lists.{Begins}
use Rattle.troop_entry.specs.declared.block.Block.{Block}
use Rattle.troop_entry.specs.declared.call.Lang.{Lang}
use Rattle.block_queue.specs.declared.item.Item.{Item}
use Rattle.block_queue.specs.declared.item.Item.TheVariants as item
use Rattle.pipe_ports.specs.Pipes.{Starts}
use Rattle.pipe_ports.specs.declared.child.Closing.{Closing}
use Rattle.pipe_ports.specs.declared.child.Closing.TheVariants as closing
use Rattle.child_driver.specs.declared.fed.Fed.{Fed}
use Rattle.child_driver.specs.Drivers.{DriverValue, driver_lives, earlier_count, births, last_of, pipe_count, Sight, sight}
use Rattle.child_driver.specs.Lives.{BlockFate, Whole, Cut, Boot, Refused, IsTold, IsRising, AreAbove, AreBelow, faulty_count}
use Rattle.child_driver.specs.Steps.{CountsFate, CountsClosing, FeedsTo, IsClosing}
use Rattle.activities.specs.Driving.{block_items, ToldDriver, told_driver, IsToldOf, IsBounded, IsSameDriver, FedSome}

-- the items of two lists of blocks
pub block_items-append : (xs ys : List Block) → block_items (xs ++ ys) ≡ block_items xs ++ block_items ys
block_items-append [] ys = refl
block_items-append (x ∷ xs) ys = ap (λ rest. item.Block x ∷ rest) (block_items-append xs ys)

-- nothing was noted
pub bounded_none : (d : ToldDriver) → IsBounded d d
bounded_none d = record { later = λ few. omega arith; few = λ few. omega arith }

-- the bound goes on
pub bounded_more : (a b c : ToldDriver) → IsBounded a b → IsBounded b c → IsBounded a c
bounded_more a b c h g = record {
  later = λ few. let two = g.later few in let small : b.pipes < 2 ^ 64 - 1 = omega (arith, two, few) in let one = h.later small in omega (arith, one, two);
  few = λ few.
      let up = g.later few in
      let small : b.pipes < 2 ^ 64 - 1 = omega (arith, up, few) in
      let one = h.few small in
      let two = g.few few in
      omega (arith, one, two);
}

told_itself : (o : Option ℕ) → IfSome o (λ n. Some n ≡ o)
told_itself None = tt
told_itself (Some n) = refl

told_through : (a b c : Option ℕ) → IfSome b (λ n. Some n ≡ a) → IfSome c (λ n. Some n ≡ b) → IfSome c (λ n. Some n ≡ a)
told_through a b None h g = tt
told_through a None (Some n) h g = absurd (cc)
told_through a (Some k) (Some n) h g = g ∙ h

-- a driver that is left alone is the same
pub same_none : (d : ToldDriver) → IsSameDriver d d
same_none d = record { lang = refl; boot = refl; earlier = told_itself d.earlier }

-- it stays the same
pub same_more : (a b c : ToldDriver) → IsSameDriver a b → IsSameDriver b c → IsSameDriver a c
same_more a b c h g = record { lang = g.lang ∙ h.lang; boot = g.boot ∙ h.boot; earlier = told_through a.earlier b.earlier c.earlier h.earlier g.earlier }

above_front : (p : ℕ) (xs : List Block) (b : Block) → AreAbove p (xs ++ b ∷ []) → AreAbove p xs × (p < b.place)
above_front p [] b h = (tt, h.0)
above_front p (x ∷ xs) b h = let r = above_front p xs b h.1 in ((h.0, r.0), r.1)

-- blocks with one more behind them, where the places of all rise
pub rising_front : (xs : List Block) (b : Block) → IsRising (xs ++ b ∷ []) → IsRising xs × AreBelow b.place xs
rising_front [] b h = (tt, tt)
rising_front (x ∷ xs) b h =
    let a = above_front x.place xs b h.0 in
    let r = rising_front xs b h.1 in
    ((a.0, r.0), (a.1, r.1))

-- nothing was fed
pub fed_none : (d : ToldDriver) → FedSome false [] d d
fed_none d = record { fed = []; first = ([], refl); all = λ e. refl; few = λ e. absurd (cc); same = same_none d; told = λ rise h. h; bounded = bounded_none d }

less_more : (fed blocks : List Block) (b : Block) → Begins fed blocks → length fed < length (blocks ++ b ∷ [])
less_more fed blocks b first = omega (arith, ap length first.1, length-append fed first.0, length-append blocks (b ∷ []))

-- a block that isn't fed
pub fed_less : (starved : Bool) (blocks : List Block) (b : Block) (first now : ToldDriver) → FedSome starved blocks first now → FedSome true (blocks ++ b ∷ []) first now
fed_less starved blocks b first now h = record {
  fed = h.fed;
  first = (h.first.0 ++ b ∷ [], sym (append_assoc h.fed h.first.0 (b ∷ [])) ∙ ap (λ l. l ++ b ∷ []) h.first.1);
  all = λ e. absurd (cc);
  few = λ e. less_more h.fed blocks b h.first;
  same = h.same;
  told = h.told;
  bounded = h.bounded;
}

-- a block that is
pub fed_more : (blocks : List Block) (b : Block) (first old new : ToldDriver) → FedSome false blocks first old
    → IsSameDriver old new → ((bs : List Block) → IsToldOf old bs → AreBelow b.place bs → IsToldOf new (bs ++ b ∷ [])) → IsBounded old new → FedSome false (blocks ++ b ∷ []) first new
fed_more blocks b first old new h same told bounded =
    let all : h.fed ≡ blocks = h.all refl in
    record {
      fed = blocks ++ b ∷ [];
      first = ([], append-nil (blocks ++ b ∷ []));
      all = λ e. refl;
      few = λ e. absurd (cc);
      same = same_more first old new h.same same;
      told = λ rise start.
          let r = rising_front blocks b rise in
          let before : IsToldOf old blocks = subst (λ (l : List Block). IsToldOf old l) all (h.told (subst (λ (l : List Block). IsRising l) (sym all) r.0) start) in
          told blocks before r.1;
      bounded = bounded_more first old new h.bounded bounded;
    }

-- the driver was closed
pub fed_closed : (starved : Bool) (blocks : List Block) (first old new : ToldDriver) → FedSome starved blocks first old
    → IsSameDriver old new → ((bs : List Block) → IsToldOf old bs → IsToldOf new bs) → IsBounded old new → FedSome starved blocks first new
fed_closed starved blocks first old new h same told bounded = record {
  fed = h.fed;
  first = h.first;
  all = h.all;
  few = h.few;
  same = same_more first old new h.same same;
  told = λ rise start. told h.fed (h.told rise start);
  bounded = bounded_more first old new h.bounded bounded;
}

-- one block more was popped
pub popped_more : (first old new : List Item) (blocks : List Block) (b : Block) → old ≡ first ++ block_items blocks → new ≡ old ++ item.Block b ∷ []
    → new ≡ first ++ block_items (blocks ++ b ∷ [])
popped_more first old new blocks b h e =
    e ∙ ap (λ l. l ++ item.Block b ∷ []) h ∙ append_assoc first (block_items blocks) (item.Block b ∷ []) ∙ ap (λ l. first ++ l) (sym (block_items-append blocks (b ∷ [])))

-- ---- what a call of the driver says

fate_rises : (fate : BlockFate) (h l n r : ℕ) → CountsFate fate h l n r → n + r < 2 ^ 64 - 1 → h + l ≤ n + r
fate_rises Whole h l n r c few = omega (arith, c.0, c.1)
fate_rises (Cut k) h l n r c few = omega (arith, c.1.later, c.2, few)
fate_rises (Boot k) h l n r c few = omega (arith, c.1.later, c.2, few)
fate_rises Refused h l n r c few = omega (arith, c.0.later, c.1)

closing_rises : (answer : Closing) (h l n r : ℕ) → CountsClosing answer h l n → n + r < 2 ^ 64 - 1 → h + l ≤ n + r
closing_rises closing.Closed h l n r c few = omega (arith, c, few)
closing_rises closing.Failed h l n r c few = omega (arith, c.1.later, c.2, few)

module _ {H C : Type 0} (buried : H → Option (List (List ℕ))) (starts : H → Option Starts) (faults : H → ℕ) (taken : C → Option (List ℕ)) (limit : C → Option (Option ℕ)) (child_faults : C → ℕ) where
  abbrev tells : DriverValue H C → ToldDriver
  tells d = told_driver buried faults taken child_faults d

  abbrev sees : DriverValue H C → Sight
  sees d = sight buried starts faults taken limit child_faults d

  abbrev told_by : Lang → List ℕ → Bool → Sight → ToldDriver
  told_by lang boot closed s = record {
    lang = lang;
    boot = boot;
    notes = s.notes;
    earlier = option_map (λ (ls : List (List ℕ)). length ls - births s.notes) s.children;
    lives = option_map (last_of (births s.notes)) s.children;
    pipes = s.hatch_count + s.life_count;
    closed = closed;
  }

  -- want of memory changes nothing that is told
  pub told_kept : (old new : DriverValue H C) → sees new ≡ sees old → new ≡ record old { hatch = new.hatch; life = new.life; notes = new.notes } → tells new ≡ tells old
  told_kept old new same rest =
      ap (λ (l : Lang). told_by l new.boot new.closed (sees new)) (ap (λ (d : DriverValue H C). d.lang) rest)
      ∙ ap (λ (b : List ℕ). told_by old.lang b new.closed (sees new)) (ap (λ (d : DriverValue H C). d.boot) rest)
      ∙ ap (λ (c : Bool). told_by old.lang old.boot c (sees new)) (ap (λ (d : DriverValue H C). d.closed) rest)
      ∙ ap (told_by old.lang old.boot old.closed) same

  -- a driver that was fed is the same
  pub same_fed : (old new : DriverValue H C) → new ≡ record old { hatch = new.hatch; life = new.life; notes = new.notes }
      → IfSome (earlier_count buried taken new) (λ n. Some n ≡ earlier_count buried taken old) → IsSameDriver (tells old) (tells new)
  same_fed old new rest handed = record { lang = ap (λ (d : DriverValue H C). d.lang) rest; boot = ap (λ (d : DriverValue H C). d.boot) rest; earlier = handed }

  -- a driver that was closed is the same
  pub same_closed : (old new : DriverValue H C) → new ≡ record old { hatch = new.hatch; life = new.life; notes = new.notes; closed = new.closed }
      → earlier_count buried taken new ≡ earlier_count buried taken old → IsSameDriver (tells old) (tells new)
  same_closed old new rest handed = record {
    lang = ap (λ (d : DriverValue H C). d.lang) rest;
    boot = ap (λ (d : DriverValue H C). d.boot) rest;
    earlier = subst (λ (o : Option ℕ). IfSome (earlier_count buried taken new) (λ n. Some n ≡ o)) handed (told_itself (earlier_count buried taken new));
  }

  -- a block that was fed is told
  pub told_fed : (old new : DriverValue H C) (b : Block) → new ≡ record old { hatch = new.hatch; life = new.life; notes = new.notes } → old.closed ≡ false
      → (old.closed ≡ false → (blocks : List Block) → IsTold old.lang old.boot blocks (driver_lives buried taken old) old.notes → AreBelow b.place blocks
      → IsTold old.lang old.boot (blocks ++ b ∷ []) (driver_lives buried taken new) new.notes)
      → (blocks : List Block) → IsToldOf (tells old) blocks → AreBelow b.place blocks → IsToldOf (tells new) (blocks ++ b ∷ [])
  told_fed old new b rest calm told blocks before below =
      subst (λ (l : Lang). IsTold l new.boot (blocks ++ b ∷ []) (driver_lives buried taken new) new.notes) (sym (ap (λ (d : DriverValue H C). d.lang) rest))
      (subst (λ (t : List ℕ). IsTold old.lang t (blocks ++ b ∷ []) (driver_lives buried taken new) new.notes) (sym (ap (λ (d : DriverValue H C). d.boot) rest))
      (told calm blocks before below))

  -- a block that was fed keeps the bound
  pub bounded_fed : (old new : DriverValue H C) (boot wrapped : List ℕ) (place : ℕ) (answer : Fed) → FeedsTo boot wrapped place answer (sees old) (sees new)
      → (pipe_count faults child_faults new < 2 ^ 64 - 1
      → faulty_count new.notes + pipe_count faults child_faults old ≤ faulty_count old.notes + pipe_count faults child_faults new)
      → IsBounded (tells old) (tells new)
  bounded_fed old new boot wrapped place answer step few = record {
    later = fate_rises step.0 (sees old).hatch_count (sees old).life_count (sees new).hatch_count (sees new).life_count step.2.counts_are;
    few = few;
  }

  -- a close keeps what is told
  pub told_closed : (old new : DriverValue H C) → new ≡ record old { hatch = new.hatch; life = new.life; notes = new.notes; closed = new.closed } → old.closed ≡ false
      → (old.closed ≡ false → (blocks : List Block) → IsTold old.lang old.boot blocks (driver_lives buried taken old) old.notes
      → IsTold old.lang old.boot blocks (driver_lives buried taken new) new.notes)
      → (blocks : List Block) → IsToldOf (tells old) blocks → IsToldOf (tells new) blocks
  told_closed old new rest calm told blocks before =
      subst (λ (l : Lang). IsTold l new.boot blocks (driver_lives buried taken new) new.notes) (sym (ap (λ (d : DriverValue H C). d.lang) rest))
      (subst (λ (t : List ℕ). IsTold old.lang t blocks (driver_lives buried taken new) new.notes) (sym (ap (λ (d : DriverValue H C). d.boot) rest))
      (told calm blocks before))

  closed_rises : (life : Option C) (old new : DriverValue H C) → old.life ≡ life → (old.life ≡ None → new ≡ old)
      → (IsSome old.life → (answer : Closing) × IsClosing answer (sees old) (sees new))
      → pipe_count faults child_faults new < 2 ^ 64 - 1 → pipe_count faults child_faults old ≤ pipe_count faults child_faults new
  closed_rises None old new is none closes few = let same = ap (λ (d : DriverValue H C). pipe_count faults child_faults d) (none is) in omega (arith, same)
  closed_rises (Some child) old new is none closes few =
      let step = closes (subst (λ (o : Option C). IsSome o) (sym is) refl) in
      closing_rises step.0 (sees old).hatch_count (sees old).life_count (sees new).hatch_count (sees new).life_count step.1.counts_are few

  -- a close keeps the bound
  pub bounded_closed : (old new : DriverValue H C) → (old.life ≡ None → new ≡ old) → (IsSome old.life → (answer : Closing) × IsClosing answer (sees old) (sees new))
      → (pipe_count faults child_faults new < 2 ^ 64 - 1
      → faulty_count new.notes + pipe_count faults child_faults old ≤ faulty_count old.notes + pipe_count faults child_faults new)
      → IsBounded (tells old) (tells new)
  bounded_closed old new none closes few = record { later = closed_rises old.life old new refl none closes; few = few }
