-- What a run of `perform` says, by its outcome.
use Rattle.std.proofs.Common.{◌≡◌, ◌⊎◌, inl, inr, ℕ, ◌≤◌, Bool, true, false, if◌then◌else◌, List, [], Option, None, Some, Result, Ok, Err, refl, sym, ap, ◌∙◌, subst, arith}
use Rattle.std.specs.Prelude.{IsSomeAnd}
use Rattle.troop_entry.specs.declared.call.Call.{Call}
use Rattle.troop_entry.specs.declared.call.Lang.{Lang}
use Rattle.troop_entry.specs.declared.entry.Entry.{Entry}
use Rattle.troop_ports.specs.Doors.{first_of, and_last}
use Rattle.troop_ports.specs.Faults.{Counted, AddsCount}
use Rattle.troop_ports.specs.Nets.{Site}
use Rattle.block_queue.specs.declared.item.Item.{Item}
use Rattle.child_driver.specs.Drivers.{DriverValue}
use Rattle.stage_state.specs.declared.played.Origin.{Origin}
use Rattle.stage_state.specs.Origins.{origin_of}
use Rattle.stage_state.specs.Staged.{Staged}
use Rattle.activities.specs.declared.commands.Flow.{Flow}
use Rattle.activities.specs.declared.errors.PerformError.{PerformError}
use Rattle.activities.specs.declared.errors.PerformError.TheVariants as error
use Rattle.activities.specs.Counts.{CountsActivity, ReadCount, CountsInput, WriteCount, CountsOutput}
use Rattle.activities.specs.Commands.{lines_size, CommandsEnd}
use Rattle.activities.specs.Down.{DownEnds}
use Rattle.activities.specs.Driving.{ToldDriver, told_driver}
use Rattle.activities.specs.Lines.{number_behind}
use Rattle.activities.specs.Memory.{PlacedAct}
use Rattle.activities.specs.Up.{IsUnwritten, IsUnplaced, FailedCall, UpEnds}
use Rattle.activities.proofs.MachineAt.{gone_later}
use Rattle.performer.specs.Ends.{error_of, error_or}
use Rattle.performer.specs.Opening.{join_pair, IsCutDown, WroteDown, OpeningFails, CountsOpening}
use Rattle.performer.specs.Performed.{TookAndTold, Shares}
use Rattle.replay_run.specs.Ports.{Port, port_of, IsFaulted}
use Rattle.troop_main.specs.Words.{Announced}
use Rattle.troop_main.specs.Serving.{NetPort, net_port_of}
use Rattle.troop_main.specs.Performing.{IsCalmShelf, PrintsLast, closing_lines, GaveBoth, FailsDial, AreRetired, Scene, HasNoBoot, TellingLinks, Performance, HasNoLinks, FailedOpening, IsPerformance, idle_driver, SaysPerformed}
use Rattle.troop_main.proofs.CountsLinks.{counted_first, counted_last, counted_up, counted_down}
use Rattle.troop_main.proofs.HasPlayedOut.{leave_later, commands_ended}

-- ---- before the opening

some_and : {A : Type 0} (Q : Type 0) (o : Option A) → IsSomeAnd o (λ x. Q) → Q
some_and Q None h = absurd h
some_and Q (Some x) h = h

fault_of_dial : {L : Type 0} (link_faults : L → ℕ) (net : NetPort L) → FailsDial link_faults net → Counted net.faults_before net.faults_after
fault_of_dial link_faults net (inl none) = none.2
fault_of_dial link_faults net (inr one) = counted_first net.faults_before one.faults net.faults_after one.fault one.count.later

module _ {L H C : Type 0} (tells : TellingLinks L H C) where
  -- there was no boot text
  pub no_boot : (who : Announced) (cause : PerformError) (s : Scene L H) → HasNoBoot who cause s → SaysPerformed tells who (Some cause) s
  no_boot who error.ReadFault s h = inl h
  no_boot who error.WriteFault s h = absurd (some_and ⊥ who.boot h.0)
  no_boot who error.NetFault s h = absurd (some_and ⊥ who.boot h.0)
  no_boot who (error.BadInput line) s h = absurd (some_and ⊥ who.boot h.0)
  no_boot who error.TooMuch s h = inl h
  no_boot who (error.Refused reply) s h = absurd (some_and ⊥ who.boot h.0)
  no_boot who (error.Dropped at) s h = absurd (some_and ⊥ who.boot h.0)
  no_boot who (error.BadPeer side line what) s h = absurd (some_and ⊥ who.boot h.0)
  no_boot who (error.LongRequest bytes) s h = absurd (some_and ⊥ who.boot h.0)
  no_boot who error.Memory s h = inl (some_and (IsCalmShelf s.shelf) who.boot h.0, h.1, h.2)

  -- both links couldn't be had
  pub no_links : (who : Announced) (s : Scene L H) → HasNoLinks tells who s → SaysPerformed tells who (Some error.NetFault) s
  no_links who s h = (fault_of_dial tells.link_faults s.net h.1, inl h)

-- ---- the links

-- both links came back, from what the net's calls say
pub retired_by : {L : Type 0} (link_faults : L → ℕ) (up up_back down down_back : L) (asked : List ℕ) (site : Option Site) (left0 left1 left2 left3 back0 back1 back2 back3 : Option (List L)) (f0 f1 f2 f3 : ℕ)
    → GaveBoth up down (net_port_of asked site left0 left1 back0 back1 f0 f1) → left2 ≡ left1 → back2 ≡ and_last back1 up_back → AddsCount (link_faults up_back) f1 f2
    → left3 ≡ left2 → back3 ≡ and_last back2 down_back → AddsCount (link_faults down_back) f2 f3
    → AreRetired link_faults up up_back down down_back (net_port_of asked site left0 left3 back0 back3 f0 f3)
retired_by link_faults up up_back down down_back asked site left0 left1 left2 left3 back0 back1 back2 back3 f0 f1 f2 f3 gave same2 first count2 same3 second count3 = record {
  at_site = gave.3;
  were_given = gave.0 ∙ ap (λ l. first_of up (first_of down l)) (sym (same3 ∙ same2));
  came_back = second ∙ ap (λ l. and_last l down_back) (first ∙ ap (λ l. and_last l up_back) gave.1);
  faults = f2;
  up_count = subst (λ f. AddsCount (link_faults up_back) f f2) gave.2 count2;
  down_count = count3;
}

-- ---- the opening

-- an error by which an opening may fail
abbrev IsOpeningFault : PerformError → Type 0
IsOpeningFault error.ReadFault = ⊥
IsOpeningFault error.WriteFault = ⊥
IsOpeningFault error.NetFault = Unit {0}
IsOpeningFault (error.BadInput line) = ⊥
IsOpeningFault error.TooMuch = ⊥
IsOpeningFault (error.Refused reply) = Unit {0}
IsOpeningFault (error.Dropped at) = ⊥
IsOpeningFault (error.BadPeer side line what) = Unit {0}
IsOpeningFault (error.LongRequest bytes) = Unit {0}
IsOpeningFault error.Memory = Unit {0}

unwritten_fault : (e : PerformError) (pair : ℕ × Call) (front : List ℕ) → IsUnwritten pair front e → IsOpeningFault e
unwritten_fault error.ReadFault pair front h = h
unwritten_fault error.WriteFault pair front h = h
unwritten_fault error.NetFault pair front h = tt
unwritten_fault (error.BadInput line) pair front h = h
unwritten_fault error.TooMuch pair front h = h
unwritten_fault (error.Refused reply) pair front h = tt
unwritten_fault (error.Dropped at) pair front h = h
unwritten_fault (error.BadPeer side line what) pair front h = tt
unwritten_fault (error.LongRequest bytes) pair front h = tt
unwritten_fault error.Memory pair front h = tt

unplaced_fault : (e : PerformError) (number : ℕ) (last : List (List ℕ)) (rest remaining : Option (List ℕ)) → IsUnplaced number last rest remaining e → IsOpeningFault e
unplaced_fault error.ReadFault number last rest remaining h = h
unplaced_fault error.WriteFault number last rest remaining h = h
unplaced_fault error.NetFault number last rest remaining h = tt
unplaced_fault (error.BadInput line) number last rest remaining h = h
unplaced_fault error.TooMuch number last rest remaining h = h
unplaced_fault (error.Refused reply) number last rest remaining h = tt
unplaced_fault (error.Dropped at) number last rest remaining h = h
unplaced_fault (error.BadPeer side line what) number last rest remaining h = tt
unplaced_fault (error.LongRequest bytes) number last rest remaining h = tt
unplaced_fault error.Memory number last rest remaining h = tt

cut_fault : (e : PerformError) (who : ℕ) (front : List ℕ) → IsCutDown who front e → IsOpeningFault e
cut_fault error.ReadFault who front h = h
cut_fault error.WriteFault who front h = h
cut_fault error.NetFault who front h = tt
cut_fault (error.BadInput line) who front h = h
cut_fault error.TooMuch who front h = h
cut_fault (error.Refused reply) who front h = tt
cut_fault (error.Dropped at) who front h = h
cut_fault (error.BadPeer side line what) who front h = tt
cut_fault (error.LongRequest bytes) who front h = tt
cut_fault error.Memory who front h = tt

failed_fault : (e : PerformError) (number : ℕ) (pair : ℕ × Call) (front : List ℕ) (last : List (List ℕ)) (rest remaining : Option (List ℕ)) → FailedCall number pair front last rest remaining e → IsOpeningFault e
failed_fault e number pair front last rest remaining (inl h) = unwritten_fault e pair front h.0
failed_fault e number pair front last rest remaining (inr h) = unplaced_fault e number last rest remaining h.1

wrote_fault : (e : PerformError) (who : ℕ) (before now : Option (List ℕ)) → (WroteDown who before now (Err e) ⊎ (WroteDown who before now (Ok tt) × (e ≡ error.Memory))) → IsOpeningFault e
wrote_fault e who before now (inl h) = cut_fault e who h.0 h.2
wrote_fault e who before now (inr h) = subst IsOpeningFault (sym h.1) tt

opening_fault : (e : PerformError) (name : List ℕ) (lang : Lang) (told remaining before now down_before down_now : Option (List ℕ))
    → OpeningFails name lang e told remaining before now down_before down_now → IsOpeningFault e
opening_fault e name lang told remaining before now down_before down_now (inl h) =
    let sent = h.0 in
    failed_fault e 1 (join_pair name lang) sent.0 sent.1 sent.2 remaining sent.6
opening_fault e name lang told remaining before now down_before down_now (inr h) = wrote_fault e h.0.who down_before down_now h.3

link_counted : (up up' down down' before mid now : ℕ) → CountsOpening error.NetFault up up' down down' → AddsCount up' before mid → AddsCount down' mid now → Counted before now
link_counted up up' down down' before mid now (inl h) first second = counted_up up up' down' before mid now h.0 first second
link_counted up up' down down' before mid now (inr h) first second = counted_down down up' down' before mid now h.1 first second

module _ {L H C : Type 0} (tells : TellingLinks L H C) where
  fault_of : (who : Announced) (cause : PerformError) (s : Scene L H) → FailedOpening tells who cause s → IsOpeningFault cause
  fault_of who cause s h = opening_fault cause who.name who.lang _ _ _ _ _ _ h.fails

  -- the opening failed
  pub unopened : (who : Announced) (cause : PerformError) (s : Scene L H) → FailedOpening tells who cause s → SaysPerformed tells who (Some cause) s
  unopened who error.ReadFault s h = absurd (fault_of who error.ReadFault s h)
  unopened who error.WriteFault s h = absurd (fault_of who error.WriteFault s h)
  unopened who error.NetFault s h = (link_counted _ _ _ _ _ _ _ h.counts h.retired.up_count h.retired.down_count, inr (inl h))
  unopened who (error.BadInput line) s h = absurd (fault_of who (error.BadInput line) s h)
  unopened who error.TooMuch s h = absurd (fault_of who error.TooMuch s h)
  unopened who (error.Refused reply) s h = inl h
  unopened who (error.Dropped at) s h = absurd (fault_of who (error.Dropped at) s h)
  unopened who (error.BadPeer side line what) s h = inl h
  unopened who (error.LongRequest bytes) s h = inl h
  unopened who error.Memory s h = inr (inl h)

-- ---- the run

-- whose error it is: that of the commands, of the up line, or of the down line; or memory was wanting; or the last lines weren't printed
whose : (e : PerformError) (commands up down : Option PerformError) (starved : Bool) (last : Option PerformError)
    → Some e ≡ error_or (error_or commands (error_or up (error_or down (if starved then Some error.Memory else None)))) last
    → (commands ≡ Some e) ⊎ ((up ≡ Some e) ⊎ ((down ≡ Some e) ⊎ ((e ≡ error.Memory) ⊎ (last ≡ Some e))))
whose e (Some c) up down starved last h = inl (sym h)
whose e None (Some u) down starved last h = inr (inl (sym h))
whose e None None (Some d) starved last h = inr (inr (inl (sym h)))
whose e None None None true last h = inr (inr (inr (inl (cc))))
whose e None None None false last h = inr (inr (inr (inr (sym h))))

-- there is none
no_error : (commands up down : Option PerformError) (starved : Bool) (last : Option PerformError)
    → None ≡ error_or (error_or commands (error_or up (error_or down (if starved then Some error.Memory else None)))) last
    → (commands ≡ None) × (up ≡ None) × (down ≡ None) × (last ≡ None)
no_error (Some c) up down starved last h = absurd (cc)
no_error None (Some u) down starved last h = absurd (cc)
no_error None None (Some d) starved last h = absurd (cc)
no_error None None None true last h = absurd (cc)
no_error None None None false last h = (refl, refl, refl, sym h)

up_fault : (e : PerformError) (o : Origin) (seen : List PlacedAct) (number : ℕ) (lost : List (ℕ × Call)) (front : List ℕ) (last : List (List ℕ)) (rest remaining : Option (List ℕ)) (end : Option PerformError)
    → end ≡ Some e → UpEnds o seen number lost front last rest remaining end → IsOpeningFault e
up_fault e o seen number lost front last rest remaining None is h = absurd (cc)
up_fault e o seen number lost front last rest remaining (Some x) is (inl h) = let same : e ≡ error.Memory = cc (h.3) in subst IsOpeningFault (sym same) tt
up_fault e o seen number lost front last rest remaining (Some x) is (inr h) =
    let same : x ≡ e = cc in subst IsOpeningFault same (failed_fault x number h.0 front last rest remaining h.2)

-- an error that the down line can't have
abbrev IsNoDownFault : PerformError → Type 0
IsNoDownFault e = (o : Origin) (seen : List PlacedAct) (given : List (List ℕ)) (entries : List Entry) (last : List (List ℕ)) (rest remaining : Option (List ℕ)) → DownEnds o seen given entries last rest remaining (Some e) → ⊥

no_down_read : IsNoDownFault error.ReadFault
no_down_read o seen given entries last rest remaining (inl h) = h
no_down_read o seen given entries last rest remaining (inr h) = h

no_down_write : IsNoDownFault error.WriteFault
no_down_write o seen given entries last rest remaining (inl h) = h
no_down_write o seen given entries last rest remaining (inr h) = h

not_net : (end : Result Flow PerformError) (o : Origin) (number size : ℕ) (name : List ℕ) (who : ℕ) (seen : List PlacedAct) (last : List (List ℕ)) (front : List ℕ) (rest remaining : Option (List ℕ))
    → error_of end ≡ Some error.NetFault → CommandsEnd o number size name who seen last front rest remaining end → ⊥
not_net (Ok f) o number size name who seen last front rest remaining is h = cc
not_net (Err e) o number size name who seen last front rest remaining is h =
    let same : e ≡ error.NetFault = cc in
    subst (λ (x : PerformError). CommandsEnd o number size name who seen last front rest remaining (Err x)) same h

counted_read : (end : Result Flow PerformError) (before now : ℕ) → error_of end ≡ Some error.ReadFault → CountsInput end before now → Counted before now
counted_read (Ok f) before now is h = absurd (cc)
counted_read (Err e) before now is h = let same : e ≡ error.ReadFault = cc in subst (λ (x : PerformError). ReadCount x before now) same h

counted_write : (end : Result Flow PerformError) (before now : ℕ) → error_of end ≡ Some error.WriteFault → CountsOutput end before now → Counted before now
counted_write (Ok f) before now is h = absurd (cc)
counted_write (Err e) before now is h = let same : e ≡ error.WriteFault = cc in subst (λ (x : PerformError). WriteCount x before now) same h

counted_link : (end : Option PerformError) (before now : ℕ) → end ≡ Some error.NetFault → CountsActivity end before now → Counted before now
counted_link end before now is h = subst (λ (x : Option PerformError). CountsActivity x before now) is h

-- no count of the output falls
not_fewer : (end : Result Flow PerformError) (before now : ℕ) → CountsOutput end before now → before ≤ now
not_fewer (Ok f) before now h = omega (arith, h)
not_fewer (Err error.ReadFault) before now h = omega (arith, h)
not_fewer (Err error.WriteFault) before now h = h.later
not_fewer (Err error.NetFault) before now h = omega (arith, h)
not_fewer (Err (error.BadInput line)) before now h = omega (arith, h)
not_fewer (Err error.TooMuch) before now h = omega (arith, h)
not_fewer (Err (error.Refused reply)) before now h = omega (arith, h)
not_fewer (Err (error.Dropped at)) before now h = omega (arith, h)
not_fewer (Err (error.BadPeer side line what)) before now h = omega (arith, h)
not_fewer (Err (error.LongRequest bytes)) before now h = omega (arith, h)
not_fewer (Err error.Memory) before now h = omega (arith, h)

prints_later : (last : Option PerformError) (lines : List ℕ) (out : Port) → PrintsLast last lines out → out.faults_before ≤ out.faults_after
prints_later None lines out h = let calm = h.0 in omega (arith, calm)
prints_later (Some error.ReadFault) lines out h = absurd h
prints_later (Some error.WriteFault) lines out h = h.0.later
prints_later (Some error.NetFault) lines out h = absurd h
prints_later (Some (error.BadInput line)) lines out h = absurd h
prints_later (Some error.TooMuch) lines out h = absurd h
prints_later (Some (error.Refused reply)) lines out h = absurd h
prints_later (Some (error.Dropped at)) lines out h = absurd h
prints_later (Some (error.BadPeer side line what)) lines out h = absurd h
prints_later (Some (error.LongRequest bytes)) lines out h = absurd h
prints_later (Some error.Memory) lines out h = let calm = h.0 in omega (arith, calm)

calm_read : (end : Result Flow PerformError) (before now : ℕ) → error_of end ≡ None → CountsInput end before now → now ≡ before
calm_read (Ok f) before now is h = h
calm_read (Err e) before now is h = absurd (cc)

calm_write : (end : Result Flow PerformError) (before now : ℕ) → error_of end ≡ None → CountsOutput end before now → now ≡ before
calm_write (Ok f) before now is h = h
calm_write (Err e) before now is h = absurd (cc)

module _ {L H C : Type 0} (tells : TellingLinks L H C) where
  abbrev whose_of : (who : Announced) (e : PerformError) (s : Scene L H) (p : Performance L) → IsPerformance tells who (Some e) s p
      → (p.ends.commands ≡ Some e) ⊎ ((p.ends.up ≡ Some e) ⊎ ((p.ends.down ≡ Some e) ⊎ ((e ≡ error.Memory) ⊎ (p.last ≡ Some e))))
  whose_of who e s p h = whose e p.ends.commands p.ends.up p.ends.down p.ends.starved p.last h.end_is

  fault_up : (who : Announced) (e : PerformError) (s : Scene L H) (p : Performance L) → IsPerformance tells who (Some e) s p → p.ends.up ≡ Some e → IsOpeningFault e
  fault_up who e s p h is = let sent = h.sent.4 in up_fault e (origin_of p.staged) sent.seen _ sent.lost sent.front sent.last sent.rest (tells.remaining p.up_back) p.ends.up is sent.ends

  fault_down : (who : Announced) (e : PerformError) (s : Scene L H) (p : Performance L) → IsPerformance tells who (Some e) s p → IsNoDownFault e → p.ends.down ≡ Some e → ⊥
  fault_down who e s p h never is =
      let took = h.took.0 in
      never (origin_of p.staged) took.seen took.given took.entries took.last took.rest (tells.remaining p.down_back)
      (subst (λ (x : Option PerformError). DownEnds (origin_of p.staged) took.seen took.given took.entries took.last took.rest (tells.remaining p.down_back) x) is took.ends)

  abbrev prints_by : (who : Announced) (s : Scene L H) (p : Performance L) → Option PerformError → Type 0
  prints_by who s p last = PrintsLast last (closing_lines who.name p.number p.staged p.notes) (port_of p.printed s.out.after p.print_faults s.out.faults_after)

  prints_as : (who : Announced) (end : Option PerformError) (s : Scene L H) (p : Performance L) → IsPerformance tells who end s p → (last : Option PerformError) → p.last ≡ last → prints_by who s p last
  prints_as who end s p h last is = subst (prints_by who s p) is h.prints

  read_by : (who : Announced) (s : Scene L H) (p : Performance L) → IsPerformance tells who (Some error.ReadFault) s p
      → (p.ends.commands ≡ Some error.ReadFault) ⊎ ((p.ends.up ≡ Some error.ReadFault) ⊎ ((p.ends.down ≡ Some error.ReadFault) ⊎ ((error.ReadFault ≡ error.Memory) ⊎ (p.last ≡ Some error.ReadFault))))
      → IsFaulted s.input
  read_by who s p h (inl c) = counted_read p.commands s.input.faults_before s.input.faults_after (sym h.commands_are ∙ c) h.read_faults
  read_by who s p h (inr (inl u)) = absurd (fault_up who error.ReadFault s p h u)
  read_by who s p h (inr (inr (inl d))) = absurd (fault_down who error.ReadFault s p h no_down_read d)
  read_by who s p h (inr (inr (inr (inl m)))) = absurd (cc)
  read_by who s p h (inr (inr (inr (inr l)))) = absurd (prints_as who (Some error.ReadFault) s p h (Some error.ReadFault) l)

  write_by : (who : Announced) (s : Scene L H) (p : Performance L) → IsPerformance tells who (Some error.WriteFault) s p
      → (p.ends.commands ≡ Some error.WriteFault) ⊎ ((p.ends.up ≡ Some error.WriteFault) ⊎ ((p.ends.down ≡ Some error.WriteFault) ⊎ ((error.WriteFault ≡ error.Memory) ⊎ (p.last ≡ Some error.WriteFault))))
      → IsFaulted s.out
  write_by who s p h (inl c) =
      counted_first s.out.faults_before p.print_faults s.out.faults_after (counted_write p.commands s.out.faults_before p.print_faults (sym h.commands_are ∙ c) h.write_faults)
      (prints_later p.last (closing_lines who.name p.number p.staged p.notes) (port_of p.printed s.out.after p.print_faults s.out.faults_after) h.prints)
  write_by who s p h (inr (inl u)) = absurd (fault_up who error.WriteFault s p h u)
  write_by who s p h (inr (inr (inl d))) = absurd (fault_down who error.WriteFault s p h no_down_write d)
  write_by who s p h (inr (inr (inr (inl m)))) = absurd (cc)
  write_by who s p h (inr (inr (inr (inr l)))) =
      let failed = prints_as who (Some error.WriteFault) s p h (Some error.WriteFault) l in
      counted_last s.out.faults_before p.print_faults s.out.faults_after (not_fewer p.commands s.out.faults_before p.print_faults h.write_faults) failed.0

  net_by : (who : Announced) (s : Scene L H) (p : Performance L) → IsPerformance tells who (Some error.NetFault) s p
      → (p.ends.commands ≡ Some error.NetFault) ⊎ ((p.ends.up ≡ Some error.NetFault) ⊎ ((p.ends.down ≡ Some error.NetFault) ⊎ ((error.NetFault ≡ error.Memory) ⊎ (p.last ≡ Some error.NetFault))))
      → Counted s.net.faults_before s.net.faults_after
  net_by who s p h (inl c) =
      let t = h.typed.4 in
      absurd (not_net p.commands (origin_of p.staged) (number_behind 1 t.given) (lines_size t.given) who.name p.number t.seen t.last t.front t.rest s.input.after (sym h.commands_are ∙ c) t.ends)
  net_by who s p h (inr (inl u)) =
      counted_up _ _ _ _ _ _ (counted_link p.ends.up (tells.link_faults p.up) (tells.link_faults p.up_back) u h.up_faults) h.retired.up_count h.retired.down_count
  net_by who s p h (inr (inr (inl d))) =
      counted_down _ _ _ _ _ _ (counted_link p.ends.down (tells.link_faults p.down) (tells.link_faults p.down_back) d h.down_faults) h.retired.up_count h.retired.down_count
  net_by who s p h (inr (inr (inr (inl m)))) = absurd (cc)
  net_by who s p h (inr (inr (inr (inr l)))) = absurd (prints_as who (Some error.NetFault) s p h (Some error.NetFault) l)

  well : (who : Announced) (s : Scene L H) (p : Performance L) → IsPerformance tells who None s p → SaysPerformed tells who None s
  well who s p h =
      let none = no_error p.ends.commands p.ends.up p.ends.down p.ends.starved p.last h.end_is in
      let o = origin_of p.staged in
      let commands : error_of p.commands ≡ None = sym h.commands_are ∙ none.0 in
      let printed = prints_as who None s p h None none.3 in
      let took = h.took.0 in
      let left : DownEnds o took.seen took.given took.entries took.last took.rest (tells.remaining p.down_back) None =
      subst (λ (x : Option PerformError). DownEnds o took.seen took.given took.entries took.last took.rest (tells.remaining p.down_back) x) none.2 took.ends in
      let sent = leave_later o took.seen p.staged.acts took.earlier left.3 in
      let shared : Shares p.staged.acts p.commands None None h.typed.0 h.typed.1 h.typed.2 =
      subst (λ (x : Option PerformError × Option PerformError). Shares p.staged.acts p.commands x.0 x.1 h.typed.0 h.typed.1 h.typed.2) (λ i. (none.1 i, none.2 i)) h.typed.3 in (
        calm_read p.commands s.input.faults_before s.input.faults_after commands h.read_faults,
        printed.0 ∙ calm_write p.commands s.out.faults_before p.print_faults commands h.write_faults,
        (
          p,
          h,
          commands_ended o p.staged.acts p.commands h.typed.0 h.typed.1 h.typed.2 commands shared h.played.3 sent,
          sent,
          gone_later o took.seen p.staged.acts took.earlier left.2,
        ),
      )

  -- a performer ran
  pub performed : (who : Announced) (end : Option PerformError) (s : Scene L H) (p : Performance L) → IsPerformance tells who end s p → SaysPerformed tells who end s
  performed who None s p h = well who s p h
  performed who (Some error.ReadFault) s p h = inr (read_by who s p h (whose_of who error.ReadFault s p h), (p, h))
  performed who (Some error.WriteFault) s p h = (write_by who s p h (whose_of who error.WriteFault s p h), (p, h))
  performed who (Some error.NetFault) s p h = (net_by who s p h (whose_of who error.NetFault s p h), inr (inr (p, h)))
  performed who (Some (error.BadInput line)) s p h = (p, h)
  performed who (Some error.TooMuch) s p h = inr (p, h)
  performed who (Some (error.Refused reply)) s p h = inr (p, h)
  performed who (Some (error.Dropped at)) s p h = (p, h)
  performed who (Some (error.BadPeer side line what)) s p h = inr (p, h)
  performed who (Some (error.LongRequest bytes)) s p h = inr (p, h)
  performed who (Some error.Memory) s p h = inr (inr (p, h))

  -- ---- the driver

  -- what a run says of its driver, by the hatch that came out of it
  pub took_idle : (lang : Lang) (boot : List ℕ) (hatch hatch' : H) (old new : DriverValue H C) (staged : Staged) (end : Option PerformError) (told remaining : Option (List ℕ)) (popped : List Item)
      (starved : Bool) → old ≡ record { lang = lang; boot = boot; hatch = hatch; life = None; notes = []; closed = false } → new.life ≡ None → new.hatch ≡ hatch'
      → TookAndTold staged end told remaining popped starved (told_driver tells.buried tells.hatch_faults tells.taken tells.child_faults old) (told_driver tells.buried tells.hatch_faults tells.taken tells.child_faults new)
      → TookAndTold staged end told remaining popped starved (idle_driver tells lang boot hatch [] false) (idle_driver tells lang boot hatch' new.notes new.closed)
  took_idle lang boot hatch hatch' old new staged end told remaining popped starved is ended gives h =
      let same = h.0.fed.same in
      let tell : DriverValue H C → ToldDriver = λ d. told_driver tells.buried tells.hatch_faults tells.taken tells.child_faults d in
      let lang_is : new.lang ≡ lang = same.lang ∙ ap (λ (d : DriverValue H C). d.lang) is in
      let boot_is : new.boot ≡ boot = same.boot ∙ ap (λ (d : DriverValue H C). d.boot) is in
      let after : DriverValue H C = record { lang = lang; boot = boot; hatch = hatch'; life = None; notes = new.notes; closed = new.closed } in
      let new_is : new ≡ after = λ i. record { lang = lang_is i; boot = boot_is i; hatch = gives i; life = ended i; notes = new.notes; closed = new.closed } in
      subst (λ (x : DriverValue H C × DriverValue H C). TookAndTold staged end told remaining popped starved (tell x.0) (tell x.1)) (λ i. (is i, new_is i)) h
