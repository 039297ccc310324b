-- The table of `perform`: what each outcome says of the input, the output, the shelf, the net and the hatch.
use Rattle.std.specs.Prelude.{◌≡◌, ◌⊎◌, ℕ, ◌<◌, ◌≤◌, List, [], ◌++◌, length, Bool, true, false, Option, None, Some, IfSome, IsSomeAnd, Result, Ok}
use Rattle.troop_entry.specs.declared.call.Lang.{Lang}
use Rattle.troop_entry.specs.declared.note.Note.{Note}
use Rattle.troop_ports.specs.Bytes.{at_end}
use Rattle.troop_ports.specs.Doors.{first_of, and_last}
use Rattle.troop_ports.specs.Faults.{Counted, AddsCount}
use Rattle.troop_ports.specs.Nets.{Site, asked_at}
use Rattle.troop_ports.specs.Shelves.{File, bytes_under}
use Rattle.wire_print.specs.Printed.{printed_line, journal_data}
use Rattle.block_queue.specs.declared.item.Item.{Item}
use Rattle.child_driver.specs.Drivers.{DriverValue}
use Rattle.stage_state.specs.Staged.{Staged, machine}
use Rattle.activities.specs.declared.commands.Flow.{Flow}
use Rattle.activities.specs.declared.commands.Flow.TheVariants as flow
use Rattle.activities.specs.declared.errors.PerformError.{PerformError}
use Rattle.activities.specs.declared.errors.PerformError.TheVariants as error
use Rattle.activities.specs.Commands.{performer_line}
use Rattle.activities.specs.Counts.{CountsActivity, CountsInput, CountsOutput}
use Rattle.activities.specs.Driving.{ToldDriver, told_driver}
use Rattle.performer.specs.declared.report.Ends.{Ends}
use Rattle.performer.specs.Ends.{error_of, error_or, first_error}
use Rattle.performer.specs.Opening.{down_line, OpeningFails, CountsOpening}
use Rattle.performer.specs.Performed.{SentBehindJoin, IsPlayedBy, TookAndTold, TypedAndShared}
use Rattle.replay_run.specs.Ports.{Port, port_of, IsCalm, IsFaulted, Took, TookPrefix}
use Rattle.troop_main.specs.Words.{Announced}
use Rattle.troop_main.specs.Serving.{IsUntouched, NetPort, IsAtSite, GaveNone}
use Rattle.troop_main.specs.Reports.{ReportsEnd}

-- ---- The boot text.

-- how many bytes a boot file may have
abbrev pub most_boot : ℕ
most_boot = 1048576

-- what a shelf tells before and after a run: its files, where it tells them, and its count of faults
pub record ShelfPort : Type 0 where
  pub files : Option (List File)
  pub faults_before : ℕ
  pub faults_after : ℕ

-- the port of a shelf that told these files, and of its counts of faults
abbrev pub shelf_port_of : Option (List File) → ℕ → ℕ → ShelfPort
shelf_port_of files before after = record { files = files; faults_before = before; faults_after = after }

-- no fault of the shelf was counted
abbrev pub IsCalmShelf : ShelfPort → Type 0
IsCalmShelf shelf = shelf.faults_after ≡ shelf.faults_before

-- this is what stands under the name of the boot file, within the limit; there is none where no file is named
abbrev pub IsBoot : Option (List ℕ) → ShelfPort → List ℕ → Type 0
IsBoot None shelf boot = IsCalmShelf shelf × (boot ≡ [])
IsBoot (Some name) shelf boot = IsCalmShelf shelf × (length boot ≤ most_boot) × IfSome shelf.files (λ files. bytes_under name files ≡ Some boot)

-- why the boot file of this name gave no boot text
abbrev pub FailsBoot : List ℕ → ShelfPort → PerformError → Type 0
FailsBoot name shelf error.ReadFault = Counted shelf.faults_before shelf.faults_after
FailsBoot name shelf error.WriteFault = ⊥
FailsBoot name shelf error.NetFault = ⊥
FailsBoot name shelf (error.BadInput line) = ⊥
FailsBoot name shelf error.TooMuch = IsCalmShelf shelf × IfSome shelf.files (λ files. IsSomeAnd (bytes_under name files) (λ bytes. most_boot < length bytes))
FailsBoot name shelf (error.Refused reply) = ⊥
FailsBoot name shelf (error.Dropped at) = ⊥
FailsBoot name shelf (error.BadPeer side line what) = ⊥
FailsBoot name shelf (error.LongRequest bytes) = ⊥
FailsBoot name shelf error.Memory = IsCalmShelf shelf

-- ---- The last lines.

-- the line of a journal
abbrev pub journal_line : ℕ → List Note → List ℕ
journal_line who notes = printed_line (journal_data who notes)

-- what is printed behind a run: the performer's line, and its journal's
abbrev pub closing_lines : List ℕ → ℕ → Staged → List Note → List ℕ
closing_lines name who staged notes = performer_line name who (machine staged) ++ journal_line who notes

-- these lines were printed, or what failed
abbrev pub PrintsLast : Option PerformError → List ℕ → Port → Type 0
PrintsLast None lines out = IsCalm out × Took out lines
PrintsLast (Some error.ReadFault) lines out = ⊥
PrintsLast (Some error.WriteFault) lines out = IsFaulted out × TookPrefix out lines
PrintsLast (Some error.NetFault) lines out = ⊥
PrintsLast (Some (error.BadInput line)) lines out = ⊥
PrintsLast (Some error.TooMuch) lines out = ⊥
PrintsLast (Some (error.Refused reply)) lines out = ⊥
PrintsLast (Some (error.Dropped at)) lines out = ⊥
PrintsLast (Some (error.BadPeer side line what)) lines out = ⊥
PrintsLast (Some (error.LongRequest bytes)) lines out = ⊥
PrintsLast (Some error.Memory) lines out = IsCalm out × IsUntouched out

-- ---- Links.

-- this address was asked for, and no other; or none was
abbrev pub AsksOnly : List ℕ → Option Site → Option Site → Type 0
AsksOnly addr before after = (after ≡ before) ⊎ (after ≡ asked_at addr before)

module _ {L : Type 0} where
  -- the net gave both links to the address that was asked for, the up link first, and else is as it was
  abbrev pub GaveBoth : L → L → NetPort L → Type 0
  GaveBoth up down net =
      (net.left_before ≡ first_of up (first_of down net.left_after)) × (net.back_after ≡ net.back_before) × (net.faults_after ≡ net.faults_before) × IsAtSite net

module _ {L : Type 0} (link_faults : L → ℕ) where
  -- the net gave this link to the address that was asked for, and it came back as it was, since the net counted a fault at the next one
  pub record GaveOne (net : NetPort L) : Type 0 where
    pub at_site : IsAtSite net
    pub link : L
    pub was_given : net.left_before ≡ first_of link net.left_after
    pub came_back : net.back_after ≡ and_last net.back_before link
    pub faults : ℕ
    pub fault : Counted net.faults_before faults
    pub count : AddsCount (link_faults link) faults net.faults_after

  -- the net counted a fault before it had given both links: it gave none, or one that came back
  abbrev pub FailsDial : NetPort L → Type 0
  FailsDial net = GaveNone net ⊎ GaveOne net

  -- the net gave both links to the address that was asked for, and has both back, the up link first; its count of faults rose by theirs, and by no more
  pub record AreRetired (up up_back down down_back : L) (net : NetPort L) : Type 0 where
    pub at_site : IsAtSite net
    pub were_given : net.left_before ≡ first_of up (first_of down net.left_after)
    pub came_back : net.back_after ≡ and_last (and_last net.back_before up_back) down_back
    pub faults : ℕ
    pub up_count : AddsCount (link_faults up_back) net.faults_before faults
    pub down_count : AddsCount (link_faults down_back) faults net.faults_after

-- ---- The run.

-- what all objects tell before and after a run: the input, the output, the shelf, the net's links, and the hatch
pub record Scene (L H : Type 0) : Type 0 where
  pub input : Port
  pub out : Port
  pub shelf : ShelfPort
  pub net : NetPort L
  pub hatch_before : H
  pub hatch_after : H

module _ {L H : Type 0} where
  -- the input and the output were left alone, and the hatch came back as it was
  abbrev pub IsUnplayed : Scene L H → Type 0
  IsUnplayed s = IsCalm s.input × IsUntouched s.input × IsCalm s.out × IsUntouched s.out × (s.hatch_after ≡ s.hatch_before)

  -- so was the net
  abbrev pub IsUndialled : Scene L H → Type 0
  IsUndialled s = (s.net.left_after ≡ s.net.left_before) × (s.net.back_after ≡ s.net.back_before) × (s.net.faults_after ≡ s.net.faults_before)

  -- there was no boot text, and nothing else was tried
  abbrev pub HasNoBoot : Announced → PerformError → Scene L H → Type 0
  HasNoBoot who cause s = IsSomeAnd who.boot (λ name. FailsBoot name s.shelf cause) × IsUndialled s × IsUnplayed s

-- what can be told of links, and of a hatch and its children
pub record TellingLinks (L H C : Type 0) : Type 0 where
  pub remaining : L → Option (List ℕ)
  pub written : L → Option (List ℕ)
  pub link_faults : L → ℕ
  pub buried : H → Option (List (List ℕ))
  pub hatch_faults : H → ℕ
  pub taken : C → Option (List ℕ)
  pub child_faults : C → ℕ

-- what a run of a performer leaves: the boot text; both links, as they were given and as they came back; the performer's number, its stage, how its commands and how all activities ended;
-- the notes of its journal, whether a life was closed, and the items popped; what the output had taken when all had ended, with its count of faults then; and why the last lines weren't printed
pub record Performance (L : Type 0) : Type 0 where
  pub boot : List ℕ
  pub up : L
  pub up_back : L
  pub down : L
  pub down_back : L
  pub number : ℕ
  pub staged : Staged
  pub commands : Result Flow PerformError
  pub ends : Ends
  pub notes : List Note
  pub closed : Bool
  pub popped : List Item
  pub printed : Option (List ℕ)
  pub print_faults : ℕ
  pub last : Option PerformError

module _ {L H C : Type 0} (tells : TellingLinks L H C) where
  -- a driver without a life tells this, by its language, its boot text, its hatch, its journal, and whether a life was closed
  abbrev pub idle_driver : Lang → List ℕ → H → List Note → Bool → ToldDriver
  idle_driver lang boot hatch notes closed = told_driver tells.buried tells.hatch_faults tells.taken tells.child_faults
      (let d : DriverValue H C = record { lang = lang; boot = boot; hatch = hatch; life = None; notes = notes; closed = closed } in d)

  -- both links couldn't be had, and nothing else was tried
  abbrev pub HasNoLinks : Announced → Scene L H → Type 0
  HasNoLinks who s = ((boot : List ℕ) × IsBoot who.boot s.shelf boot) × FailsDial tells.link_faults s.net × IsUnplayed s

  -- the opening failed over both links, by this cause
  pub record FailedOpening (who : Announced) (cause : PerformError) (s : Scene L H) : Type 0 where
    pub booted : (boot : List ℕ) × IsBoot who.boot s.shelf boot
    pub unplayed : IsUnplayed s
    pub up : L
    pub up_back : L
    pub down : L
    pub down_back : L
    pub retired : AreRetired tells.link_faults up up_back down down_back s.net
    pub fails : OpeningFails who.name who.lang cause (tells.remaining up) (tells.remaining up_back) (tells.written up) (tells.written up_back) (tells.written down) (tells.written down_back)
    pub counts : CountsOpening cause (tells.link_faults up) (tells.link_faults up_back) (tells.link_faults down) (tells.link_faults down_back)

  -- a performer ran between both links, and ended with this error, or well: all that its run says holds of the links that came back, the input, the output, and the hatch, and
  -- behind it the last lines were printed
  pub record IsPerformance (who : Announced) (end : Option PerformError) (s : Scene L H) (p : Performance L) : Type 0 where
    pub booted : IsBoot who.boot s.shelf p.boot
    pub retired : AreRetired tells.link_faults p.up p.up_back p.down p.down_back s.net
    pub sent : SentBehindJoin who.name who.lang p.number p.staged p.ends.up (tells.remaining p.up) (tells.remaining p.up_back) (tells.written p.up) (tells.written p.up_back)
    pub up_faults : CountsActivity p.ends.up (tells.link_faults p.up) (tells.link_faults p.up_back)
    pub asked : tells.written p.down_back ≡ at_end (tells.written p.down) (down_line p.number)
    pub took : TookAndTold p.staged p.ends.down (tells.remaining p.down) (tells.remaining p.down_back) p.popped p.ends.starved
        (idle_driver who.lang p.boot s.hatch_before [] false) (idle_driver who.lang p.boot s.hatch_after p.notes p.closed)
    pub down_faults : CountsActivity p.ends.down (tells.link_faults p.down) (tells.link_faults p.down_back)
    pub played : IsPlayedBy p.number p.staged
    pub typed : TypedAndShared p.staged who.name p.number p.commands p.ends.up p.ends.down s.input.before s.input.after s.out.before p.printed
    pub commands_are : p.ends.commands ≡ error_of p.commands
    pub read_faults : CountsInput p.commands s.input.faults_before s.input.faults_after
    pub write_faults : CountsOutput p.commands s.out.faults_before p.print_faults
    pub prints : PrintsLast p.last (closing_lines who.name p.number p.staged p.notes) (port_of p.printed s.out.after p.print_faults s.out.faults_after)
    pub end_is : end ≡ error_or (first_error p.ends) p.last

  -- a performer ran, and ended so
  abbrev pub HasPlayed : Announced → Option PerformError → Scene L H → Type 0
  HasPlayed who end s = (p : Performance L) × IsPerformance who end s p

  -- a performer ran well: its commands were read to their end or to a leave command, and its leave was sent and taken
  abbrev pub HasPlayedOut : Announced → Scene L H → Type 0
  HasPlayedOut who s = (p : Performance L) × IsPerformance who None s p × (p.commands ≡ Ok flow.Ended) × ((machine p.staged).leave_sent ≡ true) × ((machine p.staged).gone ≡ true)

  -- The table: what each outcome says.
  abbrev pub SaysPerformed : Announced → Option PerformError → Scene L H → Type 0
  SaysPerformed who None s = IsCalm s.input × IsCalm s.out × HasPlayedOut who s
  SaysPerformed who (Some error.ReadFault) s = HasNoBoot who error.ReadFault s ⊎ (IsFaulted s.input × HasPlayed who (Some error.ReadFault) s)
  SaysPerformed who (Some error.WriteFault) s = IsFaulted s.out × HasPlayed who (Some error.WriteFault) s
  SaysPerformed who (Some error.NetFault) s =
      Counted s.net.faults_before s.net.faults_after × (HasNoLinks who s ⊎ (FailedOpening who error.NetFault s ⊎ HasPlayed who (Some error.NetFault) s))
  SaysPerformed who (Some (error.BadInput line)) s = HasPlayed who (Some (error.BadInput line)) s
  SaysPerformed who (Some error.TooMuch) s = HasNoBoot who error.TooMuch s ⊎ HasPlayed who (Some error.TooMuch) s
  SaysPerformed who (Some (error.Refused reply)) s = FailedOpening who (error.Refused reply) s ⊎ HasPlayed who (Some (error.Refused reply)) s
  SaysPerformed who (Some (error.Dropped at)) s = HasPlayed who (Some (error.Dropped at)) s
  SaysPerformed who (Some (error.BadPeer side line what)) s = FailedOpening who (error.BadPeer side line what) s ⊎ HasPlayed who (Some (error.BadPeer side line what)) s
  SaysPerformed who (Some (error.LongRequest bytes)) s = FailedOpening who (error.LongRequest bytes) s ⊎ HasPlayed who (Some (error.LongRequest bytes)) s
  SaysPerformed who (Some error.Memory) s =
      (IsCalmShelf s.shelf × IsUndialled s × IsUnplayed s) ⊎ (FailedOpening who error.Memory s ⊎ HasPlayed who (Some error.Memory) s)

  -- a run of `perform` that ended with this status
  pub record Performs (who : Announced) (code : ℕ) (s : Scene L H) (err : Port) : Type 0 where
    pub end : Option PerformError
    pub says : SaysPerformed who end s
    pub reports : ReportsEnd end code err
