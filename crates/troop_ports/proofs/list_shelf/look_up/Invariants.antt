use Rattle.std.proofs.Common.{◌≡◌, drop, map}
use Rattle.troop_ports.specs.Shelves.{bytes_under}
use Rattle.troop_ports.specs.ListShelves.{file_of}
use Rattle.troop_ports.proofs.list_shelf.look_up.Given as goal

-- none of the files looked at has the name
abbrev pub invariant-loop-file : goal.invariant-loop-file
invariant-loop-file l = bytes_under l.name (map file_of l.files) ≡ bytes_under l.name (map file_of (drop l.file-index l.files))
