use Rattle.std.proofs.Common.{◌≡◌, take}
use Rattle.std.specs.List.{filter_map}
use Rattle.segment_flush.specs.Names.{name_of}
use Rattle.install_edits.proofs.stored.first_names.Given as goal

abbrev pub invariant-loop-i : goal.invariant-loop-i
invariant-loop-i l = l.names ≡ filter_map name_of (take l.i l.layer)
