-- What a replica's segments are in a manifest.
use Rattle.std.specs.Prelude.{◌≡◌, ℕ, take, Option, Some, None}
use Rattle.std.specs.List.{filter_map}
use Rattle.column_file.specs.declared.file.ColumnFile.{ColumnFile}
use Rattle.column_file.specs.declared.file.ColumnFile.TheVariants as file
use Rattle.manifest_form.specs.declared.state.StoredFile.{StoredFile}
use Rattle.manifest_form.specs.declared.state.StoredFile.TheVariants as stored
use Rattle.manifest_form.specs.declared.state.StoredSegment.{StoredSegment}
use Rattle.segment_list.specs.Slots.{Slotted}

-- a file of a delta as a manifest names it; a block in memory has no name
abbrev pub name_of : ColumnFile → Option StoredFile
name_of (file.Mem block) = None
name_of (file.Tiny number block) = Some (stored.Tiny number)
name_of (file.DeleteRange range) = Some (stored.DeleteRange range)

module _ {G : Type 0} where
  -- a segment with the files that are named
  abbrev pub stored_of : Slotted G → StoredSegment
  stored_of s = record { id = s.id; range = s.range; stable = s.stable_number; delta = filter_map name_of (take s.named s.files) }
