-- What a layer keeps beside its files.
use Rattle.std.specs.Prelude.{◌≡◌, ℕ, ◌+◌, ◌<◌, Some, List, length, map, take, slice_get}
use Rattle.std.specs.Arc.{arc_value}
use Rattle.column_file.specs.declared.file.ColumnFile.{ColumnFile}
use Rattle.delta_index.specs.Indexes.{Entry}
use Rattle.delta_layer.specs.declared.slots.Slot.{Slot}
use Rattle.delta_layer.specs.Files.{IsLayered, index_of}

abbrev pub files_in : List Slot → List ColumnFile
files_in slots = map (λ (slot : Slot). arc_value slot.file) slots

abbrev pub indexes_in : List Slot → List (List Entry)
indexes_in slots = map (λ (slot : Slot). arc_value slot.index) slots

-- beside each file the index over the files up to and with it
pub record AreSlots (files : List ColumnFile) (indexes : List (List Entry)) : Type 0 where
  pub layered : IsLayered files
  pub count : length indexes ≡ length files
  pub each : (i : ℕ) → i < length files → slice_get indexes i ≡ Some (index_of (take (i + 1) files))
