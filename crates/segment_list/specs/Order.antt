-- When a slot is in order: the part of a replica's invariant that speaks of one slot.
use Rattle.std.specs.Prelude.{◌≡◌, ℕ, ◌<◌, ◌≤◌, true, false, take, drop}
use Rattle.std.specs.List.{AllByRecursion}
use Rattle.column_block.specs.declared.cell.Version.{Version}
use Rattle.column_file.specs.declared.file.ColumnFile.{ColumnFile}
use Rattle.column_file.specs.declared.file.ColumnFile.TheVariants.{Mem, Tiny, DeleteRange}
use Rattle.delta_layer.specs.Files.{is_mem, is_tiny}
use Rattle.flash_types.specs.declared.range.HandleRange.{HandleRange}
use Rattle.segment_list.specs.Slots.{Slotted, IsTagged, is_in}

-- each version that the file has lies in the range
abbrev pub LiesIn : HandleRange → ColumnFile → Type 0
LiesIn range (Mem block) = AllByRecursion (λ (v : Version). is_in range v ≡ true) block
LiesIn range (Tiny file block) = AllByRecursion (λ (v : Version). is_in range v ≡ true) block
LiesIn range (DeleteRange other) = Unit {0}

-- Behind what is named stand files of the entries that were applied after the first `committed` ones, and up to the last. They need not stand in the order of their tags.
pub record IsSlot {G : Type 0} (committed last : ℕ) (s : Slotted G) : Type 0 where
  pub tagged : IsTagged s
  pub tags : AllByRecursion (λ (t : ℕ). (committed < t) × (t ≤ last)) s.tags
  pub named : AllByRecursion (λ (f : ColumnFile). is_mem f ≡ false) (take s.named s.files)
  pub behind : AllByRecursion (λ (f : ColumnFile). is_tiny f ≡ false) (drop s.named s.files)
  pub rows : AllByRecursion (LiesIn s.range) s.files
