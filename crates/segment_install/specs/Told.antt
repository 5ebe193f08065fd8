-- What the new slots say, in the terms of the laws on what takes the place of segments.
use Rattle.std.specs.Prelude.{◌≡◌, ℕ, ◌≤◌, ◌-◌, Option, List, take, drop}
use Rattle.column_block.specs.declared.cell.Version.{Version}
use Rattle.column_file.specs.declared.file.ColumnFile.TheVariants.{Tiny}
use Rattle.delta_layer.specs.declared.built.Piece.{Piece}
use Rattle.prefix_laws.specs.Tagged.{Tagged, tagged_of}
use Rattle.prefix_laws.specs.Views.{Side}
use Rattle.segment_laws.specs.Given.{both_of, half_of}
use Rattle.segment_laws.specs.Runs.{run_of, with_run}
use Rattle.segment_list.specs.Slots.{Slotted, IsTagged, tagged, tags_of, told_of}
use Rattle.segment_install.specs.declared.part.Part.{Part}
use Rattle.segment_install.specs.Slots.{compacted_slot, half_slot, joined_slot, merged_slot}

module _ {G : Type 0} where
  -- the files of a slot with their tags: the first n, and those behind them
  abbrev pub all_told : Slotted G → List Tagged
  all_told s = tagged (tags_of s) s.files

  abbrev pub taken_told : ℕ → Slotted G → List Tagged
  taken_told n s = take n (all_told s)

  abbrev pub rest_told : ℕ → Slotted G → List Tagged
  rest_told n s = drop n (all_told s)

  -- a slot as one of two that become one, with the versions of its stable part and a view of its first n files
  abbrev pub side_of : ℕ → List Version → Slotted G → Side
  side_of n stable s = record { range = s.range; stable = stable; taken = taken_told n s; named = take (s.named - n) (rest_told n s); more = drop (s.named - n) (rest_told n s) }

-- The slot of a delta merge says what came since, above its own versions.
abbrev pub MergedSlotsSayTheRest : Type 0 → Type 0
MergedSlotsSayTheRest G = (n : ℕ) (part : Option (Part G)) (versions : List Version) (s : Slotted G) → told_of versions (merged_slot n part s) ≡ tagged_of s.range versions (rest_told n s)

-- A half of a split says its part of that.
abbrev pub HalfSlotsSayTheirPart : Type 0 → Type 0
HalfSlotsSayTheirPart G = (id : ℕ) (part : Option (Part G)) (n : ℕ) (piece : Piece) (s : Slotted G) → IsTagged s → told_of piece.versions (half_slot id piece.range part n s) ≡ half_of piece (rest_told n s)

-- The slot of a merge says what came since to both, each kept to its own handles.
abbrev pub JoinedSlotsSayBoth : Type 0 → Type 0
JoinedSlotsSayBoth G = (id : ℕ) (part : Option (Part G)) (n m : ℕ) (piece : Piece) (below beside : List Version) (l r : Slotted G) → IsTagged l → IsTagged r → told_of piece.versions (joined_slot id piece.range part n l m r) ≡ both_of (side_of n below l) (side_of m beside r) piece

-- The slot of a compaction says the versions of the run in its place.
abbrev pub CompactedSlotsSayTheRun : Type 0 → Type 0
CompactedSlotsSayTheRun G = (from to file : ℕ) (stable : List Version) (s : Slotted G) → IsTagged s → from ≤ to → to ≤ s.named → told_of stable (compacted_slot from to (Tiny file (run_of s.files from to)) s) ≡ tagged_of s.range stable (with_run 0 s.files from to (all_told s))
