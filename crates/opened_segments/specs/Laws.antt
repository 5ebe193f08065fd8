-- What an opening tells of the segments that an image has.
use Rattle.std.specs.Prelude.{◌≡◌, ℕ, List, map}
use Rattle.std.specs.List.{AllByRecursion}
use Rattle.flash_io.specs.Image.{Image}
use Rattle.column_block.specs.declared.column.Column.{Column}
use Rattle.good_replica.specs.Trail.{Segment}
use Rattle.manifest_form.specs.declared.state.StoredSegment.{StoredSegment}
use Rattle.segment_list.specs.Slots.{Slotted}
use Rattle.segment_snapshot.specs.Rights.{AreReadable, whole}
use Rattle.store_image.specs.Images.{AreSegmentsRead}
use Rattle.segment_flush.specs.Names.{stored_of}
use Rattle.opened_segments.specs.Faults.{IsFirst, faults_in}
use Rattle.opened_segments.specs.Opened.{IsSlotIn}
use Rattle.opened_segments.specs.declared.fault.OpenFault.{OpenFault}

-- the stable parts read, and the segments are what the slots have
pub record AreTold {G : Type 0} (bytes : G → List ℕ) (segments : List Segment) (slots : List (Slotted G)) : Type 0 where
  pub readable : AreReadable bytes slots
  pub same : segments ≡ map (whole bytes) slots

-- Where an image has segments whose files all read, the slots have what these segments have, and their stable parts read.
abbrev pub OpenedSegmentsAreRead : Type 0 → Type 0
OpenedSegmentsAreRead G = (bytes : G → List ℕ) (own : ℕ) (c : Image) (columns : List Column) (slots : List (Slotted G)) (segments : List Segment)
    → AllByRecursion (IsSlotIn bytes own c columns) slots → AreSegmentsRead own c columns (map stored_of slots) segments → AreTold bytes segments slots

-- Where the stable parts read, the image has the segments of the slots.
abbrev pub ReadableSegmentsAreThere : Type 0 → Type 0
ReadableSegmentsAreThere G = (bytes : G → List ℕ) (own : ℕ) (c : Image) (columns : List Column) (slots : List (Slotted G))
    → AllByRecursion (IsSlotIn bytes own c columns) slots → AreReadable bytes slots → AreSegmentsRead own c columns (map stored_of slots) (map (whole bytes) slots)

-- Such an image has no fault.
abbrev pub ReadSegmentsHaveNoFault : Type 0
ReadSegmentsHaveNoFault = (own : ℕ) (c : Image) (columns : List Column) (stored : List StoredSegment) (segments : List Segment) (e : OpenFault)
    → AreSegmentsRead own c columns stored segments → IsFirst e (faults_in own c columns stored) → ⊥
