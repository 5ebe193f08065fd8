-- The snapshot that a read takes of a replica's segments.
use Rattle.std.specs.Prelude.{◌≡◌, ℕ, Bool, true, List, [], ◌∷◌, ◌++◌, map, filter, int_le}
use Rattle.std.specs.List.{All}
use Rattle.std.specs.Option.{ForSome}
use Rattle.flash_types.specs.Ranges.{least_handle}
use Rattle.flash_types.specs.declared.range.HandleRange.{HandleRange}
use Rattle.flash_types.specs.declared.refusal.Cut.{Cut}
use Rattle.delta_layer.specs.declared.view.SegmentView.{SegmentView}
use Rattle.stable_file.specs.Opened.{ArePacks, packs_of}
use Rattle.stable_file.specs.declared.file.StableFile.{StableFile}
use Rattle.learner_read.specs.Pieces.{is_needed}
use Rattle.learner_read.specs.declared.snapshot.Snapshot.{Snapshot}
use Rattle.segment_list.specs.Slots.{Slotted, view_of}

module _ {G : Type 0} where
  -- whether a read with this clip and these cuts needs the segment
  abbrev pub needs_slot : HandleRange → List Cut → Slotted G → Bool
  needs_slot clip cuts s = is_needed clip cuts s.range

  -- the views of the segments that it needs, in their order
  abbrev pub needed_views : HandleRange → List Cut → List (Slotted G) → List (SegmentView G)
  needed_views clip cuts slots = map view_of (filter (needs_slot clip cuts) slots)

  -- pieces with the view of one more segment, where the read needs it
  abbrev pub with_slot : HandleRange → List Cut → Slotted G → List (SegmentView G) → List (SegmentView G)
  with_slot clip cuts s pieces = pieces ++ needed_views clip cuts (s ∷ [])

  -- the packs of its stable part, if it has one, are those of an open file
  abbrev pub HasOpenFile : SegmentView G → Type 0
  HasOpenFile piece = ForSome piece.stable (λ (file : StableFile G). ArePacks (packs_of file))

  -- these are the views of the segments that it needs, whose stable parts are open
  pub record AreNeeded (clip : HandleRange) (cuts : List Cut) (slots : List (Slotted G)) (pieces : List (SegmentView G)) : Type 0 where
    pub views : pieces ≡ needed_views clip cuts slots
    pub opened : All HasOpenFile pieces

  -- It is the snapshot with these parts, of the segments that the read needs. What its types tell is said too: the clip begins at a handle that a row may have, and the stable files are open.
  pub record IsSnapshotOf (slots : List (Slotted G)) (at : ℕ) (wanted : HandleRange) (seen : List Cut) (applied files most : ℕ) (snapshot : Snapshot G) : Type 0 where
    pub ts : snapshot.ts ≡ at
    pub clip : snapshot.clip ≡ wanted
    pub cuts : snapshot.cuts ≡ seen
    pub pieces : snapshot.pieces ≡ needed_views wanted seen slots
    pub count : snapshot.count ≡ applied
    pub generation : snapshot.generation ≡ files
    pub pack_rows : snapshot.pack_rows ≡ most
    pub begins : int_le least_handle wanted.low ≡ true
    pub opened : All HasOpenFile snapshot.pieces
