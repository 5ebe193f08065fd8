-- Whether the segments are as they were when a work began, and what came to them since.
use Rattle.std.specs.Prelude.{◌≡◌, ◌==◌, ℕ, Option, Some, None, List, [], ◌∷◌, find, option_map, if◌then◌else◌}
use Rattle.delta_layer.specs.declared.view.SegmentView.{SegmentView}
use Rattle.segment.specs.declared.segments.Stale.{Stale}
use Rattle.segment_list.specs.Slots.{Slotted}
use Rattle.segment_install.specs.Slots.{Fits}

-- a segment is gone, or at another epoch than expected
abbrev pub fault_at : ℕ → Option ℕ → Option Stale
fault_at expected None = Some (record { expected = expected; found = None })
fault_at expected (Some epoch) = if epoch == expected then None else Some (record { expected = expected; found = Some epoch })

module _ {G : Type 0} where
  -- the segment of this number
  abbrev pub slot_of : ℕ → List (Slotted G) → Option (Slotted G)
  slot_of id slots = find (λ (s : Slotted G). s.id == id) slots

  -- its epoch
  abbrev pub epoch_of : ℕ → List (Slotted G) → Option ℕ
  epoch_of id slots = option_map (λ (s : Slotted G). s.epoch) (slot_of id slots)

  -- the first of the views whose segment isn't as it was
  abbrev pub first_fault : List (Slotted G) → List (SegmentView G) → Option Stale
  first_fault slots [] = None
  first_fault slots (v ∷ vs) = elim (fault_at v.epoch (epoch_of v.seg slots)) [ Some fault ↦ Some fault | None ↦ first_fault slots vs ]

  -- the view's segment, if it is there at the view's epoch, has only grown
  abbrev pub FitsIn : List (Slotted G) → SegmentView G → Type 0
  FitsIn slots v = (s : Slotted G) → slot_of v.seg slots ≡ Some s → s.epoch ≡ v.epoch → Fits v s
