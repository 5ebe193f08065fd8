-- How a state's segments are kept: each in a slot at its place, and found by its id.
use Rattle.std.specs.Prelude.{◌≡◌, ℕ, ℤ, ◌<◌, ◌+◌, ◌^◌, Bool, true, false, nat_eq, ◌&&◌, if◌then◌else◌, List, [], ◌∷◌, Option, Some, None}
use Rattle.std.specs.Ordering.{nat_cmp, int_cmp, int_eq, ordering_then}
use Rattle.std.specs.declared.cmp.Ordering.{Ordering}
use Rattle.std.specs.Map.{values_of}
use Rattle.std.specs.List.{AllByRecursion}
use Rattle.flash_types.specs.declared.range.HandleRange.{HandleRange}
use Rattle.manifest_form.specs.declared.state.StoredSegment.{StoredSegment}
use Rattle.manifest_form.specs.declared.state.Edit.{Edit}
use Rattle.manifest_form.specs.States.{segment_below, has_any}
use Rattle.manifest_form.specs.declared.state.Edit.TheVariants.{Next, Segment, Drop, High, SafePoint, Regions, Count}

-- Places rise by the low end, and behind that by the turn at which a segment was put.
abbrev pub place_cmp : ℤ × ℕ → ℤ × ℕ → Ordering
place_cmp a b = ordering_then (int_cmp a.0 b.0) (nat_cmp a.1 b.1)

-- the segments that stand in slots, in order
abbrev pub somes : List (Option StoredSegment) → List StoredSegment
somes [] = []
somes (None ∷ slots) = somes slots
somes (Some s ∷ slots) = s ∷ somes slots

-- the segments of a table of slots
abbrev pub present : List ((ℤ × ℕ) × Option StoredSegment) → List StoredSegment
present entries = somes (values_of entries)

-- A slot's segment begins where its place says, was put before this turn, and is found by its id.
abbrev pub Fits : (ℕ → Option (ℤ × ℕ)) → ℕ → (ℤ × ℕ) × Option StoredSegment → Type 0
Fits found turn (place, None) = Unit {0}
Fits found turn (place, Some s) = (s.range.low ≡ place.0) × (place.1 < turn) × (found s.id ≡ Some place)

abbrev pub AllFit : (ℕ → Option (ℤ × ℕ)) → ℕ → List ((ℤ × ℕ) × Option StoredSegment) → Type 0
AllFit found turn entries = AllByRecursion (Fits found turn) entries

-- whether a segment with this id stands in what a look-up gives
abbrev pub has_id : ℕ → Option (Option StoredSegment) → Bool
has_id id None = false
has_id id (Some None) = false
has_id id (Some (Some s)) = nat_eq s.id id

-- the range of the segment with this id, if it stands in what a look-up gives
abbrev pub range_of : ℕ → Option (Option StoredSegment) → Option HandleRange
range_of id None = None
range_of id (Some None) = None
range_of id (Some (Some s)) = if nat_eq s.id id then Some s.range else None

-- the turn behind an edit: a segment that is put takes one
abbrev pub turn_after : Edit → ℕ → ℕ
turn_after (Next file) turn = turn
turn_after (Segment s) turn = turn + 1
turn_after (Drop id) turn = turn
turn_after (High entries chain) turn = turn
turn_after (SafePoint ts) turn = turn
turn_after (Regions file) turn = turn
turn_after (Count entries) turn = turn

-- There is a slot for the segment that the edit puts at this turn, and its id is in the table of ids.
abbrev pub HasRoom : (ℤ × ℕ → Bool) → (ℕ → Bool) → Edit → ℕ → Type 0
HasRoom slot known (Next file) turn = Unit {0}
HasRoom slot known (Segment s) turn = (turn + 1 < 2 ^ 64) × (slot (s.range.low, turn) ≡ true) × (known s.id ≡ true)
HasRoom slot known (Drop id) turn = Unit {0}
HasRoom slot known (High entries chain) turn = Unit {0}
HasRoom slot known (SafePoint ts) turn = Unit {0}
HasRoom slot known (Regions file) turn = Unit {0}
HasRoom slot known (Count entries) turn = Unit {0}

-- There is room for each of the edits, the first of them at this turn.
abbrev pub HaveRoom : (ℤ × ℕ → Bool) → (ℕ → Bool) → List Edit → ℕ → Type 0
HaveRoom slot known [] turn = Unit {0}
HaveRoom slot known (edit ∷ edits) turn = HasRoom slot known edit turn × HaveRoom slot known edits (turn_after edit turn)

-- ---- the form, slot by slot

abbrev pub slot_below : ℕ → Option StoredSegment → Bool
slot_below next None = true
slot_below next (Some s) = segment_below next s

-- where the ranges go on behind a slot, if they went on there; the first None is a gap
abbrev pub end_of : Option ℤ → Option StoredSegment → Option (Option ℤ)
end_of from None = Some from
end_of None (Some s) = None
end_of (Some low) (Some s) = if int_eq s.range.low low && has_any s.range then Some s.range.high else None
