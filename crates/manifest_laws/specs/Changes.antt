-- Edits that put a run of segments in the place of another one.
use Rattle.std.specs.Prelude.{◌≡◌, ◌≢◌, ◌⊎◌, ℕ, ◌<◌, ℤ, true, List, [], ◌∷◌, Option, Some}
use Rattle.manifest_form.specs.declared.state.StoredSegment.{StoredSegment}
use Rattle.manifest_form.specs.declared.state.Edit.{Edit}
use Rattle.manifest_form.specs.declared.state.Edit.TheVariants.{Segment, Drop, Regions}
use Rattle.flash_types.specs.Ranges.{has_any}
use Rattle.manifest_form.specs.States.{placed, segment_below}
use Rattle.manifest_form.specs.Whole.{HasNone}

-- ---- what edits put and drop

-- the segments that edits put, in order
abbrev pub put_by : List Edit → List StoredSegment
put_by [] = []
put_by (Segment segment ∷ edits) = segment ∷ put_by edits
put_by (other ∷ edits) = put_by edits

-- the ids of segments that edits put or drop, in order
abbrev pub ids_of : List Edit → List ℕ
ids_of [] = []
ids_of (Segment segment ∷ edits) = segment.id ∷ ids_of edits
ids_of (Drop id ∷ edits) = id ∷ ids_of edits
ids_of (other ∷ edits) = ids_of edits

-- it is none of these
abbrev pub IsOther : ℕ → List ℕ → Type 0
IsOther id [] = Unit {0}
IsOther id (first ∷ rest) = (id ≢ first) × IsOther id rest

-- it is one of these
abbrev pub IsAmong : ℕ → List ℕ → Type 0
IsAmong id [] = ⊥
IsAmong id (first ∷ rest) = (id ≡ first) ⊎ IsAmong id rest

-- a segment that is put isn't put again or dropped later
abbrev pub PutOnce : List Edit → Type 0
PutOnce [] = Unit {0}
PutOnce (Segment segment ∷ edits) = IsOther segment.id (ids_of edits) × PutOnce edits
PutOnce (other ∷ edits) = PutOnce edits

-- edits that put and drop no segment
abbrev pub TouchNone : List Edit → Type 0
TouchNone [] = Unit {0}
TouchNone (Segment segment ∷ edits) = ⊥
TouchNone (Drop id ∷ edits) = ⊥
TouchNone (other ∷ edits) = TouchNone edits

-- one of the segments has this id
abbrev pub HasId : ℕ → List StoredSegment → Type 0
HasId id [] = ⊥
HasId id (segment ∷ rest) = (segment.id ≡ id) ⊎ HasId id rest

-- each of the ids is that of one of these segments, or of none of all
abbrev pub EachFree : List StoredSegment → List StoredSegment → List ℕ → Type 0
EachFree all olds [] = Unit {0}
EachFree all olds (id ∷ ids) = (HasId id olds ⊎ HasNone id all) × EachFree all olds ids

-- the id of each segment is among these
abbrev pub EachGoes : List ℕ → List StoredSegment → Type 0
EachGoes ids [] = Unit {0}
EachGoes ids (segment ∷ rest) = IsAmong segment.id ids × EachGoes ids rest

-- the numbers that an edit brings are below this one
abbrev pub EditBelow : ℕ → Edit → Type 0
EditBelow next (Segment segment) = segment_below next segment ≡ true
EditBelow next (Regions file) = file < next
EditBelow next other = Unit {0}

abbrev pub EachBelow : ℕ → List Edit → Type 0
EachBelow next [] = Unit {0}
EachBelow next (edit ∷ edits) = EditBelow next edit × EachBelow next edits

-- ---- runs

-- The ranges follow each other from one handle to another, and none is empty. None: behind the last handle.
abbrev pub Runs : Option ℤ → List StoredSegment → Option ℤ → Type 0
Runs from [] to = from ≡ to
Runs from (segment ∷ rest) to = (from ≡ Some segment.range.low) × (has_any segment.range ≡ true) × Runs segment.range.high rest to

-- these run wherever those do
abbrev pub TakesOver : List StoredSegment → List StoredSegment → Type 0
TakesOver olds news = (from to : Option ℤ) → Runs from olds to → Runs from news to

-- segments put among others, one after the other, in the order of the low ends
abbrev pub put_among : List StoredSegment → List StoredSegment → List StoredSegment
put_among others [] = others
put_among others (segment ∷ rest) = put_among (placed segment others) rest

-- ---- segments that change in their places

-- Each of the new ones has the id and the range of the old one in its place, and those of them that are others than it are put, in order; more may be.
abbrev pub Renews : List StoredSegment → List StoredSegment → List StoredSegment → Type 0
Renews [] [] puts = puts ≡ []
Renews [] (new ∷ news) puts = ⊥
Renews (old ∷ olds) [] puts = ⊥
Renews (old ∷ olds) (new ∷ news) puts =
    (new.id ≡ old.id) × (new.range ≡ old.range) × (((old ≡ new) × Renews olds news puts) ⊎ ((rest : List StoredSegment) × (puts ≡ new ∷ rest) × Renews olds news rest))
