-- A state, whole, as the edits of one record.
use Rattle.std.specs.Prelude.{◌≡◌, ◌≢◌, ℕ, ◌<◌, true, map, List, [], ◌∷◌, ◌++◌, Option, Some, None}
use Rattle.std.specs.Coded.{×_prop, →_prop, Unit-prop}
use Rattle.manifest_form.specs.declared.state.StoredSegment.{StoredSegment}
use Rattle.manifest_form.specs.declared.state.State.{State}
use Rattle.manifest_form.specs.declared.state.Edit.{Edit}
use Rattle.manifest_form.specs.declared.state.Edit.TheVariants.{Next, Segment, High, SafePoint, Regions, Count}
use Rattle.manifest_form.specs.States.{is_formed, after_record}

-- no segment has this id
abbrev pub HasNone : ℕ → List StoredSegment → Type 0
HasNone id [] = Unit {0}
HasNone id (segment ∷ rest) = (segment.id ≢ id) × HasNone id rest

-- No two segments have the same id. It is so of every state that edits made, since an edit replaces the segment with its id.
abbrev pub IdsDiffer : List StoredSegment → Type 0
IdsDiffer [] = Unit {0}
IdsDiffer (segment ∷ rest) = HasNone segment.id rest × IdsDiffer rest

empty_prop : IsProp ⊥
empty_prop a b = absurd a

HasNone-prop : (id : ℕ) (segments : List StoredSegment) → IsProp (HasNone id segments)
HasNone-prop id [] = Unit-prop
HasNone-prop id (segment ∷ rest) = ×_prop (→_prop empty_prop) (HasNone-prop id rest)

-- it has one proof at most, so it may be a ghost field
pub IdsDiffer-prop : (segments : List StoredSegment) → IsProp (IdsDiffer segments)
IdsDiffer-prop [] = Unit-prop
IdsDiffer-prop (segment ∷ rest) = ×_prop (HasNone-prop segment.id rest) (IdsDiffer-prop rest)

-- the state with another Next
abbrev pub with_next : ℕ → State → State
with_next next s = record s { next = next }

abbrev pub region_edits : Option ℕ → List Edit
region_edits None = []
region_edits (Some file) = Regions file ∷ []

abbrev pub count_edits : Option ℕ → List Edit
count_edits None = []
count_edits (Some entries) = Count entries ∷ []

-- what a state has besides Next and its segments
abbrev pub other_edits : State → List Edit
other_edits s = High s.high s.chain ∷ SafePoint s.safe_point ∷ (region_edits s.regions ++ count_edits s.count)

-- all that a state has, with this Next
abbrev pub whole_edits : ℕ → State → List Edit
whole_edits next s = Next next ∷ (map (λ (segment : StoredSegment). Segment segment) s.segments ++ other_edits s)

-- A record of a whole state, with a Next above the old one, makes that state of nothing, in the file whose number was the old Next.
abbrev pub WholeStatesAreDoneAgain : Type 0
WholeStatesAreDoneAgain = (file next : ℕ) (s : State) → s.next < next → is_formed file s ≡ true → IdsDiffer s.segments → after_record s.next None (whole_edits next s) ≡ Some (with_next next s)
