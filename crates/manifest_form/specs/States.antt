-- What edits do to a state, and which states a store may have.
use Rattle.std.specs.Prelude.{◌≡◌, ℕ, ℤ, Bool, true, false, ◌&&◌, not, nat_lt, nat_eq, int_lt, if◌then◌else◌, List, [], ◌∷◌, replicate, Option, Some, None}
use Rattle.std.specs.Ordering.{int_eq}
use Rattle.std.specs.List.{filter, list_all, list_any}
pub use Rattle.flash_types.specs.Ranges.{least_handle, has_any}
use Rattle.manifest_form.specs.declared.state.StoredFile.{StoredFile}
use Rattle.manifest_form.specs.declared.state.StoredFile.TheVariants.{Tiny, DeleteRange}
use Rattle.manifest_form.specs.declared.state.StoredSegment.{StoredSegment}
use Rattle.manifest_form.specs.declared.state.State.{State}
use Rattle.manifest_form.specs.declared.state.Edit.{Edit}
use Rattle.manifest_form.specs.declared.state.Edit.TheVariants.{Next, Segment, Drop, High, SafePoint, Regions, Count}

-- ---- what an edit does

-- a segment in its place by the low ends, behind those that begin where it does
abbrev pub placed : StoredSegment → List StoredSegment → List StoredSegment
placed segment [] = segment ∷ []
placed segment (first ∷ rest) = if int_lt segment.range.low first.range.low then segment ∷ first ∷ rest else first ∷ placed segment rest

abbrev pub without : ℕ → List StoredSegment → List StoredSegment
without id segments = filter (λ (segment : StoredSegment). not (nat_eq segment.id id)) segments

-- the state after an edit
abbrev pub done : State → Edit → State
done s (Next file) = record s { next = file }
done s (Segment segment) = record s { segments = placed segment (without segment.id s.segments) }
done s (Drop id) = record s { segments = without id s.segments }
done s (High entries chain) = record s { high = entries; chain = chain }
done s (SafePoint ts) = record s { safe_point = ts }
done s (Regions file) = record s { regions = Some file }
done s (Count entries) = record s { count = Some entries }

-- the state with these segments in the place of its own
abbrev pub with_segments : State → List StoredSegment → State
with_segments s segments = record s { segments = segments }

-- the state after edits, in order
abbrev pub all_done : State → List Edit → State
all_done s [] = s
all_done s (edit ∷ edits) = all_done (done s edit) edits

-- ---- which states a store may have

-- The ranges follow each other from this handle on, none is empty, and the last one has no end. None: no handle is left.
abbrev pub cover_from : Option ℤ → List StoredSegment → Bool
cover_from None [] = true
cover_from None (segment ∷ rest) = false
cover_from (Some low) [] = false
cover_from (Some low) (segment ∷ rest) = int_eq segment.range.low low && (has_any segment.range && cover_from segment.range.high rest)

abbrev pub name_below : ℕ → Option ℕ → Bool
name_below next None = true
name_below next (Some file) = nat_lt file next

abbrev pub file_below : ℕ → StoredFile → Bool
file_below next (Tiny file) = nat_lt file next
file_below next (DeleteRange range) = true

-- the segment's number and those of its files are below this one
abbrev pub segment_below : ℕ → StoredSegment → Bool
segment_below next segment = nat_lt segment.id next && (name_below next segment.stable && list_all (file_below next) segment.delta)

-- all numbers in use are below this one
abbrev pub all_below : ℕ → ℕ → State → Bool
all_below next file s = nat_lt file next && (name_below next s.regions && list_all (segment_below next) s.segments)

-- the segments hold every handle once, and all numbers, that of the manifest's file too, are below Next
abbrev pub is_formed : ℕ → State → Bool
is_formed file s = all_below s.next file s && cover_from (Some least_handle) s.segments

-- the state, if there is one, has this form
abbrev pub AllFormed : ℕ → Option State → Type 0
AllFormed file None = Unit {0}
AllFormed file (Some s) = is_formed file s ≡ true

-- ---- the records of a manifest

-- nothing was named
abbrev pub nothing : State
nothing = record { next = 0; segments = []; high = 0; chain = replicate 32 0; safe_point = 0; regions = None; count = None }

abbrev pub is_high : Edit → Bool
is_high (High entries chain) = true
is_high other = false

abbrev pub is_safe_point : Edit → Bool
is_safe_point (SafePoint ts) = true
is_safe_point other = false

-- the state that a record changes: the first one sets High and the safe point
abbrev pub changed : Option State → List Edit → Option State
changed (Some s) edits = Some s
changed None edits = if list_any is_high edits && list_any is_safe_point edits then Some nothing else None

-- the state after the edits, where that is one which a store may have
abbrev pub formed : ℕ → State → Option State
formed file s = if is_formed file s then Some s else None

abbrev pub after_record : ℕ → Option State → List Edit → Option State
after_record file before edits = elim (changed before edits) [ None ↦ None | Some s ↦ formed file (all_done s edits) ]
