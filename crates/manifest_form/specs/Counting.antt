-- The form of a state, as it is kept from edit to edit: how often the ranges don't go on, and the greatest number in each segment.
use Rattle.std.specs.Prelude.{◌≡◌, ℕ, ℤ, ◌+◌, true, nat_lt, ◌&&◌, Bool, if◌then◌else◌, List, [], ◌∷◌, Option, Some, None}
use Rattle.std.specs.Ordering.{int_eq, nat_cmp, ordering_then}
use Rattle.std.specs.declared.cmp.Ordering.{Ordering}
use Rattle.std.specs.List.{AllByRecursion}
use Rattle.std.specs.BTreeMap.Range.{entries_between}
use Rattle.std.specs.declared.ops.Bound.TheVariants.{Excluded, Unbounded}
use Rattle.flash_types.specs.declared.range.HandleRange.{HandleRange}
use Rattle.manifest_form.specs.declared.state.StoredFile.{StoredFile}
use Rattle.manifest_form.specs.declared.state.StoredFile.TheVariants.{Tiny, DeleteRange}
use Rattle.manifest_form.specs.declared.state.StoredSegment.{StoredSegment}
use Rattle.manifest_form.specs.Slots.{place_cmp}
use Rattle.manifest_form.specs.States.{has_any}

-- 1 where a range doesn't go on from this handle, or is empty
abbrev pub fault_at : Option ℤ → HandleRange → ℕ
fault_at None range = 1
fault_at (Some low) range = if int_eq range.low low && has_any range then 0 else 1

-- 1 where the next range, or the end of all handles, doesn't go on from this handle
abbrev pub next_fault : Option ℤ → Option HandleRange → ℕ
next_fault from (Some range) = fault_at from range
next_fault None None = 0
next_fault (Some low) None = 1

-- how often the ranges don't go on, from this handle to the end of all handles
abbrev pub faults : Option ℤ → List StoredSegment → ℕ
faults from [] = next_fault from None
faults from (s ∷ ss) = fault_at from s.range + faults s.range.high ss

-- where the ranges end
abbrev pub end_from : Option ℤ → List StoredSegment → Option ℤ
end_from from [] = from
end_from from (s ∷ ss) = end_from s.range.high ss

abbrev pub first_range : List StoredSegment → Option HandleRange
first_range [] = None
first_range (s ∷ ss) = Some s.range

-- A count of faults is right, if it is known.
abbrev pub Counts : Option ℕ → ℕ → Type 0
Counts None n = Unit {0}
Counts (Some count) n = count ≡ n

-- the entries before a place, and behind it
abbrev pub before : ℤ × ℕ → List ((ℤ × ℕ) × Option StoredSegment) → List ((ℤ × ℕ) × Option StoredSegment)
before place entries = entries_between place_cmp Unbounded (Excluded place) entries

abbrev pub behind : ℤ × ℕ → List ((ℤ × ℕ) × Option StoredSegment) → List ((ℤ × ℕ) × Option StoredSegment)
behind place entries = entries_between place_cmp (Excluded place) Unbounded entries

-- ---- the greatest number in a segment

abbrev pub top_of_name : Option ℕ → ℕ
top_of_name None = 0
top_of_name (Some file) = file

abbrev pub top_of_file : StoredFile → ℕ
top_of_file (Tiny file) = file
top_of_file (DeleteRange range) = 0

abbrev pub larger : ℕ → ℕ → ℕ
larger a b = if nat_lt a b then b else a

-- the greatest of a number and those of files
abbrev pub top_from : ℕ → List StoredFile → ℕ
top_from top [] = top
top_from top (file ∷ files) = top_from (larger top (top_of_file file)) files

abbrev pub top_of : StoredSegment → ℕ
top_of s = top_from (larger s.id (top_of_name s.stable)) s.delta

abbrev pub top_cmp : ℕ × ℕ → ℕ × ℕ → Ordering
top_cmp a b = ordering_then (nat_cmp a.0 b.0) (nat_cmp a.1 b.1)

-- each segment's greatest number is in a table, with its id
abbrev pub AllTopped : (ℕ × ℕ → Bool) → List StoredSegment → Type 0
AllTopped has segments = AllByRecursion (λ (s : StoredSegment). has (top_of s, s.id) ≡ true) segments
