-- Files that are kept to a range, files that say nothing, and the files of an entry.
use Rattle.std.specs.Prelude.{◌≡◌, ℕ, ℤ, Bool, true, false, Option, Some, None, List, [], ◌∷◌, ◌++◌, map, filter}
use Rattle.column_block.specs.declared.cell.Version.{Version}
use Rattle.flash_types.specs.Ranges.{has_any}
use Rattle.flash_types.specs.declared.range.HandleRange.{HandleRange}
use Rattle.good_replica.specs.Effect.{clipped, common}
use Rattle.good_replica.specs.Trail.{DeltaFile, Puts, Clears, steps_on}
use Rattle.prefix_laws.specs.Tagged.{Tagged, TaggedSegment, files_at, tagged_of, with_tag}

-- ---- files that say nothing

-- whether a file can say something of a handle at all
abbrev pub speaks : DeltaFile → Bool
speaks (Puts []) = false
speaks (Puts (v ∷ vs)) = true
speaks (Clears range) = has_any range

abbrev pub says : Tagged → Bool
says f = speaks f.file

-- what some files say of a handle is at each count what the others say
abbrev pub SaySame : ℤ → List Tagged → List Tagged → Type 0
SaySame h some others = (k : ℕ) → steps_on h (files_at k some) ≡ steps_on h (files_at k others)

-- ---- kept to a range

abbrev pub clip_one : HandleRange → Tagged → Tagged
clip_one range f = with_tag f.tag (clipped range f.file)

-- kept to a range, without those that say nothing then
abbrev pub clip : HandleRange → List Tagged → List Tagged
clip range files = filter says (map (clip_one range) files)

-- The files that two segments have when they become one: what is named of the left one and of the right one, and then the others of the left one and of the right one, each kept to its own range.
abbrev pub in_order : HandleRange → HandleRange → List Tagged → List Tagged → List Tagged → List Tagged → List Tagged
in_order left right left_named right_named left_more right_more = clip left left_named ++ (clip right right_named ++ (clip left left_more ++ clip right right_more))

-- ---- an entry that is applied

-- the delete-range of an entry, kept to a range, as a file with a tag
abbrev pub clears_part : ℕ → HandleRange → Option HandleRange → List Tagged
clears_part tag range None = []
clears_part tag range (Some other) = with_tag tag (Clears (common range other)) ∷ []

-- the versions of an entry, kept to a range, as a file with a tag
abbrev pub puts_part : ℕ → HandleRange → List Version → List Tagged
puts_part tag range versions = with_tag tag (clipped range (Puts versions)) ∷ []

-- A segment after an entry: the entry's delete-range and then its versions come last, but for what says nothing.
abbrev pub absorb : ℕ → Option HandleRange → List Version → TaggedSegment → TaggedSegment
absorb tag clears adds s = tagged_of s.range s.stable (s.files ++ filter says (clears_part tag s.range clears ++ puts_part tag s.range adds))
