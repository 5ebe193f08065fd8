-- What pieces that were built have of the segments that they take the place of.
use Rattle.std.specs.Prelude.{◌≡◌, ℕ, List, [], ◌∷◌, map}
use Rattle.column_block.specs.declared.cell.Version.{Version}
use Rattle.flash_types.specs.declared.range.HandleRange.{HandleRange}
use Rattle.good_replica.specs.Trail.{DeltaFile}
use Rattle.delta_layer.specs.declared.built.Piece.{Piece}
use Rattle.prefix_laws.specs.Clipped.{clip}
use Rattle.prefix_laws.specs.Tagged.{Tagged, TaggedSegment, file_in, tagged_of}
use Rattle.prefix_laws.specs.Views.{EachOfOne, HasAllOf, HasCollectionOf, IsParted, IsWithin, Side, rest_of}

-- one piece of the segment's range, with a collection of what the segment had
pub record HasCollected (safe : ℕ) (range : HandleRange) (stable : List Version) (files : List DeltaFile) (pieces : List Piece) : Type 0 where
  pub piece : Piece
  pub only : pieces ≡ piece ∷ []
  pub range_is : piece.range ≡ range
  pub collected : HasCollectionOf safe range stable files piece.versions

-- two pieces that part the segment's range, each with what the segment had of its handles
pub record HasHalves (range : HandleRange) (stable : List Version) (files : List DeltaFile) (pieces : List Piece) : Type 0 where
  pub low : Piece
  pub high : Piece
  pub only : pieces ≡ low ∷ high ∷ []
  pub parted : IsParted range low.range high.range
  pub low_inside : IsWithin low.range range
  pub high_inside : IsWithin high.range range
  pub low_has : HasAllOf low.range stable files low.versions
  pub high_has : HasAllOf high.range stable files high.versions

-- one piece of both ranges, with what each segment had of its handles
pub record HasBoth (left right : HandleRange) (left_stable right_stable : List Version) (left_files right_files : List DeltaFile) (pieces : List Piece) : Type 0 where
  pub piece : Piece
  pub only : pieces ≡ piece ∷ []
  pub begins : piece.range.low ≡ left.low
  pub ends : piece.range.high ≡ right.high
  pub one_of : EachOfOne left right piece.range
  pub left_has : HasAllOf left left_stable left_files piece.versions
  pub right_has : HasAllOf right right_stable right_files piece.versions

-- ---- the segments that they become

-- a half below its part of the later files
abbrev pub half_of : Piece → List Tagged → TaggedSegment
half_of piece rest = tagged_of piece.range piece.versions (clip piece.range rest)

-- what a merge has of two sides
abbrev pub HasBothOf : Side → Side → List Piece → Type 0
HasBothOf left right pieces = HasBoth left.range right.range left.stable right.stable (map file_in left.taken) (map file_in right.taken) pieces

-- the piece below the later files of both sides
abbrev pub both_of : Side → Side → Piece → TaggedSegment
both_of left right piece = tagged_of piece.range piece.versions (rest_of left right)
