-- Segments that are stored, and those of a replica.
use Rattle.std.specs.Prelude.{◌≡◌, List, map}
use Rattle.manifest_form.specs.declared.state.StoredSegment.{StoredSegment}
use Rattle.good_replica.specs.Trail.{Segment}

-- They have the same ranges, one for one.
abbrev pub SameRanges : List StoredSegment → List Segment → Type 0
SameRanges stored segments = map (λ (s : StoredSegment). s.range) stored ≡ map (λ (s : Segment). s.range) segments
