-- To be believed.
-- When what a replica has in memory is good for its log.
use Rattle.std.specs.Prelude.{◌≡◌, ◌<◌, ℕ, Bool, true, List, length, map}
use Rattle.good_replica.specs.Good.{AreGood}
use Rattle.good_replica.specs.Trail.{Segment}
use Rattle.prefix_laws.specs.Prefixes.{ArePrefixesGood}
use Rattle.prefix_laws.specs.Tagged.{TaggedSegment, content}
use Rattle.replica_state.specs.Core.{Core, full, upto}
use Rattle.segment_list.specs.Laws.{told_by}
use Rattle.segment_snapshot.specs.Rights.{AreReadable, stable_of}

-- the entries that the last checkpoint has
abbrev pub committed_set : {G : Type 0} → Core G → ℕ → Bool
committed_set s = upto s s.committed

-- where a grip's bytes are known
module _ {G : Type 0} (bytes : G → List ℕ) where
  -- what the segments have, each file of a delta with the count at which it came
  abbrev pub told : Core G → List TaggedSegment
  told s = map (told_by (stable_of bytes)) s.slots

  -- the segments with the files that had come by a count
  abbrev pub segments_at : ℕ → Core G → List Segment
  segments_at k s = map (content k) (told s)

  -- The stable parts read. All that is in memory is good for all that is applied, where rows up to the mark of the opening may be in the files. What had come by each count, from the last checkpoint's on, is good for what was applied by then, where rows up to High may be in the files: so a crash may forget what came later. And the entries of the last checkpoint are below High.
  pub record IsGoodState (s : Core G) : Type 0 where
    pub readable : AreReadable bytes s.slots
    pub memory : AreGood s.log (full s) s.numbers.mark s.numbers.safe_point (segments_at (length s.listed) s)
    pub counts : ArePrefixesGood s.log (upto s) s.numbers.high s.numbers.safe_point s.committed (length s.listed) (told s)
    pub below : (p : ℕ) → committed_set s p ≡ true → p < s.numbers.high
