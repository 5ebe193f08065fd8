-- What edits in the middle of a state's segments give.
use Rattle.std.specs.Prelude.{◌≡◌, ℕ, true, List, [], ◌∷◌, ◌++◌, map, Some}
use Rattle.std.specs.List.{list_all}
use Rattle.flash_types.specs.declared.range.HandleRange.{HandleRange}
use Rattle.manifest_form.specs.declared.state.StoredSegment.{StoredSegment}
use Rattle.manifest_form.specs.declared.state.State.{State}
use Rattle.manifest_form.specs.declared.state.Edit.{Edit}
use Rattle.manifest_form.specs.declared.state.Edit.TheVariants as edit
use Rattle.manifest_form.specs.declared.state.Edit.TheVariants.{Next, High, SafePoint, Regions, Count}
use Rattle.flash_types.specs.Ranges.{has_any}
use Rattle.manifest_form.specs.States.{all_done, with_segments, segment_below, is_formed}
use Rattle.manifest_form.specs.Whole.{IdsDiffer, with_next}
use Rattle.manifest_laws.specs.Changes.{put_by, ids_of, PutOnce, EachFree, EachGoes, TakesOver, put_among}

-- a state that a store may have, and a run of its segments
pub record HasRun (file : ℕ) (s : State) (before olds after : List StoredSegment) : Type 0 where
  pub stands : s.segments ≡ before ++ (olds ++ after)
  pub formed : is_formed file s ≡ true
  pub differ : IdsDiffer s.segments

-- Edits, others among them, put segments in the place of a run: each id that they name is one of the run's, or no segment's; each of the run is dropped or replaced; what is put isn't touched again, and runs where the run did.
pub record TakeTheRun (s : State) (olds : List StoredSegment) (edits : List Edit) : Type 0 where
  pub once : PutOnce edits
  pub free : EachFree s.segments olds (ids_of edits)
  pub gone : EachGoes (ids_of edits) olds
  pub over : TakesOver olds (put_by edits)

-- The same, where the segments may be put in any order.
pub record TakeInAnyOrder (s : State) (olds : List StoredSegment) (edits : List Edit) : Type 0 where
  pub once : PutOnce edits
  pub free : EachFree s.segments olds (ids_of edits)
  pub gone : EachGoes (ids_of edits) olds
  pub over : TakesOver olds (put_among [] (put_by edits))

-- Edits raise Next, and these segments stand between those then; and a store may have that state, if their numbers are below Next.
pub record Gives (file next : ℕ) (s : State) (before news after : List StoredSegment) (edits : List Edit) : Type 0 where
  pub state : all_done s edits ≡ with_segments (with_next next s) (before ++ (news ++ after))
  pub formed : list_all (segment_below next) news ≡ true → is_formed file (all_done s edits) ≡ true

-- The edits of a checkpoint: Next, High with its chain value, the safe point, the region file with its count, and the segments that are put.
abbrev pub checkpoint : (next entries : ℕ) (chain : List ℕ) (ts region count : ℕ) (puts : List StoredSegment) → List Edit
checkpoint next entries chain ts region count puts =
    Next next ∷ High entries chain ∷ SafePoint ts ∷ Regions region ∷ Count count ∷ map (λ (x : StoredSegment). edit.Segment x) puts

-- After a checkpoint that puts some segments, these are the state's, and a store may have it.
pub record CheckpointGives (file : ℕ) (s : State) (news puts : List StoredSegment) (next entries : ℕ) (chain : List ℕ) (ts region count : ℕ) : Type 0 where
  pub state : all_done s (checkpoint next entries chain ts region count puts)
      ≡ record { next = next; segments = news; high = entries; chain = chain; safe_point = ts; regions = Some region; count = Some count }
  pub formed : is_formed file (all_done s (checkpoint next entries chain ts region count puts)) ≡ true

-- two ranges that meet in a third, neither of them empty
pub record IsParted (whole lower upper : HandleRange) : Type 0 where
  pub begins : lower.low ≡ whole.low
  pub meets : lower.high ≡ Some upper.low
  pub ends : upper.high ≡ whole.high
  pub below : has_any lower ≡ true
  pub above : has_any upper ≡ true
