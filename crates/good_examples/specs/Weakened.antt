-- The laws of good replicas, each with a premise left out: where it is false.
use Rattle.std.specs.Prelude.{◌≡◌, pos, true, false, None, List, [], ◌∷◌, IsTrue}
use Rattle.std.specs.List.{flat_map}
use Rattle.log_codec.specs.declared.entry.Body.TheVariants as body
use Rattle.log_codec.specs.declared.entry.Entry.{Entry}
use Rattle.row_store.specs.Logs.{log_of, open_all, writes, entry, put_at, five_ab, least_handle, everything, first}
use Rattle.row_store.specs.ManyRegions.{installed}
use Rattle.row_store.specs.OneRegion.{one_put, put_and_delete}
use Rattle.good_replica.specs.Changed.{trail_of}
use Rattle.good_replica.specs.Check.{is_good_on, each_is_committed, each_is_there, newer_follows, times, is_good, lists}
use Rattle.good_replica.specs.Good.{AreGood}
use Rattle.good_replica.specs.Trail.{Trail, Wrote, Segment, DeltaFile, Puts, Clears}
use Rattle.good_replica.specs.Versions.{written}
use Rattle.good_examples.specs.Runs.{full, short, deleted, both_puts, two_puts, handles_5_and_6, whole, halves, after}

-- A put is applied and in the delta, and the mark is 0: the trail is good at front 2, and isn't at front 1, since the put isn't committed there. With the mark at 2 it is.
pub record FrontsNeedTheMark : Type 0 where
  pub at_2 : is_good_on (log_of one_put) (pos 5) 2 0 0 (trail_of [] (Wrote (full (pos 5) 10 ∷ []) ∷ [])) ≡ true
  pub at_1 : is_good_on (log_of one_put) (pos 5) 1 0 0 (trail_of [] (Wrote (full (pos 5) 10 ∷ []) ∷ [])) ≡ false
  pub marked : is_good_on (log_of one_put) (pos 5) 1 2 0 (trail_of [] (Wrote (full (pos 5) 10 ∷ []) ∷ [])) ≡ true

-- Puts at 10 and 20, collected at 20 while the safe point is 10: a read at 10 would miss the older one.
pub record CollectionsNeedTheSafePoint : Type 0 where
  pub before : is_good_on (log_of two_puts) (pos 5) 3 3 10 (trail_of [] (Wrote both_puts ∷ [])) ≡ true
  pub at_20 : is_good_on (log_of two_puts) (pos 5) 3 3 10 (trail_of (short (pos 5) 20 ∷ []) []) ≡ false
  pub later : is_good_on (log_of two_puts) (pos 5) 3 3 20 (trail_of (short (pos 5) 20 ∷ []) []) ≡ true

-- a put at 50 and a delete at 80, of which a collection at 100 takes the delete alone
pub record LoneDeletesNeedNoneOlder : Type 0 where
  pub before : is_good_on (log_of put_and_delete) (pos 7) 3 3 100 (trail_of (full (pos 7) 50 ∷ deleted (pos 7) 80 ∷ []) []) ≡ true
  pub left : is_good_on (log_of put_and_delete) (pos 7) 3 3 100 (trail_of (full (pos 7) 50 ∷ []) []) ≡ false

-- the delete's file is below the put's
abbrev pub turned : Trail
turned = trail_of [] (Wrote (deleted (pos 7) 80 ∷ []) ∷ Wrote (full (pos 7) 50 ∷ []) ∷ [])

-- Each version is a commit and each commit is there, but newer doesn't follow older. The first file alone has a lone delete; without it the put shows again.
pub record MergesNeedOrder : Type 0 where
  pub real : each_is_committed (written (log_of put_and_delete) (pos 7) 3) turned (times (log_of put_and_delete) 3 3 turned) ≡ true
  pub kept : each_is_there (written (log_of put_and_delete) (pos 7) 3) (written (log_of put_and_delete) (pos 7) 3) 100 turned (times (log_of put_and_delete) 3 3 turned) ≡ true
  pub unordered : newer_follows (written (log_of put_and_delete) (pos 7) 3) turned (times (log_of put_and_delete) 3 3 turned) ≡ false
  pub merged : is_good_on (log_of put_and_delete) (pos 7) 3 3 100 (trail_of [] (Wrote (full (pos 7) 50 ∷ []) ∷ [])) ≡ false

-- ---- clipping

-- another row is put, its region is removed, and an install brings this one
abbrev pub installed_low : List Entry
installed_low = open_all ∷ writes 6 (put_at (pos 6) 10 five_ab) ∷ entry 1 7 body.Remove ∷ entry 9 20 (body.Install 3 4 least_handle None (put_at (pos 5) 9 five_ab ∷ [])) ∷ []

-- the files of several segments, as one list
abbrev pub files_of : List Segment → List DeltaFile
files_of segments = flat_map (λ (s : Segment). s.delta) segments

-- Two halves are merged: the left one's files, and then the right one's. Clipped they are good. Where the right one's delete-ranges are as wide as the entries', they clear what the install brought.
pub record MergesNeedClipping : Type 0 where
  pub halves_are_good : is_good (log_of installed_low) (first 4) 0 0 handles_5_and_6 (after (log_of installed_low) halves 4) ≡ true
  pub clipped : is_good (log_of installed_low) (first 4) 0 0 handles_5_and_6 (whole [] (files_of (after (log_of installed_low) halves 4))) ≡ true
  pub unclipped : is_good (log_of installed_low) (first 4) 0 0 handles_5_and_6 (whole [] (Clears everything ∷ Clears everything ∷ Puts (full (pos 5) 9 ∷ []) ∷ Puts (full (pos 6) 10 ∷ []) ∷ Clears everything ∷ Clears everything ∷ [])) ≡ false

-- ---- the check's list of handles

-- with no handle listed the check finds nothing wrong with a dropped delete-range
pub record ChecksNeedTheirHandles : Type 0 where
  pub unlisted : is_good (log_of installed) (first 3) 0 0 [] (whole [] (Puts (full (pos 5) 10 ∷ []) ∷ [])) ≡ true
  pub lists_nothing : lists (log_of installed) [] (whole [] (Puts (full (pos 5) 10 ∷ []) ∷ [])) ≡ false
  pub wrong : AreGood (log_of installed) (first 3) 0 0 (whole [] (Puts (full (pos 5) 10 ∷ []) ∷ [])) → IsTrue false
