-- Where the laws of what is there at each count are false without a premise, and where a premise asks more than it must.
use Rattle.std.specs.Prelude.{◌≡◌, ℕ, pos, true, false, None, Some, List, [], ◌∷◌, ◌++◌, map}
use Rattle.flash_types.specs.declared.range.HandleRange.{HandleRange}
use Rattle.row_store.specs.Logs.{everything, first, least_handle, log_of}
use Rattle.row_store.specs.ManyRegions.{installed}
use Rattle.row_store.specs.OneRegion.{one_put}
use Rattle.good_replica.specs.Check.{is_good}
use Rattle.good_replica.specs.Trail.{Puts, Clears, Segment}
use Rattle.good_examples.specs.Runs.{full, handle_5, handles_5_and_6}
use Rattle.good_examples.specs.Weakened.{installed_low}
use Rattle.prefix_laws.specs.Clipped.{in_order}
use Rattle.prefix_laws.specs.Tagged.{Tagged, content, tagged_of, with_tag}

-- one segment with all handles and no stable part, as it is at a count
abbrev pub at_count : ℕ → List Tagged → List Segment
at_count k files = map (content k) (tagged_of everything [] files ∷ [])

abbrev pub put_at : ℕ → Tagged
put_at tag = with_tag tag (Puts (full (pos 5) 10 ∷ []))

abbrev pub clear_at : ℕ → Tagged
clear_at tag = with_tag tag (Clears everything)

-- ---- a mark above what is named

-- The put has count 1, its position is 1. Named by a flush (count 0) it is there at count 0 too: good with the mark raised above its position, and not without.
pub record FlushesNeedTheMark : Type 0 where
  pub before_0 : is_good (log_of one_put) (first 1) 1 0 handle_5 (at_count 0 (put_at 1 ∷ [])) ≡ true
  pub before_1 : is_good (log_of one_put) (first 2) 1 0 handle_5 (at_count 1 (put_at 1 ∷ [])) ≡ true
  pub unraised : is_good (log_of one_put) (first 1) 1 0 handle_5 (at_count 0 (put_at 0 ∷ [])) ≡ false
  pub raised : is_good (log_of one_put) (first 1) 2 0 handle_5 (at_count 0 (put_at 0 ∷ [])) ≡ true

-- So it is with a delete-range that is named: the removal at position 2 has count 1.
pub record NamedRangesNeedTheMark : Type 0 where
  pub before_0 : is_good (log_of installed) (first 2) 2 0 handles_5_and_6 (at_count 0 (put_at 0 ∷ clear_at 1 ∷ [])) ≡ true
  pub before_1 : is_good (log_of installed) (first 3) 2 0 handles_5_and_6 (at_count 1 (put_at 0 ∷ clear_at 1 ∷ [])) ≡ true
  pub unraised : is_good (log_of installed) (first 2) 2 0 handles_5_and_6 (at_count 0 (put_at 0 ∷ clear_at 0 ∷ [])) ≡ false
  pub raised : is_good (log_of installed) (first 2) 3 0 handles_5_and_6 (at_count 0 (put_at 0 ∷ clear_at 0 ∷ [])) ≡ true

-- ---- sets that grow

-- The set of count 0 has the put, and that of count 1 hasn't. Without the put the segment is good at the last count, but not at each.
pub record FlushesNeedSetsThatGrow : Type 0 where
  pub before_0 : is_good (log_of one_put) (first 2) 2 0 handle_5 (at_count 0 (put_at 0 ∷ [])) ≡ true
  pub before_1 : is_good (log_of one_put) (first 1) 2 0 handle_5 (at_count 1 (put_at 0 ∷ [])) ≡ true
  pub at_1 : is_good (log_of one_put) (first 1) 2 0 handle_5 (at_count 1 []) ≡ true
  pub at_0 : is_good (log_of one_put) (first 2) 2 0 handle_5 (at_count 0 []) ≡ false

-- ---- clipping

-- the handles below 6, and the others
abbrev pub low_half : HandleRange
low_half = record { low = least_handle; high = Some (pos 6) }

abbrev pub high_half : HandleRange
high_half = record { low = pos 6; high = None }

-- The files of two halves after the entries of the log, with delete-ranges as wide as the entries': a put of handle 6, a removal, and an install that brings handle 5.
abbrev pub low_files : List Tagged
low_files = clear_at 3 ∷ clear_at 4 ∷ with_tag 4 (Puts (full (pos 5) 9 ∷ [])) ∷ []

abbrev pub high_files : List Tagged
high_files = with_tag 2 (Puts (full (pos 6) 10 ∷ [])) ∷ clear_at 3 ∷ clear_at 4 ∷ []

-- Kept to their own ranges they are good in the order of a merge. As they are, the delete-ranges of one half clear what the install brought to the other.
pub record MergesNeedClipping : Type 0 where
  pub clipped : is_good (log_of installed_low) (first 4) 0 0 handles_5_and_6 (at_count 4 (in_order low_half high_half [] [] low_files high_files)) ≡ true
  pub unclipped : is_good (log_of installed_low) (first 4) 0 0 handles_5_and_6 (at_count 4 (low_files ++ high_files)) ≡ false

-- ---- a view that ends within an entry

abbrev pub came : Tagged
came = with_tag 2 (Puts (full (pos 6) 9 ∷ []))

abbrev pub all_files : List Tagged
all_files = put_at 0 ∷ clear_at 1 ∷ clear_at 2 ∷ came ∷ []

-- A view that ends between an install's delete-range and its versions, both of count 2. Its delta merge leaves an empty stable part and the versions. At each count that is good, since below the mark the delete-range's entry clears what is missing: so it is more than is needed that a view ends at a count.
pub record CutAppliesAreGood : Type 0 where
  pub old_0 : is_good (log_of installed) (first 2) 4 0 handles_5_and_6 (at_count 0 all_files) ≡ true
  pub old_1 : is_good (log_of installed) (first 3) 4 0 handles_5_and_6 (at_count 1 all_files) ≡ true
  pub old_2 : is_good (log_of installed) (first 4) 4 0 handles_5_and_6 (at_count 2 all_files) ≡ true
  pub new_0 : is_good (log_of installed) (first 2) 4 0 handles_5_and_6 (at_count 0 (came ∷ [])) ≡ true
  pub new_1 : is_good (log_of installed) (first 3) 4 0 handles_5_and_6 (at_count 1 (came ∷ [])) ≡ true
  pub new_2 : is_good (log_of installed) (first 4) 4 0 handles_5_and_6 (at_count 2 (came ∷ [])) ≡ true
