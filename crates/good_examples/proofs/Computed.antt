-- The replicas, computed.
use Rattle.std.proofs.Common.{◌≡◌, ◌∙◌, refl, sym, ℕ, ℤ, Bool, true, false, List, []}
use Rattle.committed_log.specs.Lawful.{IsLawful}
use Rattle.committed_log.specs.Log.{Log}
use Rattle.row_store.proofs.Fits.{all_fit, all-true}
use Rattle.row_store.proofs.OneRegion.{is_schema}
use Rattle.row_store.specs.Logs.{log_of, first}
use Rattle.row_store.specs.Readers.{readers}
use Rattle.good_replica.specs.Check.{is_good, lists}
use Rattle.version_gc.specs.Keep.{keep}
use Rattle.good_replica.specs.Trail.{Segment}
use Rattle.good_replica.proofs.Checking.{check_tells}
use Rattle.good_examples.specs.Runs.{two_puts, handle_5, whole, both_puts, PutsStayGood, CrashKeepsMark, RemovalsStayGood, IsRefused, WrongReplicasAreRefused, SegmentsStayGood, CheckpointsStayGood, three_puts, handles_5_and_7, parted}

two_fit : all_fit two_puts ≡ true
unfolding readers
two_fit = refl

two_lawful : IsLawful (log_of two_puts)
unfolding readers
two_lawful = record { schema = is_schema; writable = all-true two_puts two_fit; admitted = (refl, (refl, (refl, tt))) }

refused : (log : Log) (A : ℕ → Bool) (m safe : ℕ) (handles : List ℤ) (segments : List Segment) → lists log handles segments ≡ true → is_good log A m safe handles segments ≡ false → IsRefused log A m safe handles segments
refused log A m safe handles segments listed check = record { listed = listed; check = check; wrong = λ good. sym check ∙ (check_tells log A m safe handles segments listed).holds good }

pub puts_stay_good : PutsStayGood
unfolding readers
puts_stay_good = record {
  lawful = two_lawful;
  listed = refl;
  nothing = refl;
  opened = refl;
  put = refl;
  put_again = refl;
  flushed = refl;
  kept_at_15 = refl;
  kept_at_20 = refl;
  merged_at_15 = refl;
  merged_at_20 = refl;
  good = (check_tells (log_of two_puts) (first 3) 3 20 handle_5 (whole (keep 20 both_puts) []) refl).yes refl;
}

pub crash_keeps_mark : CrashKeepsMark
unfolding readers
crash_keeps_mark = record { flushed = refl; merged = refl; applied_again = refl }

pub segments_stay_good : SegmentsStayGood
unfolding readers
segments_stay_good = record {
  listed = refl;
  applied = refl;
  merged = refl;
  split = refl;
  good = (check_tells (log_of three_puts) (first 4) 4 0 handles_5_and_7 parted refl).yes refl;
}

pub checkpoints_stay_good : CheckpointsStayGood
unfolding readers
checkpoints_stay_good = record { listed = refl; checkpoint = refl; flushed = refl; opened = refl; stopped = refl; again = refl; unraised = refl }

pub removals_stay_good : RemovalsStayGood
unfolding readers
removals_stay_good = record { listed = refl; put = refl; removed = refl; installed_anew = refl; crashed = refl }

pub wrong_replicas_are_refused : WrongReplicasAreRefused
unfolding readers
wrong_replicas_are_refused = record {
  dropped = refused _ _ _ _ _ _ refl refl;
  unraised = refused _ _ _ _ _ _ refl refl;
  raised = refl;
  beside = refused _ _ _ _ _ _ refl refl;
  collected = refl;
}
