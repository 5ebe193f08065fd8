-- Calls one after the other.
use Rattle.std.proofs.Common.{◌≡◌, ℕ, refl, ◌∙◌, arith}
use Rattle.flash_io.specs.Image.{Image}
use Rattle.flash_io.specs.Crash.{SameOutcomes, Elapses}
use Rattle.flash_io.proofs.Moments.{started, goes_on, then}
use Rattle.flash_io.specs.Runs.{Untouched, Counted}

module _ {D : Type 0} (files : D → Image) (may_leave : D → Image → Type 0) (moment : D → ℕ) (left_since : D → ℕ → Image → Type 0) where
  pub untouched_none : ((disk : D) (c : Image) → left_since disk (moment disk) c → may_leave disk c) → (disk : D) → Untouched files may_leave moment left_since disk disk
  untouched_none only_now disk = record {
    same = refl;
    outcomes = record { none_new = λ c now. now; none_lost = λ c now. now };
    run = started moment left_since disk (may_leave disk) (only_now disk);
  }

  pub untouched_more : (old mid new : D) → Untouched files may_leave moment left_since old mid → files new ≡ files mid → SameOutcomes (may_leave mid) (may_leave new)
      → Elapses (moment mid) (moment new) (left_since mid) (left_since new) (may_leave new) → Untouched files may_leave moment left_since old new
  untouched_more old mid new so_far same outcomes time = record {
    same = same ∙ so_far.same;
    outcomes = record { none_new = λ c now. so_far.outcomes.none_new c (outcomes.none_new c now); none_lost = λ c now. outcomes.none_lost c (so_far.outcomes.none_lost c now) };
    run = goes_on moment left_since old mid new (may_leave old) (may_leave new) so_far.run time (λ c now. so_far.outcomes.none_new c (outcomes.none_new c now));
  }

  pub untouched_then : (old mid new : D) → Untouched files may_leave moment left_since old mid → Untouched files may_leave moment left_since mid new → Untouched files may_leave moment left_since old new
  untouched_then old mid new first second = record {
    same = second.same ∙ first.same;
    outcomes = record { none_new = λ c now. first.outcomes.none_new c (second.outcomes.none_new c now); none_lost = λ c now. second.outcomes.none_lost c (first.outcomes.none_lost c now) };
    run = then moment left_since old mid new (may_leave old) (may_leave mid) first.run second.run first.outcomes.none_new;
  }

module _ {D : Type 0} (fault_count reader_fault_count : D → ℕ) (never_fails : D → Type 0) where
  pub counted_then : (old mid new : D) → Counted fault_count reader_fault_count never_fails old mid → Counted fault_count reader_fault_count never_fails mid new → Counted fault_count reader_fault_count never_fails old new
  counted_then old mid new first second = record {
    later = omega (arith, first.later, second.later);
    readers = second.readers ∙ first.readers;
    spared = λ never. let one = first.spared never in let two = second.spared one.0 in (two.0, two.1 ∙ one.1);
  }
