use Rattle.std.proofs.Common.{◌≡◌, ◌-◌}
use Rattle.std.specs.Ordering.{int_cmp}
use Rattle.flash_list.specs.Steps.{each_at}
use Rattle.flash_list.proofs.Each.{with_front}
use Rattle.region_state.specs.State.{locks_in}
use Rattle.region_file.specs.Families.{lock_at, each_lock_at, key_of}
use Rattle.region_file.proofs.Rising.{UpTo}
use Rattle.region_file.proofs.families.each_lock_of.Given as goal

abbrev pub invariant-loop : goal.invariant-loop
invariant-loop l = record {
  gives : with_front l.locks.entries (each_at (lock_at l.end l.range) key_of (l.count - l.counter) l.last l.rest) ≡ each_lock_at l.end l.range l.count l.bytes;
  within : locks_in l.range l.locks.entries ≡ l.locks.entries;
  rises : UpTo int_cmp l.last l.locks.entries;
}
