use Rattle.std.proofs.Common.{◌≡◌, ◌-◌}
use Rattle.flash_list.specs.Steps.{each_at}
use Rattle.flash_list.proofs.Each.{with_front}
use Rattle.committed_log.specs.Store.{value_cmp}
use Rattle.region_state.specs.State.{values_in}
use Rattle.region_file.specs.Families.{value_at, each_value_at, key_of}
use Rattle.region_file.proofs.Rising.{UpTo}
use Rattle.region_file.proofs.families.each_value_of.Given as goal

abbrev pub invariant-loop : goal.invariant-loop
invariant-loop l = record {
  gives : with_front l.values.entries (each_at (value_at l.end l.range) key_of (l.count - l.counter) l.last l.rest) ≡ each_value_at l.end l.range l.count l.bytes;
  within : values_in l.range l.values.entries ≡ l.values.entries;
  rises : UpTo value_cmp l.last l.values.entries;
}
