use Rattle.std.proofs.Common.{◌≡◌, ◌-◌, []}
use Rattle.std.specs.Ordering.{nat_cmp}
use Rattle.region_file.specs.Regions.{last_id, ranges_of, entries_at}
use Rattle.region_file.specs.Taken.{AreTaken}
use Rattle.region_file.proofs.Rising.{UpTo}
use Rattle.region_file.proofs.reading.entries_of.Given as goal

abbrev pub invariant-loop : goal.invariant-loop
invariant-loop l = record {
  gives : entries_at l.end (l.count - l.counter) l.entries.entries l.rest ≡ entries_at l.end l.count [] l.bytes;
  taken : AreTaken l.taken.entries (ranges_of l.entries.entries);
  rises : UpTo nat_cmp l.last l.entries.entries;
  id : last_id l.entries.entries ≡ l.last;
}
