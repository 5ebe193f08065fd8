use Rattle.std.proofs.Common.{◌≡◌, drop}
use Rattle.flash_list.proofs.Each.{with_front}
use Rattle.pack_codec.specs.Counted.{AllHaveRows}
use Rattle.pack_codec.specs.Reading.{columns_at}
use Rattle.pack_codec.proofs.read.columns_of.Given as goal

abbrev pub invariant-loop-column : goal.invariant-loop-column
invariant-loop-column l = record {
  read : with_front l.lists.items (columns_at l.end l.count l.marks (drop l.column-index l.columns) l.rest) ≡ columns_at l.end l.count l.marks l.columns l.bytes;
  rows : AllHaveRows l.count l.lists.items;
}
