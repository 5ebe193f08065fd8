use Rattle.std.proofs.Common.{length, sym, ap, ◌∙◌}
use Rattle.row_codec.specs.Numbers.{bytes_each}
use Rattle.row_codec.proofs.Lists.{numbers_count}
use Rattle.row_codec.proofs.numbers.Numbers.len.Goals as goal

pub returns : goal.returns
returns c = sym (numbers_count (bytes_each c.self.inside.width) c.self.inside.count c.self.inside.bytes.now) ∙ ap length c.self.view_is
