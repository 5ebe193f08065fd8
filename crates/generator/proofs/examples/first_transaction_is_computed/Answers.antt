use Rattle.std.proofs.Common.{refl}
use Rattle.row_codec.specs.Writing.{row_bytes}
use Rattle.generator.specs.Generated.{random, value, last_index}
use Rattle.generator.proofs.examples.first_transaction_is_computed.Goals as goal

pub returns : goal.returns
unfolding random value row_bytes last_index
returns c = record { random = refl; row = refl; region = refl; value = refl; change = refl; last = refl; other = refl; eighth = refl }
