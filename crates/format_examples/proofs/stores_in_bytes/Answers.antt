use Rattle.format_examples.proofs.Stores.{computed}
use Rattle.format_examples.proofs.stores_in_bytes.Goals as goal

pub returns : goal.returns
returns c = computed
