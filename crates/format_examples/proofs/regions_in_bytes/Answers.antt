use Rattle.format_examples.proofs.Regions.{computed}
use Rattle.format_examples.proofs.regions_in_bytes.Goals as goal

pub returns : goal.returns
returns c = computed
