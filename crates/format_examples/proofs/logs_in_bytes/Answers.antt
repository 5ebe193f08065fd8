use Rattle.format_examples.proofs.Logs.{computed}
use Rattle.format_examples.proofs.logs_in_bytes.Goals as goal

pub returns : goal.returns
returns c = computed
