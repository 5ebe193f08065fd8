use Rattle.format_examples.proofs.Files.{computed}
use Rattle.format_examples.proofs.files_in_bytes.Goals as goal

pub returns : goal.returns
returns c = computed
