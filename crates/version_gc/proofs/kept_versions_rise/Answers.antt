use Rattle.version_gc.proofs.Collections.{kept_rise}
use Rattle.version_gc.proofs.kept_versions_rise.Goals as goal

pub returns : goal.returns
returns c = kept_rise
