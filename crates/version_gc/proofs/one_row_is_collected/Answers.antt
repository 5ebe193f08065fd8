use Rattle.std.proofs.Common.{refl}
use Rattle.version_gc.proofs.one_row_is_collected.Goals as goal

pub returns : goal.returns
returns c = record { newest = refl; deleted = refl; again = refl }
