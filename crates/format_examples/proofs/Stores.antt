-- A store's files, computed.
use Rattle.std.proofs.Common.{refl}
use Rattle.manifest_form.specs.Spelling.{stored, segment, edit, column}
use Rattle.format_examples.specs.Stores.{StoresInBytes}

pub computed : StoresInBytes
unfolding stored segment edit column
computed = record { root = refl; front = refl; next = refl; put = refl; drop = refl; high = refl; safe_point = refl; regions = refl; count = refl }
