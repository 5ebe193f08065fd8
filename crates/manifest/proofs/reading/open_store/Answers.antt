use Rattle.std.proofs.Common.{sym, subst}
use Rattle.std.specs.Prelude.{Contains, ◌↔◌}
use Rattle.flash_io.specs.Image.{Image, IsThere}
use Rattle.manifest.proofs.reading.open_store.Goals as goal

pub open_named-requires-clause-each : goal.open_named-requires-clause-each
open_named-requires-clause-each g c = λ tells file. subst (λ (image : Image). Contains c.args.list.now file ↔ IsThere image file) (sym c.read_file.ensures.untouched.same) (c.requires.each tells file)
