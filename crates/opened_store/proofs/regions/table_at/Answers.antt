use Rattle.std.proofs.Common.{rules, ◌≡◌, ℕ, List, sym, subst}
use Rattle.std.specs.Prelude.{Contains, ◌↔◌}
use Rattle.flash_io.specs.Image.{Image, IsThere}
use Rattle.opened_store.proofs.regions.table_at.Goals as goal

pub data_of-requires-clause-each : goal.data_of-requires-clause-each
data_of-requires-clause-each g c = λ tells file.
    let is : c.as_slice.result.now ≡ c.in-Ok.list.items = search rules in
    subst (λ (l : List ℕ). Contains l file ↔ IsThere (g.D.Disk.files c.list.new.self) file) (sym is) (subst (λ (image : Image). Contains c.in-Ok.list.items file ↔ IsThere image file) (sym c.in-Ok.ensures.files) (c.in-Ok.ensures.each tells file))
