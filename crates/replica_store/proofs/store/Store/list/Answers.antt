use Rattle.std.proofs.Common.{ℕ, subst}
use Rattle.std.specs.Prelude.{◌↔◌, Contains}
use Rattle.flash_io.specs.Image.{IsThere}
use Rattle.replica_store.proofs.store.Store.list.Goals as goal

pub returns-clause-each : goal.returns-clause-each
returns-clause-each g c = subst (λ s. g.D.Disk.tells → (file : ℕ) → Contains c.in_ok-list.list.items file ↔ IsThere (g.D.Disk.files s.disk) file) c.self.view_is c.in_ok-list.ensures.each
