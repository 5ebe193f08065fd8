-- Admission's machinery.
-- When the look-up tables are those of a store.
use Rattle.std.specs.Prelude.{◌≡◌}
use Rattle.committed_log.specs.Families.{Holds, IsSettled}
use Rattle.committed_log.specs.Store.{Store}
use Rattle.committed_log.specs.declared.tables.Tables.{Tables}

-- the regions are the store's, the families have what admission looks up in it, and nothing is to be taken back
pub record Follows (t : Tables) (s : Store) : Type 0 where
  pub regions : t.regions.entries ≡ s.regions
  pub families : Holds t.families s
  pub settled : IsSettled t.families
