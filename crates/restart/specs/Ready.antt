-- To be believed.
-- A disk that is ready for a replica.
use Rattle.std.specs.Prelude.{◌≡◌, ℕ, Bool, true, List}
use Rattle.flash_io.specs.declared.disk.Disk.{Ghosts}
use Rattle.committed_log.specs.Log.{Log}
use Rattle.manifest.specs.Stores.{IsKept, has_of}
use Rattle.manifest.specs.declared.store.Manifest.{Manifest}
use Rattle.region_table.specs.Table.{Table}
use Rattle.segment_list.specs.Slots.{Slotted}
use Rattle.store_image.specs.Images.{StandsFor, columns_in}
use Rattle.opened_store.specs.Causes.{IsOfLog}
use Rattle.opened_store.specs.Opening.{AreParts, ArePartsIn}

module _ {D R G : Type 0} (d : Ghosts D R G) where
  -- Each image has what the manifest has, which is of the log; the table and the segments are what it names, and have what the disk reads in these files.
  pub record IsReady (bytes : G → List ℕ) (log : Log) (disk : D) (m : Manifest) (t : Table) (slots : List (Slotted G)) : Type 0 where
    pub of_log : IsOfLog log (has_of m)
    pub steadied : m.steadied ≡ true
    pub kept : IsKept (d.may_leave disk) m
    pub parts : AreParts log m.state t slots
    pub read : d.tells → ArePartsIn bytes (columns_in log) m.file (d.files disk) m.state t slots

  -- as it reads, the new disk stands for what the old one stood for
  abbrev pub StandsAsBefore : Log → D → D → Type 0
  StandsAsBefore log old new = (A : ℕ → Bool) (safe : ℕ) → StandsFor log A safe (d.files old) → StandsFor log A safe (d.files new)
