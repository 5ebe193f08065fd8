-- What a commit leaves of a disk.
use Rattle.std.specs.Prelude.{◌⊎◌, ℕ}
use Rattle.flash_io.specs.Image.{Image, SameBut}
use Rattle.manifest_form.specs.declared.recover.Recovered.{Recovered}
use Rattle.manifest.specs.Stores.{HasStore}

-- in the manifest's file the old store or the new one whole, and all other files as they might have been
abbrev pub OldOrNew : (Image → Type 0) → ℕ → Recovered → Recovered → Image → Type 0
OldOrNew old file before after c = ((d : Image) × old d × SameBut file d c) × (HasStore c file before ⊎ HasStore c file after)
