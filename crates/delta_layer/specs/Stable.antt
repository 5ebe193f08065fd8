-- What a stable part reads as.
use Rattle.std.specs.Prelude.{ℕ, List, [], ◌++◌, fold, if◌then◌else◌, Option, Some, None, Result, Ok, Err}
use Rattle.flash_list.specs.Steps.{◌>>=◌}
use Rattle.column_block.specs.declared.column.Column.{Column}
use Rattle.column_block.specs.declared.cell.Version.{Version}
use Rattle.pack_codec.specs.declared.fault.FormError.{FormError}
use Rattle.pack_codec.specs.declared.fault.FormError.TheVariants.{Damaged}
use Rattle.stable_file.specs.declared.file.StableFile.{StableFile}
use Rattle.stable_file.specs.declared.pack.Pack.{Pack}
use Rattle.stable_file.specs.Opened.{packs_of, schema_of, grip_of}
use Rattle.column_block.specs.Order.{rise}
use Rattle.stable_file.specs.Ranges.{told_in}

-- The versions so far with those of one more pack, or the pack's place where they don't rise together.
abbrev pub with_versions : ℕ → List Version → List Version → Result (List Version) FormError
with_versions place before versions = if rise (before ++ versions) then Ok (before ++ versions) else Err (Damaged place)

abbrev pub with_pack : List Column → List ℕ → Result (List Version) FormError → Pack → Result (List Version) FormError
with_pack columns bytes so_far pack = so_far >>= λ before. told_in pack columns bytes >>= λ versions. with_versions pack.place before versions

-- The versions of packs of a file with these bytes, one pack after the other.
abbrev pub packs_in : List Column → List ℕ → List Pack → Result (List Version) FormError
packs_in columns bytes packs = fold (with_pack columns bytes) (Ok []) packs

-- The versions of a stable file, where a grip's bytes are known; none has no version.
abbrev pub stable_in : {G : Type 0} → (G → List ℕ) → Option (StableFile G) → Result (List Version) FormError
stable_in bytes None = Ok []
stable_in bytes (Some file) = packs_in (schema_of file) (bytes (grip_of file)) (packs_of file)
