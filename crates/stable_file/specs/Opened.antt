-- What an open stable file shows.
use Rattle.std.specs.Prelude.{◌≡◌, ℕ, ◌+◌, ◌-◌, ◌^◌, ◌<◌, ◌≤◌, ◌≤ℤ◌, ◌⊎◌, min, Bool, ◌&&◌, int_le, List, [], ◌∷◌, filter, length, take, drop}
use Rattle.std.specs.Int.{w64, from_be_bytes}
use Rattle.std.specs.List.{AllByRecursion, sum_by}
use Rattle.column_block.specs.declared.column.Column.{Column}
use Rattle.flash_types.specs.Ranges.{is_below}
use Rattle.flash_types.specs.declared.range.HandleRange.{HandleRange}
use Rattle.stable_file.specs.declared.file.StableFile.{StableFile}
use Rattle.stable_file.specs.declared.pack.Pack.{Pack}

-- its packs, as the footer tells them
abbrev pub packs_of : {G : Type 0} → StableFile G → List Pack
packs_of file = file.packs

abbrev pub schema_of : {G : Type 0} → StableFile G → List Column
schema_of file = file.schema

abbrev pub grip_of : {G : Type 0} → StableFile G → G
grip_of file = file.grip

-- What a footer tells of a pack: it stands behind the file's magic and ends where 64 bits reach, it has a version, and its least handle isn't above its greatest.
pub record IsPack (pack : Pack) : Type 0 where
  pub place : 4 ≤ pack.place
  pub reach : pack.place + pack.len < 2 ^ 64
  pub some : 0 < pack.count
  pub order : pack.low ≤ℤ pack.high

-- handles don't fall from one pack to the next
abbrev pub NeverFall : List Pack → Type 0
NeverFall [] = Unit {0}
NeverFall (pack ∷ []) = Unit {0}
NeverFall (pack ∷ next ∷ others) = (pack.high ≤ℤ next.low) × NeverFall (next ∷ others)

-- the packs of an open file, of which there is one at least
pub record ArePacks (packs : List Pack) : Type 0 where
  pub some : 0 < length packs
  pub each : AllByRecursion IsPack packs
  pub order : NeverFall packs

-- whether a pack may have a version in the range: its least handle is below the end, and its greatest isn't below the low end
abbrev pub is_met : HandleRange → Pack → Bool
is_met range pack = is_below pack.low range.high && int_le range.low pack.high

-- how many versions the packs have that may have one in the range, as far as 64 bits go
abbrev pub count_in : HandleRange → List Pack → ℕ
count_in range packs = min (2 ^ 64 - 1) (sum_by (λ (pack : Pack). pack.count) (filter (is_met range) packs))

-- These are the last bytes of a file with this content, whose length is known.
pub record IsTailOf (len : ℕ) (tail bytes : List ℕ) : Type 0 where
  pub whole : length bytes ≡ len
  pub ends : drop (len - length tail) bytes ≡ tail

-- the footer's length, as the last twelve bytes tell it
abbrev pub told_size : List ℕ → ℕ
told_size tail = from_be_bytes w64 (take 8 (drop (length tail - 12) tail))

-- The bytes at hand are the whole file, or they reach to the footer's first byte at least.
abbrev pub HasEnd : ℕ → List ℕ → Type 0
HasEnd len tail = (length tail ≡ len) ⊎ ((12 ≤ length tail) × (told_size tail + 12 ≤ length tail))
