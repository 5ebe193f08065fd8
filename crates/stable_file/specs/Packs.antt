-- Packs of a stable file: their versions rise.
use Rattle.std.specs.Prelude.{ℕ, ◌+◌, Bool, nat_le, List, length, if◌then◌else◌, Result, Ok, Err}
use Rattle.std.specs.Int.{w64}
use Rattle.flash_list.specs.Steps.{◌>>=◌}
use Rattle.flash_list.specs.Fields.{number_at}
use Rattle.column_block.specs.declared.column.Column.{Column}
use Rattle.column_block.specs.declared.cell.Version.{Version}
pub use Rattle.column_block.specs.Order.{is_before, rise_after, rise}
use Rattle.pack_codec.specs.declared.fault.FormError.{FormError}
use Rattle.pack_codec.specs.declared.fault.FormError.TheVariants.{Damaged}
use Rattle.pack_codec.specs.Reading.{pack_at}

abbrev pub number_or_none : {X E : Type 0} → Result (ℕ × X) E → ℕ
number_or_none (Ok n) = n.0
number_or_none (Err _) = 0

-- how many versions a pack's first eight bytes tell, and none where these aren't there
abbrev pub count_told : List ℕ → ℕ
count_told bytes = number_or_none (number_at w64 (tt {0}) bytes)

-- Versions that rise take at least a byte each: their handles or their timestamps differ.
abbrev pub has_room : List ℕ → Bool
has_room bytes = nat_le (count_told bytes) (length bytes)

-- The versions of the pack that stands from this place up to that end, all of the bytes. Where more are told than there are bytes, and where they are none or don't rise, it is named by its place.
unfoldable pub versions_in : ℕ → ℕ → List Column → List ℕ → Result (List Version) FormError
versions_in end at columns bytes = if has_room bytes then (pack_at end columns bytes >>= λ versions. if rise versions then Ok versions else Err (Damaged at)) else Err (Damaged at)

abbrev pub versions_at : ℕ → List Column → List ℕ → Result (List Version) FormError
versions_at at columns bytes = versions_in (at + length bytes) at columns bytes
