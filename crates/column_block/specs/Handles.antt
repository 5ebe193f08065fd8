-- Versions by their handles.
use Rattle.std.specs.Prelude.{ℤ, Bool, ◌&&◌, Option, int_le}
use Rattle.flash_types.specs.Ranges.{is_below}
use Rattle.column_block.specs.declared.cell.Version.{Version}

-- whether a version's handle lies from the low end up to and without the high end, where there is one
abbrev pub lies_in : ℤ → Option ℤ → Version → Bool
lies_in low high version = int_le low version.handle && is_below version.handle high
