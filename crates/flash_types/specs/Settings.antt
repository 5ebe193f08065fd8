-- What sizes a store may be given.
use Rattle.std.specs.Prelude.{◌≤◌, ℕ}
use Rattle.flash_types.specs.declared.settings.Settings.{Settings}

-- the most versions or files that a size may name, and the most versions of a pack
abbrev pub most_rows : ℕ
most_rows = 1048576

abbrev pub most_pack_rows : ℕ
most_pack_rows = 65536

pub record IsSize (most size : ℕ) : Type 0 where
  pub some : 1 ≤ size
  pub few : size ≤ most

-- Each size is one that a store may be given, and no two segments are joined into one that is to be split.
pub record AreSettings (s : Settings) : Type 0 where
  pub mem : IsSize most_rows s.mem_rows
  pub tiny : IsSize most_rows s.tiny_files
  pub delta : IsSize most_rows s.delta_rows
  pub split : IsSize most_rows s.split_rows
  pub join : IsSize s.split_rows s.join_rows
  pub pack : IsSize most_pack_rows s.pack_rows
