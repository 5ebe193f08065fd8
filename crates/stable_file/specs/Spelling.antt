-- The one footer that tells of some packs.
use Rattle.std.specs.Prelude.{ℕ, List, [], ◌∷◌, ◌++◌, length}
use Rattle.std.specs.Int.{w64, to_be_bytes}
use Rattle.std.specs.List.{flat_map}
use Rattle.column_block.specs.declared.column.Column.{Column}
use Rattle.column_block.specs.declared.column.Kind.{Kind}
use Rattle.column_block.specs.declared.column.Kind.TheVariants as kind
use Rattle.column_block.specs.declared.column.MinMax.{MinMax}
use Rattle.stable_file.specs.declared.pack.Pack.{Pack}
use Rattle.stable_file.specs.Building.{sizes, handle, numbers}

-- a column of bytes has no range in the footer
abbrev pub range_spelled : Kind → MinMax → List ℕ
range_spelled kind.Bytes range = []
range_spelled _ range = numbers range

-- a range for each column
abbrev pub ranges_spelled : List Column → List MinMax → List ℕ
ranges_spelled (column ∷ columns) (range ∷ ranges) = range_spelled column.kind range ++ ranges_spelled columns ranges
ranges_spelled _ _ = []

abbrev pub entry_spelled : List Column → Pack → List ℕ
entry_spelled columns pack = sizes pack.place pack.len pack.count ++ ((handle pack.low ++ handle pack.high) ++ ranges_spelled columns pack.ranges)

-- the entries, and the number of packs
abbrev pub footer_spelled : List Column → List Pack → List ℕ
footer_spelled columns packs = flat_map (entry_spelled columns) packs ++ to_be_bytes w64 (length packs)
