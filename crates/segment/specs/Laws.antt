-- What the changes of a segment leave present.
use Rattle.std.specs.Prelude.{◌++◌, List}
use Rattle.column_block.specs.declared.cell.Version.{Version}
use Rattle.flash_types.specs.declared.range.HandleRange.{HandleRange}
use Rattle.column_file.specs.declared.file.ColumnFile.{ColumnFile}
use Rattle.good_replica.specs.Trail.{DeltaFile}
use Rattle.delta_layer.specs.Files.{files_of}
use Rattle.delta_layer.specs.Present.{ArePresent}
use Rattle.delta_layer.specs.Repacked.{Repacked}

abbrev pub RepackedSegmentsShowTheSame : Type 0
RepackedSegmentsShowTheSame = (old new : List ColumnFile) → Repacked old new → (range : HandleRange) (stable versions : List Version) → ArePresent range stable (files_of old) versions → ArePresent range stable (files_of new) versions

abbrev pub SwappedSegmentsShowTheSame : Type 0
SwappedSegmentsShowTheSame = (range : HandleRange) (stable new : List Version) (taken rest : List DeltaFile) (versions : List Version) → ArePresent range stable taken new → ArePresent range stable (taken ++ rest) versions → ArePresent range new rest versions
