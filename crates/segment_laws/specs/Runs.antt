-- The tiny files of a layer that a compaction puts together, and the files that a flush leaves.
use Rattle.std.specs.Prelude.{◌≡◌, ◌⊎◌, ◌≤◌, ◌<◌, ℕ, suc, Bool, true, false, ◌&&◌, List, ◌∷◌, ◌++◌, length, map, take, drop, slice_get, slice_range, Some, None}
use Rattle.std.specs.List.{AllByRecursion, flat_map}
use Rattle.column_block.specs.declared.cell.Version.{Version}
use Rattle.column_file.specs.declared.file.ColumnFile.{ColumnFile}
use Rattle.good_replica.specs.Trail.{Puts}
use Rattle.delta_layer.specs.Files.{files_of, is_tiny}
use Rattle.delta_layer.specs.Overlay.{block_in}
use Rattle.delta_layer.specs.Repacked.{Repacked}
use Rattle.prefix_laws.specs.Tagged.{Tagged, file_in, with_tag}
use Rattle.prefix_laws.specs.Views.{AreBy}

-- whether a tiny file stands at the place
abbrev pub tiny_at_place : List ColumnFile → ℕ → Bool
tiny_at_place files place = elim (slice_get files place) [ None ↦ false | Some f ↦ is_tiny f ]

-- The files from..to are the first two or more tiny files that stand side by side, as many as there are.
pub record IsFirstRun (files : List ColumnFile) (from to : ℕ) : Type 0 where
  pub many : suc from < to
  pub within : to ≤ length files
  pub tinies : AllByRecursion (λ (f : ColumnFile). is_tiny f ≡ true) (slice_range files from to)
  pub ends : tiny_at_place files to ≡ false
  pub first : (k : ℕ) → k < from → (tiny_at_place files k && tiny_at_place files (suc k)) ≡ false

-- the versions of these files, one behind the other
abbrev pub run_of : List ColumnFile → ℕ → ℕ → List Version
run_of files from to = flat_map block_in (slice_range files from to)

-- tagged files, of which those in the places from..to, a run of the layer that they are, give way to one with the run's versions
abbrev pub with_run : ℕ → List ColumnFile → ℕ → ℕ → List Tagged → List Tagged
with_run tag layer from to files = take from files ++ (with_tag tag (Puts (run_of layer from to)) ∷ drop to files)

-- The files are those of the layer, and those of its first run are named; so is the one that takes their place.
pub record IsNamedRun (named tag : ℕ) (layer : List ColumnFile) (from to : ℕ) (files : List Tagged) : Type 0 where
  pub are : map file_in files ≡ files_of layer
  pub run : IsFirstRun layer from to
  pub by : AreBy named (slice_range files from to)
  pub one_by : tag ≤ named

-- ---- a flush

-- Files with counts up to the last one give way to others that are all named: those of a layer that came from the old one by flushes, or of the old one itself.
pub record IsFlush (named last : ℕ) (old new : List Tagged) : Type 0 where
  pub layer : List ColumnFile
  pub renewed : List ColumnFile
  pub known : AreBy last old
  pub by : AreBy named new
  pub old_is : map file_in old ≡ files_of layer
  pub new_is : map file_in new ≡ files_of renewed
  pub came : Repacked layer renewed ⊎ (renewed ≡ layer)
