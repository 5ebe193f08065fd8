-- Small images, and what they stand for.
use Rattle.std.specs.Prelude.{◌≡◌, ℕ, pos, Bool, true, false, List, [], ◌∷◌, Option, Some, None, Ok, ◌==◌, if◌then◌else◌}
use Rattle.flash_io.specs.Image.{Image}
use Rattle.flash_types.specs.Ranges.{least_handle}
use Rattle.column_block.specs.declared.cell.Version.{Version}
use Rattle.column_block.specs.declared.column.Column.{Column}
use Rattle.column_block.specs.declared.column.Kind.TheVariants as kind
use Rattle.column_file.specs.Tiny.{tiny_at}
use Rattle.committed_log.specs.Log.{Log}
use Rattle.log_laws.specs.Chains.{chain_at}
use Rattle.manifest_form.specs.declared.recover.Recovered.{Recovered}
use Rattle.manifest_form.specs.declared.state.State.{State}
use Rattle.manifest_form.specs.declared.state.StoredFile.{StoredFile}
use Rattle.manifest_form.specs.declared.state.StoredFile.TheVariants.{Tiny}
use Rattle.manifest_form.specs.declared.state.StoredSegment.{StoredSegment}
use Rattle.manifest.specs.Made.{first_state, store_of}
use Rattle.store_image.specs.Images.{Stands}

-- a log without entries
abbrev pub number_column : List Column
number_column = record { id = 1; kind = kind.Int } ∷ []

abbrev pub empty_log : Log
empty_log = record { table = pos 9; schema = number_column; entries = [] }

abbrev pub nothing_applied : ℕ → Bool
nothing_applied p = false

-- a version of handle 7, which no entry commits
abbrev pub stray : Version
stray = record { handle = pos 7; ts = 1; gone = true; cells = [] }

-- the handles below 6 and the others, with these files of their deltas
abbrev pub parted : List StoredFile → List StoredFile → List StoredSegment
parted low high =
    record { id = 0; range = record { low = least_handle; high = Some (pos 6) }; stable = None; delta = low }
    ∷ record { id = 1; range = record { low = pos 6; high = None }; stable = None; delta = high } ∷ []

abbrev pub state_of : List StoredSegment → Option ℕ → State
state_of segments count = record { next = 3; segments = segments; high = 0; chain = chain_at empty_log 0; safe_point = 5; regions = None; count = count }

abbrev pub has : State → Recovered
has s = store_of (pos 9) number_column s

-- these bytes in file 2, and no other file of a segment
abbrev pub in_file_2 : List ℕ → Image
in_file_2 bytes file = if file == 2 then Some bytes else None

abbrev pub StandsAtNothing : State → Image → Type 0
StandsAtNothing s c = Stands empty_log nothing_applied 1 (has s) c

-- A new store stands for the empty log. File 2 has a version of handle 7: the segment of the handles below 6 may name it, since nothing of it lies in its range, and the other may not. A count is that of the set, High isn't past the log's end, and a named file is neither missing nor the manifest's.
pub record SmallImagesStand : Type 0 where
  pub made : StandsAtNothing (first_state (chain_at empty_log 0)) (λ _. None)
  pub outside : (bytes : List ℕ) → tiny_at number_column bytes ≡ Ok (stray ∷ []) → StandsAtNothing (state_of (parted (Tiny 2 ∷ []) []) (Some 0)) (in_file_2 bytes)
  pub inside : (bytes : List ℕ) → tiny_at number_column bytes ≡ Ok (stray ∷ []) → StandsAtNothing (state_of (parted [] (Tiny 2 ∷ [])) (Some 0)) (in_file_2 bytes) → ⊥
  pub miscounted : StandsAtNothing (state_of (parted [] []) (Some 1)) (λ _. None) → ⊥
  pub too_high : StandsAtNothing (record (state_of (parted [] []) None) { high = 1 }) (λ _. None) → ⊥
  pub missing : StandsAtNothing (state_of (parted (Tiny 2 ∷ []) []) None) (λ _. None) → ⊥
  pub own : (c : Image) → StandsAtNothing (state_of (parted (Tiny 1 ∷ []) []) None) c → ⊥
