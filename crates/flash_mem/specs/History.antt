-- What a list of calls leaves.
use Rattle.std.specs.Prelude.{◌≡◌, ℕ, List, [], ◌∷◌, ◌++◌, length, Option, Some, None, Bool, true}
use Rattle.std.specs.Option.{option_map}
use Rattle.flash_io.specs.Image.{Image}
use Rattle.flash_io.specs.Crash.{Created, Torn, Removed}
use Rattle.flash_mem.specs.declared.history.Call.{Call}
use Rattle.flash_mem.specs.declared.history.Call.TheVariants as call
use Rattle.flash_mem.specs.Files.{set_file, written}

-- what a read gives after one call
abbrev pub seen_after : Call → Image → Image
seen_after (call.Create file bytes) seen = set_file file (Some bytes.items) seen
seen_after (call.Write file at bytes) seen = set_file file (option_map (written at bytes.items) (seen file)) seen
seen_after (call.Sync file) seen = seen
seen_after (call.Remove file) seen = set_file file None seen

-- and after several
abbrev pub seen_at_last : Image → List Call → Image
seen_at_last seen [] = seen
seen_at_last seen (c ∷ calls) = seen_at_last (seen_after c seen) calls

-- from an outcome of a crash before a call to one after it
abbrev pub Step : Call → Image → Image → Image → Type 0
Step (call.Create file bytes) seen old new = Created file (length bytes.items) old new
Step (call.Write file at bytes) seen old new = Torn file at (length bytes.items) old new
Step (call.Sync file) seen old new = (new ≡ old) × (old file ≡ seen file)
Step (call.Remove file) seen old new = Removed file old new

-- the outcomes of a crash after several calls, from those before them
abbrev pub Leaves : Image → (Image → Type 0) → List Call → Image → Type 0
Leaves seen P [] image = P image
Leaves seen P (c ∷ calls) image = Leaves (seen_after c seen) (λ new. (old : Image) × P old × Step c seen old new) calls image

-- no call is noted, and the files are as they were
pub record IsKept (calls later : List Call) (files now : Image) : Type 0 where
  pub calls_kept : later ≡ calls
  pub files_kept : (f : ℕ) → now f ≡ files f

-- this call is noted, the files are as they read after it, and its file is to be synced
pub record IsNoted (c : Call) (file : ℕ) (calls later : List Call) (files now : Image) (unsynced : ℕ → Bool) : Type 0 where
  pub calls_noted : later ≡ calls ++ c ∷ []
  pub files_set : (f : ℕ) → now f ≡ seen_after c files f
  pub to_sync : unsynced file ≡ true
