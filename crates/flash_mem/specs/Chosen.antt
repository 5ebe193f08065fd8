-- How an image goes on by a call.
use Rattle.std.specs.Prelude.{◌≡◌, ℕ}
use Rattle.flash_io.specs.Image.{Image}
use Rattle.flash_mem.specs.declared.history.Call.{Call}
use Rattle.flash_mem.specs.declared.history.Call.TheVariants as call
use Rattle.flash_mem.specs.Files.{set_file}
use Rattle.flash_mem.specs.History.{Step}

-- by a step, and by a sync to what a read gives of the file
abbrev pub Chosen : Call → Image → Image → Image → Type 0
Chosen (call.Create file bytes) seen old new = Step (call.Create file bytes) seen old new
Chosen (call.Write file at bytes) seen old new = Step (call.Write file at bytes) seen old new
Chosen (call.Sync file) seen old new = (f : ℕ) → new f ≡ set_file file (seen file) old f
Chosen (call.Remove file) seen old new = Step (call.Remove file) seen old new
