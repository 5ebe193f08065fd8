-- A small log with an entry of each kind, and what each says.
use Rattle.std.specs.Prelude.{◌≡◌, ℕ, pos, Some, None, [], ◌∷◌}
use Rattle.flash_types.specs.declared.Epoch.{Epoch}
use Rattle.flash_types.specs.declared.range.HandleRange.{HandleRange}
use Rattle.log_codec.specs.declared.entry.Body.{Body}
use Rattle.log_codec.specs.declared.entry.Body.TheVariants as body
use Rattle.log_codec.specs.declared.entry.Entry.{Entry}
use Rattle.committed_log.specs.Log.{Log}
use Rattle.raft_apply.specs.Entries.{parsed}
use Rattle.raft_apply.specs.declared.command.Command.{Command}
use Rattle.raft_apply.specs.declared.command.Command.TheVariants as command
use Rattle.raft_apply.specs.declared.command.Parsed.{Parsed}

abbrev pub entry : ℕ → ℕ → Body → Entry
entry r index b = record { region = r; index = index; body = b }

abbrev pub each_kind : Log
each_kind = record {
  table = pos 1;
  schema = [];
  entries =
      entry 1 5 (body.Open 1 2 (pos 0) (Some (pos 100))) ∷ entry 1 6 (body.Write []) ∷ entry 1 7 (body.Split (pos 50) 2)
      ∷ entry 2 6 (body.Prepare 1) ∷ entry 1 8 (body.Commit 2) ∷ entry 1 9 body.Empty ∷ entry 1 10 body.Remove
      ∷ entry 3 20 (body.Install 4 5 (pos 7) None []) ∷ [];
}

abbrev pub says : ℕ → ℕ → ℕ → Command → Parsed
says p r index c = record { position = p; region = r; index = index; command = c }

abbrev pub epoch : ℕ → ℕ → Epoch
epoch conf_ver version = record { conf_ver = conf_ver; version = version }

-- each entry says what its body says, of its region and index; there is none past the end
pub record EachKindIsSaid : Type 0 where
  pub opens : parsed each_kind 0 ≡ Some (says 0 1 5 (command.Open (epoch 1 2) (record { low = pos 0; high = Some (pos 100) })))
  pub write : parsed each_kind 1 ≡ Some (says 1 1 6 (command.Write []))
  pub split : parsed each_kind 2 ≡ Some (says 2 1 7 (command.Split (pos 50) 2))
  pub prepare : parsed each_kind 3 ≡ Some (says 3 2 6 (command.Prepare 1))
  pub commit : parsed each_kind 4 ≡ Some (says 4 1 8 (command.Commit 2))
  pub empty : parsed each_kind 5 ≡ Some (says 5 1 9 command.Empty)
  pub remove : parsed each_kind 6 ≡ Some (says 6 1 10 command.Remove)
  pub install : parsed each_kind 7 ≡ Some (says 7 3 20 (command.Install (epoch 4 5) (record { low = pos 7; high = None }) []))
  pub none : parsed each_kind 8 ≡ None
