-- What an entry of a log says to a replica that applies it.
use Rattle.std.specs.Prelude.{◌≡◌, ℕ, ◌-◌, ◌^◌, ℤ, negsuc, Option, Some, None, Ok, Err, List, length, slice_get, if◌then◌else◌}
use Rattle.std.specs.List.{filter_map}
use Rattle.flash_types.specs.declared.range.HandleRange.{HandleRange}
use Rattle.log_codec.specs.declared.entry.Body.{Body}
use Rattle.log_codec.specs.declared.entry.Body.TheVariants as body
use Rattle.log_codec.specs.declared.entry.Op.{Op}
use Rattle.committed_log.specs.Applied.{first_numbers}
use Rattle.committed_log.specs.Changes.{change_of}
use Rattle.committed_log.specs.Log.{Log}
use Rattle.committed_log.specs.Repeats.{repeats}
use Rattle.committed_log.specs.declared.op.FamilyOp.{FamilyOp}
use Rattle.raft_apply.specs.declared.command.Command.{Command}
use Rattle.raft_apply.specs.declared.command.Command.TheVariants as command
use Rattle.raft_apply.specs.declared.command.Parsed.{Parsed}

abbrev pub every_handle : HandleRange
every_handle = record { low = negsuc (2 ^ 63 - 1); high = None }

-- The change that an op makes, if any. In a lawful log no op is at fault, and each key lies in its region.
abbrev pub change_in : ℤ → Op → Option FamilyOp
change_in table op = elim (change_of table every_handle op) [ Err fault ↦ None | Ok found ↦ found ]

-- that of the op at place k of the entry at position p, unless it says again what its row's last commit says
abbrev pub change_at : Log → ℕ → List Op → ℕ → Option FamilyOp
change_at log p ops k = if repeats log p k then None else elim (slice_get ops k) [ None ↦ None | Some op ↦ change_in log.table op ]

abbrev pub changes : Log → ℕ → List Op → List FamilyOp
changes log p ops = filter_map (change_at log p ops) (first_numbers (length ops))

abbrev pub command_of : Log → ℕ → Body → Command
command_of log p (body.Open conf_ver version low high) = command.Open (record { conf_ver = conf_ver; version = version }) (record { low = low; high = high })
command_of log p (body.Write ops) = command.Write (changes log p ops)
command_of log p (body.Split at child) = command.Split at child
command_of log p (body.Prepare target) = command.Prepare target
command_of log p (body.Commit source) = command.Commit source
command_of log p body.Remove = command.Remove
command_of log p (body.Install conf_ver version low high ops) = command.Install (record { conf_ver = conf_ver; version = version }) (record { low = low; high = high }) (changes log p ops)
command_of log p body.Empty = command.Empty

-- the entry at position p
abbrev pub parsed : Log → ℕ → Option Parsed
parsed log p = elim (slice_get log.entries p) [ None ↦ None | Some e ↦ Some (record { position = p; region = e.region; index = e.index; command = command_of log p e.body }) ]

-- it is the log's entry at its position
abbrev pub IsParsed : Log → Parsed → Type 0
IsParsed log x = parsed log x.position ≡ Some x
