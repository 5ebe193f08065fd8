-- What an entry does to a replica's files, by what a table keeps of its region.
use Rattle.std.specs.Prelude.{◌≡◌, ℕ, Option, Some, None, List, []}
use Rattle.column_block.specs.declared.cell.Version.{Version}
use Rattle.column_block.specs.declared.column.Column.{Column}
use Rattle.flash_types.specs.declared.range.HandleRange.{HandleRange}
use Rattle.committed_log.specs.Log.{Log}
use Rattle.committed_log.specs.declared.op.FamilyOp.{FamilyOp}
use Rattle.good_replica.specs.Effect.{added, clearing}
use Rattle.raft_apply.specs.declared.command.Command.{Command}
use Rattle.raft_apply.specs.declared.command.Command.TheVariants as command
use Rattle.raft_apply.specs.declared.command.Parsed.{Parsed}
use Rattle.region_file.specs.declared.entry.Entry.TheVariants as kept
use Rattle.region_state.specs.Folding.{versions_of}
use Rattle.region_state.specs.State.{born}
use Rattle.region_table.specs.declared.effect.Effect.{Effect}
use Rattle.region_table.specs.Table.{Kept}

-- the effect is that of the log's entry at its position: its region and index, the handles that it clears, and the versions that it adds
pub record IsEffect (log : Log) (x : Parsed) (effect : Effect) : Type 0 where
  pub region : effect.region ≡ x.region
  pub index : effect.index ≡ x.index
  pub clears : effect.clears ≡ clearing log x.position
  pub adds : effect.adds ≡ added log x.position

-- ---- as the program makes it

abbrev pub range_kept : Option Kept → Option HandleRange
range_kept None = None
range_kept (Some (kept.Gone index)) = None
range_kept (Some (kept.There s)) = Some s.descriptor.range

abbrev pub clears_of : Option Kept → Command → Option HandleRange
clears_of there command.Remove = range_kept there
clears_of there (command.Install epoch range ops) = Some range
clears_of there _ = None

abbrev pub versions_kept : List Column → Option Kept → List FamilyOp → List Version
versions_kept schema None ops = []
versions_kept schema (Some (kept.Gone last)) ops = []
versions_kept schema (Some (kept.There s)) ops = versions_of schema s ops

abbrev pub adds_of : List Column → Option Kept → ℕ → Command → List Version
adds_of schema there index (command.Write ops) = versions_kept schema there ops
adds_of schema there index (command.Install epoch range ops) = versions_of schema (born range epoch index) ops
adds_of schema there index _ = []
