-- What applying an entry adds to a replica's files and clears there.
use Rattle.std.specs.Prelude.{ℕ, suc, Option, Some, None, List, [], ◌∷◌, ◌++◌, ◌==◌, filter, map, slice_get}
use Rattle.column_block.specs.declared.cell.Version.{Version}
use Rattle.flash_types.specs.Ranges.{holds}
pub use Rattle.flash_types.specs.Ranges.{common, lower_end}
use Rattle.flash_types.specs.declared.range.HandleRange.{HandleRange}
use Rattle.committed_log.specs.Log.{Log, at}
use Rattle.committed_log.specs.Regions.{region, range_of}
pub use Rattle.committed_log.specs.Store.{clearing_of, holds_some}
use Rattle.committed_log.specs.declared.store.Commit.{Commit}
use Rattle.good_replica.specs.Trail.{Segment, DeltaFile, Puts, Clears}
use Rattle.good_replica.specs.Versions.{version_of}

-- The versions that an entry adds: of the commits that carry its position, in the order of its ops.
abbrev pub added : Log → ℕ → List Version
added log p = map (version_of log.schema) (filter (λ (c : Commit). c.position == p) (at log (suc p)).commits)

-- The handles whose older versions it takes away: its region's for a Remove, its own range's for an Install.
abbrev pub clearing : Log → ℕ → Option HandleRange
clearing log p = elim (slice_get log.entries p) [ None ↦ None | Some e ↦ clearing_of (range_of (region (at log p).regions e.region)) e.body ]

-- ---- files, clipped to a segment

-- what a file says of the handles of a range
abbrev pub clipped : HandleRange → DeltaFile → DeltaFile
clipped range (Puts versions) = Puts (filter (λ (v : Version). holds range v.handle) versions)
clipped range (Clears other) = Clears (common range other)

abbrev pub with_file : Segment → DeltaFile → Segment
with_file s f = record s { delta = s.delta ++ f ∷ [] }

-- A segment after an entry: the entry's delete-range and then its versions come last in the delta, both clipped to the segment. A file that says nothing may be left out: no trail has it.
abbrev pub cleared_by : Option HandleRange → Segment → Segment
cleared_by None s = s
cleared_by (Some range) s = with_file s (clipped s.range (Clears range))

abbrev pub absorbed : Option HandleRange → List Version → Segment → Segment
absorbed range versions s = with_file (cleared_by range s) (clipped s.range (Puts versions))
