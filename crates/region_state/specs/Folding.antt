-- What changes do to a region's families, and the versions that they commit: as in the row store, of which the region holds the values and the locks of its handles.
use Rattle.std.specs.Prelude.{Bool, true, false, ℕ, Some, None, List, [], ◌++◌, fold, map}
use Rattle.column_block.specs.declared.cell.Version.{Version}
use Rattle.column_block.specs.declared.column.Column.{Column}
use Rattle.committed_log.specs.Reads.{cells}
use Rattle.committed_log.specs.Store.{Store, after_change, is_delete}
use Rattle.committed_log.specs.declared.op.FamilyOp.{FamilyOp}
use Rattle.committed_log.specs.declared.op.FamilyOp.TheVariants as change
use Rattle.flash_types.specs.Ranges.{holds}
use Rattle.flash_types.specs.declared.range.HandleRange.{HandleRange}
use Rattle.committed_log.specs.declared.store.Commit.{Commit}
use Rattle.region_state.specs.State.{State}

-- a row store that has a region's families alone
abbrev pub store_of : State → Store
store_of s = record { regions = []; values = s.values; locks = s.locks; commits = [] }

-- what a change commits, where it says nothing again
abbrev pub committed : Store → FamilyOp → List Commit
committed s op = (after_change 0 (record s { commits = [] }) op).commits

-- the store after a change that says nothing again; the position of the entry isn't kept
abbrev pub after_one : Store → FamilyOp → Store
after_one s op = record (after_change 0 (record s { commits = [] }) op) { commits = s.commits ++ committed s op }

abbrev pub after_all : Store → List FamilyOp → Store
after_all s ops = fold after_one s ops

abbrev pub commits_nothing : FamilyOp → Bool
commits_nothing (change.Value h start bytes) = true
commits_nothing (change.DropValue h start) = true
commits_nothing (change.Lock h kind start) = true
commits_nothing (change.Unlock h) = true
commits_nothing (change.Write h ts start gone short) = false

-- a put with the cells of its value, or a delete, which has none
abbrev pub version_of : List Column → Commit → Version
version_of schema c = record { handle = c.handle; ts = c.ts; gone = is_delete c; cells = elim c.value [ None ↦ [] | Some value ↦ cells schema value ] }

-- the versions that changes commit, in order
abbrev pub versions_of : List Column → State → List FamilyOp → List Version
versions_of schema s ops = map (version_of schema) (after_all (store_of s) ops).commits

-- the region after an entry with these changes
abbrev pub folded : State → ℕ → List FamilyOp → State
folded s index ops =
    let t : Store = after_all (store_of s) ops in
    record s { descriptor = record s.descriptor { index = index }; values = t.values; locks = t.locks }

-- whether a change is of a handle of a range
abbrev pub lies_in : HandleRange → FamilyOp → Bool
lies_in range (change.Value h start bytes) = holds range h
lies_in range (change.DropValue h start) = holds range h
lies_in range (change.Lock h kind start) = holds range h
lies_in range (change.Unlock h) = holds range h
lies_in range (change.Write h ts start gone short) = holds range h
