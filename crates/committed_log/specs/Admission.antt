-- To be believed.
-- Which entry may follow a log, and what is wrong with the others: the first of these faults.
use Rattle.std.specs.Prelude.{ℕ, suc, ◌^◌, ℤ, Bool, true, false, not, ◌&&◌, ◌||◌, Option, Some, None, Ok, Err, List, [], ◌∷◌, nat_lt, int_le, int_lt, ◌==◌, if◌then◌else◌, option_map, unwrap_or, fold, map}
use Rattle.std.specs.Option.{option_or, option_and_then}
use Rattle.std.specs.Map.{values_of}
use Rattle.column_block.specs.Cells.{cells_of}
use Rattle.column_block.specs.declared.column.Column.{Column}
use Rattle.flash_types.specs.Ranges.{holds, is_below}
pub use Rattle.flash_types.specs.Ranges.{touch}
use Rattle.flash_types.specs.declared.range.HandleRange.{HandleRange}
use Rattle.log_codec.specs.declared.entry.Entry.{Entry}
use Rattle.log_codec.specs.declared.entry.Body.{Body}
use Rattle.log_codec.specs.declared.entry.Body.TheVariants as body
use Rattle.log_codec.specs.declared.entry.Op.{Op}
use Rattle.row_codec.specs.Rows.{row_at}
use Rattle.row_decode.specs.Known.{unknown_column}
use Rattle.committed_log.specs.Changes.{change_of, BadKey, BadRecord}
use Rattle.committed_log.specs.Regions.{Region, Unborn, Live, Prepared, Gone, region, range_of, index_of, makes_region}
use Rattle.committed_log.specs.Store.{Store, last_commit, is_repeated, committed_value, value, after_op, cleared}
use Rattle.committed_log.specs.declared.op.LastCommit.{LastCommit}
use Rattle.committed_log.specs.declared.op.FamilyOp.{FamilyOp}
use Rattle.committed_log.specs.declared.op.FamilyOp.TheVariants as change
use Rattle.committed_log.specs.declared.unlawful.Unlawful.{Unlawful}
use Rattle.committed_log.specs.declared.unlawful.Unlawful.TheVariants as unlawful
use Rattle.committed_log.specs.declared.unlawful.RowFault.{RowFault}
use Rattle.committed_log.specs.declared.unlawful.RowFault.TheVariants as row_fault
use Rattle.committed_log.specs.declared.unlawful.RegionState.{RegionState}
use Rattle.committed_log.specs.declared.unlawful.RegionState.TheVariants as state

abbrev pub unless : Bool → Unlawful → Option Unlawful
unless ok fault = if ok then None else Some fault

-- ---- the states of the regions that an entry names

abbrev pub state_of : Region → RegionState
state_of Unborn = state.Unborn
state_of (Live d) = state.Live
state_of (Prepared d target) = state.Prepared
state_of (Gone index) = state.Gone

abbrev pub is_unborn : Region → Bool
is_unborn Unborn = true
is_unborn _ = false

abbrev pub is_live : Region → Bool
is_live (Live d) = true
is_live _ = false

abbrev pub is_prepared_for : ℕ → Region → Bool
is_prepared_for r (Prepared d target) = target == r
is_prepared_for r _ = false

-- a region is in the state that a test wants
abbrev pub region_fault : List (ℕ × Region) → ℕ → (Region → Bool) → Option Unlawful
region_fault regions r test = unless (test (region regions r)) (unlawful.Region r (state_of (region regions r)))

-- an entry that makes its region wants it unborn, and each other wants it live
abbrev pub own_fault : List (ℕ × Region) → ℕ → Body → Option Unlawful
own_fault regions r b = region_fault regions r (if makes_region b then is_unborn else is_live)

-- a split's child is unborn, a prepare's target is another live region, and a commit's source is prepared for this one
abbrev pub other_fault : List (ℕ × Region) → ℕ → Body → Option Unlawful
other_fault regions r (body.Split at child) = region_fault regions child is_unborn
other_fault regions r (body.Prepare target) = region_fault regions target (λ there. is_live there && not (target == r))
other_fault regions r (body.Commit source) = region_fault regions source (is_prepared_for r)
other_fault regions r _ = None

-- ---- the index

-- the next one of its region, but for an entry that makes its region: a snapshot comes with the index that it was taken at
abbrev pub index_fault : List (ℕ × Region) → Entry → Option Unlawful
index_fault regions e =
    let wants = suc (unwrap_or (index_of (region regions e.region)) 0) in
    unless (makes_region e.body || e.index == wants) (unlawful.Index wants)

-- ---- ranges

-- the least handle that both ranges hold
abbrev pub least_common : HandleRange → HandleRange → Option ℤ
least_common a b =
    let low = if int_le a.low b.low then b.low else a.low in
    if holds a low && holds b low then Some low else None

abbrev pub lesser : Option ℤ → Option ℤ → Option ℤ
lesser None h = h
lesser (Some g) None = Some g
lesser (Some g) (Some h) = if int_le g h then Some g else Some h

abbrev pub taken_by : HandleRange → Region → Option ℤ
taken_by range other = option_and_then (least_common range) (range_of other)

-- the least handle of a range that a live or prepared region has
abbrev pub least_taken : HandleRange → List Region → Option ℤ
least_taken range regions = fold lesser None (map (taken_by range) regions)

-- the range of a new region isn't empty, and no other region has a handle of it
abbrev pub birth_fault : List (ℕ × Region) → HandleRange → Option Unlawful
birth_fault regions range =
    if is_below range.low range.high then option_map unlawful.Range (least_taken range (values_of regions))
    else Some (unlawful.Range range.low)

-- the two ranges of a merge touch; the fault names the source's low end
abbrev pub merge_fault : List (ℕ × Region) → ℕ → ℕ → Option Unlawful
merge_fault regions source target = elim (range_of (region regions source)) [
  | None ↦ None
  | Some a ↦ elim (range_of (region regions target)) [ None ↦ None | Some b ↦ unless (touch a b) (unlawful.Range a.low) ]
]

-- a split leaves handles to both parts
abbrev pub split_fault : List (ℕ × Region) → ℕ → ℤ → Option Unlawful
split_fault regions r at = elim (range_of (region regions r)) [ None ↦ None | Some range ↦ unless (int_lt range.low at && holds range at) (unlawful.Range at) ]

abbrev pub range_fault : List (ℕ × Region) → ℕ → Body → Option Unlawful
range_fault regions r (body.Open conf_ver version low high) = birth_fault regions (record { low = low; high = high })
range_fault regions r (body.Install conf_ver version low high ops) = birth_fault regions (record { low = low; high = high })
range_fault regions r (body.Split at child) = split_fault regions r at
range_fault regions r (body.Prepare target) = merge_fault regions r target
range_fault regions r (body.Commit source) = merge_fault regions source r
range_fault regions r _ = None

-- ---- ops

-- what is wrong with a value that is to be a row of the table
abbrev pub row_fault_of : List Column → List ℕ → Option RowFault
row_fault_of schema value = elim (row_at value) [
  | Err e ↦ Some row_fault.Form
  | Ok row ↦ elim (cells_of schema row) [ Err id ↦ Some row_fault.Form | Ok cells ↦ option_map row_fault.UnknownColumn (unknown_column schema row) ]
]

abbrev pub of_row : ℕ → RowFault → Unlawful
of_row k row_fault.Form = unlawful.Row k
of_row k (row_fault.UnknownColumn id) = unlawful.UnknownColumn k id

-- a put has a value, and it is a row
abbrev pub value_fault : List Column → Option (List ℕ) → ℕ → Option Unlawful
value_fault schema None k = Some (unlawful.NoValue k)
value_fault schema (Some value) k = option_map (of_row k) (row_fault_of schema value)

-- a commit is later than the handle's last one
abbrev pub backdated_fault : Option LastCommit → ℕ → ℕ → Option Unlawful
backdated_fault None ts k = None
backdated_fault (Some c) ts k = unless (nat_lt c.ts ts) (unlawful.Backdated k c.ts)

-- what is wrong with a commit, against the row's last one and what the default family has for it
abbrev pub commit_fault : List Column → Option LastCommit → Option (List ℕ) → ℕ → ℕ → ℕ → Bool → Option (List ℕ) → Option Unlawful
commit_fault schema last long k ts start gone short =
    if is_repeated last ts start gone then None
    else option_or (backdated_fault last ts k) (if gone then None else value_fault schema (committed_value gone short long) k)

-- only a commit can be at fault: against the last commits of handles, and what the default family has
abbrev pub change_fault : List Column → (ℤ → Option LastCommit) → List ((ℤ × ℕ) × List ℕ) → ℕ → FamilyOp → Option Unlawful
change_fault schema last values k (change.Write h ts start gone short) = commit_fault schema (last h) (value values h start) k ts start gone short
change_fault schema last values k _ = None

-- what is wrong with the op at place k of an entry
abbrev pub op_fault : ℤ → List Column → HandleRange → Store → ℕ → Op → Option Unlawful
op_fault table schema range s k op = elim (change_of table range op) [
  | Err fault ↦ elim fault [ BadKey ↦ Some (unlawful.Key k) | BadRecord ↦ Some (unlawful.Record k) ]
  | Ok found ↦ elim found [ None ↦ None | Some c ↦ change_fault schema (last_commit s.commits) s.values k c ]
]

-- the first fault of the ops from place k on, each after those before it
abbrev pub ops_fault_from : ℤ → List Column → HandleRange → ℕ → Store → ℕ → List Op → Option Unlawful
ops_fault_from table schema range p s k [] = None
ops_fault_from table schema range p s k (op ∷ ops) = option_or (op_fault table schema range s k op) (ops_fault_from table schema range p (after_op table range p s op) (suc k) ops)

abbrev pub ops_fault : ℤ → List Column → ℕ → Store → ℕ → Body → Option Unlawful
ops_fault table schema p s r (body.Write ops) = elim (range_of (region s.regions r)) [ None ↦ None | Some range ↦ ops_fault_from table schema range p s 0 ops ]
ops_fault table schema p s r (body.Install conf_ver version low high ops) =
    let range : HandleRange = record { low = low; high = high } in ops_fault_from table schema range p (cleared range s) 0 ops
ops_fault table schema p s r _ = None

-- ---- entries

-- what is wrong with the entry at position p but for its ops; a log has 1,048,576 entries at most
abbrev pub head_fault : ℕ → List (ℕ × Region) → Entry → Option Unlawful
head_fault p regions e =
    option_or (unless (nat_lt p (2 ^ 20)) unlawful.Count)
    (option_or (own_fault regions e.region e.body)
    (option_or (other_fault regions e.region e.body)
    (option_or (index_fault regions e) (range_fault regions e.region e.body))))

-- what is wrong with an entry at position p, after the store s
abbrev pub fault_at : ℤ → List Column → ℕ → Store → Entry → Option Unlawful
fault_at table schema p s e = option_or (head_fault p s.regions e) (ops_fault table schema p s e.region e.body)
