-- To be believed.
-- What an op means: the change that it makes to one of TiKV's column families.
use Rattle.std.specs.Prelude.{ℕ, ℤ, true, false, Option, Some, None, Result, Ok, Err, List, if◌then◌else◌, option_map}
use Rattle.flash_list.specs.Steps.{◌>>=◌}
use Rattle.flash_types.specs.Ranges.{holds}
use Rattle.flash_types.specs.declared.range.HandleRange.{HandleRange}
use Rattle.kv_codec.specs.Keys.{record_at, parts_at}
use Rattle.kv_codec.specs.Records.{Write, write_at, lock_at}
use Rattle.kv_codec.specs.declared.keys.KeyError.{KeyError}
use Rattle.kv_codec.specs.declared.records.WriteKind.TheVariants as kind
use Rattle.log_codec.specs.declared.entry.Op.{Op}
use Rattle.log_codec.specs.declared.entry.Family.{Family}
use Rattle.log_codec.specs.declared.entry.Family.TheVariants as family
use Rattle.committed_log.specs.declared.op.FamilyOp.{FamilyOp}
use Rattle.committed_log.specs.declared.op.FamilyOp.TheVariants as change
pub use Rattle.committed_log.specs.declared.op.OpFault.{OpFault}
pub use Rattle.committed_log.specs.declared.op.OpFault.TheVariants.{BadKey, BadRecord}

-- the handle and the timestamp that a key of the default or the write family names; none where it is no record key of the table
abbrev pub timed_key : ℤ → List ℕ → Result (Option (ℤ × ℕ)) KeyError
timed_key table key = do
  parts ← parts_at key
  handle ← record_at table parts.0
  Ok (option_map (λ h. (h, parts.1)) handle)

-- a key of the lock family has no timestamp, for which 0 stands here
abbrev pub key_at : ℤ → Family → List ℕ → Result (Option (ℤ × ℕ)) KeyError
key_at table family.Default key = timed_key table key
key_at table family.Write key = timed_key table key
key_at table family.Lock key = record_at table key >>= λ handle. Ok (option_map (λ h. (h, 0)) handle)

-- a put and a delete commit; a lock record and a rollback record change nothing
abbrev pub commit_of : ℤ → ℕ → Write → Option FamilyOp
commit_of h ts w = elim w.kind [
  | kind.Put ↦ Some (change.Write h ts w.start false w.short)
  | kind.Delete ↦ Some (change.Write h ts w.start true None)
  | kind.Lock ↦ None
  | kind.Rollback ↦ None
]

-- what is put at a row's key
abbrev pub put_of : Family → ℤ → ℕ → List ℕ → Result (Option FamilyOp) OpFault
put_of family.Default h ts value = Ok (Some (change.Value h ts value))
put_of family.Lock h ts value = elim (lock_at value) [ Err e ↦ Err BadRecord | Ok l ↦ Ok (Some (change.Lock h l.kind l.start)) ]
put_of family.Write h ts value = elim (write_at value) [ Err e ↦ Err BadRecord | Ok w ↦ Ok (commit_of h ts w) ]

-- what is deleted at a row's key; in the write family nothing is, since a commit stays
abbrev pub delete_of : Family → ℤ → ℕ → Option FamilyOp
delete_of family.Default h ts = Some (change.DropValue h ts)
delete_of family.Lock h ts = Some (change.Unlock h)
delete_of family.Write h ts = None

-- The change that an op makes in a region with this range, if any. A well-formed key that is no record key of the table makes none: it is of another table, or an index key.
abbrev pub change_of : ℤ → HandleRange → Op → Result (Option FamilyOp) OpFault
change_of table range op = elim (key_at table op.family op.key) [
  | Err e ↦ Err BadKey
  | Ok named ↦ elim named [
    | None ↦ Ok None
    | Some k ↦ if holds range k.0 then (if op.put then put_of op.family k.0 k.1 op.value else Ok (delete_of op.family k.0 k.1)) else Err BadKey
  ]
]
