-- The change of an op whose key is a row's in the region.
use Rattle.std.proofs.Common.{◌≡◌, ℕ, ℤ, true, Option, Some, None, Result, Ok, Err, refl, ap, ◌∙◌, sym, subst}
use Rattle.std.specs.Prelude.{if◌then◌else◌}
use Rattle.kv_codec.specs.declared.keys.KeyError.{KeyError}
use Rattle.flash_types.specs.Ranges.{holds}
use Rattle.flash_types.specs.declared.range.HandleRange.{HandleRange}
use Rattle.log_codec.specs.declared.entry.Op.{Op}
use Rattle.committed_log.specs.Changes.{key_at, put_of, delete_of, change_of, OpFault, BadKey}
use Rattle.committed_log.specs.Outcomes.{IsChange}
use Rattle.committed_log.specs.declared.change.ChangeError.{ChangeError}
use Rattle.committed_log.specs.declared.op.FamilyOp.{FamilyOp}

-- the change of an op, by what its key names
abbrev named_by : HandleRange → Op → Result (Option (ℤ × ℕ)) KeyError → Result (Option FamilyOp) OpFault
named_by range op r = elim r [
  | Err e ↦ Err BadKey
  | Ok named ↦ elim named [
    | None ↦ Ok None
    | Some k ↦ if holds range k.0 then (if op.put then put_of op.family k.0 k.1 op.value else Ok (delete_of op.family k.0 k.1)) else Err BadKey
  ]
]

change_put : (table : ℤ) (range : HandleRange) (op : Op) (h : ℤ) (ts : ℕ) → key_at table op.family op.key ≡ Ok (Some (h, ts)) → holds range h ≡ true → op.put ≡ true
    → change_of table range op ≡ put_of op.family h ts op.value
change_put table range op h ts key held put = ap (named_by range op) key ∙ rw (held, put) refl

pub put_here : (table : ℤ) (range : HandleRange) (op : Op) (h : ℤ) (ts : ℕ) (r : Result (Option FamilyOp) ChangeError)
    → key_at table op.family op.key ≡ Ok (Some (h, ts)) → holds range h ≡ true → op.put ≡ true → IsChange r (put_of op.family h ts op.value) → IsChange r (change_of table range op)
put_here table range op h ts r key held put is = subst (IsChange r) (sym (change_put table range op h ts key held put)) is
