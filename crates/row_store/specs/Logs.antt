-- Of what the examples are made.
use Rattle.std.specs.Prelude.{ℕ, ◌^◌, ◌-◌, ℤ, pos, negsuc, Bool, true, Some, None, List, [], ◌∷◌, ◌++◌, nat_eq, nat_lt}
use Rattle.std.specs.List.{list_any}
use Rattle.column_block.specs.declared.cell.Cell.TheVariants as cell
use Rattle.column_block.specs.declared.cell.Row.{Row}
use Rattle.column_block.specs.declared.column.Column.{Column}
use Rattle.column_block.specs.declared.column.Kind.TheVariants as kind
use Rattle.flash_types.specs.Asks.{Asked}
use Rattle.flash_types.specs.declared.Epoch.{Epoch}
use Rattle.flash_types.specs.declared.range.HandleRange.{HandleRange}
use Rattle.flash_types.specs.declared.ask.AskRegion.{AskRegion}
use Rattle.flash_types.specs.declared.refusal.Cut.{Cut}
use Rattle.kv_codec.specs.Spelling.{key, timestamp, write}
use Rattle.kv_codec.specs.declared.records.WriteKind.TheVariants as record_kind
use Rattle.log_codec.specs.declared.entry.Entry.{Entry}
use Rattle.log_codec.specs.declared.entry.Family.TheVariants as family
use Rattle.log_codec.specs.declared.entry.Body.{Body}
use Rattle.log_codec.specs.declared.entry.Body.TheVariants as body
use Rattle.log_codec.specs.declared.entry.Op.{Op}
use Rattle.committed_log.specs.Log.{Log}

-- table 1, with a number in column 1 and bytes in column 2
abbrev pub columns : List Column
columns = record { id = 1; kind = kind.Int } ∷ record { id = 2; kind = kind.Bytes } ∷ []

abbrev pub log_of : List Entry → Log
log_of entries = record { table = pos 1; schema = columns; entries = entries }

-- the row with 5 and `ab`, the row with 1 and null, and the first with the id 3 in the place of 2
abbrev pub five_ab : List ℕ
five_ab = 128 ∷ 0 ∷ 2 ∷ 0 ∷ 0 ∷ 0 ∷ 1 ∷ 2 ∷ 1 ∷ 0 ∷ 3 ∷ 0 ∷ 5 ∷ 97 ∷ 98 ∷ []

abbrev pub one_null : List ℕ
one_null = 128 ∷ 0 ∷ 1 ∷ 0 ∷ 1 ∷ 0 ∷ 1 ∷ 2 ∷ 1 ∷ 0 ∷ 1 ∷ []

abbrev pub with_id_3 : List ℕ
with_id_3 = 128 ∷ 0 ∷ 2 ∷ 0 ∷ 0 ∷ 0 ∷ 1 ∷ 3 ∷ 1 ∷ 0 ∷ 3 ∷ 0 ∷ 5 ∷ 97 ∷ 98 ∷ []

abbrev pub five_ab_at : ℤ → Row
five_ab_at h = record { handle = h; cells = cell.Int (pos 5) ∷ cell.Bytes (97 ∷ 98 ∷ []) ∷ [] }

abbrev pub least_handle : ℤ
least_handle = negsuc (2 ^ 63 - 1)

abbrev pub greatest_handle : ℤ
greatest_handle = pos (2 ^ 63 - 1)

abbrev pub everything : HandleRange
everything = record { low = least_handle; high = None }

abbrev pub below_100 : HandleRange
below_100 = record { low = least_handle; high = Some (pos 100) }

-- ---- ops

abbrev pub put_in : ℤ → ℤ → ℕ → List ℕ → Op
put_in table h ts value = record { put = true; family = family.Write; key = key table h ++ timestamp ts; value = value }

-- a put record whose transaction began three earlier, with a short value
abbrev pub put_at : ℤ → ℕ → List ℕ → Op
put_at h ts value = put_in (pos 1) h ts (write (record { kind = record_kind.Put; start = ts - 3; short = Some value }))

abbrev pub delete_at : ℤ → ℕ → Op
delete_at h ts = put_in (pos 1) h ts (write (record { kind = record_kind.Delete; start = ts - 3; short = None }))

-- these bytes in the lock family
abbrev pub lock_of : ℤ → List ℕ → Op
lock_of h value = record { put = true; family = family.Lock; key = key (pos 1) h; value = value }

-- a value in the default family, of a transaction that began at this timestamp
abbrev pub value_of : ℤ → ℕ → List ℕ → Op
value_of h start value = record { put = true; family = family.Default; key = key (pos 1) h ++ timestamp start; value = value }

-- ---- entries

abbrev pub entry : ℕ → ℕ → Body → Entry
entry r index b = record { region = r; index = index; body = b }

-- region 1 with all handles, at index 5
abbrev pub open_all : Entry
open_all = entry 1 5 (body.Open 1 1 least_handle None)

-- a write of region 1 with one op
abbrev pub writes : ℕ → Op → Entry
writes index op = entry 1 index (body.Write (op ∷ []))

-- ---- reads

abbrev pub epoch : ℕ → ℕ → Epoch
epoch conf_ver version = record { conf_ver = conf_ver; version = version }

-- a region with all handles at an index
abbrev pub cut : ℕ → ℕ → Epoch → Cut
cut r index epoch = record { region = r; epoch = epoch; index = index; range = everything }

-- region 1 at the index
abbrev pub cut_1 : ℕ → List Cut
cut_1 index = cut 1 index (epoch 1 1) ∷ []

abbrev pub asked : ℕ → Epoch → ℕ → AskRegion
asked r epoch index = record { region = r; epoch = epoch; index = index }

-- a read of one region
abbrev pub ask : ℕ → ℕ → Epoch → ℕ → Asked
ask ts r epoch index = record { ts = ts; regions = asked r epoch index ∷ []; clip = everything }

-- a read of region 1 as it was opened
abbrev pub ask_1 : ℕ → ℕ → Asked
ask_1 ts index = ask ts 1 (epoch 1 1) index

-- the first n positions, and these positions
abbrev pub first : ℕ → ℕ → Bool
first n p = nat_lt p n

abbrev pub these : List ℕ → ℕ → Bool
these ps p = list_any (nat_eq p) ps
