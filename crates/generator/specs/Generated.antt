-- The generated log: eight regions, a transaction for each number below n, and a merge.
use Rattle.std.specs.Prelude.{ℕ, zero, suc, ◌+◌, ◌-◌, ◌*◌, ◌/◌, ◌%◌, ◌^◌, pos, negsuc, List, [], ◌∷◌, ◌++◌, replicate, None, nat_lt, ◌==◌, if◌then◌else◌}
use Rattle.byteorder.specs.Endian.{little_bytes}
use Rattle.column_block.specs.declared.column.Column.{Column}
use Rattle.column_block.specs.declared.column.Kind.TheVariants as kind
use Rattle.log_codec.specs.declared.entry.Body.{Body}
use Rattle.log_codec.specs.declared.entry.Body.TheVariants as body
use Rattle.log_codec.specs.declared.entry.Entry.{Entry}
use Rattle.row_codec.specs.Rows.{Row}
use Rattle.row_codec.specs.Writing.{row_bytes}
use Rattle.committed_log.specs.Log.{Log}
use Rattle.generator.specs.Transactions.{Transaction, Change, Delete, PutShort, PutLong, prewrite, commit, write_entry}

-- ---- a random row for each transaction

-- Knuth's MMIX generator, a linear congruential one, from 1 on
unfoldable pub random : ℕ → ℕ
random zero = 1
random (suc i) = (random i * 6364136223846793005 + 1442695040888963407) % 2 ^ 64

-- the row, the region that has it, and whether it is deleted, of the transaction with this random number
abbrev pub row_of : ℕ → ℕ
row_of x = x / 2 ^ 33 % 8000

abbrev pub region_of : ℕ → ℕ
region_of x = row_of x / 1000 + 1

-- ---- the value of a row

-- the least width of a number that isn't signed, and of one that is signed and not negative
abbrev pub uint_width : ℕ → ℕ
uint_width n = if nat_lt n (2 ^ 8) then 1 else if nat_lt n (2 ^ 16) then 2 else if nat_lt n (2 ^ 32) then 4 else 8

abbrev pub int_width : ℕ → ℕ
int_width n = if nat_lt n (2 ^ 7) then 1 else if nat_lt n (2 ^ 15) then 2 else if nat_lt n (2 ^ 31) then 4 else 8

-- the handle, the transaction's number, and up to fifteen bytes
abbrev pub fields : ℕ → ℕ → Row
fields h i = ((1, little_bytes (int_width h) h) ∷ (2, little_bytes (uint_width i) i) ∷ (3, replicate (i % 16) (i % 256)) ∷ [], [])

unfoldable pub value : ℕ → ℕ → List ℕ
value h i = row_bytes (fields h i)

-- ---- transactions

-- one in eight is a delete, and of the puts every fourth goes through the default family
abbrev pub change : ℕ → ℕ → Change
change x i =
    if x / 2 ^ 20 % 8 == 0 then Delete
    else if i % 4 == 0 then PutLong (value (row_of x) i) else PutShort (value (row_of x) i)

abbrev pub transaction : ℕ → ℕ → Transaction
transaction x i = record { handle = pos (row_of x); start = 10 * i + 10; commit = 10 * i + 15; change = change x i }

-- the last index of a region before the transaction n: region 8 has no split, and each transaction has two entries
unfoldable pub last_index : ℕ → ℕ → ℕ
last_index r zero = if r == 8 then 5 else 6
last_index r (suc i) = last_index r i + (if region_of (random (suc i)) == r then 2 else 0)

-- ---- entries

abbrev pub entry : ℕ → ℕ → Body → Entry
entry r index b = record { region = r; index = index; body = b }

abbrev pub split : ℕ → Entry
split r = entry r 6 (body.Split (pos (1000 * r)) (r + 1))

-- region 1 has all handles, and each of the first seven splits the next off
abbrev pub opening : List Entry
opening = entry 1 5 (body.Open 1 1 (negsuc (2 ^ 63 - 1)) None) ∷ split 1 ∷ split 2 ∷ split 3 ∷ split 4 ∷ split 5 ∷ split 6 ∷ split 7 ∷ []

-- the two entries of the transaction i with the random number x, behind this index of its region
abbrev pub prewritten : ℕ → ℕ → ℕ → Entry
prewritten x i last = write_entry (region_of x) (last + 1) (prewrite (pos 1) 3000 (transaction x i))

abbrev pub committed : ℕ → ℕ → ℕ → Entry
committed x i last = write_entry (region_of x) (last + 2) (commit (pos 1) (transaction x i))

-- the entries before the transaction n
unfoldable pub begun : ℕ → List Entry
begun zero = opening
begun (suc i) =
    let x = random (suc i) in
    let last = last_index (region_of x) i in
    begun i ++ prewritten x i last ∷ committed x i last ∷ []

abbrev pub prepared : ℕ → Entry
prepared last = entry 8 (last + 1) (body.Prepare 7)

abbrev pub merged : ℕ → Entry
merged last = entry 7 (last + 1) (body.Commit 8)

abbrev pub columns : List Column
columns = record { id = 1; kind = kind.Int } ∷ record { id = 2; kind = kind.Uint } ∷ record { id = 3; kind = kind.Bytes } ∷ []

abbrev pub log_of : List Entry → Log
log_of entries = record { table = pos 1; schema = columns; entries = entries }

-- at the end region 8 is merged into region 7
abbrev pub generated : ℕ → Log
generated n = log_of (begun n ++ prepared (last_index 8 n) ∷ merged (last_index 7 n) ∷ [])
