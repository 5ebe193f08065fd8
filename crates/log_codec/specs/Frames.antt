-- The frames of a log, one an entry: a length and the payload, with its parts from left to right.
use Rattle.std.specs.Prelude.{ℕ, ◌+◌, ◌-◌, ◌^◌, ℤ, List, [], length, take, drop, nat_lt, ◌==◌, if◌then◌else◌, Option, Some, None, Result, Ok, Err}
use Rattle.std.specs.Int.{w16, w32, w64, cast_signed}
use Rattle.flash_list.specs.Steps.{◌>>=◌, each_at}
use Rattle.flash_list.specs.Fields.{number_at}
use Rattle.log_codec.specs.declared.fault.FrameError.{FrameError}
use Rattle.log_codec.specs.declared.fault.FrameError.TheVariants.{Short, Long}
use Rattle.log_codec.specs.declared.entry.Entry.{Entry}
use Rattle.log_codec.specs.declared.entry.Frame.{Frame}
use Rattle.log_codec.specs.declared.entry.Body.{Body}
use Rattle.log_codec.specs.declared.entry.Body.TheVariants.{Open, Write, Split, Prepare, Commit, Remove, Install, Empty}
use Rattle.log_codec.specs.declared.entry.Op.{Op}
use Rattle.log_codec.specs.declared.op.Head.{Head}
use Rattle.log_codec.specs.declared.entry.Family.{Family}
use Rattle.log_codec.specs.declared.entry.Family.TheVariants.{Default, Lock, Write as WriteFamily}
use Rattle.log_codec.specs.Fields.{passes, number_in, byte_in, bytes_at}

-- ---- ranges and epochs

unfoldable pub handle_at : ℕ → List ℕ → Result (ℤ × List ℕ) FrameError
handle_at end bytes = number_at w64 (passes end bytes) bytes >>= λ n. Ok (cast_signed w64 n.0, n.1)

-- the end of a range, where it has one
unfoldable pub high_at : ℕ → List ℕ → Result (Option ℤ × List ℕ) FrameError
high_at end bytes = do
  flag ← byte_in 0 1 (passes end bytes) end bytes
  if flag.0 == 0 then Ok (None, flag.1) else (handle_at end flag.1 >>= λ high. Ok (Some high.0, high.1))

unfoldable pub range_at : ℕ → List ℕ → Result ((ℤ × Option ℤ) × List ℕ) FrameError
range_at end bytes = do
  low ← handle_at end bytes
  high ← high_at end low.1
  Ok ((low.0, high.0), high.1)

-- the conf version and the version
unfoldable pub epoch_at : ℕ → List ℕ → Result ((ℕ × ℕ) × List ℕ) FrameError
epoch_at end bytes = do
  conf_ver ← number_in w64 0 (2 ^ 62 - 1) (passes end bytes) end bytes
  version ← number_in w64 0 (2 ^ 62 - 1) (passes end conf_ver.1) end conf_ver.1
  Ok ((conf_ver.0, version.0), version.1)

-- ---- ops

abbrev pub family_of : ℕ → Family
family_of n = if n == 1 then Default else if n == 2 then Lock else WriteFamily

-- what stands before an op's key: its kind, 1 for a put and 2 for a delete, of which those above `most` may not stand here; its family; the key's length
unfoldable pub head_at : ℕ → ℕ → List ℕ → Result (Head × List ℕ) FrameError
head_at end most bytes = do
  put ← byte_in 1 most (passes end bytes) end bytes
  family ← byte_in 1 3 (passes end put.1) end put.1
  len ← number_at w16 (passes end family.1) family.1
  Ok (record { put = put.0; family = family.0; key_len = len.0 }, len.1)

-- a put alone has a value
unfoldable pub value_at : ℕ → ℕ → List ℕ → Result (List ℕ × List ℕ) FrameError
value_at end put bytes = if put == 1 then (number_at w32 (passes end bytes) bytes >>= λ len. bytes_at end len.0 len.1) else Ok ([], bytes)

unfoldable pub op_at : ℕ → ℕ → Unit {0} → List ℕ → Result (Op × List ℕ) FrameError
op_at end most _ bytes = do
  head ← head_at end most bytes
  key ← bytes_at end head.0.key_len head.1
  value ← value_at end head.0.put key.1
  Ok (record { put = head.0.put == 1; family = family_of head.0.family; key = key.0; value = value.0 }, value.1)

-- so many ops
unfoldable pub each_op_at : ℕ → ℕ → ℕ → List ℕ → Result (List Op × List ℕ) FrameError
each_op_at end most count bytes = each_at (op_at end most) (λ _. tt {0}) count (tt {0}) bytes

unfoldable pub ops_at : ℕ → ℕ → List ℕ → Result (List Op × List ℕ) FrameError
ops_at end most bytes = do
  count ← number_at w32 (passes end bytes) bytes
  each_op_at end most count.0 count.1

-- ---- bodies

unfoldable pub open_at : ℕ → List ℕ → Result (Body × List ℕ) FrameError
open_at end bytes = do
  epoch ← epoch_at end bytes
  range ← range_at end epoch.1
  Ok (Open epoch.0.0 epoch.0.1 range.0.0 range.0.1, range.1)

unfoldable pub write_at : ℕ → List ℕ → Result (Body × List ℕ) FrameError
write_at end bytes = ops_at end 2 bytes >>= λ ops. Ok (Write ops.0, ops.1)

unfoldable pub split_at : ℕ → List ℕ → Result (Body × List ℕ) FrameError
split_at end bytes = do
  at ← handle_at end bytes
  child ← number_at w32 (passes end at.1) at.1
  Ok (Split at.0 child.0, child.1)

unfoldable pub prepare_at : ℕ → List ℕ → Result (Body × List ℕ) FrameError
prepare_at end bytes = number_at w32 (passes end bytes) bytes >>= λ target. Ok (Prepare target.0, target.1)

unfoldable pub commit_at : ℕ → List ℕ → Result (Body × List ℕ) FrameError
commit_at end bytes = number_at w32 (passes end bytes) bytes >>= λ source. Ok (Commit source.0, source.1)

-- an Install has puts alone
unfoldable pub install_at : ℕ → List ℕ → Result (Body × List ℕ) FrameError
install_at end bytes = do
  epoch ← epoch_at end bytes
  range ← range_at end epoch.1
  ops ← ops_at end 1 range.1
  Ok (Install epoch.0.0 epoch.0.1 range.0.0 range.0.1 ops.0, ops.1)

-- a body of this kind
abbrev pub body_of : ℕ → ℕ → List ℕ → Result (Body × List ℕ) FrameError
body_of end kind bytes =
    if kind == 1 then open_at end bytes
    else if kind == 2 then write_at end bytes
    else if kind == 3 then split_at end bytes
    else if kind == 4 then prepare_at end bytes
    else if kind == 5 then commit_at end bytes
    else if kind == 6 then Ok (Remove, bytes)
    else if kind == 7 then install_at end bytes
    else Ok (Empty, bytes)

unfoldable pub body_at : ℕ → List ℕ → Result (Body × List ℕ) FrameError
body_at end bytes = byte_in 1 8 (passes end bytes) end bytes >>= λ kind. body_of end kind.0 kind.1

-- ---- entries and frames

unfoldable pub entry_at : ℕ → List ℕ → Result (Entry × List ℕ) FrameError
entry_at end bytes = do
  region ← number_at w32 (passes end bytes) bytes
  index ← number_in w64 1 (2 ^ 63 - 1) (passes end region.1) end region.1
  body ← body_at end index.1
  Ok (record { region = region.0; index = index.0; body = body.0 }, body.1)

-- all of a payload that ends at this place
unfoldable pub payload_of : ℕ → List ℕ → Result Entry FrameError
payload_of end bytes = do
  entry ← entry_at end bytes
  if length entry.1 == 0 then Ok entry.0 else Err (Long (end - length entry.1))

-- the payload of this length, with which the file goes on until its end
unfoldable pub sized_at : ℕ → ℕ → List ℕ → Result (Entry × List ℕ) FrameError
sized_at end len bytes =
    if nat_lt (length bytes) len then Err (Short end)
    else (payload_of (end - length bytes + len) (take len bytes) >>= λ entry. Ok (entry, drop len bytes))

-- the frame at the front of these bytes, with which the file ends, and what stands behind it
unfoldable pub frame_at : ℕ → List ℕ → Result (Entry × List ℕ) FrameError
frame_at end bytes = number_in w32 0 16777216 (Short end) end bytes >>= λ len. sized_at end len.0 len.1

-- the frame at this place of the file, and the place behind it
unfoldable pub framed : List ℕ → ℕ → Result Frame FrameError
framed bytes at = frame_at (length bytes) (drop at bytes) >>= λ found. Ok (record { entry = found.0; end = length bytes - length found.1 })
