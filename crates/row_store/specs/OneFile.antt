-- A whole log file of one put, read.
use Rattle.std.specs.Prelude.{◌≡◌, ℕ, pos, List, [], ◌∷◌, Ok}
use Rattle.log_codec.specs.Frames.{framed}
use Rattle.log_codec.specs.Header.{headed}
use Rattle.log_codec.specs.declared.header.ColumnSpec.{ColumnSpec}
use Rattle.row_store.specs.Logs.{open_all, writes, put_at, five_ab}

-- 155 bytes: a header of 30, the frame of an Open and that of a Write
abbrev pub file : List ℕ
file =
    0x46 ∷ 0x4C ∷ 0x41 ∷ 0x53 ∷ 0x48 ∷ 0x4C ∷ 0x4F ∷ 0x47 ∷ 0 ∷ 1 ∷ 0 ∷ 0 ∷ 0 ∷ 0 ∷ 0 ∷ 0 ∷ 0 ∷ 1 ∷ 0 ∷ 2 ∷
    0 ∷ 0 ∷ 0 ∷ 1 ∷ 1 ∷ 0 ∷ 0 ∷ 0 ∷ 2 ∷ 3 ∷ 0 ∷ 0 ∷ 0 ∷ 0x26 ∷ 0 ∷ 0 ∷ 0 ∷ 1 ∷ 0 ∷ 0 ∷
    0 ∷ 0 ∷ 0 ∷ 0 ∷ 0 ∷ 5 ∷ 1 ∷ 0 ∷ 0 ∷ 0 ∷ 0 ∷ 0 ∷ 0 ∷ 0 ∷ 1 ∷ 0 ∷ 0 ∷ 0 ∷ 0 ∷ 0 ∷
    0 ∷ 0 ∷ 1 ∷ 0x80 ∷ 0 ∷ 0 ∷ 0 ∷ 0 ∷ 0 ∷ 0 ∷ 0 ∷ 0 ∷ 0 ∷ 0 ∷ 0 ∷ 0x4F ∷ 0 ∷ 0 ∷ 0 ∷ 1 ∷
    0 ∷ 0 ∷ 0 ∷ 0 ∷ 0 ∷ 0 ∷ 0 ∷ 6 ∷ 2 ∷ 0 ∷ 0 ∷ 0 ∷ 1 ∷ 1 ∷ 3 ∷ 0 ∷ 0x23 ∷ 0x74 ∷ 0x80 ∷ 0 ∷
    0 ∷ 0 ∷ 0 ∷ 0 ∷ 0 ∷ 0xFF ∷ 1 ∷ 0x5F ∷ 0x72 ∷ 0x80 ∷ 0 ∷ 0 ∷ 0 ∷ 0 ∷ 0xFF ∷ 0 ∷ 0 ∷ 5 ∷ 0 ∷ 0 ∷
    0 ∷ 0 ∷ 0 ∷ 0xFA ∷ 0xFF ∷ 0xFF ∷ 0xFF ∷ 0xFF ∷ 0xFF ∷ 0xFF ∷ 0xFF ∷ 0xF5 ∷ 0 ∷ 0 ∷ 0 ∷ 0x13 ∷ 0x50 ∷ 7 ∷ 0x76 ∷ 0x0F ∷
    0x80 ∷ 0 ∷ 2 ∷ 0 ∷ 0 ∷ 0 ∷ 1 ∷ 2 ∷ 1 ∷ 0 ∷ 3 ∷ 0 ∷ 5 ∷ 0x61 ∷ 0x62 ∷ []

abbrev pub specs : List ColumnSpec
specs = record { id = 1; kind = 1 } ∷ record { id = 2; kind = 3 } ∷ []

-- the file is the log of one put
pub record FileIsRead : Type 0 where
  pub header : headed file ≡ Ok (record { table = pos 1; columns = specs }, 30)
  pub opened : framed file 30 ≡ Ok (record { entry = open_all; end = 72 })
  pub written : framed file 72 ≡ Ok (record { entry = writes 6 (put_at (pos 5) 10 five_ab); end = 155 })
