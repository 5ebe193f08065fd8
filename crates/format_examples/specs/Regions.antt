-- A file of regions and its bytes.
use Rattle.std.specs.Prelude.{◌≡◌, ℕ, pos, List, [], ◌∷◌, ◌++◌, Some, None}
use Rattle.kv_codec.specs.declared.records.LockKind.TheVariants as kind
use Rattle.region_state.specs.State.{State}
use Rattle.region_file.specs.declared.entry.Entry.{Entry}
use Rattle.region_file.specs.declared.entry.Entry.TheVariants.{Gone, There}
use Rattle.region_file.specs.Spelling.{file}

-- handles from 0 up to 9, with a default value of handle 5 from the start 10, and a lock of handle 6 from the start 11
abbrev pub live : State
live = record {
  descriptor = record { range = record { low = pos 0; high = Some (pos 9) }; epoch = record { conf_ver = 1; version = 2 }; index = 7 };
  target = None;
  values = ((pos 5, 10), 0x61 ∷ 0x62 ∷ []) ∷ [];
  locks = (pos 6, record { kind = kind.Put; start = 11 }) ∷ [];
}

-- handles from 9 on, to be merged into region 1
abbrev pub prepared : State
prepared = record { descriptor = record { range = record { low = pos 9; high = None }; epoch = record { conf_ver = 2; version = 3 }; index = 8 }; target = Some 1; values = []; locks = [] }

-- region 3 is gone at the index 9
abbrev pub regions : List (ℕ × Entry)
regions = (1, There live) ∷ (2, There prepared) ∷ (3, Gone 9) ∷ []

abbrev pub live_bytes : List ℕ
live_bytes =
    0 ∷ 0 ∷ 0 ∷ 1 ∷ 1 ∷ 0 ∷ 0 ∷ 0 ∷ 0 ∷ 0 ∷ 0 ∷ 0 ∷ 7 ∷ 0 ∷ 0 ∷ 0 ∷ 0 ∷ 0 ∷ 0 ∷ 0 ∷
    1 ∷ 0 ∷ 0 ∷ 0 ∷ 0 ∷ 0 ∷ 0 ∷ 0 ∷ 2 ∷ 0 ∷ 0 ∷ 0 ∷ 0 ∷ 0 ∷ 0 ∷ 0 ∷ 0 ∷ 1 ∷ 0 ∷ 0 ∷
    0 ∷ 0 ∷ 0 ∷ 0 ∷ 0 ∷ 9 ∷ 0 ∷ 0 ∷ 0 ∷ 0 ∷ 0 ∷ 0 ∷ 0 ∷ 1 ∷ 0 ∷ 0 ∷ 0 ∷ 0 ∷ 0 ∷ 0 ∷
    0 ∷ 5 ∷ 0 ∷ 0 ∷ 0 ∷ 0 ∷ 0 ∷ 0 ∷ 0 ∷ 0x0A ∷ 0 ∷ 0 ∷ 0 ∷ 0 ∷ 0 ∷ 0 ∷ 0 ∷ 2 ∷ 0x61 ∷ 0x62 ∷
    0 ∷ 0 ∷ 0 ∷ 0 ∷ 0 ∷ 0 ∷ 0 ∷ 1 ∷ 0 ∷ 0 ∷ 0 ∷ 0 ∷ 0 ∷ 0 ∷ 0 ∷ 6 ∷ 0x50 ∷ 0 ∷ 0 ∷ 0 ∷
    0 ∷ 0 ∷ 0 ∷ 0 ∷ 0x0B ∷ []

abbrev pub prepared_bytes : List ℕ
prepared_bytes =
    0 ∷ 0 ∷ 0 ∷ 2 ∷ 2 ∷ 0 ∷ 0 ∷ 0 ∷ 0 ∷ 0 ∷ 0 ∷ 0 ∷ 8 ∷ 0 ∷ 0 ∷ 0 ∷ 0 ∷ 0 ∷ 0 ∷ 0 ∷
    2 ∷ 0 ∷ 0 ∷ 0 ∷ 0 ∷ 0 ∷ 0 ∷ 0 ∷ 3 ∷ 0 ∷ 0 ∷ 0 ∷ 0 ∷ 0 ∷ 0 ∷ 0 ∷ 9 ∷ 0 ∷ 0 ∷ 0 ∷
    0 ∷ 1 ∷ 0 ∷ 0 ∷ 0 ∷ 0 ∷ 0 ∷ 0 ∷ 0 ∷ 0 ∷ 0 ∷ 0 ∷ 0 ∷ 0 ∷ 0 ∷ 0 ∷ 0 ∷ 0 ∷ []

abbrev pub gone_bytes : List ℕ
gone_bytes =
    0 ∷ 0 ∷ 0 ∷ 3 ∷ 3 ∷ 0 ∷ 0 ∷ 0 ∷ 0 ∷ 0 ∷ 0 ∷ 0 ∷ 9 ∷ []

-- `FLRG` and the number of regions come first
pub record RegionsInBytes : Type 0 where
  pub whole : file regions ≡ 0x46 ∷ 0x4C ∷ 0x52 ∷ 0x47 ∷ 0 ∷ 0 ∷ 0 ∷ 0 ∷ 0 ∷ 0 ∷ 0 ∷ 3 ∷ (live_bytes ++ prepared_bytes ++ gone_bytes)
