-- A log's header, a frame of each kind, and their bytes.
use Rattle.std.specs.Prelude.{◌≡◌, ℕ, pos, negsuc, true, false, List, [], ◌∷◌, Some, None}
use Rattle.log_codec.specs.declared.entry.Entry.{Entry}
use Rattle.log_codec.specs.declared.entry.Body.{Body}
use Rattle.log_codec.specs.declared.entry.Body.TheVariants.{Open, Write, Split, Prepare, Commit, Remove, Install, Empty}
use Rattle.log_codec.specs.declared.entry.Op.{Op}
use Rattle.log_codec.specs.declared.entry.Family.TheVariants as family
use Rattle.log_codec.specs.Spelling.{frame, header}

-- the key `ab` with the value `c`
abbrev pub put : Op
put = record { put = true; family = family.Write; key = 0x61 ∷ 0x62 ∷ []; value = 0x63 ∷ [] }

-- the key `d`
abbrev pub delete : Op
delete = record { put = false; family = family.Lock; key = 0x64 ∷ []; value = [] }

abbrev pub of : ℕ → ℕ → Body → Entry
of region index body = record { region = region; index = index; body = body }

-- table -1, one column of unsigned numbers
abbrev pub header_bytes : List ℕ
header_bytes =
    0x46 ∷ 0x4C ∷ 0x41 ∷ 0x53 ∷ 0x48 ∷ 0x4C ∷ 0x4F ∷ 0x47 ∷ 0 ∷ 1 ∷ 0xFF ∷ 0xFF ∷ 0xFF ∷ 0xFF ∷ 0xFF ∷ 0xFF ∷ 0xFF ∷ 0xFF ∷ 0 ∷ 1 ∷
    0 ∷ 0 ∷ 0 ∷ 7 ∷ 2 ∷ []

abbrev pub opened_bytes : List ℕ
opened_bytes =
    0 ∷ 0 ∷ 0 ∷ 0x2E ∷ 0 ∷ 0 ∷ 0 ∷ 1 ∷ 0 ∷ 0 ∷ 0 ∷ 0 ∷ 0 ∷ 0 ∷ 0 ∷ 5 ∷ 1 ∷ 0 ∷ 0 ∷ 0 ∷
    0 ∷ 0 ∷ 0 ∷ 0 ∷ 1 ∷ 0 ∷ 0 ∷ 0 ∷ 0 ∷ 0 ∷ 0 ∷ 0 ∷ 2 ∷ 0xFF ∷ 0xFF ∷ 0xFF ∷ 0xFF ∷ 0xFF ∷ 0xFF ∷ 0xFF ∷
    0xFF ∷ 1 ∷ 0 ∷ 0 ∷ 0 ∷ 0 ∷ 0 ∷ 0 ∷ 0 ∷ 4 ∷ []

abbrev pub written_bytes : List ℕ
written_bytes =
    0 ∷ 0 ∷ 0 ∷ 0x21 ∷ 0 ∷ 0 ∷ 0 ∷ 1 ∷ 0 ∷ 0 ∷ 0 ∷ 0 ∷ 0 ∷ 0 ∷ 0 ∷ 6 ∷ 2 ∷ 0 ∷ 0 ∷ 0 ∷
    2 ∷ 1 ∷ 3 ∷ 0 ∷ 2 ∷ 0x61 ∷ 0x62 ∷ 0 ∷ 0 ∷ 0 ∷ 1 ∷ 0x63 ∷ 2 ∷ 2 ∷ 0 ∷ 1 ∷ 0x64 ∷ []

abbrev pub split_bytes : List ℕ
split_bytes =
    0 ∷ 0 ∷ 0 ∷ 0x19 ∷ 0 ∷ 0 ∷ 0 ∷ 1 ∷ 0 ∷ 0 ∷ 0 ∷ 0 ∷ 0 ∷ 0 ∷ 0 ∷ 7 ∷ 3 ∷ 0 ∷ 0 ∷ 0 ∷
    0 ∷ 0 ∷ 0 ∷ 0 ∷ 2 ∷ 0 ∷ 0 ∷ 0 ∷ 8 ∷ []

abbrev pub prepared_bytes : List ℕ
prepared_bytes =
    0 ∷ 0 ∷ 0 ∷ 0x11 ∷ 0 ∷ 0 ∷ 0 ∷ 1 ∷ 0 ∷ 0 ∷ 0 ∷ 0 ∷ 0 ∷ 0 ∷ 0 ∷ 8 ∷ 4 ∷ 0 ∷ 0 ∷ 0 ∷
    2 ∷ []

abbrev pub committed_bytes : List ℕ
committed_bytes =
    0 ∷ 0 ∷ 0 ∷ 0x11 ∷ 0 ∷ 0 ∷ 0 ∷ 2 ∷ 0 ∷ 0 ∷ 0 ∷ 0 ∷ 0 ∷ 0 ∷ 0 ∷ 6 ∷ 5 ∷ 0 ∷ 0 ∷ 0 ∷
    1 ∷ []

abbrev pub removed_bytes : List ℕ
removed_bytes =
    0 ∷ 0 ∷ 0 ∷ 0x0D ∷ 0 ∷ 0 ∷ 0 ∷ 2 ∷ 0 ∷ 0 ∷ 0 ∷ 0 ∷ 0 ∷ 0 ∷ 0 ∷ 7 ∷ 6 ∷ []

abbrev pub installed_bytes : List ℕ
installed_bytes =
    0 ∷ 0 ∷ 0 ∷ 0x35 ∷ 0 ∷ 0 ∷ 0 ∷ 3 ∷ 0 ∷ 0 ∷ 0 ∷ 0 ∷ 0 ∷ 0 ∷ 0 ∷ 9 ∷ 7 ∷ 0 ∷ 0 ∷ 0 ∷
    0 ∷ 0 ∷ 0 ∷ 0 ∷ 1 ∷ 0 ∷ 0 ∷ 0 ∷ 0 ∷ 0 ∷ 0 ∷ 0 ∷ 2 ∷ 0 ∷ 0 ∷ 0 ∷ 0 ∷ 0 ∷ 0 ∷ 0 ∷
    0 ∷ 0 ∷ 0 ∷ 0 ∷ 0 ∷ 1 ∷ 1 ∷ 3 ∷ 0 ∷ 2 ∷ 0x61 ∷ 0x62 ∷ 0 ∷ 0 ∷ 0 ∷ 1 ∷ 0x63 ∷ []

abbrev pub empty_bytes : List ℕ
empty_bytes =
    0 ∷ 0 ∷ 0 ∷ 0x0D ∷ 0 ∷ 0 ∷ 0 ∷ 3 ∷ 0 ∷ 0 ∷ 0 ∷ 0 ∷ 0 ∷ 0 ∷ 0 ∷ 0x0A ∷ 8 ∷ []

pub record LogsInBytes : Type 0 where
  pub front : header (record { table = negsuc 0; columns = record { id = 7; kind = 2 } ∷ [] }) ≡ header_bytes
  pub opened : frame (of 1 5 (Open 1 2 (negsuc 0) (Some (pos 4)))) ≡ opened_bytes
  pub written : frame (of 1 6 (Write (put ∷ delete ∷ []))) ≡ written_bytes
  pub split : frame (of 1 7 (Split (pos 2) 8)) ≡ split_bytes
  pub prepared : frame (of 1 8 (Prepare 2)) ≡ prepared_bytes
  pub committed : frame (of 2 6 (Commit 1)) ≡ committed_bytes
  pub removed : frame (of 2 7 Remove) ≡ removed_bytes
  pub installed : frame (of 3 9 (Install 1 2 (pos 0) None (put ∷ []))) ≡ installed_bytes
  pub empty : frame (of 3 10 Empty) ≡ empty_bytes
