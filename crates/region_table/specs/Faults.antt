-- The index of the prepare of the source of a commit, as the log's end has it: a region that is gone keeps its last index.
use Rattle.std.specs.Prelude.{◌≡◌, ℕ, Option, Some, List, slice_get, unwrap_or}
use Rattle.log_codec.specs.declared.entry.Entry.{Entry}
use Rattle.log_codec.specs.declared.entry.Body.{Body}
use Rattle.log_codec.specs.declared.entry.Body.TheVariants as body
use Rattle.committed_log.specs.Log.{Log, end}
use Rattle.committed_log.specs.Regions.{region, index_of}
use Rattle.region_table.specs.Applying.{fault_by}
use Rattle.region_table.specs.Counting.{applied_in}
use Rattle.region_table.specs.Table.{Kept, state_in}
use Rattle.region_table.specs.declared.fault.ApplyError.{ApplyError}

abbrev pub prepare_at_end : Log → Body → ℕ
prepare_at_end log (body.Commit source) = unwrap_or (index_of (region (end log).regions source)) 0
prepare_at_end log _ = 0

-- why the entry at position p can't be applied, by these regions and by the first entry that isn't applied
abbrev pub IsFaultIn : Log → List (ℕ × Kept) → ℕ → ℕ → Option ApplyError → Type 0
IsFaultIn log regions first p found = (e : Entry) → slice_get log.entries p ≡ Some e
    → found ≡ fault_by log (state_in regions) (applied_in log regions p) first (prepare_at_end log e.body) p e
