-- Which entry makes a region, and which ends it.
use Rattle.std.specs.Prelude.{ℕ, Bool, false, ◌&&◌, ◌||◌, ◌==◌}
use Rattle.log_codec.specs.declared.entry.Body.{Body}
use Rattle.log_codec.specs.declared.entry.Body.TheVariants as body
use Rattle.log_codec.specs.declared.entry.Entry.{Entry}
use Rattle.committed_log.specs.Applied.{entry_is}
use Rattle.committed_log.specs.Log.{Log}
use Rattle.committed_log.specs.Regions.{makes_region}

abbrev pub is_child : ℕ → Body → Bool
is_child r (body.Split at child) = child == r
is_child r _ = false

-- an Open or an Install of the region, or the split of which it is the child
abbrev pub makes : ℕ → Entry → Bool
makes r e = (e.region == r && makes_region e.body) || is_child r e.body

abbrev pub is_removed : ℕ → ℕ → Body → Bool
is_removed r own body.Remove = own == r
is_removed r own (body.Commit source) = source == r
is_removed r own _ = false

-- a Remove of the region, or the commit of a merge of which it is the source
abbrev pub ends : ℕ → Entry → Bool
ends r e = is_removed r e.region e.body

abbrev pub makes_at : Log → ℕ → ℕ → Bool
makes_at log r p = entry_is log (makes r) p

abbrev pub ends_at : Log → ℕ → ℕ → Bool
ends_at log r p = entry_is log (ends r) p
