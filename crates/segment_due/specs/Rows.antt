-- Rows by which the definition of what is due was worked out by hand.
use Rattle.std.specs.Prelude.{ℕ, None, negsuc}
use Rattle.flash_types.specs.declared.range.HandleRange.{HandleRange}
use Rattle.flash_types.specs.declared.settings.Settings.{Settings}
use Rattle.segment_due.specs.declared.info.SegInfo.{SegInfo}

-- a flush from 4 versions, a compaction from so many files, a delta merge from 8, a split above 20, a merge up to 10
abbrev pub sizes : ℕ → Settings
sizes files = record { mem_rows = 4; tiny_files = files; delta_rows = 8; split_rows = 20; join_rows = 10; pack_rows = 2 }

-- a segment of which this is told
abbrev pub told : ℕ → ℕ → ℕ → ℕ → ℕ → SegInfo
told seg mem run delta total = record { id = seg; range = record { low = negsuc 4; high = None }; epoch = 0; mem = mem; tiny_run = run; delta = delta; total = total }
