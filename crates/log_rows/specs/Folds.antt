-- What a fold over a log's changes keeps, to tell its rows at a timestamp.
use Rattle.std.specs.Prelude.{◌≡◌, ℕ, ℤ, Option, Some, None, List, nat_le, nat_lt, if◌then◌else◌, option_map, is_none, filter_map, []}
use Rattle.std.specs.Option.{option_and_then}
use Rattle.std.specs.Ordering.{int_cmp}
use Rattle.std.specs.BTreeMap.{BTreeMap, get}
use Rattle.column_block.specs.declared.cell.Row.{Row}
use Rattle.column_block.specs.declared.column.Column.{Column}
use Rattle.committed_log.specs.Reads.{row_of}
use Rattle.tool_text.specs.Texts.{line}
use Rattle.committed_log.specs.Store.{Store, newest, last_commit}
use Rattle.committed_log.specs.declared.store.Commit.{Commit}
use Rattle.committed_log.specs.declared.op.LastCommit.{LastCommit}
use Rattle.log_rows.specs.declared.fold.Known.{Known}
use Rattle.log_rows.specs.declared.fold.Seen.{Seen}

abbrev pub last_of : Known → LastCommit
last_of k = k.last

abbrev pub seen_of : Known → Option Seen
seen_of k = k.seen

abbrev pub as_seen : Commit → Seen
as_seen c = record { ts = c.ts; value = c.value }

-- the newest commit on a handle that a read at the timestamp may see
abbrev pub newest_until : ℕ → ℤ → List Commit → Option Commit
newest_until ts h commits = newest (λ c. nat_le c.ts ts) h commits

-- this is known of a handle's commits: the last one, and the newest that a read at the timestamp may see
pub record Knows (commits : List Commit) (ts : ℕ) (h : ℤ) (known : Option Known) : Type 0 where
  pub last : last_commit commits h ≡ option_map last_of known
  pub seen : option_map as_seen (newest_until ts h commits) ≡ option_and_then seen_of known

-- the values that no commit has taken yet, and what is known of each handle
pub record Holds (s : Store) (ts : ℕ) (waiting : BTreeMap (ℤ × ℕ) (List ℕ)) (known : BTreeMap ℤ Known) : Type 0 where
  pub values : waiting.entries ≡ s.values
  pub handles : (h : ℤ) → Knows s.commits ts h (get int_cmp known h)

-- ---- one more commit

abbrev pub later_last : Option LastCommit → LastCommit → LastCommit
later_last None one = one
later_last (Some last) one = if nat_lt last.ts one.ts then one else last

abbrev pub later_seen : Option Seen → Seen → Seen
later_seen None one = one
later_seen (Some seen) one = if nat_lt seen.ts one.ts then one else seen

-- what is known of a handle after one more commit
abbrev pub next_known : ℕ → Option Known → ℕ → ℕ → Option (List ℕ) → Known
next_known asked known ts start value = record {
  last = later_last (option_map last_of known) (record { ts = ts; start = start; gone = is_none value });
  seen = if nat_le ts asked then Some (later_seen (option_and_then seen_of known) (record { ts = ts; value = value })) else option_and_then seen_of known;
}

-- ---- rows

-- the row of a handle, where a value is seen of it
abbrev pub row_of_known : List Column → ℤ × Known → Option Row
row_of_known schema known = option_map (row_of schema known.0) (option_and_then (λ (s : Seen). s.value) known.1.seen)

abbrev pub shown_rows : List Column → BTreeMap ℤ Known → List Row
shown_rows schema known = filter_map (row_of_known schema) known.entries

-- the line of a row, where there is one
abbrev pub lines_of : Option Row → List ℕ
lines_of None = []
lines_of (Some row) = line row
