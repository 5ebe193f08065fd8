-- Whether a replica is good, computed, where the handles are listed that its files and the log speak of.
use Rattle.std.specs.Prelude.{ℕ, suc, max, ℤ, Bool, true, false, not, ◌&&◌, ◌||◌, Option, Some, None, List, [], ◌∷◌, ◌++◌, ◌==◌, map, drop, length, is_none, is_some, nat_lt, nat_le}
use Rattle.std.specs.List.{list_all, list_any, flat_map}
use Rattle.std.specs.Ordering.{int_eq}
use Rattle.column_block.specs.declared.cell.Cell.{Cell}
use Rattle.column_block.specs.declared.cell.Cell.TheVariants as cell
use Rattle.column_block.specs.declared.cell.Version.{Version}
use Rattle.flash_types.specs.Ranges.{holds, is_below}
use Rattle.committed_log.specs.Applied.{first_numbers}
use Rattle.committed_log.specs.Log.{Log, at}
use Rattle.committed_log.specs.ReadIndex.{clears_at}
use Rattle.committed_log.specs.declared.store.Commit.{Commit}
use Rattle.good_replica.specs.Front.{front}
use Rattle.good_replica.specs.Good.{least_handle}
use Rattle.good_replica.specs.Trail.{Trail, Step, Cleared, Wrote, Segment, DeltaFile, Puts, Clears, trail, present, write}
use Rattle.good_replica.specs.Versions.{Versions, written}

-- ---- equal versions

abbrev pub same_numbers : List ℕ → List ℕ → Bool
same_numbers [] [] = true
same_numbers [] (y ∷ ys) = false
same_numbers (x ∷ xs) [] = false
same_numbers (x ∷ xs) (y ∷ ys) = x == y && same_numbers xs ys

abbrev pub same_cell : Cell → Cell → Bool
same_cell cell.Null cell.Null = true
same_cell (cell.Int a) (cell.Int b) = int_eq a b
same_cell (cell.Uint a) (cell.Uint b) = a == b
same_cell (cell.Bytes a) (cell.Bytes b) = same_numbers a b
same_cell _ _ = false

abbrev pub same_cells : List Cell → List Cell → Bool
same_cells [] [] = true
same_cells [] (y ∷ ys) = false
same_cells (x ∷ xs) [] = false
same_cells (x ∷ xs) (y ∷ ys) = same_cell x y && same_cells xs ys

abbrev pub same_bool : Bool → Bool → Bool
same_bool true b = b
same_bool false b = not b

abbrev pub same_version : Version → Version → Bool
same_version v w = int_eq v.handle w.handle && (v.ts == w.ts && (same_bool v.gone w.gone && same_cells v.cells w.cells))

-- whether the version is there
abbrev pub is_it : Option Version → Version → Bool
is_it None v = false
is_it (Some w) v = same_version w v

-- ---- the parts of goodness, at these timestamps

abbrev pub each_is_committed : Versions → Trail → List ℕ → Bool
each_is_committed all t times = list_all (λ ts. elim (present t ts) [ None ↦ true | Some v ↦ is_it (all ts) v ]) times

abbrev pub is_passed : Versions → ℕ → ℕ → List ℕ → Bool
is_passed all safe ts times = list_any (λ d. nat_lt ts d && (nat_le d safe && is_some (all d))) times

abbrev pub is_lone_delete : Versions → ℕ → ℕ → Version → List ℕ → Bool
is_lone_delete there safe ts v times = v.gone && (nat_le ts safe && list_all (λ older. not (nat_lt older ts) || is_none (there older)) times)

abbrev pub each_is_there : Versions → Versions → ℕ → Trail → List ℕ → Bool
each_is_there front all safe t times =
    list_all (λ ts. elim (front ts) [ None ↦ true | Some v ↦ is_it (present t ts) v || (is_passed all safe ts times || is_lone_delete (present t) safe ts v times) ]) times

-- behind the first k files
abbrev pub newer_follows_behind : Versions → Trail → List ℕ → ℕ → Bool
newer_follows_behind front t times k =
    list_all (λ c. list_all (λ d. elim (front c) [ None ↦ true | Some u ↦ elim (front d) [ None ↦ true | Some v ↦ not (nat_lt c d) || (not (write c (drop k t.steps)) || write d (drop k t.steps)) ] ]) times) times

abbrev pub newer_follows : Versions → Trail → List ℕ → Bool
newer_follows front t times = list_all (newer_follows_behind front t times) (first_numbers (length t.steps))

-- ---- the timestamps that count

abbrev pub times_of : List Version → List ℕ
times_of versions = map (λ (v : Version). v.ts) versions

abbrev pub step_times : Step → List ℕ
step_times Cleared = []
step_times (Wrote versions) = times_of versions

abbrev pub trail_times : Trail → List ℕ
trail_times t = times_of t.stable ++ flat_map step_times t.steps

abbrev pub commit_times : Log → ℕ → List ℕ
commit_times log p = map (λ (c : Commit). c.ts) (at log p).commits

abbrev pub times : Log → ℕ → ℕ → Trail → List ℕ
times log f n t = commit_times log f ++ (commit_times log n ++ trail_times t)

-- ---- a handle, a segment, a replica

abbrev pub is_good_for : Versions → Versions → ℕ → Trail → List ℕ → Bool
is_good_for front all safe t times = each_is_committed all t times && (each_is_there front all safe t times && newer_follows front t times)

abbrev pub is_uncleared : (ℕ → Bool) → ℕ → ℕ → Bool
is_uncleared clears f m = list_all (λ p. nat_lt p f || not (clears p)) (first_numbers m)

abbrev pub is_good_on : Log → ℤ → ℕ → ℕ → ℕ → Trail → Bool
is_good_on log h f m safe t = not (is_uncleared (clears_at log h) f m) || is_good_for (written log h f) (written log h (max f m)) safe t (times log f (max f m) t)

abbrev pub is_good_segment : Log → (ℕ → Bool) → ℕ → ℕ → List ℤ → Segment → Bool
is_good_segment log A m safe handles s = list_all (λ h. not (holds s.range h) || is_good_on log h (front log A h) m safe (trail h s)) handles

abbrev pub begins_at : ℤ → Segment → Bool
begins_at low s = int_eq s.range.low low

abbrev pub ends_at : Option ℤ → ℤ → Bool
ends_at None low = false
ends_at (Some high) low = int_eq high low

abbrev pub covers_from : ℤ → List Segment → Bool
covers_from low [] = false
covers_from low (s ∷ []) = begins_at low s && is_none s.range.high
covers_from low (s ∷ t ∷ more) = begins_at low s && (ends_at s.range.high t.range.low && (is_below s.range.low s.range.high && covers_from t.range.low (t ∷ more)))

abbrev pub is_good : Log → (ℕ → Bool) → ℕ → ℕ → List ℤ → List Segment → Bool
is_good log A m safe handles segments = covers_from least_handle segments && (nat_le m (length log.entries) && list_all (is_good_segment log A m safe handles) segments)

-- ---- the handles are listed

abbrev pub is_listed : List ℤ → ℤ → Bool
is_listed handles h = list_any (λ k. int_eq k h) handles

abbrev pub lists_file : List ℤ → DeltaFile → Bool
lists_file handles (Puts versions) = list_all (λ (v : Version). is_listed handles v.handle) versions
lists_file handles (Clears range) = true

abbrev pub lists_segment : List ℤ → Segment → Bool
lists_segment handles s = list_all (λ (v : Version). is_listed handles v.handle) s.stable && list_all (lists_file handles) s.delta

-- each handle on which the log commits, at any position, or of which a file has a version
abbrev pub lists : Log → List ℤ → List Segment → Bool
lists log handles segments =
    list_all (λ p. list_all (λ (c : Commit). is_listed handles c.handle) (at log p).commits) (first_numbers (suc (length log.entries))) && list_all (lists_segment handles) segments
