-- Replicas of one table, as they go on, and three that are wrong.
use Rattle.std.specs.Prelude.{◌≡◌, ℕ, zero, suc, ℤ, pos, Bool, true, false, None, Some, List, [], ◌∷◌, ◌++◌, map, IsTrue}
use Rattle.column_block.specs.declared.cell.Cell.TheVariants as cell
use Rattle.column_block.specs.declared.cell.Version.{Version}
use Rattle.log_codec.specs.declared.entry.Entry.{Entry}
use Rattle.committed_log.specs.Lawful.{IsLawful}
use Rattle.committed_log.specs.Log.{Log}
use Rattle.row_store.specs.Logs.{log_of, open_all, writes, put_at, five_ab, one_null, least_handle, everything, first}
use Rattle.row_store.specs.ManyRegions.{installed}
use Rattle.row_store.specs.OneRegion.{put_and_delete, nine_puts}
use Rattle.good_replica.specs.Check.{is_good, lists}
use Rattle.good_replica.specs.Effect.{absorbed, added, clearing}
use Rattle.good_replica.specs.Good.{AreGood}
use Rattle.version_gc.specs.Keep.{keep}
use Rattle.good_replica.specs.Trail.{Segment, DeltaFile, Puts}

-- ---- files

abbrev pub full : ℤ → ℕ → Version
full h ts = record { handle = h; ts = ts; gone = false; cells = cell.Int (pos 5) ∷ cell.Bytes (97 ∷ 98 ∷ []) ∷ [] }

abbrev pub short : ℤ → ℕ → Version
short h ts = record { handle = h; ts = ts; gone = false; cells = cell.Int (pos 1) ∷ cell.Null ∷ [] }

abbrev pub deleted : ℤ → ℕ → Version
deleted h ts = record { handle = h; ts = ts; gone = true; cells = [] }

-- one segment with all handles
abbrev pub whole : List Version → List DeltaFile → List Segment
whole stable delta = record { range = everything; stable = stable; delta = delta } ∷ []

-- two empty ones, of the handles below 6 and of the others
abbrev pub halves : List Segment
halves = record { range = record { low = least_handle; high = Some (pos 6) }; stable = []; delta = [] } ∷ record { range = record { low = pos 6; high = None }; stable = []; delta = [] } ∷ []

-- segments after the first n entries
abbrev pub after : Log → List Segment → ℕ → List Segment
after log segments zero = segments
after log segments (suc n) = map (absorbed (clearing log n) (added log n)) (after log segments n)

-- ---- two puts of one row

abbrev pub two_puts : List Entry
two_puts = open_all ∷ writes 6 (put_at (pos 5) 10 five_ab) ∷ writes 7 (put_at (pos 5) 20 one_null) ∷ []

abbrev pub handle_5 : List ℤ
handle_5 = pos 5 ∷ []

abbrev pub both_puts : List Version
both_puts = full (pos 5) 10 ∷ short (pos 5) 20 ∷ []

-- Each entry is applied; the flush raises the mark to the log's length, and makes one file of the delta; the delta merge collects at a safe point, at 15 neither and at 20 the older one; the checkpoint changes no more than what a crash goes back to.
pub record PutsStayGood : Type 0 where
  pub lawful : IsLawful (log_of two_puts)
  pub listed : lists (log_of two_puts) handle_5 (after (log_of two_puts) (whole [] []) 3) ≡ true
  pub nothing : is_good (log_of two_puts) (first 0) 0 0 handle_5 (whole [] []) ≡ true
  pub opened : is_good (log_of two_puts) (first 1) 0 0 handle_5 (after (log_of two_puts) (whole [] []) 1) ≡ true
  pub put : is_good (log_of two_puts) (first 2) 0 0 handle_5 (after (log_of two_puts) (whole [] []) 2) ≡ true
  pub put_again : is_good (log_of two_puts) (first 3) 0 0 handle_5 (after (log_of two_puts) (whole [] []) 3) ≡ true
  pub flushed : is_good (log_of two_puts) (first 3) 3 0 handle_5 (whole [] (Puts both_puts ∷ [])) ≡ true
  pub kept_at_15 : keep 15 both_puts ≡ both_puts
  pub kept_at_20 : keep 20 both_puts ≡ short (pos 5) 20 ∷ []
  pub merged_at_15 : is_good (log_of two_puts) (first 3) 3 15 handle_5 (whole (keep 15 both_puts) []) ≡ true
  pub merged_at_20 : is_good (log_of two_puts) (first 3) 3 20 handle_5 (whole (keep 20 both_puts) []) ≡ true
  pub good : AreGood (log_of two_puts) (first 3) 3 20 (whole (keep 20 both_puts) [])

-- a crash after the flush, back to a checkpoint that has the first entry alone: the mark is 3
pub record CrashKeepsMark : Type 0 where
  pub flushed : is_good (log_of two_puts) (first 1) 3 0 handle_5 (whole [] (Puts both_puts ∷ [])) ≡ true
  pub merged : is_good (log_of two_puts) (first 1) 3 20 handle_5 (whole (keep 20 both_puts) []) ≡ true
  pub applied_again : is_good (log_of two_puts) (first 2) 3 0 handle_5 (whole [] (Puts both_puts ∷ Puts (full (pos 5) 10 ∷ []) ∷ [])) ≡ true

-- ---- a delta merge, a split and a merge of segments

abbrev pub three_puts : List Entry
three_puts = open_all ∷ writes 6 (put_at (pos 5) 10 five_ab) ∷ writes 7 (put_at (pos 7) 10 five_ab) ∷ writes 8 (put_at (pos 5) 20 one_null) ∷ []

abbrev pub handles_5_and_7 : List ℤ
handles_5_and_7 = pos 5 ∷ pos 7 ∷ []

abbrev pub on_5 : List Version
on_5 = full (pos 5) 10 ∷ short (pos 5) 20 ∷ []

abbrev pub on_7 : List Version
on_7 = full (pos 7) 10 ∷ []

-- those of the handles below 7 and of the others, each with its versions
abbrev pub parted : List Segment
parted = record { range = record { low = least_handle; high = Some (pos 7) }; stable = on_5; delta = [] } ∷ record { range = record { low = pos 7; high = None }; stable = on_7; delta = [] } ∷ []

pub record SegmentsStayGood : Type 0 where
  pub listed : lists (log_of three_puts) handles_5_and_7 (after (log_of three_puts) (whole [] []) 4) ≡ true
  pub applied : is_good (log_of three_puts) (first 4) 0 0 handles_5_and_7 (after (log_of three_puts) (whole [] []) 4) ≡ true
  pub merged : is_good (log_of three_puts) (first 4) 4 0 handles_5_and_7 (whole (on_5 ++ on_7) []) ≡ true
  pub split : is_good (log_of three_puts) (first 4) 4 0 handles_5_and_7 parted ≡ true
  pub good : AreGood (log_of three_puts) (first 4) 4 0 parted

-- ---- a checkpoint, a flush behind it, and a crash

abbrev pub to_9 : List ℕ
to_9 = 1 ∷ 2 ∷ 3 ∷ 4 ∷ 5 ∷ 6 ∷ 7 ∷ 8 ∷ 9 ∷ []

abbrev pub handles_to_9 : List ℤ
handles_to_9 = map pos to_9

-- the puts of these handles, in one file
abbrev pub file_of : List ℕ → DeltaFile
file_of handles = Puts (map (λ (n : ℕ). full (pos n) 10) handles)

abbrev pub two_files : List DeltaFile
two_files = file_of (1 ∷ 2 ∷ 3 ∷ []) ∷ file_of (4 ∷ 5 ∷ 6 ∷ 7 ∷ 8 ∷ []) ∷ []

-- Nine rows are put. The checkpoint has the first four entries, the flush the first nine. A crash goes back to the checkpoint; the mark stays 9, the entries are applied again over the files, and at last the one that no file had.
pub record CheckpointsStayGood : Type 0 where
  pub listed : lists (log_of nine_puts) handles_to_9 (whole [] two_files) ≡ true
  pub checkpoint : is_good (log_of nine_puts) (first 4) 4 0 handles_to_9 (whole [] (file_of (1 ∷ 2 ∷ 3 ∷ []) ∷ [])) ≡ true
  pub flushed : is_good (log_of nine_puts) (first 9) 9 0 handles_to_9 (whole [] two_files) ≡ true
  pub opened : is_good (log_of nine_puts) (first 4) 9 0 handles_to_9 (whole [] two_files) ≡ true
  pub stopped : is_good (log_of nine_puts) (first 5) 9 0 handles_to_9 (whole [] (two_files ++ file_of (4 ∷ []) ∷ [])) ≡ true
  pub again : is_good (log_of nine_puts) (first 10) 9 0 handles_to_9 (whole [] (two_files ++ map (λ (n : ℕ). file_of (n ∷ [])) (4 ∷ 5 ∷ 6 ∷ 7 ∷ 8 ∷ 9 ∷ []))) ≡ true
  pub unraised : is_good (log_of nine_puts) (first 4) 4 0 handles_to_9 (whole [] two_files) ≡ false

-- ---- a put, a removal of its region, and an install with another row

abbrev pub handles_5_and_6 : List ℤ
handles_5_and_6 = pos 5 ∷ pos 6 ∷ []

-- Each half takes its part of the delete-ranges. After a crash back to the first two entries, with the mark behind the install, nothing is asked of the rows: the removal is applied again before they are read.
pub record RemovalsStayGood : Type 0 where
  pub listed : lists (log_of installed) handles_5_and_6 (after (log_of installed) halves 4) ≡ true
  pub put : is_good (log_of installed) (first 2) 0 0 handles_5_and_6 (after (log_of installed) halves 2) ≡ true
  pub removed : is_good (log_of installed) (first 3) 0 0 handles_5_and_6 (after (log_of installed) halves 3) ≡ true
  pub installed_anew : is_good (log_of installed) (first 4) 0 0 handles_5_and_6 (after (log_of installed) halves 4) ≡ true
  pub crashed : is_good (log_of installed) (first 2) 4 0 handles_5_and_6 (after (log_of installed) halves 4) ≡ true

-- ---- what is refused

-- a replica is refused by the check, and isn't good
pub record IsRefused (log : Log) (A : ℕ → Bool) (m safe : ℕ) (handles : List ℤ) (segments : List Segment) : Type 0 where
  pub listed : lists log handles segments ≡ true
  pub check : is_good log A m safe handles segments ≡ false
  pub wrong : AreGood log A m safe segments → IsTrue false

-- The removal's delete-range isn't there; the mark of the two puts is 2 while the file has both; of a put at 50 and a delete at 80 a collection at 100 has left the put. With the mark at 3, and with nothing left, the last two are good.
pub record WrongReplicasAreRefused : Type 0 where
  pub dropped : IsRefused (log_of installed) (first 3) 0 0 handles_5_and_6 (whole [] (Puts (full (pos 5) 10 ∷ []) ∷ []))
  pub unraised : IsRefused (log_of two_puts) (first 2) 2 0 handle_5 (whole [] (Puts both_puts ∷ []))
  pub raised : is_good (log_of two_puts) (first 2) 3 0 handle_5 (whole [] (Puts both_puts ∷ [])) ≡ true
  pub beside : IsRefused (log_of put_and_delete) (first 3) 3 100 (pos 7 ∷ []) (whole (full (pos 7) 50 ∷ []) [])
  pub collected : is_good (log_of put_and_delete) (first 3) 3 100 (pos 7 ∷ []) (whole [] []) ≡ true
