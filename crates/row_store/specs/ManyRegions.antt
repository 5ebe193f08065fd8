-- Logs of several regions: splits, merges, removals and installs.
use Rattle.std.specs.Prelude.{◌≡◌, ℕ, pos, false, true, Some, None, List, [], ◌∷◌, ◌++◌, codes}
use Rattle.column_block.specs.declared.cell.Cell.TheVariants as cell
use Rattle.column_block.specs.declared.column.Kind.TheVariants as kind
use Rattle.flash_types.specs.Asks.{Asked}
use Rattle.flash_types.specs.declared.Epoch.{Epoch}
use Rattle.flash_types.specs.declared.range.HandleRange.{HandleRange}
use Rattle.flash_types.specs.declared.refusal.Cut.{Cut}
use Rattle.flash_types.specs.declared.refusal.Refusal.TheVariants as refusal
use Rattle.flash_types.specs.declared.refusal.Wants.TheVariants as wants
use Rattle.kv_codec.specs.Spelling.{key, write, lock}
use Rattle.kv_codec.specs.declared.records.LockKind.TheVariants as lock_kind
use Rattle.kv_codec.specs.declared.records.WriteKind.TheVariants as record_kind
use Rattle.log_codec.specs.declared.entry.Entry.{Entry}
use Rattle.log_codec.specs.declared.entry.Family.TheVariants as family
use Rattle.log_codec.specs.declared.entry.Body.TheVariants as body
use Rattle.committed_log.specs.Applied.{applied, next, is_ready}
use Rattle.committed_log.specs.Lawful.{IsLawful}
use Rattle.committed_log.specs.Log.{Log, at}
use Rattle.committed_log.specs.Regions.{region}
use Rattle.committed_log.specs.declared.region.Region.TheVariants.{Live, Prepared, Gone}
use Rattle.committed_log.specs.Replies.{refused, IsRight, Refused, Answered}
use Rattle.row_store.specs.Logs.{log_of, open_all, writes, entry, put_at, put_in, value_of, five_ab, five_ab_at, least_handle, everything, below_100, cut, asked, ask, ask_1, epoch, first, these}
use Rattle.row_store.specs.Texts.{show_text}

-- ---- a split

abbrev pub split_at_100 : List Entry
split_at_100 = open_all ∷ entry 1 6 (body.Split (pos 100) 2) ∷ []

-- after a split the old epoch is refused, and the child is born where the split is applied
pub record SplitsRaiseEpochs : Type 0 where
  pub lawful : IsLawful (log_of split_at_100)
  pub parent : refused (log_of split_at_100) (ask_1 8 5) (first 2) 0 0 ≡ Some (refusal.EpochNotMatch 1 6 (Some (epoch 1 2)))
  pub unborn : refused (log_of split_at_100) (ask 8 2 (epoch 1 2) 5) (first 1) 0 0 ≡ Some (refusal.NotYet 2 None (wants.Index 5))
  pub child : refused (log_of split_at_100) (ask 8 2 (epoch 1 2) 5) (first 2) 0 0 ≡ None

-- ---- a merge

abbrev pub two_merged : List Entry
two_merged = entry 1 5 (body.Open 1 1 least_handle (Some (pos 100))) ∷ entry 2 5 (body.Open 1 1 (pos 100) None) ∷ writes 6 (put_at (pos 5) 10 five_ab) ∷ entry 1 7 (body.Prepare 2) ∷ entry 2 6 (body.Commit 1) ∷ []

-- The commit of a merge waits for the source's prepare. After it the target has all handles, and the source is gone. (Refused: that the commit is ready before, and that the target has version 2.)
pub record MergesJoin : Type 0 where
  pub lawful : IsLawful (log_of two_merged)
  pub early : is_ready (log_of two_merged) (these (0 ∷ 1 ∷ [])) 4 ≡ false
  pub source : applied (log_of two_merged) (these (0 ∷ 1 ∷ [])) 1 ≡ Live (record { range = below_100; epoch = epoch 1 1; index = 5 })
  pub ready : is_ready (log_of two_merged) (these (0 ∷ 1 ∷ 2 ∷ 3 ∷ [])) 4 ≡ true
  pub next : next (log_of two_merged) (these (0 ∷ 1 ∷ 2 ∷ 3 ∷ [])) 1 ≡ Some 4
  pub prepared : applied (log_of two_merged) (these (0 ∷ 1 ∷ 2 ∷ 3 ∷ [])) 1 ≡ Prepared (record { range = below_100; epoch = epoch 2 2; index = 7 }) 2
  pub target : applied (log_of two_merged) (first 5) 2 ≡ Live (record { range = everything; epoch = epoch 1 3; index = 6 })
  pub gone : applied (log_of two_merged) (first 5) 1 ≡ Gone 7
  pub again : is_ready (log_of two_merged) (first 5) 2 ≡ false

-- ---- a removal and an install

abbrev pub installed : List Entry
installed = open_all ∷ writes 6 (put_at (pos 5) 10 five_ab) ∷ entry 1 7 body.Remove ∷ entry 9 20 (body.Install 3 4 least_handle None (put_at (pos 6) 9 five_ab ∷ [])) ∷ []

-- A removal clears its region's rows, and an install begins with its own, also with an earlier commit. (Refused: that the rows of before the removal show again.)
pub record InstallsBeginAnew : Type 0 where
  pub lawful : IsLawful (log_of installed)
  pub rows : IsRight (log_of installed) (ask 10 9 (epoch 3 4) 20) None (first 4) 0 0 (Answered (cut 9 20 (epoch 3 4) ∷ []) (five_ab_at (pos 6) ∷ []))
  pub removed : IsRight (log_of installed) (ask_1 10 5) None (first 4) 0 0 (Refused (refusal.EpochNotMatch 1 7 None))

-- ---- a small log of eight regions

-- the row with 2774, 0 and no bytes
abbrev pub row_2774 : List ℕ
row_2774 = 128 ∷ 0 ∷ 3 ∷ 0 ∷ 0 ∷ 0 ∷ 1 ∷ 2 ∷ 3 ∷ 2 ∷ 0 ∷ 3 ∷ 0 ∷ 3 ∷ 0 ∷ 0xD6 ∷ 10 ∷ 0 ∷ []

abbrev pub eight_regions : List Entry
eight_regions = open_all ∷ entry 1 6 (body.Split (pos 1000) 2) ∷ entry 2 6 (body.Split (pos 2000) 3) ∷ entry 3 6 (body.Split (pos 3000) 4) ∷ entry 4 6 (body.Split (pos 4000) 5)
    ∷ entry 5 6 (body.Split (pos 5000) 6) ∷ entry 6 6 (body.Split (pos 6000) 7) ∷ entry 7 6 (body.Split (pos 7000) 8) ∷ []

-- a transaction from 10 to 15 on one row, and the merge of the last two regions
abbrev pub generated_entries : List Entry
generated_entries = eight_regions
    ++ entry 3 7 (body.Write (value_of (pos 2774) 10 row_2774 ∷ record { put = true; family = family.Lock; key = key (pos 1) (pos 2774); value = lock (record { kind = lock_kind.Put; primary = key (pos 1) (pos 2774); start = 10; ttl = 3000 }) } ∷ []))
    ∷ entry 3 8 (body.Write (put_in (pos 1) (pos 2774) 15 (write (record { kind = record_kind.Put; start = 10; short = None })) ∷ record { put = false; family = family.Lock; key = key (pos 1) (pos 2774); value = [] } ∷ []))
    ∷ entry 8 6 (body.Prepare 7) ∷ entry 7 7 (body.Commit 8) ∷ []

abbrev pub generated : Log
generated = record { table = pos 1; schema = record { id = 1; kind = kind.Int } ∷ record { id = 2; kind = kind.Uint } ∷ record { id = 3; kind = kind.Bytes } ∷ []; entries = generated_entries }

-- the regions 1 to 7 at the end, as an ask names them
abbrev pub ask_all : Asked
ask_all = record { ts = 18446744073709551615; regions = asked 1 (epoch 1 2) 6 ∷ asked 2 (epoch 1 3) 6 ∷ asked 3 (epoch 1 4) 8 ∷ asked 4 (epoch 1 5) 6 ∷ asked 5 (epoch 1 6) 6 ∷ asked 6 (epoch 1 7) 6 ∷ asked 7 (epoch 1 10) 7 ∷ []; clip = everything }

abbrev pub part : ℕ → Epoch → ℕ → HandleRange → Cut
part r epoch index range = record { region = r; epoch = epoch; index = index; range = range }

abbrev pub all_parts : List Cut
all_parts =
    part 1 (epoch 1 2) 6 (record { low = least_handle; high = Some (pos 1000) }) ∷ part 2 (epoch 1 3) 6 (record { low = pos 1000; high = Some (pos 2000) })
    ∷ part 3 (epoch 1 4) 8 (record { low = pos 2000; high = Some (pos 3000) }) ∷ part 4 (epoch 1 5) 6 (record { low = pos 3000; high = Some (pos 4000) })
    ∷ part 5 (epoch 1 6) 6 (record { low = pos 4000; high = Some (pos 5000) }) ∷ part 6 (epoch 1 7) 6 (record { low = pos 5000; high = Some (pos 6000) })
    ∷ part 7 (epoch 1 10) 7 (record { low = pos 6000; high = None }) ∷ []

-- the generated log with one transaction: it is lawful, a read in the middle of the transaction is refused, and at the end all regions show its row
pub record GeneratedIsShown : Type 0 where
  pub lawful : IsLawful generated
  pub text : show_text generated 18446744073709551615 ≡ codes "row 2774 2774 0 x\nrows 1\n"
  pub last : region (at generated 12).regions 7 ≡ Live (record { range = record { low = pos 6000; high = None }; epoch = epoch 1 10; index = 7 })
  pub locked : refused generated (ask 11 3 (epoch 1 4) 5) (first 9) 0 0 ≡ Some (refusal.Locked 3 7 (pos 2774) 10)
  pub read : IsRight generated ask_all None (first 12) 0 12 (Answered all_parts (record { handle = pos 2774; cells = cell.Int (pos 2774) ∷ cell.Uint 0 ∷ cell.Bytes [] ∷ [] } ∷ []))
