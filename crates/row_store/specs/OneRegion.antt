-- Logs of one region, and what they show.
use Rattle.std.specs.Prelude.{◌≡◌, ℕ, pos, Some, None, List, [], ◌∷◌, ◌++◌, map, codes}
use Rattle.column_block.specs.declared.cell.Cell.TheVariants as cell
use Rattle.column_block.specs.declared.column.Bound.{Bound}
use Rattle.flash_types.specs.declared.refusal.Refusal.TheVariants as refusal
use Rattle.flash_types.specs.declared.refusal.Wants.TheVariants as wants
use Rattle.log_codec.specs.declared.entry.Entry.{Entry}
use Rattle.log_codec.specs.declared.entry.Body.TheVariants as body
use Rattle.committed_log.specs.Lawful.{IsLawful, fault}
use Rattle.committed_log.specs.Reads.{rows, kept}
use Rattle.committed_log.specs.Replies.{refused, IsRight, Refused, Answered}
use Rattle.committed_log.specs.declared.unlawful.Unlawful.TheVariants as unlawful
use Rattle.row_store.specs.Logs.{log_of, open_all, writes, entry, put_at, put_in, delete_at, lock_of, value_of, five_ab, one_null, with_id_3, five_ab_at, least_handle, greatest_handle, everything, cut_1, ask_1, first}
use Rattle.row_store.specs.Texts.{show_text}

-- ---- one put

abbrev pub one_put : List Entry
one_put = open_all ∷ writes 6 (put_at (pos 5) 10 five_ab) ∷ []

-- the bytes that TiKV writes for this put
abbrev pub put_bytes : List ℕ
put_bytes =
    0x74 ∷ 0x80 ∷ 0 ∷ 0 ∷ 0 ∷ 0 ∷ 0 ∷ 0 ∷ 0xFF ∷ 1 ∷ 0x5F ∷ 0x72 ∷ 0x80 ∷ 0 ∷ 0 ∷ 0 ∷ 0 ∷ 0xFF ∷ 0 ∷ 0 ∷ 5 ∷ 0 ∷ 0 ∷ 0 ∷ 0 ∷ 0 ∷ 0xFA
    ∷ 0xFF ∷ 0xFF ∷ 0xFF ∷ 0xFF ∷ 0xFF ∷ 0xFF ∷ 0xFF ∷ 0xF5 ∷ []

-- A put is shown from its commit timestamp on. (Refused: that a read at 9 shows it.)
pub record PutIsShown : Type 0 where
  pub key : (put_at (pos 5) 10 five_ab).key ≡ put_bytes
  pub value : (put_at (pos 5) 10 five_ab).value ≡ 0x50 ∷ 7 ∷ 0x76 ∷ 15 ∷ five_ab
  pub lawful : IsLawful (log_of one_put)
  pub at_10 : rows (log_of one_put) (cut_1 6) 10 everything ≡ five_ab_at (pos 5) ∷ []
  pub at_9 : rows (log_of one_put) (cut_1 6) 9 everything ≡ []
  pub text : show_text (log_of one_put) 10 ≡ codes "row 5 5 x6162\nrows 1\n"
  pub text_before : show_text (log_of one_put) 9 ≡ codes "rows 0\n"

-- ---- a later entry with an earlier commit, and the same commit again

abbrev pub put_at_20 : List Entry
put_at_20 = open_all ∷ writes 6 (put_at (pos 5) 20 five_ab) ∷ []

abbrev pub put_twice : List Entry
put_twice = put_at_20 ++ writes 7 (put_at (pos 5) 20 five_ab) ∷ []

-- A handle's commits come with rising timestamps, but for the last one said again, which changes nothing. (Refused: that it is backdated.)
pub record CommitsRise : Type 0 where
  pub backdated : fault (log_of put_at_20) (writes 7 (put_at (pos 5) 15 five_ab)) ≡ Some (unlawful.Backdated 0 20)
  pub again : IsLawful (log_of put_twice)
  pub at_20 : rows (log_of put_twice) (cut_1 7) 20 everything ≡ five_ab_at (pos 5) ∷ []

-- ---- a value in the default family

abbrev pub long_value : List Entry
long_value = open_all ∷ writes 6 (value_of (pos 5) 7 five_ab) ∷ writes 7 (put_in (pos 1) (pos 5) 10 (0x50 ∷ 7 ∷ [])) ∷ []

-- a put without a short value has its value in the default family, or is refused
pub record LongValueIsFound : Type 0 where
  pub missing : fault (log_of (open_all ∷ [])) (writes 6 (put_in (pos 1) (pos 5) 10 (0x50 ∷ 7 ∷ []))) ≡ Some (unlawful.NoValue 0)
  pub lawful : IsLawful (log_of long_value)
  pub text : show_text (log_of long_value) 10 ≡ codes "row 5 5 x6162\nrows 1\n"

-- ---- the ends of the handles

abbrev pub extremes : List Entry
extremes = open_all ∷ entry 1 6 (body.Write (put_at greatest_handle 10 one_null ∷ put_at least_handle 10 one_null ∷ [])) ∷ []

-- rows come in the order of signed handles
pub record ExtremesAreInOrder : Type 0 where
  pub lawful : IsLawful (log_of extremes)
  pub text : show_text (log_of extremes) 10 ≡ codes "row -9223372036854775808 1 null\nrow 9223372036854775807 1 null\nrows 2\n"

-- ---- locks

abbrev pub locked_by : ℕ → List Entry
locked_by kind = open_all ∷ writes 6 (lock_of (pos 5) (kind ∷ 2 ∷ 97 ∷ 8 ∷ 0 ∷ [])) ∷ []

-- A lock for a put is in the way of reads from its start on, and no lock of another kind is. (Refused: that a pessimistic lock is in the way at 8, and that the lock for a put is at 7.)
pub record LocksAreInTheWay : Type 0 where
  pub lawful : IsLawful (log_of (locked_by 0x50))
  pub at_7 : IsRight (log_of (locked_by 0x50)) (ask_1 7 5) None (first 2) 0 0 (Answered (cut_1 6) [])
  pub at_8 : refused (log_of (locked_by 0x50)) (ask_1 8 5) (first 2) 0 0 ≡ Some (refusal.Locked 1 6 (pos 5) 8)
  pub of_read : refused (log_of (locked_by 0x4C)) (ask_1 8 5) (first 2) 0 0 ≡ None
  pub pessimistic : refused (log_of (locked_by 0x53)) (ask_1 8 5) (first 2) 0 0 ≡ None

-- ---- indexes, marks and safe points

abbrev pub three_entries : List Entry
three_entries = open_all ∷ entry 1 6 body.Empty ∷ entry 1 7 body.Empty ∷ []

-- nine puts, of which run 2 opens a store where rows of all may be
abbrev pub nine_puts : List Entry
nine_puts = open_all ∷ writes 6 (put_at (pos 1) 10 five_ab) ∷ writes 7 (put_at (pos 2) 10 five_ab) ∷ writes 8 (put_at (pos 3) 10 five_ab) ∷ writes 9 (put_at (pos 4) 10 five_ab)
    ∷ writes 10 (put_at (pos 5) 10 five_ab) ∷ writes 11 (put_at (pos 6) 10 five_ab) ∷ writes 12 (put_at (pos 7) 10 five_ab) ∷ writes 13 (put_at (pos 8) 10 five_ab) ∷ writes 14 (put_at (pos 9) 10 five_ab) ∷ []

-- A read waits for its index, and for all entries below the mark. (That it waits for the entry at the mark itself was stated, and the check refused it.)
pub record ReadsWait : Type 0 where
  pub index : refused (log_of three_entries) (ask_1 1 9) (first 3) 0 0 ≡ Some (refusal.NotYet 1 (Some 7) (wants.Index 9))
  pub mark : refused (log_of nine_puts) (ask_1 10 5) (first 5) 0 9 ≡ Some (refusal.NotYet 1 (Some 9) (wants.Mark 5 9))
  pub at_mark : refused (log_of nine_puts) (ask_1 10 5) (first 5) 0 5 ≡ None
  pub settled : IsRight (log_of nine_puts) (ask_1 10 5) None (first 10) 0 9 (Answered (cut_1 14) (map (λ (n : ℕ). five_ab_at (pos n)) (1 ∷ 2 ∷ 3 ∷ 4 ∷ 5 ∷ 6 ∷ 7 ∷ 8 ∷ 9 ∷ [])))

abbrev pub put_and_delete : List Entry
put_and_delete = open_all ∷ writes 6 (put_at (pos 7) 50 five_ab) ∷ writes 7 (delete_at (pos 7) 80) ∷ []

-- a delete hides the row from its timestamp on, and no read is answered below the safe point
pub record DeletesHide : Type 0 where
  pub lawful : IsLawful (log_of put_and_delete)
  pub at_100 : IsRight (log_of put_and_delete) (ask_1 100 5) None (first 3) 100 3 (Answered (cut_1 7) [])
  pub at_99 : IsRight (log_of put_and_delete) (ask_1 99 5) None (first 3) 100 3 (Refused (refusal.BelowSafePoint 100))
  pub at_79 : rows (log_of put_and_delete) (cut_1 7) 79 everything ≡ five_ab_at (pos 7) ∷ []

-- ---- what isn't admitted

abbrev pub open_below_100 : List Entry
open_below_100 = entry 1 5 (body.Open 1 1 least_handle (Some (pos 100))) ∷ []

-- a row's key is of a handle of the region, and its columns are the schema's
pub record StrangeRowsAreRefused : Type 0 where
  pub outside : fault (log_of open_below_100) (writes 6 (put_at (pos 100) 10 five_ab)) ≡ Some (unlawful.Key 0)
  pub other_table : IsLawful (log_of (open_below_100 ++ writes 6 (put_in (pos 2) (pos 100) 10 (0x50 ∷ 7 ∷ 0x76 ∷ 15 ∷ five_ab)) ∷ []))
  pub no_row_of_it : show_text (log_of (open_below_100 ++ writes 6 (put_in (pos 2) (pos 100) 10 (0x50 ∷ 7 ∷ 0x76 ∷ 15 ∷ five_ab)) ∷ [])) 10 ≡ codes "rows 0\n"
  pub unknown : fault (log_of (open_all ∷ [])) (writes 6 (put_at (pos 5) 10 with_id_3)) ≡ Some (unlawful.UnknownColumn 0 3)

-- ---- the filter on a number column

abbrev pub five_to : ℕ → Bound
five_to high = record { column = 0; low = pos 5; high = pos high }

-- a bound keeps the rows with a number in its column from low to high
pub record BoundsKeep : Type 0 where
  pub number : kept (Some (five_to 5)) (five_ab_at (pos 5) ∷ []) ≡ five_ab_at (pos 5) ∷ []
  pub above : kept (Some (record { column = 0; low = pos 6; high = pos 9 })) (five_ab_at (pos 5) ∷ []) ≡ []
  pub no_number : kept (Some (record { column = 1; low = pos 0; high = pos 9 })) (five_ab_at (pos 5) ∷ []) ≡ []
  pub null : kept (Some (five_to 5)) (record { handle = pos 1; cells = cell.Null ∷ [] } ∷ []) ≡ []
