-- A log in which a transaction locks a row and commits it, and which of its indexes are read indexes.
use Rattle.std.specs.Prelude.{◌≡◌, pos, false, Some, None, List, [], ◌∷◌}
use Rattle.flash_types.specs.declared.refusal.Refusal.TheVariants as refusal
use Rattle.kv_codec.specs.Spelling.{key, write}
use Rattle.kv_codec.specs.declared.records.WriteKind.TheVariants as record_kind
use Rattle.log_codec.specs.declared.entry.Body.TheVariants as body
use Rattle.log_codec.specs.declared.entry.Entry.{Entry}
use Rattle.log_codec.specs.declared.entry.Family.TheVariants as family
use Rattle.log_codec.specs.declared.entry.Op.{Op}
use Rattle.committed_log.specs.Lawful.{IsLawful}
use Rattle.committed_log.specs.ReadIndex.{IsReadIndex}
use Rattle.committed_log.specs.Replies.{refused, IsRight, Answered}
use Rattle.row_store.specs.Logs.{log_of, open_all, writes, entry, put_in, lock_of, five_ab, five_ab_at, cut_1, ask_1, everything, first}

-- the lock of a handle is taken away
abbrev pub unlock : Op
unlock = record { put = false; family = family.Lock; key = key (pos 1) (pos 5); value = [] }

-- region 1 at index 5; at 6 a lock of handle 5 that began at 8; at 7 its commit at 12, and the lock goes
abbrev pub locked_then_committed : List Entry
locked_then_committed =
    open_all ∷ writes 6 (lock_of (pos 5) (0x50 ∷ 2 ∷ 97 ∷ 8 ∷ 0 ∷ []))
    ∷ entry 1 7 (body.Write (put_in (pos 1) (pos 5) 12 (write (record { kind = record_kind.Put; start = 8; short = Some five_ab })) ∷ unlock ∷ [])) ∷ []

-- Index 6 is a read index for 12, since the later commit found its handle locked; a read at 12 that comes to it is refused by the lock, and one at 7 shows the commit. Index 5 is none: at position 1 the handle isn't locked.
pub record ReadIndexesMissNothing : Type 0 where
  pub lawful : IsLawful (log_of locked_then_committed)
  pub six : IsReadIndex (log_of locked_then_committed) 1 6 12 everything
  pub five : IsReadIndex (log_of locked_then_committed) 1 5 12 everything → ⊥
  pub refused_at_6 : refused (log_of locked_then_committed) (ask_1 12 5) (first 2) 0 0 ≡ Some (refusal.Locked 1 6 (pos 5) 8)
  pub shown_at_7 : IsRight (log_of locked_then_committed) (ask_1 12 5) None (first 3) 0 0 (Answered (cut_1 7) (five_ab_at (pos 5) ∷ []))
  pub hidden_at_11 : IsRight (log_of locked_then_committed) (ask_1 11 5) None (first 3) 0 0 (Answered (cut_1 7) [])
