-- What the ops of a transaction change.
use Rattle.std.proofs.Common.{◌≡◌, ◌∙◌, refl, sym, ap, ℕ, ℤ, ◌^◌, ◌<◌, true, List, [], Option, Some, None, Ok}
use Rattle.std.specs.Prelude.{FitsSigned}
use Rattle.std.specs.Int.{w64}
use Rattle.std.proofs.lemmas.List.{append-nil}
use Rattle.flash_types.specs.Ranges.{holds}
use Rattle.flash_types.specs.declared.range.HandleRange.{HandleRange}
use Rattle.kv_codec.specs.Records.{Write, LockRecord, write_at, lock_at}
use Rattle.kv_codec.specs.Spelling as S
use Rattle.kv_codec.proofs.KeysAgain.{key_found, timestamp_split}
use Rattle.kv_codec.proofs.Written.{write_again}
use Rattle.kv_codec.proofs.LocksAgain.{lock_again}
use Rattle.log_codec.specs.declared.entry.Family.{Family}
use Rattle.log_codec.specs.declared.entry.Family.TheVariants as family
use Rattle.committed_log.specs.Changes.{change_of, key_at, timed_key as timed_key_at, put_of, delete_of, commit_of}
use Rattle.committed_log.specs.declared.op.FamilyOp.TheVariants as change
use Rattle.generator.specs.Transactions.{put, delete, timed_key}

module _ (table h : ℤ) (ft : FitsSigned w64 table) (fh : FitsSigned w64 h) where
  timed : (ts : ℕ) → ts < 2 ^ 64 → timed_key_at table (timed_key table h ts) ≡ Ok (Some (h, ts))
  timed ts lt = rw (timestamp_split (S.key table h) ts lt) (rw (key_found table h ft fh) refl)

  untimed : key_at table family.Lock (S.key table h) ≡ Ok (Some (h, 0))
  untimed = rw (key_found table h ft fh) refl

  module _ (range : HandleRange) (here : holds range h ≡ true) where
    put_change : (f : Family) (key value : List ℕ) (ts : ℕ) → key_at table f key ≡ Ok (Some (h, ts)) → change_of table range (put f key value) ≡ put_of f h ts value
    put_change f key value ts is = rw (is, here) refl

    delete_change : (f : Family) (key : List ℕ) (ts : ℕ) → key_at table f key ≡ Ok (Some (h, ts)) → change_of table range (delete f key) ≡ Ok (delete_of f h ts)
    delete_change f key ts is = rw (is, here) refl

    pub value_change : (ts : ℕ) (value : List ℕ) → ts < 2 ^ 64 → change_of table range (put family.Default (timed_key table h ts) value) ≡ Ok (Some (change.Value h ts value))
    value_change ts value lt = put_change family.Default (timed_key table h ts) value ts (timed ts lt)

    pub drop_change : (ts : ℕ) → ts < 2 ^ 64 → change_of table range (delete family.Default (timed_key table h ts)) ≡ Ok (Some (change.DropValue h ts))
    drop_change ts lt = delete_change family.Default (timed_key table h ts) ts (timed ts lt)

    pub lock_change : (l : LockRecord) → S.LockFits l → change_of table range (put family.Lock (S.key table h) (S.lock l)) ≡ Ok (Some (change.Lock h l.kind l.start))
    lock_change l fits = put_change family.Lock (S.key table h) (S.lock l) 0 untimed ∙ rw (ap lock_at (sym (append-nil (S.lock l))) ∙ lock_again l [] fits, put_of) refl

    pub unlock_change : change_of table range (delete family.Lock (S.key table h)) ≡ Ok (Some (change.Unlock h))
    unlock_change = delete_change family.Lock (S.key table h) 0 untimed

    pub write_change : (ts : ℕ) (w : Write) → ts < 2 ^ 64 → S.Fits w → change_of table range (put family.Write (timed_key table h ts) (S.write w)) ≡ Ok (commit_of h ts w)
    write_change ts w lt fits = put_change family.Write (timed_key table h ts) (S.write w) ts (timed ts lt) ∙ rw (ap write_at (sym (append-nil (S.write w))) ∙ write_again w [] fits (may w.short), put_of) refl
      where
        may : (short : Option (List ℕ)) → S.MayFollow short []
        may None = tt
        may (Some value) = tt
