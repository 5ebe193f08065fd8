-- Which entries of a transaction are admitted, and what the store is after them.
use Rattle.std.proofs.Common.{◌≡◌, ◌∙◌, refl, ap, ℕ, suc, ◌*◌, ℤ, ◌^◌, ◌<◌, Bool, true, false, List, [], ◌∷◌, ◌++◌, Option, Some, None, Ok, length, cond, arith, ltb, eqb, eq-eqb}
use Rattle.std.specs.Prelude.{FitsSigned, IfSome}
use Rattle.std.specs.BTreeMap.{insert_entry, is_at}
use Rattle.std.specs.Map.{values_of}
use Rattle.std.specs.Int.{w64}
use Rattle.std.proofs.lemmas.Bool.{lt-ltb, ne_eqb}
use Rattle.column_block.specs.declared.column.Column.{Column}
use Rattle.flash_types.specs.Ranges.{holds, is_below}
use Rattle.flash_types.specs.declared.range.HandleRange.{HandleRange}
use Rattle.kv_codec.specs.Spelling as S
use Rattle.kv_codec.specs.declared.records.WriteKind.TheVariants as write_kind
use Rattle.log_codec.specs.declared.entry.Op.{Op}
use Rattle.log_codec.specs.declared.entry.Body.TheVariants as body
use Rattle.log_codec.specs.declared.entry.Family.TheVariants as family
use Rattle.committed_log.specs.declared.op.FamilyOp.{FamilyOp}
use Rattle.committed_log.specs.declared.op.FamilyOp.TheVariants as family_op
use Rattle.committed_log.specs.declared.op.LastCommit.{LastCommit}
use Rattle.committed_log.specs.declared.region.Descriptor.{Descriptor}
use Rattle.committed_log.specs.Admission.{head_fault, ops_fault, ops_fault_from, op_fault, change_fault, commit_fault as fault_of_commit, fault_at, backdated_fault, value_fault, row_fault_of, least_taken}
use Rattle.committed_log.specs.Changes.{change_of, commit_of}
use Rattle.committed_log.specs.Regions.{region, range_of, with_region, regions_step}
use Rattle.committed_log.specs.declared.region.Region.TheVariants.{Unborn, Live}
use Rattle.committed_log.specs.declared.store.Commit.{Commit}
use Rattle.committed_log.specs.Store.{Store, after_change, after_op, after_ops, after_entry, families_after, last_commit, is_repeated, committed_value, value, value_cmp}
use Rattle.committed_log.proofs.FamilySteps.{value_exact}
use Rattle.committed_log.proofs.StoreSteps.{value_put}
use Rattle.committed_log.proofs.Undo.{at_self}
use Rattle.committed_log.proofs.Sorted.{value_cmp_total}
use Rattle.generator.specs.Transactions.{Transaction, Change, Delete, PutShort, PutLong, Fits, MayCommit, HasRow, put, delete, timed_key, lock_op, unlock_op, write_op, rollback_op, prewrite_of, commit, rollback_of, rollback, prewrite, write_entry, IsNext, lock_kind_of, write_kind_of, short_of}
use Rattle.committed_log.specs.Lawful.{fault}
use Rattle.committed_log.specs.Log.{Log, end}
use Rattle.generator.proofs.EntrySizes.{key_length}
use Rattle.generator.proofs.OpChanges.{value_change, drop_change, lock_change, unlock_change, write_change}

-- ---- an entry of ops

module _ (table : ℤ) (schema : List Column) (p : ℕ) (s : Store) (r index : ℕ) (ops : List Op) (d : Descriptor) (live : region s.regions r ≡ Live d) where
  head : p < 2 ^ 20 → index ≡ suc d.index → head_fault p s.regions (write_entry r index ops) ≡ None
  head few next =
      let below : ltb p (2 ^ 20) ≡ true = lt-ltb p (2 ^ 20) few in
      let same : eqb index (suc d.index) ≡ true = eq-eqb index (suc d.index) next in
      rw below (rw live (rw same refl))

  -- it has no fault where its ops have none
  pub write_fault : p < 2 ^ 20 → index ≡ suc d.index → ops_fault_from table schema d.range p s 0 ops ≡ None → fault_at table schema p s (write_entry r index ops) ≡ None
  write_fault few next none = rw (head few next) (rw (live, ops_fault) none)

  -- its region has the index
  pub regions_written : (after_entry table p s (write_entry r index ops)).regions ≡ with_region r (Live (record d { index = index })) s.regions
  regions_written = ap (λ st. regions_step st (write_entry r index ops) s.regions) live

  pub commits_written : (after_entry table p s (write_entry r index ops)).commits ≡ (after_ops table d.range p s ops).commits
  commits_written = ap (λ st. (families_after table p (range_of st) (body.Write ops) s).commits) live

  pub values_written : (after_entry table p s (write_entry r index ops)).values ≡ (after_ops table d.range p s ops).values
  values_written = ap (λ st. (families_after table p (range_of st) (body.Write ops) s).values) live

-- ---- one op

module _ (table : ℤ) (schema : List Column) (range : HandleRange) (p : ℕ) (s : Store) (op : Op) (c : FamilyOp) (is : change_of table range op ≡ Ok (Some c)) where
  no_fault : (k : ℕ) → change_fault schema (last_commit s.commits) s.values k c ≡ None → op_fault table schema range s k op ≡ None
  no_fault k none = rw (is, op_fault) none

  changes : after_op table range p s op ≡ after_change p s c
  changes = rw (is, after_op) refl

module _ (table : ℤ) (schema : List Column) (range : HandleRange) (p : ℕ) where
  one : (s : Store) (k : ℕ) (a : Op) → op_fault table schema range s k a ≡ None → ops_fault_from table schema range p s k (a ∷ []) ≡ None
  one s k a none = rw none refl

  more : (s : Store) (k : ℕ) (a : Op) (ops : List Op) → op_fault table schema range s k a ≡ None → ops_fault_from table schema range p (after_op table range p s a) (suc k) ops ≡ None → ops_fault_from table schema range p s k (a ∷ ops) ≡ None
  more s k a ops none rest = rw none rest

-- ---- the entries of a transaction

module _ (table : ℤ) (schema : List Column) (range : HandleRange) (p : ℕ) (t : Transaction) (ft : FitsSigned w64 table) (fits : Fits t) (here : holds range t.handle ≡ true) where
  unlocks : change_of table range (unlock_op table t) ≡ Ok (Some (family_op.Unlock t.handle))
  unlocks = unlock_change table t.handle ft fits.handle range here

  module _ (ttl : ℕ) (small : ttl < 2 ^ 64) (short_key : 2 * length (S.key table t.handle) < 2 ^ 64) where
    locks : change_of table range (lock_op table ttl t) ≡ Ok (Some (family_op.Lock t.handle (lock_kind_of t.change) t.start))
    locks = lock_change table t.handle ft fits.handle range here (record { kind = lock_kind_of t.change; primary = S.key table t.handle; start = t.start; ttl = ttl }) (record { primary = short_key; start = fits.start; ttl = small })

    lock_none : (s : Store) (k : ℕ) → op_fault table schema range s k (lock_op table ttl t) ≡ None
    lock_none s k = no_fault table schema range p s (lock_op table ttl t) (family_op.Lock t.handle (lock_kind_of t.change) t.start) locks k refl

    put_none : (s : Store) (k : ℕ) (bytes : List ℕ) → op_fault table schema range s k (put family.Default (timed_key table t.handle t.start) bytes) ≡ None
    put_none s k bytes = no_fault table schema range p s (put family.Default (timed_key table t.handle t.start) bytes) (family_op.Value t.handle t.start bytes) (value_change table t.handle ft fits.handle range here t.start bytes fits.start) k refl

    pub prewrite_none : (s : Store) (c : Change) → ops_fault_from table schema range p s 0 (prewrite_of table ttl t c) ≡ None
    prewrite_none s Delete = one table schema range p s 0 (lock_op table ttl t) (lock_none s 0)
    prewrite_none s (PutShort bytes) = one table schema range p s 0 (lock_op table ttl t) (lock_none s 0)
    prewrite_none s (PutLong bytes) = more table schema range p s 0 (put family.Default (timed_key table t.handle t.start) bytes) (lock_op table ttl t ∷ []) (put_none s 0 bytes) (one table schema range p (after_op table range p s (put family.Default (timed_key table t.handle t.start) bytes)) 1 (lock_op table ttl t) (lock_none (after_op table range p s (put family.Default (timed_key table t.handle t.start) bytes)) 1))

    prewrite_lock : (s : Store) → after_op table range p s (lock_op table ttl t) ≡ after_change p s (family_op.Lock t.handle (lock_kind_of t.change) t.start)
    prewrite_lock s = changes table schema range p s (lock_op table ttl t) (family_op.Lock t.handle (lock_kind_of t.change) t.start) locks

    prewrite_put : (s : Store) (bytes : List ℕ) → after_op table range p s (put family.Default (timed_key table t.handle t.start) bytes) ≡ after_change p s (family_op.Value t.handle t.start bytes)
    prewrite_put s bytes = changes table schema range p s (put family.Default (timed_key table t.handle t.start) bytes) (family_op.Value t.handle t.start bytes) (value_change table t.handle ft fits.handle range here t.start bytes fits.start)

    lock_commits : (s : Store) → (after_op table range p s (lock_op table ttl t)).commits ≡ s.commits
    lock_commits s = ap (λ (x : Store). x.commits) (prewrite_lock s)

    lock_values : (s : Store) → (after_op table range p s (lock_op table ttl t)).values ≡ s.values
    lock_values s = ap (λ (x : Store). x.values) (prewrite_lock s)

    put_commits : (s : Store) (bytes : List ℕ) → (after_op table range p s (put family.Default (timed_key table t.handle t.start) bytes)).commits ≡ s.commits
    put_commits s bytes = ap (λ (x : Store). x.commits) (prewrite_put s bytes)

    put_values : (s : Store) (bytes : List ℕ) → (after_op table range p s (put family.Default (timed_key table t.handle t.start) bytes)).values ≡ insert_entry value_cmp s.values (t.handle, t.start) bytes
    put_values s bytes = ap (λ (x : Store). x.values) (prewrite_put s bytes)

    -- a prewrite leaves the commits
    pub prewrite_commits : (s : Store) (c : Change) → (after_ops table range p s (prewrite_of table ttl t c)).commits ≡ s.commits
    prewrite_commits s Delete = lock_commits s
    prewrite_commits s (PutShort bytes) = lock_commits s
    prewrite_commits s (PutLong bytes) = lock_commits (after_op table range p s (put family.Default (timed_key table t.handle t.start) bytes)) ∙ put_commits s bytes

    -- and a long value stands in the default family
    pub prewrite_value : (s : Store) (bytes : List ℕ) → value (after_ops table range p s (prewrite_of table ttl t (PutLong bytes))).values t.handle t.start ≡ Some bytes
    prewrite_value s bytes =
        ap (λ values. value values t.handle t.start) (lock_values (after_op table range p s (put family.Default (timed_key table t.handle t.start) bytes)) ∙ put_values s bytes)
        ∙ value_put s.values (t.handle, t.start) bytes t.handle t.start
        ∙ ap (λ b. cond b (Some bytes) (value s.values t.handle t.start)) (at_self {K = ℤ × ℕ} {X = List ℕ} value_cmp value_cmp_total value_exact (λ q. None) (λ q. cond (is_at (value_cmp (t.handle, t.start)) q) (Some bytes) None) (t.handle, t.start) bytes (λ q. refl))

  -- ---- a commit

  -- the commit that it adds
  abbrev pub added : Option (List ℕ) → Commit
  added bytes = record { handle = t.handle; ts = t.commit; start = t.start; value = bytes; position = p }

  module _ (s : Store) (later : IfSome (last_commit s.commits t.handle) (λ c. c.ts < t.commit)) where
    not_repeated : (gone : Bool) → is_repeated (last_commit s.commits t.handle) t.commit t.start gone ≡ false
    not_repeated gone = by (last_commit s.commits t.handle) later
      where
        by : (o : Option LastCommit) → IfSome o (λ c. c.ts < t.commit) → is_repeated o t.commit t.start gone ≡ false
        by None h = refl
        by (Some c) h = let apart : eqb c.ts t.commit ≡ false = ne_eqb c.ts t.commit (omega arith) in rw apart refl

    pub not_backdated : (k : ℕ) → backdated_fault (last_commit s.commits t.handle) t.commit k ≡ None
    not_backdated k = by (last_commit s.commits t.handle) later
      where
        by : (o : Option LastCommit) → IfSome o (λ c. c.ts < t.commit) → backdated_fault o t.commit k ≡ None
        by None h = refl
        by (Some c) h = let less : ltb c.ts t.commit ≡ true = lt-ltb c.ts t.commit h in rw less refl

    module _ (gone : Bool) (short : Option (List ℕ)) (record_is : change_of table range (write_op table t) ≡ Ok (Some (family_op.Write t.handle t.commit t.start gone short))) where
      commit_none : (k : ℕ) → cond gone None (value_fault schema (committed_value gone short (value s.values t.handle t.start)) k) ≡ None → op_fault table schema range s k (write_op table t) ≡ None
      commit_none k none = no_fault table schema range p s (write_op table t) (family_op.Write t.handle t.commit t.start gone short) record_is k (rw (not_repeated gone, fault_of_commit) (rw (not_backdated k) none))

      commit_added : after_op table range p s (write_op table t) ≡ record s { commits = s.commits ++ added (committed_value gone short (value s.values t.handle t.start)) ∷ [] }
      commit_added = changes table schema range p s (write_op table t) (family_op.Write t.handle t.commit t.start gone short) record_is ∙ (rw (not_repeated gone) refl)

      unlock_none : (x : Store) (k : ℕ) → op_fault table schema range x k (unlock_op table t) ≡ None
      unlock_none x k = no_fault table schema range p x (unlock_op table t) (family_op.Unlock t.handle) unlocks k refl

      ops_none : cond gone None (value_fault schema (committed_value gone short (value s.values t.handle t.start)) 0) ≡ None → ops_fault_from table schema range p s 0 (commit table t) ≡ None
      ops_none none = more table schema range p s 0 (write_op table t) (unlock_op table t ∷ []) (commit_none 0 none) (one table schema range p (after_op table range p s (write_op table t)) 1 (unlock_op table t) (unlock_none (after_op table range p s (write_op table t)) 1))

      ops_added : (after_ops table range p s (commit table t)).commits ≡ s.commits ++ added (committed_value gone short (value s.values t.handle t.start)) ∷ []
      ops_added = ap (λ (x : Store). x.commits) (changes table schema range p (after_op table range p s (write_op table t)) (unlock_op table t) (family_op.Unlock t.handle) unlocks) ∙ ap (λ (x : Store). x.commits) commit_added

  -- ---- each change

  row_none : (bytes : List ℕ) (k : ℕ) → row_fault_of schema bytes ≡ None → value_fault schema (Some bytes) k ≡ None
  row_none bytes k none = rw none refl

  abbrev pub gone_of : Change → Bool
  gone_of Delete = true
  gone_of (PutShort bytes) = false
  gone_of (PutLong bytes) = false

  -- what it puts
  abbrev pub put_by : Store → Option (List ℕ)
  put_by s = committed_value (gone_of t.change) (short_of t.change) (value s.values t.handle t.start)

  commits_as : (c : Change) → commit_of t.handle t.commit (record { kind = write_kind_of c; start = t.start; short = short_of c }) ≡ Some (family_op.Write t.handle t.commit t.start (gone_of c) (short_of c))
  commits_as Delete = refl
  commits_as (PutShort bytes) = refl
  commits_as (PutLong bytes) = refl

  record_is : change_of table range (write_op table t) ≡ Ok (Some (family_op.Write t.handle t.commit t.start (gone_of t.change) (short_of t.change)))
  record_is = write_change table t.handle ft fits.handle range here t.commit (record { kind = write_kind_of t.change; start = t.start; short = short_of t.change }) fits.commit (record { start = fits.start; short = fits.short }) ∙ ap Ok (commits_as t.change)

  has_row : (s : Store) (c : Change) → HasRow schema s t c → cond (gone_of c) None (value_fault schema (committed_value (gone_of c) (short_of c) (value s.values t.handle t.start)) 0) ≡ None
  has_row s Delete has = refl
  has_row s (PutShort bytes) has = row_none bytes 0 has
  has_row s (PutLong bytes) has = rw has.1 (row_none bytes 0 has.0)

  pub commit_ops_none : (s : Store) → MayCommit schema s t → ops_fault_from table schema range p s 0 (commit table t) ≡ None
  commit_ops_none s may = ops_none s may.later (gone_of t.change) (short_of t.change) record_is (has_row s t.change may.row)

  pub commit_ops_added : (s : Store) → MayCommit schema s t → (after_ops table range p s (commit table t)).commits ≡ s.commits ++ added (put_by s) ∷ []
  commit_ops_added s may = ops_added s may.later (gone_of t.change) (short_of t.change) record_is

  -- ---- a rollback

  rolled_back : change_of table range (rollback_op table t) ≡ Ok None
  rolled_back = write_change table t.handle ft fits.handle range here t.start (record { kind = write_kind.Rollback; start = t.start; short = None }) fits.start (record { start = fits.start; short = tt })

  rollback_none : (s : Store) (k : ℕ) → op_fault table schema range s k (rollback_op table t) ≡ None
  rollback_none s k = rw (rolled_back, op_fault) refl

  drop_none : (s : Store) (k : ℕ) → op_fault table schema range s k (delete family.Default (timed_key table t.handle t.start)) ≡ None
  drop_none s k = no_fault table schema range p s (delete family.Default (timed_key table t.handle t.start)) (family_op.DropValue t.handle t.start) (drop_change table t.handle ft fits.handle range here t.start fits.start) k refl

  unlock_ok : (s : Store) (k : ℕ) → op_fault table schema range s k (unlock_op table t) ≡ None
  unlock_ok s k = no_fault table schema range p s (unlock_op table t) (family_op.Unlock t.handle) unlocks k refl

  then_unlock : (s : Store) (k : ℕ) → ops_fault_from table schema range p s k (unlock_op table t ∷ []) ≡ None
  then_unlock s k = one table schema range p s k (unlock_op table t) (unlock_ok s k)

  pub rollback_ops_none : (s : Store) (c : Change) → ops_fault_from table schema range p s 0 (rollback_of table t c) ≡ None
  rollback_ops_none s Delete = more table schema range p s 0 (rollback_op table t) (unlock_op table t ∷ []) (rollback_none s 0) (then_unlock (after_op table range p s (rollback_op table t)) 1)
  rollback_ops_none s (PutShort bytes) = more table schema range p s 0 (rollback_op table t) (unlock_op table t ∷ []) (rollback_none s 0) (then_unlock (after_op table range p s (rollback_op table t)) 1)
  rollback_ops_none s (PutLong bytes) =
      more table schema range p s 0 (rollback_op table t) (delete family.Default (timed_key table t.handle t.start) ∷ unlock_op table t ∷ []) (rollback_none s 0)
      (more table schema range p (after_op table range p s (rollback_op table t)) 1 (delete family.Default (timed_key table t.handle t.start)) (unlock_op table t ∷ []) (drop_none (after_op table range p s (rollback_op table t)) 1)
      (then_unlock (after_op table range p (after_op table range p s (rollback_op table t)) (delete family.Default (timed_key table t.handle t.start))) 2))

-- ---- the next entry of a log

key_fits : (table : ℤ) (h : ℤ) → 2 * length (S.key table h) < 2 ^ 64
key_fits table h = omega (arith, key_length table h)

pub prewrite_fault : (log : Log) (r index ttl : ℕ) (d : Descriptor) (t : Transaction) → FitsSigned w64 log.table → ttl < 2 ^ 64 → Fits t → IsNext log r index d → holds d.range t.handle ≡ true → fault log (write_entry r index (prewrite log.table ttl t)) ≡ None
prewrite_fault log r index ttl d t ft small fits next here =
    write_fault log.table log.schema (length log.entries) (end log) r index (prewrite log.table ttl t) d next.live next.room next.follows
    (prewrite_none log.table log.schema d.range (length log.entries) t ft fits here ttl small (key_fits log.table t.handle) (end log) t.change)

pub commit_fault : (log : Log) (r index : ℕ) (d : Descriptor) (t : Transaction) → FitsSigned w64 log.table → Fits t → IsNext log r index d → holds d.range t.handle ≡ true → MayCommit log.schema (end log) t → fault log (write_entry r index (commit log.table t)) ≡ None
commit_fault log r index d t ft fits next here may =
    write_fault log.table log.schema (length log.entries) (end log) r index (commit log.table t) d next.live next.room next.follows
    (commit_ops_none log.table log.schema d.range (length log.entries) t ft fits here (end log) may)

pub rollback_fault : (log : Log) (r index : ℕ) (d : Descriptor) (t : Transaction) → FitsSigned w64 log.table → Fits t → IsNext log r index d → holds d.range t.handle ≡ true → fault log (write_entry r index (rollback log.table t)) ≡ None
rollback_fault log r index d t ft fits next here =
    write_fault log.table log.schema (length log.entries) (end log) r index (rollback log.table t) d next.live next.room next.follows
    (rollback_ops_none log.table log.schema d.range (length log.entries) t ft fits here (end log) t.change)

pub open_fault : (log : Log) (r index conf_ver version : ℕ) (range : HandleRange) → length log.entries < 2 ^ 20 → region (end log).regions r ≡ Unborn → is_below range.low range.high ≡ true → least_taken range (values_of (end log).regions) ≡ None → fault log (record { region = r; index = index; body = body.Open conf_ver version range.low range.high }) ≡ None
open_fault log r index conf_ver version range few unborn filled free =
    let below : ltb (length log.entries) (2 ^ 20) ≡ true = lt-ltb (length log.entries) (2 ^ 20) few in
    rw below (rw unborn (rw filled (rw free refl)))
