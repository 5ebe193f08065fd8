-- The read indexes of a small log, computed.
use Rattle.std.proofs.Common.{◌≡◌, ◌∙◌, refl, sym, ap, subst, ℕ, zero, suc, ◌<◌, ◌≤◌, true, List, [], ◌∷◌, Some, arith}
use Rattle.std.specs.List.{Contains, slice_index_or}
use Rattle.std.specs.Prelude.{pos}
use Rattle.committed_log.specs.Lawful.{IsLawful}
use Rattle.committed_log.specs.Log.{at}
use Rattle.committed_log.specs.ReadIndex.{IsLocked, IsReadIndex}
use Rattle.committed_log.specs.declared.store.Commit.{Commit}
use Rattle.kv_codec.specs.declared.records.LockKind.TheVariants as lock_kind
use Rattle.row_store.proofs.Fits.{all_fit, all-true}
use Rattle.row_store.proofs.OneRegion.{is_schema}
use Rattle.row_store.specs.Readers.{readers}
use Rattle.row_store.specs.Logs.{everything, five_ab, log_of}
use Rattle.row_store.specs.Indexes.{locked_then_committed, ReadIndexesMissNothing}

locked_fits : all_fit locked_then_committed ≡ true
unfolding readers
locked_fits = refl

locked_lawful : IsLawful (log_of locked_then_committed)
unfolding readers
locked_lawful = record { schema = is_schema; writable = all-true locked_then_committed locked_fits; admitted = (refl, (refl, (refl, tt))) }

-- the one commit
abbrev commit : Commit
commit = record { handle = pos 5; ts = 12; start = 8; value = Some five_ab; position = 2 }

commits_are : (n : ℕ) → (at (log_of locked_then_committed) (suc (suc (suc n)))).commits ≡ commit ∷ []
unfolding readers
commits_are zero = refl
commits_are (suc n) = refl

only_one : (c : Commit) → Contains (commit ∷ []) c → commit ≡ c
only_one c there = by there.0 there.1 there.2
  where
    by : (k : ℕ) → k < 1 → slice_index_or (commit ∷ []) k c ≡ c → commit ≡ c
    by zero less is = is
    by (suc k) less is = absurd (omega (arith, less))

locked_there : IsLocked (at (log_of locked_then_committed) 2) (pos 5) 12
unfolding readers
locked_there = record { lock = record { kind = lock_kind.Put; start = 8 }; stands = refl; kind = refl; start = omega arith }

some_is : {x y : ℕ} → Some x ≡ Some y → x ≡ y
some_is e = cc e

-- an entry past position 1 that commits is the one at 2
each_locked : (p : ℕ) (c : Commit) → 1 < p → Contains (at (log_of locked_then_committed) (suc p)).commits c → c.position ≡ p → (q : ℕ) → 1 < q → q ≤ p → IsLocked (at (log_of locked_then_committed) q) c.handle 12
each_locked zero c less there placed q more le = absurd (omega (arith, less))
each_locked (suc zero) c less there placed q more le = absurd (omega (arith, less))
each_locked (suc (suc n)) c less there placed q more le =
    let same = only_one c (subst (λ cs. Contains cs c) (commits_are n) there) in
    let two : suc (suc n) ≡ 2 = sym placed ∙ ap (λ (c : Commit). c.position) (sym same) in
    let here : 2 ≡ q = omega (arith, more, le, two) in
    subst (λ z. IsLocked (at (log_of locked_then_committed) z) c.handle 12) here (subst (λ h. IsLocked (at (log_of locked_then_committed) 2) h 12) (ap (λ (c : Commit). c.handle) same) locked_there)

six_is : IsReadIndex (log_of locked_then_committed) 1 6 12 everything
unfolding readers
six_is = record { position = 1; is = refl; there = refl; locked = λ p c less there placed held low q more le. each_locked p c less there placed q more le }

not_locked : IsLocked (at (log_of locked_then_committed) 1) (pos 5) 12 → ⊥
unfolding readers
not_locked locked = cc locked.stands

five_is_none : IsReadIndex (log_of locked_then_committed) 1 5 12 everything → ⊥
unfolding readers
five_is_none read =
    let first : 0 ≡ read.position = some_is read.is in
    not_locked (read.locked 2 commit (omega (arith, first)) (subst (λ cs. Contains cs commit) (sym (commits_are 0)) (0, omega arith, refl)) refl refl (omega arith) 1 (omega (arith, first)) (omega arith))

pub read_indexes_miss_nothing : ReadIndexesMissNothing
unfolding readers
read_indexes_miss_nothing = record { lawful = locked_lawful; six = six_is; five = five_is_none; refused_at_6 = refl; shown_at_7 = (refl, refl, refl); hidden_at_11 = (refl, refl, refl) }
