-- One transaction of the generated log: its two entries have no fault, and what the store is behind them.
use Rattle.std.proofs.Common.{◌≡◌, ◌≢◌, ◌∙◌, refl, sym, ap, subst, ℕ, zero, suc, ◌+◌, ◌-◌, ◌*◌, ◌/◌, ◌%◌, ◌^◌, ◌<◌, ◌≤◌, ℤ, pos, negsuc, Bool, true, false, cond, List, [], ◌∷◌, ◌++◌, Option, Some, None, length, arith, eqb, eq-eqb, true≢false}
use Rattle.std.specs.Prelude.{FitsSigned, IfSome, int_le, ◌&&◌}
use Rattle.std.specs.Ordering.{int_eq}
use Rattle.std.specs.Int.{w64}
use Rattle.std.proofs.lemmas.Bool.{lt-ltb, le-leb, eqb-true}
use Rattle.flash_types.specs.Ranges.{holds, is_below}
use Rattle.kv_codec.specs.Spelling as S
use Rattle.committed_log.specs.Admission.{fault_at, row_fault_of}
use Rattle.committed_log.specs.Lawful.{IsWritable}
use Rattle.committed_log.specs.Regions.{region, with_region}
use Rattle.committed_log.specs.declared.region.Region.TheVariants.{Live}
use Rattle.committed_log.specs.declared.store.Commit.{Commit}
use Rattle.committed_log.specs.Store.{Store, after_entry, last_commit, value as value_at}
use Rattle.committed_log.specs.declared.op.LastCommit.{LastCommit}
use Rattle.committed_log.proofs.LastCommits.{summary, last_commit_push}
use Rattle.committed_log.proofs.Ranks.{region_here, region_there}
use Rattle.generator.specs.Transactions.{Transaction, Change, Delete, PutShort, PutLong, Fits, MayCommit, HasRow, prewrite, prewrite_of, commit, write_entry, short_of}
use Rattle.generator.specs.Generated.{random, row_of, region_of, value, transaction, last_index, prewritten, committed, columns}
use Rattle.generator.specs.Moments.{part, descriptor, IsMoment}
use Rattle.generator.proofs.Admitted.{write_fault, regions_written, commits_written, values_written, prewrite_none, prewrite_commits, prewrite_value, commit_ops_none, commit_ops_added, not_backdated, added, put_by}
use Rattle.generator.proofs.EntrySizes.{key_length, has_few, prewrite_writable, commit_writable}
use Rattle.generator.proofs.RowValues.{value_length, value_is_row}

-- ---- the numbers of a transaction

low_is : (b : Bool) (low h : ℕ) → low ≤ h → int_le (cond b (negsuc (2 ^ 63 - 1)) (pos low)) (pos h) ≡ true
low_is true low h le = refl
low_is false low h le = le-leb low h le

high_is : (b : Bool) (high h : ℕ) → h < high → is_below (pos h) (cond b None (Some (pos high))) ≡ true
high_is true high h lt = refl
high_is false high h lt = lt-ltb h high lt

both : (a b : Bool) → a ≡ true → b ≡ true → (a && b) ≡ true
both a b e f = rw (e, f) refl

holds_row : (r h : ℕ) → 1000 * (r - 1) ≤ h → h < 1000 * r → holds (part r) (pos h) ≡ true
holds_row r h le lt = both (int_le (cond (eqb r 1) (negsuc (2 ^ 63 - 1)) (pos (1000 * (r - 1)))) (pos h)) (is_below (pos h) (cond (eqb r 8) None (Some (pos (1000 * r))))) (low_is (eqb r 1) (1000 * (r - 1)) h le) (high_is (eqb r 8) (1000 * r) h lt)

pub in_part : (x : ℕ) → holds (part (region_of x)) (pos (row_of x)) ≡ true
in_part x = by (row_of x)
  where
    by : (h : ℕ) → holds (part (h / 1000 + 1)) (pos h) ≡ true
    by h = holds_row (h / 1000 + 1) h (omega arith) (omega arith)

pub region_low : (x : ℕ) → 1 ≤ region_of x
region_low x = omega arith

pub region_high : (x : ℕ) → region_of x ≤ 8
region_high x = by (row_of x) (omega arith)
  where
    by : (h : ℕ) → h < 8000 → h / 1000 + 1 ≤ 8
    by h lt = omega arith

pub small_fits : (h : ℕ) → h < 2 ^ 63 → FitsSigned w64 (pos h)
small_fits h lt = record { sfits = lt }

changes_few : (b c : Bool) (v : List ℕ) → length v ≤ 240 → has_few 240 (cond b Delete (cond c (PutLong v) (PutShort v)))
changes_few true c v few = tt
changes_few false true v few = few
changes_few false false v few = few

short_fits : (b c : Bool) (v : List ℕ) → length v ≤ 240 → IfSome (short_of (cond b Delete (cond c (PutLong v) (PutShort v)))) (λ bytes. length bytes < 256)
short_fits true c v few = tt
short_fits false true v few = tt
short_fits false false v few = omega (arith, few)

pub transaction_fits : (x i : ℕ) → i < 2 ^ 40 → Fits (transaction x i)
transaction_fits x i low = record {
  handle = small_fits (row_of x) (omega arith);
  start = omega arith;
  commit = omega arith;
  short = short_fits (eqb (x / 2 ^ 20 % 8) 0) (eqb (i % 4) 0) (value (row_of x) i) (omega (arith, value_length (row_of x) i));
}

-- ---- rows

abbrev AreRows : Change → Type 0
AreRows Delete = Unit {0}
AreRows (PutShort bytes) = row_fault_of columns bytes ≡ None
AreRows (PutLong bytes) = row_fault_of columns bytes ≡ None

changes_are_rows : (b c : Bool) (v : List ℕ) → row_fault_of columns v ≡ None → AreRows (cond b Delete (cond c (PutLong v) (PutShort v)))
changes_are_rows true c v none = tt
changes_are_rows false true v none = none
changes_are_rows false false v none = none

-- ---- the two entries

if_less : (o : Option LastCommit) (a b : ℕ) → a ≤ b → IfSome o (λ c. c.ts < a) → IfSome o (λ c. c.ts < b)
if_less None a b le h = tt
if_less (Some c) a b le h = omega (arith, h)

module _ (x n p : ℕ) (s : Store) (last : ℕ) (few : suc p < 2 ^ 20) (low : n < 2 ^ 40) (live : region s.regions (region_of x) ≡ Live (descriptor (region_of x) last)) (earlier : (h : ℤ) → IfSome (last_commit s.commits h) (λ c. c.ts < 10 * n + 10)) where
  abbrev r : ℕ
  r = region_of x

  abbrev t : Transaction
  t = transaction x n

  fits : Fits t
  fits = transaction_fits x n low

  one_fits : FitsSigned w64 (pos 1)
  one_fits = small_fits 1 (omega arith)

  key_fits : 2 * length (S.key (pos 1) t.handle) < 2 ^ 64
  key_fits = omega (arith, key_length (pos 1) t.handle)

  abbrev first : Change → Store
  first c = after_entry (pos 1) p s (write_entry r (last + 1) (prewrite_of (pos 1) 3000 t c))

  pub first_fault : fault_at (pos 1) columns p s (prewritten x n last) ≡ None
  first_fault = write_fault (pos 1) columns p s r (last + 1) (prewrite (pos 1) 3000 t) (descriptor r last) live (omega arith) (omega arith) (prewrite_none (pos 1) columns (part r) p t one_fits fits (in_part x) 3000 (omega arith) key_fits s t.change)

  first_regions : (c : Change) → (first c).regions ≡ with_region r (Live (descriptor r (last + 1))) s.regions
  first_regions c = regions_written (pos 1) columns p s r (last + 1) (prewrite_of (pos 1) 3000 t c) (descriptor r last) live

  first_live : (c : Change) → region (first c).regions r ≡ Live (descriptor r (last + 1))
  first_live c = ap (λ rs. region rs r) (first_regions c) ∙ region_here s.regions r (Live (descriptor r (last + 1)))

  first_commits : (c : Change) → (first c).commits ≡ s.commits
  first_commits c = commits_written (pos 1) columns p s r (last + 1) (prewrite_of (pos 1) 3000 t c) (descriptor r last) live ∙ prewrite_commits (pos 1) columns (part r) p t one_fits fits (in_part x) 3000 (omega arith) key_fits s c

  first_value : (bytes : List ℕ) → value_at (first (PutLong bytes)).values t.handle t.start ≡ Some bytes
  first_value bytes = ap (λ vs. value_at vs t.handle t.start) (values_written (pos 1) columns p s r (last + 1) (prewrite_of (pos 1) 3000 t (PutLong bytes)) (descriptor r last) live) ∙ prewrite_value (pos 1) columns (part r) p t one_fits fits (in_part x) 3000 (omega arith) key_fits s bytes

  has_rows : (c : Change) → AreRows c → HasRow columns (first c) t c
  has_rows Delete rows = tt
  has_rows (PutShort bytes) rows = rows
  has_rows (PutLong bytes) rows = (rows, first_value bytes)

  may : MayCommit columns (first t.change) t
  may = record {
    later = subst (λ (cs : List Commit). IfSome (last_commit cs t.handle) (λ c. c.ts < t.commit)) (sym (first_commits t.change)) (if_less (last_commit s.commits t.handle) (10 * n + 10) (10 * n + 15) (omega arith) (earlier t.handle));
    row = has_rows t.change (changes_are_rows (eqb (x / 2 ^ 20 % 8) 0) (eqb (n % 4) 0) (value (row_of x) n) (value_is_row (row_of x) n));
  }

  pub second_fault : fault_at (pos 1) columns (suc p) (after_entry (pos 1) p s (prewritten x n last)) (committed x n last) ≡ None
  second_fault = write_fault (pos 1) columns (suc p) (first t.change) r (last + 2) (commit (pos 1) t) (descriptor r (last + 1)) (first_live t.change) few (omega arith) (commit_ops_none (pos 1) columns (part r) (suc p) t one_fits fits (in_part x) (first t.change) may)

  abbrev second : Store
  second = after_entry (pos 1) (suc p) (first t.change) (committed x n last)

  second_regions : second.regions ≡ with_region r (Live (descriptor r (last + 2))) (with_region r (Live (descriptor r (last + 1))) s.regions)
  second_regions = regions_written (pos 1) columns (suc p) (first t.change) r (last + 2) (commit (pos 1) t) (descriptor r (last + 1)) (first_live t.change) ∙ ap (with_region r (Live (descriptor r (last + 2)))) (first_regions t.change)

  pub second_here : region second.regions r ≡ Live (descriptor r (last + 2))
  second_here = ap (λ rs. region rs r) second_regions ∙ region_here (with_region r (Live (descriptor r (last + 1))) s.regions) r (Live (descriptor r (last + 2)))

  pub second_there : (q : ℕ) → q ≢ r → region second.regions q ≡ region s.regions q
  second_there q apart = ap (λ rs. region rs q) second_regions ∙ region_there (with_region r (Live (descriptor r (last + 1))) s.regions) r (Live (descriptor r (last + 2))) q apart ∙ region_there s.regions r (Live (descriptor r (last + 1))) q apart

  second_commits : second.commits ≡ (first t.change).commits ++ added (pos 1) columns (part r) (suc p) t one_fits fits (in_part x) (put_by (pos 1) columns (part r) (suc p) t one_fits fits (in_part x) (first t.change)) ∷ []
  second_commits = commits_written (pos 1) columns (suc p) (first t.change) r (last + 2) (commit (pos 1) t) (descriptor r (last + 1)) (first_live t.change) ∙ commit_ops_added (pos 1) columns (part r) (suc p) t one_fits fits (in_part x) (first t.change) may

  pub second_earlier : (h : ℤ) → IfSome (last_commit second.commits h) (λ c. c.ts < 10 * suc n + 10)
  second_earlier h =
      let c = added (pos 1) columns (part r) (suc p) t one_fits fits (in_part x) (put_by (pos 1) columns (part r) (suc p) t one_fits fits (in_part x) (first t.change)) in
      let is = ap (λ cs. last_commit cs h) second_commits ∙ last_commit_push (first t.change).commits c 0 (not_backdated (pos 1) columns (part r) (suc p) t one_fits fits (in_part x) (first t.change) may.later 0) h in
      subst (λ (o : Option LastCommit). IfSome o (λ c. c.ts < 10 * suc n + 10)) (sym is) (by (int_eq t.handle h))
    where
      old : IfSome (last_commit (first t.change).commits h) (λ c. c.ts < 10 * suc n + 10)
      old = subst (λ (cs : List Commit). IfSome (last_commit cs h) (λ c. c.ts < 10 * suc n + 10)) (sym (first_commits t.change)) (if_less (last_commit s.commits h) (10 * n + 10) (10 * suc n + 10) (omega arith) (earlier h))

      by : (b : Bool) → IfSome (cond b (Some (summary (added (pos 1) columns (part r) (suc p) t one_fits fits (in_part x) (put_by (pos 1) columns (part r) (suc p) t one_fits fits (in_part x) (first t.change))))) (last_commit (first t.change).commits h)) (λ c. c.ts < 10 * suc n + 10)
      by true = omega arith
      by false = old

  -- ---- they can be written

  pub first_writable : last < 2 ^ 40 → IsWritable (prewritten x n last)
  first_writable small = prewrite_writable (pos 1) t r (last + 1) (omega (arith, region_high x)) (omega arith) (omega arith) 3000 t.change (changes_few (eqb (x / 2 ^ 20 % 8) 0) (eqb (n % 4) 0) (value (row_of x) n) (omega (arith, value_length (row_of x) n)))

  pub second_writable : last < 2 ^ 40 → IsWritable (committed x n last)
  second_writable small = commit_writable (pos 1) t r (last + 2) (omega (arith, region_high x)) (omega arith) (omega arith) (changes_few (eqb (x / 2 ^ 20 % 8) 0) (eqb (n % 4) 0) (value (row_of x) n) (omega (arith, value_length (row_of x) n)))

-- ---- the store

last_index_next : (q n x : ℕ) → x ≡ random (suc n) → (b : Bool) → eqb (region_of x) q ≡ b → last_index q (suc n) ≡ last_index q n + cond b 2 0
unfolding last_index
last_index_next q n x is b same = ap (λ c. last_index q n + cond c 2 0) (ap (λ y. eqb (region_of y) q) (sym is) ∙ same)

pub last_small : (q n : ℕ) → last_index q n ≤ 2 * n + 6
unfolding last_index
last_small q zero = by (eqb q 8)
  where
    by : (b : Bool) → cond b 5 6 ≤ 6
    by true = omega arith
    by false = omega arith
last_small q (suc n) = by (eqb (region_of (random (suc n))) q) (last_small q n)
  where
    by : (b : Bool) → last_index q n ≤ 2 * n + 6 → last_index q n + cond b 2 0 ≤ 2 * suc n + 6
    by true h = omega (arith, h)
    by false h = omega (arith, h)

module _ (n p : ℕ) (s : Store) (few : suc p < 2 ^ 20) (low : n < 2 ^ 40) (m : IsMoment n s) where
  pub region_live : (x : ℕ) → region s.regions (region_of x) ≡ Live (descriptor (region_of x) (last_index (region_of x) n))
  region_live x = m.regions (region_of x) (region_low x) (region_high x)

  abbrev pub after_two : ℕ → Store
  after_two x = after_entry (pos 1) (suc p) (after_entry (pos 1) p s (prewritten x n (last_index (region_of x) n))) (committed x n (last_index (region_of x) n))

  module _ (x : ℕ) (is : x ≡ random (suc n)) where
    each : (q : ℕ) → 1 ≤ q → q ≤ 8 → (b : Bool) → eqb (region_of x) q ≡ b → region (after_two x).regions q ≡ Live (descriptor q (last_index q (suc n)))
    each q a b true same =
        let e : region_of x ≡ q = eqb-true (region_of x) q same in
        let self : eqb (region_of x) (region_of x) ≡ true = ap (λ z. eqb (region_of x) z) e ∙ same in
        subst (λ z. region (after_two x).regions z ≡ Live (descriptor z (last_index z (suc n)))) e
        (second_here x n p s (last_index (region_of x) n) few low (region_live x) m.earlier ∙ ap (λ i. Live (descriptor (region_of x) i)) (sym (last_index_next (region_of x) n x is true self)))
    each q a b false apart =
        let zero_more : last_index q n + 0 ≡ last_index q n = omega arith in
        second_there x n p s (last_index (region_of x) n) few low (region_live x) m.earlier q (λ e. true≢false (sym (eq-eqb (region_of x) q (sym e)) ∙ apart))
        ∙ m.regions q a b ∙ ap (λ i. Live (descriptor q i)) (sym (last_index_next q n x is false apart ∙ zero_more))

    pub next_moment : IsMoment (suc n) (after_two x)
    next_moment = record {
      regions = λ q a b. each q a b (eqb (region_of x) q) refl;
      earlier = second_earlier x n p s (last_index (region_of x) n) few low (region_live x) m.earlier;
    }
