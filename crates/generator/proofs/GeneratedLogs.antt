-- The generated log is lawful: an induction over its transactions.
use Rattle.std.proofs.Common.{◌≡◌, ◌∙◌, refl, sym, ap, subst, ℕ, zero, suc, ◌+◌, ◌*◌, ◌^◌, ◌<◌, ◌≤◌, pos, true, List, [], ◌∷◌, ◌++◌, None, length, arith, eqb, ltb, eq-eqb, negsuc, ◌-◌, append_assoc, length-append}
use Rattle.std.proofs.lemmas.Bool.{lt-ltb}
use Rattle.log_codec.specs.declared.entry.Entry.{Entry}
use Rattle.log_codec.specs.declared.entry.Body.TheVariants as body
use Rattle.log_codec.specs.Spelling.{body as body_bytes, payload}
use Rattle.committed_log.specs.Admission.{fault_at, head_fault, merge_fault}
use Rattle.committed_log.specs.Lawful.{IsLawful, IsWritable, fault, pushed}
use Rattle.committed_log.specs.Log.{Log}
use Rattle.committed_log.specs.Regions.{region, with_region, regions_step, raised}
use Rattle.committed_log.specs.declared.region.Region.{Region}
use Rattle.committed_log.specs.declared.region.Region.TheVariants.{Live, Prepared}
use Rattle.committed_log.specs.Store.{Store, after_entry, store_of}
use Rattle.committed_log.proofs.Pushed.{store_push, lawful_push}
use Rattle.committed_log.proofs.Ranks.{region_here, region_there}
use Rattle.generator.specs.Generated.{random, region_of, last_index, entry, split, opening, begun, prewritten, committed, prepared, merged, columns, log_of, generated}
use Rattle.generator.specs.Moments.{part, descriptor, IsMoment}
use Rattle.generator.proofs.MomentSteps.{first_fault, second_fault, first_writable, second_writable, next_moment, region_live, last_small}

-- ---- one entry more, and two

-- one entry more
pub pushed_lawful : (log : Log) (e : Entry) → IsLawful log → IsWritable e → fault log e ≡ None → IsLawful (pushed log e)
pushed_lawful log e lawful form none = lawful_push log.table log.schema log.entries e lawful form none

module _ (es : List Entry) (a b : Entry) where
  abbrev before : Store
  before = store_of (pos 1) es

  abbrev between : Store
  between = after_entry (pos 1) (length es) before a

  pub two : (es ++ a ∷ []) ++ b ∷ [] ≡ es ++ a ∷ b ∷ []
  two = append_assoc es (a ∷ []) (b ∷ [])

  one_longer : length (es ++ a ∷ []) ≡ suc (length es)
  one_longer = omega (arith, length-append es (a ∷ []))

  -- the second entry, behind the log with the first
  pub second_is_fine : fault_at (pos 1) columns (suc (length es)) between b ≡ None → fault (log_of (es ++ a ∷ [])) b ≡ None
  second_is_fine none = (λ i. fault_at (pos 1) columns (one_longer i) (store_push (pos 1) columns es a i) b) ∙ none

  pub two_lawful : IsLawful (log_of es) → IsWritable a → IsWritable b → fault_at (pos 1) columns (length es) before a ≡ None → fault_at (pos 1) columns (suc (length es)) between b ≡ None → IsLawful (log_of (es ++ a ∷ b ∷ []))
  two_lawful lawful wa wb fa fb = subst (λ (xs : List Entry). IsLawful (log_of xs)) two (pushed_lawful (log_of (es ++ a ∷ [])) b (pushed_lawful (log_of es) a lawful wa fa) wb (second_is_fine fb))

  pub two_store : store_of (pos 1) (es ++ a ∷ b ∷ []) ≡ after_entry (pos 1) (suc (length es)) between b
  two_store = ap (store_of (pos 1)) (sym two) ∙ store_push (pos 1) columns (es ++ a ∷ []) b ∙ (λ i. after_entry (pos 1) (one_longer i) (store_push (pos 1) columns es a i) b)

  pub two_longer : length (es ++ a ∷ b ∷ []) ≡ length es + 2
  two_longer = length-append es (a ∷ b ∷ [])

-- ---- the first eight entries

pub open_writable : IsWritable (entry 1 5 (body.Open 1 1 (negsuc (2 ^ 63 - 1)) None))
unfolding payload body_bytes
open_writable = record {
  form = record { index = (omega arith, omega arith); body = (omega arith, omega arith); size = omega arith };
  numbers = record { region = omega arith; body = (record { sfits = omega arith }, tt) };
}

pub split_writable : (r : ℕ) → r < 8 → IsWritable (split r)
unfolding payload body_bytes
split_writable r few = record {
  form = record { index = (omega arith, omega arith); body = tt; size = omega arith };
  numbers = record { region = omega arith; body = (record { sfits = omega arith }, omega arith) };
}

pub opening_lawful : IsLawful (log_of opening)
opening_lawful = record {
  schema = record { rises = refl; few = omega arith };
  writable = (open_writable, (split_writable 1 (omega arith), (split_writable 2 (omega arith), (split_writable 3 (omega arith), (split_writable 4 (omega arith), (split_writable 5 (omega arith), (split_writable 6 (omega arith), (split_writable 7 (omega arith), tt))))))));
  admitted = (refl, (refl, (refl, (refl, (refl, (refl, (refl, (refl, tt))))))));
}

-- what holds of each of eight
pub each_of_eight : (P : ℕ → Type 0) → P 1 → P 2 → P 3 → P 4 → P 5 → P 6 → P 7 → P 8 → (r : ℕ) → 1 ≤ r → r ≤ 8 → P r
each_of_eight P a b c d e f g h zero low high = absurd (omega (arith, low))
each_of_eight P a b c d e f g h (suc zero) low high = a
each_of_eight P a b c d e f g h (suc (suc zero)) low high = b
each_of_eight P a b c d e f g h (suc (suc (suc zero))) low high = c
each_of_eight P a b c d e f g h (suc (suc (suc (suc zero)))) low high = d
each_of_eight P a b c d e f g h (suc (suc (suc (suc (suc zero))))) low high = e
each_of_eight P a b c d e f g h (suc (suc (suc (suc (suc (suc zero)))))) low high = f
each_of_eight P a b c d e f g h (suc (suc (suc (suc (suc (suc (suc zero))))))) low high = g
each_of_eight P a b c d e f g h (suc (suc (suc (suc (suc (suc (suc (suc zero)))))))) low high = h
each_of_eight P a b c d e f g h (suc (suc (suc (suc (suc (suc (suc (suc (suc r))))))))) low high = absurd (omega (arith, high))

first_moment : IsMoment 0 (store_of (pos 1) opening)
unfolding last_index
first_moment = record {
  regions = each_of_eight (λ r. region (store_of (pos 1) opening).regions r ≡ Live (descriptor r (last_index r 0))) refl refl refl refl refl refl refl refl;
  earlier = λ h. tt;
}

-- ---- the transactions

pub record IsBegun (n : ℕ) (es : List Entry) : Type 0 where
  pub lawful : IsLawful (log_of es)
  pub moment : IsMoment n (store_of (pos 1) es)
  pub count : length es ≡ 2 * n + 8

module _ (n : ℕ) (es : List Entry) (b : IsBegun n es) (room : 2 * n + 10 ≤ 2 ^ 20) where
  low : n < 2 ^ 40
  low = omega (arith, room)

  few : suc (length es) < 2 ^ 20
  few = omega (arith, room, b.count)

  abbrev last : ℕ → ℕ
  last x = last_index (region_of x) n

  last_low : (x : ℕ) → last x < 2 ^ 40
  last_low x = omega (arith, last_small (region_of x) n, room)

  live : (x : ℕ) → region (store_of (pos 1) es).regions (region_of x) ≡ Live (descriptor (region_of x) (last x))
  live x = region_live n (length es) (store_of (pos 1) es) few low b.moment x

  pub prewritten_fine : (x : ℕ) → fault (log_of es) (prewritten x n (last x)) ≡ None
  prewritten_fine x = first_fault x n (length es) (store_of (pos 1) es) (last x) few low (live x) b.moment.earlier

  committed_none : (x : ℕ) → fault_at (pos 1) columns (suc (length es)) (after_entry (pos 1) (length es) (store_of (pos 1) es) (prewritten x n (last x))) (committed x n (last x)) ≡ None
  committed_none x = second_fault x n (length es) (store_of (pos 1) es) (last x) few low (live x) b.moment.earlier

  pub committed_fine : (x : ℕ) → fault (log_of (es ++ prewritten x n (last x) ∷ [])) (committed x n (last x)) ≡ None
  committed_fine x = second_is_fine es (prewritten x n (last x)) (committed x n (last x)) (committed_none x)

  pub prewritten_writable : (x : ℕ) → IsWritable (prewritten x n (last x))
  prewritten_writable x = first_writable x n (length es) (store_of (pos 1) es) (last x) few low (live x) b.moment.earlier (last_low x)

  pub committed_writable : (x : ℕ) → IsWritable (committed x n (last x))
  committed_writable x = second_writable x n (length es) (store_of (pos 1) es) (last x) few low (live x) b.moment.earlier (last_low x)

  pub next_begun : (x : ℕ) → x ≡ random (suc n) → IsBegun (suc n) (es ++ prewritten x n (last x) ∷ committed x n (last x) ∷ [])
  next_begun x is = record {
    lawful = two_lawful es (prewritten x n (last x)) (committed x n (last x)) b.lawful (prewritten_writable x) (committed_writable x) (prewritten_fine x) (committed_none x);
    moment = subst (IsMoment (suc n)) (sym (two_store es (prewritten x n (last x)) (committed x n (last x)))) (next_moment n (length es) (store_of (pos 1) es) few low b.moment x is);
    count = omega (arith, two_longer es (prewritten x n (last x)) (committed x n (last x)), b.count);
  }

pub is_begun : (n : ℕ) → 2 * n + 8 ≤ 2 ^ 20 → IsBegun n (begun n)
unfolding begun
is_begun zero room = record { lawful = opening_lawful; moment = first_moment; count = refl }
is_begun (suc n) room = next_begun n (begun n) (is_begun n (omega (arith, room))) (omega (arith, room)) (random (suc n)) refl

-- ---- the merge

next_is : (i : ℕ) → eqb (i + 1) (suc i) ≡ true
next_is i = eq-eqb (i + 1) (suc i) (omega arith)

-- region 8 with the index of its prepare
abbrev eighth : ℕ → Region
eighth i = Prepared (record { range = part 8; epoch = raised (descriptor 8 i).epoch 1 1; index = i }) 7

merge_none : (regions : List (ℕ × Region)) (i j : ℕ) → region regions 7 ≡ Live (descriptor 7 i) → region regions 8 ≡ eighth j → merge_fault regions 8 7 ≡ None
merge_none regions i j seven eight = rw (eight, merge_fault) (rw seven refl)

merged_head : (q : ℕ) (regions : List (ℕ × Region)) (i j : ℕ) → q < 2 ^ 20 → region regions 7 ≡ Live (descriptor 7 i) → region regions 8 ≡ eighth j → head_fault q regions (merged i) ≡ None
merged_head q regions i j room seven eight =
    let below : ltb q (2 ^ 20) ≡ true = lt-ltb q (2 ^ 20) room in
    rw below (rw seven (rw eight (rw (next_is i) (merge_none regions i j seven eight))))

module _ (n : ℕ) (es : List Entry) (b : IsBegun n es) (room : 2 * n + 10 ≤ 2 ^ 20) where
  abbrev s : Store
  s = store_of (pos 1) es

  abbrev p : ℕ
  p = length es

  seven : region s.regions 7 ≡ Live (descriptor 7 (last_index 7 n))
  seven = b.moment.regions 7 (omega arith) (omega arith)

  eight : region s.regions 8 ≡ Live (descriptor 8 (last_index 8 n))
  eight = b.moment.regions 8 (omega arith) (omega arith)

  pub prepared_fine : fault (log_of es) (prepared (last_index 8 n)) ≡ None
  prepared_fine =
      let below : ltb p (2 ^ 20) ≡ true = lt-ltb p (2 ^ 20) (omega (arith, room, b.count)) in
      rw below (rw eight (rw seven (rw (next_is (last_index 8 n)) refl)))

  abbrev s1 : Store
  s1 = after_entry (pos 1) p s (prepared (last_index 8 n))

  regions1 : s1.regions ≡ with_region 8 (eighth (last_index 8 n + 1)) s.regions
  regions1 = ap (λ st. regions_step st (prepared (last_index 8 n)) s.regions) eight

  eight1 : region s1.regions 8 ≡ eighth (last_index 8 n + 1)
  eight1 = ap (λ rs. region rs 8) regions1 ∙ region_here s.regions 8 (eighth (last_index 8 n + 1))

  seven1 : region s1.regions 7 ≡ Live (descriptor 7 (last_index 7 n))
  seven1 = ap (λ rs. region rs 7) regions1 ∙ region_there s.regions 8 (eighth (last_index 8 n + 1)) 7 (omega arith) ∙ seven

  merged_none : fault_at (pos 1) columns (suc p) s1 (merged (last_index 7 n)) ≡ None
  merged_none = rw (merged_head (suc p) s1.regions (last_index 7 n) (last_index 8 n + 1) (omega (arith, room, b.count)) seven1 eight1) refl

  pub merged_fine : fault (log_of (es ++ prepared (last_index 8 n) ∷ [])) (merged (last_index 7 n)) ≡ None
  merged_fine = second_is_fine es (prepared (last_index 8 n)) (merged (last_index 7 n)) merged_none

  pub prepared_writable : IsWritable (prepared (last_index 8 n))
  unfolding payload body_bytes
  prepared_writable = record {
    form = record { index = (omega arith, omega (arith, last_small 8 n, room)); body = tt; size = omega arith };
    numbers = record { region = omega arith; body = omega arith };
  }

  pub merged_writable : IsWritable (merged (last_index 7 n))
  unfolding payload body_bytes
  merged_writable = record {
    form = record { index = (omega arith, omega (arith, last_small 7 n, room)); body = tt; size = omega arith };
    numbers = record { region = omega arith; body = omega arith };
  }

  pub merge_lawful : IsLawful (log_of (es ++ prepared (last_index 8 n) ∷ merged (last_index 7 n) ∷ []))
  merge_lawful = two_lawful es (prepared (last_index 8 n)) (merged (last_index 7 n)) b.lawful prepared_writable merged_writable prepared_fine merged_none

pub generated_lawful : (n : ℕ) → 2 * n + 10 ≤ 2 ^ 20 → IsLawful (generated n)
generated_lawful n room = merge_lawful n (begun n) (is_begun n (omega (arith, room))) room
