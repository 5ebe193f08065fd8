-- The generated log as it is made, entry by entry.
use Rattle.std.proofs.Common.{◌≡◌, ◌∙◌, refl, sym, ap, subst, ℕ, ◌+◌, ◌^◌, ◌<◌, ◌≤◌, [], ◌∷◌, ◌++◌, None, take, arith, add-one}
use Rattle.std.specs.Prelude.{unwrap_or}
use Rattle.log_codec.specs.declared.entry.Entry.{Entry}
use Rattle.committed_log.specs.Lawful.{IsWritable, fault, pushed}
use Rattle.committed_log.specs.Log.{Log, end}
use Rattle.committed_log.specs.Regions.{region, index_of}
use Rattle.generator.specs.Generated.{random, region_of, last_index, split, opening, begun, prewritten, committed, prepared, merged, log_of, generated}
use Rattle.generator.proofs.MomentSteps.{last_small}
use Rattle.generator.proofs.GeneratedLogs.{each_of_eight, IsBegun, is_begun, two, prewritten_fine, committed_fine, prewritten_writable, committed_writable, prepared_fine, merged_fine, prepared_writable, merged_writable}

-- ---- the splits

abbrev Splits : ℕ → Type 0
Splits r = (fault (log_of (take r opening)) (split r) ≡ None) × (pushed (log_of (take r opening)) (split r) ≡ log_of (take (r + 1) opening))

-- the split of each of the first seven regions
pub splits : (r : ℕ) → 1 ≤ r → r < 8 → Splits r
splits r low high = each_of_eight (λ r. r < 8 → Splits r) (λ _. (refl, refl)) (λ _. (refl, refl)) (λ _. (refl, refl)) (λ _. (refl, refl)) (λ _. (refl, refl)) (λ _. (refl, refl)) (λ _. (refl, refl)) (λ no. absurd (omega (arith, no))) r low (omega (arith, high)) high

-- ---- the last index of a region

module _ (n : ℕ) (logs : Log) (is : logs ≡ log_of (begun n)) (room : n ≤ 524283) where
  is_there : IsBegun n (begun n)
  is_there = is_begun n (omega (arith, room))

  pub last_is : (r : ℕ) → 1 ≤ r → r ≤ 8 → unwrap_or (index_of (region (end logs).regions r)) 0 ≡ last_index r n
  last_is r low high = ap (λ (log : Log). unwrap_or (index_of (region (end log).regions r)) 0) is ∙ ap (λ st. unwrap_or (index_of st) 0) (is_there.moment.regions r low high)

  pub last_low : (r last : ℕ) → last ≡ last_index r n → last < 2 ^ 40
  last_low r last same = omega (arith, same, last_small r n, room)

  -- ---- the merge

  module _ (first : Entry) (is_first : first ≡ prepared (last_index 8 n)) where
    pub first_fine : IsWritable first × (fault logs first ≡ None)
    first_fine = (
      subst IsWritable (sym is_first) (prepared_writable n (begun n) is_there (omega (arith, room))),
      (λ i. fault (is i) (is_first i)) ∙ prepared_fine n (begun n) is_there (omega (arith, room)),
    )

    module _ (more : Log) (is_more : more ≡ pushed logs first) (second : Entry) (is_second : second ≡ merged (last_index 7 n)) where
      pub second_fine : IsWritable second × (fault more second ≡ None)
      second_fine = (
        subst IsWritable (sym is_second) (merged_writable n (begun n) is_there (omega (arith, room))),
        (λ i. fault ((is_more ∙ (λ j. pushed (is j) (is_first j))) i) (is_second i)) ∙ merged_fine n (begun n) is_there (omega (arith, room)),
      )

      pub made : (all : Log) → all ≡ pushed more second → all ≡ generated n
      made all is_all =
          is_all ∙ (λ i. pushed ((is_more ∙ (λ j. pushed (is j) (is_first j))) i) (is_second i))
          ∙ ap log_of (two (begun n) (prepared (last_index 8 n)) (merged (last_index 7 n)))

-- ---- a transaction

module _ (n x : ℕ) (logs : Log) (is : logs ≡ log_of (begun n)) (room : n < 524283) where
  abbrev last : ℕ
  last = last_index (region_of x) n

  begun_there : IsBegun n (begun n)
  begun_there = is_begun n (omega (arith, room))

  module _ (first : Entry) (is_first : first ≡ prewritten x n last) where
    pub prewrite_fine : IsWritable first × (fault logs first ≡ None)
    prewrite_fine = (
      subst IsWritable (sym is_first) (prewritten_writable n (begun n) begun_there (omega (arith, room)) x),
      (λ i. fault (is i) (is_first i)) ∙ prewritten_fine n (begun n) begun_there (omega (arith, room)) x,
    )

    module _ (more : Log) (is_more : more ≡ pushed logs first) (second : Entry) (is_second : second ≡ committed x n last) where
      pub commit_fine : IsWritable second × (fault more second ≡ None)
      commit_fine = (
        subst IsWritable (sym is_second) (committed_writable n (begun n) begun_there (omega (arith, room)) x),
        (λ i. fault ((is_more ∙ (λ j. pushed (is j) (is_first j))) i) (is_second i)) ∙ committed_fine n (begun n) begun_there (omega (arith, room)) x,
      )

      pub grown : (all : Log) → all ≡ pushed more second → x ≡ random (n + 1) → all ≡ log_of (begun (n + 1))
      unfolding begun
      grown all is_all random_is =
          is_all ∙ (λ i. pushed ((is_more ∙ (λ j. pushed (is j) (is_first j))) i) (is_second i))
          ∙ ap log_of (two (begun n) (prewritten x n last) (committed x n last))
          ∙ ap (λ y. log_of (begun n ++ prewritten y n (last_index (region_of y) n) ∷ committed y n (last_index (region_of y) n) ∷ [])) (random_is ∙ ap random (add-one n))
          ∙ ap (λ m. log_of (begun m)) (sym (add-one n))
