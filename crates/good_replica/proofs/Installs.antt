-- Flush, compaction, delta merge, split and merge keep the segments good.
use Rattle.std.proofs.Common.{◌≡◌, ◌⊎◌, inl, inr, ◌∙◌, refl, sym, ap, subst, ℕ, ◌<◌, ◌≤◌, ℤ, Bool, true, false, true≢false, cond, ◌||◌, List, [], ◌∷◌, ◌++◌, Option, Some, None, map, arith}
use Rattle.std.specs.List.{cons_option}
use Rattle.std.specs.Option.{option_or}
use Rattle.std.proofs.lemmas.List.Elements.{filter_map-append}
use Rattle.flash_types.specs.Ranges.{holds}
use Rattle.flash_types.specs.declared.range.HandleRange.{HandleRange}
use Rattle.committed_log.specs.Log.{Log}
use Rattle.committed_log.specs.Lawful.{IsLawful}
use Rattle.column_block.specs.declared.cell.Version.{Version}
use Rattle.committed_log.specs.ReadIndex.{clears_at}
use Rattle.good_replica.specs.Changed.{of_parts, view, SaysNothing, IsCollected}
use Rattle.good_replica.specs.Effect.{clipped}
use Rattle.good_replica.specs.Good.{IsGoodOn}
use Rattle.good_replica.specs.Trail.{DeltaFile, Puts, Step, trail, steps_on, step_on, versions_on, wrote_unless_empty, after_versions, after_steps, write}
use Rattle.good_replica.specs.Versions.{written}
use Rattle.good_replica.proofs.Commits.{history}
use Rattle.good_replica.proofs.Kept.{repack}
use Rattle.good_replica.proofs.Collect.{collect, prefix}
use Rattle.good_replica.proofs.Steps.{clear, steps_over, steps_none, steps_pass}
use Rattle.good_replica.proofs.Segments.{run_to_one, steps_of, steps_clipped, steps_left, steps_nothing}

parts : (h : ℤ) (range : HandleRange) (stable : List Version) (taken rest : List DeltaFile) → trail h (of_parts range stable (taken ++ rest)) ≡ record { stable = versions_on h stable; steps = steps_on h taken ++ steps_on h rest }
parts h range stable taken rest = ap (λ ss. record { stable = versions_on h stable; steps = ss }) (filter_map-append (step_on h) taken rest)

module _ (log : Log) (lawful : IsLawful log) (h : ℤ) (f m safe : ℕ) where
  -- a delta merge: the files of the view give way to a stable part that was collected at a safe point
  pub delta_merged : (range : HandleRange) (stable new : List Version) (taken rest : List DeltaFile) (at : ℕ) → at ≤ safe →
      IsCollected at (view h stable taken) (λ ts. after_versions ts None (versions_on h new)) →
      IsGoodOn log h f m safe (trail h (of_parts range stable (taken ++ rest))) → IsGoodOn log h f m safe (trail h (of_parts range new rest))
  delta_merged range stable new taken rest at low is good = collect (history log lawful h) f m safe at (versions_on h stable) (versions_on h new) (steps_on h taken) (steps_on h rest) low is (subst (IsGoodOn log h f m safe) (parts h range stable taken rest) good)

  -- the files of the view give way to a stable part that shows the same
  pub into_stable : (range : HandleRange) (stable new : List Version) (taken rest : List DeltaFile) → ((ts : ℕ) → after_versions ts None (versions_on h new) ≡ view h stable taken ts) →
      IsGoodOn log h f m safe (trail h (of_parts range stable (taken ++ rest))) → IsGoodOn log h f m safe (trail h (of_parts range new rest))
  into_stable range stable new taken rest same good = prefix (history log lawful h) f m safe (versions_on h stable) (versions_on h new) (steps_on h taken) (steps_on h rest) same (subst (IsGoodOn log h f m safe) (parts h range stable taken rest) good)

  -- a half of a split, for its handles
  pub split_half : (range half : HandleRange) (stable new : List Version) (taken rest : List DeltaFile) → holds half h ≡ true → ((ts : ℕ) → after_versions ts None (versions_on h new) ≡ view h stable taken ts) →
      IsGoodOn log h f m safe (trail h (of_parts range stable (taken ++ rest))) → IsGoodOn log h f m safe (trail h (of_parts half new (map (clipped half) rest)))
  split_half range half stable new taken rest within same good =
      subst (λ ss. IsGoodOn log h f m safe (record { stable = versions_on h new; steps = ss })) (sym (steps_clipped half h rest within)) (into_stable range stable new taken rest same good)

  -- two segments as one, for a handle of the first
  pub merged_left : (range both : HandleRange) (stable new : List Version) (taken rest others : List DeltaFile) → SaysNothing h others → ((ts : ℕ) → after_versions ts None (versions_on h new) ≡ view h stable taken ts) →
      IsGoodOn log h f m safe (trail h (of_parts range stable (taken ++ rest))) → IsGoodOn log h f m safe (trail h (of_parts both new (rest ++ others)))
  merged_left range both stable new taken rest others none same good =
      subst (λ ss. IsGoodOn log h f m safe (record { stable = versions_on h new; steps = ss })) (sym (steps_left h rest others none)) (into_stable range stable new taken rest same good)

  -- and of the second
  pub merged_right : (range both : HandleRange) (stable new : List Version) (taken rest others : List DeltaFile) → SaysNothing h others → ((ts : ℕ) → after_versions ts None (versions_on h new) ≡ view h stable taken ts) →
      IsGoodOn log h f m safe (trail h (of_parts range stable (taken ++ rest))) → IsGoodOn log h f m safe (trail h (of_parts both new (others ++ rest)))
  merged_right range both stable new taken rest others none same good =
      subst (λ ss. IsGoodOn log h f m safe (record { stable = versions_on h new; steps = ss })) (sym (filter_map-append (step_on h) others rest ∙ ap (λ ss. ss ++ steps_on h rest) (steps_nothing h others none))) (into_stable range stable new taken rest same good)

-- ---- a run of blocks as one file

module _ (log : Log) (h : ℤ) (f m safe : ℕ) where
  no_clear : (blocks : List (List Version)) → clear (steps_on h (map Puts blocks)) ≡ false
  no_clear [] = refl
  no_clear (b ∷ bs) = by (versions_on h b) (no_clear bs)
    where
      by : (vs : List Version) → clear (steps_on h (map Puts bs)) ≡ false → clear (cons_option (wrote_unless_empty vs) (steps_on h (map Puts bs))) ≡ false
      by [] e = e
      by (v ∷ vs) e = e

  writes_if : (ts : ℕ) (ss : List Step) → clear ss ≡ false → (o : Option Version) → after_steps ts None ss ≡ o → write ts ss ≡ Rattle.std.proofs.Common.is_some o
  writes_if ts ss c None is = steps_none ts ss c is
  writes_if ts ss c (Some v) is = by (write ts ss) refl
    where
      by : (b : Bool) → write ts ss ≡ b → write ts ss ≡ true
      by true e = e
      by false e = cc (steps_pass ts None v ss e is)

  one_of : (vs : List Version) → steps_of (wrote_unless_empty vs) ≡ cons_option (wrote_unless_empty vs) []
  one_of [] = refl
  one_of (v ∷ vs) = refl

  shown_one : (ts : ℕ) (vs : List Version) → after_steps ts None (steps_of (wrote_unless_empty vs)) ≡ after_versions ts None vs
  shown_one ts [] = refl
  shown_one ts (v ∷ vs) = refl

  clear_one : (vs : List Version) → clear (steps_of (wrote_unless_empty vs)) ≡ false
  clear_one [] = refl
  clear_one (v ∷ vs) = refl

  -- a flush or a compaction: a run of blocks gives way to one that shows the same
  pub run_of_blocks : (range : HandleRange) (stable one : List Version) (before after : List DeltaFile) (blocks : List (List Version)) →
      ((ts : ℕ) → after_versions ts None (versions_on h one) ≡ after_steps ts None (steps_on h (map Puts blocks))) →
      IsGoodOn log h f m safe (trail h (of_parts range stable (before ++ (map Puts blocks ++ after)))) → IsGoodOn log h f m safe (trail h (of_parts range stable (before ++ (Puts one ∷ after))))
  run_of_blocks range stable one before after blocks same good =
      subst (IsGoodOn log h f m safe) (sym new_is) (repack (written log h) (clears_at log h) f m safe _ _ (run_to_one run single writes_same (steps_on h after) (versions_on h stable) (steps_on h before) shows_same) (subst (IsGoodOn log h f m safe) old_is good))
    where
      run : List Step
      run = steps_on h (map Puts blocks)

      single : Option Step
      single = wrote_unless_empty (versions_on h one)

      shown : (ts : ℕ) → after_steps ts None (steps_of (wrote_unless_empty (versions_on h one))) ≡ after_steps ts None (steps_on h (map Puts blocks))
      shown ts = shown_one ts (versions_on h one) ∙ same ts

      writes_same : (ts : ℕ) → write ts (steps_of (wrote_unless_empty (versions_on h one))) ≡ write ts (steps_on h (map Puts blocks))
      writes_same ts = writes_if ts (steps_of (wrote_unless_empty (versions_on h one))) (clear_one (versions_on h one)) (after_steps ts None (steps_on h (map Puts blocks))) (shown ts) ∙ sym (writes_if ts (steps_on h (map Puts blocks)) (no_clear blocks) (after_steps ts None (steps_on h (map Puts blocks))) refl)

      shows_same : (ts : ℕ) (o : Option Version) → after_steps ts o (steps_of (wrote_unless_empty (versions_on h one))) ≡ after_steps ts o (steps_on h (map Puts blocks))
      shows_same ts o = steps_over ts o (steps_of (wrote_unless_empty (versions_on h one))) (clear_one (versions_on h one)) ∙ ap (λ x. option_or x o) (shown ts) ∙ sym (steps_over ts o (steps_on h (map Puts blocks)) (no_clear blocks))

      cons_of : (o : Option Step) (ss : List Step) → cons_option o ss ≡ steps_of o ++ ss
      cons_of None ss = refl
      cons_of (Some s) ss = refl

      old_is : trail h (of_parts range stable (before ++ (map Puts blocks ++ after))) ≡ record { stable = versions_on h stable; steps = steps_on h before ++ (steps_on h (map Puts blocks) ++ steps_on h after) }
      old_is = ap (λ ss. record { stable = versions_on h stable; steps = ss }) (filter_map-append (step_on h) before (map Puts blocks ++ after) ∙ ap (λ ss. steps_on h before ++ ss) (filter_map-append (step_on h) (map Puts blocks) after))

      new_is : trail h (of_parts range stable (before ++ (Puts one ∷ after))) ≡ record { stable = versions_on h stable; steps = steps_on h before ++ (steps_of (wrote_unless_empty (versions_on h one)) ++ steps_on h after) }
      new_is = ap (λ ss. record { stable = versions_on h stable; steps = ss }) (filter_map-append (step_on h) before (Puts one ∷ after) ∙ ap (λ ss. steps_on h before ++ ss) (cons_of (wrote_unless_empty (versions_on h one)) (steps_on h after)))
