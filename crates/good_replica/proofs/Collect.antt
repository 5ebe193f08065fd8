-- A prefix of the steps goes into the stable part, and versions that no read can miss are left out.
use Rattle.std.proofs.Common.{◌≡◌, ◌≢◌, ◌⊎◌, inl, inr, ◌∙◌, refl, sym, ap, subst, ℕ, ◌+◌, ◌<◌, ◌≤◌, max, Bool, true, false, true≢false, List, ◌++◌, Option, Some, None, length, arith}
use Rattle.std.specs.Option.{option_or}
use Rattle.std.specs.Prelude.{◌==◌}
use Rattle.std.proofs.Math.Seq.{drop-append_seam, drop-append-add}
use Rattle.column_block.specs.declared.cell.Version.{Version}
use Rattle.good_replica.specs.Changed.{IsCollected}
use Rattle.good_replica.specs.Changed.{seen as of_view, left as of_stable}
use Rattle.good_replica.specs.Front.{IsUncleared}
use Rattle.good_replica.specs.Good.{EachIsCommitted, EachIsThere, NewerFollows, IsGoodAt, IsGoodFor, IsPassed, IsLoneDelete}
use Rattle.good_replica.specs.Trail.{Trail, Step, present, after_versions, after_steps, after_step, write}
use Rattle.good_replica.specs.Versions.{Versions}
use Rattle.good_replica.proofs.Facts.{some_is}
use Rattle.good_replica.proofs.History.{IsHistory, newer_to}
use Rattle.good_replica.proofs.Kept.{shown_or_not}
use Rattle.good_replica.proofs.Steps.{clear, steps_clear, steps_over, steps_none, steps_pass, steps_shown}
use Rattle.committed_log.proofs.Ranks.{same_number}
use Rattle.committed_log.proofs.Closed.{same_is}
use Rattle.std.proofs.lemmas.List.Sums.{fold-append}

module _ {written : ℕ → Versions} {clears : ℕ → Bool} (history : IsHistory written clears) (f m safe at : ℕ) (stable new : List Version) (taken rest : List Step) (low : at ≤ safe) where
  abbrev old : Trail
  old = record { stable = stable; steps = taken ++ rest }

  abbrev collected : Trail
  collected = record { stable = new; steps = rest }

  -- what the collection sees, and what it leaves
  abbrev pub seen : Versions
  seen ts = after_steps ts (after_versions ts None stable) taken

  abbrev pub left : Versions
  left ts = after_versions ts None new

  old_is : (ts : ℕ) → present old ts ≡ after_steps ts (seen ts) rest
  old_is ts = fold-append (after_step ts) (after_versions ts None stable) taken rest

  module _ (is : IsCollected at seen left) where
    within : (ts : ℕ) (v : Version) → present collected ts ≡ Some v → present old ts ≡ Some v
    within ts v e = elim (is.kept ts) [
      | inl none ↦ old_is ts ∙ steps_shown ts (seen ts) v rest (ap (λ o. after_steps ts o rest) (sym none) ∙ e)
      | inr same ↦ old_is ts ∙ ap (λ o. after_steps ts o rest) (sym same) ∙ e
    ]

    module _ (good : IsGoodFor (written f) (written (max f m)) safe old) (un : IsUncleared clears f (max f m)) where
      -- an older version in the rest would have the delete beside it
      no_older : (ts : ℕ) (v : Version) → written f ts ≡ Some v → write ts rest ≡ false → (older : ℕ) → older < ts → left older ≡ None → present collected older ≡ None
      no_older ts v committed unwritten older less none = by (shown_or_not (present collected older))
        where
          shows : (y : Version) → present collected older ≡ Some y → after_steps older None rest ≡ Some y
          shows y e = ap (λ o. after_steps older o rest) (sym none) ∙ e

          writes_it : (y : Version) → present collected older ≡ Some y → (b : Bool) → write older rest ≡ b → write older rest ≡ true
          writes_it y e true w = w
          writes_it y e false w = cc (steps_pass older None y rest w (shows y e))

          impossible : (y : Version) → present collected older ≡ Some y → (o : Option Version) → written f older ≡ o → present collected older ≡ None
          impossible y e None before = let later : ts < older = newer_to history f (max f m) (omega arith) un ts older v y committed before (good.real older y (within older y e)) in absurd (omega (arith, less, later))
          impossible y e (Some x) before =
              let has = ap (write older) (drop-append_seam taken rest) ∙ writes_it y e (write older rest) refl in
              absurd (true≢false (sym (sym (ap (write ts) (drop-append_seam taken rest)) ∙ good.ordered (length taken) older ts x v less before committed has) ∙ unwritten))

          by : (present collected older ≡ None) ⊎ ((y : Version) × (present collected older ≡ Some y)) → present collected older ≡ None
          by (inl none) = none
          by (inr e) = impossible e.0 e.1 (written f older) refl

      -- where the rest doesn't write at the timestamp
      module _ (ts : ℕ) (v : Version) (committed : written f ts ≡ Some v) (unclear : clear rest ≡ false) (nothing : after_steps ts None rest ≡ None) (there : seen ts ≡ Some v) where
        shown_at : (d : ℕ) (w : Version) → seen d ≡ Some w → (x : Version) × (present old d ≡ Some x)
        shown_at d w e = elim (shown_or_not (after_steps d None rest)) [
          | inl none ↦ (w, old_is d ∙ steps_over d (seen d) rest unclear ∙ ap (λ o. option_or o (seen d)) none ∙ e)
          | inr x ↦ (x.0, old_is d ∙ steps_shown d (seen d) x.0 rest x.1)
        ]

        case_of : (left ts ≡ Some v) ⊎ (IsPassed seen at ts ⊎ IsLoneDelete left at ts v) → (present collected ts ≡ Some v) ⊎ (IsPassed (written (max f m)) safe ts ⊎ IsLoneDelete (present collected) safe ts v)
        case_of (inl stays) = inl (steps_over ts (left ts) rest unclear ∙ ap (λ o. option_or o (left ts)) nothing ∙ stays)
        case_of (inr (inl h)) = let x = shown_at h.0 h.1 h.4 in inr (inl (h.0, x.0, h.2, omega (arith, h.3, low), good.real h.0 x.0 x.1))
        case_of (inr (inr h)) = inr (inr (h.0, omega (arith, h.1, low), λ older less. no_older ts v committed (steps_none ts rest unclear nothing) older less (h.2 older less)))

      stays : (ts : ℕ) (v : Version) → written f ts ≡ Some v → present old ts ≡ Some v → (present collected ts ≡ Some v) ⊎ (IsPassed (written (max f m)) safe ts ⊎ IsLoneDelete (present collected) safe ts v)
      stays ts v committed there = by (shown_or_not (after_steps ts None rest))
        where
          there_is : after_steps ts (seen ts) rest ≡ Some v
          there_is = sym (old_is ts) ∙ there

          by_clear : after_steps ts None rest ≡ None → (b : Bool) → clear rest ≡ b → (present collected ts ≡ Some v) ⊎ (IsPassed (written (max f m)) safe ts ⊎ IsLoneDelete (present collected) safe ts v)
          by_clear none true c = cc (sym none ∙ sym (steps_clear ts (seen ts) rest c) ∙ there_is)
          by_clear none false c = let here = steps_pass ts (seen ts) v rest (steps_none ts rest c none) there_is in case_of ts v committed c none here (is.gone ts v here)

          by : (after_steps ts None rest ≡ None) ⊎ ((y : Version) × (after_steps ts None rest ≡ Some y)) → (present collected ts ≡ Some v) ⊎ (IsPassed (written (max f m)) safe ts ⊎ IsLoneDelete (present collected) safe ts v)
          by (inl none) = by_clear none (clear rest) refl
          by (inr y) = inl (steps_shown ts (left ts) y.0 rest y.1 ∙ sym (steps_shown ts (seen ts) y.0 rest y.1) ∙ there_is)

    pub collect : IsGoodAt written clears f m safe old → IsGoodAt written clears f m safe collected
    collect before un =
        let good = before un in
        let until : IsUncleared clears f (max f m) = λ p a b. un p a (omega (arith, a, b)) in
        record {
          real = λ ts v e. good.real ts v (within ts v e);
          kept = λ ts v e. elim (good.kept ts v e) [
            | inl there ↦ stays good until ts v e there
            | inr or ↦ inr (elim or [ inl h ↦ inl h | inr h ↦ inr (h.0, h.1, λ older less. fewer older (h.2 older less) (shown_or_not (present collected older))) ])
          ];
          ordered = λ k c d u v less a b has.
              let same = drop-append-add taken rest k in
              sym (ap (write d) same) ∙ good.ordered (length taken + k) c d u v less a b (ap (write c) same ∙ has);
        }
      where
        fewer : (older : ℕ) → present old older ≡ None → (present collected older ≡ None) ⊎ ((y : Version) × (present collected older ≡ Some y)) → present collected older ≡ None
        fewer older none (inl e) = e
        fewer older none (inr y) = cc (sym none ∙ within older y.0 y.1)

-- a prefix of the steps goes into the stable part, and nothing is left out
pub prefix : {written : ℕ → Versions} {clears : ℕ → Bool} (history : IsHistory written clears) (f m safe : ℕ) (stable new : List Version) (taken rest : List Step) → ((ts : ℕ) → after_versions ts None new ≡ after_steps ts (after_versions ts None stable) taken) → IsGoodAt written clears f m safe (record { stable = stable; steps = taken ++ rest }) → IsGoodAt written clears f m safe (record { stable = new; steps = rest })
prefix history f m safe stable new taken rest same = collect history f m safe safe stable new taken rest (omega arith) (record { kept = λ ts. inr (same ts); gone = λ ts v e. inl (same ts ∙ e) })

-- a delete with nothing older beside it is left out
pub lone_delete : {written : ℕ → Versions} {clears : ℕ → Bool} (history : IsHistory written clears) (f m safe : ℕ) (stable new : List Version) (taken rest : List Step) (ts : ℕ) (v : Version) →
    of_view stable taken ts ≡ Some v → v.gone ≡ true → ts ≤ safe → ((older : ℕ) → older < ts → of_view stable taken older ≡ None) →
    of_stable new ts ≡ None → ((d : ℕ) → d ≢ ts → of_stable new d ≡ of_view stable taken d) →
    IsGoodAt written clears f m safe (record { stable = stable; steps = taken ++ rest }) → IsGoodAt written clears f m safe (record { stable = new; steps = rest })
lone_delete history f m safe stable new taken rest ts v there gone low none out others good = collect history f m safe safe stable new taken rest (omega arith) (record { kept = kept; gone = dropped }) good
  where
    at_or : (d : ℕ) → (d ≡ ts) ⊎ (d ≢ ts)
    at_or d = by (d == ts) refl
      where
        by : (b : Bool) → (d == ts) ≡ b → (d ≡ ts) ⊎ (d ≢ ts)
        by true e = inl (same_number d ts e)
        by false e = inr (λ same. true≢false (sym (ap (λ n. n == ts) same ∙ same_is ts) ∙ e))

    kept : (d : ℕ) → (of_stable new d ≡ None) ⊎ (of_stable new d ≡ of_view stable taken d)
    kept d = elim (at_or d) [ inl e ↦ inl (ap (of_stable new) e ∙ out) | inr n ↦ inr (others d n) ]

    none_older : (older : ℕ) → older < ts → of_stable new older ≡ None
    none_older older less = others older (λ same. absurd (omega (arith, less, same))) ∙ none older less

    dropped : (d : ℕ) (w : Version) → of_view stable taken d ≡ Some w → (of_stable new d ≡ Some w) ⊎ (IsPassed (of_view stable taken) safe d ⊎ IsLoneDelete (of_stable new) safe d w)
    dropped d w e = elim (at_or d) [
      | inl same ↦ inr (inr (ap (λ (x : Version). x.gone) (some_is w v (sym e ∙ ap (of_view stable taken) same ∙ there)) ∙ gone, omega (arith, same, low), λ older less. none_older older (omega (arith, less, same))))
      | inr n ↦ inl (others d n ∙ e)
    ]

-- by the parts of goodness, where nothing is between front and mark
pub collect_there : {written : ℕ → Versions} {clears : ℕ → Bool} (history : IsHistory written clears) (f safe at : ℕ) (stable new : List Version) (taken rest : List Step) → at ≤ safe → IsCollected at (of_view stable taken) (of_stable new) →
    EachIsCommitted (written f) (record { stable = stable; steps = taken ++ rest }) → EachIsThere (written f) (written f) safe (record { stable = stable; steps = taken ++ rest }) → NewerFollows (written f) (record { stable = stable; steps = taken ++ rest }) →
    EachIsThere (written f) (written f) safe (record { stable = new; steps = rest })
collect_there {written} {clears} history f safe at stable new taken rest low is real kept ordered =
    let same : f ≡ max f f = omega arith in
    let good : IsGoodFor (written f) (written f) safe (record { stable = stable; steps = taken ++ rest }) = record { real = real; kept = kept; ordered = ordered } in
    let before : IsGoodAt written clears f f safe (record { stable = stable; steps = taken ++ rest }) = λ un. subst (λ n. IsGoodFor (written f) (written n) safe (record { stable = stable; steps = taken ++ rest })) same good in
    let after = collect history f f safe at stable new taken rest low is before (λ p a b. absurd (omega (arith, a, b))) in
    (subst (λ n. IsGoodFor (written f) (written n) safe (record { stable = new; steps = rest })) (sym same) after).kept
