-- What an entry that is applied adds to a handle's trail.
use Rattle.std.proofs.Common.{◌≡◌, ◌⊎◌, inl, inr, ◌∙◌, refl, sym, ap, ℕ, zero, suc, ◌<◌, ◌≤◌, max, Bool, true, false, true≢false, ◌||◌, ◌&&◌, List, [], ◌∷◌, ◌++◌, Some, None, drop, arith}
use Rattle.std.specs.Option.{option_or}
use Rattle.std.proofs.lemmas.List.Folds.{list_any-append}
use Rattle.column_block.specs.declared.cell.Version.{Version}
use Rattle.good_replica.specs.Front.{IsUncleared}
use Rattle.good_replica.specs.Good.{IsGoodAt, IsGoodFor, IsPassed, IsLoneDelete}
use Rattle.good_replica.specs.Trail.{Trail, Step, Cleared, Wrote, present, after_versions, after_step, writes, write}
use Rattle.good_replica.specs.Versions.{Versions}
use Rattle.good_replica.proofs.History.{IsHistory, grows_to}
use Rattle.good_replica.proofs.Kept.{shown_or_not, passed_more}
use Rattle.good_replica.proofs.Steps.{versions_over, versions_pass, versions_none}
use Rattle.std.proofs.lemmas.List.Sums.{fold-append}

abbrev pub pushed : Trail → Step → Trail
pushed t s = record { stable = t.stable; steps = t.steps ++ s ∷ [] }

pub present_pushed : (t : Trail) (s : Step) (ts : ℕ) → present (pushed t s) ts ≡ after_step ts (present t ts) s
present_pushed t s ts = fold-append (after_step ts) (after_versions ts None t.stable) t.steps (s ∷ [])

-- whether the last of steps to come stands behind the first k
abbrev pub reaches : ℕ → List Step → Bool
reaches zero ss = true
reaches (suc k) [] = false
reaches (suc k) (s ∷ ss) = reaches k ss

or_false_end : (a : Bool) → (a || false) ≡ a
or_false_end true = refl
or_false_end false = refl

pub write_pushed : (ts k : ℕ) (ss : List Step) (s : Step) → write ts (drop k (ss ++ s ∷ [])) ≡ (write ts (drop k ss) || (reaches k ss && writes ts s))
write_pushed ts zero ss s = list_any-append (writes ts) ss (s ∷ []) ∙ ap (λ b. write ts ss || b) (or_false_end (writes ts s))
write_pushed ts (suc k) [] s = none k
  where
    none : (k : ℕ) → write ts (drop k []) ≡ (false || (false && writes ts s))
    none zero = refl
    none (suc k) = refl
write_pushed ts (suc k) (x ∷ ss) s = write_pushed ts k ss s

is_written : (ts : ℕ) (v : Version) (vs : List Version) → after_versions ts None vs ≡ Some v → writes ts (Wrote vs) ≡ true
is_written ts v vs e = by (writes ts (Wrote vs)) refl
  where
    by : (b : Bool) → writes ts (Wrote vs) ≡ b → writes ts (Wrote vs) ≡ true
    by true is = is
    by false is = cc (sym (versions_pass ts None vs is) ∙ e)

reaches_written : (ts k : ℕ) (ss : List Step) → write ts (drop k ss) ≡ true → reaches k ss ≡ true
reaches_written ts zero ss e = refl
reaches_written ts (suc k) [] e = absurd (true≢false (sym e ∙ none k))
  where
    none : (k : ℕ) → write ts (drop (suc k) []) ≡ false
    none k = refl
reaches_written ts (suc k) (s ∷ ss) e = reaches_written ts k ss e

either : (a b : Bool) → (a || b) ≡ true → (a ≡ true) ⊎ (b ≡ true)
either true b e = inl refl
either false b e = inr e

and_first : (a b : Bool) → (a && b) ≡ true → a ≡ true
and_first true b e = refl
and_first false b e = e

-- where an earlier or the last step writes c behind the first k, the last step stands there
pub last_stands : (c d k : ℕ) (ss : List Step) (s : Step) → writes d s ≡ true → write c (drop k (ss ++ s ∷ [])) ≡ true → write d (drop k (ss ++ s ∷ [])) ≡ true
last_stands c d k ss s is has = write_pushed d k ss s ∙ ap (λ b. write d (drop k ss) || (b && writes d s)) here ∙ ap (λ b. write d (drop k ss) || b) is ∙ or_true (write d (drop k ss))
  where
    or_true : (a : Bool) → (a || true) ≡ true
    or_true true = refl
    or_true false = refl

    here : reaches k ss ≡ true
    here = elim (either (write c (drop k ss)) (reaches k ss && writes c s) (sym (write_pushed c k ss s) ∙ has)) [ inl e ↦ reaches_written c k ss e | inr e ↦ and_first (reaches k ss) (writes c s) e ]

-- where the last step doesn't write c, an earlier one does
pub earlier_writes : (c k : ℕ) (ss : List Step) (s : Step) → writes c s ≡ false → write c (drop k (ss ++ s ∷ [])) ≡ true → write c (drop k ss) ≡ true
earlier_writes c k ss s is has = elim (either (write c (drop k ss)) (reaches k ss && writes c s) (sym (write_pushed c k ss s) ∙ has)) [ inl e ↦ e | inr e ↦ absurd (true≢false (sym e ∙ ap (λ b. reaches k ss && b) is ∙ and_false (reaches k ss))) ]
  where
    and_false : (a : Bool) → (a && false) ≡ false
    and_false true = refl
    and_false false = refl

or_first : (a b : Bool) → a ≡ true → (a || b) ≡ true
or_first true b e = refl
or_first false b e = absurd (true≢false (sym e))

lt_or_le : (q p : ℕ) → (q < suc p) ⊎ (suc p ≤ q)
lt_or_le q p = grind arith

module _ {written : ℕ → Versions} {clears : ℕ → Bool} (history : IsHistory written clears) (p m safe : ℕ) (t : Trail) where
  module _ (f : ℕ) (le : f ≤ p) (before : IsUncleared clears f (suc p)) (un : IsUncleared clears (suc p) m) where
    uncleared : (n : ℕ) → (n ≤ suc p) ⊎ (n ≤ m) → IsUncleared clears f n
    uncleared n low q a b = elim (lt_or_le q p) [ inl less ↦ before q a less | inr more ↦ elim low [ inl h ↦ absurd (omega (arith, h, b, more)) | inr h ↦ un q more (omega (arith, h, b)) ] ]

    max_or : (a b : ℕ) → (max a b ≡ a) ⊎ (max a b ≡ b)
    max_or a b = grind arith

    grown : (ts : ℕ) (v : Version) → written (max f m) ts ≡ Some v → written (max (suc p) m) ts ≡ Some v
    grown = grows_to history (max f m) (max (suc p) m) (omega (arith, le)) (λ q a b. uncleared (max (suc p) m) (elim (max_or (suc p) m) [ inl e ↦ inl (omega (arith, e)) | inr e ↦ inr (omega (arith, e)) ]) q (omega (arith, a)) b)

  -- an entry that leaves the versions of the handle as they are
  pub apply_still : (f : ℕ) → f ≤ p → IsUncleared clears f (suc p) → ((ts : ℕ) → written (suc p) ts ≡ written f ts) → IsGoodAt written clears f m safe t → IsGoodAt written clears (suc p) m safe t
  apply_still f le before same old un =
      let good = old (uncleared f le before un m (inr (omega arith))) in
      let more = grown f le before un in
      record {
        real = λ ts v e. more ts v (good.real ts v e);
        kept = λ ts v e. elim (good.kept ts v (sym (same ts) ∙ e)) [
          | inl there ↦ inl there
          | inr or ↦ inr (elim or [ inl h ↦ inl (passed_more (written (max f m)) (written (max (suc p) m)) more safe ts h) | inr h ↦ inr h ])
        ];
        ordered = λ k c d u v less a b has. good.ordered k c d u v less (sym (same c) ∙ a) (sym (same d) ∙ b) has;
      }

  -- an entry that adds versions, each newer than what was there
  module _ (f : ℕ) (le : f ≤ p) (before : IsUncleared clears f (suc p)) (news : List Version)
      (added : (ts : ℕ) → written (suc p) ts ≡ option_or (after_versions ts None news) (written f ts))
      (fresh : (c d : ℕ) (u v : Version) → written f c ≡ Some u → after_versions d None news ≡ Some v → c < d) where
    abbrev longer : Trail
    longer = pushed t (Wrote news)

    shows : (ts : ℕ) → present longer ts ≡ option_or (after_versions ts None news) (present t ts)
    shows ts = present_pushed t (Wrote news) ts ∙ versions_over ts (present t ts) news

    module _ (un : IsUncleared clears (suc p) m) (good : IsGoodFor (written f) (written (max f m)) safe t) where
      to_end : (ts : ℕ) (v : Version) → written (suc p) ts ≡ Some v → written (max (suc p) m) ts ≡ Some v
      to_end = grows_to history (suc p) (max (suc p) m) (omega arith) (λ q a b. un q a (omega (arith, a, b)))

      new_is : (ts : ℕ) (v : Version) → after_versions ts None news ≡ Some v → written (suc p) ts ≡ Some v
      new_is ts v e = added ts ∙ ap (λ o. option_or o (written f ts)) e

      real_at : (ts : ℕ) (v : Version) → present longer ts ≡ Some v → written (max (suc p) m) ts ≡ Some v
      real_at ts v e = by (shown_or_not (after_versions ts None news))
        where
          by : (after_versions ts None news ≡ None) ⊎ ((w : Version) × (after_versions ts None news ≡ Some w)) → written (max (suc p) m) ts ≡ Some v
          by (inl none) = grown f le before un ts v (good.real ts v (ap (λ o. option_or o (present t ts)) (sym none) ∙ sym (shows ts) ∙ e))
          by (inr w) = to_end ts v (new_is ts v (w.1 ∙ ap (λ o. option_or o (present t ts)) (sym w.1) ∙ sym (shows ts) ∙ e))

      old_at : (ts : ℕ) (v : Version) → after_versions ts None news ≡ None → written (suc p) ts ≡ Some v → written f ts ≡ Some v
      old_at ts v none e = ap (λ o. option_or o (written f ts)) (sym none) ∙ sym (added ts) ∙ e

      kept_old : (ts : ℕ) (v : Version) → after_versions ts None news ≡ None → written f ts ≡ Some v → (present longer ts ≡ Some v) ⊎ (IsPassed (written (max (suc p) m)) safe ts ⊎ IsLoneDelete (present longer) safe ts v)
      kept_old ts v none e = by (good.kept ts v e)
        where
          older_none : (older : ℕ) → older < ts → present t older ≡ None → (after_versions older None news ≡ None) ⊎ ((w : Version) × (after_versions older None news ≡ Some w)) → present longer older ≡ None
          older_none older less gone (inl nothing) = shows older ∙ ap (λ o. option_or o (present t older)) nothing ∙ gone
          older_none older less gone (inr w) = let later = fresh ts older v w.0 e w.1 in absurd (omega (arith, less, later))

          by : (present t ts ≡ Some v) ⊎ (IsPassed (written (max f m)) safe ts ⊎ IsLoneDelete (present t) safe ts v) → (present longer ts ≡ Some v) ⊎ (IsPassed (written (max (suc p) m)) safe ts ⊎ IsLoneDelete (present longer) safe ts v)
          by (inl there) = inl (shows ts ∙ ap (λ o. option_or o (present t ts)) none ∙ there)
          by (inr (inl h)) = inr (inl (passed_more (written (max f m)) (written (max (suc p) m)) (grown f le before un) safe ts h))
          by (inr (inr h)) = inr (inr (h.0, h.1, λ older less. older_none older less (h.2 older less) (shown_or_not (after_versions older None news))))

      kept_at : (ts : ℕ) (v : Version) → written (suc p) ts ≡ Some v → (present longer ts ≡ Some v) ⊎ (IsPassed (written (max (suc p) m)) safe ts ⊎ IsLoneDelete (present longer) safe ts v)
      kept_at ts v e = elim (shown_or_not (after_versions ts None news)) [
        | inl none ↦ kept_old ts v none (old_at ts v none e)
        | inr w ↦ inl (shows ts ∙ ap (λ o. option_or o (present t ts)) w.1 ∙ sym (new_is ts w.0 w.1) ∙ e)
      ]

      ordered_at : (k c d : ℕ) (u v : Version) → c < d → written (suc p) c ≡ Some u → written (suc p) d ≡ Some v → write c (drop k longer.steps) ≡ true → write d (drop k longer.steps) ≡ true
      ordered_at k c d u v less a b has = by (shown_or_not (after_versions d None news))
        where
          c_old : after_versions d None news ≡ None → (after_versions c None news ≡ None) ⊎ ((w : Version) × (after_versions c None news ≡ Some w)) → write d (drop k longer.steps) ≡ true
          c_old none (inl nothing) =
              let early = earlier_writes c k t.steps (Wrote news) (versions_none c news nothing) has in
              write_pushed d k t.steps (Wrote news) ∙ or_first (write d (drop k t.steps)) _ (good.ordered k c d u v less (old_at c u nothing a) (old_at d v none b) early)
          c_old none (inr w) = let later = fresh d c v w.0 (old_at d v none b) w.1 in absurd (omega (arith, less, later))

          by : (after_versions d None news ≡ None) ⊎ ((w : Version) × (after_versions d None news ≡ Some w)) → write d (drop k longer.steps) ≡ true
          by (inl none) = c_old none (shown_or_not (after_versions c None news))
          by (inr w) = last_stands c d k t.steps (Wrote news) (is_written d w.0 news w.1) has

    pub apply_write : IsGoodAt written clears f m safe t → IsGoodAt written clears (suc p) m safe longer
    apply_write old un =
        let good = old (uncleared f le before un m (inr (omega arith))) in
        record { real = real_at un good; kept = kept_at un good; ordered = ordered_at un good }

  -- an entry that clears the handle
  pub apply_clear : ((ts : ℕ) → written (suc p) ts ≡ None) → IsGoodAt written clears (suc p) m safe (pushed t Cleared)
  apply_clear none un = record {
    real = λ ts v e. cc (sym (present_pushed t Cleared ts) ∙ e);
    kept = λ ts v e. cc (sym (none ts) ∙ e);
    ordered = λ k c d u v less a b has. cc (sym (none c) ∙ a);
  }

  -- an entry that clears the handle, and then adds versions
  pub apply_install : (news : List Version) → ((ts : ℕ) → written (suc p) ts ≡ after_versions ts None news) → IsGoodAt written clears (suc p) m safe (pushed (pushed t Cleared) (Wrote news))
  apply_install news is un =
      let shows : (ts : ℕ) → present (pushed (pushed t Cleared) (Wrote news)) ts ≡ after_versions ts None news = λ ts. present_pushed (pushed t Cleared) (Wrote news) ts ∙ ap (λ o. after_versions ts o news) (present_pushed t Cleared ts) in
      record {
        real = λ ts v e. grows_to history (suc p) (max (suc p) m) (omega arith) (λ q a b. un q a (omega (arith, a, b))) ts v (is ts ∙ sym (shows ts) ∙ e);
        kept = λ ts v e. inl (shows ts ∙ sym (is ts) ∙ e);
        ordered = λ k c d u v less a b has. last_stands c d k (pushed t Cleared).steps (Wrote news) (is_written d v news (sym (is d) ∙ b)) has;
      }
