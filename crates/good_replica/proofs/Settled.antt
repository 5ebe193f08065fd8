-- What a good handle shows, where nothing below the mark is left to apply to it.
use Rattle.std.proofs.Common.{◌≡◌, ◌⊎◌, inl, inr, ◌∙◌, refl, sym, ap, ℕ, ◌<◌, ◌≤◌, max, Bool, true, true≢false, List, Option, Some, None, arith}
use Rattle.column_block.specs.declared.cell.Cell.{Cell}
use Rattle.column_block.specs.declared.cell.Version.{Version}
use Rattle.good_replica.specs.Front.{IsUncleared}
use Rattle.good_replica.specs.Good.{IsGoodAt, IsGoodFor, IsPassed, IsLoneDelete}
use Rattle.good_replica.specs.Shows.{IsNewestAt, Shows}
use Rattle.good_replica.specs.Trail.{Trail, present}
use Rattle.good_replica.specs.Versions.{Versions}
use Rattle.good_replica.proofs.Kept.{shown_or_not}

-- at most one newest version
same_newest : (all : Versions) (ts b c : ℕ) (u v : Version) → IsNewestAt all ts b u → IsNewestAt all ts c v → u ≡ v
same_newest all ts b c u v x y =
    let up : b ≤ c = y.newest b u x.here x.below in
    let down : c ≤ b = x.newest c v y.here y.below in
    let same : b ≡ c = omega (arith, up, down) in
    some (sym x.here ∙ ap all same ∙ y.here)
  where
    some : Some u ≡ Some v → u ≡ v
    some e = cc

-- versions show one thing
pub shows_one : (all : Versions) (ts : ℕ) (a b : Option (List Cell)) → Shows all ts a → Shows all ts b → a ≡ b
shows_one all ts None None x y = refl
shows_one all ts (Some a) (Some b) x y = let same = same_newest all ts x.0 y.0 x.1 y.1 x.2 y.2 in ap (λ c. Some c) (sym x.4 ∙ ap (λ (v : Version). v.cells) same ∙ y.4)
shows_one all ts (Some a) None x (inl none) = cc (sym (none x.0 x.2.below) ∙ x.2.here)
shows_one all ts (Some a) None x (inr y) = let same = same_newest all ts x.0 y.0 x.1 y.1 x.2 y.2 in absurd (true≢false (sym y.3 ∙ ap (λ (v : Version). v.gone) (sym same) ∙ x.3))
shows_one all ts None (Some b) (inl none) y = cc (sym (none y.0 y.2.below) ∙ y.2.here)
shows_one all ts None (Some b) (inr x) y = let same = same_newest all ts x.0 y.0 x.1 y.1 x.2 y.2 in absurd (true≢false (sym x.3 ∙ ap (λ (v : Version). v.gone) same ∙ y.3))

module _ (front : Versions) (safe ts : ℕ) (t : Trail) (good : IsGoodFor front front safe t) (above : safe ≤ ts) where
  -- the newest that was committed: it is present, or a delete with nothing before it
  found : (c : ℕ) (v : Version) → IsNewestAt front ts c v → (IsNewestAt (present t) ts c v) ⊎ ((v.gone ≡ true) × ((d : ℕ) → d ≤ ts → present t d ≡ None))
  found c v newest = by (good.kept c v newest.here)
    where
      is_newest : present t c ≡ Some v → IsNewestAt (present t) ts c v
      is_newest there = record { here = there; below = newest.below; newest = λ d w e low. newest.newest d w (good.real d w e) low }

      by_here : IsLoneDelete (present t) safe c v → (present t c ≡ None) ⊎ ((w : Version) × (present t c ≡ Some w)) → (IsNewestAt (present t) ts c v) ⊎ ((v.gone ≡ true) × ((d : ℕ) → d ≤ ts → present t d ≡ None))
      by_here lone (inr w) = inl (is_newest (w.1 ∙ sym (good.real c w.0 w.1) ∙ newest.here))
      by_here lone (inl none) = inr (lone.0, λ d low. none_at d low (shown_or_not (present t d)))
        where
          at_or : (d : ℕ) → d ≤ c → (d < c) ⊎ (d ≡ c)
          at_or d h = grind arith

          none_at : (d : ℕ) → d ≤ ts → (present t d ≡ None) ⊎ ((w : Version) × (present t d ≡ Some w)) → present t d ≡ None
          none_at d low (inl e) = e
          none_at d low (inr w) = elim (at_or d (newest.newest d w.0 (good.real d w.0 w.1) low)) [ inl less ↦ lone.2 d less | inr same ↦ ap (present t) same ∙ none ]

      by : (present t c ≡ Some v) ⊎ (IsPassed front safe c ⊎ IsLoneDelete (present t) safe c v) → (IsNewestAt (present t) ts c v) ⊎ ((v.gone ≡ true) × ((d : ℕ) → d ≤ ts → present t d ≡ None))
      by (inl there) = inl (is_newest there)
      by (inr (inl h)) = let low = newest.newest h.0 h.1 h.4 (omega (arith, h.3, above)) in absurd (omega (arith, h.2, low))
      by (inr (inr lone)) = by_here lone (shown_or_not (present t c))

  pub shows_front : (o : Option (List Cell)) → Shows front ts o → Shows (present t) ts o
  shows_front (Some cells) h = elim (found h.0 h.1 h.2) [ inl newest ↦ (h.0, h.1, newest, h.3, h.4) | inr lone ↦ absurd (true≢false (sym lone.0 ∙ h.3)) ]
  shows_front None (inl none) = inl (λ d low. by d low (shown_or_not (present t d)))
    where
      by : (d : ℕ) → d ≤ ts → (present t d ≡ None) ⊎ ((w : Version) × (present t d ≡ Some w)) → present t d ≡ None
      by d low (inl e) = e
      by d low (inr w) = cc (sym (none d low) ∙ good.real d w.0 w.1)
  shows_front None (inr h) = elim (found h.0 h.1 h.2) [ inl newest ↦ inr (h.0, h.1, newest, h.3) | inr lone ↦ inl lone.1 ]

-- where nothing below the mark is left to apply to the handle
pub settled : (written : ℕ → Versions) (clears : ℕ → Bool) (f m safe ts : ℕ) (t : Trail) → IsUncleared clears f m → ((d : ℕ) → written (max f m) d ≡ written f d) → safe ≤ ts → IsGoodAt written clears f m safe t → (o : Option (List Cell)) → Shows (written f) ts o → Shows (present t) ts o
settled written clears f m safe ts t un still above old =
    let good = old un in
    shows_front (written f) safe ts t (record { real = λ d v e. sym (still d) ∙ good.real d v e; kept = λ d v e. elim (good.kept d v e) [ inl there ↦ inl there | inr or ↦ inr (elim or [ inl h ↦ inl (h.0, h.1, h.2, h.3, sym (still h.0) ∙ h.4) | inr h ↦ inr h ]) ]; ordered = good.ordered }) above
