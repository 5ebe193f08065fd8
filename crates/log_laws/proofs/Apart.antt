-- At a closed set of applied entries no handle lies in two regions.
use Rattle.std.proofs.Common.{◌≡◌, ◌≢◌, ◌⊎◌, inl, inr, ◌∙◌, refl, sym, ap, subst, ℕ, zero, suc, ◌<◌, ◌≤◌, ℤ, Bool, true, false, true≢false, ◌&&◌, List, Option, Some, length, arith}
use Rattle.std.specs.List.{AllPairs, slice_index_or}
use Rattle.flash_types.specs.Asks.{AreDistinct}
use Rattle.flash_types.specs.Ranges.{holds}
use Rattle.flash_types.specs.declared.ask.AskRegion.{AskRegion}
use Rattle.flash_types.specs.declared.range.HandleRange.{HandleRange}
use Rattle.flash_types.specs.declared.refusal.Cut.{Cut}
use Rattle.committed_log.specs.Applied.{IsClosed, acts_at, left_at, applied}
use Rattle.committed_log.specs.Lawful.{IsLawful}
use Rattle.committed_log.specs.Laws.{owned, owns, touches}
use Rattle.committed_log.specs.Log.{Log, at}
use Rattle.committed_log.specs.Regions.{index_of, range_of}
use Rattle.committed_log.specs.declared.region.Region.{Region}
use Rattle.committed_log.specs.declared.region.Region.TheVariants.{Unborn, Live, Prepared, Gone}
use Rattle.committed_log.specs.Replies.{AreCuts, cut_of}
use Rattle.committed_log.specs.Store.{holds_some}
use Rattle.committed_log.proofs.Acting.{left_alone}
use Rattle.committed_log.proofs.Closed.{acting_entry, applied_cases}
use Rattle.committed_log.proofs.Faults.{both_true, or_first, or_second}
use Rattle.committed_log.proofs.Owners.{disjoint_at}
use Rattle.committed_log.proofs.Positions.{IsGreatest}
use Rattle.committed_log.proofs.Touching.{touch_closed, touches_by}
use Rattle.log_laws.proofs.Small.{and_true, le_or, mapped_at, order, some_is}

module _ (log : Log) (lawful : IsLawful log) (h : ℤ) where
  -- while no entry acts on it a region keeps the handle
  keeps : (r p n : ℕ) → p ≤ n → ((x : ℕ) → p ≤ x → x < n → acts_at log r x ≡ false) → owns (at log p).regions r h ≡ true → owns (at log n).regions r h ≡ true
  keeps r p zero le none own = (let same : p ≡ 0 = omega (arith, le) in subst (λ z. owns (at log z).regions r h ≡ true) same own)
  keeps r p (suc n) le none own = elim (le_or p n le) [
    | inl low ↦ ap (λ s. owned s h) (left_alone log r n (none n low (omega arith))) ∙ keeps r p n low (λ x a b. none x a (omega (arith, b))) own
    | inr same ↦ subst (λ z. owns (at log z).regions r h ≡ true) same own
  ]

  module _ (A : ℕ → Bool) (closed : IsClosed log A) where
    -- the last applied entry on a region, which then has the handle
    record Last (r : ℕ) : Type 0 where
      place : ℕ
      done : A place ≡ true
      acts : acts_at log r place ≡ true
      own : owns (at log (suc place)).regions r h ≡ true
      later : (x : ℕ) → A x ≡ true → acts_at log r x ≡ true → x ≤ place

    last_of : (r : ℕ) → owned (applied log A r) h ≡ true → Last r
    last_of r held = by (applied_cases log A r)
      where
        at_last : (p : ℕ) → IsGreatest (λ p. A p && acts_at log r p) (length log.entries) p → applied log A r ≡ left_at log r p → Last r
        at_last p greatest is = record { place = p; done = parts.0; acts = parts.1; own = ap (λ s. owned s h) (sym is) ∙ held; later = last }
          where
            parts : (A p ≡ true) × (acts_at log r p ≡ true)
            parts = both_true (A p) (acts_at log r p) greatest.passes

            last : (x : ℕ) → A x ≡ true → acts_at log r x ≡ true → x ≤ p
            last x a acts = elim (order x p) [ inl le ↦ le | inr more ↦ absurd (true≢false (sym (and_true (A x) (acts_at log r x) a acts) ∙ greatest.later x more (closed.within x a))) ]

        by : (((q : ℕ) → q < length log.entries → (A q && acts_at log r q) ≡ false) × (applied log A r ≡ Unborn)) ⊎ ((q : ℕ) × IsGreatest (λ p. A p && acts_at log r p) (length log.entries) q × (applied log A r ≡ left_at log r q)) → Last r
        by (inl none) = absurd (true≢false (sym held ∙ ap (λ s. owned s h) none.1))
        by (inr some) = at_last some.0 some.1 some.2

    -- the region whose last applied entry is the earlier one has the handle still after the other's
    module _ (q r : ℕ) (a : Last q) (b : Last r) (le : a.place ≤ b.place) where
      touched : touches log h b.place ≡ true
      touched = (let e = acting_entry log r b.place b.acts in touches_by log h b.place e.0 e.1 r e.2 (or_second (owns (at log b.place).regions r h) (owns (at log (suc b.place)).regions r h) b.own))

      taken : (x : ℕ) → x ≤ b.place → touches log h x ≡ true → A x ≡ true
      taken x low t = by (order b.place x)
        where
          by : (b.place ≤ x) ⊎ (x < b.place) → A x ≡ true
          by (inl up) = (let same : b.place ≡ x = omega (arith, low, up) in subst (λ z. A z ≡ true) same b.done)
          by (inr less) = touch_closed log lawful h A closed b.place x b.done touched less t

      quiet : (n : ℕ) → n ≤ suc b.place → (x : ℕ) → suc a.place ≤ x → x < n → acts_at log q x ≡ false
      quiet zero low x c d = absurd (omega (arith, d))
      quiet (suc n) low x c d = of (acts_at log q x) refl (quiet n (omega (arith, low))) (le_or (suc x) n (omega (arith, d)))
        where
          at_n : ((x : ℕ) → suc a.place ≤ x → x < n → acts_at log q x ≡ false) → x ≡ n → acts_at log q x ≡ true → ⊥
          at_n rest same acts =
              let own : owns (at log x).regions q h ≡ true = keeps q (suc a.place) x c (λ y e f. rest y e (omega (arith, f, same))) a.own in
              let e = acting_entry log q x acts in
              let t = touches_by log h x e.0 e.1 q e.2 (or_first (owns (at log x).regions q h) (owns (at log (suc x)).regions q h) own) in
              let back : x ≤ a.place = a.later x (taken x (omega (arith, low, d)) t) acts in
              absurd (omega (arith, back, c))

          of : (t : Bool) → acts_at log q x ≡ t → ((x : ℕ) → suc a.place ≤ x → x < n → acts_at log q x ≡ false) → (suc x ≤ n) ⊎ (suc x ≡ suc n) → acts_at log q x ≡ false
          of false is rest place = is
          of true is rest (inl under) = rest x c (omega (arith, under))
          of true is rest (inr same) = absurd (at_n rest (omega (arith, same)) is)

      still : q ≡ r
      still = (disjoint_at log lawful (suc b.place)).one q r h (keeps q (suc a.place) (suc b.place) (omega (arith, le)) (quiet (suc b.place) (omega arith)) a.own) b.own

    -- one region at most has a handle
    pub one_owner : (q r : ℕ) → owned (applied log A q) h ≡ true → owned (applied log A r) h ≡ true → q ≡ r
    one_owner q r held other = by (last_of q held) (last_of r other)
      where
        by : Last q → Last r → q ≡ r
        by a b = elim (order a.place b.place) [ inl le ↦ still q r a b le | inr less ↦ sym (still r q b a (omega (arith, less))) ]

-- ---- ranges

owned_by : (s : Region) (range : HandleRange) (h : ℤ) → range_of s ≡ Some range → holds range h ≡ true → owned s h ≡ true
owned_by s range h is held = ap (λ o. holds_some o h) is ∙ held

pub ranges_apart : (log : Log) → IsLawful log → (A : ℕ → Bool) → IsClosed log A → (q r : ℕ) → q ≢ r → (a b : HandleRange) → range_of (applied log A q) ≡ Some a → range_of (applied log A r) ≡ Some b → (h : ℤ) → holds a h ≡ true → holds b h ≡ false
ranges_apart log lawful A closed q r apart a b there other h held = by (holds b h) refl
  where
    by : (t : Bool) → holds b h ≡ t → holds b h ≡ false
    by false is = is
    by true is = absurd (apart (one_owner log lawful h A closed q r (owned_by (applied log A q) a h there held) (owned_by (applied log A r) b h other is)))

-- ---- cuts

-- a cut is of its region as that is
pub record IsCutOf (r : ℕ) (s : Region) (c : Cut) : Type 0 where
  pub region : c.region ≡ r
  pub range : range_of s ≡ Some c.range
  pub index : index_of s ≡ Some c.index

pub cut_is : (r : ℕ) (s : Region) (c : Cut) → cut_of r s ≡ Some c → IsCutOf r s c
cut_is r Unborn c e = cc e
cut_is r (Gone last) c e = cc e
cut_is r (Live d) c e = subst (IsCutOf r (Live d)) (some_is (record { region = r; epoch = d.epoch; index = d.index; range = d.range }) c e) (record { region = refl; range = refl; index = refl })
cut_is r (Prepared d target) c e = subst (IsCutOf r (Prepared d target)) (some_is (record { region = r; epoch = d.epoch; index = d.index; range = d.range }) c e) (record { region = refl; range = refl; index = refl })

abbrev pub cut_at : Log → (ℕ → Bool) → AskRegion → Option Cut
cut_at log A asked = cut_of asked.region (applied log A asked.region)

abbrev pub some_region : AskRegion
some_region = record { region = 0; epoch = record { conf_ver = 0; version = 0 }; index = 0 }

pub cuts_apart : (log : Log) → IsLawful log → (A : ℕ → Bool) → IsClosed log A → (regions : List AskRegion) → AreDistinct regions → (cuts : List Cut) → AreCuts log A regions cuts → AllPairs (λ (a b : Cut). (h : ℤ) → holds a.range h ≡ true → holds b.range h ≡ false) cuts
cuts_apart log lawful A closed regions distinct cuts are i j d less low =
    let a = mapped_at (cut_at log A) regions cuts are i some_region d (omega (arith, less, low)) in
    let b = mapped_at (cut_at log A) regions cuts are j some_region d low in
    let x = slice_index_or regions i some_region in
    let y = slice_index_or regions j some_region in
    ranges_apart log lawful A closed x.region y.region (distinct i j some_region less b.0) (slice_index_or cuts i d).range (slice_index_or cuts j d).range
    (cut_is x.region (applied log A x.region) (slice_index_or cuts i d) a.1).range (cut_is y.region (applied log A y.region) (slice_index_or cuts j d) b.1).range
