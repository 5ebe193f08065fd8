-- What was built can be installed where its job's segment stands.
use Rattle.std.proofs.Common.{◌≡◌, ◌∙◌, refl, sym, ap, subst, ℕ, zero, suc, ◌+◌, ◌<◌, ◌≤◌, Bool, true, false, cond, nat_eq, Option, Some, None, List, [], ◌∷◌, length, map, get_or, arith}
use Rattle.std.specs.Prelude.{is_some, option_map, position, slice_get}
use Rattle.std.specs.List.{AllByRecursion}
use Rattle.std.proofs.lemmas.Bool.{eqb-true}
use Rattle.std.proofs.lemmas.List.Quantifiers.{position-Some}
use Rattle.flash_types.specs.Ranges.{has_any, holds, least_handle}
use Rattle.good_replica.specs.Good.{CoversFrom}
use Rattle.delta_layer.specs.declared.built.Built.{Built}
use Rattle.delta_layer.specs.declared.built.Job.{Job}
use Rattle.delta_layer.specs.declared.built.Job.TheVariants.{Compact, MergeDelta, Split, Merge}
use Rattle.delta_layer.specs.declared.view.SegmentView.{SegmentView}
use Rattle.segment.specs.declared.segments.Stale.{Stale}
use Rattle.segment_list.specs.Lists.{CoverTo, range_alone}
use Rattle.segment_list.specs.Slots.{Slotted}
use Rattle.segment_list.proofs.Listed.{cover_from, each_filled, held_low, one_has}
use Rattle.segment_work.specs.Begun.{segments_for}
use Rattle.segment_work.specs.Jobs.{segment_of}
use Rattle.segment_install.specs.Plans.{CanInstall, CanInstallAt, IsBuiltFor, IsLaid}
use Rattle.segment_install.specs.Slots.{Fits}
use Rattle.segment_install.specs.Stale.{FitsIn, epoch_of, fault_at, first_fault, slot_of}
use Rattle.segment_install.proofs.Placed.{IsFoundAt, found_at, found_there, inside, next_there, stands}

some_same : {X : Type 0} {a b : X} → Some a ≡ Some b → a ≡ b
some_same e = cc e

pub at_place : {X : Type 0} (P : X → Type 0) (xs : List X) (k : ℕ) (x : X) → AllByRecursion P xs → slice_get xs k ≡ Some x → P x
at_place P [] k x all e = absurd (cc e)
at_place P (y ∷ ys) zero x all e = subst P (some_same e) all.0
at_place P (y ∷ ys) (suc k) x all e = at_place P ys k x all.1 e

fault_or : Option Stale → Option Stale → Option Stale
fault_or fault rest = elim fault [ Some fault ↦ Some fault | None ↦ rest ]

module _ {G : Type 0} where
  -- a view whose segment is there, at its epoch
  pub record IsThere (slots : List (Slotted G)) (v : SegmentView G) : Type 0 where
    pub slot : Slotted G
    pub is : slot_of v.seg slots ≡ Some slot
    pub epoch : slot.epoch ≡ v.epoch

  pub first_there : (slots : List (Slotted G)) (v : SegmentView G) (vs : List (SegmentView G)) → first_fault slots (v ∷ vs) ≡ None → IsThere slots v × (first_fault slots vs ≡ None)
  unfolding fault_or
  first_there slots v vs none = by (slot_of v.seg slots) refl
    where
      by : (o : Option (Slotted G)) → slot_of v.seg slots ≡ o → IsThere slots v × (first_fault slots vs ≡ None)
      by None e = absurd (cc (sym (ap (λ (o : Option (Slotted G)). fault_or (fault_at v.epoch (option_map (λ (s : Slotted G). s.epoch) o)) (first_fault slots vs)) e) ∙ none))
      by (Some s) e = same (nat_eq s.epoch v.epoch) refl
        where
          told : fault_or (fault_at v.epoch (Some s.epoch)) (first_fault slots vs) ≡ None
          told = sym (ap (λ (o : Option (Slotted G)). fault_or (fault_at v.epoch (option_map (λ (t : Slotted G). t.epoch) o)) (first_fault slots vs)) e) ∙ none

          same : (t : Bool) → nat_eq s.epoch v.epoch ≡ t → IsThere slots v × (first_fault slots vs ≡ None)
          same true is = (record { slot = s; is = e; epoch = eqb-true s.epoch v.epoch is }, sym (ap (λ (b : Bool). fault_or (cond b None (Some (record { expected = v.epoch; found = Some s.epoch }))) (first_fault slots vs)) is) ∙ told)
          same false is = absurd (cc (sym (ap (λ (b : Bool). fault_or (cond b None (Some (record { expected = v.epoch; found = Some s.epoch }))) (first_fault slots vs)) is) ∙ told))

  -- the slot of a number stands where it is found
  there_at : (slots : List (Slotted G)) (v : SegmentView G) (place : ℕ) (s : Slotted G) → position (λ (t : Slotted G). nat_eq t.id v.seg) slots ≡ Some place → slot_of v.seg slots ≡ Some s → slice_get slots place ≡ Some s
  there_at slots v place s at is = sym (found_there (λ (t : Slotted G). nat_eq t.id v.seg) slots place at) ∙ is

  pub number_at : (slots : List (Slotted G)) (id place : ℕ) (s : Slotted G) → position (λ (t : Slotted G). nat_eq t.id id) slots ≡ Some place → slice_get slots place ≡ Some s → s.id ≡ id
  number_at slots id place s at is =
      let found = position-Some (λ (t : Slotted G). nat_eq t.id id) slots place s at in
      eqb-true s.id id (ap (λ (t : Slotted G). nat_eq t.id id) (sym (stands slots place s s is)) ∙ found.1)

  pub within_at : (slots : List (Slotted G)) (id place : ℕ) (d : Slotted G) → position (λ (t : Slotted G). nat_eq t.id id) slots ≡ Some place → place < length slots
  within_at slots id place d at = (position-Some (λ (t : Slotted G). nat_eq t.id id) slots place d at).0

  -- one view
  pub fit_one : (slots : List (Slotted G)) (views : List (SegmentView G)) (v : SegmentView G) (place : ℕ) → views ≡ v ∷ [] → first_fault slots views ≡ None → AllByRecursion (FitsIn slots) views → position (λ (t : Slotted G). nat_eq t.id v.seg) slots ≡ Some place → (k : ℕ) (w : SegmentView G) (s : Slotted G) → slice_get views k ≡ Some w → slice_get slots (place + k) ≡ Some s → Fits w s
  fit_one slots views v place are fresh fit at k w s one other = by k (sym (ap (λ (vs : List (SegmentView G)). slice_get vs k) are) ∙ one) other
    where
      known : IsThere slots v
      known = (first_there slots v [] (sym (ap (first_fault slots) are) ∙ fresh)).0

      by : (j : ℕ) → slice_get (v ∷ []) j ≡ Some w → slice_get slots (place + j) ≡ Some s → Fits w s
      by zero e f = (
          let same : v ≡ w = some_same e in
          let none : place + 0 ≡ place = omega arith in
          let slot : known.slot ≡ s = some_same (sym (there_at slots v place known.slot at known.is) ∙ ap (slice_get slots) (sym none) ∙ f) in
          subst (λ (x : SegmentView G). Fits x s) same (subst (Fits v) slot ((subst (AllByRecursion (FitsIn slots)) are fit).0 known.slot known.is known.epoch)))
      by (suc j) e f = absurd (cc e)

  -- two views, of which the second begins where the first ends
  pub record AreNext (slots : List (Slotted G)) (place : ℕ) (left right : SegmentView G) : Type 0 where
    pub low : Slotted G
    pub high : Slotted G
    pub low_there : slice_get slots place ≡ Some low
    pub high_there : slice_get slots (place + 1) ≡ Some high
    pub low_fits : Fits left low
    pub high_fits : Fits right high

  filled_at : (slots : List (Slotted G)) (k : ℕ) (s : Slotted G) → CoverTo None least_handle slots → slice_get slots k ≡ Some s → has_any s.range ≡ true
  filled_at slots k s c e = at_place (λ (t : Slotted G). has_any t.range ≡ true) slots k s (each_filled None least_handle slots c) e

  pub next_fit : (slots : List (Slotted G)) (left right : SegmentView G) (place : ℕ) → CoversFrom least_handle (map range_alone slots) → first_fault slots (left ∷ right ∷ []) ≡ None → AllByRecursion (FitsIn slots) (left ∷ right ∷ []) → left.range.high ≡ Some right.range.low → position (λ (t : Slotted G). nat_eq t.id left.seg) slots ≡ Some place → AreNext slots place left right
  next_fit slots left right place cover fresh fit seam at =
      record { low = l.slot; high = next.0; low_there = l_at; high_there = next.1; low_fits = l_fits; high_fits = subst (Fits right) same r_fits }
    where
      l : IsThere slots left
      l = (first_there slots left (right ∷ []) fresh).0

      r : IsThere slots right
      r = (first_there slots right [] (first_there slots left (right ∷ []) fresh).1).0

      l_fits : Fits left l.slot
      l_fits = fit.0 l.slot l.is l.epoch

      r_fits : Fits right r.slot
      r_fits = fit.1.0 r.slot r.is r.epoch

      l_at : slice_get slots place ≡ Some l.slot
      l_at = there_at slots left place l.slot at l.is

      covers : CoverTo None least_handle slots
      covers = cover_from least_handle slots cover

      next : (t : Slotted G) × (slice_get slots (place + 1) ≡ Some t) × (t.range.low ≡ right.range.low)
      next = next_there least_handle slots place l.slot right.range.low covers l_at (ap (λ r. r.high) l_fits.range ∙ seam)

      found : IsFoundAt (λ (t : Slotted G). nat_eq t.id right.seg) slots r.slot
      found = found_at (λ (t : Slotted G). nat_eq t.id right.seg) slots r.slot r.is

      held : (k : ℕ) (s : Slotted G) → slice_get slots k ≡ Some s → s.range.low ≡ right.range.low → holds (get_or slots k l.slot).range right.range.low ≡ true
      held k s there low = ap (λ (t : Slotted G). holds t.range right.range.low) (stands slots k s l.slot there) ∙ ap (holds s.range) (sym low) ∙ held_low s.range (filled_at slots k s covers there)

      place_is : found.place ≡ place + 1
      place_is = one_has least_handle slots right.range.low found.place (place + 1) l.slot cover (inside slots found.place r.slot found.there) (inside slots (place + 1) next.0 next.1) (held found.place r.slot found.there (ap (λ r. r.low) r_fits.range)) (held (place + 1) next.0 next.1 next.2)

      same : r.slot ≡ next.0
      same = some_same (sym found.there ∙ ap (slice_get slots) place_is ∙ next.1)

  fit_two : (slots : List (Slotted G)) (views : List (SegmentView G)) (left right : SegmentView G) (place : ℕ) → views ≡ left ∷ right ∷ [] → AreNext slots place left right → (k : ℕ) (w : SegmentView G) (s : Slotted G) → slice_get views k ≡ Some w → slice_get slots (place + k) ≡ Some s → Fits w s
  fit_two slots views left right place are next k w s one other = by k (sym (ap (λ (vs : List (SegmentView G)). slice_get vs k) are) ∙ one) other
    where
      by : (j : ℕ) → slice_get (left ∷ right ∷ []) j ≡ Some w → slice_get slots (place + j) ≡ Some s → Fits w s
      by zero e f = (
          let none : place + 0 ≡ place = omega arith in
          subst (λ (x : SegmentView G). Fits x s) (some_same e) (subst (Fits left) (some_same (sym next.low_there ∙ ap (slice_get slots) (sym none) ∙ f)) next.low_fits))
      by (suc zero) e f = subst (λ (x : SegmentView G). Fits x s) (some_same e) (subst (Fits right) (some_same (sym next.high_there ∙ f)) next.high_fits)
      by (suc (suc j)) e f = absurd (cc e)

  -- by cases on the job
  pub can_at : (first place : ℕ) (built : Built G) (slots : List (Slotted G)) → CanInstall first built slots → CoversFrom least_handle (map range_alone slots) → position (λ (t : Slotted G). nat_eq t.id (segment_of built.job)) slots ≡ Some place → CanInstallAt first place built slots
  can_at first place built slots can cover at = by built.job refl can.built_is
    where
      made : place + segments_for built.job ≤ length slots → ((k : ℕ) (w : SegmentView G) (s : Slotted G) → slice_get built.views k ≡ Some w → slice_get slots (place + k) ≡ Some s → Fits w s) → CanInstallAt first place built slots
      made within fit = record { built_is = can.built_is; within = within; number = λ s there. number_at slots (segment_of built.job) place s at there; fit = fit; laid = can.laid; free = can.free }

      at_seg : (job : Job) (seg : ℕ) → built.job ≡ job → segment_of job ≡ seg → position (λ (t : Slotted G). nat_eq t.id seg) slots ≡ Some place
      at_seg job seg e f = sym (ap (λ (n : ℕ). position (λ (t : Slotted G). nat_eq t.id n) slots) (ap segment_of e ∙ f)) ∙ at

      one : (job : Job) (v : SegmentView G) → built.job ≡ job → segment_of job ≡ v.seg → segments_for job ≡ 1 → built.views ≡ v ∷ [] → CanInstallAt first place built slots
      one job v e f count views = (
          let fresh = first_there slots v [] (sym (ap (first_fault slots) views) ∙ can.fresh) in
          let lt : place < length slots = within_at slots v.seg place fresh.0.slot (at_seg job v.seg e f) in
          let many : segments_for built.job ≡ 1 = ap segments_for e ∙ count in
          made (omega (arith, lt, many)) (fit_one slots built.views v place views can.fresh can.fit (at_seg job v.seg e f)))

      by : (job : Job) → built.job ≡ job → IsBuiltFor job built → CanInstallAt first place built slots
      by (Compact seg) e is = one (Compact seg) is.view e (sym is.number) refl is.views
      by (MergeDelta seg) e is = one (MergeDelta seg) is.view e (sym is.number) refl is.views
      by (Split seg) e is = one (Split seg) is.view e (sym is.number) refl is.views
      by (Merge seg) e is = (
          let next : AreNext slots place is.left is.right = next_fit slots is.left is.right place cover (sym (ap (first_fault slots) is.views) ∙ can.fresh) (subst (AllByRecursion (FitsIn slots)) is.views can.fit) is.touch.seam (at_seg (Merge seg) is.left.seg e (sym is.number)) in
          let lt : place + 1 < length slots = inside slots (place + 1) next.high next.high_there in
          let many : segments_for built.job ≡ 2 = ap segments_for e in
          made (omega (arith, lt, many)) (fit_two slots built.views is.left is.right place is.views next))

  pub all_numbers : (first : ℕ) (slots : List (Slotted G)) → AllByRecursion (IsLaid first) slots → AllByRecursion (λ (t : Slotted G). t.id < first) slots
  all_numbers first [] all = tt
  all_numbers first (s ∷ slots) all = (all.0.number, all_numbers first slots all.1)

  -- a fault of the first view, or the faults of the others
  pub fault_here : (slots : List (Slotted G)) (v : SegmentView G) (vs : List (SegmentView G)) (o : Option Stale) → fault_at v.epoch (epoch_of v.seg slots) ≡ o → is_some o ≡ true → first_fault slots (v ∷ vs) ≡ o
  unfolding fault_or
  fault_here slots v vs None e is = absurd (cc is)
  fault_here slots v vs (Some fault) e is = ap (λ (o : Option Stale). fault_or o (first_fault slots vs)) e

  pub fault_behind : (slots : List (Slotted G)) (v : SegmentView G) (vs : List (SegmentView G)) (o : Option Stale) → fault_at v.epoch (epoch_of v.seg slots) ≡ o → is_some o ≡ false → first_fault slots (v ∷ vs) ≡ first_fault slots vs
  unfolding fault_or
  fault_behind slots v vs None e is = ap (λ (o : Option Stale). fault_or o (first_fault slots vs)) e
  fault_behind slots v vs (Some fault) e is = absurd (cc is)
