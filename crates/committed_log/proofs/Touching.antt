-- Which entries touch a handle: what the others leave of it, and that a closed set has with one that touches a handle each earlier one.
use Rattle.std.proofs.Common.{◌≡◌, ◌⊎◌, inl, inr, ◌∙◌, refl, sym, ap, subst, ℕ, zero, suc, ◌<◌, ℤ, Bool, true, false, true≢false, cond, ◌||◌, List, [], ◌∷◌, Option, Some, None, nat_eq, slice_get, arith}
use Rattle.std.proofs.lemmas.Int.{ints}
use Rattle.std.specs.Ordering.{int_eq}
use Rattle.std.specs.Prelude.{◌==◌}
use Rattle.std.specs.List.{list_any}
use Rattle.flash_types.specs.Ranges.{holds}
use Rattle.flash_types.specs.declared.range.HandleRange.{HandleRange}
use Rattle.log_codec.specs.declared.entry.Entry.{Entry}
use Rattle.log_codec.specs.declared.entry.Body.{Body}
use Rattle.log_codec.specs.declared.entry.Body.TheVariants as body
use Rattle.log_codec.specs.declared.entry.Op.{Op}
use Rattle.committed_log.specs.declared.region.Descriptor.{Descriptor}
use Rattle.committed_log.specs.Admission.{region_fault, other_fault, range_fault, is_unborn, is_live}
use Rattle.committed_log.specs.Applied.{IsClosed, waits_for, body_waits_for}
use Rattle.committed_log.specs.Lawful.{IsLawful}
use Rattle.committed_log.specs.Laws.{owned, owns, touches, AreSameOn}
use Rattle.committed_log.specs.Log.{Log, at}
use Rattle.committed_log.specs.Regions.{Region, Unborn, Live, Prepared, Gone, region, range_of, acts_on, also_acted, with_region, regions_step, regions_after, live_after, born_after, born, after_merge, merged, lower_part, upper_part, makes_region}
use Rattle.committed_log.specs.Store.{Store, after_entry}
use Rattle.committed_log.proofs.Acting.{not_acted}
use Rattle.committed_log.proofs.Closed.{same_is, entry_holds}
use Rattle.committed_log.proofs.Disjoint.{region-with_region, in_lower, in_upper}
use Rattle.committed_log.proofs.Entries.{at_next, at_past, regions_next, head_next}
use Rattle.committed_log.proofs.Faults.{both_true, or_either, or_first, or_second, is_unborn_is, IsFine}
use Rattle.committed_log.proofs.Local.{same_itself, same_families}
use Rattle.committed_log.proofs.Merged.{joined_holds}
use Rattle.committed_log.proofs.Owners.{tested, split_within, merge_touches, disjoint_at}
use Rattle.committed_log.proofs.Ranks.{same_number, region_here, of_unborn}

-- ---- one of several numbers

any_one : (t : ℕ → Bool) (xs : List ℕ) → list_any t xs ≡ true → (q : ℕ) × (list_any (λ x. x == q) xs ≡ true) × (t q ≡ true)
any_one t [] e = absurd (true≢false (sym e))
any_one t (x ∷ xs) e = by (or_either (t x) (list_any t xs) e) (λ r. any_one t xs r)
  where
    by : (t x ≡ true) ⊎ (list_any t xs ≡ true) → (list_any t xs ≡ true → (q : ℕ) × (list_any (λ x. x == q) xs ≡ true) × (t q ≡ true)) → (q : ℕ) × (list_any (λ x. x == q) (x ∷ xs) ≡ true) × (t q ≡ true)
    by (inl here) rest = (x, or_first (x == x) (list_any (λ y. y == x) xs) (same_is x), here)
    by (inr more) rest = (let r = rest more in (r.0, or_second (x == r.0) (list_any (λ y. y == r.0) xs) r.1, r.2))

any_by : (t : ℕ → Bool) (q : ℕ) → t q ≡ true → (xs : List ℕ) → list_any (λ x. x == q) xs ≡ true → list_any t xs ≡ true
any_by t q passes [] e = e
any_by t q passes (x ∷ xs) e = by (or_either (x == q) (list_any (λ y. y == q) xs) e) (λ r. any_by t q passes xs r)
  where
    by : ((x == q) ≡ true) ⊎ (list_any (λ y. y == q) xs ≡ true) → (list_any (λ y. y == q) xs ≡ true → list_any t xs ≡ true) → (t x || list_any t xs) ≡ true
    by (inl here) rest = or_first (t x) (list_any t xs) (ap t (same_number x q here) ∙ passes)
    by (inr more) rest = or_second (t x) (list_any t xs) (rest more)

module _ (log : Log) (h : ℤ) (p : ℕ) where
  abbrev held : ℕ → Bool
  held r = owns (at log p).regions r h || owns (at log (suc p)).regions r h

  -- the entry, and a region that it acts on and that has the handle before or after
  pub touched_by : touches log h p ≡ true → (e : Entry) × (slice_get log.entries p ≡ Some e) × (q : ℕ) × (acts_on q e ≡ true) × ((owns (at log p).regions q h ≡ true) ⊎ (owns (at log (suc p)).regions q h ≡ true))
  touched_by t =
      let e = entry_holds log (λ e. list_any held (e.region ∷ also_acted e.body)) p t in
      let q = any_one held (e.0.region ∷ also_acted e.0.body) e.2 in
      (e.0, e.1, q.0, q.1, or_either (owns (at log p).regions q.0 h) (owns (at log (suc p)).regions q.0 h) q.2)

  pub touches_by : (e : Entry) → slice_get log.entries p ≡ Some e → (q : ℕ) → acts_on q e ≡ true → held q ≡ true → touches log h p ≡ true
  touches_by e is q acts has = ap (λ o. elim o [ None ↦ false | Some e ↦ list_any held (e.region ∷ also_acted e.body) ]) is ∙ any_by held q has (e.region ∷ also_acted e.body) acts

  acts_own : (e : Entry) → acts_on e.region e ≡ true
  acts_own e = or_first (e.region == e.region) (list_any (λ acted. acted == e.region) (also_acted e.body)) (same_is e.region)

  -- an entry that doesn't touch a handle leaves its values, locks and commits
  module _ (lawful : IsLawful log) (out : touches log h p ≡ false) where
    abbrev itself : ℤ → Bool
    itself k = int_eq k h

    same : (k h : ℤ) → int_eq k h ≡ true → k ≡ h
    same k h e = grind (arith, ints)

    module _ (e : Entry) (is : slice_get log.entries p ≡ Some e) where
      pub elsewhere : (other : HandleRange) → range_of (region (at log p).regions e.region) ≡ Some other → (k : ℤ) → holds other k ≡ true → itself k ≡ false
      elsewhere other there k inside = by (int_eq k h) refl
        where
          by : (b : Bool) → int_eq k h ≡ b → int_eq k h ≡ false
          by false e' = e'
          by true e' = absurd (true≢false (sym (touches_by e is e.region (acts_own e) (or_first (owns (at log p).regions e.region h) (owns (at log (suc p)).regions e.region h) (ap (λ o. elim o [ None ↦ false | Some range ↦ holds range h ]) there ∙ ap (holds other) (sym (same k h e')) ∙ inside))) ∙ out))

      makes : (b : Body) (conf_ver version : ℕ) (low : ℤ) (high : Option ℤ) (ops : List Op) → b ≡ body.Install conf_ver version low high ops → makes_region b ≡ true
      makes b conf_ver version low high ops is_b = ap makes_region is_b

      installed : (conf_ver version : ℕ) (low : ℤ) (high : Option ℤ) (ops : List Op) → e.body ≡ body.Install conf_ver version low high ops → region (at log (suc p)).regions e.region ≡ born conf_ver version low high e.index
      installed conf_ver version low high ops is_body = ap (λ regions. region regions e.region) (regions_next log p e is) ∙ ap (λ s. region (regions_step s e (at log p).regions) e.region) unborn ∙ ap (λ b. region (born_after e.region e.index b (at log p).regions) e.region) is_body ∙ region_here (at log p).regions e.region (born conf_ver version low high e.index)
        where
          unborn : region (at log p).regions e.region ≡ Unborn
          unborn = is_unborn_is (region (at log p).regions e.region) (tested (at log p).regions e.region is_unborn (sym (ap (λ b. region_fault (at log p).regions e.region (cond b is_unborn is_live)) (makes e.body conf_ver version low high ops is_body)) ∙ (head_next log p e is lawful).own))

      pub not_born : (conf_ver version : ℕ) (low : ℤ) (high : Option ℤ) (ops : List Op) → e.body ≡ body.Install conf_ver version low high ops → (k : ℤ) → holds (record { low = low; high = high }) k ≡ true → itself k ≡ false
      not_born conf_ver version low high ops is_body k inside = by (int_eq k h) refl
        where
          by : (b : Bool) → int_eq k h ≡ b → int_eq k h ≡ false
          by false e' = e'
          by true e' = absurd (true≢false (sym (touches_by e is e.region (acts_own e) (or_second (owns (at log p).regions e.region h) (owns (at log (suc p)).regions e.region h) (ap (λ s. owned s h) (installed conf_ver version low high ops is_body) ∙ ap (holds (record { low = low; high = high })) (sym (same k h e')) ∙ inside))) ∙ out))

      same_entry : AreSameOn itself (at log p) (after_entry log.table p (at log p) e)
      same_entry =
          let left = same_families itself log.table p (at log p) (range_of (region (at log p).regions e.region)) e.body elsewhere not_born in
          record { values = left.values; locks = left.locks; commits = left.commits }

    pub same_untouched : AreSameOn (λ k. int_eq k h) (at log p) (at log (suc p))
    same_untouched = by (slice_get log.entries p) refl
      where
        by : (o : Option Entry) → slice_get log.entries p ≡ o → AreSameOn (λ k. int_eq k h) (at log p) (at log (suc p))
        by None is = subst (AreSameOn (λ k. int_eq k h) (at log p)) (sym (at_past log p is)) (same_itself (λ k. int_eq k h) (at log p))
        by (Some e) is = subst (AreSameOn (λ k. int_eq k h) (at log p)) (sym (at_next log p e is)) (same_entry e is)

-- ---- where a handle comes from

-- a region had the handle before, and the entry waits for all that act on it
pub record ComesFrom (regions : List (ℕ × Region)) (h : ℤ) (e : Entry) : Type 0 where
  pub before : ℕ
  pub had : owns regions before h ≡ true
  pub waits : (x : Entry) → acts_on before x ≡ true → waits_for e x ≡ true

module _ (p : ℕ) (regions : List (ℕ × Region)) (e : Entry) (fine : IsFine p regions e) (h : ℤ) where
  own : owns regions e.region h ≡ true → ComesFrom regions h e
  own o = record { before = e.region; had = o; waits = λ x a. or_second (body_waits_for e.body x) (acts_on e.region x) a }

  single : (a q : ℕ) → list_any (λ acted. acted == q) (a ∷ []) ≡ true → a ≡ q
  single a q s = elim (or_either (a == q) false s) [ inl x ↦ same_number a q x | inr x ↦ absurd (true≢false (sym x)) ]

  of_source : (source : ℕ) → e.body ≡ body.Commit source → owns regions source h ≡ true → ComesFrom regions h e
  of_source source is o = record { before = source; had = o; waits = λ x a. ap (λ b. body_waits_for b x || acts_on e.region x) is ∙ or_first (acts_on source x) (acts_on e.region x) a }

  -- a region that had it and that the entry acts on
  from_before : (q : ℕ) → acts_on q e ≡ true → owns regions q h ≡ true → ComesFrom regions h e
  from_before q acts o = elim (or_either (e.region == q) (list_any (λ acted. acted == q) (also_acted e.body)) acts) [
    | inl same ↦ own (ap (λ z. owns regions z h) (same_number e.region q same) ∙ o)
    | inr other ↦ also e.body refl other
  ]
    where
      also : (b : Body) → e.body ≡ b → list_any (λ acted. acted == q) (also_acted b) ≡ true → ComesFrom regions h e
      also (body.Split middle child) is s =
          let unborn = is_unborn_is (region regions child) (tested regions child is_unborn (sym (ap (other_fault regions e.region) is) ∙ fine.other)) in
          absurd (true≢false (sym (sym (ap (λ s. owned s h) unborn) ∙ ap (λ z. owns regions z h) (single child q s) ∙ o)))
      also (body.Commit source) is s = of_source source is (ap (λ z. owns regions z h) (single source q s) ∙ o)
      also (body.Prepare target) is s = absurd (true≢false (sym s))
      also body.Remove is s = absurd (true≢false (sym s))
      also (body.Write ops) is s = absurd (true≢false (sym s))
      also body.Empty is s = absurd (true≢false (sym s))
      also (body.Open conf_ver version low high) is s = absurd (true≢false (sym s))
      also (body.Install conf_ver version low high ops) is s = absurd (true≢false (sym s))

  with_owned : (k : ℕ) (st : Region) (more : List (ℕ × Region)) (q : ℕ) → owns (with_region k st more) q h ≡ true → (owned st h ≡ true) ⊎ (owns more q h ≡ true)
  with_owned k st more q o = by (nat_eq q k) (sym (ap (λ s. owned s h) (region-with_region more k st q)) ∙ o)
    where
      by : (b : Bool) → owned (cond b st (region more q)) h ≡ true → (owned st h ≡ true) ⊎ (owned (region more q) h ≡ true)
      by true o = inl o
      by false o = inr o

  module _ (d : Descriptor) (live : region regions e.region ≡ Live d) where
    by_range : holds d.range h ≡ true → ComesFrom regions h e
    by_range o = own (ap (λ s. owned s h) live ∙ o)

    -- where its region alone gets a new state, with no more handles
    kept_after : (st : Region) → (owned st h ≡ true → holds d.range h ≡ true) → (q : ℕ) → acts_on q e ≡ true → owns (with_region e.region st regions) q h ≡ true → ComesFrom regions h e
    kept_after st fewer q acts o = elim (with_owned e.region st regions q o) [ inl x ↦ by_range (fewer x) | inr x ↦ from_before q acts x ]

    split_after : (middle : ℤ) (child : ℕ) → e.body ≡ body.Split middle child → (q : ℕ) → acts_on q e ≡ true → owns (live_after e.region d e.index (body.Split middle child) regions) q h ≡ true → ComesFrom regions h e
    split_after middle child is q acts o =
        let within = split_within regions e.region d live middle (sym (ap (range_fault regions e.region) is) ∙ fine.range) in
        elim (with_owned e.region (Live (lower_part d middle e.index)) (with_region child (Live (upper_part d middle)) regions) q o) [
          | inl low ↦ by_range (in_lower d.range middle h (both_true _ _ within.1).1 low)
          | inr more ↦ elim (with_owned child (Live (upper_part d middle)) regions q more) [
            | inl up ↦ by_range (in_upper d.range middle h within.0 up)
            | inr x ↦ from_before q acts x
          ]
        ]

    merge_after : (source : ℕ) → e.body ≡ body.Commit source → (q : ℕ) → acts_on q e ≡ true → (st : Region) → region regions source ≡ st → owns (after_merge e.region d e.index source st regions) q h ≡ true → ComesFrom regions h e
    merge_after source is q acts Unborn at_source o = from_before q acts o
    merge_after source is q acts (Live c) at_source o = from_before q acts o
    merge_after source is q acts (Gone last) at_source o = from_before q acts o
    merge_after source is q acts (Prepared c target) at_source o = elim (with_owned source (Gone c.index) (with_region e.region (Live (merged d c e.index)) regions) q o) [
      | inl x ↦ absurd (true≢false (sym x))
      | inr more ↦ elim (with_owned e.region (Live (merged d c e.index)) regions q more) [
        | inl x ↦ elim (or_either (holds d.range h) (holds c.range h) (joined_holds d.range c.range h (merge_touches regions e.region d live source c target at_source (sym (ap (range_fault regions e.region) is) ∙ fine.range)) x)) [
          | inl y ↦ by_range y
          | inr y ↦ of_source source is (ap (λ s. owned s h) at_source ∙ y)
        ]
        | inr x ↦ from_before q acts x
      ]
    ]

    live_from : (b : Body) → e.body ≡ b → makes_region b ≡ false → (q : ℕ) → acts_on q e ≡ true → owns (live_after e.region d e.index b regions) q h ≡ true → ComesFrom regions h e
    live_from (body.Open conf_ver version low high) is old q acts o = absurd (true≢false old)
    live_from (body.Install conf_ver version low high ops) is old q acts o = absurd (true≢false old)
    live_from (body.Write ops) is old q acts o = kept_after _ (λ x. x) q acts o
    live_from body.Empty is old q acts o = kept_after _ (λ x. x) q acts o
    live_from body.Remove is old q acts o = kept_after _ (λ x. absurd (true≢false (sym x))) q acts o
    live_from (body.Prepare target) is old q acts o = kept_after _ (λ x. x) q acts o
    live_from (body.Split middle child) is old q acts o = split_after middle child is q acts o
    live_from (body.Commit source) is old q acts o = merge_after source is q acts (region regions source) refl o

  -- and one that has it after
  from_after : makes_region e.body ≡ false → (q : ℕ) → acts_on q e ≡ true → owns (regions_after regions e) q h ≡ true → ComesFrom regions h e
  from_after old q acts o = by (region regions e.region) refl o
    where
      by : (st : Region) → region regions e.region ≡ st → owns (regions_step st e regions) q h ≡ true → ComesFrom regions h e
      by Unborn is o = absurd (true≢false (sym (of_unborn p regions e fine is) ∙ old))
      by (Live d) is o = live_from d is e.body refl old q acts o
      by (Prepared d target) is o = from_before q acts o
      by (Gone last) is o = from_before q acts o

-- ---- closed sets

module _ (log : Log) (lawful : IsLawful log) (h : ℤ) where
  waits_birth : (e x : Entry) → makes_region e.body ≡ true → waits_for e x ≡ true
  waits_birth e x is = or_first (body_waits_for e.body x) (acts_on e.region x) (by e.body is)
    where
      by : (b : Body) → makes_region b ≡ true → body_waits_for b x ≡ true
      by (body.Open conf_ver version low high) m = refl
      by (body.Install conf_ver version low high ops) m = refl
      by (body.Split middle child) m = absurd (true≢false (sym m))
      by (body.Prepare target) m = absurd (true≢false (sym m))
      by (body.Commit source) m = absurd (true≢false (sym m))
      by body.Remove m = absurd (true≢false (sym m))
      by (body.Write ops) m = absurd (true≢false (sym m))
      by body.Empty m = absurd (true≢false (sym m))

  pub held_still : (n : ℕ) (e : Entry) → slice_get log.entries n ≡ Some e → (y : ℕ) → acts_on y e ≡ false → owns (at log (suc n)).regions y h ≡ true → owns (at log n).regions y h ≡ true
  held_still n e is y apart after = sym (ap (λ s. owned s h) (ap (λ regions. region regions y) (regions_next log n e is) ∙ not_acted (at log n).regions e y apart)) ∙ after

  -- where a region that an entry doesn't act on has the handle, the entry doesn't touch it
  pub unmoved : (n : ℕ) (e : Entry) → slice_get log.entries n ≡ Some e → (y : ℕ) → acts_on y e ≡ false → owns (at log (suc n)).regions y h ≡ true → touches log h n ≡ true → ⊥
  unmoved n e is y apart after t = by (touched_by log h n t)
    where
      some_is : {a b : Entry} → Some a ≡ Some b → a ≡ b
      some_is e = cc e

      contra : (f : Entry) → slice_get log.entries n ≡ Some f → (q : ℕ) → acts_on q f ≡ true → q ≡ y → ⊥
      contra f at_n q acts same = true≢false (sym (ap (λ z. acts_on z e) (sym same) ∙ ap (acts_on q) (some_is (sym is ∙ at_n)) ∙ acts) ∙ apart)

      by : (e : Entry) × (slice_get log.entries n ≡ Some e) × (q : ℕ) × (acts_on q e ≡ true) × ((owns (at log n).regions q h ≡ true) ⊎ (owns (at log (suc n)).regions q h ≡ true)) → ⊥
      by one = elim one.4 [
        | inl o ↦ contra one.0 one.1 one.2 one.3 ((disjoint_at log lawful n).one one.2 y h o (held_still n e is y apart after))
        | inr o ↦ contra one.0 one.1 one.2 one.3 ((disjoint_at log lawful (suc n)).one one.2 y h o after)
      ]

  module _ (A : ℕ → Bool) (closed : IsClosed log A) where
    -- with all earlier entries on the region that has the handle, the set has all earlier ones that touch it
    abbrev Chain : ℕ → Type 0
    Chain n = (y : ℕ) → owns (at log n).regions y h ≡ true → ((x : ℕ) (e : Entry) → x < n → slice_get log.entries x ≡ Some e → acts_on y e ≡ true → A x ≡ true) → (q : ℕ) → q < n → touches log h q ≡ true → A q ≡ true

    from_applied : (n : ℕ) → Chain n → A n ≡ true → touches log h n ≡ true → (q : ℕ) → q < n → touches log h q ≡ true → A q ≡ true
    from_applied n chain applied t q less tq = by (makes_region one.0.body) refl
      where
        one : (e : Entry) × (slice_get log.entries n ≡ Some e) × (q : ℕ) × (acts_on q e ≡ true) × ((owns (at log n).regions q h ≡ true) ⊎ (owns (at log (suc n)).regions q h ≡ true))
        one = touched_by log h n t

        fine : IsFine n (at log n).regions one.0
        fine = head_next log n one.0 one.1 lawful

        source : makes_region one.0.body ≡ false → ComesFrom (at log n).regions h one.0
        source old = elim one.4 [
          | inl o ↦ from_before n (at log n).regions one.0 fine h one.2 one.3 o
          | inr o ↦ from_after n (at log n).regions one.0 fine h old one.2 one.3 (sym (ap (λ regions. owns regions one.2 h) (regions_next log n one.0 one.1)) ∙ o)
        ]

        by : (b : Bool) → makes_region one.0.body ≡ b → A q ≡ true
        by true birth = (let x = touched_by log h q tq in closed.earlier n q one.0 x.0 applied less one.1 x.1 (waits_birth one.0 x.0 birth))
        by false old = (let y = source old in chain y.before y.had (λ x earlier under at_x acts. closed.earlier n x one.0 earlier applied under one.1 at_x (y.waits earlier acts)) q less tq)

    step : (n : ℕ) → Chain n → Chain (suc n)
    step n chain y has all q less t = by (slice_get log.entries n) refl
      where
        shorter : (x : ℕ) (e : Entry) → x < n → slice_get log.entries x ≡ Some e → acts_on y e ≡ true → A x ≡ true
        shorter x e under = all x e (omega (arith, under))

        lt_or : (q n : ℕ) → q < suc n → (q < n) ⊎ (q ≡ n)
        lt_or q n h = grind arith

        stays : owns (at log n).regions y h ≡ true → (touches log h n ≡ true → ⊥) → A q ≡ true
        stays before not_here = elim (lt_or q n less) [ inl low ↦ chain y before shorter q low t | inr same ↦ absurd (not_here (ap (touches log h) (sym same) ∙ t)) ]

        moves : (e : Entry) → slice_get log.entries n ≡ Some e → acts_on y e ≡ true → A q ≡ true
        moves e is acts = elim (lt_or q n less) [
          | inl low ↦ from_applied n chain (all n e (omega arith) is acts) (touches_by log h n e is y acts (or_second (owns (at log n).regions y h) (owns (at log (suc n)).regions y h) has)) q low t
          | inr same ↦ ap A same ∙ all n e (omega arith) is acts
        ]

        of_entry : (e : Entry) → slice_get log.entries n ≡ Some e → (b : Bool) → acts_on y e ≡ b → A q ≡ true
        of_entry e is true acts = moves e is acts
        of_entry e is false apart = stays (held_still n e is y apart has) (unmoved n e is y apart has)

        by : (o : Option Entry) → slice_get log.entries n ≡ o → A q ≡ true
        by None is = stays (ap (λ (s : Store). owns s.regions y h) (sym (at_past log n is)) ∙ has) (λ t. true≢false (sym t ∙ ap (λ o. elim o [ None ↦ false | Some e ↦ list_any (λ r. owns (at log n).regions r h || owns (at log (suc n)).regions r h) (e.region ∷ also_acted e.body) ]) is))
        by (Some e) is = of_entry e is (acts_on y e) refl

    chain : (n : ℕ) → Chain n
    chain zero = λ y has all q less t. absurd (omega (arith, less))
    chain (suc n) = step n (chain n)

    -- with an entry that touches a handle the set has each earlier one that does
    pub touch_closed : (p q : ℕ) → A p ≡ true → touches log h p ≡ true → q < p → touches log h q ≡ true → A q ≡ true
    touch_closed p q applied t less tq = from_applied p (chain p) applied t q less tq
