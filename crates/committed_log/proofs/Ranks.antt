-- A region's states have a rank, which each entry that acts on it raises: so its index never falls, and a state tells how far the region is.
use Rattle.std.proofs.Common.{◌≡◌, ◌≢◌, ◌⊎◌, inl, inr, ◌∙◌, refl, sym, ap, subst, ℕ, zero, suc, ◌+◌, ◌<◌, ◌≤◌, Bool, true, false, true≢false, cond, ◌||◌, List, [], ◌∷◌, Option, Some, None, nat_eq, arith, slice_get, unwrap_or, length}
use Rattle.std.specs.Prelude.{◌==◌}
use Rattle.std.specs.List.{list_any}
use Rattle.std.proofs.lemmas.Option.{slice_get_within}
use Rattle.log_codec.specs.declared.entry.Entry.{Entry}
use Rattle.log_codec.specs.declared.entry.Body.{Body}
use Rattle.log_codec.specs.declared.entry.Body.TheVariants as body
use Rattle.committed_log.specs.declared.region.Descriptor.{Descriptor}
use Rattle.committed_log.specs.declared.unlawful.Unlawful.TheVariants as unlawful
use Rattle.committed_log.specs.Admission.{other_fault, is_unborn, is_live, is_prepared_for}
use Rattle.committed_log.specs.Applied.{acts_at}
use Rattle.committed_log.specs.Lawful.{IsLawful}
use Rattle.committed_log.specs.Laws.{region_at}
use Rattle.committed_log.specs.Log.{Log, at}
use Rattle.committed_log.specs.Regions.{Region, Unborn, Live, Prepared, Gone, region, with_region, index_of, regions_step, regions_after, live_after, born_after, born, after_merge, merged, acts_on, also_acted, makes_region, lower_part, upper_part}
use Rattle.committed_log.proofs.Acting.{left_alone}
use Rattle.committed_log.proofs.Disjoint.{region-with_region}
use Rattle.committed_log.proofs.Entries.{regions_next, head_next}
use Rattle.committed_log.proofs.Faults.{or_either, unless_ok, is_unborn_is, IsFine}
use Rattle.committed_log.proofs.Owners.{tested}

-- unborn, live or prepared by index, gone
abbrev pub rank : Region → ℕ
rank Unborn = 0
rank (Live d) = suc (d.index + d.index)
rank (Prepared d target) = suc (d.index + d.index)
rank (Gone index) = suc (suc (index + index))

pub same_number : (a b : ℕ) → (a == b) ≡ true → a ≡ b
same_number a b e = grind arith

itself : (n : ℕ) → nat_eq n n ≡ true
itself n = grind arith

unlike : (a b : ℕ) → a ≢ b → nat_eq a b ≡ false
unlike a b apart = by (nat_eq a b) refl
  where
    is : nat_eq a b ≡ true → a ≡ b
    is e = grind arith

    by : (c : Bool) → nat_eq a b ≡ c → nat_eq a b ≡ false
    by true e = absurd (apart (is e))
    by false e = e

pub region_here : (regions : List (ℕ × Region)) (k : ℕ) (state : Region) → region (with_region k state regions) k ≡ state
region_here regions k state = region-with_region regions k state k ∙ ap (λ b. cond b state (region regions k)) (itself k)

pub region_there : (regions : List (ℕ × Region)) (k : ℕ) (state : Region) (q : ℕ) → q ≢ k → region (with_region k state regions) q ≡ region regions q
region_there regions k state q apart = region-with_region regions k state q ∙ ap (λ b. cond b state (region regions q)) (unlike q k apart)

module _ (regions : List (ℕ × Region)) (r i : ℕ) where
  -- the entry's own region, live
  module _ (d : Descriptor) (live : region regions r ≡ Live d) (next : i ≡ suc d.index) where
    put_rises : (state : Region) → rank state ≡ suc (i + i) → rank (Live d) < rank (region (with_region r state regions) r)
    put_rises state is = let at : rank (region (with_region r state regions) r) ≡ suc (i + i) = ap rank (region_here regions r state) ∙ is in omega (arith, at, next)

    merge_rises : (source : ℕ) (state : Region) → region regions source ≡ state → is_prepared_for r state ≡ true → rank (Live d) < rank (region (after_merge r d i source state regions) r)
    merge_rises source Unborn is e = absurd (true≢false (sym e))
    merge_rises source (Live c) is e = absurd (true≢false (sym e))
    merge_rises source (Gone last) is e = absurd (true≢false (sym e))
    merge_rises source (Prepared c target) is e =
        let more : List (ℕ × Region) = with_region r (Live (merged d c i)) regions in
        let at : rank (region (with_region source (Gone c.index) more) r) ≡ suc (i + i) = ap rank (region_there more source (Gone c.index) r apart ∙ region_here regions r (Live (merged d c i))) in
        omega (arith, at, next)
      where
        apart : r ≢ source
        apart same = cc (sym live ∙ ap (region regions) same ∙ is)

    live_rises : (b : Body) → other_fault regions r b ≡ None → rank (Live d) < rank (region (live_after r d i b regions) r)
    live_rises (body.Split at child) fine =
        let is : rank (region (with_region r (Live (lower_part d at i)) (with_region child (Live (upper_part d at)) regions)) r) ≡ suc (i + i) = ap rank (region_here (with_region child (Live (upper_part d at)) regions) r (Live (lower_part d at i))) in omega (arith, is, next)
    live_rises (body.Commit source) fine = merge_rises source (region regions source) refl (tested regions source (is_prepared_for r) fine)
    live_rises (body.Prepare target) fine = put_rises _ refl
    live_rises body.Remove fine = let is : rank (region (with_region r (Gone i) regions) r) ≡ suc (suc (i + i)) = ap rank (region_here regions r (Gone i)) in omega (arith, is, next)
    live_rises (body.Write ops) fine = put_rises _ refl
    live_rises body.Empty fine = put_rises _ refl
    live_rises (body.Open conf_ver version low high) fine = put_rises _ refl
    live_rises (body.Install conf_ver version low high ops) fine = put_rises _ refl

    -- another that it acts on
    also_rises : (q : ℕ) (b : Body) → other_fault regions r b ≡ None → list_any (λ acted. acted == q) (also_acted b) ≡ true → rank (region regions q) < rank (region (live_after r d i b regions) q)
    also_rises q (body.Split at child) fine e = at_child child (child_is e)
      where
        child_is : list_any (λ acted. acted == q) (child ∷ []) ≡ true → child ≡ q
        child_is e = elim (or_either (child == q) false e) [ inl x ↦ same_number child q x | inr x ↦ absurd (true≢false (sym x)) ]

        new : (q : ℕ) → child ≡ q → region regions q ≡ Unborn
        new q same = ap (region regions) (sym same) ∙ is_unborn_is (region regions child) (tested regions child is_unborn fine)

        apart : (q : ℕ) → child ≡ q → q ≢ r
        apart q same at_r = cc (sym (new q same) ∙ ap (region regions) at_r ∙ live)

        at_child : (child' : ℕ) → child ≡ q → rank (region regions q) < rank (region (with_region r (Live (lower_part d at i)) (with_region child (Live (upper_part d at)) regions)) q)
        at_child child' same =
            let before : rank (region regions q) ≡ 0 = ap rank (new q same) in
            let after : rank (region (with_region r (Live (lower_part d at i)) (with_region child (Live (upper_part d at)) regions)) q) ≡ 11 =
            ap rank (region_there (with_region child (Live (upper_part d at)) regions) r (Live (lower_part d at i)) q (apart q same)) ∙ ap (λ z. rank (region (with_region child (Live (upper_part d at)) regions) z)) (sym same) ∙ ap rank (region_here regions child (Live (upper_part d at))) in
            omega (arith, before, after)
    also_rises q (body.Commit source) fine e = by (region regions source) refl (tested regions source (is_prepared_for r) fine)
      where
        source_is : list_any (λ acted. acted == q) (source ∷ []) ≡ true → source ≡ q
        source_is e = elim (or_either (source == q) false e) [ inl x ↦ same_number source q x | inr x ↦ absurd (true≢false (sym x)) ]

        by : (state : Region) → region regions source ≡ state → is_prepared_for r state ≡ true → rank (region regions q) < rank (region (after_merge r d i source state regions) q)
        by Unborn is f = absurd (true≢false (sym f))
        by (Live c) is f = absurd (true≢false (sym f))
        by (Gone last) is f = absurd (true≢false (sym f))
        by (Prepared c target) is f =
            let more : List (ℕ × Region) = with_region r (Live (merged d c i)) regions in
            let before : rank (region regions q) ≡ suc (c.index + c.index) = ap (λ z. rank (region regions z)) (sym (source_is e)) ∙ ap rank is in
            let after : rank (region (with_region source (Gone c.index) more) q) ≡ suc (suc (c.index + c.index)) = ap (λ z. rank (region (with_region source (Gone c.index) more) z)) (sym (source_is e)) ∙ ap rank (region_here more source (Gone c.index)) in
            omega (arith, before, after)
    also_rises q (body.Prepare target) fine e = absurd (true≢false (sym e))
    also_rises q body.Remove fine e = absurd (true≢false (sym e))
    also_rises q (body.Write ops) fine e = absurd (true≢false (sym e))
    also_rises q body.Empty fine e = absurd (true≢false (sym e))
    also_rises q (body.Open conf_ver version low high) fine e = absurd (true≢false (sym e))
    also_rises q (body.Install conf_ver version low high ops) fine e = absurd (true≢false (sym e))

  -- the entry's own region, unborn
  born_rises : (b : Body) → makes_region b ≡ true → 0 < rank (region (born_after r i b regions) r)
  born_rises (body.Open conf_ver version low high) e = let is : rank (region (with_region r (born conf_ver version low high i) regions) r) ≡ suc (i + i) = ap rank (region_here regions r (born conf_ver version low high i)) in omega (arith, is)
  born_rises (body.Install conf_ver version low high ops) e = let is : rank (region (with_region r (born conf_ver version low high i) regions) r) ≡ suc (i + i) = ap rank (region_here regions r (born conf_ver version low high i)) in omega (arith, is)
  born_rises (body.Split at child) e = absurd (true≢false (sym e))
  born_rises (body.Prepare target) e = absurd (true≢false (sym e))
  born_rises (body.Commit source) e = absurd (true≢false (sym e))
  born_rises body.Remove e = absurd (true≢false (sym e))
  born_rises (body.Write ops) e = absurd (true≢false (sym e))
  born_rises body.Empty e = absurd (true≢false (sym e))

  pub born_also : (q : ℕ) (b : Body) → makes_region b ≡ true → list_any (λ acted. acted == q) (also_acted b) ≡ true → ⊥
  born_also q (body.Open conf_ver version low high) m e = true≢false (sym e)
  born_also q (body.Install conf_ver version low high ops) m e = true≢false (sym e)
  born_also q (body.Split at child) m e = true≢false (sym m)
  born_also q (body.Prepare target) m e = true≢false (sym m)
  born_also q (body.Commit source) m e = true≢false (sym m)
  born_also q body.Remove m e = true≢false (sym m)
  born_also q (body.Write ops) m e = true≢false (sym m)
  born_also q body.Empty m e = true≢false (sym m)

-- ---- an entry without a fault

module _ (p : ℕ) (regions : List (ℕ × Region)) (e : Entry) (fine : IsFine p regions e) where
  abbrev wants : Bool → Region → Bool
  wants makes = cond makes is_unborn is_live

  own_state : wants (makes_region e.body) (region regions e.region) ≡ true
  own_state = tested regions e.region (wants (makes_region e.body)) fine.own

  -- an entry of a live region makes none, and one of an unborn region does
  pub of_live : (d : Descriptor) → region regions e.region ≡ Live d → makes_region e.body ≡ false
  of_live d is = by (makes_region e.body) refl (sym (ap (wants (makes_region e.body)) is) ∙ own_state)
    where
      by : (b : Bool) → makes_region e.body ≡ b → wants b (Live d) ≡ true → makes_region e.body ≡ false
      by true m w = absurd (true≢false (sym w))
      by false m w = m

  pub of_unborn : region regions e.region ≡ Unborn → makes_region e.body ≡ true
  of_unborn is = by (makes_region e.body) refl (sym (ap (wants (makes_region e.body)) is) ∙ own_state)
    where
      by : (b : Bool) → makes_region e.body ≡ b → wants b Unborn ≡ true → makes_region e.body ≡ true
      by true m w = m
      by false m w = absurd (true≢false (sym w))

  pub no_entry : (state : Region) → region regions e.region ≡ state → is_unborn state ≡ false → is_live state ≡ false → ⊥
  no_entry state is u l = by (makes_region e.body) (sym (ap (wants (makes_region e.body)) is) ∙ own_state)
    where
      by : (b : Bool) → wants b state ≡ true → ⊥
      by true w = true≢false (sym w ∙ u)
      by false w = true≢false (sym w ∙ l)

  -- the index is the next one
  pub index_is : (d : Descriptor) → region regions e.region ≡ Live d → e.index ≡ suc d.index
  index_is d is = same_number e.index (suc d.index) (ap (λ s. e.index == suc (unwrap_or (index_of s) 0)) (sym is) ∙ second (makes_region e.body) (of_live d is) (unless_ok (makes_region e.body || e.index == suc (unwrap_or (index_of (region regions e.region)) 0)) (unlawful.Index (suc (unwrap_or (index_of (region regions e.region)) 0))) fine.index))
    where
      second : (a : Bool) → a ≡ false → (a || e.index == suc (unwrap_or (index_of (region regions e.region)) 0)) ≡ true → (e.index == suc (unwrap_or (index_of (region regions e.region)) 0)) ≡ true
      second true f h = absurd (true≢false f)
      second false f h = h

  pub rank_rises : (q : ℕ) → acts_on q e ≡ true → rank (region regions q) < rank (region (regions_after regions e) q)
  rank_rises q acts = by (region regions e.region) refl (or_either (e.region == q) (list_any (λ acted. acted == q) (also_acted e.body)) acts)
    where
      at_own : (state : Region) → (q : ℕ) → e.region ≡ q → rank (region regions e.region) < rank (region (regions_step state e regions) e.region) → rank (region regions q) < rank (region (regions_step state e regions) q)
      at_own state q same less = subst (λ z. rank (region regions z) < rank (region (regions_step state e regions) z)) same less

      by : (state : Region) → region regions e.region ≡ state → ((e.region == q) ≡ true) ⊎ (list_any (λ acted. acted == q) (also_acted e.body) ≡ true) → rank (region regions q) < rank (region (regions_step state e regions) q)
      by Unborn is (inl own) = at_own Unborn q (same_number e.region q own) (let before : rank (region regions e.region) ≡ 0 = ap rank is in let after = born_rises regions e.region e.index e.body (of_unborn is) in omega (arith, before, after))
      by Unborn is (inr also) = absurd (born_also regions e.region e.index q e.body (of_unborn is) also)
      by (Live d) is (inl own) = at_own (Live d) q (same_number e.region q own) (subst (λ s. rank s < rank (region (live_after e.region d e.index e.body regions) e.region)) (sym is) (live_rises regions e.region e.index d is (index_is d is) e.body fine.other))
      by (Live d) is (inr also) = also_rises regions e.region e.index d is (index_is d is) q e.body fine.other also
      by (Prepared d target) is either = absurd (no_entry (Prepared d target) is refl refl)
      by (Gone last) is either = absurd (no_entry (Gone last) is refl refl)

-- ---- the states of a region along a lawful log

module _ (log : Log) (lawful : IsLawful log) (r : ℕ) where
  pub acts_rise : (p : ℕ) → acts_at log r p ≡ true → rank (region_at log r p) < rank (region_at log r (suc p))
  acts_rise p acts = by (slice_get log.entries p) refl acts
    where
      by : (o : Option Entry) → slice_get log.entries p ≡ o → elim o [ None ↦ false | Some e ↦ acts_on r e ] ≡ true → rank (region_at log r p) < rank (region_at log r (suc p))
      by None is e = absurd (true≢false (sym e))
      by (Some e) is acts = subst (λ regions. rank (region_at log r p) < rank (region regions r)) (sym (regions_next log p e is)) (rank_rises p (at log p).regions e (head_next log p e is lawful) r acts)

  pub never_falls : (p : ℕ) → rank (region_at log r p) ≤ rank (region_at log r (suc p))
  never_falls p = by (acts_at log r p) refl
    where
      by : (b : Bool) → acts_at log r p ≡ b → rank (region_at log r p) ≤ rank (region_at log r (suc p))
      by true is = let less = acts_rise p is in omega (arith, less)
      by false is = let same = ap rank (left_alone log r p is) in omega (arith, same)

  le_or : (p q : ℕ) → p ≤ suc q → (p ≤ q) ⊎ (p ≡ suc q)
  le_or p q h = grind arith

  pub rank_grows : (p q : ℕ) → p ≤ q → rank (region_at log r p) ≤ rank (region_at log r q)
  rank_grows p zero le = let same : p ≡ 0 = omega (arith, le) in let is = ap (λ z. rank (region_at log r z)) same in omega (arith, is)
  rank_grows p (suc q) le = elim (le_or p q le) [
    | inl low ↦ let before = rank_grows p q low in let step = never_falls q in omega (arith, before, step)
    | inr same ↦ let is = ap (λ z. rank (region_at log r z)) same in omega (arith, is)
  ]

  -- an entry acts only within the log
  pub acts_within : (p : ℕ) → acts_at log r p ≡ true → p < length log.entries
  acts_within p acts = by (slice_get log.entries p) refl acts
    where
      by : (o : Option Entry) → slice_get log.entries p ≡ o → elim o [ None ↦ false | Some e ↦ acts_on r e ] ≡ true → p < length log.entries
      by None is e = absurd (true≢false (sym e))
      by (Some e) is acts = slice_get_within log.entries p e is
