-- Whether an entry is ready is told by what the closed set leaves of its regions.
use Rattle.std.proofs.Common.{◌≡◌, ◌⊎◌, inl, inr, ◌∙◌, refl, sym, ap, subst, ℕ, zero, suc, ◌+◌, ◌<◌, ◌≤◌, Bool, true, false, true≢false, cond, ◌&&◌, List, [], ◌∷◌, Option, Some, None, arith, slice_get, length}
use Rattle.std.specs.Prelude.{◌==◌}
use Rattle.std.specs.List.{list_any, list_all}
use Rattle.log_codec.specs.declared.entry.Entry.{Entry}
use Rattle.log_codec.specs.declared.entry.Body.{Body}
use Rattle.log_codec.specs.declared.entry.Body.TheVariants as body
use Rattle.committed_log.specs.declared.region.Descriptor.{Descriptor}
use Rattle.committed_log.specs.Admission.{other_fault, is_unborn, is_prepared_for}
use Rattle.committed_log.specs.Applied.{acts_at, left_at, applied, first_numbers, IsClosed, is_ready, waits_for, body_waits_for}
use Rattle.committed_log.specs.Lawful.{IsLawful}
use Rattle.committed_log.specs.Laws.{region_at, is_after, is_prepared, is_source_prepared, waits_no_more}
use Rattle.committed_log.specs.Log.{Log, at}
use Rattle.committed_log.specs.Regions.{Region, Unborn, Live, Prepared, Gone, region, index_of, acts_on, also_acted, with_region, regions_step, regions_after, live_after, after_merge, merged, makes_region}
use Rattle.committed_log.proofs.Acting.{left_alone}
use Rattle.committed_log.proofs.Closed.{acts_closed, applied_cases, acting_entry, order, same_is}
use Rattle.committed_log.proofs.Entries.{head_next, regions_next}
use Rattle.committed_log.proofs.Faults.{both_true, or_either, or_first, or_second, IsFine}
use Rattle.committed_log.proofs.Growth.{gone_stays}
use Rattle.committed_log.proofs.Owners.{tested}
use Rattle.committed_log.proofs.Positions.{IsGreatest, all_first, each_first}
use Rattle.committed_log.proofs.Ranks.{rank, acts_rise, rank_grows, acts_within, same_number, region_here, index_is, no_entry, of_unborn}
use Rattle.committed_log.proofs.Ready.{CanBeApplied, ready_parts, is_ready_by, applied_before}

both : (a b : Bool) → a ≡ true → b ≡ true → (a && b) ≡ true
both true b e f = f
both false b e f = absurd (true≢false (sym e))

-- ---- a region that is prepared

-- the next entry that acts on it ends it
pub prepared_then_gone : (p : ℕ) (regions : List (ℕ × Region)) (e : Entry) → IsFine p regions e → (q target : ℕ) (d : Descriptor) → region regions q ≡ Prepared d target → acts_on q e ≡ true → region (regions_after regions e) q ≡ Gone d.index
prepared_then_gone p regions e fine q target d is acts = by (region regions e.region) refl (or_either (e.region == q) (list_any (λ acted. acted == q) (also_acted e.body)) acts)
  where
    single : (a : ℕ) → list_any (λ acted. acted == q) (a ∷ []) ≡ true → a ≡ q
    single a s = elim (or_either (a == q) false s) [ inl x ↦ same_number a q x | inr x ↦ absurd (true≢false (sym x)) ]

    own : e.region ≡ q → ⊥
    own same = no_entry p regions e fine (Prepared d target) (ap (region regions) same ∙ is) refl refl

    merge : (c : Descriptor) (source : ℕ) → source ≡ q → region (after_merge e.region c e.index source (Prepared d target) regions) q ≡ Gone d.index
    merge c source same = subst (λ z. region (with_region source (Gone d.index) (with_region e.region (Live (merged c d e.index)) regions)) z ≡ Gone d.index) same (region_here (with_region e.region (Live (merged c d e.index)) regions) source (Gone d.index))

    also : (c : Descriptor) (b : Body) → other_fault regions e.region b ≡ None → list_any (λ acted. acted == q) (also_acted b) ≡ true → region (live_after e.region c e.index b regions) q ≡ Gone d.index
    also c (body.Split middle child) fault s = absurd (true≢false (sym (tested regions child is_unborn fault) ∙ ap is_unborn (ap (region regions) (single child s) ∙ is)))
    also c (body.Commit source) fault s = ap (λ st. region (after_merge e.region c e.index source st regions) q) (ap (region regions) (single source s) ∙ is) ∙ merge c source (single source s)
    also c (body.Prepare other) fault s = absurd (true≢false (sym s))
    also c body.Remove fault s = absurd (true≢false (sym s))
    also c (body.Write ops) fault s = absurd (true≢false (sym s))
    also c body.Empty fault s = absurd (true≢false (sym s))
    also c (body.Open conf_ver version low high) fault s = absurd (true≢false (sym s))
    also c (body.Install conf_ver version low high ops) fault s = absurd (true≢false (sym s))

    no_also : (b : Body) → makes_region b ≡ true → list_any (λ acted. acted == q) (also_acted b) ≡ true → ⊥
    no_also (body.Open conf_ver version low high) m s = true≢false (sym s)
    no_also (body.Install conf_ver version low high ops) m s = true≢false (sym s)
    no_also (body.Split middle child) m s = true≢false (sym m)
    no_also (body.Commit source) m s = true≢false (sym m)
    no_also (body.Prepare other) m s = true≢false (sym m)
    no_also body.Remove m s = true≢false (sym m)
    no_also (body.Write ops) m s = true≢false (sym m)
    no_also body.Empty m s = true≢false (sym m)

    by : (st : Region) → region regions e.region ≡ st → ((e.region == q) ≡ true) ⊎ (list_any (λ acted. acted == q) (also_acted e.body) ≡ true) → region (regions_step st e regions) q ≡ Gone d.index
    by st at_own (inl same) = absurd (own (same_number e.region q same))
    by Unborn at_own (inr s) = absurd (no_also e.body (of_unborn p regions e fine at_own) s)
    by (Live c) at_own (inr s) = also c e.body fine.other s
    by (Prepared c other) at_own (inr s) = absurd (no_entry p regions e fine (Prepared c other) at_own refl refl)
    by (Gone last) at_own (inr s) = absurd (no_entry p regions e fine (Gone last) at_own refl refl)

module _ (log : Log) (lawful : IsLawful log) where
  -- it stays as it is, or is gone
  pub prepared_stays : (r p q target : ℕ) (d : Descriptor) → p ≤ q → region_at log r p ≡ Prepared d target → (region_at log r q ≡ Prepared d target) ⊎ (region_at log r q ≡ Gone d.index)
  prepared_stays r p zero target d le is = let same : p ≡ 0 = omega (arith, le) in inl (ap (region_at log r) (sym same) ∙ is)
  prepared_stays r p (suc q) target d le is = elim (le_or p q le) [
    | inl low ↦ next (prepared_stays r p q target d low is)
    | inr same ↦ inl (ap (region_at log r) (sym same) ∙ is)
  ]
    where
      le_or : (p q : ℕ) → p ≤ suc q → (p ≤ q) ⊎ (p ≡ suc q)
      le_or p q h = grind arith

      step : region_at log r q ≡ Prepared d target → (b : Bool) → acts_at log r q ≡ b → (region_at log r (suc q) ≡ Prepared d target) ⊎ (region_at log r (suc q) ≡ Gone d.index)
      step before false out = inl (left_alone log r q out ∙ before)
      step before true acts = (let e = acting_entry log r q acts in inr (ap (λ regions. region regions r) (regions_next log q e.0 e.1) ∙ prepared_then_gone q (at log q).regions e.0 (head_next log q e.0 e.1 lawful) r target d before e.2))

      next : (region_at log r q ≡ Prepared d target) ⊎ (region_at log r q ≡ Gone d.index) → (region_at log r (suc q) ≡ Prepared d target) ⊎ (region_at log r (suc q) ≡ Gone d.index)
      next (inl before) = step before (acts_at log r q) refl
      next (inr gone) = inr (gone_stays log lawful r q (suc q) d.index (omega arith) gone)

  module _ (A : ℕ → Bool) (closed : IsClosed log A) (p : ℕ) (e : Entry) (here : slice_get log.entries p ≡ Some e) where
    fine : IsFine p (at log p).regions e
    fine = head_next log p e here lawful

    abbrev Cases : ℕ → Type 0
    Cases r = (((q : ℕ) → q < length log.entries → (A q && acts_at log r q) ≡ false) × (applied log A r ≡ Unborn)) ⊎ ((q : ℕ) × IsGreatest (λ p. A p && acts_at log r p) (length log.entries) q × (applied log A r ≡ left_at log r q))

    -- an entry on a region that isn't applied is behind the last applied one
    behind : (r q x : ℕ) → IsGreatest (λ p. A p && acts_at log r p) (length log.entries) x → acts_at log r q ≡ true → A q ≡ false → x < q
    behind r q x greatest acts out = elim (order x q) [
      | inl less ↦ less
      | inr more ↦ elim more [
        | inl same ↦ absurd (true≢false (sym parts.0 ∙ ap A same ∙ out))
        | inr less ↦ absurd (true≢false (sym (acts_closed log lawful A closed r x q parts.0 parts.1 less acts) ∙ out))
      ]
    ]
      where
        parts : (A x ≡ true) × (acts_at log r x ≡ true)
        parts = both_true (A x) (acts_at log r x) greatest.passes

    acts_q : (r q : ℕ) (f : Entry) → slice_get log.entries q ≡ Some f → acts_on r f ≡ true → acts_at log r q ≡ true
    acts_q r q f is acts = ap (λ o. elim o [ None ↦ false | Some e ↦ acts_on r e ]) is ∙ acts

    -- where its region has the index before its own, all earlier ones on the region are applied
    own_applied : makes_region e.body ≡ false → is_after (index_of (applied log A e.region)) e.index ≡ true → (q : ℕ) → q < p → acts_at log e.region q ≡ true → A q ≡ true
    own_applied old after q less acts = by_test (A q) refl
      where
        live_index : (st : Region) → region (at log p).regions e.region ≡ st → (i : ℕ) → suc i ≡ e.index → rank st ≡ suc (i + i)
        live_index Unborn is i next = absurd (true≢false (sym (of_unborn p (at log p).regions e fine is) ∙ old))
        live_index (Live d) is i next = (let k = index_is p (at log p).regions e fine d is in omega (arith, k, next))
        live_index (Prepared d target) is i next = absurd (no_entry p (at log p).regions e fine (Prepared d target) is refl refl)
        live_index (Gone last) is i next = absurd (no_entry p (at log p).regions e fine (Gone last) is refl refl)

        at_least : (st : Region) (i : ℕ) → index_of st ≡ Some i → suc (i + i) ≤ rank st
        at_least Unborn i is = cc is
        at_least (Live d) i is = let k : d.index ≡ i = cc is in omega (arith, k)
        at_least (Prepared d target) i is = let k : d.index ≡ i = cc is in omega (arith, k)
        at_least (Gone last) i is = let k : last ≡ i = cc is in omega (arith, k)

        found : (o : Option ℕ) → index_of (applied log A e.region) ≡ o → is_after o e.index ≡ true → (i : ℕ) × (index_of (applied log A e.region) ≡ Some i) × (suc i ≡ e.index)
        found None is a = absurd (true≢false (sym a))
        found (Some i) is a = (i, is, same_number (suc i) e.index a)

        i : (i : ℕ) × (index_of (applied log A e.region) ≡ Some i) × (suc i ≡ e.index)
        i = found (index_of (applied log A e.region)) refl after

        no_way : A q ≡ false → Cases e.region → ⊥
        no_way out (inl none) = cc (sym i.1 ∙ ap index_of none.1)
        no_way out (inr some) =
            let later = behind e.region q some.0 some.1 acts out in
            let low = at_least (left_at log e.region some.0) i.0 (ap index_of (sym some.2) ∙ i.1) in
            let grows = rank_grows log lawful e.region (suc some.0) q later in
            let rises = acts_rise log lawful e.region q acts in
            let more = rank_grows log lawful e.region (suc q) p less in
            let end = live_index (region (at log p).regions e.region) refl i.0 i.2 in
            absurd (omega (arith, low, grows, rises, more, end))

        by_test : (b : Bool) → A q ≡ b → A q ≡ true
        by_test true is = is
        by_test false is = absurd (no_way is (applied_cases log A e.region))

    -- where the source of its commit is prepared, all earlier ones on the source are applied
    source_applied : (source : ℕ) → e.body ≡ body.Commit source → is_prepared (applied log A source) ≡ true → (q : ℕ) → q < p → acts_at log source q ≡ true → A q ≡ true
    source_applied source body_is prepared q less acts = by_test (A q) refl
      where
        at_p : is_prepared_for e.region (region_at log source p) ≡ true
        at_p = tested (at log p).regions source (is_prepared_for e.region) (sym (ap (other_fault (at log p).regions e.region) body_is) ∙ fine.other)

        not_gone : (last : ℕ) → region_at log source p ≡ Gone last → ⊥
        not_gone last is = true≢false (sym at_p ∙ ap (is_prepared_for e.region) is)

        stays : (x target : ℕ) (d : Descriptor) → x < q → region_at log source (suc x) ≡ Prepared d target → ⊥
        stays x target d later is = by (prepared_stays source (suc x) (suc q) target d (omega (arith, later)) is)
          where
            by : (region_at log source (suc q) ≡ Prepared d target) ⊎ (region_at log source (suc q) ≡ Gone d.index) → ⊥
            by (inl same) =
                let grows = rank_grows log lawful source (suc x) q later in
                let rises = acts_rise log lawful source q acts in
                let start = ap rank is in
                let after = ap rank same in
                absurd (omega (arith, grows, rises, start, after))
            by (inr gone) = not_gone d.index (gone_stays log lawful source (suc q) p d.index less gone)

        no_way : A q ≡ false → Cases source → ⊥
        no_way out (inl none) = true≢false (sym prepared ∙ ap is_prepared none.1)
        no_way out (inr some) = by (left_at log source some.0) refl (sym (ap is_prepared some.2) ∙ prepared)
          where
            by : (st : Region) → left_at log source some.0 ≡ st → is_prepared st ≡ true → ⊥
            by Unborn is f = true≢false (sym f)
            by (Live d) is f = true≢false (sym f)
            by (Gone last) is f = true≢false (sym f)
            by (Prepared d target) is f = stays some.0 target d (behind source q some.0 some.1 acts out) is

        by_test : (b : Bool) → A q ≡ b → A q ≡ true
        by_test true is = is
        by_test false is = absurd (no_way is (applied_cases log A source))

    -- ---- both ways

    pub ready_if_waits_no_more : A p ≡ false → waits_no_more log A p e ≡ true → is_ready log A p ≡ true
    ready_if_waits_no_more free met = is_ready_by log A p (record { free = free; entry = e; here = here; earlier = waited })
      where
        parts : (cond (makes_region e.body) (list_all A (first_numbers p)) (is_after (index_of (applied log A e.region)) e.index) ≡ true) × (is_source_prepared log A e.body ≡ true)
        parts = both_true (cond (makes_region e.body) (list_all A (first_numbers p)) (is_after (index_of (applied log A e.region)) e.index)) (is_source_prepared log A e.body) met

        other : (b : Body) → e.body ≡ b → makes_region b ≡ false → is_source_prepared log A b ≡ true → (q : ℕ) (f : Entry) → q < p → slice_get log.entries q ≡ Some f → body_waits_for b f ≡ true → A q ≡ true
        other (body.Commit source) is old s q f less at_q w = source_applied source is s q less (acts_q source q f at_q w)
        other (body.Open conf_ver version low high) is old s q f less at_q w = absurd (true≢false old)
        other (body.Install conf_ver version low high ops) is old s q f less at_q w = absurd (true≢false old)
        other (body.Split middle child) is old s q f less at_q w = absurd (true≢false (sym w))
        other (body.Prepare target) is old s q f less at_q w = absurd (true≢false (sym w))
        other body.Remove is old s q f less at_q w = absurd (true≢false (sym w))
        other (body.Write ops) is old s q f less at_q w = absurd (true≢false (sym w))
        other body.Empty is old s q f less at_q w = absurd (true≢false (sym w))

        by : (b : Bool) → makes_region e.body ≡ b → cond b (list_all A (first_numbers p)) (is_after (index_of (applied log A e.region)) e.index) ≡ true → (q : ℕ) (f : Entry) → q < p → slice_get log.entries q ≡ Some f → waits_for e f ≡ true → A q ≡ true
        by true m own q f less at_q w = each_first A p own q less
        by false m own q f less at_q w = elim (or_either (body_waits_for e.body f) (acts_on e.region f) w) [
          | inl x ↦ other e.body refl m parts.1 q f less at_q x
          | inr x ↦ own_applied m own q less (acts_q e.region q f at_q x)
        ]

        waited : (q : ℕ) (f : Entry) → q < p → slice_get log.entries q ≡ Some f → waits_for e f ≡ true → A q ≡ true
        waited = by (makes_region e.body) refl parts.0

    pub waits_no_more_if_ready : is_ready log A p ≡ true → waits_no_more log A p e ≡ true
    waits_no_more_if_ready ready = both (cond (makes_region e.body) (list_all A (first_numbers p)) (is_after (index_of (applied log A e.region)) e.index)) (is_source_prepared log A e.body) (own (makes_region e.body) refl) (source e.body refl)
      where
        some_is : {a b : Entry} → Some a ≡ Some b → a ≡ b
        some_is e = cc e

        can : CanBeApplied log A p
        can = ready_parts log A p ready

        earlier : (q : ℕ) (f : Entry) → q < p → slice_get log.entries q ≡ Some f → waits_for e f ≡ true → A q ≡ true
        earlier q f less is w = can.earlier q f less is (ap (λ z. waits_for z f) (some_is (sym can.here ∙ here)) ∙ w)

        get : {X : Type 0} (xs : List X) (q : ℕ) → q < length xs → (x : X) × (slice_get xs q ≡ Some x)
        get [] q less = absurd (omega (arith, less))
        get (x ∷ xs) zero less = (x, refl)
        get (x ∷ xs) (suc q) less = get xs q (omega (arith, less))

        waits_birth : (b : Body) (f : Entry) → makes_region b ≡ true → body_waits_for b f ≡ true
        waits_birth (body.Open conf_ver version low high) f m = refl
        waits_birth (body.Install conf_ver version low high ops) f m = refl
        waits_birth (body.Split middle child) f m = absurd (true≢false (sym m))
        waits_birth (body.Prepare target) f m = absurd (true≢false (sym m))
        waits_birth (body.Commit source) f m = absurd (true≢false (sym m))
        waits_birth body.Remove f m = absurd (true≢false (sym m))
        waits_birth (body.Write ops) f m = absurd (true≢false (sym m))
        waits_birth body.Empty f m = absurd (true≢false (sym m))

        acts_own : acts_at log e.region p ≡ true
        acts_own = acts_q e.region p e here (or_first (e.region == e.region) (list_any (λ acted. acted == e.region) (also_acted e.body)) (same_is e.region))

        inside : p < length log.entries
        inside = acts_within log lawful e.region p acts_own

        after_own : (st : Region) → region (at log p).regions e.region ≡ st → makes_region e.body ≡ false → is_after (index_of st) e.index ≡ true
        after_own Unborn is m = absurd (true≢false (sym (of_unborn p (at log p).regions e fine is) ∙ m))
        after_own (Live d) is m = ap (λ z. suc d.index == z) (index_is p (at log p).regions e fine d is) ∙ same_is (suc d.index)
        after_own (Prepared d target) is m = absurd (no_entry p (at log p).regions e fine (Prepared d target) is refl refl)
        after_own (Gone last) is m = absurd (no_entry p (at log p).regions e fine (Gone last) is refl refl)

        own : (b : Bool) → makes_region e.body ≡ b → cond b (list_all A (first_numbers p)) (is_after (index_of (applied log A e.region)) e.index) ≡ true
        own true m = all_first A p (λ q less. (let f = get log.entries q (omega (arith, less, inside)) in earlier q f.0 less f.1 (or_first (body_waits_for e.body f.0) (acts_on e.region f.0) (waits_birth e.body f.0 m))))
        own false m = ap (λ s. is_after (index_of s) e.index) (applied_before log A p lawful closed ready e.region acts_own) ∙ after_own (region (at log p).regions e.region) refl m

        prepared_of : (r : ℕ) (s : Region) → is_prepared_for r s ≡ true → is_prepared s ≡ true
        prepared_of r Unborn f = f
        prepared_of r (Live d) f = f
        prepared_of r (Gone last) f = f
        prepared_of r (Prepared d target) f = refl

        source : (b : Body) → e.body ≡ b → is_source_prepared log A b ≡ true
        source (body.Commit s) is =
            let acts : acts_at log s p ≡ true = acts_q s p e here (or_second (e.region == s) (list_any (λ acted. acted == s) (also_acted e.body)) (ap (λ b. list_any (λ acted. acted == s) (also_acted b)) is ∙ or_first (s == s) false (same_is s))) in
            ap is_prepared (applied_before log A p lawful closed ready s acts) ∙ prepared_of e.region (region_at log s p) (tested (at log p).regions s (is_prepared_for e.region) (sym (ap (other_fault (at log p).regions e.region) is) ∙ fine.other))
        source (body.Open conf_ver version low high) is = refl
        source (body.Install conf_ver version low high ops) is = refl
        source (body.Split middle child) is = refl
        source (body.Prepare target) is = refl
        source body.Remove is = refl
        source (body.Write ops) is = refl
        source body.Empty is = refl

-- an entry that isn't applied is ready exactly where the regions say so
pub ready_by_regions : (log : Log) → IsLawful log → (A : ℕ → Bool) → IsClosed log A → (p : ℕ) (e : Entry) → slice_get log.entries p ≡ Some e → A p ≡ false → is_ready log A p ≡ waits_no_more log A p e
ready_by_regions log lawful A closed p e here free = by (is_ready log A p) (waits_no_more log A p e) (waits_no_more_if_ready log lawful A closed p e here) (ready_if_waits_no_more log lawful A closed p e here free)
  where
    by : (a b : Bool) → (a ≡ true → b ≡ true) → (b ≡ true → a ≡ true) → a ≡ b
    by true b f g = sym (f refl)
    by false true f g = g refl
    by false false f g = refl
