-- Which entries make a region and end it, and so what a set of applied entries leaves of it.
use Rattle.std.proofs.Common.{◌≡◌, ◌≢◌, ◌⊎◌, inl, inr, ◌∙◌, refl, sym, ap, subst, ℕ, suc, ◌<◌, ◌≤◌, ℤ, Bool, true, false, true≢false, ◌&&◌, ◌||◌, List, Option, Some, None, find, length, arith}
use Rattle.std.specs.List.{list_any}
use Rattle.std.specs.Prelude.{◌==◌}
use Rattle.log_codec.specs.declared.entry.Body.{Body}
use Rattle.log_codec.specs.declared.entry.Body.TheVariants as body
use Rattle.log_codec.specs.declared.entry.Entry.{Entry}
use Rattle.committed_log.specs.declared.region.Descriptor.{Descriptor}
use Rattle.committed_log.specs.Admission.{other_fault, is_unborn, is_prepared_for}
use Rattle.committed_log.specs.Applied.{IsClosed, acts_at, left_at, applied, first_numbers, entry_is}
use Rattle.committed_log.specs.Lawful.{IsLawful}
use Rattle.committed_log.specs.Laws.{region_at}
use Rattle.committed_log.specs.Log.{Log, at}
use Rattle.committed_log.specs.Regions.{region, acts_on, also_acted, after_merge, born, born_after, live_after, lower_part, makes_region, merged, raised, regions_after, regions_step, upper_part, with_region}
use Rattle.committed_log.specs.declared.region.Region.{Region}
use Rattle.committed_log.specs.declared.region.Region.TheVariants.{Unborn, Live, Prepared, Gone}
use Rattle.committed_log.proofs.Closed.{acting_entry, acts_closed, applied_cases, entry_holds, same_is}
use Rattle.committed_log.proofs.Entries.{head_next, regions_next}
use Rattle.committed_log.proofs.Faults.{IsFine, both_true, is_unborn_is, or_either, or_first, or_second}
use Rattle.committed_log.proofs.Growth.{gone_stays}
use Rattle.committed_log.proofs.Owners.{tested}
use Rattle.committed_log.proofs.Places.{last_acting}
use Rattle.committed_log.proofs.Positions.{IsGreatest, IsLeast, Finds, find_least}
use Rattle.committed_log.proofs.Ranks.{acts_rise, acts_within, no_entry, of_unborn, rank, region_here, region_there, same_number}
use Rattle.log_laws.specs.Sets.{ends, ends_at, is_child, is_removed, makes, makes_at}
use Rattle.log_laws.proofs.Small.{and_true, or_off, order}

-- ---- they act on it

child_acts : (r : ℕ) (b : Body) → is_child r b ≡ true → list_any (λ acted. acted == r) (also_acted b) ≡ true
child_acts r (body.Split at child) e = or_first (child == r) false e
child_acts r (body.Commit source) e = absurd (true≢false (sym e))
child_acts r (body.Prepare target) e = absurd (true≢false (sym e))
child_acts r body.Remove e = absurd (true≢false (sym e))
child_acts r (body.Write ops) e = absurd (true≢false (sym e))
child_acts r body.Empty e = absurd (true≢false (sym e))
child_acts r (body.Open conf_ver version low high) e = absurd (true≢false (sym e))
child_acts r (body.Install conf_ver version low high ops) e = absurd (true≢false (sym e))

makes_acts : (r : ℕ) (e : Entry) → makes r e ≡ true → acts_on r e ≡ true
makes_acts r e m = by (or_either (e.region == r && makes_region e.body) (is_child r e.body) m)
  where
    by : ((e.region == r && makes_region e.body) ≡ true) ⊎ (is_child r e.body ≡ true) → acts_on r e ≡ true
    by (inl own) = or_first (e.region == r) (list_any (λ acted. acted == r) (also_acted e.body)) (both_true (e.region == r) (makes_region e.body) own).0
    by (inr child) = or_second (e.region == r) (list_any (λ acted. acted == r) (also_acted e.body)) (child_acts r e.body child)

ends_acts : (r : ℕ) (e : Entry) → ends r e ≡ true → acts_on r e ≡ true
ends_acts r e m = by e.body m
  where
    by : (b : Body) → is_removed r e.region b ≡ true → (e.region == r || list_any (λ acted. acted == r) (also_acted b)) ≡ true
    by body.Remove x = or_first (e.region == r) false x
    by (body.Commit source) x = or_second (e.region == r) (source == r || false) (or_first (source == r) false x)
    by (body.Split at child) x = absurd (true≢false (sym x))
    by (body.Prepare target) x = absurd (true≢false (sym x))
    by (body.Write ops) x = absurd (true≢false (sym x))
    by body.Empty x = absurd (true≢false (sym x))
    by (body.Open conf_ver version low high) x = absurd (true≢false (sym x))
    by (body.Install conf_ver version low high ops) x = absurd (true≢false (sym x))

-- ---- one entry

single_is : (a q : ℕ) → (a == q || false) ≡ true → a ≡ q
single_is a q x = same_number a q (sym (or_off (a == q)) ∙ x)

module _ (p : ℕ) (regions : List (ℕ × Region)) (e : Entry) (fine : IsFine p regions e) (r : ℕ) where
  -- an entry on a region that isn't born makes it
  pub unborn_made : region regions r ≡ Unborn → acts_on r e ≡ true → makes r e ≡ true
  unborn_made unborn acts = by (or_either (e.region == r) (list_any (λ acted. acted == r) (also_acted e.body)) acts)
    where
      also : (b : Body) → other_fault regions e.region b ≡ None → list_any (λ acted. acted == r) (also_acted b) ≡ true → is_child r b ≡ true
      also (body.Split at child) fault x = sym (or_off (child == r)) ∙ x
      also (body.Commit source) fault x = absurd (true≢false (sym (tested regions source (is_prepared_for e.region) fault) ∙ ap (is_prepared_for e.region) (ap (region regions) (single_is source r x) ∙ unborn)))
      also (body.Prepare target) fault x = absurd (true≢false (sym x))
      also body.Remove fault x = absurd (true≢false (sym x))
      also (body.Write ops) fault x = absurd (true≢false (sym x))
      also body.Empty fault x = absurd (true≢false (sym x))
      also (body.Open conf_ver version low high) fault x = absurd (true≢false (sym x))
      also (body.Install conf_ver version low high ops) fault x = absurd (true≢false (sym x))

      by : ((e.region == r) ≡ true) ⊎ (list_any (λ acted. acted == r) (also_acted e.body) ≡ true) → makes r e ≡ true
      by (inl own) = or_first (e.region == r && makes_region e.body) (is_child r e.body) (and_true (e.region == r) (makes_region e.body) own (of_unborn p regions e fine (ap (region regions) (same_number e.region r own) ∙ unborn)))
      by (inr other) = or_second (e.region == r && makes_region e.body) (is_child r e.body) (also e.body fine.other other)

-- ---- after an entry that ends it a region is gone

module _ (regions : List (ℕ × Region)) (r i : ℕ) (d : Descriptor) where
  source_gone : (source : ℕ) (state : Region) → is_prepared_for r state ≡ true → (index : ℕ) × (region (after_merge r d i source state regions) source ≡ Gone index)
  source_gone source (Prepared c target) e = (c.index, region_here (with_region r (Live (merged d c i)) regions) source (Gone c.index))
  source_gone source Unborn e = absurd (true≢false (sym e))
  source_gone source (Live c) e = absurd (true≢false (sym e))
  source_gone source (Gone last) e = absurd (true≢false (sym e))

  live_ended : (b : Body) → other_fault regions r b ≡ None → (q : ℕ) → is_removed q r b ≡ true → (index : ℕ) × (region (live_after r d i b regions) q ≡ Gone index)
  live_ended body.Remove fault q x = (i, subst (λ z. region (with_region r (Gone i) regions) z ≡ Gone i) (same_number r q x) (region_here regions r (Gone i)))
  live_ended (body.Commit source) fault q x =
      subst (λ z. (index : ℕ) × (region (after_merge r d i source (region regions source) regions) z ≡ Gone index)) (same_number source q x)
      (source_gone source (region regions source) (tested regions source (is_prepared_for r) fault))
  live_ended (body.Split at child) fault q x = absurd (true≢false (sym x))
  live_ended (body.Prepare target) fault q x = absurd (true≢false (sym x))
  live_ended (body.Write ops) fault q x = absurd (true≢false (sym x))
  live_ended body.Empty fault q x = absurd (true≢false (sym x))
  live_ended (body.Open conf_ver version low high) fault q x = absurd (true≢false (sym x))
  live_ended (body.Install conf_ver version low high ops) fault q x = absurd (true≢false (sym x))

removes_none : (q own : ℕ) (b : Body) → is_removed q own b ≡ true → makes_region b ≡ false
removes_none q own body.Remove x = refl
removes_none q own (body.Commit source) x = refl
removes_none q own (body.Split at child) x = refl
removes_none q own (body.Prepare target) x = refl
removes_none q own (body.Write ops) x = refl
removes_none q own body.Empty x = refl
removes_none q own (body.Open conf_ver version low high) x = absurd (true≢false (sym x))
removes_none q own (body.Install conf_ver version low high ops) x = absurd (true≢false (sym x))

ended_gone : (p : ℕ) (regions : List (ℕ × Region)) (e : Entry) → IsFine p regions e → (r : ℕ) → ends r e ≡ true → (index : ℕ) × (region (regions_after regions e) r ≡ Gone index)
ended_gone p regions e fine r x = by (region regions e.region) refl
  where
    by : (s : Region) → region regions e.region ≡ s → (index : ℕ) × (region (regions_step s e regions) r ≡ Gone index)
    by Unborn is = absurd (true≢false (sym (of_unborn p regions e fine is) ∙ removes_none r e.region e.body x))
    by (Live d) is = live_ended regions e.region e.index d e.body fine.other r x
    by (Prepared d target) is = absurd (no_entry p regions e fine (Prepared d target) is refl refl)
    by (Gone last) is = absurd (no_entry p regions e fine (Gone last) is refl refl)

-- ---- a region that an entry leaves gone was ended by it

module _ (regions : List (ℕ × Region)) (own i last : ℕ) where
  live_not : (d : Descriptor) → Live d ≡ Gone last → ⊥
  live_not d e = cc e

  prepared_not : (d : Descriptor) (target : ℕ) → Prepared d target ≡ Gone last → ⊥
  prepared_not d target e = cc e

  put_live : (s : Region) (more : List (ℕ × Region)) → (s ≡ Gone last → ⊥) → region (with_region own s more) own ≡ Gone last → ⊥
  put_live s more never gone = never (sym (region_here more own s) ∙ gone)

  -- its own region, unborn
  born_gone : (b : Body) → makes_region b ≡ true → region (born_after own i b regions) own ≡ Gone last → ⊥
  born_gone (body.Open conf_ver version low high) m gone = put_live (born conf_ver version low high i) regions (live_not (record { range = record { low = low; high = high }; epoch = record { conf_ver = conf_ver; version = version }; index = i })) gone
  born_gone (body.Install conf_ver version low high ops) m gone = put_live (born conf_ver version low high i) regions (live_not (record { range = record { low = low; high = high }; epoch = record { conf_ver = conf_ver; version = version }; index = i })) gone
  born_gone (body.Split at child) m gone = true≢false (sym m)
  born_gone (body.Prepare target) m gone = true≢false (sym m)
  born_gone (body.Commit source) m gone = true≢false (sym m)
  born_gone body.Remove m gone = true≢false (sym m)
  born_gone (body.Write ops) m gone = true≢false (sym m)
  born_gone body.Empty m gone = true≢false (sym m)

  module _ (d : Descriptor) (live : region regions own ≡ Live d) where
    target_lives : (source : ℕ) (s : Region) → region regions source ≡ s → is_prepared_for own s ≡ true → region (after_merge own d i source s regions) own ≡ Gone last → ⊥
    target_lives source (Prepared c target) is e gone = live_not (merged d c i) (sym (region_there (with_region own (Live (merged d c i)) regions) source (Gone c.index) own apart ∙ region_here regions own (Live (merged d c i))) ∙ gone)
      where
        apart : own ≢ source
        apart same = cc (sym live ∙ ap (region regions) same ∙ is)
    target_lives source Unborn is e gone = true≢false (sym e)
    target_lives source (Live c) is e gone = true≢false (sym e)
    target_lives source (Gone x) is e gone = true≢false (sym e)

    -- its own region, live
    own_gone : (b : Body) → other_fault regions own b ≡ None → region (live_after own d i b regions) own ≡ Gone last → is_removed own own b ≡ true
    own_gone body.Remove fault gone = same_is own
    own_gone (body.Split at child) fault gone = absurd (put_live (Live (lower_part d at i)) (with_region child (Live (upper_part d at)) regions) (live_not (lower_part d at i)) gone)
    own_gone (body.Prepare target) fault gone = absurd (put_live (Prepared (record { range = d.range; epoch = raised d.epoch 1 1; index = i }) target) regions (prepared_not (record { range = d.range; epoch = raised d.epoch 1 1; index = i }) target) gone)
    own_gone (body.Commit source) fault gone = absurd (target_lives source (region regions source) refl (tested regions source (is_prepared_for own) fault) gone)
    own_gone (body.Write ops) fault gone = absurd (put_live (Live (record d { index = i })) regions (live_not (record d { index = i })) gone)
    own_gone body.Empty fault gone = absurd (put_live (Live (record d { index = i })) regions (live_not (record d { index = i })) gone)
    own_gone (body.Open conf_ver version low high) fault gone = absurd (put_live (Live (record d { index = i })) regions (live_not (record d { index = i })) gone)
    own_gone (body.Install conf_ver version low high ops) fault gone = absurd (put_live (Live (record d { index = i })) regions (live_not (record d { index = i })) gone)

    child_lives : (middle : ℤ) (child : ℕ) → region regions child ≡ Unborn → region (with_region own (Live (lower_part d middle i)) (with_region child (Live (upper_part d middle)) regions)) child ≡ Gone last → ⊥
    child_lives middle child unborn gone = live_not (upper_part d middle) (sym (region_there (with_region child (Live (upper_part d middle)) regions) own (Live (lower_part d middle i)) child apart ∙ region_here regions child (Live (upper_part d middle))) ∙ gone)
      where
        apart : child ≢ own
        apart same = cc (sym unborn ∙ ap (region regions) same ∙ live)

    -- another that it acts on
    other_gone : (b : Body) → other_fault regions own b ≡ None → (q : ℕ) → list_any (λ acted. acted == q) (also_acted b) ≡ true → region (live_after own d i b regions) q ≡ Gone last → is_removed q own b ≡ true
    other_gone (body.Commit source) fault q x gone = sym (or_off (source == q)) ∙ x
    other_gone (body.Split at child) fault q x gone = absurd (child_lives at child (is_unborn_is (region regions child) (tested regions child is_unborn fault)) (subst (λ z. region (with_region own (Live (lower_part d at i)) (with_region child (Live (upper_part d at)) regions)) z ≡ Gone last) (sym (single_is child q x)) gone))
    other_gone (body.Prepare target) fault q x gone = absurd (true≢false (sym x))
    other_gone body.Remove fault q x gone = absurd (true≢false (sym x))
    other_gone (body.Write ops) fault q x gone = absurd (true≢false (sym x))
    other_gone body.Empty fault q x gone = absurd (true≢false (sym x))
    other_gone (body.Open conf_ver version low high) fault q x gone = absurd (true≢false (sym x))
    other_gone (body.Install conf_ver version low high ops) fault q x gone = absurd (true≢false (sym x))

also_born : (b : Body) (q : ℕ) → makes_region b ≡ true → list_any (λ acted. acted == q) (also_acted b) ≡ true → ⊥
also_born (body.Open conf_ver version low high) q m x = true≢false (sym x)
also_born (body.Install conf_ver version low high ops) q m x = true≢false (sym x)
also_born (body.Split at child) q m x = true≢false (sym m)
also_born (body.Prepare target) q m x = true≢false (sym m)
also_born (body.Commit source) q m x = true≢false (sym m)
also_born body.Remove q m x = true≢false (sym m)
also_born (body.Write ops) q m x = true≢false (sym m)
also_born body.Empty q m x = true≢false (sym m)

gone_ended : (p : ℕ) (regions : List (ℕ × Region)) (e : Entry) → IsFine p regions e → (r last : ℕ) → acts_on r e ≡ true → region (regions_after regions e) r ≡ Gone last → ends r e ≡ true
gone_ended p regions e fine r last acts gone = by (region regions e.region) refl gone (or_either (e.region == r) (list_any (λ acted. acted == r) (also_acted e.body)) acts)
  where
    at_own : (s : Region) → e.region ≡ r → region (regions_step s e regions) r ≡ Gone last → region (regions_step s e regions) e.region ≡ Gone last
    at_own s same gone = ap (region (regions_step s e regions)) same ∙ gone

    by : (s : Region) → region regions e.region ≡ s → region (regions_step s e regions) r ≡ Gone last → ((e.region == r) ≡ true) ⊎ (list_any (λ acted. acted == r) (also_acted e.body) ≡ true) → ends r e ≡ true
    by Unborn is gone (inl own) = absurd (born_gone regions e.region e.index last e.body (of_unborn p regions e fine is) (at_own Unborn (same_number e.region r own) gone))
    by Unborn is gone (inr also) = absurd (also_born e.body r (of_unborn p regions e fine is) also)
    by (Live d) is gone (inl own) = (let same = same_number e.region r own in subst (λ z. is_removed z e.region e.body ≡ true) same (own_gone regions e.region e.index last d is e.body fine.other (at_own (Live d) same gone)))
    by (Live d) is gone (inr also) = other_gone regions e.region e.index last d is e.body fine.other r also gone
    by (Prepared d target) is gone either = absurd (no_entry p regions e fine (Prepared d target) is refl refl)
    by (Gone x) is gone either = absurd (no_entry p regions e fine (Gone x) is refl refl)

-- ---- at a set

module _ (log : Log) (lawful : IsLawful log) (A : ℕ → Bool) (r : ℕ) where
  abbrev Cases : Type 0
  Cases = (((q : ℕ) → q < length log.entries → (A q && acts_at log r q) ≡ false) × (applied log A r ≡ Unborn)) ⊎ ((q : ℕ) × IsGreatest (λ p. A p && acts_at log r p) (length log.entries) q × (applied log A r ≡ left_at log r q))

  acts_by : (test : Entry → Bool) → ((e : Entry) → test e ≡ true → acts_on r e ≡ true) → (p : ℕ) → entry_is log test p ≡ true → acts_at log r p ≡ true
  acts_by test acts p x = (let e = entry_holds log test p x in ap (λ o. elim o [ None ↦ false | Some e ↦ acts_on r e ]) e.1 ∙ acts e.0 e.2)

  passed_by : (p : ℕ) → A p ≡ true → acts_at log r p ≡ true → (A p && acts_at log r p) ≡ true
  passed_by p a acts = and_true (A p) (acts_at log r p) a acts

  -- of a region that isn't born no applied entry made it
  pub unmade : applied log A r ≡ Unborn → (p : ℕ) → A p ≡ true → makes_at log r p ≡ false
  unmade unborn p a = by (makes_at log r p) refl (applied_cases log A r)
    where
      rises : (q : ℕ) → acts_at log r q ≡ true → left_at log r q ≡ Unborn → ⊥
      rises q acts is =
          let less = acts_rise log lawful r q acts in
          let none : rank (left_at log r q) ≡ 0 = ap rank is in
          absurd (omega (arith, less, none))

      by : (b : Bool) → makes_at log r p ≡ b → Cases → makes_at log r p ≡ false
      by false is cases = is
      by true is (inl none) = (let acts = acts_by (makes r) (makes_acts r) p is in absurd (true≢false (sym (passed_by p a acts) ∙ none.0 p (acts_within log lawful r p acts))))
      by true is (inr some) = absurd (rises some.0 (both_true (A some.0) (acts_at log r some.0) some.1.passes).1 (sym some.2 ∙ unborn))

  -- an applied entry that ends a region leaves it gone
  pub ended : (p : ℕ) → A p ≡ true → ends_at log r p ≡ true → (index : ℕ) × (applied log A r ≡ Gone index)
  ended p a x = by (applied_cases log A r)
    where
      acts : acts_at log r p ≡ true
      acts = acts_by (ends r) (ends_acts r) p x

      gone_here : (index : ℕ) × (left_at log r p ≡ Gone index)
      gone_here =
          let e = entry_holds log (ends r) p x in
          let g = ended_gone p (at log p).regions e.0 (head_next log p e.0 e.1 lawful) r e.2 in
          (g.0, ap (λ regions. region regions r) (regions_next log p e.0 e.1) ∙ g.1)

      by : Cases → (index : ℕ) × (applied log A r ≡ Gone index)
      by (inl none) = absurd (true≢false (sym (passed_by p a acts) ∙ none.0 p (acts_within log lawful r p acts)))
      by (inr some) = (gone_here.0, some.2 ∙ gone_stays log lawful r (suc p) (suc some.0) gone_here.0 (up (order p some.0)) gone_here.1)
        where
          up : (p ≤ some.0) ⊎ (some.0 < p) → suc p ≤ suc some.0
          up (inl le) = omega (arith, le)
          up (inr less) = absurd (true≢false (sym (passed_by p a acts) ∙ some.1.later p less (acts_within log lawful r p acts)))

  -- and one that is gone was ended by an applied entry
  pub was_ended : (last : ℕ) → applied log A r ≡ Gone last → (p : ℕ) × (A p ≡ true) × (ends_at log r p ≡ true)
  was_ended last gone = by (applied_cases log A r)
    where
      at_last : (q : ℕ) → acts_at log r q ≡ true → left_at log r q ≡ Gone last → ends_at log r q ≡ true
      at_last q acts is =
          let e = acting_entry log r q acts in
          ap (λ o. elim o [ None ↦ false | Some e ↦ ends r e ]) e.1 ∙ gone_ended q (at log q).regions e.0 (head_next log q e.0 e.1 lawful) r last e.2 (sym (ap (λ regions. region regions r) (regions_next log q e.0 e.1)) ∙ is)

      by : Cases → (p : ℕ) × (A p ≡ true) × (ends_at log r p ≡ true)
      by (inl none) = cc (sym none.1 ∙ gone)
      by (inr some) = (let parts = both_true (A some.0) (acts_at log r some.0) some.1.passes in (some.0, parts.0, at_last some.0 parts.1 (sym some.2 ∙ gone)))

  -- a region that no entry of a closed set made isn't born
  pub still_unborn : IsClosed log A → ((p : ℕ) → A p ≡ true → makes_at log r p ≡ false) → applied log A r ≡ Unborn
  still_unborn closed none = by (applied_cases log A r)
    where
      -- the first entry that acts on it makes it
      made : (x : ℕ) → IsLeast (acts_at log r) (length log.entries) x → makes_at log r x ≡ true
      made x least =
          let e = acting_entry log r x least.passes in
          ap (λ o. elim o [ None ↦ false | Some e ↦ makes r e ]) e.1 ∙ unborn_made x (at log x).regions e.0 (head_next log x e.0 e.1 lawful) r (fresh (last_acting log lawful r x)) e.2
        where
          fresh : (((q : ℕ) → q < x → acts_at log r q ≡ false) × (region_at log r x ≡ Unborn)) ⊎ ((q : ℕ) × IsGreatest (acts_at log r) x q × (region_at log r x ≡ left_at log r q)) → region_at log r x ≡ Unborn
          fresh (inl none) = none.1
          fresh (inr some) = absurd (true≢false (sym some.1.passes ∙ least.first some.0 some.1.below))

      in_set : (q : ℕ) → A q ≡ true → acts_at log r q ≡ true → (x : ℕ) → IsLeast (acts_at log r) (length log.entries) x → A x ≡ true
      in_set q a acts x least = at_or (order x q)
        where
          not_same : x ≤ q → (q ≤ x) ⊎ (x < q) → A x ≡ true
          not_same le (inl up) = (let same : q ≡ x = omega (arith, le, up) in subst (λ z. A z ≡ true) same a)
          not_same le (inr less) = acts_closed log lawful A closed r q x a acts less least.passes

          at_or : (x ≤ q) ⊎ (q < x) → A x ≡ true
          at_or (inl le) = not_same le (order q x)
          at_or (inr less) = absurd (true≢false (sym acts ∙ least.first q less))

      never : (q : ℕ) → A q ≡ true → acts_at log r q ≡ true → q < length log.entries → (o : Option ℕ) → Finds (acts_at log r) (length log.entries) o → ⊥
      never q a acts low None finds = true≢false (sym acts ∙ finds q low)
      never q a acts low (Some x) least = true≢false (sym (made x least) ∙ none x (in_set q a acts x least))

      by : Cases → applied log A r ≡ Unborn
      by (inl unacted) = unacted.1
      by (inr some) = (let parts = both_true (A some.0) (acts_at log r some.0) some.1.passes in absurd (never some.0 parts.0 parts.1 some.1.below (find (acts_at log r) (first_numbers (length log.entries))) (find_least (acts_at log r) (length log.entries))))
