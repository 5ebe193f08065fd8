-- What an early entry tells of the region that is behind.
use Rattle.std.proofs.Common.{◌≡◌, ◌≢◌, ◌⊎◌, inl, inr, ◌∙◌, refl, sym, ap, subst, ℕ, suc, ◌<◌, ◌≤◌, ◌-◌, Bool, true, false, true≢false, cond, ◌&&◌, ◌||◌, ◌∷◌, Option, Some, None, nat_lt, nat_le, arith, slice_get, unwrap_or, length}
use Rattle.std.specs.Prelude.{◌==◌}
use Rattle.std.specs.List.{list_any}
use Rattle.std.specs.Option.{option_or}
use Rattle.std.proofs.lemmas.Option.{slice_get_within}
use Rattle.log_codec.specs.declared.entry.Body.{Body}
use Rattle.log_codec.specs.declared.entry.Body.TheVariants as body
use Rattle.log_codec.specs.declared.entry.Entry.{Entry}
use Rattle.committed_log.specs.Applied.{acts_at, left_at, applied, state, IsClosed}
use Rattle.committed_log.specs.Lawful.{IsLawful}
use Rattle.committed_log.specs.Laws.{is_after, is_prepared, region_at}
use Rattle.committed_log.specs.Log.{Log, at}
use Rattle.committed_log.specs.Regions.{region, range_of, index_of, acts_on, also_acted, makes_region}
use Rattle.committed_log.specs.declared.region.Descriptor.{Descriptor}
use Rattle.committed_log.specs.declared.region.Region.{Region}
use Rattle.committed_log.specs.declared.region.Region.TheVariants.{Unborn, Live, Prepared, Gone}
use Rattle.committed_log.proofs.Closed.{acts_closed, applied_cases, order, same_is}
use Rattle.committed_log.proofs.Faults.{both_true, or_first, or_second, or_false}
use Rattle.committed_log.proofs.Growth.{gone_stays}
use Rattle.committed_log.proofs.Places.{index_never_falls, state_is}
use Rattle.committed_log.proofs.Positions.{IsGreatest}
use Rattle.region_steps.proofs.Merging.{source_is}
use Rattle.region_table.specs.Applying.{apply_fault, own_behind, source_behind, all_behind, behind, prepare_index, IsBehind}
use Rattle.region_table.specs.Counting.{has_reached}
use Rattle.region_table.specs.Table.{first_out}
use Rattle.region_table.specs.declared.fault.ApplyError.{ApplyError}
use Rattle.region_table.specs.declared.fault.ApplyError.TheVariants as fault
use Rattle.region_table.proofs.Counts.{TellsFirst, first_tells}
use Rattle.region_table.proofs.Sets.{told_here}

-- not reached and not just before
low : (o : Option ℕ) (index : ℕ) → has_reached o index ≡ false → is_after o index ≡ false → IsBehind o (index - 1)
low None index reached after = tt
low (Some last) index reached after = below last index reached after
  where
    below : (last index : ℕ) → nat_le index last ≡ false → (suc last == index) ≡ false → last < index - 1
    below last index e f = grind arith

under : (o : Option ℕ) (index : ℕ) → has_reached o index ≡ false → IsBehind o index
under None index reached = tt
under (Some last) index reached = below last index reached
  where
    below : (last index : ℕ) → nat_le index last ≡ false → last < index
    below last index e = grind arith

module _ (log : Log) (lawful : IsLawful log) (A : ℕ → Bool) (closed : IsClosed log A) (p : ℕ) (e : Entry) (here : slice_get log.entries p ≡ Some e) where
  abbrev Tells : Option ApplyError → Type 0
  Tells None = Unit {0}
  Tells (Some (fault.Done r last)) = Unit {0}
  Tells (Some (fault.Early r last wants)) = (last ≡ index_of (applied log A r)) × IsBehind last wants
  Tells (Some fault.Memory) = Unit {0}

  tells_or : (a b : Option ApplyError) → Tells a → Tells b → Tells (option_or a b)
  tells_or None b x y = y
  tells_or (Some w) b x y = x

  within : p < length log.entries
  within = slice_get_within log.entries p e here

  -- ---- its own region

  own_tells : A p ≡ false → Tells (own_behind (applied log A) e)
  own_tells out = by (makes_region e.body || is_after (index_of (applied log A e.region)) e.index) refl
    where
      by : (b : Bool) → (makes_region e.body || is_after (index_of (applied log A e.region)) e.index) ≡ b → Tells (cond b None (behind (applied log A) e.region (e.index - 1)))
      by true is = tt
      by false is = (refl, low (index_of (applied log A e.region)) e.index (sym (told_here log lawful A closed p e here) ∙ out) (or_false (makes_region e.body) (is_after (index_of (applied log A e.region)) e.index) is).1)

  -- ---- the source of a commit

  module _ (out : A p ≡ false) (source : ℕ) (commits : e.body ≡ body.Commit source) where
    prepared : (c : Descriptor) × ((target : ℕ) × (region (at log p).regions source ≡ Prepared c target))
    prepared = source_is log lawful p e here source commits

    abbrev c : Descriptor
    c = prepared.0

    acts : acts_at log source p ≡ true
    acts = ap (λ o. elim o [ None ↦ false | Some x ↦ acts_on source x ]) here
        ∙ or_second (e.region == source) (list_any (λ acted. acted == source) (also_acted e.body)) (ap (λ b. list_any (λ acted. acted == source) (also_acted b)) commits ∙ or_first (source == source) false (same_is source))

    left_low : (q : ℕ) → q < p → (s : Region) → left_at log source q ≡ s → is_prepared s ≡ false → IsBehind (index_of s) c.index
    left_low q less Unborn is free = tt
    left_low q less (Prepared d target) is free = absurd (true≢false free)
    left_low q less (Gone last) is free = absurd (cc (sym (gone_stays log lawful source (suc q) p last (omega (arith, less)) is) ∙ prepared.1.1))
    left_low q less (Live d) is free = strict (index_never_falls log lawful source (suc q) p (omega (arith, less)) d.index (ap index_of is))
      where
        some_is : (a b : ℕ) → Some a ≡ Some b → a ≡ b
        some_is a b same = cc same

        differ : d.index ≢ c.index
        differ same =
            let before = state_is log lawful source (suc q) d.index d.range (ap range_of is) (ap index_of is) in
            let after = state_is log lawful source p c.index c.range (ap range_of prepared.1.1) (ap index_of prepared.1.1) in
            absurd (cc (sym (before ∙ is) ∙ ap (state log source) same ∙ after ∙ prepared.1.1))

        strict : (j : ℕ) × (index_of (region_at log source p) ≡ Some j) × (d.index ≤ j) → d.index < c.index
        strict found = let same : found.0 ≡ c.index = some_is found.0 c.index (sym found.1 ∙ ap index_of prepared.1.1) in let le = found.2 in less_of d.index found.0 c.index le same differ
          where
            less_of : (a b n : ℕ) → a ≤ b → b ≡ n → a ≢ n → a < n
            less_of a b n le is ne = grind arith

    source_low : is_prepared (applied log A source) ≡ false → IsBehind (index_of (applied log A source)) c.index
    source_low free = by (applied_cases log A source)
      where
        before : (q : ℕ) → A q ≡ true → acts_at log source q ≡ true → (q < p) ⊎ ((q ≡ p) ⊎ (p < q)) → q < p
        before q in_set act (inl less) = less
        before q in_set act (inr (inl is)) = absurd (true≢false (sym in_set ∙ ap A is ∙ out))
        before q in_set act (inr (inr more)) = absurd (true≢false (sym (acts_closed log lawful A closed source q p in_set act more acts) ∙ out))

        by : (((q : ℕ) → q < length log.entries → (A q && acts_at log source q) ≡ false) × (applied log A source ≡ Unborn)) ⊎ ((q : ℕ) × IsGreatest (λ p. A p && acts_at log source p) (length log.entries) q × (applied log A source ≡ left_at log source q)) → IsBehind (index_of (applied log A source)) c.index
        by (inl none) = subst (λ s. IsBehind (index_of s) c.index) (sym none.1) tt
        by (inr some) =
            let parts = both_true (A some.0) (acts_at log source some.0) some.1.passes in
            subst (λ s. IsBehind (index_of s) c.index) (sym some.2) (left_low some.0 (before some.0 parts.0 parts.1 (order some.0 p)) (left_at log source some.0) refl (sym (ap is_prepared some.2) ∙ free))

  source_tells : A p ≡ false → (b : Body) → e.body ≡ b → Tells (source_behind (applied log A) (prepare_index log p b) b)
  source_tells out (body.Commit source) is = by (is_prepared (applied log A source)) refl
    where
      by : (b : Bool) → is_prepared (applied log A source) ≡ b → Tells (cond b None (behind (applied log A) source (prepare_index log p (body.Commit source))))
      by true is_there = tt
      by false free = (refl, subst (IsBehind (index_of (applied log A source))) (sym (ap (λ s. unwrap_or (index_of s) 0) (prepared out source is).1.1)) (source_low out source is free))
  source_tells out (body.Open conf_ver version low high) is = tt
  source_tells out (body.Install conf_ver version low high ops) is = tt
  source_tells out (body.Split middle child) is = tt
  source_tells out (body.Prepare target) is = tt
  source_tells out body.Remove is = tt
  source_tells out (body.Write ops) is = tt
  source_tells out body.Empty is = tt

  -- ---- the first entry that isn't applied

  all_tells : Tells (all_behind log (applied log A) (first_out log A) p e)
  all_tells = by (makes_region e.body && nat_lt (first_out log A) p) (slice_get log.entries (first_out log A)) refl
    where
      tells : TellsFirst A (length log.entries) (first_out log A)
      tells = first_tells A (length log.entries)

      by : (b : Bool) (o : Option Entry) → slice_get log.entries (first_out log A) ≡ o → Tells (cond b (elim o [ None ↦ None | Some f ↦ behind (applied log A) f.region f.index ]) None)
      by true None is = tt
      by true (Some f) is = (refl, under (index_of (applied log A f.region)) f.index (sym (told_here log lawful A closed (first_out log A) f is) ∙ tells.out (slice_get_within log.entries (first_out log A) f is)))
      by false o is = tt

  abbrev rest : Option ApplyError
  rest = option_or (own_behind (applied log A) e) (option_or (source_behind (applied log A) (prepare_index log p e.body) e.body) (all_behind log (applied log A) (first_out log A) p e))

  abbrev done : ApplyError
  done = fault.Done e.region (unwrap_or (index_of (applied log A e.region)) 0)

  pub early_is : (r : ℕ) (last : Option ℕ) (wants : ℕ) → apply_fault log A p e ≡ Some (fault.Early r last wants) → (A p ≡ false) × (last ≡ index_of (applied log A r)) × IsBehind last wants
  early_is r last wants is = by (A p) refl
    where
      by : (b : Bool) → A p ≡ b → (A p ≡ false) × (last ≡ index_of (applied log A r)) × IsBehind last wants
      by true in_set = absurd (cc (sym (ap (λ b. cond b (Some done) rest) in_set) ∙ is))
      by false out =
          let told = tells_or (own_behind (applied log A) e) (option_or (source_behind (applied log A) (prepare_index log p e.body) e.body) (all_behind log (applied log A) (first_out log A) p e)) (own_tells out)
          (tells_or (source_behind (applied log A) (prepare_index log p e.body) e.body) (all_behind log (applied log A) (first_out log A) p e) (source_tells out e.body refl) all_tells) in
          let found = subst Tells (sym (ap (λ b. cond b (Some done) rest) out) ∙ is) told in
          (out, found.0, found.1)
