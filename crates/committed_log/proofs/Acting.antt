-- A region that an entry doesn't act on stays as it is.
use Rattle.std.proofs.Common.{◌≡◌, ◌∙◌, refl, ap, ℕ, Bool, false, cond, List, Option, Some, None, nat_eq, arith, slice_get}
use Rattle.std.specs.Prelude.{◌==◌}
use Rattle.std.specs.List.{list_any}
use Rattle.log_codec.specs.declared.entry.Entry.{Entry}
use Rattle.log_codec.specs.declared.entry.Body.{Body}
use Rattle.log_codec.specs.declared.entry.Body.TheVariants as body
use Rattle.committed_log.specs.declared.region.Descriptor.{Descriptor}
use Rattle.committed_log.specs.Applied.{acts_at, left_at}
use Rattle.committed_log.specs.Log.{Log, at}
use Rattle.committed_log.specs.Regions.{Region, Unborn, Live, Prepared, Gone, region, with_region, regions_step, regions_after, live_after, born_after, after_merge, acts_on, also_acted}
use Rattle.committed_log.proofs.Disjoint.{region-with_region}
use Rattle.committed_log.proofs.Entries.{at_past, regions_next}
use Rattle.committed_log.proofs.Faults.{or_false}

turned : (a b : ℕ) → (a == b) ≡ false → nat_eq b a ≡ false
turned a b e = grind arith

abbrev also : ℕ → Body → Bool
also q b = list_any (λ acted. acted == q) (also_acted b)

module _ (regions : List (ℕ × Region)) (r i q : ℕ) where
  with_other : (k : ℕ) (state : Region) (more : List (ℕ × Region)) → (k == q) ≡ false → region (with_region k state more) q ≡ region more q
  with_other k state more apart = region-with_region more k state q ∙ ap (λ b. cond b state (region more q)) (turned k q apart)

  merge_leaves : (d : Descriptor) (source : ℕ) (state : Region) → ((r == q) ≡ false) × ((source == q) ≡ false) → region (after_merge r d i source state regions) q ≡ region regions q
  merge_leaves d source Unborn e = refl
  merge_leaves d source (Live c) e = refl
  merge_leaves d source (Gone last) e = refl
  merge_leaves d source (Prepared c target) e = with_other source _ _ e.1 ∙ with_other r _ regions e.0

  live_leaves : (d : Descriptor) (b : Body) → ((r == q) ≡ false) × (also q b ≡ false) → region (live_after r d i b regions) q ≡ region regions q
  live_leaves d (body.Split at child) e = with_other r _ _ e.0 ∙ with_other child _ regions (or_false _ _ e.1).0
  live_leaves d (body.Commit source) e = merge_leaves d source (region regions source) (e.0, (or_false _ _ e.1).0)
  live_leaves d (body.Prepare target) e = with_other r _ regions e.0
  live_leaves d body.Remove e = with_other r _ regions e.0
  live_leaves d (body.Write ops) e = with_other r _ regions e.0
  live_leaves d body.Empty e = with_other r _ regions e.0
  live_leaves d (body.Open conf_ver version low high) e = with_other r _ regions e.0
  live_leaves d (body.Install conf_ver version low high ops) e = with_other r _ regions e.0

  born_leaves : (b : Body) → (r == q) ≡ false → region (born_after r i b regions) q ≡ region regions q
  born_leaves (body.Open conf_ver version low high) e = with_other r _ regions e
  born_leaves (body.Install conf_ver version low high ops) e = with_other r _ regions e
  born_leaves (body.Split at child) e = refl
  born_leaves (body.Prepare target) e = refl
  born_leaves (body.Commit source) e = refl
  born_leaves body.Remove e = refl
  born_leaves (body.Write ops) e = refl
  born_leaves body.Empty e = refl

-- by the entry
pub not_acted : (regions : List (ℕ × Region)) (e : Entry) (q : ℕ) → acts_on q e ≡ false → region (regions_after regions e) q ≡ region regions q
not_acted regions e q apart = by (region regions e.region)
  where
    parts : ((e.region == q) ≡ false) × (also q e.body ≡ false)
    parts = or_false (e.region == q) (also q e.body) apart

    by : (state : Region) → region (regions_step state e regions) q ≡ region regions q
    by Unborn = born_leaves regions e.region e.index q e.body parts.0
    by (Live d) = live_leaves regions e.region e.index q d e.body parts
    by (Prepared d target) = refl
    by (Gone last) = refl

-- by the position
pub left_alone : (log : Log) (r p : ℕ) → acts_at log r p ≡ false → left_at log r p ≡ region (at log p).regions r
left_alone log r p apart = by (slice_get log.entries p) refl apart
  where
    by : (o : Option Entry) → slice_get log.entries p ≡ o → elim o [ None ↦ false | Some e ↦ acts_on r e ] ≡ false → left_at log r p ≡ region (at log p).regions r
    by None is out = ap (λ s. region s.regions r) (at_past log p is)
    by (Some e) is out = ap (λ regions. region regions r) (regions_next log p e is) ∙ not_acted (at log p).regions e r out
