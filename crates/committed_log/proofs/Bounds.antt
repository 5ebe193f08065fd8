-- Numbers of regions stay in range: indexes below those that the format has, and epochs rise by one an entry.
use Rattle.std.proofs.Common.{◌≡◌, refl, sym, subst, ℕ, suc, ◌+◌, ◌<◌, ◌≤◌, ◌^◌, max, true, false, cond, List, nat_eq, arith}
use Rattle.log_codec.specs.Writable.{BodyCanBeWritten}
use Rattle.log_codec.specs.declared.entry.Entry.{Entry}
use Rattle.log_codec.specs.declared.entry.Body.{Body}
use Rattle.log_codec.specs.declared.entry.Body.TheVariants as body
use Rattle.committed_log.specs.declared.region.Descriptor.{Descriptor}
use Rattle.committed_log.specs.Lawful.{IsLawful, IsWritable}
use Rattle.committed_log.specs.Laws.{region_at, AreBelow, IsEpochBelow}
use Rattle.committed_log.specs.Log.{Log, at}
use Rattle.committed_log.specs.Regions.{Region, Unborn, Live, Prepared, Gone, region, with_region, regions_step, regions_after, live_after, born_after, after_merge}
use Rattle.committed_log.proofs.Disjoint.{region-with_region}
use Rattle.committed_log.proofs.Entries.{by_entries, form_next}

module _ (m : ℕ) where
  more : (n : ℕ) (s : Region) → AreBelow m n s → AreBelow m (suc n) s
  more n Unborn h = tt
  more n (Live d) h = (h.0, record { conf_ver = omega (arith, h.1.conf_ver); version = omega (arith, h.1.version) })
  more n (Prepared d target) h = (h.0, record { conf_ver = omega (arith, h.1.conf_ver); version = omega (arith, h.1.version) })
  more n (Gone index) h = h

  put : (n : ℕ) (regions : List (ℕ × Region)) (k : ℕ) (s : Region) → AreBelow m n s → ((q : ℕ) → AreBelow m n (region regions q)) → (q : ℕ) → AreBelow m n (region (with_region k s regions) q)
  put n regions k s one all q = subst (AreBelow m n) (sym (region-with_region regions k s q)) (elim (nat_eq q k) as (λ b. AreBelow m n (cond b s (region regions q))) [ true ↦ one | false ↦ all q ])

  module _ (n : ℕ) (five : 5 < m) (regions : List (ℕ × Region)) (r i : ℕ) (index : i < m) (all : (q : ℕ) → AreBelow m n (region regions q)) where
    wider : (q : ℕ) → AreBelow m (suc n) (region regions q)
    wider q = more n (region regions q) (all q)

    module _ (d : Descriptor) (live : region regions r ≡ Live d) where
      own : (d.index < m) × IsEpochBelow n d.epoch
      own = subst (AreBelow m n) live (all r)

      raised : IsEpochBelow (suc n) (record { conf_ver = d.epoch.conf_ver + 0; version = d.epoch.version + 1 })
      raised = (let e = own.1 in record { conf_ver = omega (arith, e.conf_ver); version = omega (arith, e.version) })

      raised_both : IsEpochBelow (suc n) (record { conf_ver = d.epoch.conf_ver + 1; version = d.epoch.version + 1 })
      raised_both = (let e = own.1 in record { conf_ver = omega (arith, e.conf_ver); version = omega (arith, e.version) })

      same_epoch : IsEpochBelow (suc n) d.epoch
      same_epoch = (let e = own.1 in record { conf_ver = omega (arith, e.conf_ver); version = omega (arith, e.version) })

      at_max : (a b : ℕ) → a < n → b < n → max a b + 1 < suc n
      at_max a b x y = omega (arith, x, y)

      merge_below : (source : ℕ) (s : Region) → region regions source ≡ s → (q : ℕ) → AreBelow m (suc n) (region (after_merge r d i source s regions) q)
      merge_below source Unborn is q = wider q
      merge_below source (Live c) is q = wider q
      merge_below source (Gone last) is q = wider q
      merge_below source (Prepared c target) is q =
          let there : (c.index < m) × IsEpochBelow n c.epoch = subst (AreBelow m n) is (all source) in
          let e = own.1 in
          put (suc n) _ source (Gone c.index) there.0 (put (suc n) regions r _ (index, record { conf_ver = omega (arith, e.conf_ver); version = at_max d.epoch.version c.epoch.version e.version there.1.version }) wider) q

      live_below : (b : Body) (q : ℕ) → AreBelow m (suc n) (region (live_after r d i b regions) q)
      live_below (body.Split at child) q = put (suc n) _ r _ (index, raised) (put (suc n) regions child _ (five, raised) wider) q
      live_below (body.Prepare target) q = put (suc n) regions r _ (index, raised_both) wider q
      live_below (body.Commit source) q = merge_below source (region regions source) refl q
      live_below body.Remove q = put (suc n) regions r (Gone i) index wider q
      live_below (body.Write ops) q = put (suc n) regions r _ (index, same_epoch) wider q
      live_below body.Empty q = put (suc n) regions r _ (index, same_epoch) wider q
      live_below (body.Open conf_ver version low high) q = put (suc n) regions r _ (index, same_epoch) wider q
      live_below (body.Install conf_ver version low high ops) q = put (suc n) regions r _ (index, same_epoch) wider q

    -- an epoch that the format can write
    fresh : (conf_ver version w : ℕ) → w ≤ n → conf_ver < w → version < w → IsEpochBelow (suc n) (record { conf_ver = conf_ver; version = version })
    fresh conf_ver version w le a b = record { conf_ver = omega (arith, le, a); version = omega (arith, le, b) }

    born_below : 2 ^ 62 ≤ n → (b : Body) → BodyCanBeWritten b → (q : ℕ) → AreBelow m (suc n) (region (born_after r i b regions) q)
    born_below le (body.Open conf_ver version low high) form q = put (suc n) regions r _ (index, fresh conf_ver version (2 ^ 62) le form.0 form.1) wider q
    born_below le (body.Install conf_ver version low high ops) form q = put (suc n) regions r _ (index, fresh conf_ver version (2 ^ 62) le form.epoch.0 form.epoch.1) wider q
    born_below le (body.Split at child) form q = wider q
    born_below le (body.Prepare target) form q = wider q
    born_below le (body.Commit source) form q = wider q
    born_below le body.Remove form q = wider q
    born_below le (body.Write ops) form q = wider q
    born_below le body.Empty form q = wider q

pub below_after : (n : ℕ) → 2 ^ 62 ≤ n → (regions : List (ℕ × Region)) (e : Entry) → IsWritable e → ((q : ℕ) → AreBelow (2 ^ 63) n (region regions q)) → (q : ℕ) → AreBelow (2 ^ 63) (suc n) (region (regions_after regions e) q)
below_after n le regions e form all q = by (region regions e.region) refl
  where
    small : 5 < 2 ^ 63
    small = omega arith

    by : (s : Region) → region regions e.region ≡ s → AreBelow (2 ^ 63) (suc n) (region (regions_step s e regions) q)
    by Unborn is = born_below (2 ^ 63) n small regions e.region e.index form.form.index.1 all le e.body form.form.body q
    by (Live d) is = live_below (2 ^ 63) n small regions e.region e.index form.form.index.1 all d is e.body q
    by (Prepared d target) is = more (2 ^ 63) n (region regions q) (all q)
    by (Gone last) is = more (2 ^ 63) n (region regions q) (all q)

pub below_at : (log : Log) → IsLawful log → (p r : ℕ) → AreBelow (2 ^ 63) (2 ^ 62 + p) (region_at log r p)
below_at log lawful p r = by_entries log (λ p s. (q : ℕ) → AreBelow (2 ^ 63) (2 ^ 62 + p) (region s.regions q)) (λ q. tt)
    (λ p e is all q. subst (λ n. AreBelow (2 ^ 63) n (region (regions_after (at log p).regions e) q)) (one_on (2 ^ 62) p) (below_after (2 ^ 62 + p) (up (2 ^ 62) p) (at log p).regions e (form_next log p e is lawful) all q))
    (λ p s all q. subst (λ n. AreBelow (2 ^ 63) n (region s.regions q)) (one_on (2 ^ 62) p) (more (2 ^ 63) (2 ^ 62 + p) (region s.regions q) (all q))) p r
  where
    one_on : (w p : ℕ) → suc (w + p) ≡ w + suc p
    one_on w p = omega arith

    up : (w p : ℕ) → w ≤ w + p
    up w p = omega arith
