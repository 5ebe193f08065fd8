-- A read that isn't refused is answered, of each region that it asks about, at the index where the closed set leaves it.
use Rattle.std.proofs.Common.{◌≡◌, ◌⊎◌, inl, inr, ◌∙◌, refl, sym, ap, subst, ℕ, zero, suc, ◌<◌, ◌≤◌, ℤ, Bool, true, false, cond, ◌&&◌, List, [], ◌∷◌, Option, Some, None, nat_lt, length, arith}
use Rattle.std.specs.List.{Contains, slice_index_or}
use Rattle.std.specs.Option.{option_or}
use Rattle.std.specs.Prelude.{◌==◌}
use Rattle.flash_types.specs.Asks.{Asked}
use Rattle.flash_types.specs.declared.Epoch.{Epoch}
use Rattle.flash_types.specs.declared.ask.AskRegion.{AskRegion}
use Rattle.flash_types.specs.declared.range.HandleRange.{HandleRange}
use Rattle.flash_types.specs.declared.refusal.Refusal.{Refusal}
use Rattle.flash_types.specs.declared.refusal.Refusal.TheVariants as refusal
use Rattle.flash_types.specs.declared.refusal.Wants.TheVariants as wants
use Rattle.committed_log.specs.declared.region.Descriptor.{Descriptor}
use Rattle.committed_log.specs.Applied.{acts_at, left_at, applied, state, next}
use Rattle.committed_log.specs.Lawful.{IsLawful}
use Rattle.committed_log.specs.Log.{Log}
use Rattle.committed_log.specs.ReadIndex.{IsReadAt}
use Rattle.committed_log.specs.Regions.{Region, Unborn, Live, Prepared, Gone, range_of, index_of}
use Rattle.committed_log.specs.Replies.{first_lock, locks_at, locked, same_epoch, unsettled_refusal, refused_there, refused_at, refused_regions, refused, cut_of}
use Rattle.committed_log.specs.Store.{Lock}
use Rattle.committed_log.proofs.Closed.{applied_cases}
use Rattle.committed_log.proofs.Faults.{both_none, both_true}
use Rattle.committed_log.proofs.Places.{place_left}
use Rattle.committed_log.proofs.Positions.{IsGreatest}
use Rattle.committed_log.proofs.Ranks.{same_number}

-- what a set leaves of a region that is there is the region's state at its index
pub applied_by_index : (log : Log) → IsLawful log → (A : ℕ → Bool) (r i : ℕ) (range : HandleRange) → range_of (applied log A r) ≡ Some range → index_of (applied log A r) ≡ Some i → state log r i ≡ applied log A r
applied_by_index log lawful A r i range there index = by (applied_cases log A r)
  where
    by : (((q : ℕ) → q < length log.entries → (A q && acts_at log r q) ≡ false) × (applied log A r ≡ Unborn)) ⊎ ((q : ℕ) × IsGreatest (λ p. A p && acts_at log r p) (length log.entries) q × (applied log A r ≡ left_at log r q)) → state log r i ≡ applied log A r
    by (inl none) = cc (sym (ap range_of none.1) ∙ there)
    by (inr some) =
        let placed = place_left log lawful r some.0 i range (both_true (A some.0) (acts_at log r some.0) some.1.passes).1 (ap range_of (sym some.2) ∙ there) (ap index_of (sym some.2) ∙ index) in
        ap (λ o. elim o [ None ↦ Unborn | Some p ↦ left_at log r p ]) placed ∙ sym some.2

module _ (log : Log) (ts : ℕ) (asked : AskRegion) (n : Option ℕ) (mark : ℕ) (d : Descriptor) where
  record Granted : Type 0 where
    index : asked.index ≤ d.index
    epoch : d.epoch ≡ asked.epoch
    free : first_lock (locks_at log asked.region d.index) d.range ts ≡ None

  same : (a b : Epoch) → same_epoch a b ≡ true → a ≡ b
  same a b e = (let parts = both_true (a.conf_ver == b.conf_ver) (a.version == b.version) e in λ i. record { conf_ver = same_number a.conf_ver b.conf_ver parts.0 i; version = same_number a.version b.version parts.1 i })

  granted : refused_there log ts asked n mark d ≡ None → Granted
  granted none = by (nat_lt d.index asked.index) refl none
    where
      not_less : (a b : ℕ) → nat_lt a b ≡ false → b ≤ a
      not_less a b e = grind arith

      unlocked : (o : Option (ℤ × Lock)) → elim o as (λ _. Option Refusal) [ None ↦ None | Some l ↦ Some (refusal.Locked asked.region d.index l.0 l.1.start) ] ≡ None → o ≡ None
      unlocked None e = refl
      unlocked (Some l) e = cc e

      epochs : (b : Bool) → same_epoch d.epoch asked.epoch ≡ b → cond b (locked log ts asked.region d) (Some (refusal.EpochNotMatch asked.region d.index (Some d.epoch))) ≡ None → asked.index ≤ d.index → Granted
      epochs true is e le = record { index = le; epoch = same d.epoch asked.epoch is; free = unlocked (first_lock (locks_at log asked.region d.index) d.range ts) e }
      epochs false is e le = cc e

      by : (b : Bool) → nat_lt d.index asked.index ≡ b → cond b (Some (refusal.NotYet asked.region (Some d.index) (wants.Index asked.index))) (option_or (unsettled_refusal asked.region d.index n mark) (cond (same_epoch d.epoch asked.epoch) (locked log ts asked.region d) (Some (refusal.EpochNotMatch asked.region d.index (Some d.epoch))))) ≡ None → Granted
      by true is e = cc e
      by false is e = epochs (same_epoch d.epoch asked.epoch) refl (both_none (unsettled_refusal asked.region d.index n mark) (cond (same_epoch d.epoch asked.epoch) (locked log ts asked.region d) (Some (refusal.EpochNotMatch asked.region d.index (Some d.epoch)))) e).1 (not_less d.index asked.index is)

-- of one region
pub read_at : (log : Log) → IsLawful log → (A : ℕ → Bool) (ts mark : ℕ) (asked : AskRegion) (n : Option ℕ) → refused_at log ts asked n mark (applied log A asked.region) ≡ None → IsReadAt log A ts asked
read_at log lawful A ts mark asked n none = by (applied log A asked.region) refl none
  where
    there : (s : Region) (d : Descriptor) → applied log A asked.region ≡ s → range_of s ≡ Some d.range → index_of s ≡ Some d.index → range_of (state log asked.region d.index) ≡ Some d.range
    there s d is range index = ap range_of (applied_by_index log lawful A asked.region d.index d.range (ap range_of is ∙ range) (ap index_of is ∙ index)) ∙ ap range_of is ∙ range

    by : (s : Region) → applied log A asked.region ≡ s → refused_at log ts asked n mark s ≡ None → IsReadAt log A ts asked
    by Unborn is e = cc e
    by (Gone index) is e = cc e
    by (Live d) is e = (let g = granted log ts asked n mark d e in record {
      cut = record { region = asked.region; epoch = d.epoch; index = d.index; range = d.range };
      is = ap (cut_of asked.region) is;
      region = refl;
      index = g.index;
      epoch = g.epoch;
      answered = record { there = there (Live d) d is refl refl; free = g.free };
    })
    by (Prepared d target) is e = (let g = granted log ts asked n mark d e in record {
      cut = record { region = asked.region; epoch = d.epoch; index = d.index; range = d.range };
      is = ap (cut_of asked.region) is;
      region = refl;
      index = g.index;
      epoch = g.epoch;
      answered = record { there = there (Prepared d target) d is refl refl; free = g.free };
    })

pub each_passes : (log : Log) (A : ℕ → Bool) (ts mark : ℕ) (asked : AskRegion) (regions : List AskRegion) → refused_regions log ts regions A mark ≡ None → (k : ℕ) → k < length regions → slice_index_or regions k asked ≡ asked → refused_at log ts asked (next log A asked.region) mark (applied log A asked.region) ≡ None
each_passes log A ts mark asked [] e k less is = absurd (omega (arith, less))
each_passes log A ts mark asked (a ∷ regions) e zero less is = subst (λ (z : AskRegion). refused_at log ts z (next log A z.region) mark (applied log A z.region) ≡ None) is (both_none (refused_at log ts a (next log A a.region) mark (applied log A a.region)) (refused_regions log ts regions A mark) e).0
each_passes log A ts mark asked (a ∷ regions) e (suc k) less is = each_passes log A ts mark asked regions (both_none (refused_at log ts a (next log A a.region) mark (applied log A a.region)) (refused_regions log ts regions A mark) e).1 k (omega (arith, less)) is

-- of each region of a read that isn't refused
pub reads_at : (log : Log) → IsLawful log → (A : ℕ → Bool) (ask : Asked) (safe mark : ℕ) → refused log ask A safe mark ≡ None → (asked : AskRegion) → Contains ask.regions asked → IsReadAt log A ask.ts asked
reads_at log lawful A ask safe mark none asked there = by (nat_lt ask.ts safe) none
  where
    by : (b : Bool) → cond b (Some (refusal.BelowSafePoint safe)) (refused_regions log ask.ts ask.regions A mark) ≡ None → IsReadAt log A ask.ts asked
    by true e = cc e
    by false e = read_at log lawful A ask.ts mark asked (next log A asked.region) (each_passes log A ask.ts mark asked ask.regions e there.0 there.1 there.2)
