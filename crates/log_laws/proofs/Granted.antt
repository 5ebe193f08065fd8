-- What a read that isn't refused says of its timestamp and its regions.
use Rattle.std.proofs.Common.{◌≡◌, ◌∙◌, refl, ap, ℕ, ◌≤◌, Bool, true, false, cond, not, List, Option, Some, None, nat_lt}
use Rattle.std.proofs.lemmas.List.Elements.{Contains-get_or}
use Rattle.std.specs.List.{Contains, slice_index_or}
use Rattle.std.specs.Option.{option_or}
use Rattle.flash_types.specs.Asks.{Asked}
use Rattle.flash_types.specs.declared.ask.AskRegion.{AskRegion}
use Rattle.flash_types.specs.declared.refusal.Cut.{Cut}
use Rattle.flash_types.specs.declared.refusal.Refusal.{Refusal}
use Rattle.flash_types.specs.declared.refusal.Refusal.TheVariants as refusal
use Rattle.flash_types.specs.declared.refusal.Wants.TheVariants as wants
use Rattle.committed_log.specs.declared.region.Descriptor.{Descriptor}
use Rattle.committed_log.specs.Applied.{applied, is_settled, next, unsettled}
use Rattle.committed_log.specs.Log.{Log}
use Rattle.committed_log.specs.Regions.{index_of, range_of}
use Rattle.committed_log.specs.declared.region.Region.{Region}
use Rattle.committed_log.specs.declared.region.Region.TheVariants.{Unborn, Live, Prepared, Gone}
use Rattle.committed_log.specs.Replies.{AreCuts, locked, refused, refused_at, refused_regions, refused_there, same_epoch, unsettled_refusal}
use Rattle.committed_log.proofs.Answered.{each_passes}
use Rattle.committed_log.proofs.Faults.{both_none}
use Rattle.log_laws.specs.Rows.{IsSettledCut}
use Rattle.log_laws.proofs.Apart.{IsCutOf, cut_at, cut_is, some_region}
use Rattle.log_laws.proofs.Small.{le_is, mapped_at}

pub is_settled_for : (r index mark : ℕ) (n : Option ℕ) → unsettled_refusal r index n mark ≡ None → not (unsettled n mark) ≡ true
is_settled_for r index mark None e = refl
is_settled_for r index mark (Some p) e = by (nat_lt p mark) e
  where
    by : (b : Bool) → cond b (Some (refusal.NotYet r (Some index) (wants.Mark p mark))) None ≡ None → not b ≡ true
    by true e = cc e
    by false e = refl

module _ (log : Log) (ts : ℕ) (asked : AskRegion) (n : Option ℕ) (mark : ℕ) where
  settled_there : (d : Descriptor) → refused_there log ts asked n mark d ≡ None → not (unsettled n mark) ≡ true
  settled_there d e = by (nat_lt d.index asked.index) e
    where
      rest : Option Refusal
      rest = cond (same_epoch d.epoch asked.epoch) (locked log ts asked.region d) (Some (refusal.EpochNotMatch asked.region d.index (Some d.epoch)))

      by : (b : Bool) → cond b (Some (refusal.NotYet asked.region (Some d.index) (wants.Index asked.index))) (option_or (unsettled_refusal asked.region d.index n mark) rest) ≡ None → not (unsettled n mark) ≡ true
      by true e = cc e
      by false e = is_settled_for asked.region d.index mark n (both_none (unsettled_refusal asked.region d.index n mark) rest e).0

  settled_at : (s : Region) → refused_at log ts asked n mark s ≡ None → not (unsettled n mark) ≡ true
  settled_at Unborn e = cc e
  settled_at (Gone index) e = cc e
  settled_at (Live d) e = settled_there d e
  settled_at (Prepared d target) e = settled_there d e

module _ (log : Log) (A : ℕ → Bool) (ask : Asked) (safe mark : ℕ) (none : refused log ask A safe mark ≡ None) where
  parts : (b : Bool) → cond b (Some (refusal.BelowSafePoint safe)) (refused_regions log ask.ts ask.regions A mark) ≡ None → (b ≡ false) × (refused_regions log ask.ts ask.regions A mark ≡ None)
  parts true e = cc e
  parts false e = (refl, e)

  both : (nat_lt ask.ts safe ≡ false) × (refused_regions log ask.ts ask.regions A mark ≡ None)
  both = parts (nat_lt ask.ts safe) none

  pub time_is : safe ≤ ask.ts
  time_is = le_is ask.ts safe both.0

  pub settled_is : (asked : AskRegion) → Contains ask.regions asked → is_settled log A mark asked.region ≡ true
  settled_is asked there = settled_at log ask.ts asked (next log A asked.region) mark (applied log A asked.region) (each_passes log A ask.ts mark asked ask.regions both.1 there.0 there.1 there.2)

  pub cut_settled : (cuts : List Cut) → AreCuts log A ask.regions cuts → (cut : Cut) → Contains cuts cut → IsSettledCut log A mark cut
  cut_settled cuts are cut there =
      let from = mapped_at (cut_at log A) ask.regions cuts are there.0 some_region cut there.1 in
      let asked = slice_index_or ask.regions there.0 some_region in
      by asked (settled_is asked (Contains-get_or ask.regions there.0 some_region from.0)) (cut_is asked.region (applied log A asked.region) cut (from.1 ∙ ap (λ c. Some c) there.2))
    where
      by : (asked : AskRegion) → is_settled log A mark asked.region ≡ true → IsCutOf asked.region (applied log A asked.region) cut → IsSettledCut log A mark cut
      by asked settled is = record {
        range = ap (λ r. range_of (applied log A r)) is.region ∙ is.range;
        index = ap (λ r. index_of (applied log A r)) is.region ∙ is.index;
        settled = ap (is_settled log A mark) is.region ∙ settled;
      }
