-- What a table's regions refuse is what the row store refuses at the table's set.
use Rattle.std.proofs.Common.{◌≡◌, ◌∙◌, refl, sym, ap, ℕ, ℤ, Bool, List, [], ◌∷◌, Option, Some, None, nat_lt, fold, if◌then◌else◌}
use Rattle.std.specs.Option.{option_or}
use Rattle.flash_types.specs.declared.ask.AskRegion.{AskRegion}
use Rattle.flash_types.specs.declared.refusal.Refusal.{Refusal}
use Rattle.flash_types.specs.declared.refusal.Refusal.TheVariants as refusal
use Rattle.flash_types.specs.declared.refusal.Wants.TheVariants as wants
use Rattle.committed_log.specs.declared.region.Descriptor.{Descriptor}
use Rattle.committed_log.specs.Applied.{applied, next, next_of}
use Rattle.committed_log.specs.Lawful.{IsLawful}
use Rattle.committed_log.specs.Log.{Log}
use Rattle.committed_log.specs.Regions.{range_of, index_of}
use Rattle.committed_log.specs.declared.region.Region.{Region}
use Rattle.committed_log.specs.declared.region.Region.TheVariants.{Unborn, Live, Prepared, Gone}
use Rattle.committed_log.specs.Replies.{refused_at, refused_regions, first_lock, locks_at, same_epoch, unsettled_refusal}
use Rattle.committed_log.specs.declared.store.Lock.{Lock}
use Rattle.committed_log.proofs.Closed.{next_is}
use Rattle.committed_log.proofs.ReadLaws.{first_lock_within}
use Rattle.region_state.specs.State.{locks_in}
use Rattle.region_table.specs.Judging.{refused_kept, refused_list}
use Rattle.region_table.specs.Table.{Table, IsTableAt, kept_in, kept_at}

module _ (log : Log) (lawful : IsLawful log) (A : ℕ → Bool) (t : Table) (is : IsTableAt log A t) (ts mark : ℕ) where
  module _ (asked : AskRegion) (d : Descriptor) where
    -- what stands behind the look at the locks
    abbrev behind_locks : Option ℕ → Option (ℤ × Lock) → Option Refusal
    behind_locks n l =
        if nat_lt d.index asked.index then Some (refusal.NotYet asked.region (Some d.index) (wants.Index asked.index))
        else option_or (unsettled_refusal asked.region d.index n mark)
        (if same_epoch d.epoch asked.epoch then (elim l [ None ↦ None | Some l ↦ Some (refusal.Locked asked.region d.index l.0 l.1.start) ]) else Some (refusal.EpochNotMatch asked.region d.index (Some d.epoch)))

    there : range_of (applied log A asked.region) ≡ Some d.range → index_of (applied log A asked.region) ≡ Some d.index →
        behind_locks (next_of log asked.region d.index) (first_lock (locks_in d.range (locks_at log asked.region d.index)) d.range ts) ≡ behind_locks (next log A asked.region) (first_lock (locks_at log asked.region d.index) d.range ts)
    there range index = ap (λ n. behind_locks n (first_lock (locks_in d.range (locks_at log asked.region d.index)) d.range ts)) (sym (next_is log lawful A is.closed asked.region d.index d.range range index))
        ∙ ap (behind_locks (next log A asked.region)) (first_lock_within (locks_at log asked.region d.index) d.range d.range ts (λ h inside. inside))

  one : (asked : AskRegion) → refused_kept log ts asked mark (kept_in t.regions asked.region) ≡ refused_at log ts asked (next log A asked.region) mark (applied log A asked.region)
  one asked = ap (refused_kept log ts asked mark) (is.regions asked.region) ∙ by (applied log A asked.region) refl
    where
      by : (s : Region) → applied log A asked.region ≡ s → refused_kept log ts asked mark (kept_at log asked.region s) ≡ refused_at log ts asked (next log A asked.region) mark s
      by Unborn e = refl
      by (Live d) e = there asked d (ap range_of e) (ap index_of e)
      by (Prepared d target) e = there asked d (ap range_of e) (ap index_of e)
      by (Gone index) e = refl

  or_none : (o : Option Refusal) → o ≡ option_or o None
  or_none None = refl
  or_none (Some x) = refl

  or_or : (a b c : Option Refusal) → option_or (option_or a b) c ≡ option_or a (option_or b c)
  or_or None b c = refl
  or_or (Some x) b c = refl

  from : (why : Option Refusal) (asked : List AskRegion) → fold (λ (why : Option Refusal) (one : AskRegion). option_or why (refused_kept log ts one mark (kept_in t.regions one.region))) why asked ≡ option_or why (refused_regions log ts asked A mark)
  from why [] = or_none why
  from why (x ∷ xs) = from (option_or why (refused_kept log ts x mark (kept_in t.regions x.region))) xs
      ∙ or_or why (refused_kept log ts x mark (kept_in t.regions x.region)) (refused_regions log ts xs A mark)
      ∙ ap (λ o. option_or why (option_or o (refused_regions log ts xs A mark))) (one x)

  pub judged : (asked : List AskRegion) → refused_list log t.regions ts mark asked ≡ refused_regions log ts asked A mark
  judged asked = from None asked
