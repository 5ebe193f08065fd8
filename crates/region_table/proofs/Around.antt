-- What a table keeps of the regions that a ready entry acts on: what the row store has of them just before the entry, and with the entry just after it.
use Rattle.std.proofs.Common.{◌≡◌, ◌∙◌, refl, sym, ap, subst, ℕ, zero, suc, ◌+◌, ◌-◌, ◌<◌, Bool, true, false, [], Option, Some, None, arith, add-zero, add-suc}
use Rattle.flash_types.specs.Ranges.{holds}
use Rattle.flash_types.specs.declared.range.HandleRange.{HandleRange}
use Rattle.committed_log.specs.declared.region.Descriptor.{Descriptor}
use Rattle.committed_log.specs.declared.region.Region.{Region}
use Rattle.committed_log.specs.declared.region.Region.TheVariants.{Unborn, Live, Prepared, Gone}
use Rattle.committed_log.specs.Applied.{acts_at, left_at, applied, place, IsClosed, is_ready, with_position}
use Rattle.committed_log.specs.Lawful.{IsLawful}
use Rattle.committed_log.specs.Laws.{region_at, AreSameWithin}
use Rattle.committed_log.specs.Log.{Log, at}
use Rattle.committed_log.specs.Regions.{region, range_of, index_of}
use Rattle.committed_log.specs.Replies.{locks_at}
use Rattle.committed_log.specs.Store.{Store}
use Rattle.committed_log.proofs.Acting.{left_alone}
use Rattle.committed_log.proofs.Local.{same_itself, same_then, same_within}
use Rattle.committed_log.proofs.Places.{place_left, place_is_last}
use Rattle.committed_log.proofs.Positions.{IsGreatest}
use Rattle.committed_log.proofs.Ready.{applied_before, applied_after, applied_other}
use Rattle.region_file.specs.declared.entry.Entry.TheVariants as kept
use Rattle.region_state.specs.State.{State, values_in, locks_in}
use Rattle.region_table.specs.Table.{Kept, kept_at, there_at, values_at}

-- ---- what a store has of a region

abbrev pub state_from : Store → Descriptor → Option ℕ → State
state_from s d target = record { descriptor = d; target = target; values = values_in d.range s.values; locks = locks_in d.range s.locks }

abbrev pub kept_from : Store → Region → Option Kept
kept_from s Unborn = None
kept_from s (Live d) = Some (kept.There (state_from s d None))
kept_from s (Prepared d target) = Some (kept.There (state_from s d (Some target)))
kept_from s (Gone index) = Some (kept.Gone index)

abbrev pub kept_of : Store → ℕ → Option Kept
kept_of s r = kept_from s (region s.regions r)

module _ (log : Log) (lawful : IsLawful log) (r : ℕ) where
  -- ---- while no entry acts on a region, its state stays, and the families of its handles

  record Stays (range : HandleRange) (q p : ℕ) : Type 0 where
    pub state : region_at log r p ≡ left_at log r q
    pub families : AreSameWithin range (at log (suc q)) (at log p)

  module _ (q : ℕ) (range : HandleRange) (there : range_of (left_at log r q) ≡ Some range) where
    next : (k : ℕ) → ((x : ℕ) → q < x → x < suc q + suc k → acts_at log r x ≡ false) → Stays range q (suc q + k) → Stays range q (suc q + suc k)
    next k none before = subst (Stays range q) (sym (add-suc (suc q) k)) (record {
      state = left_alone log r (suc q + k) out ∙ before.state;
      families = same_then (holds range) (at log (suc q)) (at log (suc q + k)) (at log (suc (suc q + k))) before.families (same_within log lawful (suc q + k) r range (ap range_of before.state ∙ there) out);
    })
      where
        out : acts_at log r (suc q + k) ≡ false
        out = none (suc q + k) (omega arith) (omega arith)

    stays_for : (k : ℕ) → ((x : ℕ) → q < x → x < suc q + k → acts_at log r x ≡ false) → Stays range q (suc q + k)
    stays_for zero none = subst (Stays range q) (sym (add-zero (suc q))) (record { state = refl; families = same_itself (holds range) (at log (suc q)) })
    stays_for (suc k) none = next k none (stays_for k (λ x more less. none x more (omega (arith, less))))

    stays : (p : ℕ) → q < p → ((x : ℕ) → q < x → x < p → acts_at log r x ≡ false) → Stays range q p
    stays p less none = by (split q p less)
      where
        split : (q p : ℕ) → q < p → (k : ℕ) × (suc q + k ≡ p)
        split q p less = (p - suc q, omega (arith, less))

        by : (k : ℕ) × (suc q + k ≡ p) → Stays range q p
        by k = subst (Stays range q) k.1 (stays_for k.0 (λ x more low. none x more (let is = k.1 in omega (arith, low, is))))

  -- ---- at an index

  placed : (q i : ℕ) → place log r i ≡ Some q → (values_at log r i ≡ (at log (suc q)).values) × (locks_at log r i ≡ (at log (suc q)).locks)
  placed q i is = (ap (λ o. elim o [ None ↦ [] | Some p ↦ (at log (suc p)).values ]) is, ap (λ o. elim o [ None ↦ [] | Some p ↦ (at log (suc p)).locks ]) is)

  -- a region that is there as the store has it
  there_before : (p : ℕ) (d : Descriptor) (target : Option ℕ) → range_of (region_at log r p) ≡ Some d.range → index_of (region_at log r p) ≡ Some d.index → there_at log r d target ≡ kept.There (state_from (at log p) d target)
  there_before p d target range index = λ i. kept.There (record { descriptor = d; target = target; values = values i; locks = locks i })
    where
      last : (q : ℕ) × ((place log r d.index ≡ Some q) × ((IsGreatest (acts_at log r) p q) × (left_at log r q ≡ region_at log r p)))
      last = let l = place_is_last log lawful r p d.index d.range range index in (l.0, (l.1, (l.2, l.3)))

      still : Stays d.range last.0 p
      still = stays last.0 d.range (ap range_of last.1.1.1 ∙ range) p last.1.1.0.below last.1.1.0.later

      at_place : (values_at log r d.index ≡ (at log (suc last.0)).values) × (locks_at log r d.index ≡ (at log (suc last.0)).locks)
      at_place = placed last.0 d.index last.1.0

      values : values_in d.range (values_at log r d.index) ≡ values_in d.range (at log p).values
      values = ap (values_in d.range) at_place.0 ∙ still.families.values

      locks : locks_in d.range (locks_at log r d.index) ≡ locks_in d.range (at log p).locks
      locks = ap (locks_in d.range) at_place.1 ∙ still.families.locks

  there_after : (p : ℕ) → acts_at log r p ≡ true → (d : Descriptor) (target : Option ℕ) → range_of (left_at log r p) ≡ Some d.range → index_of (left_at log r p) ≡ Some d.index → there_at log r d target ≡ kept.There (state_from (at log (suc p)) d target)
  there_after p acts d target range index = λ i. kept.There (record { descriptor = d; target = target; values = values_in d.range (at_place.0 i); locks = locks_in d.range (at_place.1 i) })
    where
      at_place : (values_at log r d.index ≡ (at log (suc p)).values) × (locks_at log r d.index ≡ (at log (suc p)).locks)
      at_place = placed p d.index (place_left log lawful r p d.index d.range acts range index)

  before_is : (p : ℕ) → kept_at log r (region_at log r p) ≡ kept_of (at log p) r
  before_is p = by (region_at log r p) refl
    where
      by : (s : Region) → region_at log r p ≡ s → kept_at log r s ≡ kept_from (at log p) s
      by Unborn is = refl
      by (Live d) is = ap (λ k. Some k) (there_before p d None (ap range_of is) (ap index_of is))
      by (Prepared d target) is = ap (λ k. Some k) (there_before p d (Some target) (ap range_of is) (ap index_of is))
      by (Gone index) is = refl

  after_is : (p : ℕ) → acts_at log r p ≡ true → kept_at log r (left_at log r p) ≡ kept_of (at log (suc p)) r
  after_is p acts = by (left_at log r p) refl
    where
      by : (s : Region) → left_at log r p ≡ s → kept_at log r s ≡ kept_from (at log (suc p)) s
      by Unborn is = refl
      by (Live d) is = ap (λ k. Some k) (there_after p acts d None (ap range_of is) (ap index_of is))
      by (Prepared d target) is = ap (λ k. Some k) (there_after p acts d (Some target) (ap range_of is) (ap index_of is))
      by (Gone index) is = refl

  -- ---- at a set

  module _ (A : ℕ → Bool) (closed : IsClosed log A) (p : ℕ) (ready : is_ready log A p ≡ true) where
    pub kept_before : acts_at log r p ≡ true → kept_at log r (applied log A r) ≡ kept_of (at log p) r
    kept_before acts = ap (kept_at log r) (applied_before log A p lawful closed ready r acts) ∙ before_is p

    pub kept_then : acts_at log r p ≡ true → kept_at log r (applied log (with_position A p) r) ≡ kept_of (at log (suc p)) r
    kept_then acts = ap (kept_at log r) (applied_after log A p lawful closed ready r acts) ∙ after_is p acts

    pub kept_still : acts_at log r p ≡ false → kept_at log r (applied log (with_position A p) r) ≡ kept_at log r (applied log A r)
    kept_still out = ap (kept_at log r) (applied_other log A p lawful closed ready r out)
