-- What a longer log says as the log does.
use Rattle.std.proofs.Common.{◌≡◌, ◌⊎◌, inl, inr, ◌∙◌, refl, sym, ap, subst, ℕ, suc, ◌<◌, ◌≤◌, ℤ, Bool, false, true≢false, cond, not, ◌&&◌, List, [], ◌∷◌, ◌++◌, Option, Some, None, option_map, option_and_then, nat_lt, find, map, length, length-append, arith}
use Rattle.std.proofs.lemmas.List.Elements.{Contains-append_right}
use Rattle.std.specs.List.{Contains, filter_map, flat_map, slice_index_or}
use Rattle.std.specs.Option.{option_or}
use Rattle.column_block.specs.declared.column.Bound.{Bound}
use Rattle.flash_types.specs.Asks.{Asked}
use Rattle.flash_types.specs.Ranges.{holds}
use Rattle.flash_types.specs.declared.ask.AskRegion.{AskRegion}
use Rattle.flash_types.specs.declared.range.HandleRange.{HandleRange}
use Rattle.flash_types.specs.declared.refusal.Cut.{Cut}
use Rattle.flash_types.specs.declared.refusal.Refusal.{Refusal}
use Rattle.flash_types.specs.declared.refusal.Refusal.TheVariants as refusal
use Rattle.flash_types.specs.declared.refusal.Wants.TheVariants as wants
use Rattle.log_codec.specs.declared.entry.Entry.{Entry}
use Rattle.committed_log.specs.declared.region.Descriptor.{Descriptor}
use Rattle.committed_log.specs.Applied.{IsClosed, acts_at, applied, left_at, next, place}
use Rattle.committed_log.specs.Lawful.{IsLawful}
use Rattle.committed_log.specs.Laws.{IsInside, longer}
use Rattle.committed_log.specs.Log.{Log, at}
use Rattle.committed_log.specs.Reads.{commits_at, commits_of, handles, kept, row_of, rows, shown, shown_by}
use Rattle.committed_log.specs.Regions.{acts_on, index_of, range_of}
use Rattle.committed_log.specs.declared.region.Region.{Region}
use Rattle.committed_log.specs.declared.region.Region.TheVariants.{Unborn, Live, Prepared, Gone}
use Rattle.committed_log.specs.Replies.{AreCuts, IsRight, Refused, Answered, Reply, cut_of, first_lock, locks_at, refused, refused_at, refused_regions, refused_there, same_epoch, unsettled_refusal}
use Rattle.committed_log.specs.Store.{Store}
use Rattle.committed_log.proofs.Closed.{applied_cases}
use Rattle.committed_log.proofs.Faults.{both_true}
use Rattle.committed_log.proofs.Longer.{applied_same, at_same, closed_same, entry_same, lawful_front, place_same}
use Rattle.committed_log.proofs.Places.{place_left}
use Rattle.committed_log.proofs.Positions.{Finds, IsGreatest, IsLeast, find_is, find_least}
use Rattle.log_laws.specs.Between.{IsRightBetween}
use Rattle.log_laws.specs.Longer.{GoesOn}
use Rattle.log_laws.proofs.Apart.{cut_at, cut_is, some_region}
use Rattle.log_laws.proofs.Found.{cut_has}
use Rattle.log_laws.proofs.Small.{mapped_at, not_lt, order}

-- the longer log as one with entries more
pub is_longer : (short long : Log) (g : GoesOn short long) → longer short g.more ≡ long
is_longer short long g = sym (λ i. record { table = g.table i; schema = g.schema i; entries = g.entries i })

module _ (log : Log) (more : List Entry) (lawful : IsLawful log) (A : ℕ → Bool) where
  -- ---- a region that the applied entries leave there

  placed : (r i : ℕ) (range : HandleRange) → range_of (applied log A r) ≡ Some range → index_of (applied log A r) ≡ Some i → (p : ℕ) × (place log r i ≡ Some p) × (p < length log.entries)
  placed r i range there index = by (applied_cases log A r)
    where
      by : (((q : ℕ) → q < length log.entries → (A q && acts_at log r q) ≡ false) × (applied log A r ≡ Unborn)) ⊎ ((q : ℕ) × IsGreatest (λ p. A p && acts_at log r p) (length log.entries) q × (applied log A r ≡ left_at log r q)) → (p : ℕ) × (place log r i ≡ Some p) × (p < length log.entries)
      by (inl none) = cc (sym (ap range_of none.1) ∙ there)
      by (inr some) = (some.0, place_left log lawful r some.0 i range (both_true (A some.0) (acts_at log r some.0) some.1.passes).1 (ap range_of (sym some.2) ∙ there) (ap index_of (sym some.2) ∙ index), some.1.below)

  locks_same : (r i : ℕ) (range : HandleRange) → range_of (applied log A r) ≡ Some range → index_of (applied log A r) ≡ Some i → locks_at (longer log more) r i ≡ locks_at log r i
  locks_same r i range there index =
      let p = placed r i range there index in
      ap (λ o. elim o [ None ↦ [] | Some p ↦ (at (longer log more) (suc p)).locks ]) (place_same log more r i p.0 p.1)
      ∙ ap (λ (s : Store). s.locks) (at_same log more (suc p.0) p.2)
      ∙ sym (ap (λ o. elim o [ None ↦ [] | Some p ↦ (at log (suc p)).locks ]) p.1)

  commits_same : (r i : ℕ) (range : HandleRange) → range_of (applied log A r) ≡ Some range → index_of (applied log A r) ≡ Some i → commits_at (longer log more) r i ≡ commits_at log r i
  commits_same r i range there index =
      let p = placed r i range there index in
      ap (λ o. elim o [ None ↦ [] | Some p ↦ (at (longer log more) (suc p)).commits ]) (place_same log more r i p.0 p.1)
      ∙ ap (λ (s : Store). s.commits) (at_same log more (suc p.0) p.2)
      ∙ sym (ap (λ o. elim o [ None ↦ [] | Some p ↦ (at log (suc p)).commits ]) p.1)

  -- ---- rows

  abbrev SameCommits : Cut → Type 0
  SameCommits cut = commits_of (longer log more) cut ≡ commits_of log cut

  flat_same : (cuts : List Cut) → ((cut : Cut) → Contains cuts cut → SameCommits cut) → flat_map (commits_of (longer log more)) cuts ≡ flat_map (commits_of log) cuts
  flat_same [] each = refl
  flat_same (c ∷ cuts) each = (let first = each c (0, omega arith, refl) in let rest = flat_same cuts (λ cut there. each cut (Contains-append_right (c ∷ []) cuts cut there)) in (λ i. first i ++ rest i))

  shown_same : (cuts : List Cut) → ((cut : Cut) → Contains cuts cut → SameCommits cut) → (ts : ℕ) (h : ℤ) → shown_by (longer log more) cuts ts h ≡ shown_by log cuts ts h
  shown_same cuts each ts h = by (find (λ (cut : Cut). holds cut.range h) cuts) refl
    where
      by : (o : Option Cut) → find (λ (cut : Cut). holds cut.range h) cuts ≡ o → option_and_then (λ cut. shown (commits_of (longer log more) cut) ts h) o ≡ option_and_then (λ cut. shown (commits_of log cut) ts h) o
      by None is = refl
      by (Some cut) is = (let has = cut_has h cuts cut is in ap (λ cs. shown cs ts h) (each cut has.0))

  pub rows_same : (cuts : List Cut) → ((cut : Cut) → Contains cuts cut → SameCommits cut) → (ts : ℕ) (clip : HandleRange) → rows (longer log more) cuts ts clip ≡ rows log cuts ts clip
  rows_same cuts each ts clip = (let flat = flat_same cuts each in (λ i. filter_map (λ h. cond (holds clip h) (option_map (row_of log.schema h) (shown_same cuts each ts h i)) None) (handles (flat i))))

  pub cuts_same : (regions : List AskRegion) (cuts : List Cut) → AreCuts log A regions cuts → (cut : Cut) → Contains cuts cut → SameCommits cut
  cuts_same regions cuts are cut there =
      let from = mapped_at (cut_at log A) regions cuts are there.0 some_region cut there.1 in
      let asked = slice_index_or regions there.0 some_region in
      let is = cut_is asked.region (applied log A asked.region) cut (from.1 ∙ ap (λ c. Some c) there.2) in
      commits_same cut.region cut.index cut.range (ap (λ r. range_of (applied log A r)) is.region ∙ is.range) (ap (λ r. index_of (applied log A r)) is.region ∙ is.index)

  -- ---- refusals

  module _ (closed : IsClosed log A) (mark : ℕ) (within : mark ≤ length log.entries) where
    waiting : (r p : ℕ) → p < length log.entries → (not (A p) && acts_at (longer log more) r p) ≡ (not (A p) && acts_at log r p)
    waiting r p less = ap (λ b. not (A p) && b) (entry_same log more (acts_on r) p less)

    -- where the log has no next entry below the mark, neither has the longer one
    unsettled_same : (r i : ℕ) → unsettled_refusal r i (next (longer log more) A r) mark ≡ unsettled_refusal r i (next log A r) mark
    unsettled_same r i = by (next log A r) refl (find_least (λ p. not (A p) && acts_at log r p) (length log.entries))
      where
        beyond : (p : ℕ) → length log.entries ≤ p → cond (nat_lt p mark) (Some (refusal.NotYet r (Some i) (wants.Mark p mark))) None ≡ None
        beyond p le = ap (λ b. cond b (Some (refusal.NotYet r (Some i) (wants.Mark p mark))) None) (not_lt p mark (omega (arith, le, within)))

        none_below : ((q : ℕ) → q < length log.entries → (not (A q) && acts_at log r q) ≡ false) → (o : Option ℕ) → Finds (λ p. not (A p) && acts_at (longer log more) r p) (length (log.entries ++ more)) o → unsettled_refusal r i o mark ≡ None
        none_below none None finds = refl
        none_below none (Some p) least = of (order (length log.entries) p)
          where
            of : (length log.entries ≤ p) ⊎ (p < length log.entries) → cond (nat_lt p mark) (Some (refusal.NotYet r (Some i) (wants.Mark p mark))) None ≡ None
            of (inl le) = beyond p le
            of (inr less) = absurd (true≢false (sym least.passes ∙ waiting r p less ∙ none p less))

        by : (o : Option ℕ) → next log A r ≡ o → Finds (λ p. not (A p) && acts_at log r p) (length log.entries) (next log A r) → unsettled_refusal r i (next (longer log more) A r) mark ≡ unsettled_refusal r i (next log A r) mark
        by None is finds =
            none_below (subst (Finds (λ p. not (A p) && acts_at log r p) (length log.entries)) is finds) (next (longer log more) A r) (find_least (λ p. not (A p) && acts_at (longer log more) r p) (length (log.entries ++ more)))
            ∙ sym (ap (λ o. unsettled_refusal r i o mark) is)
        by (Some p) is finds = (let least : IsLeast (λ p. not (A p) && acts_at log r p) (length log.entries) p = subst (Finds (λ p. not (A p) && acts_at log r p) (length log.entries)) is finds in
            ap (λ o. unsettled_refusal r i o mark) (find_is (λ p. not (A p) && acts_at (longer log more) r p) (length (log.entries ++ more)) p (record {
              below = omega (arith, least.below, length-append log.entries more);
              passes = waiting r p least.below ∙ least.passes;
              first = λ q less. waiting r q (omega (arith, less, least.below)) ∙ least.first q less;
            })) ∙ sym (ap (λ o. unsettled_refusal r i o mark) is))

    module _ (ts : ℕ) (asked : AskRegion) where
      there_same : (d : Descriptor) → range_of (applied log A asked.region) ≡ Some d.range → index_of (applied log A asked.region) ≡ Some d.index → refused_there (longer log more) ts asked (next (longer log more) A asked.region) mark d ≡ refused_there log ts asked (next log A asked.region) mark d
      there_same d range index =
          let unsettled = unsettled_same asked.region d.index in
          let locks = locks_same asked.region d.index d.range range index in
          (λ i. cond (nat_lt d.index asked.index) (Some (refusal.NotYet asked.region (Some d.index) (wants.Index asked.index)))
          (option_or (unsettled i) (cond (same_epoch d.epoch asked.epoch) (elim (first_lock (locks i) d.range ts) as (λ _. Option Refusal) [ None ↦ None | Some l ↦ Some (refusal.Locked asked.region d.index l.0 l.1.start) ]) (Some (refusal.EpochNotMatch asked.region d.index (Some d.epoch))))))

      region_same : refused_at (longer log more) ts asked (next (longer log more) A asked.region) mark (applied (longer log more) A asked.region) ≡ refused_at log ts asked (next log A asked.region) mark (applied log A asked.region)
      region_same = ap (refused_at (longer log more) ts asked (next (longer log more) A asked.region) mark) (applied_same log more A closed.within asked.region) ∙ by (applied log A asked.region) refl
        where
          by : (s : Region) → applied log A asked.region ≡ s → refused_at (longer log more) ts asked (next (longer log more) A asked.region) mark s ≡ refused_at log ts asked (next log A asked.region) mark s
          by Unborn is = refl
          by (Gone index) is = refl
          by (Live d) is = there_same d (ap range_of is) (ap index_of is)
          by (Prepared d target) is = there_same d (ap range_of is) (ap index_of is)

    regions_same : (ts : ℕ) (regions : List AskRegion) → refused_regions (longer log more) ts regions A mark ≡ refused_regions log ts regions A mark
    regions_same ts [] = refl
    regions_same ts (asked ∷ regions) = (λ i. option_or (region_same ts asked i) (regions_same ts regions i))

    pub refused_same : (ask : Asked) (safe : ℕ) → refused (longer log more) ask A safe mark ≡ refused log ask A safe mark
    refused_same ask safe = ap (cond (nat_lt ask.ts safe) (Some (refusal.BelowSafePoint safe))) (regions_same ask.ts ask.regions)

    pub right_same : (ask : Asked) (bound : Option Bound) (safe : ℕ) (reply : Reply) → IsRight log ask bound A safe mark reply → IsRight (longer log more) ask bound A safe mark reply
    right_same ask bound safe (Refused why) right = refused_same ask safe ∙ right
    right_same ask bound safe (Answered cuts found) right = (
      refused_same ask safe ∙ right.0,
      (λ i. map (λ (asked : AskRegion). cut_of asked.region (applied_same log more A closed.within asked.region i)) ask.regions) ∙ right.1,
      right.2 ∙ ap (kept bound) (sym (rows_same cuts (cuts_same ask.regions cuts right.1) ask.ts ask.clip)),
    )

-- ---- of a log that goes on where another ends

module _ (short long : Log) (g : GoesOn short long) where
  pub lawful_on : IsLawful long → IsLawful short
  lawful_on lawful = lawful_front short g.more (subst IsLawful (sym (is_longer short long g)) lawful)

  pub closed_on : (A : ℕ → Bool) → IsClosed short A → IsClosed long A
  closed_on A closed = subst (λ l. IsClosed l A) (is_longer short long g) (closed_same short g.more A closed)

  pub applied_on : (A : ℕ → Bool) → IsClosed short A → (r : ℕ) → applied long A r ≡ applied short A r
  applied_on A closed r = sym (ap (λ l. applied l A r) (is_longer short long g)) ∙ applied_same short g.more A closed.within r

  pub rows_on : IsLawful short → (A : ℕ → Bool) (regions : List AskRegion) (cuts : List Cut) → AreCuts short A regions cuts → (ts : ℕ) (clip : HandleRange) → rows long cuts ts clip ≡ rows short cuts ts clip
  rows_on lawful A regions cuts are ts clip = sym (ap (λ l. rows l cuts ts clip) (is_longer short long g)) ∙ rows_same short g.more lawful A cuts (cuts_same short g.more lawful A regions cuts are) ts clip

  pub refused_on : IsLawful short → (A : ℕ → Bool) → IsClosed short A → (ask : Asked) (safe mark : ℕ) → mark ≤ length short.entries → refused long ask A safe mark ≡ refused short ask A safe mark
  refused_on lawful A closed ask safe mark within = sym (ap (λ l. refused l ask A safe mark) (is_longer short long g)) ∙ refused_same short g.more lawful A closed mark within ask safe

  pub right_on : IsLawful short → (A : ℕ → Bool) → IsClosed short A → (ask : Asked) (bound : Option Bound) (safe mark : ℕ) (reply : Reply) → mark ≤ length short.entries → IsRight short ask bound A safe mark reply → IsRight long ask bound A safe mark reply
  right_on lawful A closed ask bound safe mark reply within right = subst (λ l. IsRight l ask bound A safe mark reply) (is_longer short long g) (right_same short g.more lawful A closed mark within ask bound safe reply right)

  pub between_on : IsLawful short → (ask : Asked) (bound : Option Bound) (lower upper : ℕ → Bool) (safe mark : ℕ) (reply : Reply) → mark ≤ length short.entries → IsRightBetween short ask bound lower upper safe mark reply → IsRightBetween long ask bound lower upper safe mark reply
  between_on lawful ask bound lower upper safe mark reply within b = record { set = b.set; closed = closed_on b.set b.closed; above = b.above; below = b.below; right = right_on lawful b.set b.closed ask bound safe mark reply within b.right }

pub wider : (log : Log) (ask : Asked) (bound : Option Bound) (lower upper less more : ℕ → Bool) (safe mark : ℕ) (reply : Reply) → IsInside less lower → IsInside upper more → IsRightBetween log ask bound lower upper safe mark reply → IsRightBetween log ask bound less more safe mark reply
wider log ask bound lower upper less more safe mark reply low high b = record { set = b.set; closed = b.closed; above = λ p x. b.above p (low p x); below = λ p x. high p (b.below p x); right = b.right }
