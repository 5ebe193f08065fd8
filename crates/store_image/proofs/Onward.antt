-- What stands for a log stands for each longer one.
use Rattle.std.proofs.Common.{◌≡◌, ◌⊎◌, ◌∙◌, inl, inr, refl, sym, ap, subst, ℕ, zero, suc, ◌<◌, ◌≤◌, Bool, true, false, cond, ◌&&◌, List, [], ◌∷◌, ◌++◌, Option, Some, None, filter, append-nil, arith, length, length-append}
use Rattle.std.proofs.lemmas.List.Elements.{filter-append}
use Rattle.flash_io.specs.Image.{Image}
use Rattle.flash_types.specs.declared.range.HandleRange.{HandleRange}
use Rattle.log_codec.specs.declared.entry.Entry.{Entry}
use Rattle.committed_log.specs.Applied.{acts_at, applied, first_numbers, left_at, place}
use Rattle.committed_log.specs.Lawful.{IsLawful}
use Rattle.committed_log.specs.Laws.{longer}
use Rattle.committed_log.specs.Log.{Log, at}
use Rattle.committed_log.specs.Regions.{index_of, range_of}
use Rattle.committed_log.specs.Replies.{locks_at}
use Rattle.committed_log.specs.Store.{Store}
use Rattle.committed_log.specs.declared.region.Descriptor.{Descriptor}
use Rattle.committed_log.specs.declared.region.Region.{Region}
use Rattle.committed_log.specs.declared.region.Region.TheVariants.{Unborn, Live, Prepared, Gone}
use Rattle.committed_log.proofs.Closed.{applied_cases}
use Rattle.committed_log.proofs.Faults.{both_true}
use Rattle.committed_log.proofs.Longer.{applied_same, at_same, closed_same, place_same}
use Rattle.committed_log.proofs.Places.{place_left}
use Rattle.committed_log.proofs.Positions.{IsGreatest}
use Rattle.log_laws.specs.Longer.{GoesOn}
use Rattle.log_laws.proofs.Digests.{chain_on}
use Rattle.log_laws.proofs.Onward.{is_longer, lawful_on}
use Rattle.good_replica.proofs.Facts.{le_or}
use Rattle.good_replica.proofs.Longer.{all_longer}
use Rattle.manifest_form.specs.declared.recover.Recovered.{Recovered}
use Rattle.region_file.specs.declared.entry.Entry.TheVariants as kept
use Rattle.region_state.specs.State.{values_in, locks_in}
use Rattle.region_table.specs.Opening.{IsFileOf}
use Rattle.region_table.specs.Table.{Kept, AreRegionsAt, kept_at, size_of, there_at, values_at}
use Rattle.store_image.specs.Images.{AreRegionsRead, IsCountOf, Stands, StandsFor}

module _ (log : Log) (more : List Entry) where
  -- ---- the size of a set

  count_on : (A : ℕ → Bool) (n k : ℕ) → n ≤ k → ((x : ℕ) → n ≤ x → A x ≡ false) → filter A (first_numbers k) ≡ filter A (first_numbers n)
  count_on A n zero le out = (let same : 0 ≡ n = omega (arith, le) in ap (λ m. filter A (first_numbers m)) same)
  count_on A n (suc k) le out = elim (le_or n k le) [
    | inl low ↦ filter-append A (first_numbers k) (k ∷ []) ∙ ap (λ b. filter A (first_numbers k) ++ cond b (k ∷ []) []) (out k low) ∙ append-nil (filter A (first_numbers k)) ∙ count_on A n k low out
    | inr same ↦ ap (λ m. filter A (first_numbers m)) (sym same)
  ]

  size_on : (A : ℕ → Bool) → ((x : ℕ) → length log.entries ≤ x → A x ≡ false) → size_of (longer log more) A ≡ size_of log A
  size_on A out = ap length (count_on A (length log.entries) (length (log.entries ++ more)) (omega (arith, length-append log.entries more)) out)

  -- ---- a region that the applied entries leave there

  module _ (lawful : IsLawful log) (A : ℕ → Bool) where
    placed : (r i : ℕ) (range : HandleRange) → range_of (applied log A r) ≡ Some range → index_of (applied log A r) ≡ Some i → (p : ℕ) × (place log r i ≡ Some p) × (p < length log.entries)
    placed r i range there index = by (applied_cases log A r)
      where
        by : (((q : ℕ) → q < length log.entries → (A q && acts_at log r q) ≡ false) × (applied log A r ≡ Unborn)) ⊎ ((q : ℕ) × IsGreatest (λ p. A p && acts_at log r p) (length log.entries) q × (applied log A r ≡ left_at log r q)) → (p : ℕ) × (place log r i ≡ Some p) × (p < length log.entries)
        by (inl none) = cc (sym (ap range_of none.1) ∙ there)
        by (inr some) = (some.0, place_left log lawful r some.0 i range (both_true (A some.0) (acts_at log r some.0) some.1.passes).1 (ap range_of (sym some.2) ∙ there) (ap index_of (sym some.2) ∙ index), some.1.below)

    there_on : (r : ℕ) (d : Descriptor) (target : Option ℕ) → range_of (applied log A r) ≡ Some d.range → index_of (applied log A r) ≡ Some d.index → there_at (longer log more) r d target ≡ there_at log r d target
    there_on r d target range index =
        let p = placed r d.index d.range range index in
        let values : values_at (longer log more) r d.index ≡ values_at log r d.index =
        ap (λ o. elim o [ None ↦ [] | Some p ↦ (at (longer log more) (suc p)).values ]) (place_same log more r d.index p.0 p.1) ∙ ap (λ (s : Store). s.values) (at_same log more (suc p.0) p.2) ∙ sym (ap (λ o. elim o [ None ↦ [] | Some p ↦ (at log (suc p)).values ]) p.1) in
        let locks : locks_at (longer log more) r d.index ≡ locks_at log r d.index =
        ap (λ o. elim o [ None ↦ [] | Some p ↦ (at (longer log more) (suc p)).locks ]) (place_same log more r d.index p.0 p.1) ∙ ap (λ (s : Store). s.locks) (at_same log more (suc p.0) p.2) ∙ sym (ap (λ o. elim o [ None ↦ [] | Some p ↦ (at log (suc p)).locks ]) p.1) in
        (λ i. kept.There (record { descriptor = d; target = target; values = values_in d.range (values i); locks = locks_in d.range (locks i) }))

    kept_on : (r : ℕ) → kept_at (longer log more) r (applied log A r) ≡ kept_at log r (applied log A r)
    kept_on r = by (applied log A r) refl
      where
        by : (s : Region) → applied log A r ≡ s → kept_at (longer log more) r s ≡ kept_at log r s
        by Unborn is = refl
        by (Gone index) is = refl
        by (Live d) is = (let there = there_on r d None (ap range_of is) (ap index_of is) in (λ i. Some (there i)))
        by (Prepared d target) is = (let there = there_on r d (Some target) (ap range_of is) (ap index_of is) in (λ i. Some (there i)))

    regions_at_on : (regions : List (ℕ × Kept)) → AreRegionsAt log A regions → AreRegionsAt (longer log more) A regions
    regions_at_on regions are = record {
      closed = closed_same log more A are.closed;
      regions = λ r. are.regions r ∙ sym (kept_on r) ∙ ap (kept_at (longer log more) r) (sym (applied_same log more A are.closed.within r));
    }

    file_of_on : (bytes : List ℕ) → IsFileOf log A bytes → IsFileOf (longer log more) A bytes
    file_of_on bytes is = (is.0, is.1, regions_at_on is.0 is.2)

    regions_longer : (own : ℕ) (c : Image) (o : Option ℕ) → AreRegionsRead own c log A o → AreRegionsRead own c (longer log more) A o
    regions_longer own c None h = h
    regions_longer own c (Some file) h = (h.0, h.1, (h.2.0, h.2.1, file_of_on h.2.0 h.2.2))

    count_longer : (o : Option ℕ) → ((x : ℕ) → length log.entries ≤ x → A x ≡ false) → IsCountOf log A o → IsCountOf (longer log more) A o
    count_longer None out h = h
    count_longer (Some n) out h = h ∙ sym (size_on A out)

-- no entry past High is applied, so none past the log's end
past_end : (A : ℕ → Bool) (high n : ℕ) → high ≤ n → ((p : ℕ) → A p ≡ true → p < high) → (x : ℕ) → n ≤ x → A x ≡ false
past_end A high n le below x past = by (A x) refl
  where
    by : (b : Bool) → A x ≡ b → b ≡ false
    by false is = refl
    by true is = absurd (omega (arith, le, past, below x is))

stands_longer : (log : Log) (more : List Entry) → IsLawful log → GoesOn log (longer log more) → (A : ℕ → Bool) (own : ℕ) (has : Recovered) (c : Image) → Stands log A own has c → Stands (longer log more) A own has c
stands_longer log more lawful goes A own has c stands =
    let out = past_end A has.state.high (length log.entries) stands.high stands.below in
    record {
      table = stands.table;
      columns = stands.columns;
      segments = stands.segments;
      read = stands.read;
      regions = regions_longer log more lawful A own c has.state.regions stands.regions;
      count = count_longer log more lawful A has.state.count out stands.count;
      good = all_longer log more A out has.state.high has.state.safe_point stands.segments stands.good;
      high = omega (arith, stands.high, length-append log.entries more);
      below = stands.below;
      chain = stands.chain ∙ sym (chain_on log (longer log more) goes has.state.high stands.high);
    }

module _ (short long : Log) (g : GoesOn short long) (lawful : IsLawful long) where
  pub stands_onward : (A : ℕ → Bool) (own : ℕ) (has : Recovered) (c : Image) → Stands short A own has c → Stands long A own has c
  stands_onward A own has c stands =
      subst (λ l. Stands l A own has c) (is_longer short long g)
      (stands_longer short g.more (lawful_on short long g lawful) (record { table = refl; schema = refl; more = g.more; entries = refl }) A own has c stands)

  pub for_onward : (A : ℕ → Bool) (safe : ℕ) (c : Image) → StandsFor short A safe c → StandsFor long A safe c
  for_onward A safe c (inl empty) = inl empty
  for_onward A safe c (inr it) = inr (record { file = it.file; has = it.has; store = it.store; safe_point = it.safe_point; stands = stands_onward A it.file it.has c it.stands })
