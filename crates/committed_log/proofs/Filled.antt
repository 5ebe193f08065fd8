-- Each region that is there has a handle, at every position of a lawful log; and what two ranges that touch have as one.
use Rattle.std.proofs.Common.{◌≡◌, refl, sym, subst, ℕ, ℤ, Bool, true, false, true≢false, cond, ◌&&◌, ◌||◌, List, Option, Some, None, option_map, nat_eq, int_le, arith}
use Rattle.std.proofs.lemmas.Int.{ints}
use Rattle.std.specs.Map.{values_of}
use Rattle.std.specs.Ordering.{int_eq}
use Rattle.flash_types.specs.Ranges.{holds, is_below}
use Rattle.flash_types.specs.declared.range.HandleRange.{HandleRange}
use Rattle.log_codec.specs.declared.entry.Entry.{Entry}
use Rattle.log_codec.specs.declared.entry.Body.{Body}
use Rattle.log_codec.specs.declared.entry.Body.TheVariants as body
use Rattle.committed_log.specs.declared.region.Descriptor.{Descriptor}
use Rattle.committed_log.specs.declared.unlawful.Unlawful.TheVariants as unlawful
use Rattle.committed_log.specs.Admission.{other_fault, range_fault, birth_fault, merge_fault, least_taken, touch, is_prepared_for}
use Rattle.committed_log.specs.Lawful.{IsLawful}
use Rattle.committed_log.specs.Log.{Log, at}
use Rattle.committed_log.specs.Owned.{IsFilled, AreFilled}
use Rattle.committed_log.specs.Regions.{Region, Unborn, Live, Prepared, Gone, region, with_region, ends_at, joined, merged, regions_step, regions_after, live_after, born_after, after_merge}
use Rattle.committed_log.proofs.Disjoint.{region-with_region}
use Rattle.committed_log.proofs.Entries.{by_entries, head_next}
use Rattle.committed_log.proofs.Faults.{both_true, IsFine}
use Rattle.committed_log.proofs.Owners.{tested, split_within, merge_touches}

-- ---- ranges that touch

-- the first ends where the second begins
first_filled : (a b : HandleRange) → ends_at a b.low ≡ true → is_below a.low a.high ≡ true → is_below b.low b.high ≡ true → is_below a.low b.high ≡ true
first_filled a b e x y = by a.high b.high e x y
  where
    by : (ah bh : Option ℤ) → (elim ah [ None ↦ false | Some high ↦ int_eq high b.low ]) ≡ true → is_below a.low ah ≡ true → is_below b.low bh ≡ true → is_below a.low bh ≡ true
    by None bh e x y = absurd (true≢false (sym e))
    by (Some ah) None e x y = refl
    by (Some ah) (Some bh) e x y = grind (arith, ints)

first_covers : (a b : HandleRange) (h : ℤ) → ends_at a b.low ≡ true → is_below a.low a.high ≡ true → is_below b.low b.high ≡ true → (holds a h || holds b h) ≡ true → (int_le a.low h && is_below h b.high) ≡ true
first_covers a b h e x y own = by a.high b.high e x y own
  where
    by : (ah bh : Option ℤ) → (elim ah [ None ↦ false | Some high ↦ int_eq high b.low ]) ≡ true → is_below a.low ah ≡ true → is_below b.low bh ≡ true → ((int_le a.low h && is_below h ah) || (int_le b.low h && is_below h bh)) ≡ true → (int_le a.low h && is_below h bh) ≡ true
    by None bh e x y own = absurd (true≢false (sym e))
    by (Some ah) None e x y own = grind (arith, ints)
    by (Some ah) (Some bh) e x y own = grind (arith, ints)

or_turned : (x y : Bool) → (x || y) ≡ true → (y || x) ≡ true
or_turned true true e = refl
or_turned true false e = refl
or_turned false true e = refl
or_turned false false e = e

module _ (a b : HandleRange) (touches : touch a b ≡ true) (x : is_below a.low a.high ≡ true) (y : is_below b.low b.high ≡ true) where
  pub joined_filled : is_below (joined a b).low (joined a b).high ≡ true
  joined_filled = by (ends_at a b.low) refl touches
    where
      by : (t : Bool) → ends_at a b.low ≡ t → (t || ends_at b a.low) ≡ true → (let j : HandleRange = cond t (record { low = a.low; high = b.high }) (record { low = b.low; high = a.high }) in is_below j.low j.high ≡ true)
      by true is e = first_filled a b is x y
      by false is e = first_filled b a e y x

  pub joined_covers : (h : ℤ) → (holds a h || holds b h) ≡ true → holds (joined a b) h ≡ true
  joined_covers h own = by (ends_at a b.low) refl touches
    where
      by : (t : Bool) → ends_at a b.low ≡ t → (t || ends_at b a.low) ≡ true → holds (cond t (record { low = a.low; high = b.high }) (record { low = b.low; high = a.high })) h ≡ true
      by true is e = first_covers a b h is x y own
      by false is e = first_covers b a h e y x (or_turned (holds a h) (holds b h) own)

-- ---- each region that is there has a handle

put : (regions : List (ℕ × Region)) (k : ℕ) (s : Region) → IsFilled s → AreFilled regions → AreFilled (with_region k s regions)
put regions k s one all q = subst IsFilled (sym (region-with_region regions k s q)) (elim (nat_eq q k) as (λ b. IsFilled (cond b s (region regions q))) [ true ↦ one | false ↦ all q ])

-- a range that a region may be born with
pub born_filled : (regions : List (ℕ × Region)) (range : HandleRange) → birth_fault regions range ≡ None → is_below range.low range.high ≡ true
born_filled regions range e = by (is_below range.low range.high) e
  where
    by : (b : Bool) → cond b (option_map unlawful.Range (least_taken range (values_of regions))) (Some (unlawful.Range range.low)) ≡ None → b ≡ true
    by true e = refl
    by false e = cc e

module _ (regions : List (ℕ × Region)) (r index : ℕ) (all : AreFilled regions) where
  born_step : (b : Body) → range_fault regions r b ≡ None → AreFilled (born_after r index b regions)
  born_step (body.Open conf_ver version low high) fine = put regions r _ (born_filled regions (record { low = low; high = high }) fine) all
  born_step (body.Install conf_ver version low high ops) fine = put regions r _ (born_filled regions (record { low = low; high = high }) fine) all
  born_step (body.Split at child) fine = all
  born_step (body.Prepare target) fine = all
  born_step (body.Commit source) fine = all
  born_step body.Remove fine = all
  born_step (body.Write ops) fine = all
  born_step body.Empty fine = all

  module _ (d : Descriptor) (live : region regions r ≡ Live d) where
    own : is_below d.range.low d.range.high ≡ true
    own = subst IsFilled live (all r)

    merge_step : (source : ℕ) (s : Region) → region regions source ≡ s → is_prepared_for r s ≡ true → merge_fault regions source r ≡ None → AreFilled (after_merge r d index source s regions)
    merge_step source Unborn is e fine = absurd (true≢false (sym e))
    merge_step source (Live c) is e fine = absurd (true≢false (sym e))
    merge_step source (Gone last) is e fine = absurd (true≢false (sym e))
    merge_step source (Prepared c target) is e fine = put (with_region r (Live (merged d c index)) regions) source (Gone c.index) tt
        (put regions r (Live (merged d c index)) (joined_filled d.range c.range (merge_touches regions r d live source c target is fine) own (subst IsFilled is (all source))) all)

    live_step : (b : Body) → other_fault regions r b ≡ None → range_fault regions r b ≡ None → AreFilled (live_after r d index b regions)
    live_step (body.Split at child) other fine =
        let within = split_within regions r d live at fine in
        put (with_region child _ regions) r _ within.0 (put regions child _ (both_true _ _ within.1).1 all)
    live_step (body.Commit source) other fine = merge_step source (region regions source) refl (tested regions source (is_prepared_for r) other) fine
    live_step (body.Prepare target) other fine = put regions r _ own all
    live_step body.Remove other fine = put regions r _ tt all
    live_step (body.Open conf_ver version low high) other fine = put regions r _ own all
    live_step (body.Install conf_ver version low high ops) other fine = put regions r _ own all
    live_step (body.Write ops) other fine = put regions r _ own all
    live_step body.Empty other fine = put regions r _ own all

pub filled_after : (p : ℕ) (regions : List (ℕ × Region)) (e : Entry) → IsFine p regions e → AreFilled regions → AreFilled (regions_after regions e)
filled_after p regions e fine old = by (region regions e.region) refl
  where
    by : (state : Region) → region regions e.region ≡ state → AreFilled (regions_step state e regions)
    by Unborn is = born_step regions e.region e.index old e.body fine.range
    by (Live d) is = live_step regions e.region e.index old d is e.body fine.other fine.range
    by (Prepared d target) is = old
    by (Gone last) is = old

pub filled_at : (log : Log) → IsLawful log → (p : ℕ) → AreFilled (at log p).regions
filled_at log lawful p = by_entries log (λ p s. AreFilled s.regions) (λ r. tt)
    (λ p e is old. filled_after p (at log p).regions e (head_next log p e is lawful) old) (λ p s old. old) p
