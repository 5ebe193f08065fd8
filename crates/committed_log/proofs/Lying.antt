-- What the families have lies in the regions, at every position of a lawful log.
use Rattle.std.proofs.Common.{◌≡◌, ◌≢◌, ◌∙◌, refl, sym, ap, subst, ℕ, ℤ, Bool, true, false, true≢false, cond, not, ◌&&◌, ◌||◌, List, [], ◌∷◌, Option, Some, None, filter, nat_eq, int_le, int_lt, arith}
use Rattle.std.proofs.lemmas.Int.{ints}
use Rattle.std.proofs.lemmas.Bool.Decides.{nat_tests}
use Rattle.flash_types.specs.Ranges.{holds, is_below}
use Rattle.flash_types.specs.declared.range.HandleRange.{HandleRange}
use Rattle.log_codec.specs.declared.entry.Entry.{Entry}
use Rattle.log_codec.specs.declared.entry.Body.{Body}
use Rattle.log_codec.specs.declared.entry.Body.TheVariants as body
use Rattle.log_codec.specs.declared.entry.Op.{Op}
use Rattle.committed_log.specs.declared.region.Descriptor.{Descriptor}
use Rattle.committed_log.specs.Admission.{other_fault, range_fault, merge_fault, birth_fault, is_prepared_for, is_unborn, is_live}
use Rattle.committed_log.specs.Laws.{owned, owns}
use Rattle.committed_log.specs.Lawful.{IsLawful}
use Rattle.committed_log.specs.Log.{Log, at}
use Rattle.committed_log.specs.Owned.{AreFilled, IsFilled, only, IsBare, IsUnowned, LiesInRegions}
use Rattle.committed_log.specs.Regions.{Region, Unborn, Live, Prepared, Gone, region, with_region, range_of, makes_region, joined, merged, lower_part, upper_part, regions_step, regions_after, live_after, born_after, after_merge}
use Rattle.committed_log.specs.Store.{Store, empty, families_after, after_ops, after_entry, cleared}
use Rattle.committed_log.proofs.Disjoint.{region-with_region}
use Rattle.committed_log.proofs.Entries.{by_entries, head_next}
use Rattle.committed_log.proofs.Faults.{IsFine, is_unborn_is}
use Rattle.committed_log.proofs.Filled.{joined_covers, filled_after}
use Rattle.committed_log.proofs.Merged.{unowned}
use Rattle.committed_log.proofs.Local.{same_ops, same_install, same_then}
use Rattle.committed_log.proofs.Ranks.{of_live as makes_none}
use Rattle.committed_log.proofs.Owners.{tested, merge_touches, untaken}

only_is : (h x : ℤ) → holds (only h) x ≡ true → x ≡ h
only_is h x e = grind (arith, ints)

-- another range that hasn't the handle
apart : (h : ℤ) (other : HandleRange) → holds other h ≡ false → (x : ℤ) → holds other x ≡ true → holds (only h) x ≡ false
apart h other out x inside = by (holds (only h) x) refl
  where
    by : (b : Bool) → holds (only h) x ≡ b → b ≡ false
    by true is = absurd (true≢false (sym inside ∙ ap (holds other) (only_is h x is) ∙ out))
    by false is = refl

bare_ops : (h : ℤ) (table : ℤ) (range : HandleRange) (p : ℕ) (s : Store) (ops : List Op) → holds range h ≡ false → IsBare h s → IsBare h (after_ops table range p s ops)
bare_ops h table range p s ops out bare = same_then (holds (only h)) empty s (after_ops table range p s ops) bare (same_ops (holds (only h)) range (apart h range out) table p s ops)

bare_install : (h : ℤ) (table : ℤ) (range : HandleRange) (p : ℕ) (s : Store) (ops : List Op) → holds range h ≡ false → IsBare h s → IsBare h (after_ops table range p (cleared range s) ops)
bare_install h table range p s ops out bare = same_then (holds (only h)) empty s (after_ops table range p (cleared range s) ops) bare (same_install (holds (only h)) range (apart h range out) table p s ops)

filter_none : {X : Type 0} (p q : X → Bool) → ((x : X) → p x ≡ true → q x ≡ false) → (xs : List X) → [] ≡ filter p (filter q xs)
filter_none p q never [] = refl
filter_none p q never (x ∷ xs) = elim (q x) as (λ b. q x ≡ b → [] ≡ filter p (cond b (x ∷ filter q xs) (filter q xs))) [
  | true ↦ λ is. elim (p x) as (λ c. p x ≡ c → [] ≡ cond c (x ∷ filter p (filter q xs)) (filter p (filter q xs))) [ true ↦ λ is'. absurd (true≢false (sym is ∙ never x is')) | false ↦ λ is'. filter_none p q never xs ] refl
  | false ↦ λ is. filter_none p q never xs
] refl

-- nothing is left of a handle that was cleared
pub bare_cleared : (h : ℤ) (range : HandleRange) (s : Store) → holds range h ≡ true → IsBare h (cleared range s)
bare_cleared h range s inside = record {
  values = filter_none _ _ (λ e is. out e.0.0 is) s.values;
  locks = filter_none _ _ (λ e is. out e.0 is) s.locks;
  commits = filter_none _ _ (λ c is. out c.handle is) s.commits;
}
  where
    out : (x : ℤ) → holds (only h) x ≡ true → not (holds range x) ≡ false
    out x is = ap not (ap (holds range) (only_is h x is) ∙ inside)

self : (k : ℕ) → nat_eq k k ≡ true
self k = grind (arith, nat_tests)

not_same : (a b : ℕ) → b ≢ a → nat_eq a b ≡ false
not_same a b e = apart_by (nat_eq a b) refl
  where
    apart_by : (t : Bool) → nat_eq a b ≡ t → t ≡ false
    apart_by true is = absurd (e (sym (same a b is)))
      where
        same : (q k : ℕ) → nat_eq q k ≡ true → q ≡ k
        same q k e = grind (arith, nat_tests)
    apart_by false is = refl

module _ (regions : List (ℕ × Region)) (h : ℤ) where
  -- a handle that no region has after one was put, and that this one didn't have before
  unput : (k : ℕ) (s : Region) → owns regions k h ≡ false → IsUnowned (with_region k s regions) h → IsUnowned regions h
  unput k s out un q = by (nat_eq q k) refl
    where
      same : (q k : ℕ) → nat_eq q k ≡ true → q ≡ k
      same q k e = grind (arith, nat_tests)

      by : (b : Bool) → nat_eq q k ≡ b → owns regions q h ≡ false
      by true is = ap (λ z. owns regions z h) (same q k is) ∙ out
      by false is = sym (ap (λ s. owned s h) (region-with_region regions k s q ∙ ap (λ b. cond b s (region regions q)) is)) ∙ un q

  -- the region that was put hasn't it
  put_out : (k : ℕ) (s : Region) → IsUnowned (with_region k s regions) h → owned s h ≡ false
  put_out k s un = sym (ap (λ s. owned s h) (region-with_region regions k s k ∙ ap (λ b. cond b s (region regions k)) (self k))) ∙ un k

either : (a b j : Bool) → ((a || b) ≡ true → j ≡ true) → j ≡ false → (a ≡ false) × (b ≡ false)
either true b j covers none = absurd (true≢false (sym (covers refl) ∙ none))
either false true j covers none = absurd (true≢false (sym (covers refl) ∙ none))
either false false j covers none = (refl, refl)

lower_or_upper : (range : HandleRange) (at h : ℤ) → (int_le range.low h && int_lt h at) ≡ false → (int_le at h && is_below h range.high) ≡ false → holds range h ≡ false
lower_or_upper range at h a b = by range.high b
  where
    by : (high : Option ℤ) → (int_le at h && is_below h high) ≡ false → (int_le range.low h && is_below h high) ≡ false
    by None b = grind (arith, ints)
    by (Some high) b = grind (arith, ints)

module _ (table : ℤ) (p : ℕ) (s : Store) (e : Entry) (fine : IsFine p s.regions e) (filled : AreFilled s.regions) (lies : LiesInRegions s) (h : ℤ) where
  of_unborn : (b : Body) → region s.regions e.region ≡ Unborn → IsUnowned (born_after e.region e.index b s.regions) h → IsBare h (families_after table p None b s)
  of_unborn (body.Open conf_ver version low high) is un = lies h (unput s.regions h e.region _ (ap (λ s. owned s h) is) un)
  of_unborn (body.Install conf_ver version low high ops) is un = bare_install h table (record { low = low; high = high }) p s ops (put_out s.regions h e.region _ un) (lies h (unput s.regions h e.region _ (ap (λ s. owned s h) is) un))
  of_unborn (body.Split at child) is un = lies h un
  of_unborn (body.Prepare target) is un = lies h un
  of_unborn (body.Commit source) is un = lies h un
  of_unborn body.Remove is un = lies h un
  of_unborn (body.Write ops) is un = lies h un
  of_unborn body.Empty is un = lies h un

  module _ (d : Descriptor) (live : region s.regions e.region ≡ Live d) where
    owner : owns s.regions e.region h ≡ holds d.range h
    owner = ap (λ s. owned s h) live

    -- the region keeps its range
    out_kept : (st : Region) → owned st h ≡ holds d.range h → IsUnowned (with_region e.region st s.regions) h → holds d.range h ≡ false
    out_kept st same un = sym same ∙ put_out s.regions h e.region st un

    kept : (st : Region) → owned st h ≡ holds d.range h → IsUnowned (with_region e.region st s.regions) h → IsBare h s
    kept st same un = lies h (unput s.regions h e.region st (owner ∙ out_kept st same un) un)

    merge_step : (source : ℕ) (st : Region) → region s.regions source ≡ st → is_prepared_for e.region st ≡ true → merge_fault s.regions source e.region ≡ None → IsUnowned (after_merge e.region d e.index source st s.regions) h → IsBare h s
    merge_step source Unborn is f range un = absurd (true≢false (sym f))
    merge_step source (Live c) is f range un = absurd (true≢false (sym f))
    merge_step source (Gone last) is f range un = absurd (true≢false (sym f))
    merge_step source (Prepared c target) is f range un = lies h (unput s.regions h e.region joint (owner ∙ out.0) (unput (with_region e.region joint s.regions) h source (Gone c.index) there un))
      where
        joint : Region
        joint = Live (merged d c e.index)

        -- the target isn't the source, so it has the joined range
        other : source ≢ e.region
        other same = cc (sym is ∙ ap (region s.regions) same ∙ live)

        joint_out : holds (joined d.range c.range) h ≡ false
        joint_out = sym (ap (λ s. owned s h) (region-with_region (with_region e.region joint s.regions) source (Gone c.index) e.region ∙ ap (λ b. cond b (Gone c.index) (region (with_region e.region joint s.regions) e.region)) (not_same e.region source other)
            ∙ region-with_region s.regions e.region joint e.region ∙ ap (λ b. cond b joint (region s.regions e.region)) (self e.region))) ∙ un e.region

        out : (holds d.range h ≡ false) × (holds c.range h ≡ false)
        out = either (holds d.range h) (holds c.range h) (holds (joined d.range c.range) h) (joined_covers d.range c.range (merge_touches s.regions e.region d live source c target is range) (subst IsFilled live (filled e.region)) (subst IsFilled is (filled source)) h) joint_out

        there : owns (with_region e.region joint s.regions) source h ≡ false
        there = ap (λ s. owned s h) (region-with_region s.regions e.region joint source ∙ ap (λ b. cond b joint (region s.regions source)) (not_same source e.region (λ same. other (sym same))) ∙ is) ∙ out.1

    of_live : (b : Body) → makes_region b ≡ false → other_fault s.regions e.region b ≡ None → range_fault s.regions e.region b ≡ None → IsUnowned (live_after e.region d e.index b s.regions) h → IsBare h (families_after table p (Some d.range) b s)
    of_live (body.Open conf_ver version low high) makes other range un = absurd (true≢false makes)
    of_live (body.Install conf_ver version low high ops) makes other range un = absurd (true≢false makes)
    of_live (body.Write ops) makes other range un = bare_ops h table d.range p s ops (out_kept _ refl un) (kept _ refl un)
    of_live (body.Prepare target) makes other range un = kept _ refl un
    of_live body.Empty makes other range un = kept _ refl un
    of_live (body.Commit source) makes other range un = merge_step source (region s.regions source) refl (tested s.regions source (is_prepared_for e.region) other) range un
    of_live body.Remove makes other range un = by (holds d.range h) refl
      where
        by : (b : Bool) → holds d.range h ≡ b → IsBare h (cleared d.range s)
        by true inside = bare_cleared h d.range s inside
        by false out = bare_install h table d.range p s [] out (lies h (unput s.regions h e.region _ (owner ∙ out) un))
    of_live (body.Split at child) makes other range un = lies h (unput s.regions h child upper (ap (λ s. owned s h) unborn) (unput (with_region child upper s.regions) h e.region lower there un))
      where
        upper : Region
        upper = Live (upper_part d at)

        lower : Region
        lower = Live (lower_part d at e.index)

        unborn : region s.regions child ≡ Unborn
        unborn = is_unborn_is (region s.regions child) (tested s.regions child is_unborn other)

        other_child : child ≢ e.region
        other_child same = cc (sym unborn ∙ ap (region s.regions) same ∙ live)

        up_out : holds (upper_part d at).range h ≡ false
        up_out = sym (ap (λ s. owned s h) (region-with_region (with_region child upper s.regions) e.region lower child ∙ ap (λ b. cond b lower (region (with_region child upper s.regions) child)) (not_same child e.region (λ same. other_child (sym same)))
            ∙ region-with_region s.regions child upper child ∙ ap (λ b. cond b upper (region s.regions child)) (self child))) ∙ un child

        out : holds d.range h ≡ false
        out = lower_or_upper d.range at h (put_out (with_region child upper s.regions) h e.region lower un) up_out

        there : owns (with_region child upper s.regions) e.region h ≡ false
        there = ap (λ s. owned s h) (region-with_region s.regions child upper e.region ∙ ap (λ b. cond b upper (region s.regions e.region)) (not_same e.region child other_child) ∙ live) ∙ out

-- by an entry that has no fault
module _ (table : ℤ) (p : ℕ) (s : Store) (e : Entry) (fine : IsFine p s.regions e) (filled : AreFilled s.regions) (lies : LiesInRegions s) (h : ℤ) where
  neither : (m : Bool) (st : Region) → is_unborn st ≡ false → is_live st ≡ false → cond m is_unborn is_live st ≡ true → ⊥
  neither true st a b w = true≢false (sym w ∙ a)
  neither false st a b w = true≢false (sym w ∙ b)

  own : (st : Region) → region s.regions e.region ≡ st → cond (makes_region e.body) is_unborn is_live st ≡ true
  own st is = sym (ap (cond (makes_region e.body) is_unborn is_live) is) ∙ tested s.regions e.region (cond (makes_region e.body) is_unborn is_live) fine.own

  by_state : (state : Region) → region s.regions e.region ≡ state → IsUnowned (regions_step state e s.regions) h → IsBare h (families_after table p (range_of state) e.body s)
  by_state Unborn is un = of_unborn table p s e fine filled lies h e.body is un
  by_state (Live d) is un = of_live table p s e fine filled lies h d is e.body (makes_none p s.regions e fine d is) fine.other fine.range un
  by_state (Prepared d target) is un = absurd (neither (makes_region e.body) (Prepared d target) refl refl (own (Prepared d target) is))
  by_state (Gone last) is un = absurd (neither (makes_region e.body) (Gone last) refl refl (own (Gone last) is))

bare_regions : (h : ℤ) (s : Store) (regions : List (ℕ × Region)) → IsBare h s → IsBare h (record s { regions = regions })
bare_regions h s regions bare = record { values = bare.values; locks = bare.locks; commits = bare.commits }

pub lies_after : (table : ℤ) (p : ℕ) (s : Store) (e : Entry) → IsFine p s.regions e → AreFilled s.regions → LiesInRegions s → LiesInRegions (after_entry table p s e)
lies_after table p s e fine filled lies h un = bare_regions h (families_after table p (range_of (region s.regions e.region)) e.body s) (regions_after s.regions e) (by_state table p s e fine filled lies h (region s.regions e.region) refl un)

pub lies_at : (log : Log) → IsLawful log → (p : ℕ) → LiesInRegions (at log p)
lies_at log lawful p = (by_entries log (λ p s. AreFilled s.regions × LiesInRegions s) ((λ r. tt), λ h un. record { values = refl; locks = refl; commits = refl })
    (λ p e is old. (filled_after p (at log p).regions e (head_next log p e is lawful) old.0, lies_after log.table p (at log p) e (head_next log p e is lawful) old.0 old.1)) (λ p s old. old) p).1

-- of a range that a region may be born with the families have nothing
pub bare_born : (s : Store) → LiesInRegions s → (range : HandleRange) → birth_fault s.regions range ≡ None → (h : ℤ) → holds range h ≡ true → IsBare h s
bare_born s lies range fine h inside = lies h (λ q. by q (owns s.regions q h) refl)
  where
    by : (q : ℕ) (b : Bool) → owns s.regions q h ≡ b → owns s.regions q h ≡ false
    by q true is = absurd (unowned range s.regions (untaken s.regions range fine) q h is inside)
    by q false is = is
