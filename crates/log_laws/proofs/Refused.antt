-- What a refusal says is so.
use Rattle.std.proofs.Common.{◌≡◌, ◌≢◌, ◌⊎◌, inl, inr, ◌∙◌, refl, sym, ap, subst, ℕ, zero, suc, ◌<◌, ◌≤◌, ℤ, Bool, true, false, true≢false, cond, not, ◌&&◌, List, [], ◌∷◌, Option, Some, None, nat_le, nat_lt, int_le, find, length, arith}
use Rattle.std.proofs.lemmas.Int.{ints}
use Rattle.std.proofs.lemmas.List.Elements.{Contains-append_right}
use Rattle.std.specs.BTreeMap.{is_at}
use Rattle.std.specs.List.{AllByRecursion, Contains, slice_index_or}
use Rattle.std.specs.List.Sorted.{IsStrictlySortedBy}
use Rattle.std.specs.Map.{keys_of}
use Rattle.std.specs.Option.{option_or}
use Rattle.std.specs.Ordering.{int_cmp}
use Rattle.std.specs.Prelude.{◌==◌}
use Rattle.std.specs.declared.cmp.Ordering.TheVariants.{Less}
use Rattle.flash_types.specs.Asks.{Asked}
use Rattle.flash_types.specs.Ranges.{holds}
use Rattle.flash_types.specs.declared.Epoch.{Epoch}
use Rattle.flash_types.specs.declared.ask.AskRegion.{AskRegion}
use Rattle.flash_types.specs.declared.range.HandleRange.{HandleRange}
use Rattle.flash_types.specs.declared.refusal.Refusal.{Refusal}
use Rattle.flash_types.specs.declared.refusal.Refusal.TheVariants as refusal
use Rattle.flash_types.specs.declared.refusal.Wants.TheVariants as wants
use Rattle.committed_log.specs.declared.region.Descriptor.{Descriptor}
use Rattle.committed_log.specs.Applied.{IsClosed, acts_at, applied, left_at, next, place, unsettled}
use Rattle.committed_log.specs.Lawful.{IsLawful}
use Rattle.committed_log.specs.Log.{Log, at, end}
use Rattle.committed_log.specs.Regions.{index_of, range_of, region as region_in}
use Rattle.committed_log.specs.declared.region.Region.{Region}
use Rattle.committed_log.specs.declared.region.Region.TheVariants.{Unborn, Live, Prepared, Gone}
use Rattle.committed_log.specs.Replies.{blocks, cut_of, first_lock, locked, locks_at, may_commit, refused, refused_at, refused_regions, refused_there, same_epoch, unsettled_refusal}
use Rattle.committed_log.specs.Store.{lock as lock_of}
use Rattle.committed_log.specs.declared.store.Lock.{Lock}
use Rattle.committed_log.proofs.Answered.{applied_by_index}
use Rattle.committed_log.proofs.Closed.{applied_cases, next_is, same_is}
use Rattle.committed_log.proofs.Faults.{both_true}
use Rattle.committed_log.proofs.Growth.{gone_stays}
use Rattle.committed_log.proofs.Places.{place_left}
use Rattle.committed_log.proofs.Positions.{IsGreatest}
use Rattle.committed_log.proofs.Pushed.{at_end}
use Rattle.committed_log.proofs.Ranks.{same_number}
use Rattle.committed_log.proofs.Sorted.{sorted_at}
use Rattle.log_laws.specs.Refusals.{AsksFor, IsLeastLocked, IsSo, StandsAt}
use Rattle.log_laws.specs.Sets.{ends_at}
use Rattle.log_laws.proofs.Born.{was_ended}
use Rattle.log_laws.proofs.Small.{and_true, le_is, lt_is, some_is}

-- ---- the first lock in the way

abbrev Locks : Type 0
Locks = List (ℤ × Lock)

abbrev AreAbove : ℤ → Locks → Type 0
AreAbove h es = AllByRecursion (λ k. int_cmp h k ≡ Less) (keys_of es)

same_handle : (h k : ℤ) → is_at (int_cmp h) k ≡ true → k ≡ h
same_handle h k e = grind (arith, ints)

at_itself : (h : ℤ) → is_at (int_cmp h) h ≡ true
at_itself h = grind (arith, ints)

not_at : (h k : ℤ) → int_cmp k h ≡ Less → is_at (int_cmp h) k ≡ false
not_at h k e = grind (arith, ints)

less_le : (h k : ℤ) → int_cmp h k ≡ Less → int_le h k ≡ true
less_le h k e = grind (arith, ints)

le_itself : (h k : ℤ) → h ≡ k → int_le h k ≡ true
le_itself h k e = grind (arith, ints)

-- a lock that is found in a list above a handle is above it
found_above : (h g : ℤ) (es : Locks) (v : Lock) → AreAbove h es → lock_of es g ≡ Some v → int_cmp h g ≡ Less
found_above h g [] v above is = cc is
found_above h g (e ∷ es) v above is = by (is_at (int_cmp g) e.0) refl is (found_above h g es v above.1)
  where
    by : (b : Bool) → is_at (int_cmp g) e.0 ≡ b → cond b (Some e.1) (lock_of es g) ≡ Some v → (lock_of es g ≡ Some v → int_cmp h g ≡ Less) → int_cmp h g ≡ Less
    by true at is rest = subst (λ k. int_cmp h k ≡ Less) (same_handle g e.0 at) above.0
    by false at is rest = rest is

record IsFirst (range : HandleRange) (ts : ℕ) (locks : Locks) (l : ℤ × Lock) : Type 0 where
  stands : lock_of locks l.0 ≡ Some l.1
  passes : blocks range ts l ≡ true
  least : (g : ℤ) (v : Lock) → lock_of locks g ≡ Some v → blocks range ts (g, v) ≡ true → int_le l.0 g ≡ true

module _ (range : HandleRange) (ts : ℕ) where
  lock_first : (locks : Locks) → IsStrictlySortedBy int_cmp (keys_of locks) → (l : ℤ × Lock) → find (blocks range ts) locks ≡ Some l → IsFirst range ts locks l
  unfolding IsStrictlySortedBy
  lock_first [] sorted l is = cc is
  lock_first (e ∷ es) sorted l is = elim (blocks range ts e) as (λ b. blocks range ts e ≡ b → cond b (Some e) (find (blocks range ts) es) ≡ Some l → IsFirst range ts (e ∷ es) l) [
    | true ↦ λ passes is. subst (IsFirst range ts (e ∷ es)) (some_is e l is) (record {
      stands = ap (λ b. cond b (Some e.1) (lock_of es e.0)) (at_itself e.0);
      passes = passes;
      least = λ g v there _. least_first e es sorted.0 g v there;
    })
    | false ↦ λ out is. (let rest = lock_first es sorted.1 l is in record {
      stands = ap (λ b. cond b (Some e.1) (lock_of es l.0)) (not_at l.0 e.0 (found_above e.0 l.0 es l.1 sorted.0 rest.stands)) ∙ rest.stands;
      passes = rest.passes;
      least = λ g v there passes. least_rest e es l out rest.least g v there passes;
    })
  ] refl is
    where
      least_first : (e : ℤ × Lock) (es : Locks) → AreAbove e.0 es → (g : ℤ) (v : Lock) → lock_of (e ∷ es) g ≡ Some v → int_le e.0 g ≡ true
      least_first e es above g v there = by (is_at (int_cmp g) e.0) refl there
        where
          by : (b : Bool) → is_at (int_cmp g) e.0 ≡ b → cond b (Some e.1) (lock_of es g) ≡ Some v → int_le e.0 g ≡ true
          by true at is = le_itself e.0 g (same_handle g e.0 at)
          by false at is = less_le e.0 g (found_above e.0 g es v above is)

      least_rest : (e : ℤ × Lock) (es : Locks) (l : ℤ × Lock) → blocks range ts e ≡ false → ((g : ℤ) (v : Lock) → lock_of es g ≡ Some v → blocks range ts (g, v) ≡ true → int_le l.0 g ≡ true) → (g : ℤ) (v : Lock) → lock_of (e ∷ es) g ≡ Some v → blocks range ts (g, v) ≡ true → int_le l.0 g ≡ true
      least_rest e es l out least g v there passes = by (is_at (int_cmp g) e.0) refl there
        where
          by : (b : Bool) → is_at (int_cmp g) e.0 ≡ b → cond b (Some e.1) (lock_of es g) ≡ Some v → int_le l.0 g ≡ true
          by true at is = absurd (true≢false (sym passes ∙ sym (λ i. blocks range ts (same_handle g e.0 at i, some_is e.1 v is i)) ∙ out))
          by false at is = least g v is passes

-- ---- of one region

module _ (log : Log) (lawful : IsLawful log) (A : ℕ → Bool) (closed : IsClosed log A) (ask : Asked) (safe mark : ℕ) (asked : AskRegion) (among : Contains ask.regions asked) where
  abbrev r : ℕ
  r = asked.region

  told : (so why : Refusal) → Some so ≡ Some why → IsSo log ask A safe mark so → IsSo log ask A safe mark why
  told so why e is = subst (IsSo log ask A safe mark) (some_is so why e) is

  abbrev asks : AsksFor ask r
  asks = record { asked = asked; among = among; region = refl }

  -- a region that is there
  module _ (s : Region) (d : Descriptor) (is : applied log A r ≡ s) (cut : cut_of r s ≡ Some (record { region = r; epoch = d.epoch; index = d.index; range = d.range })) (range : range_of s ≡ Some d.range) (index : index_of s ≡ Some d.index) where
    ranged : range_of (applied log A r) ≡ Some d.range
    ranged = ap range_of is ∙ range

    indexed : index_of (applied log A r) ≡ Some d.index
    indexed = ap index_of is ∙ index

    abbrev stands : StandsAt log A r d.index
    stands = record {
      cut = record { region = r; epoch = d.epoch; index = d.index; range = d.range };
      left = ap (cut_of r) is ∙ cut;
      given = ap (cut_of r) (applied_by_index log lawful A r d.index d.range ranged indexed ∙ is) ∙ cut;
      at_index = refl;
    }

    placed : (p : ℕ) × (place log r d.index ≡ Some p)
    placed = by (applied_cases log A r)
      where
        by : (((q : ℕ) → q < length log.entries → (A q && acts_at log r q) ≡ false) × (applied log A r ≡ Unborn)) ⊎ ((q : ℕ) × IsGreatest (λ p. A p && acts_at log r p) (length log.entries) q × (applied log A r ≡ left_at log r q)) → (p : ℕ) × (place log r d.index ≡ Some p)
        by (inl none) = cc (sym (ap range_of none.1) ∙ ranged)
        by (inr some) = (some.0, place_left log lawful r some.0 d.index d.range (both_true (A some.0) (acts_at log r some.0) some.1.passes).1 (ap range_of (sym some.2) ∙ ranged) (ap index_of (sym some.2) ∙ indexed))

    behind : (why : Refusal) → nat_lt d.index asked.index ≡ true → Some (refusal.NotYet r (Some d.index) (wants.Index asked.index)) ≡ Some why → IsSo log ask A safe mark why
    behind why less e = told (refusal.NotYet r (Some d.index) (wants.Index asked.index)) why e (record { asks = asks; asked_index = refl; there = stands; below = lt_is d.index asked.index less })

    unsettled_so : (why : Refusal) → asked.index ≤ d.index → (p : ℕ) → next log A r ≡ Some p → nat_lt p mark ≡ true → Some (refusal.NotYet r (Some d.index) (wants.Mark p mark)) ≡ Some why → IsSo log ask A safe mark why
    unsettled_so why reached p there less e = told (refusal.NotYet r (Some d.index) (wants.Mark p mark)) why e (refl, record { asks = asks; there = stands; reached = reached; next = there; after = sym (next_is log lawful A closed r d.index d.range ranged indexed) ∙ there; below = lt_is p mark less })

    other_epoch : (why : Refusal) → asked.index ≤ d.index → not (unsettled (next log A r) mark) ≡ true → same_epoch d.epoch asked.epoch ≡ false → Some (refusal.EpochNotMatch r d.index (Some d.epoch)) ≡ Some why → IsSo log ask A safe mark why
    other_epoch why reached settled apart e = told (refusal.EpochNotMatch r d.index (Some d.epoch)) why e (record { asks = asks; there = stands; reached = reached; settled = settled; epoch = refl; other = λ same. true≢false (sym (ap (same_epoch d.epoch) (sym same) ∙ itself d.epoch) ∙ apart) })
      where
        itself : (a : Epoch) → same_epoch a a ≡ true
        itself a = and_true (a.conf_ver == a.conf_ver) (a.version == a.version) (same_is a.conf_ver) (same_is a.version)

    lock_so : (why : Refusal) → asked.index ≤ d.index → not (unsettled (next log A r) mark) ≡ true → d.epoch ≡ asked.epoch → locked log ask.ts r d ≡ Some why → IsSo log ask A safe mark why
    lock_so why reached settled same e = by (first_lock (locks_at log r d.index) d.range ask.ts) refl e
      where
        locks_are : locks_at log r d.index ≡ (at log (suc placed.0)).locks
        locks_are = ap (λ o. elim o [ None ↦ [] | Some p ↦ (at log (suc p)).locks ]) placed.1

        least : (l : ℤ × Lock) → first_lock (locks_at log r d.index) d.range ask.ts ≡ Some l → IsLeastLocked (at log (suc placed.0)) d.range ask.ts l.0 l.1.start
        least l is =
            let first = lock_first d.range ask.ts (at log (suc placed.0)).locks (sorted_at log (suc placed.0)).locks l (ap (λ ls. first_lock ls d.range ask.ts) (sym locks_are) ∙ is) in
            let x = both_true (holds d.range l.0 && may_commit l.1.kind) (nat_le l.1.start ask.ts) first.passes in
            let y = both_true (holds d.range l.0) (may_commit l.1.kind) x.0 in
            record {
              within = y.0;
              lock = l.1;
              stands = first.stands;
              kind = y.1;
              began = refl;
              early = le_from l.1.start ask.ts x.1;
              least = λ g held lock. first.least g lock.lock lock.stands (and_true (holds d.range g && may_commit lock.lock.kind) (nat_le lock.lock.start ask.ts) (and_true (holds d.range g) (may_commit lock.lock.kind) held lock.kind) (le_to lock.lock.start ask.ts lock.start));
            }
          where
            le_from : (a b : ℕ) → nat_le a b ≡ true → a ≤ b
            le_from a b e = grind arith

            le_to : (a b : ℕ) → a ≤ b → nat_le a b ≡ true
            le_to a b e = grind (arith, e)

        by : (o : Option (ℤ × Lock)) → first_lock (locks_at log r d.index) d.range ask.ts ≡ o → elim o as (λ _. Option Refusal) [ None ↦ None | Some l ↦ Some (refusal.Locked r d.index l.0 l.1.start) ] ≡ Some why → IsSo log ask A safe mark why
        by None is e = cc e
        by (Some l) is e = told (refusal.Locked r d.index l.0 l.1.start) why e (record { asks = asks; there = stands; reached = reached; settled = settled; epoch = same; place = placed.0; is = placed.1; locked = least l is })

    there_so : (why : Refusal) → refused_there log ask.ts asked (next log A r) mark d ≡ Some why → IsSo log ask A safe mark why
    there_so why e = by (nat_lt d.index asked.index) refl e
      where
        rest : Option Refusal
        rest = cond (same_epoch d.epoch asked.epoch) (locked log ask.ts r d) (Some (refusal.EpochNotMatch r d.index (Some d.epoch)))

        same : (a b : Epoch) → same_epoch a b ≡ true → a ≡ b
        same a b e = (let parts = both_true (a.conf_ver == b.conf_ver) (a.version == b.version) e in λ i. record { conf_ver = same_number a.conf_ver b.conf_ver parts.0 i; version = same_number a.version b.version parts.1 i })

        epochs : asked.index ≤ d.index → not (unsettled (next log A r) mark) ≡ true → (b : Bool) → same_epoch d.epoch asked.epoch ≡ b → cond b (locked log ask.ts r d) (Some (refusal.EpochNotMatch r d.index (Some d.epoch))) ≡ Some why → IsSo log ask A safe mark why
        epochs le settled true is e = lock_so why le settled (same d.epoch asked.epoch is) e
        epochs le settled false is e = other_epoch why le settled is e

        below : asked.index ≤ d.index → (o : Option ℕ) → next log A r ≡ o → option_or (unsettled_refusal r d.index o mark) rest ≡ Some why → IsSo log ask A safe mark why
        below le None is e = epochs le (ap (λ o. not (unsettled o mark)) is) (same_epoch d.epoch asked.epoch) refl e
        below le (Some p) is e = of (nat_lt p mark) refl e
          where
            of : (b : Bool) → nat_lt p mark ≡ b → option_or (cond b (Some (refusal.NotYet r (Some d.index) (wants.Mark p mark))) None) rest ≡ Some why → IsSo log ask A safe mark why
            of true less e = unsettled_so why le p is less e
            of false up e = epochs le (ap (λ o. not (unsettled o mark)) is ∙ ap not up) (same_epoch d.epoch asked.epoch) refl e

        by : (b : Bool) → nat_lt d.index asked.index ≡ b → cond b (Some (refusal.NotYet r (Some d.index) (wants.Index asked.index))) (option_or (unsettled_refusal r d.index (next log A r) mark) rest) ≡ Some why → IsSo log ask A safe mark why
        by true less e = behind why less e
        by false up e = below (le_is d.index asked.index up) (next log A r) refl e

  gone_so : (why : Refusal) (index : ℕ) → applied log A r ≡ Gone index → Some (refusal.EpochNotMatch r index None) ≡ Some why → IsSo log ask A safe mark why
  gone_so why index is e = told (refusal.EpochNotMatch r index None) why e (record { asks = asks; gone = is; at_end = at_the_end (applied_cases log A r); place = ended.0; done = ended.1; ended = ended.2 })
    where
      ended : (p : ℕ) × (A p ≡ true) × (ends_at log r p ≡ true)
      ended = was_ended log lawful A r index is

      at_the_end : (((q : ℕ) → q < length log.entries → (A q && acts_at log r q) ≡ false) × (applied log A r ≡ Unborn)) ⊎ ((q : ℕ) × IsGreatest (λ p. A p && acts_at log r p) (length log.entries) q × (applied log A r ≡ left_at log r q)) → region_in (end log).regions r ≡ Gone index
      at_the_end (inl none) = cc (sym none.1 ∙ is)
      at_the_end (inr some) = (let low = some.1.below in ap (λ s. region_in s.regions r) (sym (at_end log)) ∙ gone_stays log lawful r (suc some.0) (length log.entries) index (omega (arith, low)) (sym some.2 ∙ is))

  region_so : (why : Refusal) → refused_at log ask.ts asked (next log A r) mark (applied log A r) ≡ Some why → IsSo log ask A safe mark why
  region_so why e = by (applied log A r) refl e
    where
      by : (s : Region) → applied log A r ≡ s → refused_at log ask.ts asked (next log A r) mark s ≡ Some why → IsSo log ask A safe mark why
      by Unborn is e = told (refusal.NotYet r None (wants.Index asked.index)) why e (record { asks = asks; asked_index = refl; unborn = is })
      by (Gone index) is e = gone_so why index is e
      by (Live d) is e = there_so (Live d) d is refl refl refl why e
      by (Prepared d target) is e = there_so (Prepared d target) d is refl refl refl why e

-- ---- of a read

module _ (log : Log) (A : ℕ → Bool) (ts mark : ℕ) where
  -- the region that is refused
  found_in : (regions : List AskRegion) (why : Refusal) → refused_regions log ts regions A mark ≡ Some why → (asked : AskRegion) × (Contains regions asked) × (refused_at log ts asked (next log A asked.region) mark (applied log A asked.region) ≡ Some why)
  found_in [] why e = cc e
  found_in (a ∷ regions) why e = by (refused_at log ts a (next log A a.region) mark (applied log A a.region)) refl e (found_in regions why)
    where
      by : (o : Option Refusal) → refused_at log ts a (next log A a.region) mark (applied log A a.region) ≡ o → option_or o (refused_regions log ts regions A mark) ≡ Some why →
          (refused_regions log ts regions A mark ≡ Some why → (asked : AskRegion) × (Contains regions asked) × (refused_at log ts asked (next log A asked.region) mark (applied log A asked.region) ≡ Some why)) →
          (asked : AskRegion) × (Contains (a ∷ regions) asked) × (refused_at log ts asked (next log A asked.region) mark (applied log A asked.region) ≡ Some why)
      by None is e rest = (let r = rest e in (r.0, Contains-append_right (a ∷ []) regions r.0 r.1, r.2))
      by (Some x) is e rest = (a, (0, omega arith, refl), is ∙ e)

  -- one that can't be read refuses the read
  one_refuses : (regions : List AskRegion) (asked : AskRegion) (k : ℕ) → k < length regions → slice_index_or regions k asked ≡ asked → refused_at log ts asked (next log A asked.region) mark (applied log A asked.region) ≢ None → refused_regions log ts regions A mark ≢ None
  one_refuses [] asked k low is some e = absurd (omega (arith, low))
  one_refuses (a ∷ regions) asked k low is some e = by k low is (refused_at log ts a (next log A a.region) mark (applied log A a.region)) refl e (one_refuses regions asked)
    where
      by : (k : ℕ) → k < suc (length regions) → slice_index_or (a ∷ regions) k asked ≡ asked → (o : Option Refusal) → refused_at log ts a (next log A a.region) mark (applied log A a.region) ≡ o → option_or o (refused_regions log ts regions A mark) ≡ None →
          ((k : ℕ) → k < length regions → slice_index_or regions k asked ≡ asked → refused_at log ts asked (next log A asked.region) mark (applied log A asked.region) ≢ None → refused_regions log ts regions A mark ≢ None) → ⊥
      by zero low is None here e rest = some (subst (λ (z : AskRegion). refused_at log ts z (next log A z.region) mark (applied log A z.region) ≡ None) is here)
      by (suc k) low is None here e rest = rest k (omega (arith, low)) is some e
      by zero low is (Some x) here e rest = cc e
      by (suc k) low is (Some x) here e rest = cc e

pub refusal_so : (log : Log) → IsLawful log → (A : ℕ → Bool) → IsClosed log A → (ask : Asked) (safe mark : ℕ) (why : Refusal) → refused log ask A safe mark ≡ Some why → IsSo log ask A safe mark why
refusal_so log lawful A closed ask safe mark why e = by (nat_lt ask.ts safe) refl e
  where
    by : (b : Bool) → nat_lt ask.ts safe ≡ b → cond b (Some (refusal.BelowSafePoint safe)) (refused_regions log ask.ts ask.regions A mark) ≡ Some why → IsSo log ask A safe mark why
    by true less e = subst (IsSo log ask A safe mark) (some_is (refusal.BelowSafePoint safe) why e) (refl, lt_is ask.ts safe less)
    by false up e = (let found = found_in log A ask.ts mark ask.regions why e in region_so log lawful A closed ask safe mark found.0 found.1 why found.2)

pub gone_refused : (log : Log) (A : ℕ → Bool) (ask : Asked) (safe mark : ℕ) (asked : AskRegion) → Contains ask.regions asked → (index : ℕ) → applied log A asked.region ≡ Gone index → refused log ask A safe mark ≢ None
gone_refused log A ask safe mark asked among index gone e = by (nat_lt ask.ts safe) e
  where
    some : refused_at log ask.ts asked (next log A asked.region) mark (applied log A asked.region) ≢ None
    some none = cc (sym (ap (refused_at log ask.ts asked (next log A asked.region) mark) gone) ∙ none)

    by : (b : Bool) → cond b (Some (refusal.BelowSafePoint safe)) (refused_regions log ask.ts ask.regions A mark) ≡ None → ⊥
    by true e = cc e
    by false e = one_refuses log A ask.ts mark ask.regions asked among.0 among.1 among.2 some e
