-- The regions' low ends go on with an entry: the low end at which it puts a region, and the one at which no region begins any more.
use Rattle.std.proofs.Common.{◌≡◌, ◌≢◌, ◌∙◌, IsSome, refl, sym, ap, subst, ℕ, ℤ, Bool, true, false, true≢false, cond, ◌&&◌, ◌||◌, List, Option, Some, None, int_le, arith, option_map, length, unwrap_or, ◌<◌, ◌^◌}
use Rattle.std.proofs.lemmas.Int.{ints}
use Rattle.std.specs.Ordering.{int_eq}
use Rattle.std.specs.Prelude.{◌==◌}
use Rattle.flash_types.specs.Ranges.{holds, is_below}
use Rattle.flash_types.specs.declared.range.HandleRange.{HandleRange}
use Rattle.log_codec.specs.declared.entry.Entry.{Entry}
use Rattle.log_codec.specs.declared.entry.Body.{Body}
use Rattle.log_codec.specs.declared.entry.Body.TheVariants as body
use Rattle.committed_log.specs.declared.region.Descriptor.{Descriptor}
use Rattle.committed_log.specs.Admission.{head_fault, ops_fault, other_fault, range_fault, merge_fault, is_unborn, is_prepared_for}
use Rattle.committed_log.specs.Laws.{owned, AreDisjoint}
use Rattle.committed_log.specs.Lawful.{IsLawful, fault, pushed}
use Rattle.committed_log.specs.Log.{Log, end}
use Rattle.committed_log.specs.Lows.{AreLows, AreParted, begins_at, names, merging, put_low_of, put_region_of, ended_low_of, with_at, lows_after, StoodAt, IsPut}
use Rattle.committed_log.specs.Numbers.{IsRoomy}
use Rattle.committed_log.specs.Owned.{RangeIsFilled, IsFilled, AreFilled}
use Rattle.committed_log.specs.Regions.{Region, Unborn, Live, Prepared, Gone, region, range_of, index_of, with_region, ends_at, joined, merged, lower_part, upper_part, makes_region, regions_step, regions_after, live_after, born_after, after_merge}
use Rattle.committed_log.specs.Store.{Store}
use Rattle.committed_log.proofs.Disjoint.{region-with_region, by_number}
use Rattle.committed_log.proofs.Faults.{both_none, head_is_fine, is_unborn_is, IsFine}
use Rattle.committed_log.proofs.Filled.{filled_at}
use Rattle.committed_log.proofs.Owners.{tested, merge_touches, disjoint_at}
use Rattle.committed_log.proofs.Pushed.{at_end, store_push}
use Rattle.committed_log.proofs.Ranks.{region_here, region_there, of_live, of_unborn, no_entry}
use Rattle.committed_log.proofs.Sorted.{sorted_at}

int_itself : (h : ℤ) → int_eq h h ≡ true
int_itself h = grind (arith, ints)

equal : (x h : ℤ) → int_eq x h ≡ true → x ≡ h
equal x h e = grind (arith, ints)

one : (q r : ℕ) → q ≡ r → (q == r) ≡ true
one q r e = grind arith

numbered : (q r : ℕ) → (q == r) ≡ true → q ≡ r
numbered q r e = grind arith

-- ---- a region that begins at a handle has it

begins_owned : (state : Region) (h : ℤ) → IsFilled state → begins_at h state ≡ true → owned state h ≡ true
begins_owned state h = by (range_of state)
  where
    from_low : (l : ℤ) (high : Option ℤ) → is_below l high ≡ true → int_eq l h ≡ true → (int_le l h && is_below h high) ≡ true
    from_low l None b e = grind (arith, ints)
    from_low l (Some high) b e = grind (arith, ints)

    by : (o : Option HandleRange) → RangeIsFilled o → (elim o [ None ↦ false | Some range ↦ int_eq range.low h ]) ≡ true → (elim o [ None ↦ false | Some range ↦ holds range h ]) ≡ true
    by None filled e = absurd (true≢false (sym e))
    by (Some range) filled e = from_low range.low range.high filled e

begins_once : (regions : List (ℕ × Region)) → AreFilled regions → AreDisjoint regions → (q r : ℕ) (h : ℤ) → begins_at h (region regions q) ≡ true → begins_at h (region regions r) ≡ true → q ≡ r
begins_once regions filled disjoint q r h a b = disjoint.one q r h (begins_owned (region regions q) h (filled q) a) (begins_owned (region regions r) h (filled r) b)

-- ---- where the low ends move

abbrev IsAway : Option ℤ → ℤ → Type 0
IsAway place h = elim place [ None ↦ Unit {0} | Some x ↦ int_eq x h ≡ false ]

-- what becomes of the low ends: a region begins where it is put, none does at the one that is ended, and elsewhere all is as before
record Moves (before after : List (ℕ × Region)) (put : Option ℤ) (id : ℕ) (ended : Option ℤ) : Type 0 where
  begun : (h : ℤ) → put ≡ Some h → begins_at h (region after id) ≡ true
  over : (h : ℤ) → ended ≡ Some h → (r : ℕ) → begins_at h (region after r) ≡ false
  others : (h : ℤ) → IsAway put h → IsAway ended h → (r : ℕ) → begins_at h (region after r) ≡ begins_at h (region before r)

module _ (before after : List (ℕ × Region)) (filled : AreFilled after) (disjoint : AreDisjoint after) (put : Option ℤ) (id : ℕ) (ended : Option ℤ) (moves : Moves before after put id ended) (low : ℤ → Option ℕ) (lows : AreLows low before) where
  module _ (h : ℤ) (r : ℕ) where
    put_there : put ≡ Some h → (id == r) ≡ begins_at h (region after r)
    put_there is = by (begins_at h (region after r)) refl
      where
        same : id ≡ r → begins_at h (region after r) ≡ true
        same e = ap (λ z. begins_at h (region after z)) (sym e) ∙ moves.begun h is

        none : (c : Bool) → (id == r) ≡ c → begins_at h (region after r) ≡ false → (id == r) ≡ false
        none true e out = absurd (true≢false (sym (same (numbered id r e)) ∙ out))
        none false e out = e

        by : (b : Bool) → begins_at h (region after r) ≡ b → (id == r) ≡ begins_at h (region after r)
        by true e = one id r (begins_once after filled disjoint id r h (moves.begun h is) e) ∙ sym e
        by false e = none (id == r) refl e ∙ sym e

    -- past the end, if there is one
    put_or : IsAway ended h → names (with_at put (Some id) low h) r ≡ begins_at h (region after r)
    put_or away = by put refl
      where
        at : (x : ℤ) (b : Bool) → int_eq x h ≡ b → put ≡ Some x → names (cond b (Some id) (low h)) r ≡ begins_at h (region after r)
        at x true e is = put_there (is ∙ ap (λ z. Some z) (equal x h e))
        at x false e is = lows h r ∙ sym (moves.others h (subst (λ o. IsAway o h) (sym is) e) away r)

        by : (o : Option ℤ) → put ≡ o → names (with_at o (Some id) low h) r ≡ begins_at h (region after r)
        by None is = lows h r ∙ sym (moves.others h (subst (λ o. IsAway o h) (sym is) tt) away r)
        by (Some x) is = at x (int_eq x h) refl is

    moved : names (with_at ended None (with_at put (Some id) low) h) r ≡ begins_at h (region after r)
    moved = by ended refl
      where
        at : (x : ℤ) (b : Bool) → int_eq x h ≡ b → ended ≡ Some x → names (cond b None (with_at put (Some id) low h)) r ≡ begins_at h (region after r)
        at x true e is = sym (moves.over h (is ∙ ap (λ z. Some z) (equal x h e)) r)
        at x false e is = put_or (subst (λ o. IsAway o h) (sym is) e)

        by : (o : Option ℤ) → ended ≡ o → names (with_at o None (with_at put (Some id) low) h) r ≡ begins_at h (region after r)
        by None is = put_or (subst (λ o. IsAway o h) (sym is) tt)
        by (Some x) is = at x (int_eq x h) refl is

-- ---- what an entry does

no_end : (x : ℤ) → None ≡ Some x → ⊥
no_end x e = cc e

same_end : (x y : ℤ) → Some x ≡ Some y → x ≡ y
same_end x y e = cc e

module _ (regions : List (ℕ × Region)) (filled : AreFilled regions) (disjoint : AreDisjoint regions) (r i : ℕ) where
  -- where one region changes
  changed : (k : ℕ) (state : Region) (h : ℤ) → (begins_at h state ≡ begins_at h (region regions k)) → (q : ℕ) → begins_at h (region (with_region k state regions) q) ≡ begins_at h (region regions q)
  changed k state h same q = ap (begins_at h) (region-with_region regions k state q) ∙ by_number q k
      (λ is e. ap (λ b. begins_at h (cond b state (region regions q))) e ∙ same ∙ ap (λ z. begins_at h (region regions z)) (sym is))
      (λ apart e. ap (λ b. begins_at h (cond b state (region regions q))) e)

  born_moves : region regions r ≡ Unborn → (low : ℤ) (state : Region) → ((h : ℤ) → begins_at h state ≡ int_eq low h) → Moves regions (with_region r state regions) (Some low) r None
  born_moves unborn low state begins = record {
    begun = λ h is. ap (begins_at h) (region_here regions r state) ∙ begins h ∙ ap (λ x. int_eq x h) (same_end low h is) ∙ int_itself h;
    over = λ h is. absurd (no_end h is);
    others = λ h away _ q. changed r state h (begins h ∙ away ∙ sym (ap (begins_at h) unborn)) q;
  }

  module _ (d : Descriptor) (live : region regions r ≡ Live d) where
    -- the region keeps its low end
    kept : (state : Region) → ((h : ℤ) → begins_at h state ≡ int_eq d.range.low h) → Moves regions (with_region r state regions) None r None
    kept state begins = record {
      begun = λ h is. absurd (no_end h is);
      over = λ h is. absurd (no_end h is);
      others = λ h _ _ q. changed r state h (begins h ∙ sym (ap (begins_at h) live)) q;
    }

    split_moves : (at : ℤ) (child : ℕ) → region regions child ≡ Unborn → Moves regions (with_region r (Live (lower_part d at i)) (with_region child (Live (upper_part d at)) regions)) (Some at) child None
    split_moves at child unborn = record {
      begun = λ h is. ap (begins_at h) (region_there more r (Live (lower_part d at i)) child apart ∙ region_here regions child (Live (upper_part d at))) ∙ ap (λ x. int_eq x h) (same_end at h is) ∙ int_itself h;
      over = λ h is. absurd (no_end h is);
      others = λ h away _ q. ap (begins_at h) (region-with_region more r (Live (lower_part d at i)) q) ∙ by_number q r
          (λ same e. ap (λ b. begins_at h (cond b (Live (lower_part d at i)) (region more q))) e ∙ sym (ap (begins_at h) live) ∙ ap (λ z. begins_at h (region regions z)) (sym same))
          (λ other e. ap (λ b. begins_at h (cond b (Live (lower_part d at i)) (region more q))) e ∙ changed child (Live (upper_part d at)) h (away ∙ sym (ap (begins_at h) unborn)) q);
    }
      where
        more : List (ℕ × Region)
        more = with_region child (Live (upper_part d at)) regions

        apart : child ≢ r
        apart same = cc (sym unborn ∙ ap (region regions) same ∙ live)

    own_begins : begins_at d.range.low (region regions r) ≡ true
    own_begins = ap (begins_at d.range.low) live ∙ int_itself d.range.low

    remove_moves : Moves regions (with_region r (Gone i) regions) None r (Some d.range.low)
    remove_moves = record {
      begun = λ h is. absurd (no_end h is);
      over = λ h is q. ap (begins_at h) (region-with_region regions r (Gone i) q) ∙ by_number q r
          (λ same e. ap (λ b. begins_at h (cond b (Gone i) (region regions q))) e)
          (λ apart e. ap (λ b. begins_at h (cond b (Gone i) (region regions q))) e ∙ not_there h (same_end d.range.low h is) q apart (begins_at h (region regions q)) refl);
      others = λ h _ away q. changed r (Gone i) h (sym (ap (begins_at h) live ∙ away)) q;
    }
      where
        not_there : (h : ℤ) → d.range.low ≡ h → (q : ℕ) → q ≢ r → (b : Bool) → begins_at h (region regions q) ≡ b → begins_at h (region regions q) ≡ false
        not_there h is q apart false e = e
        not_there h is q apart true e = absurd (apart (begins_once regions filled disjoint q r h e (subst (λ x. begins_at x (region regions r) ≡ true) is own_begins)))

    -- a merge: the low end x stays, and y is ended
    module _ (source : ℕ) (s : Descriptor) (target : ℕ) (there : region regions source ≡ Prepared s target) (x y : ℤ) (differ : int_eq x y ≡ false) where
      module _ (joins : (joined d.range s.range).low ≡ x) (both : (h : ℤ) → int_eq x h ≡ false → int_eq y h ≡ false → (int_eq d.range.low h ≡ false) × (int_eq s.range.low h ≡ false)) where
        module _ (owner : ℕ) (is_one : (q : ℕ) → q ≡ owner → q ≢ source → q ≢ r → ⊥) (begins : begins_at y (region regions owner) ≡ true) where
          abbrev more : List (ℕ × Region)
          more = with_region r (Live (merged d s i)) regions

          abbrev joined_up : List (ℕ × Region)
          joined_up = with_region source (Gone s.index) more

          apart : r ≢ source
          apart same = cc (sym live ∙ ap (region regions) same ∙ there)

          -- what a region is after it
          by_region : (P : Region → Type 0) (q : ℕ) → (q ≡ source → P (Gone s.index)) → (q ≡ r → P (Live (merged d s i))) → (q ≢ source → q ≢ r → P (region regions q)) → P (region joined_up q)
          by_region P q at_source at_own other = subst P (sym (region-with_region more source (Gone s.index) q)) (by_number q source
              (λ same e. subst (λ b. P (cond b (Gone s.index) (region more q))) (sym e) (at_source same))
              (λ out e. subst (λ b. P (cond b (Gone s.index) (region more q))) (sym e) (subst P (sym (region-with_region regions r (Live (merged d s i)) q)) (by_number q r
              (λ same e. subst (λ b. P (cond b (Live (merged d s i)) (region regions q))) (sym e) (at_own same))
              (λ away e. subst (λ b. P (cond b (Live (merged d s i)) (region regions q))) (sym e) (other out away))))))

          merge_moves : Moves regions joined_up (Some (joined d.range s.range).low) r (Some y)
          merge_moves = record {
            begun = λ h is. ap (begins_at h) (region_there more source (Gone s.index) r apart ∙ region_here regions r (Live (merged d s i))) ∙ ap (λ z. int_eq z h) (same_end (joined d.range s.range).low h is) ∙ int_itself h;
            over = λ h is q. by_region (λ state. begins_at h state ≡ false) q
                (λ same. refl)
                (λ same. ap (λ z. int_eq z h) joins ∙ ap (int_eq x) (sym (same_end y h is)) ∙ differ)
                (λ out away. not_there h (same_end y h is) q out away (begins_at h (region regions q)) refl);
            others = λ h not_x ended q. let no = both h (ap (λ z. int_eq z h) (sym joins) ∙ not_x) ended in by_region (λ state. begins_at h state ≡ begins_at h (region regions q)) q
                (λ same. sym (ap (λ z. begins_at h (region regions z)) same ∙ ap (begins_at h) there ∙ no.1))
                (λ same. not_x ∙ sym (ap (λ z. begins_at h (region regions z)) same ∙ ap (begins_at h) live ∙ no.0))
                (λ out away. refl);
          }
            where
              not_there : (h : ℤ) → y ≡ h → (q : ℕ) → q ≢ source → q ≢ r → (b : Bool) → begins_at h (region regions q) ≡ b → begins_at h (region regions q) ≡ false
              not_there h is q out away false e = e
              not_there h is q out away true e = absurd (is_one q (begins_once regions filled disjoint q owner h e (subst (λ z. begins_at z (region regions owner) ≡ true) is begins)) out away)

    ends_apart : (a b : HandleRange) → ends_at a b.low ≡ true → is_below a.low a.high ≡ true → (int_eq a.low b.low ≡ false) × (int_eq b.low a.low ≡ false)
    ends_apart a b e below = by a.high e below
      where
        one_way : (l h m : ℤ) → int_eq h m ≡ true → is_below l (Some h) ≡ true → int_eq l m ≡ false
        one_way l h m e under = grind (arith, ints)

        other_way : (l h m : ℤ) → int_eq h m ≡ true → is_below l (Some h) ≡ true → int_eq m l ≡ false
        other_way l h m e under = grind (arith, ints)

        by : (high : Option ℤ) → (elim high [ None ↦ false | Some high ↦ int_eq high b.low ]) ≡ true → is_below a.low high ≡ true → (int_eq a.low b.low ≡ false) × (int_eq b.low a.low ≡ false)
        by None e under = absurd (true≢false (sym e))
        by (Some high) e under = (one_way a.low high b.low e under, other_way a.low high b.low e under)

    merge_step : (source : ℕ) (state : Region) → region regions source ≡ state → is_prepared_for r state ≡ true → merge_fault regions source r ≡ None →
        Moves regions (after_merge r d i source state regions) (put_low_of regions r (body.Commit source)) r (ended_low_of regions r (body.Commit source))
    merge_step source Unborn is e fine = absurd (true≢false (sym e))
    merge_step source (Live s) is e fine = absurd (true≢false (sym e))
    merge_step source (Gone last) is e fine = absurd (true≢false (sym e))
    merge_step source (Prepared s target) is e fine =
        subst (λ (m : Option (HandleRange × HandleRange)). Moves regions after (option_map (λ (x : HandleRange × HandleRange). (joined x.0 x.1).low) m) r (option_map (λ (x : HandleRange × HandleRange). cond (ends_at x.0 x.1.low) x.1.low x.0.low) m)) (sym merging_is)
        (by (ends_at d.range s.range.low) refl (merge_touches regions r d live source s target is fine))
      where
        after : List (ℕ × Region)
        after = with_region source (Gone s.index) (with_region r (Live (merged d s i)) regions)

        merging_is : merging regions r source ≡ Some (d.range, s.range)
        merging_is = (λ j. elim (range_of (live j)) [ None ↦ None | Some a ↦ elim (range_of (is j)) [ None ↦ None | Some b ↦ Some (a, b) ] ])

        source_begins : begins_at s.range.low (region regions source) ≡ true
        source_begins = ap (begins_at s.range.low) is ∙ int_itself s.range.low

        low_of : (t : Bool) → ends_at d.range s.range.low ≡ t → (joined d.range s.range).low ≡ cond t d.range.low s.range.low
        low_of true e = ap (λ (b : Bool). (cond {A = HandleRange} b (record { low = d.range.low; high = s.range.high }) (record { low = s.range.low; high = d.range.high })).low) e
        low_of false e = ap (λ (b : Bool). (cond {A = HandleRange} b (record { low = d.range.low; high = s.range.high }) (record { low = s.range.low; high = d.range.high })).low) e

        by : (t : Bool) → ends_at d.range s.range.low ≡ t → (t || ends_at s.range d.range.low) ≡ true → Moves regions after (Some (joined d.range s.range).low) r (Some (cond (ends_at d.range s.range.low) s.range.low d.range.low))
        by true t touches = subst (λ (b : Bool). Moves regions after (Some (joined d.range s.range).low) r (Some (cond b s.range.low d.range.low))) (sym t)
            (merge_moves source s target is d.range.low s.range.low (ends_apart d.range s.range t (subst IsFilled live (filled r))).0 (low_of true t) (λ h a b. (a, b)) source (λ q same out _. out same) source_begins)
        by false t touches = subst (λ (b : Bool). Moves regions after (Some (joined d.range s.range).low) r (Some (cond b s.range.low d.range.low))) (sym t)
            (merge_moves source s target is s.range.low d.range.low (ends_apart s.range d.range touches (subst IsFilled is (filled source))).0 (low_of false t) (λ h a b. (b, a)) r (λ q same _ away. away same) own_begins)

    live_moves : (b : Body) → makes_region b ≡ false → other_fault regions r b ≡ None → range_fault regions r b ≡ None → Moves regions (live_after r d i b regions) (put_low_of regions r b) (put_region_of r b) (ended_low_of regions r b)
    live_moves (body.Split at child) makes other range = split_moves at child (is_unborn_is (region regions child) (tested regions child is_unborn other))
    live_moves (body.Commit source) makes other range = merge_step source (region regions source) refl (tested regions source (is_prepared_for r) other) range
    live_moves (body.Prepare target) makes other range = kept _ (λ h. refl)
    live_moves body.Remove makes other range = subst (λ s. Moves regions (with_region r (Gone i) regions) None r (option_map (λ (x : HandleRange). x.low) (range_of s))) (sym live) remove_moves
    live_moves (body.Write ops) makes other range = kept _ (λ h. refl)
    live_moves body.Empty makes other range = kept _ (λ h. refl)
    live_moves (body.Open conf_ver version low high) makes other range = absurd (true≢false makes)
    live_moves (body.Install conf_ver version low high ops) makes other range = absurd (true≢false makes)

  unborn_moves : region regions r ≡ Unborn → (b : Body) → makes_region b ≡ true → Moves regions (born_after r i b regions) (put_low_of regions r b) (put_region_of r b) (ended_low_of regions r b)
  unborn_moves unborn (body.Open conf_ver version low high) makes = born_moves unborn low _ (λ h. refl)
  unborn_moves unborn (body.Install conf_ver version low high ops) makes = born_moves unborn low _ (λ h. refl)
  unborn_moves unborn (body.Split at child) makes = absurd (true≢false (sym makes))
  unborn_moves unborn (body.Prepare target) makes = absurd (true≢false (sym makes))
  unborn_moves unborn (body.Commit source) makes = absurd (true≢false (sym makes))
  unborn_moves unborn body.Remove makes = absurd (true≢false (sym makes))
  unborn_moves unborn (body.Write ops) makes = absurd (true≢false (sym makes))
  unborn_moves unborn body.Empty makes = absurd (true≢false (sym makes))

-- by an entry that has no fault
pub lows_go_on : (p : ℕ) (regions : List (ℕ × Region)) (e : Entry) → IsFine p regions e → AreFilled regions → AreDisjoint regions → AreFilled (regions_after regions e) → AreDisjoint (regions_after regions e) →
    (low : ℤ → Option ℕ) → AreLows low regions → AreLows (lows_after regions e low) (regions_after regions e)
lows_go_on p regions e fine filled disjoint filled_after disjoint_after low lows h r =
    moved regions (regions_after regions e) filled_after disjoint_after (put_low_of regions e.region e.body) (put_region_of e.region e.body) (ended_low_of regions e.region e.body) (moves (region regions e.region) refl) low lows h r
  where
    moves : (state : Region) → region regions e.region ≡ state → Moves regions (regions_step state e regions) (put_low_of regions e.region e.body) (put_region_of e.region e.body) (ended_low_of regions e.region e.body)
    moves Unborn is = unborn_moves regions filled disjoint e.region e.index is e.body (of_unborn p regions e fine is)
    moves (Live d) is = live_moves regions filled disjoint e.region e.index d is e.body (of_live p regions e fine d is) fine.other fine.range
    moves (Prepared d target) is = absurd (no_entry p regions e fine (Prepared d target) is refl refl)
    moves (Gone index) is = absurd (no_entry p regions e fine (Gone index) is refl refl)

-- ---- what is put is put back

pub is_put : (place : Option ℤ) (what : ℕ) (low : ℤ → Option ℕ) (new : ℤ → Option ℕ) → ((h : ℤ) → new h ≡ with_at place (Some what) low h) → IsPut place new
is_put None what low put is = tt
is_put (Some x) what low put is = subst (λ (o : Option ℕ). IsSome o) (sym (is x ∙ ap (λ b. cond b (Some what) (low x)) (int_itself x))) refl

pub restored : (place : Option ℤ) (what before : Option ℕ) (low : ℤ → Option ℕ) → StoodAt place low before → (h : ℤ) → with_at place before (with_at place what low) h ≡ low h
restored None what before low stood h = refl
restored (Some x) what before low stood h = by (int_eq x h) refl
  where
    by : (b : Bool) → int_eq x h ≡ b → cond b before (cond b what (low h)) ≡ low h
    by true e = stood ∙ ap low (equal x h e)
    by false e = refl

with_alike : (place : Option ℤ) (what : Option ℕ) (f g : ℤ → Option ℕ) → ((h : ℤ) → f h ≡ g h) → (h : ℤ) → with_at place what f h ≡ with_at place what g h
with_alike None what f g same h = same h
with_alike (Some x) what f g same h = ap (cond (int_eq x h) what) (same h)

pub put_back_alike : (place : Option ℤ) (what before : Option ℕ) (low put back : ℤ → Option ℕ) → ((h : ℤ) → put h ≡ with_at place what low h) → StoodAt place low before → ((h : ℤ) → back h ≡ with_at place before put h) → (h : ℤ) → back h ≡ low h
put_back_alike place what before low put back is stood again h = again h ∙ with_alike place before put (with_at place what low) is h ∙ restored place what before low stood h

-- what an entry does to them, by its moves
pub moved_as : (regions : List (ℕ × Region)) (e : Entry) (put ended : Option ℤ) (id : ℕ) → put ≡ put_low_of regions e.region e.body → id ≡ put_region_of e.region e.body → ended ≡ ended_low_of regions e.region e.body → (low mid new : ℤ → Option ℕ) →
    ((h : ℤ) → mid h ≡ with_at put (Some id) low h) → ((h : ℤ) → new h ≡ with_at ended None mid h) → (h : ℤ) → new h ≡ lows_after regions e low h
moved_as regions e put ended id is_put is_id is_ended low mid new first second h =
    second h ∙ with_alike ended None mid (with_at put (Some id) low) first h ∙ (λ i. with_at (is_ended i) None (with_at (is_put i) (Some (is_id i)) low) h)

-- the low ends are read alike
pub alike : (regions : List (ℕ × Region)) (low new : ℤ → Option ℕ) → ((h : ℤ) → new h ≡ low h) → AreLows low regions → AreLows new regions
alike regions low new same lows h r = ap (λ o. names o r) (same h) ∙ lows h r

-- ---- at the end of a lawful log

pub parted_end : (log : Log) → IsLawful log → AreParted (end log).regions
parted_end log lawful = subst (λ (s : Store). AreParted s.regions) (at_end log) (record {
  ordered = (sorted_at log (length log.entries)).regions;
  filled = filled_at log lawful (length log.entries);
  disjoint = disjoint_at log lawful (length log.entries);
})

pub roomy_index : (state : Region) → IsRoomy state → unwrap_or (index_of state) 0 < 2 ^ 63
roomy_index Unborn room = omega arith
roomy_index (Live d) room = room.index
roomy_index (Prepared d target) room = room.index
roomy_index (Gone index) room = room

-- after an entry that is admitted
pub lows_pushed : (log : Log) (e : Entry) → IsLawful log → IsLawful (pushed log e) → fault log e ≡ None → (low new : ℤ → Option ℕ) → AreLows low (end log).regions → ((h : ℤ) → new h ≡ lows_after (end log).regions e low h) → AreLows new (end (pushed log e)).regions
lows_pushed log e lawful more none low new lows step = alike (end (pushed log e)).regions (lows_after (end log).regions e low) new step
    (subst (λ (rs : List (ℕ × Region)). AreLows (lows_after (end log).regions e low) rs) (sym next)
    (lows_go_on (length log.entries) (end log).regions e fine before.filled before.disjoint (subst AreFilled next after.filled) (subst AreDisjoint next after.disjoint) low lows))
  where
    next : (end (pushed log e)).regions ≡ regions_after (end log).regions e
    next = ap (λ (s : Store). s.regions) (store_push log.table log.schema log.entries e)

    before : AreParted (end log).regions
    before = parted_end log lawful

    after : AreParted (end (pushed log e)).regions
    after = parted_end (pushed log e) more

    fine : IsFine (length log.entries) (end log).regions e
    fine = head_is_fine (length log.entries) (end log).regions e (both_none (head_fault (length log.entries) (end log).regions e) (ops_fault log.table log.schema (length log.entries) (end log) e.region e.body) none).0
