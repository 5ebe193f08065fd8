-- The next entry by a table is the next one by its set.
use Rattle.std.proofs.Common.{◌≡◌, ◌≢◌, ◌⊎◌, inl, inr, ◌∙◌, refl, sym, ap, subst, ℕ, ◌<◌, ◌≤◌, Bool, true, false, true≢false, cond, not, ◌&&◌, List, [], ◌∷◌, Option, Some, None, nat_lt, nat_le, arith, slice_get, length, filter, is_none, is_some, nat_cmp}
use Rattle.std.specs.Prelude.{◌==◌, ◌%◌}
use Rattle.std.specs.BTreeMap.{is_at}
use Rattle.std.specs.Map.{lookup, keys_of}
use Rattle.std.proofs.lemmas.Map.Keys.{sorted_tail}
use Rattle.std.specs.List.{list_any, list_all}
use Rattle.std.specs.Option.{option_or}
use Rattle.std.proofs.lemmas.Option.{slice_get_within}
use Rattle.log_codec.specs.declared.entry.Entry.{Entry}
use Rattle.committed_log.specs.declared.region.Region.{Region}
use Rattle.committed_log.specs.declared.region.Region.TheVariants.{Unborn, Live, Prepared, Gone}
use Rattle.committed_log.specs.Applied.{acts_at, applied, entry_is, next, first_numbers, is_ready, body_waits_for}
use Rattle.committed_log.specs.Lawful.{IsLawful}
use Rattle.committed_log.specs.Laws.{region_at, waits_no_more, is_after, is_source_prepared}
use Rattle.committed_log.specs.Log.{Log, at}
use Rattle.committed_log.specs.Regions.{range_of, index_of, acts_on, also_acted, makes_region}
use Rattle.committed_log.proofs.Closed.{entry_at, next_is, same_is}
use Rattle.committed_log.proofs.Entries.{head_next}
use Rattle.committed_log.proofs.Faults.{IsFine, both_true, or_first, or_second}
use Rattle.committed_log.proofs.Maps.{Rise}
use Rattle.committed_log.proofs.Positions.{Finds, find_is, find_least, find_none, each_first}
use Rattle.committed_log.proofs.Ranks.{of_unborn, no_entry}
use Rattle.committed_log.proofs.Ready.{CanBeApplied, ready_parts, applied_before, first_is_ready}
use Rattle.committed_log.proofs.Waiting.{ready_by_regions}
use Rattle.region_table.specs.Applying.{apply_fault, fault_by, least_ready, next_ready, is_in_part, IsNextReady, AreApplied}
use Rattle.region_table.specs.Nexts.{ready_in, passes_in, first_passing, first_below}
use Rattle.region_table.specs.Table.{Table, IsTableAt, is_there, next_in, kept_in, state_in}
use Rattle.region_table.specs.Counting.{applied_in}
use Rattle.region_table.specs.Faults.{prepare_at_end}
use Rattle.region_table.specs.declared.table.Counted.{Counted}
use Rattle.region_table.proofs.Behind.{found, ready_without, without_ready}
use Rattle.region_table.proofs.Counts.{TellsFirst, first_tells}
use Rattle.region_table.proofs.Ordered.{one_key, in_rest, rest_above}
use Rattle.region_table.proofs.Sets.{of_table}

-- ---- the first that passes

module _ (t : ℕ → Bool) where
  abbrev Passes : Option ℕ → List (ℕ × Unit {0}) → Type 0
  Passes None es = (q : ℕ) → is_some (next_in es q) ≡ true → t q ≡ false
  Passes (Some m) es = (t m ≡ true) × ((q : ℕ) → is_some (next_in es q) ≡ true → q < m → t q ≡ false)

  first_passes : (es : List (ℕ × Unit {0})) → Rise nat_cmp es → Passes (first_passing t es) es
  first_passes [] rise = λ q there. absurd (true≢false (sym there))
  first_passes (e ∷ es) rise = by (first_passes es (sorted_tail nat_cmp e.0 (keys_of es) rise)) (t e.0) refl
    where
      among : (q : ℕ) → is_some (next_in (e ∷ es) q) ≡ true → (q ≡ e.0) ⊎ (is_some (next_in es q) ≡ true)
      among q there = by_key (is_at (nat_cmp q) e.0) refl
        where
          by_key : (b : Bool) → is_at (nat_cmp q) e.0 ≡ b → (q ≡ e.0) ⊎ (is_some (next_in es q) ≡ true)
          by_key true is = inl (one_key q e.0 is)
          by_key false out = inr (in_rest q e es out there)

      more : t e.0 ≡ false → (o : Option ℕ) → Passes o es → Passes o (e ∷ es)
      more out None none = λ q there. elim (among q there) [ inl is ↦ ap t is ∙ out | inr later ↦ none q later ]
      more out (Some m) some = (some.0, λ q there less. elim (among q there) [ inl is ↦ ap t is ∙ out | inr later ↦ some.1 q later less ])

      here : t e.0 ≡ true → Passes (Some e.0) (e ∷ es)
      here is = (
        is,
        λ q there less. elim (among q there) [
          | inl same ↦ absurd (omega (arith, same, less))
          | inr later ↦ (let high = rest_above e es rise q later in absurd (omega (arith, high, less)))
        ],
      )

      by : Passes (first_passing t es) es → (b : Bool) → t e.0 ≡ b → Passes (option_or (cond (t e.0) (Some e.0) None) (first_passing t es)) (e ∷ es)
      by rest true is = subst (λ b. Passes (option_or (cond b (Some e.0) None) (first_passing t es)) (e ∷ es)) (sym is) (here is)
      by rest false is = subst (λ b. Passes (option_or (cond b (Some e.0) None) (first_passing t es)) (e ∷ es)) (sym is) (more is (first_passing t es) rest)

  -- those that don't stand below a bound don't pass
  first_below_is : (below : ℕ) → ((q : ℕ) → nat_lt q below ≡ false → t q ≡ false) → (es : List (ℕ × Unit {0})) → first_below t below es ≡ first_passing t es
  first_below_is below out [] = refl
  first_below_is below out (e ∷ es) = by (nat_lt e.0 below) refl (first_below_is below out es)
    where
      by : (b : Bool) → nat_lt e.0 below ≡ b → first_below t below es ≡ first_passing t es → first_passing t (cond (nat_lt e.0 below) (e ∷ filter (λ (x : ℕ × Unit {0}). nat_lt x.0 below) es) (filter (λ (x : ℕ × Unit {0}). nat_lt x.0 below) es)) ≡ first_passing t (e ∷ es)
      by true is rest = ap (λ b. first_passing t (cond b (e ∷ filter (λ (x : ℕ × Unit {0}). nat_lt x.0 below) es) (filter (λ (x : ℕ × Unit {0}). nat_lt x.0 below) es))) is ∙ ap (option_or (cond (t e.0) (Some e.0) None)) rest
      by false is rest = ap (λ b. first_passing t (cond b (e ∷ filter (λ (x : ℕ × Unit {0}). nat_lt x.0 below) es) (filter (λ (x : ℕ × Unit {0}). nat_lt x.0 below) es))) is ∙ rest
          ∙ sym (ap (λ b. option_or (cond b (Some e.0) None) (first_passing t es)) (out e.0 is))

-- ---- at a table

module _ (log : Log) (lawful : IsLawful log) (A : ℕ → Bool) (t : Table) (is : IsTableAt log A t) where
  abbrev c : Counted
  c = t.counted

  told : TellsFirst A (length log.entries) c.first
  told = subst (TellsFirst A (length log.entries)) (sym is.counted.first) (first_tells A (length log.entries))

  module _ (test : Entry → Bool) (below : ℕ) where
    abbrev T : ℕ → Bool
    T q = nat_lt q below && (is_ready log A q && entry_is log test q)

    off : (a b : Bool) → b ≡ false → (a && b) ≡ false
    off true b e = e
    off false b e = refl

    in_set_out : (q : ℕ) → A q ≡ true → T q ≡ false
    in_set_out q in_set = off (nat_lt q below) (is_ready log A q && entry_is log test q) (ap (λ b. b && entry_is log test q) (ready_out (is_ready log A q) refl))
      where
        ready_out : (b : Bool) → is_ready log A q ≡ b → is_ready log A q ≡ false
        ready_out false e = e
        ready_out true e = absurd (true≢false (sym in_set ∙ (ready_parts log A q e).free))

    past_out : (q : ℕ) → below ≤ q → T q ≡ false
    past_out q le = ap (λ b. b && (is_ready log A q && entry_is log test q)) (over q below le)
      where
        over : (q n : ℕ) → n ≤ q → nat_lt q n ≡ false
        over q n le = grind arith

    split : (q n : ℕ) → (q < n) ⊎ (n ≤ q)
    split q n = grind arith

    -- none is ready below
    none_left : ((q : ℕ) → q < below → q < length log.entries → A q ≡ true) → least_ready log A test below ≡ None
    none_left all = find_none T (length log.entries) (λ q low. elim (split q below) [ inl less ↦ in_set_out q (all q less low) | inr le ↦ past_out q le ])

    -- the first that is out passes
    first_found : c.first < below → c.first < length log.entries → entry_is log test c.first ≡ true → least_ready log A test below ≡ Some c.first
    first_found low within passes = find_is T (length log.entries) c.first (record { below = within; passes = passed; first = λ q less. in_set_out q (told.passed q less) })
      where
        under : (q n : ℕ) → q < n → nat_lt q n ≡ true
        under q n less = grind arith

        ready : is_ready log A c.first ≡ true
        ready = first_is_ready log A c.first (record { below = within; passes = ap not (told.out within); first = λ q less. ap not (told.passed q less) })

        passed : T c.first ≡ true
        passed = (λ i. under c.first below low i && (ready i && passes i))

    -- ---- the next entries of the regions

    tests_same : (q : ℕ) → passes_in log t.regions c.first test below q ≡ T q
    tests_same q = ap (λ b. nat_lt q below && (b && entry_is log test q)) (by (slice_get log.entries q) refl)
      where
        both_ways : (a b : Bool) → (a ≡ true → b ≡ true) → (b ≡ true → a ≡ true) → a ≡ b
        both_ways true b f g = sym (f refl)
        both_ways false true f g = g refl
        both_ways false false f g = refl

        none_of : {X : Type 0} (o : Option X) → is_none o ≡ true → o ≡ None
        none_of None e = refl
        none_of (Some x) e = absurd (true≢false (sym e))

        by : (o : Option Entry) → slice_get log.entries q ≡ o → ready_in log t.regions c.first q ≡ is_ready log A q
        by None past = ap (λ o. elim o [ None ↦ false | Some e ↦ is_none (fault_by log (state_in t.regions) (applied_in log t.regions q) c.first (prepare_at_end log e.body) q e) ]) past ∙ sym (out (is_ready log A q) refl)
          where
            out : (b : Bool) → is_ready log A q ≡ b → is_ready log A q ≡ false
            out false e = e
            out true e = (let can = ready_parts log A q e in absurd (cc (sym past ∙ can.here)))
        by (Some e) here = ap (λ o. elim o [ None ↦ false | Some e ↦ is_none (fault_by log (state_in t.regions) (applied_in log t.regions q) c.first (prepare_at_end log e.body) q e) ]) here
            ∙ ap is_none (found log lawful A t.regions (of_table log A t is) q e here c is.counted)
            ∙ both_ways (is_none (apply_fault log A q e)) (is_ready log A q) (λ none. ready_without log lawful A is.closed q e here (none_of (apply_fault log A q e) none)) (λ ready. ap is_none (without_ready log lawful A is.closed q e here ready))

    -- a ready entry that isn't the first that is out is the next one of a region
    module _ (q : ℕ) (passes : T q ≡ true) (not_first : q ≢ c.first) where
      parts : (nat_lt q below ≡ true) × ((is_ready log A q && entry_is log test q) ≡ true)
      parts = both_true (nat_lt q below) (is_ready log A q && entry_is log test q) passes

      ready : is_ready log A q ≡ true
      ready = (both_true (is_ready log A q) (entry_is log test q) parts.1).0

      can_be : CanBeApplied log A q
      can_be = ready_parts log A q ready

      e : Entry
      e = can_be.entry

      fine : IsFine q (at log q).regions can_be.entry
      fine = head_next log q can_be.entry can_be.here lawful

      within : q < length log.entries
      within = slice_get_within log.entries q can_be.entry can_be.here

      met : waits_no_more log A q can_be.entry ≡ true
      met = sym (ready_by_regions log lawful A is.closed q can_be.entry can_be.here can_be.free) ∙ ready

      -- one that makes its region waits for all
      old : (b : Bool) → makes_region can_be.entry.body ≡ b → makes_region can_be.entry.body ≡ false
      old false m = m
      old true m = absurd (not_first (by (order q c.first)))
        where
          order : (a b : ℕ) → (a < b) ⊎ ((a ≡ b) ⊎ (b < a))
          order a b = grind arith

          all : list_all A (first_numbers q) ≡ true
          all = ap (λ b. cond b (list_all A (first_numbers q)) (is_after (index_of (applied log A can_be.entry.region)) can_be.entry.index)) (sym m) ∙ (both_true (cond (makes_region can_be.entry.body) (list_all A (first_numbers q)) (is_after (index_of (applied log A can_be.entry.region)) can_be.entry.index)) (is_source_prepared log A can_be.entry.body) met).0

          by : (q < c.first) ⊎ ((q ≡ c.first) ⊎ (c.first < q)) → q ≡ c.first
          by (inl less) = absurd (true≢false (sym (told.passed q less) ∙ can_be.free))
          by (inr (inl same)) = same
          by (inr (inr less)) = absurd (true≢false (sym (each_first A q all c.first less) ∙ told.out (omega (arith, less, within))))

      acts : acts_at log can_be.entry.region q ≡ true
      acts = ap (λ o. elim o [ None ↦ false | Some x ↦ acts_on can_be.entry.region x ]) can_be.here ∙ or_first (can_be.entry.region == can_be.entry.region) (list_any (λ acted. acted == can_be.entry.region) (also_acted can_be.entry.body)) (same_is can_be.entry.region)

      left : applied log A can_be.entry.region ≡ region_at log can_be.entry.region q
      left = applied_before log A q lawful is.closed ready can_be.entry.region acts

      next_here : next log A can_be.entry.region ≡ Some q
      next_here = find_is (λ x. not (A x) && acts_at log can_be.entry.region x) (length log.entries) q (record { below = within; passes = (λ i. not (can_be.free i) && acts i); first = λ x less. before x less (slice_get log.entries x) refl })
        where
          before : (x : ℕ) → x < q → (o : Option Entry) → slice_get log.entries x ≡ o → (not (A x) && acts_at log can_be.entry.region x) ≡ false
          before x less None past = off (not (A x)) (acts_at log can_be.entry.region x) (ap (λ o. elim o [ None ↦ false | Some y ↦ acts_on can_be.entry.region y ]) past)
          before x less (Some y) here = by (acts_on can_be.entry.region y) refl
            where
              at_x : acts_at log can_be.entry.region x ≡ acts_on can_be.entry.region y
              at_x = ap (λ o. elim o [ None ↦ false | Some y ↦ acts_on can_be.entry.region y ]) here

              by : (b : Bool) → acts_on can_be.entry.region y ≡ b → (not (A x) && acts_at log can_be.entry.region x) ≡ false
              by false out = off (not (A x)) (acts_at log can_be.entry.region x) (at_x ∙ out)
              by true act = ap (λ b. not b && acts_at log can_be.entry.region x) (can_be.earlier x y less here (or_second (body_waits_for can_be.entry.body y) (acts_on can_be.entry.region y) act))

      pub among : is_some (next_in t.nexts q) ≡ true
      among = is.nexts.all q can_be.entry.region (by (region_at log can_be.entry.region q) refl) next_here
        where
          by : (st : Region) → region_at log can_be.entry.region q ≡ st → is_there (applied log A can_be.entry.region) ≡ true
          by Unborn there = absurd (true≢false (sym (of_unborn q (at log q).regions can_be.entry fine there) ∙ old (makes_region can_be.entry.body) refl))
          by (Live d) there = ap is_there (left ∙ there)
          by (Prepared d target) there = absurd (no_entry q (at log q).regions can_be.entry fine (Prepared d target) there refl refl)
          by (Gone last) there = absurd (no_entry q (at log q).regions can_be.entry fine (Gone last) there refl refl)

    -- so the least of them is the least ready one, where the first that is out doesn't pass
    pub least_is : Rise nat_cmp t.nexts → T c.first ≡ false → first_below T below t.nexts ≡ least_ready log A test below
    least_is rise out = first_below_is T below (λ q over. ap (λ b. b && (is_ready log A q && entry_is log test q)) over) t.nexts ∙ by (first_passing T t.nexts) (first_passes T t.nexts rise)
      where
        not_first : (q : ℕ) → T q ≡ true → q ≢ c.first
        not_first q passes same = true≢false (sym passes ∙ ap T same ∙ out)

        by : (o : Option ℕ) → Passes T o t.nexts → o ≡ least_ready log A test below
        by None none = sym (find_none T (length log.entries) (λ q low. no q (T q) refl))
          where
            no : (q : ℕ) (b : Bool) → T q ≡ b → T q ≡ false
            no q false e = e
            no q true e = none q (among q e (not_first q e))
        by (Some m) some = sym (find_is T (length log.entries) m (record { below = within m some.0 (not_first m some.0); passes = some.0; first = λ q less. no q less (T q) refl }))
          where
            no : (q : ℕ) → q < m → (b : Bool) → T q ≡ b → T q ≡ false
            no q less false e = e
            no q less true e = some.1 q (among q e (not_first q e)) less

    pub least_next_is : Rise nat_cmp t.nexts → T c.first ≡ false → first_below (passes_in log t.regions c.first test below) below t.nexts ≡ least_ready log A test below
    least_next_is rise out = ap (λ f. first_below f below t.nexts) (λ i q. tests_same q i) ∙ least_is rise out

  -- ---- the answer

  module _ (part parts below : ℕ) where
    abbrev in_part : Entry → Bool
    in_part = is_in_part part parts

    abbrev any : Entry → Bool
    any x = true

    pub none_next : ((c.first < below) × (c.first < length log.entries) → ⊥) → None ≡ next_ready log A part parts below
    none_next past = sym (λ i. option_or (none_left in_part below all i) (none_left any below all i))
      where
        all : (q : ℕ) → q < below → q < length log.entries → A q ≡ true
        all q low within = told.passed q (by (order q c.first))
          where
            order : (a b : ℕ) → (a < b) ⊎ (b ≤ a)
            order a b = grind arith

            by : (q < c.first) ⊎ (c.first ≤ q) → q < c.first
            by (inl less) = less
            by (inr le) = absurd (past (omega (arith, le, low), omega (arith, le, within)))

    any_entry : c.first < length log.entries → entry_is log any c.first ≡ true
    any_entry within = ap (λ o. elim o [ None ↦ false | Some x ↦ true ]) (entry_at log c.first within).1

    module _ (low : c.first < below) (within : c.first < length log.entries) where
      pub first_next : entry_is log in_part c.first ≡ true → Some c.first ≡ next_ready log A part parts below
      first_next passes = sym (ap (λ o. option_or o (least_ready log A any below)) (first_found in_part below low within passes))

      module _ (out : entry_is log in_part c.first ≡ false) where
        not_in : T in_part below c.first ≡ false
        not_in = off in_part below (nat_lt c.first below) (is_ready log A c.first && entry_is log in_part c.first) (off in_part below (is_ready log A c.first) (entry_is log in_part c.first) out)

        pub some_next : Rise nat_cmp t.nexts → (m : ℕ) → first_below (passes_in log t.regions c.first in_part below) below t.nexts ≡ Some m → Some m ≡ next_ready log A part parts below
        some_next rise m some = sym (ap (λ o. option_or o (least_ready log A any below)) (sym (least_next_is in_part below rise not_in) ∙ some))

        pub else_next : Rise nat_cmp t.nexts → first_below (passes_in log t.regions c.first in_part below) below t.nexts ≡ None → Some c.first ≡ next_ready log A part parts below
        else_next rise none = sym ((λ i. option_or ((sym (least_next_is in_part below rise not_in) ∙ none) i) (least_ready log A any below)) ∙ first_found any below low within (any_entry within))

    -- ---- what the answer is

    ready_of : (test : Entry → Bool) (o : Option ℕ) → Finds (λ p. nat_lt p below && (is_ready log A p && entry_is log test p)) (length log.entries) o → (m : ℕ) → o ≡ Some m → (is_ready log A m ≡ true) × (m < below) × (entry_is log test m ≡ true)
    ready_of test None none m is = absurd (cc is)
    ready_of test (Some x) least m is =
        let same : x ≡ m = cc is in
        let parts = both_true (nat_lt x below) (is_ready log A x && entry_is log test x) least.passes in
        let rest = both_true (is_ready log A x) (entry_is log test x) parts.1 in
        (ap (is_ready log A) (sym same) ∙ rest.0, lower m below (ap (λ z. nat_lt z below) (sym same) ∙ parts.0), ap (entry_is log test) (sym same) ∙ rest.1)
      where
        lower : (a b : ℕ) → nat_lt a b ≡ true → a < b
        lower a b e = grind arith

    pub next_is_ready : (m : ℕ) → next_ready log A part parts below ≡ Some m → IsNextReady log A part parts below m
    next_is_ready m is = by (least_ready log A in_part below) refl
      where
        by : (o : Option ℕ) → least_ready log A in_part below ≡ o → IsNextReady log A part parts below m
        by None none =
            let found = ready_of any (least_ready log A any below) (find_least (λ p. nat_lt p below && (is_ready log A p && entry_is log any p)) (length log.entries)) m (sym (ap (λ o. option_or o (least_ready log A any below)) none) ∙ is) in
            record { ready = found.0; low = found.1; fits = inr none }
        by (Some x) some =
            let same : x ≡ m = cc (sym (ap (λ o. option_or o (least_ready log A any below)) some) ∙ is) in
            let found = ready_of in_part (least_ready log A in_part below) (find_least (λ p. nat_lt p below && (is_ready log A p && entry_is log in_part p)) (length log.entries)) m (some ∙ ap Some same) in
            record { ready = found.0; low = found.1; fits = inl found.2 }

    -- none is ready exactly where all below are applied
    left_applied : next_ready log A part parts below ≡ None → (p : ℕ) → p < below → p < length log.entries → A p ≡ true
    left_applied none p low within = elim (order p c.first) [
      | inl less ↦ told.passed p less
      | inr le ↦ absurd (cc (sym none ∙ sym (some_at le).1))
    ]
      where
        order : (a b : ℕ) → (a < b) ⊎ (b ≤ a)
        order a b = grind arith

        some_at : c.first ≤ p → (m : ℕ) × (Some m ≡ next_ready log A part parts below)
        some_at le = by (least_ready log A in_part below) refl
          where
            by : (o : Option ℕ) → least_ready log A in_part below ≡ o → (m : ℕ) × (Some m ≡ next_ready log A part parts below)
            by (Some m) some = (m, sym (ap (λ o. option_or o (least_ready log A any below)) some))
            by None empty = (c.first, sym (ap (λ o. option_or o (least_ready log A any below)) empty ∙ first_found any below (omega (arith, le, low)) (omega (arith, le, within)) (any_entry (omega (arith, le, within)))))

    pub none_is_left : next_ready log A part parts below ≡ None → AreApplied log A below
    none_is_left none = λ p low within. left_applied none p low within

    pub all_are_left : AreApplied log A below → None ≡ next_ready log A part parts below
    all_are_left all = sym (λ i. option_or (none_left in_part below all i) (none_left any below all i))
