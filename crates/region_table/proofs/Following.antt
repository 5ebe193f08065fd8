-- The next entries of the regions that are there, after an entry is applied.
use Rattle.std.proofs.Common.{◌≡◌, ◌≢◌, ◌⊎◌, inl, inr, ◌∙◌, refl, sym, ap, subst, ℕ, ◌<◌, ◌≤◌, Bool, true, false, true≢false, cond, not, ◌&&◌, ◌||◌, ◌∷◌, [], Option, Some, None, List, ℤ, suc, find, is_some, nat_lt, nat_cmp, arith, slice_get, length}
use Rattle.std.specs.Prelude.{◌==◌}
use Rattle.std.specs.BTreeMap.{is_at}
use Rattle.std.specs.List.{list_any}
use Rattle.std.proofs.lemmas.Option.{slice_get_within}
use Rattle.flash_types.specs.declared.range.HandleRange.{HandleRange}
use Rattle.log_codec.specs.declared.entry.Body.{Body}
use Rattle.log_codec.specs.declared.entry.Body.TheVariants as body
use Rattle.log_codec.specs.declared.entry.Entry.{Entry}
use Rattle.committed_log.specs.declared.region.Descriptor.{Descriptor}
use Rattle.committed_log.specs.declared.region.Region.{Region}
use Rattle.committed_log.specs.declared.region.Region.TheVariants.{Unborn, Live, Prepared, Gone}
use Rattle.committed_log.specs.Applied.{acts_at, left_at, applied, place, positions, next, next_of, IsClosed, is_ready, with_position}
use Rattle.committed_log.specs.Lawful.{IsLawful}
use Rattle.committed_log.specs.Laws.{region_at}
use Rattle.committed_log.specs.Log.{Log, at}
use Rattle.committed_log.specs.Regions.{region, range_of, index_of, acts_on, also_acted, makes_region}
use Rattle.committed_log.proofs.Closed.{next_is, same_is}
use Rattle.committed_log.proofs.Entries.{head_next}
use Rattle.committed_log.proofs.Faults.{IsFine, both_true, or_first, or_second, or_either}
use Rattle.committed_log.proofs.Places.{place_is_last}
use Rattle.committed_log.proofs.Positions.{IsGreatest, find_is, find_same, found_is}
use Rattle.committed_log.proofs.Ranks.{of_unborn, no_entry, same_number}
use Rattle.committed_log.proofs.Ready.{ready_parts, closed_more, applied_before, applied_after, applied_other}
use Rattle.raft_apply.specs.Entries.{command_of, changes}
use Rattle.region_file.specs.declared.entry.Entry.TheVariants as kept
use Rattle.region_state.specs.Folding.{folded}
use Rattle.region_state.specs.State.{State, born, absorbed, upper_of, lower_of, prepared}
use Rattle.region_table.specs.Nexts.{own_next, child_next, plus, minus, nexts_after}
use Rattle.region_table.specs.Steps.{Keeps, CanBeDone, changed, if_there, kept_after}
use Rattle.region_table.specs.Table.{Kept, AreNexts, is_there, next_in, kept_at, state_kept, state_there}
use Rattle.region_table.proofs.Applied.{after, can, own}
use Rattle.region_table.proofs.Around.{state_from}
use Rattle.region_table.proofs.Locals.{at_here, at_apart, changed_here, changed_apart, is_acted}
use Rattle.region_table.proofs.Sets.{state_of_kept, left_index}

-- ---- regions that are there

there_state : (x : State) → is_there (state_there x) ≡ true
there_state x = by x.target
  where
    by : (target : Option ℕ) → is_there (elim target [ None ↦ Live x.descriptor | Some target ↦ Prepared x.descriptor target ]) ≡ true
    by None = refl
    by (Some target) = refl

index_state : (x : State) → index_of (state_there x) ≡ Some x.descriptor.index
index_state x = by x.target
  where
    by : (target : Option ℕ) → index_of (elim target [ None ↦ Live x.descriptor | Some target ↦ Prepared x.descriptor target ]) ≡ Some x.descriptor.index
    by None = refl
    by (Some target) = refl

range_there : (s : Region) → is_there s ≡ true → (range : HandleRange) × (range_of s ≡ Some range)
range_there Unborn there = absurd (true≢false (sym there))
range_there (Live d) there = (d.range, refl)
range_there (Prepared d target) there = (d.range, refl)
range_there (Gone index) there = absurd (true≢false (sym there))

index_there : (s : Region) → is_there s ≡ true → (index : ℕ) × (index_of s ≡ Some index)
index_there Unborn there = absurd (true≢false (sym there))
index_there (Live d) there = (d.index, refl)
index_there (Prepared d target) there = (d.index, refl)
index_there (Gone index) there = absurd (true≢false (sym there))

-- ---- positions that are added and taken out

plus_cases : (o : Option ℕ) (f : ℕ → Option (Unit {0})) (q : ℕ) → is_some (plus o f q) ≡ true → (o ≡ Some q) ⊎ (is_some (f q) ≡ true)
plus_cases None f q some = inr some
plus_cases (Some p) f q some = by (is_at (nat_cmp p) q) refl
  where
    one : (p q : ℕ) → is_at (nat_cmp p) q ≡ true → p ≡ q
    one p q e = grind arith

    by : (b : Bool) → is_at (nat_cmp p) q ≡ b → (Some p ≡ Some q) ⊎ (is_some (f q) ≡ true)
    by true is = inl (ap Some (one p q is))
    by false is = inr (sym (ap (λ b. is_some (cond b (Some (tt {0})) (f q))) is) ∙ some)

plus_here : (o : Option ℕ) (f : ℕ → Option (Unit {0})) (q : ℕ) → o ≡ Some q → is_some (plus o f q) ≡ true
plus_here o f q is = ap (λ o. is_some (plus o f q)) is ∙ ap (λ b. is_some (cond b (Some (tt {0})) (f q))) (at_here q)

plus_keeps : (o : Option ℕ) (f : ℕ → Option (Unit {0})) (q : ℕ) → is_some (f q) ≡ true → is_some (plus o f q) ≡ true
plus_keeps None f q some = some
plus_keeps (Some p) f q some = by (is_at (nat_cmp p) q)
  where
    by : (b : Bool) → is_some (cond b (Some (tt {0})) (f q)) ≡ true
    by true = refl
    by false = some

minus_cases : (p : ℕ) (f : ℕ → Option (Unit {0})) (q : ℕ) → is_some (minus (Some p) f q) ≡ true → (q ≢ p) × (is_some (f q) ≡ true)
minus_cases p f q some = by (is_at (nat_cmp p) q) refl
  where
    by : (b : Bool) → is_at (nat_cmp p) q ≡ b → (q ≢ p) × (is_some (f q) ≡ true)
    by true is = absurd (true≢false (sym some ∙ ap (λ b. is_some (cond b None (f q))) is))
    by false is = (λ same. true≢false (sym (at_here p) ∙ sym (ap (is_at (nat_cmp p)) same) ∙ is), sym (ap (λ b. is_some (cond b None (f q))) is) ∙ some)

minus_keeps : (p : ℕ) (f : ℕ → Option (Unit {0})) (q : ℕ) → q ≢ p → is_some (f q) ≡ true → is_some (minus (Some p) f q) ≡ true
minus_keeps p f q ne some = ap (λ b. is_some (cond b None (f q))) (at_apart p q ne) ∙ some

off : (a b : Bool) → b ≡ false → (a && b) ≡ false
off true b e = e
off false b e = refl

under : (a b : ℕ) → a < b → nat_lt a b ≡ true
under a b less = grind arith

over : (a b : ℕ) → b ≤ a → nat_lt a b ≡ false
over a b le = grind arith

split : (a b : ℕ) → (a < b) ⊎ (b ≤ a)
split a b = grind arith

at_most : (a b : ℕ) → a ≡ b → b ≤ a
at_most a b e = omega (arith, e)

with_other : (A : ℕ → Bool) (p q : ℕ) → q ≢ p → with_position A p q ≡ A q
with_other A p q ne = ap (λ b. b || A q) (apart p q ne)
  where
    apart : (p q : ℕ) → q ≢ p → (q == p) ≡ false
    apart p q ne = grind arith

with_itself : (A : ℕ → Bool) (p : ℕ) → with_position A p p ≡ true
with_itself A p = ap (λ b. b || A p) (same_is p)

module _ (log : Log) (lawful : IsLawful log) (A : ℕ → Bool) (closed : IsClosed log A) (p : ℕ) (e : Entry) (here : slice_get log.entries p ≡ Some e) (ready : is_ready log A p ≡ true) where
  abbrev B : ℕ → Bool
  B = with_position A p

  closed_then : IsClosed log B
  closed_then = closed_more log A p closed ready

  within : p < length log.entries
  within = slice_get_within log.entries p e here

  acts_is : (r : ℕ) → acts_at log r p ≡ is_acted e.region e.body r
  acts_is r = ap (λ o. elim o [ None ↦ false | Some x ↦ acts_on r x ]) here

  -- ---- a region that the entry doesn't act on, and one that it acts on

  next_other : (r : ℕ) → acts_at log r p ≡ false → next log B r ≡ next log A r
  next_other r out = find_same (λ q. not (B q) && acts_at log r q) (λ q. not (A q) && acts_at log r q) (length log.entries) (λ q low. by q (order q))
    where
      apart : (q p : ℕ) → (q ≡ p) ⊎ (q ≢ p)
      apart q p = by_eq (q == p) refl
        where
          one : (q p : ℕ) → (q == p) ≡ true → q ≡ p
          one q p e = grind arith

          two : (q p : ℕ) → (q == p) ≡ false → q ≢ p
          two q p e same = true≢false (sym (same_is p) ∙ sym (ap (λ x. x == p) same) ∙ e)

          by_eq : (b : Bool) → (q == p) ≡ b → (q ≡ p) ⊎ (q ≢ p)
          by_eq true e = inl (one q p e)
          by_eq false e = inr (two q p e)

      order : (q : ℕ) → (q ≡ p) ⊎ (q ≢ p)
      order q = apart q p

      by : (q : ℕ) → (q ≡ p) ⊎ (q ≢ p) → (not (B q) && acts_at log r q) ≡ (not (A q) && acts_at log r q)
      by q (inl same) = off (not (B q)) (acts_at log r q) (ap (acts_at log r) same ∙ out) ∙ sym (off (not (A q)) (acts_at log r q) (ap (acts_at log r) same ∙ out))
      by q (inr ne) = ap (λ b. not b && acts_at log r q) (with_other A p q ne)

  abbrev following : ℕ → ℕ → ℕ → Bool
  following r x q = nat_lt x q && acts_at log r q

  -- the entry is the next one of a region that is there and that it acts on
  next_acted : (r : ℕ) → acts_at log r p ≡ true → is_there (applied log A r) ≡ true → next log A r ≡ Some p
  next_acted r acts there = next_is log lawful A closed r index.0 range.0 range.1 index.1 ∙ ap (λ o. elim o [ None ↦ None | Some x ↦ find (following r x) (positions log) ]) last.1 ∙ found
    where
      before : applied log A r ≡ region_at log r p
      before = applied_before log A p lawful closed ready r acts

      range : (range : HandleRange) × (range_of (applied log A r) ≡ Some range)
      range = range_there (applied log A r) there

      index : (index : ℕ) × (index_of (applied log A r) ≡ Some index)
      index = index_there (applied log A r) there

      last : (q : ℕ) × (place log r index.0 ≡ Some q) × IsGreatest (acts_at log r) p q × (left_at log r q ≡ region_at log r p)
      last = place_is_last log lawful r p index.0 range.0 (sym (ap range_of before) ∙ range.1) (sym (ap index_of before) ∙ index.1)

      none_before : (x : ℕ) → x < p → (x < suc last.0) ⊎ (suc last.0 ≤ x) → following r last.0 x ≡ false
      none_before x less (inl low) = ap (λ b. b && acts_at log r x) (over last.0 x (omega (arith, low)))
      none_before x less (inr more) = off (nat_lt last.0 x) (acts_at log r x) (last.2.later x (omega (arith, more)) less)

      found : find (following r last.0) (positions log) ≡ Some p
      found = find_is (following r last.0) (length log.entries) p (record { below = within; passes = (λ i. under last.0 p last.2.below i && acts i); first = λ x less. none_before x less (split x (suc last.0)) })

  -- ---- what is there after the entry

  module _ (f : Keeps) (keeps : (r : ℕ) → f r ≡ kept_at log r (applied log A r)) where
    abbrev K : Body → ℕ → Option Kept
    K b r = kept_after f e.region e.index (command_of log p b) r

    state_after : (r : ℕ) → applied log B r ≡ state_kept (K e.body r)
    state_after r = sym (state_of_kept log r (applied log B r)) ∙ ap state_kept (sym (after log lawful A closed p e here ready f keeps r))

    there_after : (b : Body) → e.body ≡ b → (r : ℕ) (x : State) → K b r ≡ Some (kept.There x) → applied log B r ≡ state_there x
    there_after b is r x left = state_after r ∙ ap (λ b. state_kept (K b r)) is ∙ ap state_kept left

    fine : IsFine p (at log p).regions e
    fine = head_next log p e here lawful

    own_acts : acts_at log e.region p ≡ true
    own_acts = acts_is e.region ∙ or_first (e.region == e.region) (list_any (λ acted. acted == e.region) (also_acted e.body)) (same_is e.region)

    -- an entry that doesn't make its region finds it live
    live : makes_region e.body ≡ false → (d : Descriptor) × (region (at log p).regions e.region ≡ Live d)
    live old = by (region (at log p).regions e.region) refl
      where
        by : (st : Region) → region (at log p).regions e.region ≡ st → (d : Descriptor) × (region (at log p).regions e.region ≡ Live d)
        by Unborn is = absurd (true≢false (sym (of_unborn p (at log p).regions e fine is) ∙ old))
        by (Live d) is = (d, is)
        by (Prepared d target) is = absurd (no_entry p (at log p).regions e fine (Prepared d target) is refl refl)
        by (Gone last) is = absurd (no_entry p (at log p).regions e fine (Gone last) is refl refl)

    own_state : (d : Descriptor) → region (at log p).regions e.region ≡ Live d → f e.region ≡ Some (kept.There (state_from (at log p) d None))
    own_state d is = own log lawful A closed p e here ready f keeps (Live d) is

    -- what is done where the region is there
    with_own : (d : Descriptor) → region (at log p).regions e.region ≡ Live d → (h : State → Keeps) (r : ℕ) → if_there (f e.region) h f r ≡ h (state_from (at log p) d None) r
    with_own d is h r = ap (λ o. if_there o h f r) (own_state d is)

    able : (b : Body) → e.body ≡ b → CanBeDone f e.region (command_of log p b)
    able b is = subst (λ b. CanBeDone f e.region (command_of log p b)) is (can log lawful A closed p e here ready f keeps)

    old_body : (b : Body) → e.body ≡ b → makes_region b ≡ false → makes_region e.body ≡ false
    old_body b is old = ap makes_region is ∙ old

    -- ---- its own region

    abbrev IsLeft : Body → Type 0
    IsLeft b = (x : State) × (K b e.region ≡ Some (kept.There x))

    left_there : (b : Body) → e.body ≡ b → (b ≡ body.Remove → ⊥) → IsLeft b
    left_there (body.Open conf_ver version low high) is not_remove = (born (record { low = low; high = high }) (record { conf_ver = conf_ver; version = version }) e.index, changed_here f e.region _)
    left_there (body.Install conf_ver version low high ops) is not_remove = (folded (born (record { low = low; high = high }) (record { conf_ver = conf_ver; version = version }) e.index) e.index (changes log p ops), changed_here f e.region _)
    left_there (body.Write ops) is not_remove =
        let l = live (old_body (body.Write ops) is refl) in
        (folded (state_from (at log p) l.0 None) e.index (changes log p ops), with_own l.0 l.1 (λ s. changed f e.region (kept.There (folded s e.index (changes log p ops)))) e.region ∙ changed_here f e.region _)
    left_there (body.Split middle child) is not_remove =
        let l = live (old_body (body.Split middle child) is refl) in
        (lower_of (state_from (at log p) l.0 None) middle e.index, with_own l.0 l.1 (λ s. changed (changed f child (kept.There (upper_of s middle))) e.region (kept.There (lower_of s middle e.index))) e.region ∙ changed_here (changed f child _) e.region _)
    left_there (body.Prepare target) is not_remove =
        let l = live (old_body (body.Prepare target) is refl) in
        (prepared (state_from (at log p) l.0 None) target e.index, with_own l.0 l.1 (λ s. changed f e.region (kept.There (prepared s target e.index))) e.region ∙ changed_here f e.region _)
    left_there (body.Commit source) is not_remove =
        let l = live (old_body (body.Commit source) is refl) in
        let s : State = state_from (at log p) l.0 None in
        let rest = merged (able (body.Commit source) is).0 s (own_state l.0 l.1) (f source) in
        (rest.0, with_own l.0 l.1 (λ s. if_there (f source) (λ other. changed (changed f e.region (kept.There (absorbed s other e.index))) source (kept.Gone other.descriptor.index)) f) e.region ∙ rest.1)
      where
        merged : source ≢ e.region → (s : State) → f e.region ≡ Some (kept.There s) → (o : Option Kept) → (x : State) × (if_there o (λ other. changed (changed f e.region (kept.There (absorbed s other e.index))) source (kept.Gone other.descriptor.index)) f e.region ≡ Some (kept.There x))
        merged differ s was None = (s, was)
        merged differ s was (Some (kept.Gone index)) = (s, was)
        merged differ s was (Some (kept.There other)) = (absorbed s other e.index, changed_apart (changed f e.region _) source _ e.region (λ same. differ (sym same)) ∙ changed_here f e.region _)
    left_there body.Remove is not_remove = absurd (not_remove refl)
    left_there body.Empty is not_remove =
        let l = live (old_body body.Empty is refl) in
        (folded (state_from (at log p) l.0 None) e.index [], with_own l.0 l.1 (λ s. changed f e.region (kept.There (folded s e.index []))) e.region ∙ changed_here f e.region _)

    own_there : (e.body ≡ body.Remove → ⊥) → is_there (applied log B e.region) ≡ true
    own_there not_remove = let l = left_there e.body refl not_remove in ap is_there (there_after e.body refl e.region l.0 l.1) ∙ there_state l.0

    removed : e.body ≡ body.Remove → is_there (applied log B e.region) ≡ false
    removed is = ap is_there (state_after e.region ∙ ap (λ b. state_kept (K b e.region)) is ∙ ap state_kept (changed_here f e.region (kept.Gone e.index)))

    next_own : is_there (applied log B e.region) ≡ true → next log B e.region ≡ next_of log e.region e.index
    next_own there =
        let range = range_there (applied log B e.region) there in
        next_is log lawful B closed_then e.region e.index range.0 range.1 (ap index_of (applied_after log A p lawful closed ready e.region own_acts) ∙ left_index log lawful A closed p e here)

    abbrev Own : Body → Option ℕ
    Own b = own_next log e.region e.index (command_of log p b)

    is_remove : (b : Body) → (b ≡ body.Remove) ⊎ ((b ≡ body.Remove → ⊥) × (Own b ≡ next_of log e.region e.index))
    is_remove (body.Open conf_ver version low high) = inr (λ is. cc is, refl)
    is_remove (body.Install conf_ver version low high ops) = inr (λ is. cc is, refl)
    is_remove (body.Write ops) = inr (λ is. cc is, refl)
    is_remove (body.Split middle child) = inr (λ is. cc is, refl)
    is_remove (body.Prepare target) = inr (λ is. cc is, refl)
    is_remove (body.Commit source) = inr (λ is. cc is, refl)
    is_remove body.Remove = inl refl
    is_remove body.Empty = inr (λ is. cc is, refl)

    -- ---- the child of a split, and the source of a commit

    child_state : (middle : ℤ) (child : ℕ) → e.body ≡ body.Split middle child → (x : State) × ((x.descriptor.index ≡ 5) × (applied log B child ≡ state_there x))
    child_state middle child is =
        let l = live (old_body (body.Split middle child) is refl) in
        let x : State = upper_of (state_from (at log p) l.0 None) middle in (
          x,
          (
            refl,
            there_after (body.Split middle child) is child x
                (with_own l.0 l.1 (λ s. changed (changed f child (kept.There (upper_of s middle))) e.region (kept.There (lower_of s middle e.index))) child
                ∙ changed_apart (changed f child _) e.region _ child (able (body.Split middle child) is).0 ∙ changed_here f child _),
          ),
        )

    child_there : (middle : ℤ) (child : ℕ) → e.body ≡ body.Split middle child → is_there (applied log B child) ≡ true
    child_there middle child is = let x = child_state middle child is in ap is_there x.1.1 ∙ there_state x.0

    next_child : (middle : ℤ) (child : ℕ) → e.body ≡ body.Split middle child → next log B child ≡ next_of log child 5
    next_child middle child is =
        let x = child_state middle child is in
        let range = range_there (applied log B child) (child_there middle child is) in
        next_is log lawful B closed_then child 5 range.0 range.1 (ap index_of x.1.1 ∙ index_state x.0 ∙ ap Some x.1.0)

    source_gone : (source : ℕ) → e.body ≡ body.Commit source → is_there (applied log B source) ≡ false
    source_gone source is =
        let l = live (old_body (body.Commit source) is refl) in
        ap is_there (state_after source ∙ ap (λ b. state_kept (K b source)) is)
        ∙ ap (λ k. is_there (state_kept k)) (with_own l.0 l.1 (λ s. if_there (f source) (λ other. changed (changed f e.region (kept.There (absorbed s other e.index))) source (kept.Gone other.descriptor.index)) f) source)
        ∙ by (state_from (at log p) l.0 None) (f source) refl
      where
        by : (s : State) (o : Option Kept) → f source ≡ o → is_there (state_kept (if_there o (λ other. changed (changed f e.region (kept.There (absorbed s other e.index))) source (kept.Gone other.descriptor.index)) f source)) ≡ false
        by s None was = ap (λ k. is_there (state_kept k)) was
        by s (Some (kept.Gone index)) was = ap (λ k. is_there (state_kept k)) was
        by s (Some (kept.There other)) was = ap (λ k. is_there (state_kept k)) (changed_here (changed f e.region (kept.There (absorbed s other e.index))) source (kept.Gone other.descriptor.index))

    -- ---- the next entries

    abbrev Child : Body → Option ℕ
    Child b = child_next log (command_of log p b)

    abbrev Found : ℕ → Type 0
    Found q = (r : ℕ) × (is_there (applied log B r) ≡ true) × (next log B r ≡ Some q)

    child_found : (q : ℕ) (b : Body) → e.body ≡ b → Child b ≡ Some q → Found q
    child_found q (body.Split middle child) is some = (child, child_there middle child is, next_child middle child is ∙ some)
    child_found q (body.Open conf_ver version low high) is some = absurd (cc some)
    child_found q (body.Install conf_ver version low high ops) is some = absurd (cc some)
    child_found q (body.Write ops) is some = absurd (cc some)
    child_found q (body.Prepare target) is some = absurd (cc some)
    child_found q (body.Commit source) is some = absurd (cc some)
    child_found q body.Remove is some = absurd (cc some)
    child_found q body.Empty is some = absurd (cc some)

    own_found : (q : ℕ) → Own e.body ≡ Some q → Found q
    own_found q some = by (is_remove e.body)
      where
        by : (e.body ≡ body.Remove) ⊎ ((e.body ≡ body.Remove → ⊥) × (Own e.body ≡ next_of log e.region e.index)) → Found q
        by (inl is) = absurd (cc (sym (ap Own is) ∙ some))
        by (inr other) = (e.region, own_there other.0, next_own (own_there other.0) ∙ sym other.1 ∙ some)

    module _ (nexts : List (ℕ × Unit {0})) (are : AreNexts log A nexts) (new : List (ℕ × Unit {0})) (new_is : (q : ℕ) → next_in new q ≡ nexts_after log p e.region e.index (command_of log p e.body) (next_in nexts) q) where
      abbrev N : ℕ → Option (Unit {0})
      N = next_in nexts

      abbrev with_own_next : ℕ → Option (Unit {0})
      with_own_next = plus (Own e.body) N

      abbrev with_both : ℕ → Option (Unit {0})
      with_both = plus (Child e.body) (plus (Own e.body) N)

      old_found : (q : ℕ) → q ≢ p → is_some (N q) ≡ true → Found q
      old_found q ne some = by (acts_at log o.0 p) refl
        where
          o : (r : ℕ) × (is_there (applied log A r) ≡ true) × (next log A r ≡ Some q)
          o = are.each q some

          some_is : (a b : ℕ) → Some a ≡ Some b → a ≡ b
          some_is a b e = cc e

          by : (b : Bool) → acts_at log o.0 p ≡ b → Found q
          by true acts = absurd (ne (some_is q p (sym o.2 ∙ next_acted o.0 acts o.1)))
          by false out = (o.0, ap is_there (applied_other log A p lawful closed ready o.0 out) ∙ o.1, next_other o.0 out ∙ o.2)

      each : (q : ℕ) → is_some (next_in new q) ≡ true → Found q
      each q some = with_child (plus_cases (Child e.body) with_own_next q left.1)
        where
          left : (q ≢ p) × (is_some (with_both q) ≡ true)
          left = minus_cases p with_both q (sym (ap is_some (new_is q)) ∙ some)

          with_old : (Own e.body ≡ Some q) ⊎ (is_some (N q) ≡ true) → Found q
          with_old (inl is) = own_found q is
          with_old (inr old) = old_found q left.0 old

          with_child : (Child e.body ≡ Some q) ⊎ (is_some (with_own_next q) ≡ true) → Found q
          with_child (inl is) = child_found q e.body refl is
          with_child (inr rest) = with_old (plus_cases (Own e.body) N q rest)

      module _ (q r : ℕ) (there : is_there (applied log B r) ≡ true) (next_r : next log B r ≡ Some q) where
        not_p : q ≢ p
        not_p same = true≢false (sym (both_true (not (B q)) (acts_at log r q) (found_is (λ x. not (B x) && acts_at log r x) (length log.entries) q next_r).passes).0 ∙ ap not (ap B same ∙ with_itself A p))

        by_own : r ≡ e.region → is_some (with_both q) ≡ true
        by_own same = plus_keeps (Child e.body) with_own_next q (plus_here (Own e.body) N q (by (is_remove e.body)))
          where
            own_is_there : is_there (applied log B e.region) ≡ true
            own_is_there = subst (λ x. is_there (applied log B x) ≡ true) same there

            by : (e.body ≡ body.Remove) ⊎ ((e.body ≡ body.Remove → ⊥) × (Own e.body ≡ next_of log e.region e.index)) → Own e.body ≡ Some q
            by (inl is) = absurd (true≢false (sym own_is_there ∙ removed is))
            by (inr other) = other.1 ∙ sym (next_own own_is_there) ∙ subst (λ x. next log B x ≡ Some q) same next_r

        by_other : (b : Body) → e.body ≡ b → list_any (λ acted. acted == r) (also_acted b) ≡ true → is_some (with_both q) ≡ true
        by_other (body.Split middle child) is acts = plus_here (Child e.body) with_own_next q (ap Child is ∙ sym (next_child middle child is) ∙ ap (next log B) same ∙ next_r)
          where
            same : child ≡ r
            same = elim (or_either (child == r) false acts) [ inl x ↦ same_number child r x | inr x ↦ absurd (true≢false (sym x)) ]
        by_other (body.Commit source) is acts = absurd (true≢false (sym there ∙ sym (ap (λ x. is_there (applied log B x)) same) ∙ source_gone source is))
          where
            same : source ≡ r
            same = elim (or_either (source == r) false acts) [ inl x ↦ same_number source r x | inr x ↦ absurd (true≢false (sym x)) ]
        by_other (body.Open conf_ver version low high) is acts = absurd (true≢false (sym acts))
        by_other (body.Install conf_ver version low high ops) is acts = absurd (true≢false (sym acts))
        by_other (body.Write ops) is acts = absurd (true≢false (sym acts))
        by_other (body.Prepare target) is acts = absurd (true≢false (sym acts))
        by_other body.Remove is acts = absurd (true≢false (sym acts))
        by_other body.Empty is acts = absurd (true≢false (sym acts))

        by_acts : (b : Bool) → acts_at log r p ≡ b → is_some (with_both q) ≡ true
        by_acts false out = plus_keeps (Child e.body) with_own_next q (plus_keeps (Own e.body) N q (are.all q r (sym (ap is_there (applied_other log A p lawful closed ready r out)) ∙ there) (sym (next_other r out) ∙ next_r)))
        by_acts true acts = elim (or_either (e.region == r) (list_any (λ acted. acted == r) (also_acted e.body)) (sym (acts_is r) ∙ acts)) [
          | inl x ↦ by_own (sym (same_number e.region r x))
          | inr x ↦ by_other e.body refl x
        ]

        all : is_some (next_in new q) ≡ true
        all = ap is_some (new_is q) ∙ minus_keeps p with_both q not_p (by_acts (acts_at log r p) refl)

      pub nexts_then : AreNexts log B new
      nexts_then = record { each = each; all = all }
