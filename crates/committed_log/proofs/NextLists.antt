-- The lists of regions' next positions: what one position more does to them and taking it out again, and how far they reach after an entry.
use Rattle.std.proofs.Common.{◌≡◌, ◌≢◌, ◌⊎◌, inl, inr, ◌∙◌, refl, sym, ap, subst, ℕ, zero, suc, ◌+◌, ◌-◌, Bool, true, false, true≢false, cond, ◌&&◌, nat_eq, nat_le, List, [], ◌∷◌, ◌++◌, Option, Some, None, arith, length, length-append, slice_get, take}
use Rattle.std.proofs.Math.Seq.{take-append_seam}
use Rattle.std.specs.Prelude.{◌==◌}
use Rattle.std.specs.List.{list_any}
use Rattle.log_codec.specs.declared.entry.Entry.{Entry}
use Rattle.log_codec.specs.declared.entry.Body.{Body}
use Rattle.log_codec.specs.declared.entry.Body.TheVariants as body
use Rattle.committed_log.specs.declared.region.Descriptor.{Descriptor}
use Rattle.committed_log.specs.Admission.{other_fault, is_unborn, is_prepared_for, head_fault, ops_fault}
use Rattle.committed_log.specs.Applied.{next_of}
use Rattle.committed_log.specs.Lawful.{IsLawful, fault, pushed}
use Rattle.committed_log.specs.Log.{Log, end}
use Rattle.committed_log.specs.Nexts.{Successors, is_there_at, goes_on, next_in, next_at, longer_by, shorter, put_next, drop_next, Reaches, IsBack}
use Rattle.committed_log.specs.Regions.{Region, Unborn, Live, Prepared, Gone, region, with_region, regions_step, regions_after, live_after, after_merge, merged, acts_on, also_acted, lower_part, upper_part}
use Rattle.committed_log.specs.Store.{Store}
use Rattle.committed_log.proofs.Acting.{not_acted}
use Rattle.committed_log.proofs.Faults.{or_either, both_none, head_is_fine, is_unborn_is, IsFine}
use Rattle.committed_log.proofs.NextPositions.{next_push}
use Rattle.committed_log.proofs.Owners.{tested}
use Rattle.committed_log.proofs.Pushed.{store_push}
use Rattle.committed_log.proofs.Ranks.{same_number, region_here, region_there, born_also, of_unborn, index_is, no_entry}

-- ---- one position more

not_first : (k : ℕ) → (0 == suc k) ≡ false
not_first k = grind arith

not_yet : (n : ℕ) → (suc n == 0) ≡ false
not_yet n = grind arith

one_on : (n k : ℕ) → (n == k) ≡ (suc n == suc k)
one_on n k = grind arith

get_push : (xs : List ℕ) (p k : ℕ) → slice_get (xs ++ p ∷ []) k ≡ cond (length xs == k) (Some p) (slice_get xs k)
get_push [] p zero = refl
get_push [] p (suc k) = sym (ap (λ b. cond b (Some p) None) (not_first k))
get_push (x ∷ xs) p zero = sym (ap (λ b. cond b (Some p) (Some x)) (not_yet (length xs)))
get_push (x ∷ xs) p (suc k) = get_push xs p k ∙ ap (λ b. cond b (Some p) (slice_get xs k)) (one_on (length xs) k)

same_place : (first n d i : ℕ) → first + n ≡ d → nat_le first i ≡ true → (n == i - first) ≡ (d == i)
same_place first n d i reach le = grind arith

before_all : (first n d i : ℕ) → first + n ≡ d → nat_le first i ≡ false → (d == i) ≡ false
before_all first n d i reach le = grind arith

push_in : (first : ℕ) (ps : List ℕ) (d p i : ℕ) → first + length ps ≡ d → cond (nat_le first i) (slice_get (ps ++ p ∷ []) (i - first)) None ≡ cond (d == i) (Some p) (cond (nat_le first i) (slice_get ps (i - first)) None)
push_in first ps d p i reach = by (nat_le first i) refl
  where
    by : (b : Bool) → nat_le first i ≡ b → cond b (slice_get (ps ++ p ∷ []) (i - first)) None ≡ cond (d == i) (Some p) (cond b (slice_get ps (i - first)) None)
    by true le = get_push ps p (i - first) ∙ ap (λ b. cond b (Some p) (slice_get ps (i - first))) (same_place first (length ps) d i reach le)
    by false le = sym (ap (λ b. cond b (Some p) None) (before_all first (length ps) d i reach le))

no_place : (b : Bool) (k : ℕ) → cond b (slice_get {X = ℕ} [] k) None ≡ None
no_place true k = refl
no_place false k = refl

abbrev EndsAt : ℕ → Option Successors → Type 0
EndsAt d o = elim o [ None ↦ Unit {0} | Some c ↦ c.first + length c.positions ≡ d ]

plus_zero : (d : ℕ) → d + 0 ≡ d
plus_zero d = omega arith

next_longer : (d p i : ℕ) (o : Option Successors) → EndsAt d o → next_at (Some (longer_by d p o)) i ≡ cond (d == i) (Some p) (next_at o i)
next_longer d p i None reach = push_in d [] d p i (plus_zero d) ∙ ap (λ o. cond (d == i) (Some p) o) (no_place (nat_le d i) (i - d))
next_longer d p i (Some c) reach = push_in c.first c.positions d p i reach

longer_ends : (d p : ℕ) (o : Option Successors) → EndsAt d o → EndsAt (suc d) (Some (longer_by d p o))
longer_ends d p None reach = omega arith
longer_ends d p (Some c) reach = omega (arith, reach, length-append c.positions (p ∷ []))

pub next_put : (state : Region) (p i : ℕ) (o : Option Successors) → Reaches state o → next_at (put_next state p o) i ≡ cond (is_there_at i state) (Some p) (next_at o i)
next_put Unborn p i o reach = refl
next_put (Live d) p i o reach = next_longer d.index p i o reach
next_put (Prepared d target) p i o reach = next_longer d.index p i o reach
next_put (Gone index) p i o reach = refl

-- ---- and taken out again

one_less : (n : ℕ) (xs : List ℕ) (p : ℕ) → n ≡ suc (length xs) → take (n - 1) (xs ++ p ∷ []) ≡ xs
one_less n xs p is = ap (λ m. take m (xs ++ p ∷ [])) (less n (length xs) is) ∙ take-append_seam xs (p ∷ [])
  where
    less : (n m : ℕ) → n ≡ suc m → n - 1 ≡ m
    less n m is = omega (arith, is)

shorter_again : (xs : List ℕ) (p : ℕ) → take (length (xs ++ p ∷ []) - 1) (xs ++ p ∷ []) ≡ xs
shorter_again xs p = one_less (length (xs ++ p ∷ [])) xs p (omega (arith, length-append xs (p ∷ [])))

-- of a list that was begun an empty one is left
abbrev again : ℕ → Option Successors → Successors
again d None = record { first = d; positions = [] }
again d (Some c) = c

shorter_longer : (d p : ℕ) (o : Option Successors) → shorter (longer_by d p o) ≡ again d o
shorter_longer d p None = refl
shorter_longer d p (Some c) = ap (λ (xs : List ℕ). record { first = c.first; positions = xs }) (shorter_again c.positions p)

next_again : (d i : ℕ) (o : Option Successors) → next_in (again d o) i ≡ next_at o i
next_again d i None = no_place (nat_le d i) (i - d)
next_again d i (Some c) = refl

ends_again : (d : ℕ) (o : Option Successors) → EndsAt d o → EndsAt d (Some (again d o))
ends_again d None reach = plus_zero d
ends_again d (Some c) reach = reach

next_dropped : (state : Region) (p i : ℕ) (o : Option Successors) → next_at (drop_next state (put_next state p o)) i ≡ next_at o i
next_dropped Unborn p i o = refl
next_dropped (Gone index) p i o = refl
next_dropped (Live d) p i o = ap (λ (c : Successors). next_in c i) (shorter_longer d.index p o) ∙ next_again d.index i o
next_dropped (Prepared d target) p i o = ap (λ (c : Successors). next_in c i) (shorter_longer d.index p o) ∙ next_again d.index i o

reaches_dropped : (state : Region) (p : ℕ) (o : Option Successors) → Reaches state o → Reaches state (drop_next state (put_next state p o))
reaches_dropped Unborn p o reach = reach
reaches_dropped (Gone index) p o reach = tt
reaches_dropped (Live d) p o reach = subst (λ (c : Successors). EndsAt d.index (Some c)) (sym (shorter_longer d.index p o)) (ends_again d.index o reach)
reaches_dropped (Prepared d target) p o reach = subst (λ (c : Successors). EndsAt d.index (Some c)) (sym (shorter_longer d.index p o)) (ends_again d.index o reach)

module _ (state : Region) (p : ℕ) (before after : Option Successors) where
  pub next_back : IsBack state p before after → (i : ℕ) → next_at after i ≡ next_at before i
  next_back (inl same) i = ap (λ o. next_at o i) same
  next_back (inr dropped) i = ap (λ o. next_at o i) dropped ∙ next_dropped state p i before

  pub reaches_back : IsBack state p before after → Reaches state before → Reaches state after
  reaches_back (inl same) reach = subst (λ o. Reaches state o) (sym same) reach
  reaches_back (inr dropped) reach = subst (λ o. Reaches state o) (sym dropped) (reaches_dropped state p before reach)

-- ---- lists by region

-- one of them has a position more
pub added : (old new : ℕ → Option Successors) (id i p : ℕ) (c more : Successors) → old id ≡ Some c → more ≡ longer_by i p (Some c) → ((r : ℕ) → new r ≡ cond (nat_eq id r) (Some more) (old r)) → (r : ℕ) → new r ≡ cond (nat_eq id r) (Some (longer_by i p (old r))) (old r)
added old new id i p c more is grown step r = step r ∙ by (nat_eq id r) refl
  where
    same : nat_eq id r ≡ true → id ≡ r
    same e = grind arith

    by : (b : Bool) → nat_eq id r ≡ b → cond b (Some more) (old r) ≡ cond b (Some (longer_by i p (old r))) (old r)
    by true e = ap (λ c. Some c) (grown ∙ ap (longer_by i p) (sym (ap old (sym (same e)) ∙ is)))
    by false e = refl

-- ---- how far a list reaches after an entry

reaches_none : (state : Region) → Reaches state None
reaches_none Unborn = refl
reaches_none (Live d) = tt
reaches_none (Prepared d target) = tt
reaches_none (Gone index) = tt

module _ (regions : List (ℕ × Region)) (r i : ℕ) (d : Descriptor) (live : region regions r ≡ Live d) where
  -- the entry's own region
  module _ (next : i ≡ suc d.index) (c : Successors) (ends : EndsAt (suc d.index) (Some c)) where
    here : (state : Region) (more : List (ℕ × Region)) → Reaches state (Some c) → Reaches (region (with_region r state more) r) (Some c)
    here state more = subst (λ s. Reaches s (Some c)) (sym (region_here more r state))

    at_index : c.first + length c.positions ≡ i
    at_index = ends ∙ sym next

    merge_own : (source : ℕ) (state : Region) → region regions source ≡ state → is_prepared_for r state ≡ true → Reaches (region (after_merge r d i source state regions) r) (Some c)
    merge_own source Unborn is e = absurd (true≢false (sym e))
    merge_own source (Live s) is e = absurd (true≢false (sym e))
    merge_own source (Gone last) is e = absurd (true≢false (sym e))
    merge_own source (Prepared s target) is e = subst (λ state. Reaches state (Some c)) (sym (region_there (with_region r (Live (merged d s i)) regions) source (Gone s.index) r apart)) (here (Live (merged d s i)) regions at_index)
      where
        apart : r ≢ source
        apart same = cc (sym live ∙ ap (region regions) same ∙ is)

    live_own : (b : Body) → other_fault regions r b ≡ None → Reaches (region (live_after r d i b regions) r) (Some c)
    live_own (body.Split at child) fine = here (Live (lower_part d at i)) (with_region child (Live (upper_part d at)) regions) at_index
    live_own (body.Commit source) fine = merge_own source (region regions source) refl (tested regions source (is_prepared_for r) fine)
    live_own (body.Prepare target) fine = here _ regions at_index
    live_own body.Remove fine = here (Gone i) regions tt
    live_own (body.Write ops) fine = here _ regions at_index
    live_own body.Empty fine = here _ regions at_index
    live_own (body.Open conf_ver version low high) fine = here _ regions at_index
    live_own (body.Install conf_ver version low high ops) fine = here _ regions at_index

  -- another that it acts on isn't born, or is gone after it
  module _ (q : ℕ) where
    one_is : (a : ℕ) → list_any (λ acted. acted == q) (a ∷ []) ≡ true → a ≡ q
    one_is a e = elim (or_either (a == q) false e) [ inl x ↦ same_number a q x | inr x ↦ absurd (true≢false (sym x)) ]

    abbrev IsNewOrGone : Region → Type 0
    IsNewOrGone after = (region regions q ≡ Unborn) ⊎ ((index : ℕ) × (after ≡ Gone index))

    live_also : (b : Body) → other_fault regions r b ≡ None → list_any (λ acted. acted == q) (also_acted b) ≡ true → IsNewOrGone (region (live_after r d i b regions) q)
    live_also (body.Split at child) fine e = inl (ap (region regions) (sym (one_is child e)) ∙ is_unborn_is (region regions child) (tested regions child is_unborn fine))
    live_also (body.Commit source) fine e = by (region regions source) (tested regions source (is_prepared_for r) fine)
      where
        by : (state : Region) → is_prepared_for r state ≡ true → IsNewOrGone (region (after_merge r d i source state regions) q)
        by Unborn f = absurd (true≢false (sym f))
        by (Live s) f = absurd (true≢false (sym f))
        by (Gone last) f = absurd (true≢false (sym f))
        by (Prepared s target) f = inr (s.index, ap (λ z. region (with_region source (Gone s.index) (with_region r (Live (merged d s i)) regions)) z) (sym (one_is source e)) ∙ region_here (with_region r (Live (merged d s i)) regions) source (Gone s.index))
    live_also (body.Prepare target) fine e = absurd (true≢false (sym e))
    live_also body.Remove fine e = absurd (true≢false (sym e))
    live_also (body.Write ops) fine e = absurd (true≢false (sym e))
    live_also body.Empty fine e = absurd (true≢false (sym e))
    live_also (body.Open conf_ver version low high) fine e = absurd (true≢false (sym e))
    live_also (body.Install conf_ver version low high ops) fine e = absurd (true≢false (sym e))

module _ (n p : ℕ) (regions : List (ℕ × Region)) (e : Entry) (fine : IsFine n regions e) (q : ℕ) (o : Option Successors) (reach : Reaches (region regions q) o) where
  abbrev after : Region
  after = region (regions_after regions e) q

  unborn : region regions q ≡ Unborn → Reaches after (put_next (region regions q) p o)
  unborn is = subst (λ s. Reaches after (put_next s p o)) (sym is) (subst (λ o. Reaches after o) (sym (subst (λ s. Reaches s o) is reach)) (reaches_none after))

  -- of a live region that is the entry's own
  own : (d : Descriptor) → e.region ≡ q → region regions q ≡ Live d → Reaches after (put_next (region regions q) p o)
  own d same is = subst (λ s. Reaches after (put_next s p o)) (sym is)
      (subst (λ z. Reaches (region (regions_after regions e) z) (Some (longer_by d.index p o))) same
      (subst (λ s. Reaches (region (regions_step s e regions) e.region) (Some (longer_by d.index p o))) (sym live)
      (live_own regions e.region e.index d live (index_is n regions e fine d live) (longer_by d.index p o) (longer_ends d.index p o (subst (λ s. Reaches s o) is reach)) e.body fine.other)))
    where
      live : region regions e.region ≡ Live d
      live = ap (region regions) same ∙ is

  -- of another that it acts on
  also : list_any (λ acted. acted == q) (also_acted e.body) ≡ true → Reaches after (put_next (region regions q) p o)
  also acts = by (region regions e.region) refl
    where
      by : (state : Region) → region regions e.region ≡ state → Reaches after (put_next (region regions q) p o)
      by Unborn is = absurd (born_also regions e.region e.index q e.body (of_unborn n regions e fine is) acts)
      by (Live d) is = elim (live_also regions e.region e.index d is q e.body fine.other acts) [
        | inl new ↦ unborn new
        | inr gone ↦ subst (λ s. Reaches s (put_next (region regions q) p o)) (sym (ap (λ s. region (regions_step s e regions) q) is ∙ gone.1)) tt
      ]
      by (Prepared d target) is = absurd (no_entry n regions e fine (Prepared d target) is refl refl)
      by (Gone index) is = absurd (no_entry n regions e fine (Gone index) is refl refl)

  pub reaches_put : acts_on q e ≡ true → Reaches after (put_next (region regions q) p o)
  reaches_put acts = elim (or_either (e.region == q) (list_any (λ acted. acted == q) (also_acted e.body)) acts) [ inl x ↦ by (same_number e.region q x) (region regions q) refl | inr x ↦ also x ]
    where
      by : e.region ≡ q → (state : Region) → region regions q ≡ state → Reaches after (put_next (region regions q) p o)
      by same Unborn is = unborn is
      by same (Live d) is = own d same is
      by same (Prepared d target) is = absurd (no_entry n regions e fine (Prepared d target) (ap (region regions) same ∙ is) refl refl)
      by same (Gone index) is = absurd (no_entry n regions e fine (Gone index) (ap (region regions) same ∙ is) refl refl)

  pub reaches_left : acts_on q e ≡ false → Reaches after o
  reaches_left apart = subst (λ s. Reaches s o) (sym (not_acted regions e q apart)) reach

-- ---- along a lawful log

module _ (log : Log) (lawful : IsLawful log) (e : Entry) (old new : ℕ → Option Successors) (told : (r i : ℕ) → next_at (old r) i ≡ next_of log r i) (reach : (r : ℕ) → Reaches (region (end log).regions r) (old r)) where
  module _ (none : fault log e ≡ None) (step : (r : ℕ) → new r ≡ cond (acts_on r e) (put_next (region (end log).regions r) (length log.entries) (old r)) (old r)) where
    fine : IsFine (length log.entries) (end log).regions e
    fine = head_is_fine (length log.entries) (end log).regions e (both_none (head_fault (length log.entries) (end log).regions e) (ops_fault log.table log.schema (length log.entries) (end log) e.region e.body) none).0

    -- the entry is noted
    pub noted : (r i : ℕ) → next_at (new r) i ≡ next_of (pushed log e) r i
    noted r i = ap (λ o. next_at o i) (step r) ∙ by (acts_on r e) ∙ sym (next_push log lawful r i e fine ∙ ap (λ o. cond (goes_on (end log).regions e r i) (Some (length log.entries)) o) (sym (told r i)))
      where
        by : (b : Bool) → next_at (cond b (put_next (region (end log).regions r) (length log.entries) (old r)) (old r)) i ≡ cond (b && is_there_at i (region (end log).regions r)) (Some (length log.entries)) (next_at (old r) i)
        by true = next_put (region (end log).regions r) (length log.entries) i (old r) (reach r)
        by false = refl

    pub noted_reaches : (r : ℕ) → Reaches (region (end (pushed log e)).regions r) (new r)
    noted_reaches r = subst (λ (rs : List (ℕ × Region)). Reaches (region rs r) (new r)) (sym (ap (λ (s : Store). s.regions) (store_push log.table log.schema log.entries e)))
        (subst (λ o. Reaches (region (regions_after (end log).regions e) r) o) (sym (step r)) (by (acts_on r e) refl))
      where
        by : (b : Bool) → acts_on r e ≡ b → Reaches (region (regions_after (end log).regions e) r) (cond b (put_next (region (end log).regions r) (length log.entries) (old r)) (old r))
        by true acts = reaches_put (length log.entries) (length log.entries) (end log).regions e fine r (old r) (reach r) acts
        by false apart = reaches_left (length log.entries) (length log.entries) (end log).regions e fine r (old r) (reach r) apart

  module _ (back : (r : ℕ) → IsBack (region (end log).regions r) (length log.entries) (old r) (new r)) where
    -- nothing is noted
    pub kept : (r i : ℕ) → next_at (new r) i ≡ next_of log r i
    kept r i = next_back (region (end log).regions r) (length log.entries) (old r) (new r) (back r) i ∙ told r i

    pub kept_reaches : (r : ℕ) → Reaches (region (end log).regions r) (new r)
    kept_reaches r = reaches_back (region (end log).regions r) (length log.entries) (old r) (new r) (back r) (reach r)

-- what was noted is taken out again
pub is_back : (acts : Bool) (state : Region) (p : ℕ) (old put new : Option Successors) → put ≡ cond acts (put_next state p old) old → new ≡ cond acts (drop_next state put) put → IsBack state p old new
is_back true state p old put new is drop = inr (drop ∙ ap (drop_next state) is)
is_back false state p old put new is drop = inl (drop ∙ is)
