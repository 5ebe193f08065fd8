-- Closed sets: with an entry that acts on a region the earlier ones are applied, so a set is told by how far each region is.
use Rattle.std.proofs.Common.{◌≡◌, ◌⊎◌, inl, inr, ◌∙◌, refl, sym, ap, ℕ, zero, suc, ◌<◌, Bool, true, false, true≢false, not, ◌&&◌, ◌||◌, List, [], ◌∷◌, Option, Some, None, nat_lt, arith, slice_get, length, filter, find}
use Rattle.std.specs.Prelude.{◌==◌}
use Rattle.std.specs.List.{list_any}
use Rattle.flash_types.specs.declared.range.HandleRange.{HandleRange}
use Rattle.log_codec.specs.declared.entry.Entry.{Entry}
use Rattle.log_codec.specs.declared.entry.Body.{Body}
use Rattle.log_codec.specs.declared.entry.Body.TheVariants as body
use Rattle.committed_log.specs.Admission.{other_fault, is_unborn}
use Rattle.committed_log.specs.Applied.{acts_at, left_at, entry_is, next_of, next, applied, last, first_numbers, IsClosed, waits_for, body_waits_for}
use Rattle.committed_log.specs.Lawful.{IsLawful}
use Rattle.committed_log.specs.Laws.{region_at}
use Rattle.committed_log.specs.Log.{Log, at}
use Rattle.committed_log.specs.Regions.{Unborn, region, range_of, index_of, acts_on, also_acted}
use Rattle.committed_log.proofs.Entries.{head_next}
use Rattle.committed_log.proofs.Faults.{both_true, or_either, or_first, or_second, is_unborn_is}
use Rattle.committed_log.proofs.Owners.{tested}
use Rattle.committed_log.proofs.Places.{place_left}
use Rattle.committed_log.proofs.Positions.{IsGreatest, Ends, last_ends, last_is, last_none, find_same}
use Rattle.committed_log.proofs.Ranks.{rank, acts_rise, rank_grows, same_number}

pub same_is : (n : ℕ) → (n == n) ≡ true
same_is n = grind arith

both : (a b : Bool) → a ≡ true → b ≡ true → (a && b) ≡ true
both true b e f = f
both false b e f = absurd (true≢false (sym e))

pub order : (a b : ℕ) → (a < b) ⊎ ((a ≡ b) ⊎ (b < a))
order a b = grind arith

-- the entry that acts
pub acting_entry : (log : Log) (r p : ℕ) → acts_at log r p ≡ true → (e : Entry) × (slice_get log.entries p ≡ Some e) × (acts_on r e ≡ true)
acting_entry log r p acts = by (slice_get log.entries p) refl acts
  where
    by : (o : Option Entry) → slice_get log.entries p ≡ o → elim o [ None ↦ false | Some e ↦ acts_on r e ] ≡ true → (e : Entry) × (slice_get log.entries p ≡ Some e) × (acts_on r e ≡ true)
    by None is acts = absurd (true≢false (sym acts))
    by (Some e) is acts = (e, is, acts)

pub entry_holds : (log : Log) (test : Entry → Bool) (p : ℕ) → entry_is log test p ≡ true → (e : Entry) × (slice_get log.entries p ≡ Some e) × (test e ≡ true)
entry_holds log test p holds = by (slice_get log.entries p) refl holds
  where
    by : (o : Option Entry) → slice_get log.entries p ≡ o → elim o [ None ↦ false | Some e ↦ test e ] ≡ true → (e : Entry) × (slice_get log.entries p ≡ Some e) × (test e ≡ true)
    by None is acts = absurd (true≢false (sym acts))
    by (Some e) is acts = (e, is, acts)

pub entry_at : (log : Log) (p : ℕ) → p < length log.entries → (e : Entry) × (slice_get log.entries p ≡ Some e)
entry_at log p less = get log.entries p less
  where
    get : {X : Type 0} (xs : List X) (p : ℕ) → p < length xs → (x : X) × (slice_get xs p ≡ Some x)
    get [] p less = absurd (omega (arith, less))
    get (x ∷ xs) zero less = (x, refl)
    get (x ∷ xs) (suc p) less = get xs p (omega (arith, less))

-- what a set leaves of a region: unborn, or what the last applied entry left that acts on it
pub applied_cases : (log : Log) (A : ℕ → Bool) (r : ℕ) → (((q : ℕ) → q < length log.entries → (A q && acts_at log r q) ≡ false) × (applied log A r ≡ Unborn)) ⊎ ((q : ℕ) × IsGreatest (λ p. A p && acts_at log r p) (length log.entries) q × (applied log A r ≡ left_at log r q))
applied_cases log A r = by (last (filter (λ p. A p && acts_at log r p) (first_numbers (length log.entries)))) refl (last_ends (λ p. A p && acts_at log r p) (length log.entries))
  where
    by : (o : Option ℕ) → last (filter (λ p. A p && acts_at log r p) (first_numbers (length log.entries))) ≡ o → Ends (λ p. A p && acts_at log r p) (length log.entries) o →
        (((q : ℕ) → q < length log.entries → (A q && acts_at log r q) ≡ false) × (applied log A r ≡ Unborn)) ⊎ ((q : ℕ) × IsGreatest (λ p. A p && acts_at log r p) (length log.entries) q × (applied log A r ≡ left_at log r q))
    by None is none = inl (none, ap (λ o. elim o [ None ↦ Unborn | Some p ↦ left_at log r p ]) is)
    by (Some q) is greatest = inr (q, greatest, ap (λ o. elim o [ None ↦ Unborn | Some p ↦ left_at log r p ]) is)

pub applied_is : (log : Log) (A : ℕ → Bool) (r q : ℕ) → IsGreatest (λ p. A p && acts_at log r p) (length log.entries) q → applied log A r ≡ left_at log r q
applied_is log A r q greatest = ap (λ o. elim o [ None ↦ Unborn | Some p ↦ left_at log r p ]) (last_is (λ p. A p && acts_at log r p) (length log.entries) q greatest)

pub applied_none : (log : Log) (A : ℕ → Bool) (r : ℕ) → ((q : ℕ) → q < length log.entries → (A q && acts_at log r q) ≡ false) → applied log A r ≡ Unborn
applied_none log A r none = ap (λ o. elim o [ None ↦ Unborn | Some p ↦ left_at log r p ]) (last_none (λ p. A p && acts_at log r p) (length log.entries) none)

module _ (log : Log) (lawful : IsLawful log) where
  -- what a closed set has with an entry that acts on a region
  module _ (A : ℕ → Bool) (closed : IsClosed log A) (r : ℕ) where
    pub acts_closed : (p q : ℕ) → A p ≡ true → acts_at log r p ≡ true → q < p → acts_at log r q ≡ true → A q ≡ true
    acts_closed p q in_set acts less earlier = by_case (or_either (later.region == r) (list_any (λ acted. acted == r) (also_acted later.body)) at_p.2)
      where
        at_p : (e : Entry) × (slice_get log.entries p ≡ Some e) × (acts_on r e ≡ true)
        at_p = acting_entry log r p acts

        at_q : (e : Entry) × (slice_get log.entries q ≡ Some e) × (acts_on r e ≡ true)
        at_q = acting_entry log r q earlier

        later : Entry
        later = at_p.0

        waits : waits_for at_p.0 at_q.0 ≡ true → A q ≡ true
        waits w = closed.earlier p q at_p.0 at_q.0 in_set less at_p.1 at_q.1 w

        no_child : region_at log r p ≡ Unborn → ⊥
        no_child unborn =
            let rises = acts_rise log lawful r q earlier in
            let grows = rank_grows log lawful r (suc q) p less in
            let none : rank (region_at log r p) ≡ 0 = ap rank unborn in
            absurd (omega (arith, rises, grows, none))

        single : (a : ℕ) → list_any (λ acted. acted == r) (a ∷ []) ≡ true → a ≡ r
        single a e = elim (or_either (a == r) false e) [ inl x ↦ same_number a r x | inr x ↦ absurd (true≢false (sym x)) ]

        also : (b : Body) → at_p.0.body ≡ b → list_any (λ acted. acted == r) (also_acted b) ≡ true → A q ≡ true
        also (body.Split middle child) is e = absurd (no_child (ap (λ z. region (at log p).regions z) (sym (single child e)) ∙ is_unborn_is (region (at log p).regions child) (tested (at log p).regions child is_unborn (sym (ap (other_fault (at log p).regions at_p.0.region) is) ∙ (head_next log p at_p.0 at_p.1 lawful).other))))
        also (body.Commit source) is e = waits (ap (λ b. body_waits_for b at_q.0 || acts_on at_p.0.region at_q.0) is ∙ or_first (acts_on source at_q.0) (acts_on at_p.0.region at_q.0) (ap (λ z. acts_on z at_q.0) (single source e) ∙ at_q.2))
        also (body.Prepare target) is e = absurd (true≢false (sym e))
        also body.Remove is e = absurd (true≢false (sym e))
        also (body.Write ops) is e = absurd (true≢false (sym e))
        also body.Empty is e = absurd (true≢false (sym e))
        also (body.Open conf_ver version low high) is e = absurd (true≢false (sym e))
        also (body.Install conf_ver version low high ops) is e = absurd (true≢false (sym e))

        by_case : ((at_p.0.region == r) ≡ true) ⊎ (list_any (λ acted. acted == r) (also_acted at_p.0.body) ≡ true) → A q ≡ true
        by_case (inl own) = waits (or_second (body_waits_for at_p.0.body at_q.0) (acts_on at_p.0.region at_q.0) (ap (λ z. acts_on z at_q.0) (same_number at_p.0.region r own) ∙ at_q.2))
        by_case (inr other) = also at_p.0.body refl other

    -- of the entries that act on a region the applied ones are those up to the last
    pub applied_up_to : (q : ℕ) → IsGreatest (λ p. A p && acts_at log r p) (length log.entries) q → (x : ℕ) → x < length log.entries → acts_at log r x ≡ true → not (A x) ≡ nat_lt q x
    applied_up_to q greatest x low acts = by (order x q)
      where
        parts : (A q ≡ true) × (acts_at log r q ≡ true)
        parts = both_true (A q) (acts_at log r q) greatest.passes

        below : (x q : ℕ) → x < q → false ≡ nat_lt q x
        below x q less = grind arith

        above : (x q : ℕ) → q < x → true ≡ nat_lt q x
        above x q less = grind arith

        at_q : (x q : ℕ) → x ≡ q → false ≡ nat_lt q x
        at_q x q same = grind arith

        not_in : q < x → A x ≡ false
        not_in less = of (A x) refl
          where
            of : (b : Bool) → A x ≡ b → A x ≡ false
            of false is = is
            of true is = absurd (true≢false (sym (both (A x) (acts_at log r x) is acts) ∙ greatest.later x less low))

        by : (x < q) ⊎ ((x ≡ q) ⊎ (q < x)) → not (A x) ≡ nat_lt q x
        by (inl less) = ap not (acts_closed q x parts.0 parts.1 less acts) ∙ below x q less
        by (inr (inl same)) = ap not (ap A same ∙ parts.0) ∙ at_q x q same
        by (inr (inr less)) = ap not (not_in less) ∙ above x q less

    -- the next entry of a region that is there is that after its index
    pub next_is : (i : ℕ) (range : HandleRange) → range_of (applied log A r) ≡ Some range → index_of (applied log A r) ≡ Some i → next log A r ≡ next_of log r i
    next_is i range there index = by (applied_cases log A r)
      where
        tests : (q : ℕ) → IsGreatest (λ p. A p && acts_at log r p) (length log.entries) q → (x : ℕ) → x < length log.entries → (not (A x) && acts_at log r x) ≡ (nat_lt q x && acts_at log r x)
        tests q greatest x low = of (acts_at log r x) refl
          where
            either : (b c : Bool) → (b && false) ≡ (c && false)
            either true true = refl
            either true false = refl
            either false true = refl
            either false false = refl

            of : (b : Bool) → acts_at log r x ≡ b → (not (A x) && acts_at log r x) ≡ (nat_lt q x && acts_at log r x)
            of true is = ap (λ b. b && acts_at log r x) (applied_up_to q greatest x low is)
            of false is = ap (λ b. not (A x) && b) is ∙ either (not (A x)) (nat_lt q x) ∙ sym (ap (λ b. nat_lt q x && b) is)

        by : (((q : ℕ) → q < length log.entries → (A q && acts_at log r q) ≡ false) × (applied log A r ≡ Unborn)) ⊎ ((q : ℕ) × IsGreatest (λ p. A p && acts_at log r p) (length log.entries) q × (applied log A r ≡ left_at log r q)) → next log A r ≡ next_of log r i
        by (inl none) = cc (sym (ap range_of none.1) ∙ there)
        by (inr some) =
            let q = some.0 in
            let placed = place_left log lawful r q i range (both_true (A q) (acts_at log r q) some.1.passes).1 (ap range_of (sym some.2) ∙ there) (ap index_of (sym some.2) ∙ index) in
            find_same (λ x. not (A x) && acts_at log r x) (λ x. nat_lt q x && acts_at log r x) (length log.entries) (tests q some.1)
            ∙ sym (ap (λ o. elim o [ None ↦ None | Some p ↦ find (λ q. nat_lt p q && acts_at log r q) (first_numbers (length log.entries)) ]) placed)

    -- the next entry of a region that isn't born is the first that acts on it
    pub next_unborn : applied log A r ≡ Unborn → next log A r ≡ find (acts_at log r) (first_numbers (length log.entries))
    next_unborn unborn = by (applied_cases log A r)
      where
        fresh : (x : ℕ) → (A x && acts_at log r x) ≡ false → (not (A x) && acts_at log r x) ≡ acts_at log r x
        fresh x out = of (A x) (acts_at log r x) out
          where
            of : (a b : Bool) → (a && b) ≡ false → (not a && b) ≡ b
            of true b e = sym e
            of false b e = refl

        by : (((q : ℕ) → q < length log.entries → (A q && acts_at log r q) ≡ false) × (applied log A r ≡ Unborn)) ⊎ ((q : ℕ) × IsGreatest (λ p. A p && acts_at log r p) (length log.entries) q × (applied log A r ≡ left_at log r q)) → next log A r ≡ find (acts_at log r) (first_numbers (length log.entries))
        by (inl none) = find_same (λ x. not (A x) && acts_at log r x) (acts_at log r) (length log.entries) (λ x low. fresh x (none.0 x low))
        by (inr some) =
            let acts = (both_true (A some.0) (acts_at log r some.0) some.1.passes).1 in
            let rises = acts_rise log lawful r some.0 acts in
            let zero_is : rank (left_at log r some.0) ≡ 0 = ap rank (sym some.2 ∙ unborn) in
            absurd (omega (arith, rises, zero_is))
