-- What one entry more does to the next positions of regions: it is the next one of each region that it acts on, after the index that the region has.
use Rattle.std.proofs.Common.{◌≡◌, ◌⊎◌, inl, inr, ◌∙◌, refl, sym, ap, ℕ, suc, ◌+◌, ◌<◌, ◌≤◌, Bool, true, false, true≢false, cond, ◌&&◌, List, [], ◌∷◌, ◌++◌, Option, Some, None, find, nat_lt, arith, length, length-append, slice_get}
use Rattle.std.specs.Prelude.{◌==◌}
use Rattle.std.specs.List.{list_any}
use Rattle.std.specs.Option.{option_or}
use Rattle.flash_types.specs.declared.range.HandleRange.{HandleRange}
use Rattle.log_codec.specs.declared.entry.Entry.{Entry}
use Rattle.log_codec.specs.declared.entry.Body.{Body}
use Rattle.log_codec.specs.declared.entry.Body.TheVariants as body
use Rattle.committed_log.specs.Admission.{other_fault, is_unborn, is_prepared_for}
use Rattle.committed_log.specs.Applied.{acts_at, left_at, has_index, place, next_of, first_numbers, positions}
use Rattle.committed_log.specs.Lawful.{IsLawful, pushed}
use Rattle.committed_log.specs.Laws.{region_at, IsLastActing}
use Rattle.committed_log.specs.Log.{Log, end}
use Rattle.committed_log.specs.Nexts.{is_there_at, goes_on}
use Rattle.committed_log.specs.Regions.{Region, Unborn, Live, Prepared, Gone, region, range_of, index_of, acts_on, also_acted}
use Rattle.committed_log.specs.Store.{Store}
use Rattle.committed_log.proofs.Faults.{both_true, or_either, is_unborn_is, IsFine}
use Rattle.committed_log.proofs.Longer.{left_same, entry_same, place_same}
use Rattle.committed_log.proofs.Owners.{tested}
use Rattle.committed_log.proofs.Places.{last_acting_is, rank_of_index}
use Rattle.committed_log.proofs.Positions.{find_push, find_none, find_same, found_is, found_none}
use Rattle.committed_log.proofs.Pushed.{at_end}
use Rattle.committed_log.proofs.Ranks.{rank, rank_grows, same_number, no_entry}

-- ---- an entry without a fault acts on no region that is gone

module _ (regions : List (ℕ × Region)) (r q index : ℕ) (gone : region regions q ≡ Gone index) where
  first_is : (a : ℕ) → list_any (λ acted. acted == q) (a ∷ []) ≡ true → region regions a ≡ Gone index
  first_is a e = ap (region regions) (elim (or_either (a == q) false e) [ inl x ↦ same_number a q x | inr x ↦ absurd (true≢false (sym x)) ]) ∙ gone

  also_not_gone : (b : Body) → other_fault regions r b ≡ None → list_any (λ acted. acted == q) (also_acted b) ≡ true → ⊥
  also_not_gone (body.Split handle child) fine e = cc (sym (is_unborn_is (region regions child) (tested regions child is_unborn fine)) ∙ first_is child e)
  also_not_gone (body.Commit source) fine e = true≢false (sym (tested regions source (is_prepared_for r) fine) ∙ ap (is_prepared_for r) (first_is source e))
  also_not_gone (body.Prepare target) fine e = true≢false (sym e)
  also_not_gone body.Remove fine e = true≢false (sym e)
  also_not_gone (body.Write ops) fine e = true≢false (sym e)
  also_not_gone body.Empty fine e = true≢false (sym e)
  also_not_gone (body.Open conf_ver version low high) fine e = true≢false (sym e)
  also_not_gone (body.Install conf_ver version low high ops) fine e = true≢false (sym e)

pub acts_on_no_gone : (p : ℕ) (regions : List (ℕ × Region)) (e : Entry) → IsFine p regions e → (q index : ℕ) → acts_on q e ≡ true → region regions q ≡ Gone index → ⊥
acts_on_no_gone p regions e fine q index acts gone = elim (or_either (e.region == q) (list_any (λ acted. acted == q) (also_acted e.body)) acts) [
  | inl own ↦ no_entry p regions e fine (Gone index) (ap (region regions) (same_number e.region q own) ∙ gone) refl refl
  | inr also ↦ also_not_gone regions e.region q index gone e.body fine.other also
]

-- ---- states and their indexes

there_is : (s : Region) (i : ℕ) → is_there_at i s ≡ true → (range : HandleRange) × (range_of s ≡ Some range) × (index_of s ≡ Some i)
there_is Unborn i e = absurd (true≢false (sym e))
there_is (Gone index) i e = absurd (true≢false (sym e))
there_is (Live d) i e = (d.range, refl, ap (λ x. Some x) (same_number d.index i e))
there_is (Prepared d target) i e = (d.range, refl, ap (λ x. Some x) (same_number d.index i e))

rank_or : (s : Region) (i : ℕ) → has_index i s ≡ true → (rank s ≡ suc (i + i)) ⊎ (rank s ≡ suc (suc (i + i)))
rank_or Unborn i e = absurd (true≢false (sym e))
rank_or (Live d) i e = inl (ap (λ x. suc (x + x)) (same_number d.index i e))
rank_or (Prepared d target) i e = inl (ap (λ x. suc (x + x)) (same_number d.index i e))
rank_or (Gone index) i e = inr (ap (λ x. suc (suc (x + x))) (same_number index i e))

order : (a b : ℕ) → (a < b) ⊎ ((a ≡ b) ⊎ (b < a))
order a b = grind arith

itself : (i j : ℕ) → i ≡ j → (j == i) ≡ true
itself i j e = grind arith

same_index : (i j : ℕ) → (suc (j + j) ≡ suc (i + i)) ⊎ (suc (j + j) ≡ suc (suc (i + i))) → (j == i) ≡ true
same_index i j (inl e) = itself i j (elim (order i j) [ inl less ↦ absurd (omega (arith, e, less)) | inr rest ↦ elim rest [ inl same ↦ same | inr more ↦ absurd (omega (arith, e, more)) ] ])
same_index i j (inr e) = elim (order i j) [ inl less ↦ absurd (omega (arith, e, less)) | inr rest ↦ elim rest [ inl same ↦ absurd (omega (arith, e, same)) | inr more ↦ absurd (omega (arith, e, more)) ] ]

-- ---- bits

and_false : (a b : Bool) → (a ≡ true → b ≡ false) → (a && b) ≡ false
and_false true b h = h refl
and_false false b h = refl

is_less : (p q : ℕ) → nat_lt p q ≡ true → p < q
is_less p q e = grind arith

less_is : (p q : ℕ) → p < q → nat_lt p q ≡ true
less_is p q e = grind arith

or_none : (o : Option ℕ) → option_or o None ≡ o
or_none None = refl
or_none (Some x) = refl

pub get_last : {X : Type 0} (xs : List X) (x : X) → slice_get (xs ++ x ∷ []) (length xs) ≡ Some x
get_last [] x = refl
get_last (y ∷ ys) x = get_last ys x

-- the first after p, or one more
picks : (n : ℕ) (first : Option ℕ) (acts there : Bool) → (acts ≡ true → there ≡ true → first ≡ None) → (acts ≡ true → there ≡ false → first ≡ None → ⊥) → option_or first (cond acts (Some n) None) ≡ cond (acts && there) (Some n) first
picks n first false there fresh passed = or_none first
picks n first true true fresh passed = ap (λ o. option_or o (Some n)) (fresh refl refl)
picks n None true false fresh passed = absurd (passed refl refl refl)
picks n (Some x) true false fresh passed = refl

-- ---- along a lawful log

module _ (log : Log) (lawful : IsLawful log) (r i : ℕ) where
  -- the first after a place
  abbrev first_after : Option ℕ → Option ℕ
  first_after o = elim o [ None ↦ None | Some p ↦ find (λ q. nat_lt p q && acts_at log r q) (positions log) ]

  state_end : region_at log r (length log.entries) ≡ region (end log).regions r
  state_end = ap (λ (s : Store). region s.regions r) (at_end log)

  -- after the index that a region has at the end there is no next entry yet
  pub fresh : is_there_at i (region (end log).regions r) ≡ true → next_of log r i ≡ None
  fresh there =
      let is = there_is (region (end log).regions r) i there in
      let last = last_acting_is log lawful r (length log.entries) i is.0 (ap range_of state_end ∙ is.1) (ap index_of state_end ∙ is.2) in
      ap first_after last.is
      ∙ find_none (λ q. nat_lt last.place q && acts_at log r q) (length log.entries) (λ q less. and_false (nat_lt last.place q) (acts_at log r q) (λ e. last.later q (is_less last.place q e) less))

  pub placed : is_there_at i (region (end log).regions r) ≡ true → place log r i ≡ None → ⊥
  placed there none =
      let is = there_is (region (end log).regions r) i there in
      let last = last_acting_is log lawful r (length log.entries) i is.0 (ap range_of state_end ∙ is.1) (ap index_of state_end ∙ is.2) in
      cc (sym none ∙ last.is)

  -- after another index that it had there is one
  module _ (p : ℕ) (is : place log r i ≡ Some p) (there : is_there_at i (region (end log).regions r) ≡ false) (none : find (λ q. nat_lt p q && acts_at log r q) (positions log) ≡ None) where
    module _ (d : ℕ) (range : HandleRange) (has : range_of (region_at log r (length log.entries)) ≡ Some range) (index : index_of (region_at log r (length log.entries)) ≡ Some d) (high : rank (region_at log r (length log.entries)) ≡ suc (d + d)) where
      last : IsLastActing log r (length log.entries) d
      last = last_acting_is log lawful r (length log.entries) d range has index

      later_of : (d == i) ≡ true
      later_of = by (before_or last.place p)
        where
          before_or : (q p : ℕ) → (p < q) ⊎ (q ≤ p)
          before_or q p = grind arith

          both_is : (a b : Bool) → a ≡ true → b ≡ true → (a && b) ≡ true
          both_is true true x y = refl
          both_is true false x y = y
          both_is false b x y = x

          by : (p < last.place) ⊎ (last.place ≤ p) → (d == i) ≡ true
          by (inl after) = absurd (true≢false (sym (both_is (nat_lt p last.place) (acts_at log r last.place) (less_is p last.place after) last.acts) ∙ found_none (λ q. nat_lt p q && acts_at log r q) (length log.entries) none last.place last.below))
          by (inr before) =
              let least = found_is (λ q. has_index i (left_at log r q)) (length log.entries) p is in
              let at_place : rank (left_at log r last.place) ≡ suc (d + d) = ap rank last.left ∙ high in
              let up = rank_grows log lawful r (suc last.place) (suc p) (omega (arith, before)) in
              let on = rank_grows log lawful r (suc p) (length log.entries) (omega (arith, least.below)) in
              let here : rank (left_at log r p) ≡ suc (d + d) = omega (arith, at_place, up, on, high) in
              same_index i d (elim (rank_or (left_at log r p) i least.passes) [ inl e ↦ inl (sym here ∙ e) | inr e ↦ inr (sym here ∙ e) ])

    passed : (e : Entry) → IsFine (length log.entries) (end log).regions e → acts_on r e ≡ true → ⊥
    passed e fine acts = by (region (end log).regions r) refl there
      where
        by : (s : Region) → region (end log).regions r ≡ s → is_there_at i s ≡ false → ⊥
        by Unborn state out =
            let least = found_is (λ q. has_index i (left_at log r q)) (length log.entries) p is in
            let low = rank_of_index (left_at log r p) i least.passes in
            let on = rank_grows log lawful r (suc p) (length log.entries) (omega (arith, least.below)) in
            let zero_rank = ap rank (state_end ∙ state) in
            omega (arith, low, on, zero_rank)
        by (Gone index) state out = acts_on_no_gone (length log.entries) (end log).regions e fine r index acts state
        by (Live d) state out = true≢false (sym (later_of d.index d.range (ap range_of (state_end ∙ state)) (ap index_of (state_end ∙ state)) (ap rank (state_end ∙ state))) ∙ out)
        by (Prepared d target) state out = true≢false (sym (later_of d.index d.range (ap range_of (state_end ∙ state)) (ap index_of (state_end ∙ state)) (ap rank (state_end ∙ state))) ∙ out)

  module _ (e : Entry) (fine : IsFine (length log.entries) (end log).regions e) where
    one_more : length (log.entries ++ e ∷ []) ≡ suc (length log.entries)
    one_more = omega (arith, length-append log.entries (e ∷ []))

    find_pushed : (t : ℕ → Bool) → find t (positions (pushed log e)) ≡ option_or (find t (positions log)) (cond (t (length log.entries)) (Some (length log.entries)) None)
    find_pushed t = ap (λ m. find t (first_numbers m)) one_more ∙ find_push t (positions log) (length log.entries)

    acts_new : acts_at (pushed log e) r (length log.entries) ≡ acts_on r e
    acts_new = ap (λ o. elim o [ None ↦ false | Some x ↦ acts_on r x ]) (get_last log.entries e)

    -- the first after a place
    abbrev after : Option ℕ → Option ℕ
    after o = elim o [ None ↦ None | Some p ↦ find (λ q. nat_lt p q && acts_at (pushed log e) r q) (positions (pushed log e)) ]

    -- an index that the log hasn't given
    place_new : place log r i ≡ None → next_of (pushed log e) r i ≡ None
    place_new none = ap after at_most ∙ by (has_index i (left_at (pushed log e) r (length log.entries)))
      where
        at_most : place (pushed log e) r i ≡ cond (has_index i (left_at (pushed log e) r (length log.entries))) (Some (length log.entries)) None
        at_most = find_pushed (λ p. has_index i (left_at (pushed log e) r p))
            ∙ ap (λ o. option_or o (cond (has_index i (left_at (pushed log e) r (length log.entries))) (Some (length log.entries)) None))
            (find_same (λ p. has_index i (left_at (pushed log e) r p)) (λ p. has_index i (left_at log r p)) (length log.entries) (λ q less. ap (has_index i) (left_same log (e ∷ []) r q less)) ∙ none)

        by : (b : Bool) → after (cond b (Some (length log.entries)) None) ≡ None
        by false = refl
        by true = find_none (λ q. nat_lt (length log.entries) q && acts_at (pushed log e) r q) (length (log.entries ++ e ∷ []))
            (λ q less. and_false (nat_lt (length log.entries) q) (acts_at (pushed log e) r q) (λ more. let high = is_less (length log.entries) q more in absurd (omega (arith, less, one_more, high))))

    -- one that it has
    place_old : (p : ℕ) → place log r i ≡ Some p → next_of (pushed log e) r i ≡ option_or (find (λ q. nat_lt p q && acts_at log r q) (positions log)) (cond (acts_on r e) (Some (length log.entries)) None)
    place_old p is = ap after (place_same log (e ∷ []) r i p is)
        ∙ find_pushed (λ q. nat_lt p q && acts_at (pushed log e) r q)
        ∙ (λ j. option_or (old j) (cond (new j) (Some (length log.entries)) None))
      where
        old : find (λ q. nat_lt p q && acts_at (pushed log e) r q) (positions log) ≡ find (λ q. nat_lt p q && acts_at log r q) (positions log)
        old = find_same (λ q. nat_lt p q && acts_at (pushed log e) r q) (λ q. nat_lt p q && acts_at log r q) (length log.entries) (λ q less. ap (λ b. nat_lt p q && b) (entry_same log (e ∷ []) (acts_on r) q less))

        new : (nat_lt p (length log.entries) && acts_at (pushed log e) r (length log.entries)) ≡ acts_on r e
        new = ap (λ b. b && acts_at (pushed log e) r (length log.entries)) (less_is p (length log.entries) (found_is (λ q. has_index i (left_at log r q)) (length log.entries) p is).below) ∙ acts_new

    -- the entry is the next one of each region that it acts on, after the index that the region has
    pub next_push : next_of (pushed log e) r i ≡ cond (goes_on (end log).regions e r i) (Some (length log.entries)) (next_of log r i)
    next_push = by (place log r i) refl
      where
        by : (o : Option ℕ) → place log r i ≡ o → next_of (pushed log e) r i ≡ cond (goes_on (end log).regions e r i) (Some (length log.entries)) (next_of log r i)
        by None is = place_new is ∙ sym (ap (λ b. cond b (Some (length log.entries)) (next_of log r i)) (none_goes (goes_on (end log).regions e r i) refl) ∙ ap first_after is)
          where
            none_goes : (b : Bool) → goes_on (end log).regions e r i ≡ b → goes_on (end log).regions e r i ≡ false
            none_goes false g = g
            none_goes true g = absurd (placed (both_true (acts_on r e) (is_there_at i (region (end log).regions r)) g).1 is)
        by (Some p) is =
            let next = ap first_after is in
            place_old p is
            ∙ picks (length log.entries) (find (λ q. nat_lt p q && acts_at log r q) (positions log)) (acts_on r e) (is_there_at i (region (end log).regions r))
            (λ acts there. sym next ∙ fresh there) (λ acts there none. passed p is there none e fine acts)
            ∙ ap (λ o. cond (goes_on (end log).regions e r i) (Some (length log.entries)) o) (sym next)
