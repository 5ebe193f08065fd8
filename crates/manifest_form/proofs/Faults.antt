-- How the count of faults changes with a segment, and where it stands among the entries.
use Rattle.std.proofs.Common.{◌≡◌, ◌∙◌, refl, sym, ap, subst, ℕ, ℤ, ◌+◌, zero-add, Bool, true, false, cond, eqb, List, [], ◌∷◌, ◌++◌, Option, Some, None, arith}
use Rattle.std.specs.Prelude.{not, ◌&&◌, IfSome}
use Rattle.std.specs.declared.cmp.Ordering.{Ordering}
use Rattle.std.specs.declared.cmp.Ordering.TheVariants.{Less, Equal, Greater}
use Rattle.std.specs.Ordering.{int_eq, is_eq, is_le, is_lt, match_ordering}
use Rattle.std.specs.BTreeMap.{is_at, insert_entry}
use Rattle.std.specs.Map.{keys_of, values_of, lookup, remove_entry}
use Rattle.std.proofs.lemmas.Map.Keys.{sorted_head, sorted_tail}
use Rattle.flash_types.specs.declared.range.HandleRange.{HandleRange}
use Rattle.manifest_form.specs.declared.state.StoredSegment.{StoredSegment}
use Rattle.manifest_form.specs.States.{cover_from, has_any, placed, without}
use Rattle.manifest_form.specs.Slots.{place_cmp, somes, present, Fits, AllFit, has_id, range_of}
use Rattle.manifest_form.specs.Counting.{fault_at, next_fault, faults, end_from, first_range, before, behind}
use Rattle.manifest_form.proofs.Slotting.{Sorted, Above, place_exact, same_place, above_above, taken_out, put_in}

-- ---- faults

abbrev inner : Option ℤ → List StoredSegment → ℕ
inner from [] = 0
inner from (s ∷ ss) = fault_at from s.range + inner s.range.high ss

abbrev rest_faults : List StoredSegment → ℕ
rest_faults [] = 0
rest_faults (s ∷ ss) = faults s.range.high ss

faults_append : (from : Option ℤ) (xs ys : List StoredSegment) → faults from (xs ++ ys) ≡ inner from xs + faults (end_from from xs) ys
faults_append from [] ys = sym (zero-add _)
faults_append from (x ∷ xs) ys = omega (arith, faults_append x.range.high xs ys)

faults_first : (from : Option ℤ) (ys : List StoredSegment) → faults from ys ≡ next_fault from (first_range ys) + rest_faults ys
faults_first from [] = omega arith
faults_first from (y ∷ ys) = refl

-- with a segment between two parts, and without it
pub one_more : (from : Option ℤ) (xs ys : List StoredSegment) (s : StoredSegment) → faults from (xs ++ s ∷ ys) + next_fault (end_from from xs) (first_range ys) ≡ faults from (xs ++ ys) + (fault_at (end_from from xs) s.range + next_fault s.range.high (first_range ys))
one_more from xs ys s = omega (arith, faults_append from xs (s ∷ ys), faults_append from xs ys, faults_first (end_from from xs) ys, faults_first s.range.high ys)

no_fault : (b : Bool) → ◌≡◌ {A = ℕ} (cond b 0 1) 0 → b ≡ true
no_fault true none = refl
no_fault false none = absurd (cc none)

pub covered : (from : Option ℤ) (ss : List StoredSegment) → faults from ss ≡ 0 → cover_from from ss ≡ true
covered None [] none = refl
covered (Some low) [] none = absurd (cc none)
covered None (s ∷ ss) none = let n = none in absurd (omega (arith, n))
covered (Some low) (s ∷ ss) none =
    let here : fault_at (Some low) s.range ≡ 0 = omega (arith, none) in
    let rest : faults s.range.high ss ≡ 0 = omega (arith, none) in
    both (int_eq s.range.low low) (has_any s.range) (cover_from s.range.high ss) (no_fault (int_eq s.range.low low && has_any s.range) here) (covered s.range.high ss rest)
  where
    both : (a b t : Bool) → (a && b) ≡ true → t ≡ true → (a && (b && t)) ≡ true
    both true true t is rest = rest
    both true false t is rest = absurd (cc is)
    both false b t is rest = absurd (cc is)

-- ---- where a place stands

none_before : (p : ℤ × ℕ) (es : List ((ℤ × ℕ) × Option StoredSegment)) → Above p es → before p es ≡ []
none_before p [] above = refl
none_before p (e ∷ es) above = rw above.0 (none_before p es above.1)

all_behind : (p : ℤ × ℕ) (es : List ((ℤ × ℕ) × Option StoredSegment)) → Above p es → behind p es ≡ es
all_behind p [] above = refl
all_behind p (e ∷ es) above = rw above.0 (ap (λ (xs : List ((ℤ × ℕ) × Option StoredSegment)). e ∷ xs) (all_behind p es above.1))

none_at : (p : ℤ × ℕ) (es : List ((ℤ × ℕ) × Option StoredSegment)) → Above p es → lookup (is_at (place_cmp p)) es ≡ None
none_at p [] above = refl
none_at p (e ∷ es) above = rw above.0 (none_at p es above.1)

-- what stands in a slot, if there is one
abbrev pub held : Option (Option StoredSegment) → List StoredSegment
held None = []
held (Some slot) = somes (slot ∷ [])

push : (slot : Option StoredSegment) (xs ys zs : List StoredSegment) → xs ≡ ys ++ zs → somes (slot ∷ []) ++ xs ≡ (somes (slot ∷ []) ++ ys) ++ zs
push None xs ys zs is = is
push (Some s) xs ys zs is = ap (λ (l : List StoredSegment). s ∷ l) is

one_slot : (slot : Option StoredSegment) (es : List ((ℤ × ℕ) × Option StoredSegment)) → somes (slot ∷ values_of es) ≡ somes (slot ∷ []) ++ present es
one_slot None es = refl
one_slot (Some s) es = refl

pub parts : (p : ℤ × ℕ) (es : List ((ℤ × ℕ) × Option StoredSegment)) → Sorted es → present es ≡ present (before p es) ++ (held (lookup (is_at (place_cmp p)) es) ++ present (behind p es))
parts p [] sorted = refl
parts p ((q, slot) ∷ es) sorted = by (parts p es (sorted_tail place_cmp q (keys_of es) sorted)) (place_cmp p q) refl slot
  where
    by : present es ≡ present (before p es) ++ (held (lookup (is_at (place_cmp p)) es) ++ present (behind p es)) → (o : Ordering) → place_cmp p q ≡ o → (slot : Option StoredSegment) → somes (slot ∷ values_of es) ≡ present (cond (true && not (is_le o)) ((q, slot) ∷ before p es) (before p es)) ++ (held (cond (is_eq o) (Some slot) (lookup (is_at (place_cmp p)) es)) ++ present (cond (is_lt o && not false) ((q, slot) ∷ behind p es) (behind p es)))
    by again Less is slot = let above = above_above p q es is (sorted_head place_cmp q (keys_of es) sorted) in rw (none_before p es above, none_at p es above, all_behind p es above) refl
    by again Equal is slot = let above = subst (λ (x : ℤ × ℕ). Above x es) (sym (place_exact p q is)) (sorted_head place_cmp q (keys_of es) sorted) in rw (none_before p es above, all_behind p es above) (one_slot slot es)
    by again Greater is None = again
    by again Greater is (Some s) = ap (λ (xs : List StoredSegment). s ∷ xs) again

absent_removed : (p : ℤ × ℕ) (es : List ((ℤ × ℕ) × Option StoredSegment)) → Above p es → remove_entry (is_at (place_cmp p)) es ≡ es
absent_removed p [] above = refl
absent_removed p (e ∷ es) above = rw above.0 (ap (λ (xs : List ((ℤ × ℕ) × Option StoredSegment)). e ∷ xs) (absent_removed p es above.1))

pub removed : (p : ℤ × ℕ) (es : List ((ℤ × ℕ) × Option StoredSegment)) → Sorted es → present (remove_entry (is_at (place_cmp p)) es) ≡ present (before p es) ++ present (behind p es)
removed p [] sorted = refl
removed p ((q, slot) ∷ es) sorted = by (removed p es (sorted_tail place_cmp q (keys_of es) sorted)) (place_cmp p q) refl slot
  where
    by : present (remove_entry (is_at (place_cmp p)) es) ≡ present (before p es) ++ present (behind p es) → (o : Ordering) → place_cmp p q ≡ o → (slot : Option StoredSegment) → present (cond (is_eq o) es ((q, slot) ∷ remove_entry (is_at (place_cmp p)) es)) ≡ present (cond (true && not (is_le o)) ((q, slot) ∷ before p es) (before p es)) ++ present (cond (is_lt o && not false) ((q, slot) ∷ behind p es) (behind p es))
    by again Less is slot = let above = above_above p q es is (sorted_head place_cmp q (keys_of es) sorted) in rw (none_before p es above, all_behind p es above, absent_removed p es above) refl
    by again Equal is slot = let above = subst (λ (x : ℤ × ℕ). Above x es) (sym (place_exact p q is)) (sorted_head place_cmp q (keys_of es) sorted) in rw (none_before p es above, all_behind p es above) refl
    by again Greater is None = again
    by again Greater is (Some s) = ap (λ (xs : List StoredSegment). s ∷ xs) again

pub inserted : (p : ℤ × ℕ) (s : StoredSegment) (es : List ((ℤ × ℕ) × Option StoredSegment)) → Sorted es → present (insert_entry place_cmp es p (Some s)) ≡ present (before p es) ++ s ∷ present (behind p es)
inserted p s [] sorted = refl
inserted p s ((q, slot) ∷ es) sorted = by (inserted p s es (sorted_tail place_cmp q (keys_of es) sorted)) (place_cmp p q) refl slot
  where
    by : present (insert_entry place_cmp es p (Some s)) ≡ present (before p es) ++ s ∷ present (behind p es) → (o : Ordering) → place_cmp p q ≡ o → (slot : Option StoredSegment) → present (match_ordering o ((p, Some s) ∷ (q, slot) ∷ es) ((q, Some s) ∷ es) ((q, slot) ∷ insert_entry place_cmp es p (Some s))) ≡ present (cond (true && not (is_le o)) ((q, slot) ∷ before p es) (before p es)) ++ s ∷ present (cond (is_lt o && not false) ((q, slot) ∷ behind p es) (behind p es))
    by again Less is slot = let above = above_above p q es is (sorted_head place_cmp q (keys_of es) sorted) in rw (none_before p es above, all_behind p es above) refl
    by again Equal is slot = let above = subst (λ (x : ℤ × ℕ). Above x es) (sym (place_exact p q is)) (sorted_head place_cmp q (keys_of es) sorted) in rw (none_before p es above, all_behind p es above) refl
    by again Greater is None = again
    by again Greater is (Some other) = ap (λ (xs : List StoredSegment). other ∷ xs) again

-- ---- the last entry before a place

pub end_last : (from : Option ℤ) (t : List ((ℤ × ℕ) × Option StoredSegment)) (q : ℤ × ℕ) (s : StoredSegment) → end_from from (present (t ++ (q, Some s) ∷ [])) ≡ s.range.high
end_last from [] q s = refl
end_last from ((p, None) ∷ t) q s = end_last from t q s
end_last from ((p, Some x) ∷ t) q s = end_last x.range.high t q s

-- ---- a segment that goes or comes

range_there : (id : ℕ) (range : HandleRange) (o : Option (Option StoredSegment)) → range_of id o ≡ Some range → (s : StoredSegment) × (o ≡ Some (Some s)) × (has_id id o ≡ true) × (s.range ≡ range)
range_there id range None is = absurd (cc is)
range_there id range (Some None) is = absurd (cc is)
range_there id range (Some (Some s)) is = by (eqb s.id id) refl is
  where
    by : (b : Bool) → eqb s.id id ≡ b → cond b (Some s.range) None ≡ Some range → (t : StoredSegment) × (Some (Some s) ≡ Some (Some t)) × (eqb s.id id ≡ true) × (t.range ≡ range)
    by true at is = (s, refl, at, some_is s.range range is)
      where
        some_is : (a b : HandleRange) → Some a ≡ Some b → a ≡ b
        some_is a b is = cc is
    by false at is = absurd (cc is)

pub range_none : (id : ℕ) (o : Option (Option StoredSegment)) → range_of id o ≡ None → has_id id o ≡ false
range_none id None is = refl
range_none id (Some None) is = refl
range_none id (Some (Some s)) is = by (eqb s.id id) is
  where
    by : (b : Bool) → cond b (Some s.range) None ≡ None → b ≡ false
    by true is = absurd (cc is)
    by false is = refl

pub loss_is : (found : ℕ → Option (ℤ × ℕ)) (turn id : ℕ) (p : ℤ × ℕ) (es : List ((ℤ × ℕ) × Option StoredSegment)) (range : HandleRange) (from : Option ℤ) → Sorted es → AllFit found turn es → found id ≡ Some p → range_of id (lookup (is_at (place_cmp p)) es) ≡ Some range
    → faults from (present es) + next_fault (end_from from (present (before p es))) (first_range (present (behind p es))) ≡ faults from (without id (present es)) + (fault_at (end_from from (present (before p es))) range + next_fault range.high (first_range (present (behind p es))))
loss_is found turn id p es range from sorted fits known is =
    let there = range_there id range (lookup (is_at (place_cmp p)) es) is in
    let s = there.0 in
    let old : present es ≡ present (before p es) ++ s ∷ present (behind p es) = parts p es sorted ∙ ap (λ (o : Option (Option StoredSegment)). present (before p es) ++ (held o ++ present (behind p es))) there.1 in
    let new : without id (present es) ≡ present (before p es) ++ present (behind p es) = sym (taken_out found turn id p es sorted fits known there.2) ∙ removed p es sorted in
    let more = one_more from (present (before p es)) (present (behind p es)) s in
    subst (λ (r : HandleRange). faults from (present es) + next_fault (end_from from (present (before p es))) (first_range (present (behind p es))) ≡ faults from (without id (present es)) + (fault_at (end_from from (present (before p es))) r + next_fault r.high (first_range (present (behind p es))))) there.3 (rw (new, old) more)

vacant_at : (found : ℕ → Option (ℤ × ℕ)) (turn : ℕ) (p : ℤ × ℕ) (es : List ((ℤ × ℕ) × Option StoredSegment)) → AllFit found turn es → p.1 ≡ turn → held (lookup (is_at (place_cmp p)) es) ≡ []
vacant_at found turn p [] fits at = refl
vacant_at found turn p ((q, slot) ∷ es) fits at = by (vacant_at found turn p es fits.1 at) (is_at (place_cmp p) q) refl slot fits
  where
    by : held (lookup (is_at (place_cmp p)) es) ≡ [] → (b : Bool) → is_at (place_cmp p) q ≡ b → (slot : Option StoredSegment) → Fits found turn (q, slot) × AllFit found turn es → held (cond b (Some slot) (lookup (is_at (place_cmp p)) es)) ≡ []
    by again true here None fits = refl
    by again true here (Some s) fits = let e : p.1 ≡ q.1 = ap (λ (x : ℤ × ℕ). x.1) (same_place p q here) in let b = fits.0.1 in absurd (omega (arith, e, b, at))
    by again false here slot fits = again

pub gain_is : (found : ℕ → Option (ℤ × ℕ)) (turn : ℕ) (p : ℤ × ℕ) (s : StoredSegment) (es : List ((ℤ × ℕ) × Option StoredSegment)) (from : Option ℤ) → Sorted es → AllFit found turn es → s.range.low ≡ p.0 → p.1 ≡ turn
    → faults from (present es) + (fault_at (end_from from (present (before p es))) s.range + next_fault s.range.high (first_range (present (behind p es)))) ≡ faults from (placed s (present es)) + next_fault (end_from from (present (before p es))) (first_range (present (behind p es)))
gain_is found turn p s es from sorted fits low at =
    let old : present es ≡ present (before p es) ++ present (behind p es) = parts p es sorted ∙ ap (λ (xs : List StoredSegment). present (before p es) ++ (xs ++ present (behind p es))) (vacant_at found turn p es fits at) in
    let new : placed s (present es) ≡ present (before p es) ++ s ∷ present (behind p es) = sym (put_in found turn p s es sorted fits low at) ∙ inserted p s es sorted in
    let more = one_more from (present (before p es)) (present (behind p es)) s in
    rw (new, old) (sym more)

-- ---- where it is known

pub if_some : (r : Option (ℕ × ℕ)) (old new a b : ℕ) → IfSome r (λ n. n.0 ≡ a) → IfSome r (λ n. n.1 ≡ b) → old + a ≡ new + b → IfSome r (λ n. old + n.0 ≡ new + n.1)
if_some None old new a b one two is = tt
if_some (Some n) old new a b one two is = omega (arith, one, two, is)

pub if_some_other : (r : Option (ℕ × ℕ)) (old new a b : ℕ) → IfSome r (λ n. n.0 ≡ a) → IfSome r (λ n. n.1 ≡ b) → old + b ≡ new + a → IfSome r (λ n. old + n.1 ≡ new + n.0)
if_some_other None old new a b one two is = tt
if_some_other (Some n) old new a b one two is = omega (arith, one, two, is)
