-- Which numbers the edits of a change name.
use Rattle.std.proofs.Common.{◌≡◌, ◌≢◌, ◌⊎◌, inl, inr, ℕ, suc, ◌<◌, Bool, true, false, cond, List, [], ◌∷◌, ◌++◌, length, map, get_or, Some, None, refl, sym, ap, arith}
use Rattle.std.specs.Prelude.{◌==◌, ◌||◌}
use Rattle.std.specs.List.{AllByRecursion, cons_option, filter_map, list_all}
use Rattle.std.proofs.lemmas.Bool.Decides.{nat_tests}
use Rattle.manifest_form.specs.declared.state.Edit.{Edit}
use Rattle.manifest_form.specs.declared.state.Edit.TheVariants as edit
use Rattle.manifest_form.specs.declared.state.State.{State}
use Rattle.manifest_form.specs.declared.state.StoredSegment.{StoredSegment}
use Rattle.manifest_form.specs.States.{all_done, done, segment_below, with_segments}
use Rattle.manifest_form.specs.Whole.{HasNone}
use Rattle.manifest_laws.specs.Changes.{EachBelow, EachFree, EachGoes, HasId, IsAmong, IsOther, PutOnce, ids_of, put_by}
use Rattle.manifest_laws.proofs.Facts.{and_both}
use Rattle.segment_list.specs.Lists.{NumbersDiffer}
use Rattle.segment_list.specs.Slots.{Slotted}
use Rattle.segment_flush.specs.Flushing.{segment_edits}
use Rattle.segment_flush.specs.Names.{stored_of}
use Rattle.install_edits.specs.Edits.{drop_of, has_number}

-- ---- lists of segments

none_join : (id : ℕ) (xs ys : List StoredSegment) → HasNone id xs → HasNone id ys → HasNone id (xs ++ ys)
none_join id [] ys a b = b
none_join id (x ∷ xs) ys a b = (a.0, none_join id xs ys a.1 b)

pub none_in_three : (id : ℕ) (xs ys zs : List StoredSegment) → HasNone id xs → HasNone id ys → HasNone id zs → HasNone id (xs ++ (ys ++ zs))
none_in_three id xs ys zs a b c = none_join id xs (ys ++ zs) a (none_join id ys zs b c)

more_go : (ids : List ℕ) (id : ℕ) (xs : List StoredSegment) → EachGoes ids xs → EachGoes (id ∷ ids) xs
more_go ids id [] all = tt
more_go ids id (x ∷ xs) all = (inr all.0, more_go ids id xs all.1)

same_number : (a b : ℕ) → (a == b) ≡ true → a ≡ b
same_number a b h = grind (arith, nat_tests)

other_number : (a b : ℕ) → (a == b) ≡ false → a ≢ b
other_number a b h e = absurd (grind (arith, nat_tests, h, e))

module _ {G : Type 0} where
  -- ---- those that are put

  pub all_put : (ns : List (Slotted G)) → put_by (segment_edits (map stored_of ns)) ≡ map stored_of ns
  all_put [] = refl
  all_put (n ∷ ns) = ap (λ (r : List StoredSegment). stored_of n ∷ r) (all_put ns)

  other_than : (id : ℕ) (ns : List (Slotted G)) → ((j : ℕ) (d : Slotted G) → j < length ns → id ≢ (get_or ns j d).id) → IsOther id (ids_of (segment_edits (map stored_of ns)))
  other_than id [] out = tt
  other_than id (n ∷ ns) out = (out 0 n (omega arith), other_than id ns (λ j d lt. out (suc j) d (omega (arith, lt))))

  pub put_once : (ns : List (Slotted G)) → NumbersDiffer ns → PutOnce (segment_edits (map stored_of ns))
  put_once [] differ = tt
  put_once (n ∷ ns) differ = (other_than n.id ns (λ j d lt. differ 0 (suc j) d (omega arith) (omega (arith, lt))), put_once ns (λ i j d less lt. differ (suc i) (suc j) d (omega (arith, less)) (omega (arith, lt))))

  pub puts_below : (next : ℕ) (ns : List (Slotted G)) → list_all (segment_below next) (map stored_of ns) ≡ true → EachBelow next (segment_edits (map stored_of ns))
  puts_below next [] h = tt
  puts_below next (n ∷ ns) h = let b = and_both (segment_below next (stored_of n)) (list_all (segment_below next) (map stored_of ns)) h in (b.0, puts_below next ns b.1)

  put_among : (id : ℕ) (ns : List (Slotted G)) → has_number id ns ≡ true → IsAmong id (ids_of (segment_edits (map stored_of ns)))
  put_among id [] h = absurd (cc h)
  put_among id (n ∷ ns) h = by (n.id == id) refl h (λ rest. put_among id ns rest)
    where
      by : (t : Bool) → (n.id == id) ≡ t → (t || has_number id ns) ≡ true → (has_number id ns ≡ true → IsAmong id (ids_of (segment_edits (map stored_of ns)))) → IsAmong id (n.id ∷ ids_of (segment_edits (map stored_of ns)))
      by true e h rest = inl (sym (same_number n.id id e))
      by false e h rest = inr (rest h)

  pub puts_free : (all os : List StoredSegment) (ns : List (Slotted G)) → AllByRecursion (λ (n : Slotted G). HasId n.id os ⊎ HasNone n.id all) ns → EachFree all os (ids_of (segment_edits (map stored_of ns)))
  puts_free all os [] each = tt
  puts_free all os (n ∷ ns) each = (each.0, puts_free all os ns each.1)

  pub puts_state : (s : State) (ns : List (Slotted G)) → all_done s (segment_edits (map stored_of ns)) ≡ with_segments s (all_done s (segment_edits (map stored_of ns))).segments
  puts_state s [] = refl
  puts_state s (n ∷ ns) = puts_state (done s (edit.Segment (stored_of n))) ns

  -- ---- which of the old ones have a number

  pub found_or_none : (id : ℕ) (xs : List (Slotted G)) → HasId id (map stored_of xs) ⊎ HasNone id (map stored_of xs)
  found_or_none id [] = inr tt
  found_or_none id (x ∷ xs) = by (x.id == id) refl (found_or_none id xs)
    where
      by : (t : Bool) → (x.id == id) ≡ t → HasId id (map stored_of xs) ⊎ HasNone id (map stored_of xs) → HasId id (map stored_of (x ∷ xs)) ⊎ HasNone id (map stored_of (x ∷ xs))
      by true e rest = inl (inl (same_number x.id id e))
      by false e (inl has) = inl (inr has)
      by false e (inr none) = inr (other_number x.id id e, none)

  none_of : (id : ℕ) (xs : List (Slotted G)) → ((i : ℕ) (d : Slotted G) → i < length xs → (get_or xs i d).id ≢ id) → HasNone id (map stored_of xs)
  none_of id [] out = tt
  none_of id (x ∷ xs) out = (out 0 x (omega arith), none_of id xs (λ i d lt. out (suc i) d (omega (arith, lt))))

  pub each_none : (xs ns : List (Slotted G)) → ((i j : ℕ) (d : Slotted G) → i < length xs → j < length ns → (get_or xs i d).id ≢ (get_or ns j d).id) → AllByRecursion (λ (n : Slotted G). HasNone n.id (map stored_of xs)) ns
  each_none xs [] out = tt
  each_none xs (n ∷ ns) out = (none_of n.id xs (λ i d lt. out i 0 d lt (omega arith)), each_none xs ns (λ i j d a b. out i (suc j) d a (omega (arith, b))))

  pub each_has : (os : List (Slotted G)) → AllByRecursion (λ (o : Slotted G). HasId o.id (map stored_of os)) os
  each_has [] = tt
  each_has (o ∷ os) = (inl refl, behind os (each_has os))
    where
      behind : (xs : List (Slotted G)) → AllByRecursion (λ (x : Slotted G). HasId x.id (map stored_of os)) xs → AllByRecursion (λ (x : Slotted G). HasId x.id (map stored_of (o ∷ os))) xs
      behind [] all = tt
      behind (x ∷ xs) all = (inr all.0, behind xs all.1)

  -- ---- those that are dropped, before edits

  module _ (news : List (Slotted G)) (puts : List Edit) where
    abbrev after_drops : List (Slotted G) → List Edit
    after_drops olds = filter_map (drop_of news) olds ++ puts

    -- the first of them by a test
    abbrev first_drop : Bool → ℕ → List (Slotted G) → List Edit
    first_drop t id olds = cons_option (cond t None (Some (edit.Drop id))) (filter_map (drop_of news) olds) ++ puts

    pub drops_put : (olds : List (Slotted G)) → put_by (after_drops olds) ≡ put_by puts
    drops_put [] = refl
    drops_put (o ∷ os) = by (has_number o.id news) (drops_put os)
      where
        by : (t : Bool) → put_by (after_drops os) ≡ put_by puts → put_by (first_drop t o.id os) ≡ put_by puts
        by true rest = rest
        by false rest = rest

    pub drops_once : PutOnce puts → (olds : List (Slotted G)) → PutOnce (after_drops olds)
    drops_once once [] = once
    drops_once once (o ∷ os) = by (has_number o.id news) (drops_once once os)
      where
        by : (t : Bool) → PutOnce (after_drops os) → PutOnce (first_drop t o.id os)
        by true rest = rest
        by false rest = rest

    pub drops_below : (next : ℕ) → EachBelow next puts → (olds : List (Slotted G)) → EachBelow next (after_drops olds)
    drops_below next below [] = below
    drops_below next below (o ∷ os) = by (has_number o.id news) (drops_below next below os)
      where
        by : (t : Bool) → EachBelow next (after_drops os) → EachBelow next (first_drop t o.id os)
        by true rest = rest
        by false rest = (tt, rest)

    pub drops_free : (all os : List StoredSegment) → EachFree all os (ids_of puts) → (olds : List (Slotted G)) → AllByRecursion (λ (o : Slotted G). HasId o.id os) olds → EachFree all os (ids_of (after_drops olds))
    drops_free all os free [] has = free
    drops_free all os free (x ∷ xs) has = by (has_number x.id news) (drops_free all os free xs has.1)
      where
        by : (t : Bool) → EachFree all os (ids_of (after_drops xs)) → EachFree all os (ids_of (first_drop t x.id xs))
        by true rest = rest
        by false rest = (inl has.0, rest)

    among_behind : (id : ℕ) → IsAmong id (ids_of puts) → (olds : List (Slotted G)) → IsAmong id (ids_of (after_drops olds))
    among_behind id is [] = is
    among_behind id is (o ∷ os) = by (has_number o.id news) (among_behind id is os)
      where
        by : (t : Bool) → IsAmong id (ids_of (after_drops os)) → IsAmong id (ids_of (first_drop t o.id os))
        by true rest = rest
        by false rest = inr rest

    drops_go : ((id : ℕ) → has_number id news ≡ true → IsAmong id (ids_of puts)) → (olds : List (Slotted G)) → EachGoes (ids_of (after_drops olds)) (map stored_of olds)
    drops_go put [] = tt
    drops_go put (o ∷ os) = by (has_number o.id news) refl (drops_go put os)
      where
        by : (t : Bool) → has_number o.id news ≡ t → EachGoes (ids_of (after_drops os)) (map stored_of os) → EachGoes (ids_of (first_drop t o.id os)) (map stored_of (o ∷ os))
        by true e rest = (among_behind o.id (put o.id e) os, rest)
        by false e rest = (inl refl, more_go (ids_of (after_drops os)) o.id (map stored_of os) rest)

    pub drops_state : ((s : State) → all_done s puts ≡ with_segments s (all_done s puts).segments) → (olds : List (Slotted G)) (s : State) → all_done s (after_drops olds) ≡ with_segments s (all_done s (after_drops olds)).segments
    drops_state last [] s = last s
    drops_state last (o ∷ os) s = by (has_number o.id news) (λ z. drops_state last os z)
      where
        by : (t : Bool) → ((z : State) → all_done z (after_drops os) ≡ with_segments z (all_done z (after_drops os)).segments) → all_done s (first_drop t o.id os) ≡ with_segments s (all_done s (first_drop t o.id os)).segments
        by true rest = rest s
        by false rest = rest (done s (edit.Drop o.id))

  pub all_go : (news olds : List (Slotted G)) → EachGoes (ids_of (filter_map (drop_of news) olds ++ segment_edits (map stored_of news))) (map stored_of olds)
  all_go news olds = drops_go news (segment_edits (map stored_of news)) (λ id h. put_among id news h) olds
