-- Runs of segments, and the cover of all handles.
use Rattle.std.proofs.Common.{◌≡◌, ℤ, true, List, [], ◌∷◌, ◌++◌, Option, Some, None, refl, sym, ap, subst}
use Rattle.std.specs.Prelude.{int_lt, ◌&&◌}
use Rattle.std.specs.Ordering.{int_eq}
use Rattle.manifest_form.specs.declared.state.StoredSegment.{StoredSegment}
use Rattle.flash_types.specs.Ranges.{has_any}
use Rattle.manifest_form.specs.States.{cover_from}
use Rattle.manifest_laws.specs.Changes.{Runs}
use Rattle.manifest_laws.proofs.Facts.{and_both, both_and, same_int, int_itself, through}
use Rattle.manifest_laws.proofs.Placing.{Over, Rising, EachUnder}

-- ---- a cover is a run to the end

pub cover_runs : (from : Option ℤ) (xs : List StoredSegment) → cover_from from xs ≡ true → Runs from xs None
cover_runs None [] h = refl
cover_runs None (s ∷ rest) h = absurd (cc h)
cover_runs (Some low) [] h = absurd (cc h)
cover_runs (Some low) (s ∷ rest) h =
    let one = and_both (int_eq s.range.low low) (has_any s.range && cover_from s.range.high rest) h in
    let two = and_both (has_any s.range) (cover_from s.range.high rest) one.1 in
    (ap (λ z. Some z) (sym (same_int s.range.low low one.0)), two.0, cover_runs s.range.high rest two.1)

some_same : (a b : ℤ) → Some a ≡ Some b → a ≡ b
some_same a b e = cc e

pub runs_cover : (from : Option ℤ) (xs : List StoredSegment) → Runs from xs None → cover_from from xs ≡ true
runs_cover None [] r = refl
runs_cover None (s ∷ rest) r = absurd (cc (r.0))
runs_cover (Some low) [] r = absurd (cc r)
runs_cover (Some low) (s ∷ rest) r =
    both_and (int_eq s.range.low low) (has_any s.range && cover_from s.range.high rest) (int_itself s.range.low low (sym (some_same low s.range.low r.0)))
    (both_and (has_any s.range) (cover_from s.range.high rest) r.1 (runs_cover s.range.high rest r.2))

-- ---- runs one behind the other

pub runs_parts : (from to : Option ℤ) (xs ys : List StoredSegment) → Runs from (xs ++ ys) to → (mid : Option ℤ) × Runs from xs mid × Runs mid ys to
runs_parts from to [] ys r = (from, refl, r)
runs_parts from to (s ∷ xs) ys r = let rest = runs_parts s.range.high to xs ys r.2 in (rest.0, (r.0, r.1, rest.1), rest.2)

pub runs_join : (from mid to : Option ℤ) (xs ys : List StoredSegment) → Runs from xs mid → Runs mid ys to → Runs from (xs ++ ys) to
runs_join from mid to [] ys r q = subst (λ (z : Option ℤ). Runs z ys to) (sym r) q
runs_join from mid to (s ∷ xs) ys r q = (r.0, r.1, runs_join s.range.high mid to xs ys r.2 q)

-- ---- a run rises

-- it is below this end
abbrev Ends : ℤ → Option ℤ → Type 0
Ends low None = Unit {0}
Ends low (Some high) = int_lt low high ≡ true

ends_by : (low : ℤ) (high : Option ℤ) → elim high [ None ↦ true | Some h ↦ int_lt low h ] ≡ true → Ends low high
ends_by low None some = tt
ends_by low (Some h) some = some

ends_further : (a low : ℤ) (high : Option ℤ) → int_lt a low ≡ true → Ends low high → Ends a high
ends_further a low None lt e = tt
ends_further a low (Some h) lt e = through a low h lt e

over_run : (a : StoredSegment) (from to : Option ℤ) (xs : List StoredSegment) → Ends a.range.low from → Runs from xs to → Over a xs
over_run a from to [] e r = tt
over_run a from to (s ∷ rest) e r =
    let lt : int_lt a.range.low s.range.low ≡ true = subst (Ends a.range.low) r.0 e in
    (lt, over_run a s.range.high to rest (ends_further a.range.low s.range.low s.range.high lt (ends_by s.range.low s.range.high r.1)) r.2)

pub run_rises : (from to : Option ℤ) (xs : List StoredSegment) → Runs from xs to → Rising xs
run_rises from to [] r = tt
run_rises from to (s ∷ rest) r = (over_run s s.range.high to rest (ends_by s.range.low s.range.high r.1) r.2, run_rises s.range.high to rest r.2)

over_parts : (a : StoredSegment) (xs ys : List StoredSegment) → Over a (xs ++ ys) → Over a xs × Over a ys
over_parts a [] ys o = (tt, o)
over_parts a (x ∷ xs) ys o = let p = over_parts a xs ys o.1 in ((o.0, p.0), p.1)

pub record Parted (xs ys : List StoredSegment) : Type 0 where
  pub first : Rising xs
  pub second : Rising ys
  pub under : EachUnder xs ys

pub rising_parts : (xs ys : List StoredSegment) → Rising (xs ++ ys) → Parted xs ys
rising_parts [] ys r = record { first = tt; second = r; under = tt }
rising_parts (x ∷ xs) ys r =
    let p = rising_parts xs ys r.1 in
    let o = over_parts x xs ys r.0 in
    record { first = (o.0, p.first); second = p.second; under = (o.1, p.under) }

pub under_parts : (front xs ys : List StoredSegment) → EachUnder front (xs ++ ys) → EachUnder front xs
under_parts [] xs ys under = tt
under_parts (f ∷ front) xs ys under = ((over_parts f xs ys under.0).0, under_parts front xs ys under.1)
