-- The first region above a number that is there is the least.
use Rattle.std.proofs.Common.{◌≡◌, ◌≢◌, ◌⊎◌, inl, inr, ◌∙◌, refl, sym, ap, subst, ℕ, ◌<◌, Bool, true, false, true≢false, cond, List, [], ◌∷◌, Option, Some, None, is_some, filter, nat_cmp, arith}
use Rattle.std.specs.BTreeMap.{is_at}
use Rattle.std.specs.Map.{keys_of}
use Rattle.std.specs.Option.{option_or}
use Rattle.std.proofs.lemmas.Map.Keys.{sorted_tail}
use Rattle.flash_types.specs.declared.ask.AskRegion.{AskRegion}
use Rattle.committed_log.proofs.Maps.{Rise}
use Rattle.region_file.specs.declared.entry.Entry.TheVariants as kept
use Rattle.region_state.specs.State.{State}
use Rattle.region_table.specs.Live.{is_above, asked_kept, first_asked, next_there, IsNextThere, IsLeastThere}
use Rattle.region_table.specs.Table.{Kept, kept_in, state_in, state_kept, is_there}
use Rattle.region_table.proofs.Locals.{at_here, at_apart}
use Rattle.region_table.proofs.Ordered.{one_key, rest_above}

module _ (after : Option ℕ) (e : ℕ × Kept) (es : List (ℕ × Kept)) where
  here : kept_in (e ∷ es) e.0 ≡ Some e.1
  here = ap (λ b. cond b (Some e.1) (kept_in es e.0)) (at_here e.0)

  other : (r : ℕ) → e.0 ≢ r → kept_in (e ∷ es) r ≡ kept_in es r
  other r apart = ap (λ b. cond b (Some e.1) (kept_in es r)) (at_apart r e.0 apart)

  either : (r : ℕ) → (e.0 ≡ r) ⊎ (e.0 ≢ r)
  either r = by (is_at (nat_cmp r) e.0) refl
    where
      by : (b : Bool) → is_at (nat_cmp r) e.0 ≡ b → (e.0 ≡ r) ⊎ (e.0 ≢ r)
      by true is = inl (sym (one_key r e.0 is))
      by false out = inr (λ same. true≢false (sym (at_here r) ∙ sym (ap (is_at (nat_cmp r)) same) ∙ out))

  -- one that isn't told leaves what the others tell, where it isn't there or isn't above
  passed : (o : Option AskRegion) → ((r : ℕ) → is_above after r ≡ true → e.0 ≡ r → is_there (state_kept (Some e.1)) ≡ false) → ((a : AskRegion) (k : Kept) → is_above after a.region ≡ true → kept_in es a.region ≡ Some k → e.0 ≢ a.region) → IsLeastThere es after o → IsLeastThere (e ∷ es) after o
  passed None silent apart none = λ r above. elim (either r) [
    | inl same ↦ ap (λ k. is_there (state_kept k)) (sym (ap (kept_in (e ∷ es)) same) ∙ here) ∙ silent r above same
    | inr ne ↦ ap (λ k. is_there (state_kept k)) (other r ne) ∙ none r above
  ]
  passed (Some a) silent apart found = record {
    above = found.above;
    there = (found.there.0, other a.region (apart a found.there.0 found.above found.there.1) ∙ found.there.1, found.there.2);
    least = λ r above less. elim (either r) [
      | inl same ↦ ap (λ k. is_there (state_kept k)) (sym (ap (kept_in (e ∷ es)) same) ∙ here) ∙ silent r above same
      | inr ne ↦ ap (λ k. is_there (state_kept k)) (other r ne) ∙ found.least r above less
    ];
  }

  -- the first that is told is the least
  first : (s : State) → e.1 ≡ kept.There s → Rise nat_cmp (e ∷ es) → is_above after e.0 ≡ true → IsLeastThere (e ∷ es) after (Some (record { region = e.0; epoch = s.descriptor.epoch; index = s.descriptor.index }))
  first s is rise above = record {
    above = above;
    there = (kept.There s, here ∙ ap Some is, refl);
    least = λ r high less. by r less (kept_in es r) refl;
  }
    where
      by : (r : ℕ) → r < e.0 → (o : Option Kept) → kept_in es r ≡ o → is_there (state_in (e ∷ es) r) ≡ false
      by r less None none = ap (λ k. is_there (state_kept k)) (other r (λ same. absurd (omega (arith, same, less))) ∙ none)
      by r less (Some k) some = (let high = rest_above e es rise r (ap is_some some) in absurd (omega (arith, high, less)))

-- what is told of a list, where its first passes or doesn't
abbrev told : Option ℕ → ℕ → List (ℕ × Kept) → Bool → Kept → Option AskRegion
told after r es b k = first_asked (cond b ((r, k) ∷ filter (λ (x : ℕ × Kept). is_above after x.0) es) (filter (λ (x : ℕ × Kept). is_above after x.0) es))

pub is_least : (after : Option ℕ) (es : List (ℕ × Kept)) → Rise nat_cmp es → IsLeastThere es after (next_there es after)
is_least after [] rise = λ r above. refl
is_least after (e ∷ es) rise = by (is_least after es (sorted_tail nat_cmp e.0 (keys_of es) rise)) (is_above after e.0) refl e.1 refl
  where
    behind : (a : AskRegion) (k : Kept) → is_above after a.region ≡ true → kept_in es a.region ≡ Some k → e.0 ≢ a.region
    behind a k above there same = let high = rest_above e es rise a.region (ap is_some there) in absurd (omega (arith, high, same))

    by : IsLeastThere es after (next_there es after) → (b : Bool) → is_above after e.0 ≡ b → (k : Kept) → e.1 ≡ k → IsLeastThere (e ∷ es) after (told after e.0 es (is_above after e.0) e.1)
    by rest false low k is = subst (λ b. IsLeastThere (e ∷ es) after (told after e.0 es b e.1)) (sym low) (passed after e es (next_there es after) (λ r above same. absurd (true≢false (sym above ∙ sym (ap (is_above after) same) ∙ low))) behind rest)
    by rest true above (kept.Gone index) is = subst (λ b. IsLeastThere (e ∷ es) after (told after e.0 es b e.1)) (sym above) (subst (λ k. IsLeastThere (e ∷ es) after (told after e.0 es true k)) (sym is) (passed after e es (next_there es after) (λ r high same. ap (λ k. is_there (state_kept (Some k))) is) behind rest))
    by rest true above (kept.There s) is = subst (λ b. IsLeastThere (e ∷ es) after (told after e.0 es b e.1)) (sym above) (subst (λ k. IsLeastThere (e ∷ es) after (told after e.0 es true k)) (sym is) (first after e es s is rise above))
