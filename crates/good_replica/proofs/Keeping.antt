-- What is kept is a collection that no read can tell.
use Rattle.std.proofs.Common.{◌≡◌, ◌⊎◌, inl, inr, ◌∙◌, refl, sym, ap, subst, ℕ, ℤ, ◌<◌, ◌≤◌, Bool, true, false, true≢false, cond, not, ◌||◌, List, [], ◌∷◌, Option, Some, None, nat_lt, arith}
use Rattle.std.proofs.lemmas.Int.{ints}
use Rattle.std.specs.List.{All}
use Rattle.std.specs.Ordering.{int_eq, int_cmp, nat_cmp, ordering_then}
use Rattle.std.specs.Prelude.{◌==◌, int_le, int_lt}
use Rattle.std.specs.declared.cmp.Ordering.{Ordering}
use Rattle.std.specs.declared.cmp.Ordering.TheVariants.{Less, Equal, Greater}
use Rattle.std.specs.Option.{option_or}
use Rattle.column_block.specs.declared.cell.Version.{Version}
use Rattle.good_replica.specs.Changed.{IsCollected, had}
use Rattle.good_replica.specs.Good.{IsPassed, IsLoneDelete}
use Rattle.version_gc.specs.Keep.{is_kept, keep, version_cmp, Rise}
use Rattle.good_replica.specs.Trail.{after_versions, versions_on}
use Rattle.good_replica.specs.Versions.{Versions}
use Rattle.good_replica.proofs.Steps.{versions_over}
use Rattle.good_replica.proofs.Commits.{pairs_first, pairs_rest}
use Rattle.good_replica.proofs.Facts.{int_same}
use Rattle.committed_log.proofs.Ranks.{same_number}
use Rattle.committed_log.proofs.Closed.{same_is}
use Rattle.committed_log.proofs.Faults.{or_false}
use Rattle.std.proofs.lemmas.List.Elements.{All-head, All-tail}

-- ---- the versions of one row

abbrev is_kept_one : ℕ → Version → List Version → Bool
is_kept_one safe v [] = nat_lt safe v.ts || not v.gone
is_kept_one safe v (w ∷ ws) = nat_lt safe v.ts || nat_lt safe w.ts

abbrev keep_one : ℕ → List Version → List Version
keep_one safe [] = []
keep_one safe (v ∷ vs) = cond (is_kept_one safe v vs) (v ∷ keep_one safe vs) (keep_one safe vs)

abbrev AreAbove : ℕ → List Version → Type 0
AreAbove ts [] = Unit {0}
AreAbove ts (v ∷ vs) = (ts < v.ts) × AreAbove v.ts vs

abbrev RiseOne : List Version → Type 0
RiseOne [] = Unit {0}
RiseOne (v ∷ vs) = AreAbove v.ts vs

abbrev latest : List Version → Versions
latest vs ts = after_versions ts None vs

abbrev one : Version → ℕ → Option Version
one v ts = cond (v.ts == ts) (Some v) None

latest_cons : (v : Version) (vs : List Version) (ts : ℕ) → latest (v ∷ vs) ts ≡ option_or (latest vs ts) (one v ts)
latest_cons v vs ts = versions_over ts (one v ts) vs

apart : (a b : ℕ) → b < a → (a == b) ≡ false
apart a b e = grind arith

above_rise : (t : ℕ) (vs : List Version) → AreAbove t vs → RiseOne vs
above_rise t [] a = tt
above_rise t (v ∷ vs) a = a.1

none_below : (t : ℕ) (vs : List Version) → AreAbove t vs → (ts : ℕ) → ts ≤ t → latest vs ts ≡ None
none_below t [] a ts le = refl
none_below t (v ∷ vs) a ts le = latest_cons v vs ts ∙ (λ i. option_or (none_below v.ts vs a.1 ts (omega (arith, le, a.0)) i) (cond (apart v.ts ts (omega (arith, le, a.0)) i) (Some v) None))

head_shown : (v : Version) (vs : List Version) → AreAbove v.ts vs → latest (v ∷ vs) v.ts ≡ Some v
head_shown v vs a = latest_cons v vs v.ts ∙ (λ i. option_or (none_below v.ts vs a v.ts (omega arith) i) (cond (same_is v.ts i) (Some v) None))

module _ (safe : ℕ) where
  kept_or : (vs : List Version) → RiseOne vs → (ts : ℕ) → (latest (keep_one safe vs) ts ≡ None) ⊎ (latest (keep_one safe vs) ts ≡ latest vs ts)
  kept_or [] rise ts = inl refl
  kept_or (v ∷ vs) rise ts = by (is_kept_one safe v vs) (v.ts == ts) refl (kept_or vs (above_rise v.ts vs rise) ts)
    where
      by : (k b : Bool) → (v.ts == ts) ≡ b → (latest (keep_one safe vs) ts ≡ None) ⊎ (latest (keep_one safe vs) ts ≡ latest vs ts) → (latest (cond k (v ∷ keep_one safe vs) (keep_one safe vs)) ts ≡ None) ⊎ (latest (cond k (v ∷ keep_one safe vs) (keep_one safe vs)) ts ≡ latest (v ∷ vs) ts)
      by true b is (inr same) = inr (latest_cons v (keep_one safe vs) ts ∙ ap (λ o. option_or o (one v ts)) same ∙ sym (latest_cons v vs ts))
      by true true is (inl none) =
          let e : ts ≤ v.ts = (let s = same_number v.ts ts is in omega (arith, s)) in
          inr (latest_cons v (keep_one safe vs) ts ∙ ap (λ o. option_or o (one v ts)) (none ∙ sym (none_below v.ts vs rise ts e)) ∙ sym (latest_cons v vs ts))
      by true false is (inl none) = inl (latest_cons v (keep_one safe vs) ts ∙ (λ i. option_or (none i) (cond (is i) (Some v) None)))
      by false b is (inl none) = inl none
      by false true is (inr same) = inl (same ∙ none_below v.ts vs rise ts (let s = same_number v.ts ts is in omega (arith, s)))
      by false false is (inr same) = inr (same ∙ sym (or_none_right (latest vs ts)) ∙ (λ i. option_or (latest vs ts) (cond (sym is i) (Some v) None)) ∙ sym (latest_cons v vs ts))
        where
          or_none_right : {X : Type 0} (o : Option X) → option_or o None ≡ o
          or_none_right None = refl
          or_none_right (Some x) = refl

  abbrev Gone : List Version → ℕ → Version → Type 0
  Gone vs ts x = (latest (keep_one safe vs) ts ≡ Some x) ⊎ (IsPassed (latest vs) safe ts ⊎ IsLoneDelete (latest (keep_one safe vs)) safe ts x)

  not_less : (a b : ℕ) → nat_lt a b ≡ false → b ≤ a
  not_less a b e = grind arith

  is_less : (a b : ℕ) → a < b → nat_lt a b ≡ true
  is_less a b e = grind arith

  some_is : (x y : Version) → Some x ≡ Some y → x ≡ y
  some_is x y e = cc

  -- the version itself
  at_head : (v : Version) (vs : List Version) → AreAbove v.ts vs → Gone (v ∷ vs) v.ts v
  at_head v vs rise = by (is_kept_one safe v vs) refl
    where
      gone_of : (g : Bool) → not g ≡ false → g ≡ true
      gone_of true e = refl
      gone_of false e = absurd (true≢false e)

      dropped : (vs : List Version) → AreAbove v.ts vs → is_kept_one safe v vs ≡ false → (latest (keep_one safe vs) v.ts ≡ Some v) ⊎ (IsPassed (latest (v ∷ vs)) safe v.ts ⊎ IsLoneDelete (latest (keep_one safe vs)) safe v.ts v)
      dropped [] rise is = let both = or_false (nat_lt safe v.ts) (not v.gone) is in inr (inr (gone_of v.gone both.1, not_less safe v.ts both.0, λ older less. refl))
      dropped (w ∷ ws) rise is =
          let both = or_false (nat_lt safe v.ts) (nat_lt safe w.ts) is in
          inr (inl (w.ts, w, rise.0, not_less safe w.ts both.1, latest_cons v (w ∷ ws) w.ts ∙ ap (λ o. option_or o (one v w.ts)) (head_shown w ws rise.1)))

      by : (k : Bool) → is_kept_one safe v vs ≡ k → (latest (cond k (v ∷ keep_one safe vs) (keep_one safe vs)) v.ts ≡ Some v) ⊎ (IsPassed (latest (v ∷ vs)) safe v.ts ⊎ IsLoneDelete (latest (cond k (v ∷ keep_one safe vs) (keep_one safe vs))) safe v.ts v)
      by true is = inl (latest_cons v (keep_one safe vs) v.ts ∙ (λ i. option_or (none i) (cond (same_is v.ts i) (Some v) None)))
        where
          none : latest (keep_one safe vs) v.ts ≡ None
          none = elim (kept_or vs (above_rise v.ts vs rise) v.ts) [ inl e ↦ e | inr e ↦ e ∙ none_below v.ts vs rise v.ts (omega arith) ]
      by false is = dropped vs rise is

  gone : (vs : List Version) → RiseOne vs → (ts : ℕ) (x : Version) → latest vs ts ≡ Some x → Gone vs ts x
  gone [] rise ts x e = cc e
  gone (v ∷ vs) rise ts x e = by (v.ts == ts) refl (gone vs (above_rise v.ts vs rise) ts x)
    where
      or_none_right : {X : Type 0} (o : Option X) → option_or o None ≡ o
      or_none_right None = refl
      or_none_right (Some y) = refl

      -- an older version beside a delete that isn't the first can't be kept
      head_low : (vs : List Version) → AreAbove v.ts vs → latest vs ts ≡ Some x → ts ≤ safe → is_kept_one safe v vs ≡ false
      head_low [] rise e le = cc e
      head_low (w ∷ ws) rise e le = by (cases w.ts)
        where
          cases : (n : ℕ) → (ts < n) ⊎ (n ≤ ts)
          cases n = grind arith

          no_less : (a b : ℕ) → b ≤ a → nat_lt a b ≡ false
          no_less a b e = grind arith

          by : (ts < w.ts) ⊎ (w.ts ≤ ts) → (nat_lt safe v.ts || nat_lt safe w.ts) ≡ false
          by (inl less) = cc (sym (none_below ts (w ∷ ws) (less, rise.1) ts (omega arith)) ∙ e)
          by (inr low) = (λ i. no_less safe v.ts (omega (arith, rise.0, low, le)) i || no_less safe w.ts (omega (arith, low, le)) i)

      by : (b : Bool) → (v.ts == ts) ≡ b → (latest vs ts ≡ Some x → Gone vs ts x) → Gone (v ∷ vs) ts x
      by true is rest =
          let s = same_number v.ts ts is in
          let same : x ≡ v = some_is x v (sym e ∙ ap (latest (v ∷ vs)) (sym s) ∙ head_shown v vs rise) in
          subst (λ t. Gone (v ∷ vs) t x) s (subst (λ y. Gone (v ∷ vs) v.ts y) (sym same) (at_head v vs rise))
      by false is rest = of (rest there)
        where
          there : latest vs ts ≡ Some x
          there = sym (latest_cons v vs ts ∙ (λ i. option_or (latest vs ts) (cond (is i) (Some v) None)) ∙ or_none_right (latest vs ts)) ∙ e

          of : Gone vs ts x → Gone (v ∷ vs) ts x
          of (inl stays) = inl (kept_still (is_kept_one safe v vs))
            where
              kept_still : (k : Bool) → latest (cond k (v ∷ keep_one safe vs) (keep_one safe vs)) ts ≡ Some x
              kept_still true = latest_cons v (keep_one safe vs) ts ∙ ap (λ o. option_or o (one v ts)) stays
              kept_still false = stays
          of (inr (inl h)) = inr (inl (h.0, h.1, h.2, h.3, latest_cons v vs h.0 ∙ ap (λ o. option_or o (one v h.0)) h.4))
          of (inr (inr h)) = inr (inr (h.0, h.1, λ older less. ap (λ k. latest (cond k (v ∷ keep_one safe vs) (keep_one safe vs)) older) (head_low vs rise there h.1) ∙ h.2 older less))

  pub collected : (vs : List Version) → RiseOne vs → IsCollected safe (latest vs) (latest (keep_one safe vs))
  collected vs rise = record { kept = kept_or vs rise; gone = gone vs rise }

-- ---- the versions of a block, row by row

pair_le : (v w : Version) → version_cmp v w ≡ Less → int_le v.handle w.handle ≡ true
pair_le v w e = by (int_cmp v.handle w.handle) refl e
  where
    up : (a b : ℤ) → int_cmp a b ≡ Less → int_le a b ≡ true
    up a b e = grind (arith, ints)

    level : (a b : ℤ) → int_cmp a b ≡ Equal → int_le a b ≡ true
    level a b e = grind (arith, ints)

    by : (o : Ordering) → int_cmp v.handle w.handle ≡ o → ordering_then o (nat_cmp v.ts w.ts) ≡ Less → int_le v.handle w.handle ≡ true
    by Less is e = up v.handle w.handle is
    by Equal is e = level v.handle w.handle is
    by Greater is e = cc e

pair_later : (v w : Version) → version_cmp v w ≡ Less → v.handle ≡ w.handle → v.ts < w.ts
pair_later v w e same = by (int_cmp v.handle w.handle) refl e
  where
    unlike : (a b : ℤ) → int_cmp a b ≡ Less → a ≡ b → ⊥
    unlike a b e same = grind (arith, ints)

    less : (x y : ℕ) → nat_cmp x y ≡ Less → x < y
    less x y e = grind arith

    by : (o : Ordering) → int_cmp v.handle w.handle ≡ o → ordering_then o (nat_cmp v.ts w.ts) ≡ Less → v.ts < w.ts
    by Less is e = absurd (unlike v.handle w.handle is same)
    by Equal is e = less v.ts w.ts e
    by Greater is e = cc e

abbrev Pair : Version → Version → Type 0
Pair v w = version_cmp v w ≡ Less

module _ (h : ℤ) where
  -- behind a version on a greater handle none is on this one
  past : (a b : ℤ) → int_lt h a ≡ true → int_le a b ≡ true → int_eq b h ≡ false
  past a b less le = grind (arith, ints)

  above : (a b : ℤ) → int_eq a h ≡ true → int_le a b ≡ true → int_eq b h ≡ false → int_lt h b ≡ true
  above a b is le apart = grind (arith, ints)

  none_past : (w : Version) (ws : List Version) → int_lt h w.handle ≡ true → All (Pair w) ws → versions_on h ws ≡ []
  none_past w [] less all = refl
  none_past w (k ∷ ws) less all = (let rest = none_past w ws less (All-tail (Pair w) k ws all) in (λ i. cond (past w.handle k.handle less (pair_le w k (All-head (Pair w) k ws all)) i) (k ∷ rest i) (rest i)))

  rise_from : (t : ℕ) (v : Version) → v.handle ≡ h → v.ts ≡ t → (vs : List Version) → All (Pair v) vs → RiseOne (versions_on h vs) → AreAbove t (versions_on h vs)
  rise_from t v is_h is_t [] all rise = tt
  rise_from t v is_h is_t (w ∷ ws) all rise = by (int_eq w.handle h) refl rise (λ r. rise_from t v is_h is_t ws (All-tail (Pair v) w ws all) r)
    where
      by : (b : Bool) → int_eq w.handle h ≡ b → RiseOne (cond b (w ∷ versions_on h ws) (versions_on h ws)) → (RiseOne (versions_on h ws) → AreAbove t (versions_on h ws)) → AreAbove t (cond b (w ∷ versions_on h ws) (versions_on h ws))
      by true is rise rest = (subst (λ n. n < w.ts) is_t (pair_later v w (All-head (Pair v) w ws all) (is_h ∙ sym (int_same w.handle h is))), rise)
      by false is rise rest = rest rise

  rise_on : (vs : List Version) → Rise vs → RiseOne (versions_on h vs)
  rise_on [] rise = tt
  rise_on (v ∷ vs) rise = by (int_eq v.handle h) refl (rise_on vs (pairs_rest Pair v vs rise))
    where
      by : (b : Bool) → int_eq v.handle h ≡ b → RiseOne (versions_on h vs) → RiseOne (cond b (v ∷ versions_on h vs) (versions_on h vs))
      by true is rest = rise_from v.ts v (int_same v.handle h is) refl vs (pairs_first Pair v vs rise) rest
      by false is rest = rest

  module _ (safe : ℕ) where
    kept_same : (v : Version) (vs : List Version) → int_eq v.handle h ≡ true → Rise (v ∷ vs) → is_kept safe v vs ≡ is_kept_one safe v (versions_on h vs)
    kept_same v [] on rise = refl
    kept_same v (w ∷ ws) on rise = by (int_eq w.handle h) refl
      where
        again : (a b : ℤ) → int_eq a h ≡ true → int_eq b h ≡ true → int_eq b a ≡ true
        again a b e f = grind (arith, ints)

        unlike : (a b : ℤ) → int_eq a h ≡ true → int_eq b h ≡ false → int_eq b a ≡ false
        unlike a b e f = grind (arith, ints)

        low : int_le v.handle w.handle ≡ true
        low = pair_le v w (All-head (Pair v) w ws (pairs_first Pair v (w ∷ ws) rise))

        later : All (Pair w) ws
        later = pairs_first Pair w ws (pairs_rest Pair v (w ∷ ws) rise)

        by : (b : Bool) → int_eq w.handle h ≡ b → (nat_lt safe v.ts || cond (int_eq w.handle v.handle) (nat_lt safe w.ts) (not v.gone)) ≡ is_kept_one safe v (cond b (w ∷ versions_on h ws) (versions_on h ws))
        by true is = ap (λ x. nat_lt safe v.ts || cond x (nat_lt safe w.ts) (not v.gone)) (again v.handle w.handle on is)
        by false is = ap (λ x. nat_lt safe v.ts || cond x (nat_lt safe w.ts) (not v.gone)) (unlike v.handle w.handle on is) ∙ sym (ap (is_kept_one safe v) (none_past w ws (above v.handle w.handle on low is) later))

    keep_on : (vs : List Version) → Rise vs → versions_on h (keep safe vs) ≡ keep_one safe (versions_on h vs)
    keep_on [] rise = refl
    keep_on (v ∷ vs) rise = by (int_eq v.handle h) refl (is_kept safe v vs) refl (keep_on vs (pairs_rest Pair v vs rise))
      where
        here : (b : Bool) → int_eq v.handle h ≡ b → (vs : List Version) → versions_on h (v ∷ vs) ≡ cond b (v ∷ versions_on h vs) (versions_on h vs)
        here b is vs = ap (λ x. cond x (v ∷ versions_on h vs) (versions_on h vs)) is

        by : (b : Bool) → int_eq v.handle h ≡ b → (k : Bool) → is_kept safe v vs ≡ k → versions_on h (keep safe vs) ≡ keep_one safe (versions_on h vs) →
            versions_on h (cond k (v ∷ keep safe vs) (keep safe vs)) ≡ keep_one safe (cond b (v ∷ versions_on h vs) (versions_on h vs))
        by false is true k rest = here false is (keep safe vs) ∙ rest
        by false is false k rest = rest
        by true is true k rest = here true is (keep safe vs) ∙ (λ i. v ∷ rest i) ∙ sym (ap (λ x. cond x (v ∷ keep_one safe (versions_on h vs)) (keep_one safe (versions_on h vs))) (sym (kept_same v vs is rise) ∙ k))
        by true is false k rest = rest ∙ sym (ap (λ x. cond x (v ∷ keep_one safe (versions_on h vs)) (keep_one safe (versions_on h vs))) (sym (kept_same v vs is rise) ∙ k))

    -- what is kept of a block is a collection, for each row
    pub block_collected : (vs : List Version) → Rise vs → IsCollected safe (had h vs) (had h (keep safe vs))
    block_collected vs rise = subst (λ ws. IsCollected safe (had h vs) (λ ts. after_versions ts None ws)) (sym (keep_on vs rise)) (collected safe (versions_on h vs) (rise_on vs rise))
