-- The members of a list of versions, and what tests, filters and looks for a timestamp tell of them.
use Rattle.std.proofs.Common.{◌≡◌, ◌⊎◌, inl, inr, ◌∙◌, refl, sym, ap, subst, ℕ, zero, suc, ◌<◌, ℤ, Bool, true, false, true≢false, cond, ◌||◌, List, [], ◌∷◌, Option, Some, None, length, get_or, arith}
use Rattle.std.specs.Prelude.{◌==◌, filter, find}
use Rattle.std.specs.List.{All, list_any}
use Rattle.std.specs.Option.{option_or}
use Rattle.std.specs.Ordering.{int_eq, int_cmp, nat_cmp, ordering_then}
use Rattle.std.specs.declared.cmp.Ordering.{Ordering}
use Rattle.std.specs.declared.cmp.Ordering.TheVariants.{Less, Equal, Greater}
use Rattle.std.proofs.lemmas.Int.{ints}
use Rattle.std.proofs.lemmas.List.Elements.{All-head, All-tail}
use Rattle.column_block.specs.declared.cell.Version.{Version}
use Rattle.good_replica.specs.Changed.{had}
use Rattle.column_block.specs.Order.{version_cmp, Rise}
use Rattle.good_replica.specs.Trail.{after_versions, versions_on}
use Rattle.good_replica.proofs.Commits.{pairs_first, pairs_rest}
use Rattle.good_replica.proofs.Facts.{int_same, int_itself}
use Rattle.good_replica.proofs.Steps.{versions_over}

abbrev pub In : Version → List Version → Type 0
In v [] = ⊥
In v (w ∷ ws) = (v ≡ w) ⊎ In v ws

-- ---- tests and filters

pub any_in : (p : Version → Bool) (v : Version) (ws : List Version) → In v ws → p v ≡ true → list_any p ws ≡ true
any_in p v [] i e = absurd i
any_in p v (w ∷ ws) (inl same) e = ap (λ b. b || list_any p ws) (sym (ap p same) ∙ e)
any_in p v (w ∷ ws) (inr i) e = by (p w) (any_in p v ws i e)
  where
    by : (b : Bool) → list_any p ws ≡ true → (b || list_any p ws) ≡ true
    by true rest = refl
    by false rest = rest

pub in_any : (p : Version → Bool) (ws : List Version) → list_any p ws ≡ true → (v : Version) × (In v ws × (p v ≡ true))
in_any p [] e = absurd (true≢false (sym e))
in_any p (w ∷ ws) e = by (p w) refl e (in_any p ws)
  where
    by : (b : Bool) → p w ≡ b → (b || list_any p ws) ≡ true → (list_any p ws ≡ true → (v : Version) × (In v ws × (p v ≡ true))) → (v : Version) × (In v (w ∷ ws) × (p v ≡ true))
    by true is e rest = (w, (inl refl, is))
    by false is e rest = let r = rest e in (r.0, (inr (r.1.0), r.1.1))

pub in_filter : (p : Version → Bool) (v : Version) (ws : List Version) → In v (filter p ws) → In v ws × (p v ≡ true)
in_filter p v [] i = absurd i
in_filter p v (w ∷ ws) i = by (p w) refl i (in_filter p v ws)
  where
    by : (b : Bool) → p w ≡ b → In v (cond b (w ∷ filter p ws) (filter p ws)) → (In v (filter p ws) → In v ws × (p v ≡ true)) → In v (w ∷ ws) × (p v ≡ true)
    by true is (inl same) rest = (inl same, ap p same ∙ is)
    by true is (inr i) rest = let r = rest i in (inr (r.0), r.1)
    by false is i rest = let r = rest i in (inr (r.0), r.1)

pub filter_in : (p : Version → Bool) (v : Version) (ws : List Version) → In v ws → p v ≡ true → In v (filter p ws)
filter_in p v [] i e = absurd i
filter_in p v (w ∷ ws) (inl same) e = subst (λ b. In v (cond b (w ∷ filter p ws) (filter p ws))) (sym (sym (ap p same) ∙ e)) (inl same)
filter_in p v (w ∷ ws) (inr i) e = by (p w) (filter_in p v ws i e)
  where
    by : (b : Bool) → In v (filter p ws) → In v (cond b (w ∷ filter p ws) (filter p ws))
    by true rest = inr rest
    by false rest = rest

pub find_in : (p : Version → Bool) (v : Version) (ws : List Version) → find p ws ≡ Some v → In v ws × (p v ≡ true)
find_in p v [] e = cc e
find_in p v (w ∷ ws) e = by (p w) refl e (find_in p v ws)
  where
    by : (b : Bool) → p w ≡ b → cond b (Some w) (find p ws) ≡ Some v → (find p ws ≡ Some v → In v ws × (p v ≡ true)) → In v (w ∷ ws) × (p v ≡ true)
    by true is e rest = let same : v ≡ w = cc e in (inl same, ap p same ∙ is)
    by false is e rest = let r = rest e in (inr (r.0), r.1)

pub find_none : (p : Version → Bool) (v : Version) (ws : List Version) → find p ws ≡ None → In v ws → p v ≡ false
find_none p v [] e i = absurd i
find_none p v (w ∷ ws) e i = by (p w) refl e i (find_none p v ws)
  where
    by : (b : Bool) → p w ≡ b → cond b (Some w) (find p ws) ≡ None → In v (w ∷ ws) → (find p ws ≡ None → In v ws → p v ≡ false) → p v ≡ false
    by true is e i rest = cc e
    by false is e (inl same) rest = ap p same ∙ is
    by false is e (inr i) rest = rest e i

pub in_get : (ws : List Version) (k : ℕ) (d : Version) → k < length ws → In (get_or ws k d) ws
in_get [] k d less = absurd (omega (arith, less))
in_get (w ∷ ws) zero d less = inl refl
in_get (w ∷ ws) (suc k) d less = inr (in_get ws k d (omega (arith, less)))

pub all_in : (P : Version → Type 0) (v : Version) (ws : List Version) → All P ws → In v ws → P v
all_in P v [] all i = absurd i
all_in P v (w ∷ ws) all (inl same) = subst P (sym same) (All-head P w ws all)
all_in P v (w ∷ ws) all (inr i) = all_in P v ws (All-tail P w ws all) i

-- ---- the order

abbrev pub IsBefore : Version → Version → Type 0
IsBefore v w = version_cmp v w ≡ Less

pub before_later : (v w : Version) → IsBefore v w → v.handle ≡ w.handle → v.ts < w.ts
before_later v w e same = by (int_cmp v.handle w.handle) refl e
  where
    unlike : (a b : ℤ) → int_cmp a b ≡ Less → a ≡ b → ⊥
    unlike a b e same = grind (arith, ints)

    less : (x y : ℕ) → nat_cmp x y ≡ Less → x < y
    less x y e = grind arith

    by : (o : Ordering) → int_cmp v.handle w.handle ≡ o → ordering_then o (nat_cmp v.ts w.ts) ≡ Less → v.ts < w.ts
    by Less is e = absurd (unlike v.handle w.handle is same)
    by Equal is e = less v.ts w.ts e
    by Greater is e = cc e

-- ---- a version at its timestamp

some_or_none : (o : Option Version) → (o ≡ None) ⊎ ((v : Version) × (o ≡ Some v))
some_or_none None = inl refl
some_or_none (Some v) = inr (v, refl)

module _ (h : ℤ) (ts : ℕ) where
  had_on : (w : Version) (ws : List Version) → int_eq w.handle h ≡ true → had h (w ∷ ws) ts ≡ option_or (had h ws ts) (cond (w.ts == ts) (Some w) None)
  had_on w ws is = ap (λ b. after_versions ts None (cond b (w ∷ versions_on h ws) (versions_on h ws))) is ∙ versions_over ts (cond (w.ts == ts) (Some w) None) (versions_on h ws)

  had_off : (w : Version) (ws : List Version) → int_eq w.handle h ≡ false → had h (w ∷ ws) ts ≡ had h ws ts
  had_off w ws is = ap (λ b. after_versions ts None (cond b (w ∷ versions_on h ws) (versions_on h ws))) is

  pub had_in : (v : Version) (ws : List Version) → had h ws ts ≡ Some v → In v ws × ((v.handle ≡ h) × (v.ts ≡ ts))
  had_in v [] e = cc e
  had_in v (w ∷ ws) e = by (int_eq w.handle h) refl (had_in v ws)
    where
      same : (a b : ℕ) → (a == b) ≡ true → a ≡ b
      same a b e = grind arith

      here : int_eq w.handle h ≡ true → (b : Bool) → (w.ts == ts) ≡ b → option_or (had h ws ts) (cond b (Some w) None) ≡ Some v → (had h ws ts ≡ Some v → In v ws × ((v.handle ≡ h) × (v.ts ≡ ts))) → In v (w ∷ ws) × ((v.handle ≡ h) × (v.ts ≡ ts))
      here on b at e rest = of (some_or_none (had h ws ts)) b at e
        where
          of : (had h ws ts ≡ None) ⊎ ((x : Version) × (had h ws ts ≡ Some x)) → (b : Bool) → (w.ts == ts) ≡ b → option_or (had h ws ts) (cond b (Some w) None) ≡ Some v → In v (w ∷ ws) × ((v.handle ≡ h) × (v.ts ≡ ts))
          of (inr x) b at e = let r = rest (x.1 ∙ sym (ap (λ o. option_or o (cond b (Some w) None)) x.1) ∙ e) in (inr (r.0), r.1)
          of (inl none) true at e =
              let is : v ≡ w = cc (sym e ∙ ap (λ o. option_or o (Some w)) none) in
              (inl is, (ap (λ (x : Version). x.handle) is ∙ int_same w.handle h on, ap (λ (x : Version). x.ts) is ∙ same w.ts ts at))
          of (inl none) false at e = cc (sym e ∙ ap (λ o. option_or o None) none)

      by : (b : Bool) → int_eq w.handle h ≡ b → (had h ws ts ≡ Some v → In v ws × ((v.handle ≡ h) × (v.ts ≡ ts))) → In v (w ∷ ws) × ((v.handle ≡ h) × (v.ts ≡ ts))
      by true is rest = here is (w.ts == ts) refl (sym (had_on w ws is) ∙ e) rest
      by false is rest = let r = rest (sym (had_off w ws is) ∙ e) in (inr (r.0), r.1)

pub in_had : (v : Version) (ws : List Version) → Rise ws → In v ws → had v.handle ws v.ts ≡ Some v
in_had v [] rise i = absurd i
in_had v (w ∷ ws) rise (inr i) = by (int_eq w.handle v.handle) refl (in_had v ws (pairs_rest IsBefore w ws rise) i)
  where
    by : (b : Bool) → int_eq w.handle v.handle ≡ b → had v.handle ws v.ts ≡ Some v → had v.handle (w ∷ ws) v.ts ≡ Some v
    by true is rest = had_on v.handle v.ts w ws is ∙ ap (λ o. option_or o (cond (w.ts == v.ts) (Some w) None)) rest
    by false is rest = had_off v.handle v.ts w ws is ∙ rest
in_had v (w ∷ ws) rise (inl same) = had_on v.handle v.ts w ws (int_itself w.handle v.handle (ap (λ (x : Version). x.handle) (sym same))) ∙ of (some_or_none (had v.handle ws v.ts))
  where
    at : (w.ts == v.ts) ≡ true
    at = level w.ts v.ts (ap (λ (x : Version). x.ts) (sym same))
      where
        level : (a b : ℕ) → a ≡ b → (a == b) ≡ true
        level a b e = grind arith

    of : (had v.handle ws v.ts ≡ None) ⊎ ((x : Version) × (had v.handle ws v.ts ≡ Some x)) → option_or (had v.handle ws v.ts) (cond (w.ts == v.ts) (Some w) None) ≡ Some v
    of (inl none) = ap (λ o. option_or o (cond (w.ts == v.ts) (Some w) None)) none ∙ ap (λ b. cond b (Some w) None) at ∙ ap (λ x. Some x) (sym same)
    of (inr x) =
        let r = had_in v.handle v.ts x.0 ws x.1 in
        let later = before_later w x.0 (all_in (IsBefore w) x.0 ws (pairs_first IsBefore w ws rise) (r.0)) (ap (λ (x : Version). x.handle) (sym same) ∙ sym (r.1.0)) in
        let t = ap (λ (x : Version). x.ts) same in
        absurd (omega (arith, later, t, r.1.1))
