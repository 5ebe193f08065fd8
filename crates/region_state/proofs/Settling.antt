-- What a map has after changes were settled in it.
use Rattle.std.proofs.Common.{◌≡◌, ◌∙◌, refl, sym, ap, Bool, true, false, true≢false, not, ◌&&◌, ◌||◌, cond, List, [], ◌∷◌, Option, Some, None, filter, is_some}
use Rattle.std.specs.Cmp.{IsTotalOrder}
use Rattle.std.specs.Ordering.{is_eq}
use Rattle.std.specs.declared.cmp.Ordering.{Ordering}
use Rattle.std.specs.BTreeMap.{insert_entry, is_at}
use Rattle.std.specs.List.Sorted.{IsStrictlySortedBy}
use Rattle.std.specs.Map.{lookup, keys_of}
use Rattle.std.proofs.lemmas.Cmp.{eq_by_cmp_equiv, tied_itself}
use Rattle.std.proofs.lemmas.Map.{lookup-remove_entry, lookup-none}
use Rattle.std.proofs.lemmas.Map.Entries.{none_past_head}
use Rattle.std.proofs.lemmas.Map.Keys.{IsDistinct-from_sorted}
use Rattle.committed_log.proofs.Maps.{Rise, Rise-insert_entry, Rise-remove_entry, lookup-insert_entry}
use Rattle.committed_log.proofs.Undo.{turned_eq, equal_is}
use Rattle.region_state.specs.State.{united, outside}
use Rattle.region_state.specs.Standing.{seen}
use Rattle.region_state.specs.Settling.{CanSettle, Ready, settle_step, settled, missing_step, missing}

or_true : (b : Bool) → (b || true) ≡ true
or_true true = refl
or_true false = refl

or_false : (b : Bool) → (b || false) ≡ b
or_false true = refl
or_false false = refl

and_false : (b : Bool) → (b && false) ≡ false
and_false true = refl
and_false false = refl

none_from : {X : Type 0} (o : Option X) → is_some o ≡ false → o ≡ None
none_from None is = refl
none_from (Some x) is = absurd (true≢false is)

module _ {K : Type 0} {R : K → K → Ordering} (o : IsTotalOrder R) where
  turned : (x y : K) → is_at (R x) y ≡ is_at (R y) x
  turned x y = ap is_eq (o.antisymm x y) ∙ turned_eq (R y x)

  pub itself : (k : K) → is_at (R k) k ≡ true
  itself k = ap is_eq (tied_itself o k)

module _ {K X : Type 0} {R : K → K → Ordering} (o : IsTotalOrder R) where
  abbrev look : List (K × X) → K → Option X
  look es q = lookup (is_at (R q)) es

  abbrev told : List (K × Option X) → K → Option (Option X)
  told cs q = lookup (is_at (R q)) cs

  pub step_look : (es : List (K × X)) (k : K) (c : Option X) (q : K) → Rise R es → look (settle_step R es (k, c)) q ≡ cond (is_at (R q) k) c (look es q)
  step_look es k None q rise = lookup-remove_entry (eq_by_cmp_equiv o) (is_at (R k)) (λ x y t. ap is_eq (o.congr k x y (equal_is (R k x) t))) q es (IsDistinct-from_sorted R (keys_of es) rise) ∙ ap (λ b. cond b None (look es q)) (turned o k q)
  step_look es k (Some v) q rise = lookup-insert_entry o es k v q

  pub step_rise : (es : List (K × X)) (k : K) (c : Option X) → Rise R es → Rise R (settle_step R es (k, c))
  step_rise es k None rise = Rise-remove_entry R (is_at (R k)) es rise
  step_rise es k (Some v) rise = Rise-insert_entry o es k v rise

  past : (e : K × Option X) (cs : List (K × Option X)) → Rise R (e ∷ cs) → (q : K) → is_at (R q) e.0 ≡ true → told cs q ≡ None
  past e cs rise q is = lookup-none (is_at (R q)) cs (none_past_head (eq_by_cmp_equiv o) q e cs (IsDistinct-from_sorted R (keys_of (e ∷ cs)) rise) is)

  rest_rises : (e : K × Option X) (cs : List (K × Option X)) → Rise R (e ∷ cs) → Rise R cs
  unfolding IsStrictlySortedBy
  rest_rises e cs rise = rise.1

  -- each key has what the changes say of it, and else what it had
  pub settled_look : (es : List (K × X)) (cs : List (K × Option X)) → Rise R es → Rise R cs → (q : K) → look (settled R es cs) q ≡ seen (told cs q) (look es q)
  settled_look es [] rise rises q = refl
  settled_look es (e ∷ cs) rise rises q =
      settled_look (settle_step R es (e.0, e.1)) cs (step_rise es e.0 e.1 rise) (rest_rises e cs rises) q ∙ ap (seen (told cs q)) (step_look es e.0 e.1 q rise) ∙ by (is_at (R q) e.0) refl
    where
      by : (b : Bool) → is_at (R q) e.0 ≡ b → seen (told cs q) (cond b e.1 (look es q)) ≡ seen (cond b (Some e.1) (told cs q)) (look es q)
      by true is = ap (λ u. seen u e.1) (past e cs rises q is)
      by false is = refl

  pub settled_rise : (es : List (K × X)) (cs : List (K × Option X)) → Rise R es → Rise R (settled R es cs)
  settled_rise es [] rise = rise
  settled_rise es (e ∷ cs) rise = settled_rise (settle_step R es (e.0, e.1)) cs (step_rise es e.0 e.1 rise)

  -- ---- where each key that gets a value is there

  abbrev pub Filled : List (K × X) → List (K × Option X) → Type 0
  Filled es cs = (q : K) (v : X) → told cs q ≡ Some (Some v) → is_some (look es q) ≡ true

  can : (es : List (K × X)) (k : K) (c : Option X) → ((v : X) → c ≡ Some v → is_some (look es k) ≡ true) → CanSettle R es (k, c)
  can es k None there = tt
  can es k (Some v) there = there v refl

  pub ready : (es : List (K × X)) (cs : List (K × Option X)) → Rise R es → Rise R cs → Filled es cs → Ready R es cs
  ready es [] rise rises filled = tt
  ready es (e ∷ cs) rise rises filled =
      (can es e.0 e.1 (λ v is. filled e.0 v (ap (λ b. cond b (Some e.1) (told cs e.0)) (itself o e.0) ∙ ap Some is)), ready (settle_step R es (e.0, e.1)) cs (step_rise es e.0 e.1 rise) (rest_rises e cs rises) (λ q v is. by q v is (is_at (R q) e.0) refl))
    where
      by : (q : K) (v : X) → told cs q ≡ Some (Some v) → (b : Bool) → is_at (R q) e.0 ≡ b → is_some (look (settle_step R es (e.0, e.1)) q) ≡ true
      by q v is true at = absurd (cc (sym is ∙ past e cs rises q at))
      by q v is false at = ap is_some (step_look es e.0 e.1 q rise ∙ ap (λ b. cond b e.1 (look es q)) at) ∙ filled q v (ap (λ b. cond b (Some e.1) (told cs q)) at ∙ is)

  -- ---- a union

  pub united_none : (es more : List (K × X)) (q : K) → look more q ≡ None → look (united R es more) q ≡ look es q
  united_none es [] q none = refl
  united_none es (e ∷ more) q none = by (united_none (insert_entry R es e.0 e.1) more q) (is_at (R q) e.0) refl none
    where
      by : (look more q ≡ None → look (united R (insert_entry R es e.0 e.1) more) q ≡ look (insert_entry R es e.0 e.1) q) → (b : Bool) → is_at (R q) e.0 ≡ b → cond b (Some e.1) (look more q) ≡ None → look (united R (insert_entry R es e.0 e.1) more) q ≡ look es q
      by rest true is no_more = absurd (cc no_more)
      by rest false is no_more = rest no_more ∙ lookup-insert_entry o es e.0 e.1 q ∙ ap (λ b. cond b (Some e.1) (look es q)) is

  some_put : (b : Bool) (v : X) (u w : Option X) → (is_some (cond b (Some v) u) || is_some w) ≡ (is_some u || is_some (cond b (Some v) w))
  some_put true v u w = sym (or_true (is_some u))
  some_put false v u w = refl

  pub united_some : (es more : List (K × X)) (q : K) → is_some (look (united R es more) q) ≡ (is_some (look es q) || is_some (look more q))
  united_some es [] q = sym (or_false (is_some (look es q)))
  united_some es (e ∷ more) q =
      united_some (insert_entry R es e.0 e.1) more q ∙ ap (λ u. is_some u || is_some (look more q)) (lookup-insert_entry o es e.0 e.1 q) ∙ some_put (is_at (R q) e.0) e.1 (look es q) (look more q)

  pub united_rise : (es more : List (K × X)) → Rise R es → Rise R (united R es more)
  united_rise es [] rise = rise
  united_rise es (e ∷ more) rise = united_rise (insert_entry R es e.0 e.1) more (Rise-insert_entry o es e.0 e.1 rise)

  -- a test that each key of a map passes leaves it whole
  pub all_kept : (test : K → Bool) (es : List (K × X)) → ((q : K) → is_some (look es q) ≡ true → test q ≡ true) → filter (λ (e : K × X). test e.0) es ≡ es
  all_kept test [] passes = refl
  all_kept test (e ∷ es) passes =
      ap (λ b. cond b (e ∷ filter (λ (x : K × X). test x.0) es) (filter (λ (x : K × X). test x.0) es)) (passes e.0 (ap (λ b. is_some (cond b (Some e.1) (look es e.0))) (itself o e.0)))
      ∙ ap (λ rest. e ∷ rest) (all_kept test es (λ q there. passes q (some_behind (is_at (R q) e.0) e.1 (look es q) there)))
    where
      some_behind : (b : Bool) (v : X) (u : Option X) → is_some u ≡ true → is_some (cond b (Some v) u) ≡ true
      some_behind true v u there = refl
      some_behind false v u there = there

  -- ---- what is missing

  -- whether the changes put something at a key
  abbrev puts : List (K × Option X) → K → Bool
  puts [] q = false
  puts (e ∷ cs) q = (is_at (R q) e.0 && is_some e.1) || puts cs q

  module _ (base : List (K × X)) where
    alike : (q k : K) → is_at (R q) k ≡ true → look base q ≡ look base k
    alike q k is = λ i. lookup (λ z. is_eq (o.congr q k z (equal_is (R q k) is) i)) base

    one_missing : (fresh : List (K × X)) (k : K) (c : Option X) (q : K) → is_some (look (missing_step R base fresh (k, c)) q) ≡ (is_some (look fresh q) || (not (is_some (look base q)) && (is_at (R q) k && is_some c)))
    one_missing fresh k None q = by (is_some (look base q)) (is_at (R q) k)
      where
        by : (b t : Bool) → is_some (look fresh q) ≡ (is_some (look fresh q) || (not b && (t && false)))
        by true t = sym (or_false (is_some (look fresh q)))
        by false true = sym (or_false (is_some (look fresh q)))
        by false false = sym (or_false (is_some (look fresh q)))
    one_missing fresh k (Some v) q = by (is_some (look base k)) (is_at (R q) k) refl refl
      where
        by : (b t : Bool) → is_some (look base k) ≡ b → is_at (R q) k ≡ t → is_some (look (cond b fresh (insert_entry R fresh k v)) q) ≡ (is_some (look fresh q) || (not (is_some (look base q)) && (t && true)))
        by true true has at = sym (ap (λ b. is_some (look fresh q) || (not b && true)) (ap is_some (alike q k at) ∙ has) ∙ or_false (is_some (look fresh q)))
        by true false has at = sym (ap (λ b. is_some (look fresh q) || b) (and_false (not (is_some (look base q)))) ∙ or_false (is_some (look fresh q)))
        by false true has at = ap is_some (lookup-insert_entry o fresh k v q ∙ ap (λ b. cond b (Some v) (look fresh q)) at) ∙ sym (ap (λ b. is_some (look fresh q) || (not b && true)) (ap is_some (alike q k at) ∙ has) ∙ or_true (is_some (look fresh q)))
        by false false has at = ap is_some (lookup-insert_entry o fresh k v q ∙ ap (λ b. cond b (Some v) (look fresh q)) at) ∙ sym (ap (λ b. is_some (look fresh q) || b) (and_false (not (is_some (look base q)))) ∙ or_false (is_some (look fresh q)))

    gathered : (f b t p : Bool) → ((f || (not b && t)) || (not b && p)) ≡ (f || (not b && (t || p)))
    gathered true b t p = refl
    gathered false true t p = refl
    gathered false false t p = refl

    pub missing_some : (fresh : List (K × X)) (cs : List (K × Option X)) (q : K) → is_some (look (missing R base fresh cs) q) ≡ (is_some (look fresh q) || (not (is_some (look base q)) && puts cs q))
    missing_some fresh [] q = sym (ap (λ b. is_some (look fresh q) || b) (and_false (not (is_some (look base q)))) ∙ or_false (is_some (look fresh q)))
    missing_some fresh (e ∷ cs) q =
        missing_some (missing_step R base fresh (e.0, e.1)) cs q ∙ ap (λ b. b || (not (is_some (look base q)) && puts cs q)) (one_missing fresh e.0 e.1 q)
        ∙ gathered (is_some (look fresh q)) (is_some (look base q)) (is_at (R q) e.0 && is_some e.1) (puts cs q)

    puts_told : (cs : List (K × Option X)) (q : K) (v : X) → told cs q ≡ Some (Some v) → puts cs q ≡ true
    puts_told [] q v is = absurd (cc is)
    puts_told (e ∷ cs) q v is = by (puts_told cs q v) (is_at (R q) e.0) is
      where
        some_is : (u : Option X) (w : X) → Some u ≡ Some (Some w) → u ≡ Some w
        some_is u w h = cc h

        by : (told cs q ≡ Some (Some v) → puts cs q ≡ true) → (b : Bool) → cond b (Some e.1) (told cs q) ≡ Some (Some v) → ((b && is_some e.1) || puts cs q) ≡ true
        by rest true same = ap (λ u. is_some u || puts cs q) (some_is e.1 v same)
        by rest false same = rest same

    puts_none : (cs : List (K × Option X)) (q : K) → told cs q ≡ None → puts cs q ≡ false
    puts_none [] q is = refl
    puts_none (e ∷ cs) q is = by (puts_none cs q) (is_at (R q) e.0) is
      where
        by : (told cs q ≡ None → puts cs q ≡ false) → (b : Bool) → cond b (Some e.1) (told cs q) ≡ None → ((b && is_some e.1) || puts cs q) ≡ false
        by rest true same = absurd (cc same)
        by rest false same = rest same

    module _ (cs : List (K × Option X)) where
      abbrev fresh : List (K × X)
      fresh = missing R base [] cs

      -- nothing that is missing is there
      pub missing_apart : outside R fresh base ≡ base
      missing_apart = all_kept (λ k. not (is_some (look fresh k))) base (λ q there. ap not (missing_some [] cs q ∙ ap (λ b. not b && puts cs q) there))

      -- with it each key that gets a value is there
      pub filled : Filled (united R base fresh) cs
      filled q v is = united_some base fresh q ∙ ap (λ b. is_some (look base q) || b) (missing_some [] cs q ∙ ap (λ b. not (is_some (look base q)) && b) (puts_told cs q v is)) ∙ either (is_some (look base q))
        where
          either : (b : Bool) → (b || (not b && true)) ≡ true
          either true = refl
          either false = refl

      -- what is seen over the map is there once the changes are settled
      pub settled_seen : Rise R base → Rise R cs → (q : K) → look (settled R (united R base fresh) cs) q ≡ seen (told cs q) (look base q)
      settled_seen rise rises q = settled_look (united R base fresh) cs (united_rise base fresh rise) rises q ∙ by (told cs q) refl
        where
          by : (u : Option (Option X)) → told cs q ≡ u → seen u (look (united R base fresh) q) ≡ seen u (look base q)
          by (Some c) is = refl
          by None is = united_none base fresh q (none_from (look fresh q) (missing_some [] cs q ∙ ap (λ b. not (is_some (look base q)) && b) (puts_none cs q is) ∙ and_false (not (is_some (look base q)))))
