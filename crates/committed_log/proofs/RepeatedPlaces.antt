-- The places of the ops that repeat rise, and an op repeats where its place is among them.
use Rattle.std.proofs.Common.{◌≡◌, ◌⊎◌, inl, inr, ◌∙◌, refl, sym, ap, subst, ℕ, zero, suc, ◌+◌, ◌<◌, ◌≤◌, ℤ, Bool, true, false, true≢false, cond, ◌||◌, List, [], ◌∷◌, ◌++◌, Option, Some, None, Result, Ok, Err, arith, length, length-append, get_or, slice_get, is_ok}
use Rattle.std.specs.Prelude.{◌==◌}
use Rattle.std.specs.List.{list_any}
use Rattle.std.specs.List.Sorted.{IsBinarySearchResult}
use Rattle.std.specs.Ordering.{nat_cmp}
use Rattle.std.proofs.lemmas.List.Folds.{list_any_at, list_any-append}
use Rattle.std.proofs.lemmas.List.Sorted.{searched}
use Rattle.flash_types.specs.declared.range.HandleRange.{HandleRange}
use Rattle.log_codec.specs.declared.entry.Entry.{Entry}
use Rattle.log_codec.specs.declared.entry.Body.{Body}
use Rattle.log_codec.specs.declared.entry.Body.TheVariants as body
use Rattle.log_codec.specs.declared.entry.Op.{Op}
use Rattle.committed_log.specs.Lawful.{pushed}
use Rattle.committed_log.specs.Log.{Log, at, end}
use Rattle.committed_log.specs.Regions.{region, range_of}
use Rattle.committed_log.specs.Repeats.{repeats_op, repeats_among, repeated_from, repeats_in, repeated_in, repeats, repeated_at, AreRepeats}
use Rattle.committed_log.specs.Store.{Store, after_op, cleared}
use Rattle.committed_log.proofs.Entries.{none_of_nil}
use Rattle.committed_log.proofs.Longer.{get_same, get_longer, at_same}
use Rattle.committed_log.proofs.NextPositions.{get_last}
use Rattle.committed_log.proofs.Pushed.{at_end}

-- ---- lists that rise

-- each number is at least the one before, and the first at least lo
pub Rises : ℕ → List ℕ → Type 0
Rises lo [] = Unit {0}
Rises lo (x ∷ xs) = (lo ≤ x) × Rises x xs

rises_less : (a b : ℕ) (xs : List ℕ) → b ≤ a → Rises a xs → Rises b xs
unfolding Rises
rises_less a b [] le h = tt
rises_less a b (x ∷ xs) le h = (omega (arith, le, h.0), h.1)

at_least : (lo : ℕ) (xs : List ℕ) → Rises lo xs → (j : ℕ) → j < length xs → lo ≤ get_or xs j 0
unfolding Rises
at_least lo [] h j less = absurd (omega (arith, less))
at_least lo (x ∷ xs) h zero less = h.0
at_least lo (x ∷ xs) h (suc j) less = let rest = at_least x xs h.1 j (omega (arith, less)) in omega (arith, rest, h.0)

rise : (lo : ℕ) (xs : List ℕ) → Rises lo xs → (i j : ℕ) → i ≤ j → j < length xs → get_or xs i 0 ≤ get_or xs j 0
unfolding Rises
rise lo [] h i j le less = absurd (omega (arith, less))
rise lo (x ∷ xs) h zero zero le less = omega arith
rise lo (x ∷ xs) h zero (suc j) le less = at_least x xs h.1 j (omega (arith, less))
rise lo (x ∷ xs) h (suc i) zero le less = absurd (omega (arith, le))
rise lo (x ∷ xs) h (suc i) (suc j) le less = rise x xs h.1 i j (omega (arith, le)) (omega (arith, less))

any_index : (t : ℕ → Bool) (xs : List ℕ) → list_any t xs ≡ true → (i : ℕ) × (i < length xs) × (t (get_or xs i 0) ≡ true)
any_index t [] e = absurd (true≢false (sym e))
any_index t (x ∷ xs) e = by (any_index t xs) (t x) refl e
  where
    by : (list_any t xs ≡ true → (i : ℕ) × (i < length xs) × (t (get_or xs i 0) ≡ true)) → (b : Bool) → t x ≡ b → (b || list_any t xs) ≡ true → (i : ℕ) × (i < suc (length xs)) × (t (get_or (x ∷ xs) i 0) ≡ true)
    by later true is e = (0, omega arith, is)
    by later false is e = let rest = later e in (suc rest.0, omega (arith, rest.1), rest.2)

same_is : (a b : ℕ) → a ≡ b → (a == b) ≡ true
same_is a b e = grind arith

is_same : (a b : ℕ) → (a == b) ≡ true → a ≡ b
is_same a b e = grind arith

-- a binary search in such a list finds what is among its numbers
pub sought : (lo : ℕ) (xs : List ℕ) (x : ℕ) (r : Result ℕ ℕ) → Rises lo xs → IsBinarySearchResult (λ y. nat_cmp y x) xs r → is_ok r ≡ list_any (λ y. y == x) xs
sought lo xs x (Ok i) rises h = let found = searched xs x (Ok i) h (rise lo xs rises) in sym (list_any_at (λ y. y == x) xs i 0 found.0 (same_is (get_or xs i 0) x found.1))
sought lo xs x (Err k) rises h = by (list_any (λ y. y == x) xs) refl
  where
    apart : (i : ℕ) → i < length xs → get_or xs i 0 ≡ x → ⊥
    apart i less e = elim (low_or i k) [
      | inl low ↦ let below = (searched xs x (Err k) h (rise lo xs rises)).1 i low in omega (arith, below, e)
      | inr high ↦ let above = (searched xs x (Err k) h (rise lo xs rises)).2 i high less in omega (arith, above, e)
    ]
      where
        low_or : (i k : ℕ) → (i < k) ⊎ (k ≤ i)
        low_or i k = grind arith

    by : (b : Bool) → list_any (λ y. y == x) xs ≡ b → false ≡ b
    by false is = refl
    by true is = let at = any_index (λ y. y == x) xs is in absurd (apart at.0 at.1 (is_same (get_or xs at.0 0) x at.2))

-- ---- the places of an entry's ops

module _ (table : ℤ) (range : HandleRange) (p : ℕ) where
  pub places_rise : (s : Store) (k : ℕ) (ops : List Op) → Rises k (repeated_from table range p s k ops)
  unfolding Rises
  places_rise s k [] = tt
  places_rise s k (op ∷ ops) = by (repeats_op table range s op) (rises_less (suc k) k _ (omega arith) (places_rise (after_op table range p s op) (suc k) ops))
    where
      by : (b : Bool) → Rises k (repeated_from table range p (after_op table range p s op) (suc k) ops) → Rises k (cond b (k ∷ []) [] ++ repeated_from table range p (after_op table range p s op) (suc k) ops)
      by true rest = (omega arith, rest)
      by false rest = rest

  none_below : (s : Store) (k : ℕ) (ops : List Op) (x : ℕ) → x < k → list_any (λ y. y == x) (repeated_from table range p s k ops) ≡ false
  none_below s k ops x less = by (list_any (λ y. y == x) (repeated_from table range p s k ops)) refl
    where
      by : (b : Bool) → list_any (λ y. y == x) (repeated_from table range p s k ops) ≡ b → b ≡ false
      by false is = refl
      by true is =
          let at = any_index (λ y. y == x) (repeated_from table range p s k ops) is in
          let high = at_least k (repeated_from table range p s k ops) (places_rise s k ops) at.0 at.1 in
          let same = is_same (get_or (repeated_from table range p s k ops) at.0 0) x at.2 in
          absurd (omega (arith, high, same, less))

  head_any : (b : Bool) (k x : ℕ) → list_any (λ y. y == x) (cond b (k ∷ []) []) ≡ cond b ((k == x) || false) false
  head_any true k x = refl
  head_any false k x = refl

  not_same : (k x j : ℕ) → x ≡ k + suc j → (k == x) ≡ false
  not_same k x j e = grind arith

  pub among_places : (s : Store) (k : ℕ) (ops : List Op) (x j : ℕ) → x ≡ k + j → list_any (λ y. y == x) (repeated_from table range p s k ops) ≡ repeats_among table range p s ops j
  among_places s k [] x j e = sym (ap (λ o. elim o [ None ↦ false | Some op ↦ repeats_op table range s op ]) (none_of_nil {X = Op} j))
  among_places s k (op ∷ ops) x zero e =
      list_any-append (λ y. y == x) (cond (repeats_op table range s op) (k ∷ []) []) (repeated_from table range p (after_op table range p s op) (suc k) ops)
      ∙ (λ i. head_any (repeats_op table range s op) k x i || none_below (after_op table range p s op) (suc k) ops x (omega (arith, e)) i)
      ∙ by (repeats_op table range s op)
    where
      here : (k == x) ≡ true
      here = same_is k x (omega (arith, e))

      by : (b : Bool) → (cond b ((k == x) || false) false || false) ≡ b
      by true = ap (λ c. (c || false) || false) here
      by false = refl
  among_places s k (op ∷ ops) x (suc j) e =
      list_any-append (λ y. y == x) (cond (repeats_op table range s op) (k ∷ []) []) (repeated_from table range p (after_op table range p s op) (suc k) ops)
      ∙ (λ i. head_any (repeats_op table range s op) k x i || among_places (after_op table range p s op) (suc k) ops x j (omega (arith, e)) i)
      ∙ by (repeats_op table range s op)
    where
      by : (b : Bool) → (cond b ((k == x) || false) false || repeats_among table range p (after_op table range p s op) ops j) ≡ repeats_among table range p (after_op table range p s op) ops j
      by true = ap (λ c. (c || false) || repeats_among table range p (after_op table range p s op) ops j) (not_same k x j e)
      by false = refl

-- ---- entries

in_places : (table : ℤ) (p : ℕ) (s : Store) (r : ℕ) (b : Body) (k : ℕ) → list_any (λ y. y == k) (repeated_in table p s r b) ≡ repeats_in table p s r b k
in_places table p s r (body.Write ops) k = by (range_of (region s.regions r))
  where
    by : (o : Option HandleRange) → list_any (λ y. y == k) (elim o [ None ↦ [] | Some range ↦ repeated_from table range p s 0 ops ]) ≡ elim o [ None ↦ false | Some range ↦ repeats_among table range p s ops k ]
    by None = refl
    by (Some range) = among_places table range p s 0 ops k k (omega arith)
in_places table p s r (body.Install conf_ver version low high ops) k = among_places table (record { low = low; high = high }) p (cleared (record { low = low; high = high }) s) 0 ops k k (omega arith)
in_places table p s r (body.Open conf_ver version low high) k = refl
in_places table p s r (body.Split handle child) k = refl
in_places table p s r (body.Prepare target) k = refl
in_places table p s r (body.Commit source) k = refl
in_places table p s r body.Remove k = refl
in_places table p s r body.Empty k = refl

in_rise : (table : ℤ) (p : ℕ) (s : Store) (r : ℕ) (b : Body) → Rises 0 (repeated_in table p s r b)
unfolding Rises
in_rise table p s r (body.Write ops) = by (range_of (region s.regions r))
  where
    by : (o : Option HandleRange) → Rises 0 (elim o [ None ↦ [] | Some range ↦ repeated_from table range p s 0 ops ])
    by None = tt
    by (Some range) = places_rise table range p s 0 ops
in_rise table p s r (body.Install conf_ver version low high ops) = places_rise table (record { low = low; high = high }) p (cleared (record { low = low; high = high }) s) 0 ops
in_rise table p s r (body.Open conf_ver version low high) = tt
in_rise table p s r (body.Split handle child) = tt
in_rise table p s r (body.Prepare target) = tt
in_rise table p s r (body.Commit source) = tt
in_rise table p s r body.Remove = tt
in_rise table p s r body.Empty = tt

some_list : {x y : List ℕ} → Some x ≡ Some y → x ≡ y
some_list e = cc e

module _ (log : Log) where
  pub at_places : (p k : ℕ) → list_any (λ y. y == k) (repeated_at log p) ≡ repeats log p k
  at_places p k = by (slice_get log.entries p)
    where
      by : (o : Option Entry) → list_any (λ y. y == k) (elim o [ None ↦ [] | Some e ↦ repeated_in log.table p (at log p) e.region e.body ]) ≡ elim o [ None ↦ false | Some e ↦ repeats_in log.table p (at log p) e.region e.body k ]
      by None = refl
      by (Some e) = in_places log.table p (at log p) e.region e.body k

  at_rise : (p : ℕ) → Rises 0 (repeated_at log p)
  unfolding Rises
  at_rise p = by (slice_get log.entries p)
    where
      by : (o : Option Entry) → Rises 0 (elim o [ None ↦ [] | Some e ↦ repeated_in log.table p (at log p) e.region e.body ])
      by None = tt
      by (Some e) = in_rise log.table p (at log p) e.region e.body

  -- what a binary search in the places of an entry answers
  pub found_is_repeat : (p k : ℕ) (list : List ℕ) (r : Result ℕ ℕ) → list ≡ repeated_at log p → IsBinarySearchResult (λ y. nat_cmp y k) list r → is_ok r ≡ repeats log p k
  found_is_repeat p k list r is h = sought 0 list k r (subst (Rises 0) (sym is) (at_rise p)) h ∙ ap (list_any (λ y. y == k)) is ∙ at_places p k

  -- from the list of lists
  pub found_in_lists : (lists : List (List ℕ)) (p k : ℕ) (list : List ℕ) (r : Result ℕ ℕ) → AreRepeats log lists → p < length log.entries → slice_get lists p ≡ Some list → IsBinarySearchResult (λ y. nat_cmp y k) list r → is_ok r ≡ repeats log p k
  found_in_lists lists p k list r are less is h = found_is_repeat p k list r (some_list (sym is ∙ are.each p less)) h

  -- one entry more
  module _ (e : Entry) (lists : List (List ℕ)) (are : AreRepeats log lists) where
    pub repeats_push : (list : List ℕ) → list ≡ repeated_in log.table (length log.entries) (end log) e.region e.body → AreRepeats (pushed log e) (lists ++ list ∷ [])
    repeats_push list is = record {
      count = omega (arith, length-append lists (list ∷ []), length-append log.entries (e ∷ []), are.count);
      each = λ q less. by q (low_or q (length log.entries) (omega (arith, less, length-append log.entries (e ∷ []))));
    }
      where
        low_or : (q n : ℕ) → q < suc n → (q < n) ⊎ (q ≡ n)
        low_or q n h = grind arith

        old : (q : ℕ) → q < length log.entries → repeated_at (pushed log e) q ≡ repeated_at log q
        old q less = (λ i. elim (get_longer log (e ∷ []) q less i) [ None ↦ [] | Some x ↦ repeated_in log.table q (at_same log (e ∷ []) q (omega (arith, less)) i) x.region x.body ])

        new : repeated_at (pushed log e) (length log.entries) ≡ list
        new = (λ i. elim (get_last log.entries e i) [ None ↦ [] | Some x ↦ repeated_in log.table (length log.entries) ((at_same log (e ∷ []) (length log.entries) (omega arith) ∙ at_end log) i) x.region x.body ]) ∙ sym is

        last_list : (n : ℕ) → length lists ≡ n → slice_get (lists ++ list ∷ []) n ≡ Some list
        last_list n same = ap (slice_get (lists ++ list ∷ [])) (sym same) ∙ get_last lists list

        by : (q : ℕ) → (q < length log.entries) ⊎ (q ≡ length log.entries) → slice_get (lists ++ list ∷ []) q ≡ Some (repeated_at (pushed log e) q)
        by q (inl low) = get_same lists (list ∷ []) q (omega (arith, low, are.count)) ∙ are.each q low ∙ ap (λ l. Some l) (sym (old q low))
        by q (inr same) = ap (slice_get (lists ++ list ∷ [])) same ∙ last_list (length log.entries) are.count ∙ ap (λ l. Some l) (sym new) ∙ ap (λ n. Some (repeated_at (pushed log e) n)) (sym same)
