-- What is kept of a block: place by place, whether it rises, and what it shows.
use Rattle.std.proofs.Common.{◌≡◌, ◌∙◌, ℕ, ℤ, zero, suc, ◌+◌, ◌<◌, ◌≤◌, List, [], ◌∷◌, ◌++◌, Bool, true, false, not, ◌||◌, ◌&&◌, cond, Option, Some, None, map, drop, length, slice_get, get_or, nat_lt, nat_le, int_le, int_lt, refl, sym, ap, arith, drop-cons, true≢false, add-one}
use Rattle.std.specs.Option.{option_or, option_and_then}
use Rattle.std.specs.List.{All, AllPairs}
use Rattle.std.specs.Ordering.{int_eq, int_cmp, nat_cmp, ordering_then}
use Rattle.std.specs.declared.cmp.Ordering.{Ordering}
use Rattle.std.specs.declared.cmp.Ordering.TheVariants.{Less, Equal, Greater}
use Rattle.std.proofs.lemmas.List.Elements.{All-head, All-tail, All-cons}
use Rattle.std.proofs.lemmas.Int.{ints}
use Rattle.std.proofs.lemmas.List.Kept.{AllPairs-cons}
use Rattle.std.proofs.lemmas.List.{map-append}
use Rattle.std.proofs.Common.{append_assoc}
use Rattle.std.proofs.lemmas.Option.{get_or_from_slice_get, slice_get_within}
use Rattle.column_block.specs.declared.cell.Version.{Version}
use Rattle.version_gc.specs.Keep.{is_kept, keep}
use Rattle.column_block.specs.Order.{version_cmp, Rise}
use Rattle.version_gc.specs.Shown.{newest, cells_of, shown}

-- ---- place by place

drop_here : {X : Type 0} (xs : List X) (i : ℕ) (x : X) → slice_get xs i ≡ Some x → drop i xs ≡ x ∷ drop (i + 1) xs
drop_here xs i x e =
    let within : i < length xs = slice_get_within xs i x e in
    let at : get_or xs i x ≡ x = get_or_from_slice_get xs i x x e in
    rw (add-one, drop-cons xs i x, at) refl

kept_or_not : (safe : ℕ) (v : Version) (vs : List Version) (b : Bool) → is_kept safe v vs ≡ b → map Some (keep safe (v ∷ vs)) ≡ cond b (Some v ∷ []) [] ++ map Some (keep safe vs)
kept_or_not safe v vs true is = ap (λ b. map Some (cond b (v ∷ keep safe vs) (keep safe vs))) is
kept_or_not safe v vs false is = ap (λ b. map Some (cond b (v ∷ keep safe vs) (keep safe vs))) is

-- what is kept from a place on
pub kept_here : (safe : ℕ) (vs : List Version) (i : ℕ) (v : Version) (b : Bool) → slice_get vs i ≡ Some v → is_kept safe v (drop (i + 1) vs) ≡ b
    → map Some (keep safe (drop i vs)) ≡ cond b (slice_get vs i ∷ []) [] ++ map Some (keep safe (drop (i + 1) vs))
kept_here safe vs i v b e is = ap (λ xs. map Some (keep safe xs)) (drop_here vs i v e) ∙ kept_or_not safe v (drop (i + 1) vs) b is ∙ ap (λ o. cond b (o ∷ []) [] ++ map Some (keep safe (drop (i + 1) vs))) (sym e)

pub kept_above : (safe : ℕ) (v : Version) (vs : List Version) → nat_lt safe v.ts ≡ true → is_kept safe v vs ≡ true
kept_above safe v [] above = ap (λ b. b || not v.gone) above
kept_above safe v (w ∷ ws) above = ap (λ b. b || (cond (int_eq w.handle v.handle) (nat_lt safe w.ts) (not v.gone))) above

-- beside a next version of the same handle
pub kept_beside : (safe : ℕ) (vs : List Version) (i : ℕ) (v w : Version) → slice_get vs (i + 1) ≡ Some w → nat_lt safe v.ts ≡ false → int_eq w.handle v.handle ≡ true → is_kept safe v (drop (i + 1) vs) ≡ nat_lt safe w.ts
kept_beside safe vs i v w e low same = ap (is_kept safe v) (drop_here vs (i + 1) w e) ∙ (λ k. low k || cond (same k) (nat_lt safe w.ts) (not v.gone))

pub kept_alone : (safe : ℕ) (vs : List Version) (i : ℕ) (v w : Version) → slice_get vs (i + 1) ≡ Some w → nat_lt safe v.ts ≡ false → int_eq w.handle v.handle ≡ false → is_kept safe v (drop (i + 1) vs) ≡ not v.gone
kept_alone safe vs i v w e low apart = ap (is_kept safe v) (drop_here vs (i + 1) w e) ∙ (λ k. low k || cond (apart k) (nat_lt safe w.ts) (not v.gone))

drop_past : {X : Type 0} (xs : List X) (i : ℕ) → length xs ≤ i → drop i xs ≡ []
drop_past [] zero le = refl
drop_past [] (suc i) le = refl
drop_past (x ∷ xs) zero le = absurd (omega arith)
drop_past (x ∷ xs) (suc i) le = drop_past xs i (omega arith)

pub kept_last : (safe : ℕ) (vs : List Version) (i : ℕ) (v : Version) → length vs ≤ i + 1 → nat_lt safe v.ts ≡ false → is_kept safe v (drop (i + 1) vs) ≡ not v.gone
kept_last safe vs i v past low = ap (is_kept safe v) (drop_past vs (i + 1) past) ∙ ap (λ b. b || not v.gone) low

-- one more place
pub place_added : (vs : List Version) (safe i : ℕ) (places now : List ℕ) → map (slice_get vs) places ++ map Some (keep safe (drop i vs)) ≡ map Some (keep safe vs)
    → map Some (keep safe (drop i vs)) ≡ (slice_get vs i ∷ []) ++ map Some (keep safe (drop (i + 1) vs)) → now ≡ places ++ i ∷ []
    → map (slice_get vs) now ++ map Some (keep safe (drop (i + 1) vs)) ≡ map Some (keep safe vs)
place_added vs safe i places now so_far here is =
    ap (λ xs. map (slice_get vs) xs ++ map Some (keep safe (drop (i + 1) vs))) is
    ∙ ap (λ xs. xs ++ map Some (keep safe (drop (i + 1) vs))) (map-append (slice_get vs) places (i ∷ []))
    ∙ append_assoc (map (slice_get vs) places) (slice_get vs i ∷ []) (map Some (keep safe (drop (i + 1) vs)))
    ∙ ap (λ xs. map (slice_get vs) places ++ xs) (sym here) ∙ so_far

none_after : {X : Type 0} (xs ys : List X) → xs ++ [] ≡ ys → xs ≡ ys
none_after [] ys e = e
none_after (x ∷ xs) [] e = cc e
none_after (x ∷ xs) (y ∷ ys) e = (let f : x ≡ y = cc e in let g : xs ++ [] ≡ ys = cc e in let k = none_after xs ys g in cc)

same_items : {X : Type 0} (xs ys : List X) → map {A = X} {B = Option X} Some xs ≡ map Some ys → xs ≡ ys
same_items [] [] e = refl
same_items [] (y ∷ ys) e = cc e
same_items (x ∷ xs) [] e = cc e
same_items (x ∷ xs) (y ∷ ys) e = (let f : x ≡ y = cc e in let g : map {A = _} {B = Option _} Some xs ≡ map Some ys = cc e in let k = same_items xs ys g in cc)

pub places_end : (vs block : List Version) (safe i : ℕ) (places : List ℕ) → length vs ≤ i → map (slice_get vs) places ++ map Some (keep safe (drop i vs)) ≡ map Some (keep safe vs) → map Some block ≡ map (slice_get vs) places → block ≡ keep safe vs
places_end vs block safe i places past so_far is =
    same_items block (keep safe vs) (is ∙ none_after (map (slice_get vs) places) (map Some (keep safe vs)) (ap (λ xs. map (slice_get vs) places ++ map Some (keep safe xs)) (sym (drop_past vs i past)) ∙ so_far))

-- ---- what rises

pub first_of : {X : Type 0} (R : X → X → Type 0) (x : X) (xs : List X) → AllPairs R (x ∷ xs) → All (R x) xs
first_of R x xs all = λ j d less. all 0 (suc j) d (omega arith) (omega (arith, less))

pub rest_of : {X : Type 0} (R : X → X → Type 0) (x : X) (xs : List X) → AllPairs R (x ∷ xs) → AllPairs R xs
rest_of R x xs all = λ i j d less low. all (suc i) (suc j) d (omega (arith, less)) (omega (arith, low))

all_kept : (P : Version → Type 0) (safe : ℕ) (vs : List Version) → All P vs → All P (keep safe vs)
all_kept P safe [] all = all
all_kept P safe (v ∷ vs) all = by (is_kept safe v vs) (all_kept P safe vs (All-tail P v vs all))
  where
    by : (b : Bool) → All P (keep safe vs) → All P (cond b (v ∷ keep safe vs) (keep safe vs))
    by true rest = All-cons P v (keep safe vs) (All-head P v vs all) rest
    by false rest = rest

abbrev pub Pair : Version → Version → Type 0
Pair v w = version_cmp v w ≡ Less

pub kept_rise : (safe : ℕ) (vs : List Version) → Rise vs → Rise (keep safe vs)
kept_rise safe [] rise = rise
kept_rise safe (v ∷ vs) rise = by (is_kept safe v vs) (kept_rise safe vs (rest_of Pair v vs rise))
  where
    by : (b : Bool) → Rise (keep safe vs) → Rise (cond b (v ∷ keep safe vs) (keep safe vs))
    by true rest = AllPairs-cons Pair v (keep safe vs) (all_kept (Pair v) safe vs (first_of Pair v vs rise)) rest
    by false rest = rest

-- ---- what is shown

-- behind a version of the handle, its versions are newer
later : (v w : Version) → Pair v w → v.handle ≡ w.handle → v.ts < w.ts
later v w e same = by (int_cmp v.handle w.handle) refl e
  where
    unlike : (a b : ℤ) → int_cmp a b ≡ Less → a ≡ b → ⊥
    unlike a b e same = grind (arith, ints)

    less : (x y : ℕ) → nat_cmp x y ≡ Less → x < y
    less x y e = grind arith

    by : (o : Ordering) → int_cmp v.handle w.handle ≡ o → ordering_then o (nat_cmp v.ts w.ts) ≡ Less → v.ts < w.ts
    by Less is e = absurd (unlike v.handle w.handle is same)
    by Equal is e = less v.ts w.ts e
    by Greater is e = cc e

pub not_below : (v w : Version) → Pair v w → int_le v.handle w.handle ≡ true
not_below v w e = by (int_cmp v.handle w.handle) refl e
  where
    up : (a b : ℤ) → int_cmp a b ≡ Less → int_le a b ≡ true
    up a b e = grind (arith, ints)

    level : (a b : ℤ) → int_cmp a b ≡ Equal → int_le a b ≡ true
    level a b e = grind (arith, ints)

    by : (o : Ordering) → int_cmp v.handle w.handle ≡ o → ordering_then o (nat_cmp v.ts w.ts) ≡ Less → int_le v.handle w.handle ≡ true
    by Less is e = up v.handle w.handle is
    by Equal is e = level v.handle w.handle is
    by Greater is e = cc e

abbrev one : ℕ → ℤ → Version → Option Version
one ts h v = cond (int_eq v.handle h && nat_le v.ts ts) (Some v) None

or_none : {X : Type 0} (o : Option X) → option_or o None ≡ o
or_none None = refl
or_none (Some x) = refl

-- each of the handle's versions is above the safe point
abbrev Above : ℕ → ℤ → Version → Type 0
Above safe h v = int_eq v.handle h ≡ true → nat_lt safe v.ts ≡ true

-- where all of a handle are above the safe point, the newest one stays
newest_above : (safe ts : ℕ) (h : ℤ) (vs : List Version) → All (Above safe h) vs → newest ts h (keep safe vs) ≡ newest ts h vs
newest_above safe ts h [] all = refl
newest_above safe ts h (v ∷ vs) all = by (is_kept safe v vs) (int_eq v.handle h) refl refl (newest_above safe ts h vs (All-tail (Above safe h) v vs all))
  where
    by : (k b : Bool) → is_kept safe v vs ≡ k → int_eq v.handle h ≡ b → newest ts h (keep safe vs) ≡ newest ts h vs → newest ts h (cond k (v ∷ keep safe vs) (keep safe vs)) ≡ option_or (newest ts h vs) (one ts h v)
    by true b is on rest = ap (λ o. option_or o (one ts h v)) rest
    by false true is on rest = absurd (true≢false (sym (kept_above safe v vs (All-head (Above safe h) v vs all on)) ∙ is))
    by false false is on rest = rest ∙ sym (or_none (newest ts h vs)) ∙ ap (λ b. option_or (newest ts h vs) (cond (b && nat_le v.ts ts) (Some v) None)) (sym on)

-- none of the versions is on the handle
abbrev Apart : ℤ → Version → Type 0
Apart h v = int_eq v.handle h ≡ false

newest_apart : (ts : ℕ) (h : ℤ) (vs : List Version) → All (Apart h) vs → newest ts h vs ≡ None
newest_apart ts h [] all = refl
newest_apart ts h (v ∷ vs) all = (λ i. option_or (newest_apart ts h vs (All-tail (Apart h) v vs all) i) (cond (All-head (Apart h) v vs all i && nat_le v.ts ts) (Some v) None))

module _ (h : ℤ) where
  past : (a b : ℤ) → int_lt h a ≡ true → int_le a b ≡ true → int_eq b h ≡ false
  past a b less le = grind (arith, ints)

  above : (a b : ℤ) → int_eq a h ≡ true → int_le a b ≡ true → int_eq b a ≡ false → int_lt h b ≡ true
  above a b is le apart = grind (arith, ints)

  beside : (a b : ℤ) → int_eq a h ≡ true → int_eq b a ≡ true → int_eq b h ≡ true
  beside a b e f = grind (arith, ints)

  same : (a b : ℤ) → int_eq a h ≡ true → int_eq b h ≡ true → a ≡ b
  same a b e f = grind (arith, ints)

  apart_behind : (v w : Version) (ws : List Version) → int_eq v.handle h ≡ true → Rise (v ∷ w ∷ ws) → int_eq w.handle v.handle ≡ false → All (Apart h) (w ∷ ws)
  apart_behind v w ws on rise apart =
      let higher : int_lt h w.handle ≡ true = above v.handle w.handle on (not_below v w (All-head (Pair v) w ws (first_of Pair v (w ∷ ws) rise))) apart in
      let reflexive : (a : ℤ) → int_le a a ≡ true = λ a. le_same a in
      All-cons (Apart h) w ws (past w.handle w.handle higher (reflexive w.handle)) (λ j d less. past w.handle (get_or ws j d).handle higher (not_below w (get_or ws j d) (first_of Pair w ws (rest_of Pair v (w ∷ ws) rise) j d less)))
    where
      le_same : (a : ℤ) → int_le a a ≡ true
      le_same a = grind (arith, ints)

  module _ (safe : ℕ) where
    -- behind a version of the handle that is above the safe point all of the handle are
    above_behind : (v : Version) (vs : List Version) → int_eq v.handle h ≡ true → nat_lt safe v.ts ≡ true → All (Pair v) vs → All (Above safe h) vs
    above_behind v vs on high all = λ j d less is. higher v.ts (get_or vs j d).ts high (later v (get_or vs j d) (all j d less) (same v.handle (get_or vs j d).handle on is))
      where
        higher : (a b : ℕ) → nat_lt safe a ≡ true → a < b → nat_lt safe b ≡ true
        higher a b e less = grind arith

    all_above : (v : Version) (vs : List Version) → int_eq v.handle h ≡ true → Rise (v ∷ vs) → is_kept safe v vs ≡ true → All (Above safe h) vs
    all_above v [] on rise is = λ j d less. absurd (omega (arith, less))
    all_above v (w ∷ ws) on rise is = by (nat_lt safe v.ts) (int_eq w.handle v.handle) refl refl is
      where
        by : (a b : Bool) → nat_lt safe v.ts ≡ a → int_eq w.handle v.handle ≡ b → (a || cond b (nat_lt safe w.ts) (not v.gone)) ≡ true → All (Above safe h) (w ∷ ws)
        by true b high next is = above_behind v (w ∷ ws) on high (first_of Pair v (w ∷ ws) rise)
        by false true low next is = All-cons (Above safe h) w ws (λ e. is) (above_behind w ws (beside v.handle w.handle on next) is (first_of Pair w ws (rest_of Pair v (w ∷ ws) rise)))
        by false false low next is = λ j d less e. absurd (true≢false (sym e ∙ apart_behind v w ws on rise next j d less))

some_or : {X : Type 0} (o p : Option X) (x : X) → option_or (option_or o (Some x)) p ≡ option_or o (Some x)
some_or None p x = refl
some_or (Some y) p x = refl

gone_of : (g : Bool) → not g ≡ false → g ≡ true
gone_of true e = refl
gone_of false e = absurd (true≢false e)

or_false : (a b : Bool) → (a || b) ≡ false → (a ≡ false) × (b ≡ false)
or_false true b e = absurd (true≢false e)
or_false false b e = (refl, e)

up_to : (safe ts t : ℕ) → nat_lt safe t ≡ false → safe ≤ ts → nat_le t ts ≡ true
up_to safe ts t e le = grind arith

module _ (safe ts : ℕ) (h : ℤ) (le : safe ≤ ts) where
  -- what is left out isn't missed
  unmissed : (v : Version) (vs : List Version) → int_eq v.handle h ≡ true → Rise (v ∷ vs) → is_kept safe v vs ≡ false → shown ts h (keep safe vs) ≡ shown ts h vs
      → shown ts h (keep safe vs) ≡ option_and_then cells_of (option_or (newest ts h vs) (Some v))
  unmissed v [] on rise is rest = ap (λ g. cond g None (Some v.cells)) (sym (gone_of v.gone (or_false (nat_lt safe v.ts) (not v.gone) is).1))
  unmissed v (w ∷ ws) on rise is rest = by (int_eq w.handle v.handle) refl (or_false (nat_lt safe v.ts) (cond (int_eq w.handle v.handle) (nat_lt safe w.ts) (not v.gone)) is).1
    where
      by : (b : Bool) → int_eq w.handle v.handle ≡ b → cond b (nat_lt safe w.ts) (not v.gone) ≡ false → shown ts h (keep safe (w ∷ ws)) ≡ option_and_then cells_of (option_or (newest ts h (w ∷ ws)) (Some v))
      by true next low =
          let here : newest ts h (w ∷ ws) ≡ option_or (newest ts h ws) (Some w) = (λ i. option_or (newest ts h ws) (cond (beside h v.handle w.handle on next i && up_to safe ts w.ts low le i) (Some w) None)) in
          rest ∙ ap (option_and_then cells_of) (here ∙ sym (some_or (newest ts h ws) (Some v) w) ∙ ap (λ o. option_or o (Some v)) (sym here))
      by false next dead =
          let none : newest ts h (w ∷ ws) ≡ None = newest_apart ts h (w ∷ ws) (apart_behind h v w ws on rise next) in
          rest ∙ ap (option_and_then cells_of) none ∙ ap (λ g. cond g None (Some v.cells)) (sym (gone_of v.gone dead)) ∙ ap (λ o. option_and_then cells_of (option_or o (Some v))) (sym none)

  pub same_shown : (vs : List Version) → Rise vs → shown ts h (keep safe vs) ≡ shown ts h vs
  same_shown [] rise = refl
  same_shown (v ∷ vs) rise = by (is_kept safe v vs) (int_eq v.handle h) (nat_le v.ts ts) refl refl refl (same_shown vs (rest_of Pair v vs rise))
    where
      -- a version that isn't read changes nothing
      unread : (k : Bool) (o p : Option Version) → p ≡ None → option_and_then cells_of o ≡ shown ts h vs → option_and_then cells_of (option_or o p) ≡ option_and_then cells_of (option_or (newest ts h vs) p)
      unread k o p is rest = ap (λ q. option_and_then cells_of (option_or o q)) is ∙ ap (option_and_then cells_of) (or_none o) ∙ rest ∙ ap (option_and_then cells_of) (sym (or_none (newest ts h vs))) ∙ ap (λ q. option_and_then cells_of (option_or (newest ts h vs) q)) (sym is)

      left_out : (p : Option Version) → p ≡ None → shown ts h (keep safe vs) ≡ shown ts h vs → shown ts h (keep safe vs) ≡ option_and_then cells_of (option_or (newest ts h vs) p)
      left_out p is rest = rest ∙ ap (option_and_then cells_of) (sym (or_none (newest ts h vs))) ∙ ap (λ q. option_and_then cells_of (option_or (newest ts h vs) q)) (sym is)

      by : (k a b : Bool) → is_kept safe v vs ≡ k → int_eq v.handle h ≡ a → nat_le v.ts ts ≡ b → shown ts h (keep safe vs) ≡ shown ts h vs → shown ts h (cond k (v ∷ keep safe vs) (keep safe vs)) ≡ option_and_then cells_of (option_or (newest ts h vs) (one ts h v))
      by true false b is on low rest = unread true (newest ts h (keep safe vs)) (one ts h v) (λ i. cond (on i && nat_le v.ts ts) (Some v) None) rest
      by true true false is on low rest = unread true (newest ts h (keep safe vs)) (one ts h v) (λ i. cond (on i && low i) (Some v) None) rest
      by true true true is on low rest = ap (λ o. option_and_then cells_of (option_or o (one ts h v))) (newest_above safe ts h vs (all_above h safe v vs on rise is))
      by false false b is on low rest = left_out (one ts h v) (λ i. cond (on i && nat_le v.ts ts) (Some v) None) rest
      by false true false is on low rest = left_out (one ts h v) (λ i. cond (on i && low i) (Some v) None) rest
      by false true true is on low rest = unmissed v vs on rise is rest ∙ sym (λ i. option_and_then cells_of (option_or (newest ts h vs) (cond (on i && low i) (Some v) None)))
