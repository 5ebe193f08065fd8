-- What the tests of packs and of rows tell.
use Rattle.std.proofs.Common.{◌≡◌, ◌∙◌, refl, sym, ap, subst, ℕ, zero, suc, ℤ, ◌+◌, ◌-◌, ◌<◌, ◌≤◌, ◌<ℤ◌, ◌≤ℤ◌, Bool, true, false, true≢false, cond, ◌&&◌, ◌||◌, List, [], ◌∷◌, ◌++◌, Option, Some, None, length, map, take, drop, slice_get, slice_index_or, option_map, arith, add-one}
use Rattle.std.specs.Prelude.{int_le, int_lt}
use Rattle.std.specs.List.{AllByRecursion, list_any}
use Rattle.std.specs.List.Sorted.{IsStrictlySortedBy}
use Rattle.std.specs.Map.{keys_of}
use Rattle.std.specs.Ordering.{int_eq, int_cmp, nat_cmp, ordering_then}
use Rattle.std.specs.declared.cmp.Ordering.{Ordering}
use Rattle.std.specs.declared.cmp.Ordering.TheVariants.{Less, Equal, Greater}
use Rattle.std.proofs.lemmas.Int.{ints}
use Rattle.std.proofs.lemmas.List.{map-append, take_all}
use Rattle.column_block.specs.declared.cell.Version.{Version}
use Rattle.column_block.specs.declared.column.Bound.{Bound}
use Rattle.column_block.specs.declared.column.MinMax.{MinMax}
use Rattle.column_block.specs.declared.column.MinMax.TheVariants.{Empty}
use Rattle.column_block.specs.Order.{key_cmp}
use Rattle.column_block.proofs.Ordered.{Up, handle_le}
use Rattle.delta_index.specs.Indexes.{Entry, AreRising, IsFirstFrom}
use Rattle.sieve.specs.Sieves.{may_pass}
use Rattle.delta_layer.specs.declared.view.SegmentView.{SegmentView}
use Rattle.flash_types.specs.Ranges.{is_below}
use Rattle.learner_read.specs.declared.snapshot.Snapshot.{Snapshot}
use Rattle.stable_file.specs.declared.pack.Pack.{Pack}
use Rattle.learner_read.specs.Packs.{before_of, goes_on_from, goes_on_in, is_read, may_hold}
use Rattle.learner_read.specs.Parts.{AreAbove, AreBelow}
use Rattle.learner_read.specs.Scans.{Answers, Pass}
use Rattle.learner_read.proofs.Places.{same_items}
use Rattle.learner_read.specs.Scans.Pass.{Dropped, End, Kept}

-- ---- a field of a pack

pub field_at : {X : Type 0} (f : Pack → X) (packs : List Pack) (k : ℕ) (pack : Pack) (x : X) → slice_get packs k ≡ Some pack → slice_get (map f packs) k ≡ Some x → f pack ≡ x
field_at f [] k pack x at is = cc at
field_at f (p ∷ packs) zero pack x at is = (let same : p ≡ pack = cc at in let has : f p ≡ x = cc is in ap f (sym same) ∙ has)
field_at f (p ∷ packs) (suc k) pack x at is = field_at f packs k pack x at is

pub pack_at : (packs : List Pack) (k : ℕ) → k < length packs → (pack : Pack) × (slice_get packs k ≡ Some pack)
pack_at [] k lt = absurd (omega (arith, lt))
pack_at (p ∷ packs) zero lt = (p, refl)
pack_at (p ∷ packs) (suc k) lt = pack_at packs k (omega (arith, lt))

-- ---- which packs are read

pub all_may : (bound : Option Bound) (pack : Pack) → option_map (λ (b : Bound). b.column) bound ≡ None → true ≡ may_hold bound pack
all_may None pack none = refl
all_may (Some b) pack none = cc none

pub some_may : (bound : Option Bound) (packs : List Pack) (k : ℕ) (pack : Pack) (column : ℕ) (range : MinMax) (b : Bool) → slice_get packs k ≡ Some pack → Some column ≡ option_map (λ (b : Bound). b.column) bound → slice_get (map (λ (pack : Pack). slice_index_or pack.ranges column Empty) packs) k ≡ Some range → b ≡ may_pass bound column range → b ≡ may_hold bound pack
some_may None packs k pack column range b at is told may = cc is
some_may (Some x) packs k pack column range b at is told may =
    let same : column ≡ x.column = cc is in
    may ∙ ap (may_pass (Some x) column) (sym (field_at (λ (pack : Pack). slice_index_or pack.ranges column Empty) packs k pack range at told))
    ∙ ap (λ n. may_pass (Some x) n (slice_index_or pack.ranges n Empty)) same

not_lower : (k l : ℤ × ℕ) → key_cmp k l ≡ Less → k.0 ≤ℤ l.0
not_lower k l e = by (int_cmp k.0 l.0) refl e
  where
    lower : (a b : ℤ) → int_cmp a b ≡ Less → a ≤ℤ b
    lower a b e = grind (arith, ints)

    level : (a b : ℤ) → int_cmp a b ≡ Equal → a ≤ℤ b
    level a b e = grind (arith, ints)

    by : (o : Ordering) → int_cmp k.0 l.0 ≡ o → ordering_then o (nat_cmp k.1 l.1) ≡ Less → k.0 ≤ℤ l.0
    by Less is e = lower k.0 l.0 is
    by Equal is e = level k.0 l.0 is
    by Greater is e = cc e

abbrev pub Lies : ℤ → ℤ → Entry → Bool
Lies least greatest entry = int_le least entry.0.0 && int_le entry.0.0 greatest

under : (a b : ℤ) → a <ℤ b → int_le b a ≡ false
under a b less = grind (arith, ints)

over : (a b c : ℤ) → int_le a c ≡ false → a ≤ℤ b → int_le b c ≡ false
over a b c past le = grind (arith, ints)

from_it : (a b : ℤ) → a ≤ℤ b → int_le a b ≡ true
from_it a b le = grind (arith, ints)

and_false : (a b : Bool) → b ≡ false → (a && b) ≡ false
and_false true b e = e
and_false false b e = refl

none_lies : (least greatest : ℤ) (key : ℤ × ℕ) (entries : List Entry) → int_le key.0 greatest ≡ false → AllByRecursion (λ y. key_cmp key y ≡ Less) (keys_of entries) → list_any (Lies least greatest) entries ≡ false
none_lies least greatest key [] past above = refl
none_lies least greatest key (x ∷ entries) past above = ap (λ b. b || list_any (Lies least greatest) entries) (and_false (int_le least x.0.0) (int_le x.0.0 greatest) (over key.0 x.0.0 greatest past (not_lower key x.0 above.0))) ∙ none_lies least greatest key entries past above.1

-- none lies where all are lower
pub none_from : (least greatest : ℤ) (entries : List Entry) (place : ℕ) → ((k : ℕ) (entry : Entry) → k < place → slice_get entries k ≡ Some entry → entry.0.0 <ℤ least) → length entries ≤ place → false ≡ list_any (Lies least greatest) entries
none_from least greatest [] place before le = refl
none_from least greatest (x ∷ entries) place before le =
    none_from least greatest entries (place - 1) (λ k entry less at. before (suc k) entry (omega (arith, less, le)) at) (omega (arith, le))
    ∙ sym (ap (λ b. (b && int_le x.0.0 greatest) || list_any (Lies least greatest) entries) (under x.0.0 least (before zero x (omega (arith, le)) refl)))

-- the first from the least on tells
pub first_tells : (least greatest : ℤ) (entries : List Entry) (place : ℕ) (entry : Entry) → AreRising entries → ((k : ℕ) (e : Entry) → k < place → slice_get entries k ≡ Some e → e.0.0 <ℤ least) → least ≤ℤ entry.0.0 → slice_get entries place ≡ Some entry → int_le entry.0.0 greatest ≡ list_any (Lies least greatest) entries
unfolding IsStrictlySortedBy
first_tells least greatest [] place entry up before from at = cc at
first_tells least greatest (x ∷ entries) zero entry up before from at = by (int_le entry.0.0 greatest) refl
  where
    same : entry ≡ x
    same = cc (sym at)

    by : (b : Bool) → int_le entry.0.0 greatest ≡ b → b ≡ (Lies least greatest x || list_any (Lies least greatest) entries)
    by true is = sym (ap (λ (e : Entry). Lies least greatest e || list_any (Lies least greatest) entries) (sym same) ∙ (λ i. (from_it least entry.0.0 from i && is i) || list_any (Lies least greatest) entries))
    by false is = sym (ap (λ (e : Entry). Lies least greatest e || list_any (Lies least greatest) entries) (sym same) ∙ ap (λ b. b || list_any (Lies least greatest) entries) (and_false (int_le least entry.0.0) (int_le entry.0.0 greatest) is)
        ∙ none_lies least greatest x.0 entries (ap (λ (e : Entry). int_le e.0.0 greatest) (sym same) ∙ is) up.0)
first_tells least greatest (x ∷ entries) (suc place) entry up before from at =
    first_tells least greatest entries place entry up.1 (λ k e less there. before (suc k) e (omega (arith, less)) there) from at
    ∙ sym (ap (λ b. (b && int_le x.0.0 greatest) || list_any (Lies least greatest) entries) (under x.0.0 least (before zero x (omega arith) refl)))

-- ---- places of versions by their handles

lower_than : (a b c : ℤ) → a ≤ℤ b → b <ℤ c → a <ℤ c
lower_than a b c p q = omega (arith, ints, p, q)

higher_than : (a b c : ℤ) → a ≤ℤ b → b ≤ℤ c → a ≤ℤ c
higher_than a b c p q = omega (arith, ints, p, q)

all_above : (bound : ℤ) (v : Version) (vs : List Version) → Up (v ∷ vs) → bound ≤ℤ v.handle → AreAbove bound vs
all_above bound v [] up le = tt
all_above bound v (w ∷ vs) up le = (higher_than bound v.handle w.handle le (handle_le v w up.0.0), all_above bound v vs (up.0.1, up.1.1) le)

first_below : {bound : ℤ} (v w : Version) → v ≡ w → v.handle <ℤ bound → w.handle <ℤ bound
first_below {bound} v w same low = subst (λ (x : Version). x.handle <ℤ bound) same low

-- those up to one below a handle are below it
pub below_at : (bound : ℤ) (vs : List Version) (k : ℕ) (v : Version) → Up vs → slice_get vs k ≡ Some v → v.handle <ℤ bound → AreBelow bound (take (k + 1) vs)
below_at bound vs k v up at low = subst (λ n. AreBelow bound (take n vs)) (sym (add-one k)) (from vs k up at)
  where
    from : (vs : List Version) (k : ℕ) → Up vs → slice_get vs k ≡ Some v → AreBelow bound (take (suc k) vs)
    from [] k up at = cc at
    from (w ∷ vs) zero up at = (first_below v w (cc (sym at)) low, tt)
    from (w ∷ vs) (suc k) up at = (lower_than w.handle v.handle bound (first w vs k up at) low, from vs k up.1 at)
      where
        first : (w : Version) (vs : List Version) (k : ℕ) → Up (w ∷ vs) → slice_get vs k ≡ Some v → w.handle ≤ℤ v.handle
        first w [] k up at = cc at
        first w (x ∷ vs) zero up at = (let same : x ≡ v = cc at in subst (λ (y : Version). w.handle ≤ℤ y.handle) same (handle_le w x up.0.0))
        first w (x ∷ vs) (suc k) up at = first w vs k (up.0.1, up.1.1) at

-- those from one that isn't below a handle on aren't below it
pub above_at : (bound : ℤ) (vs : List Version) (k : ℕ) (v : Version) → Up vs → slice_get vs k ≡ Some v → bound ≤ℤ v.handle → AreAbove bound (drop k vs)
above_at bound [] k v up at high = cc at
above_at bound (w ∷ vs) zero v up at high = (let same : v ≡ w = cc (sym at) in let le = subst (λ (x : Version). bound ≤ℤ x.handle) same high in (le, all_above bound w vs up le))
above_at bound (w ∷ vs) (suc k) v up at high = above_at bound vs k v up.1 at high

-- ---- rows that pass

pub pass_more : (test : Answers) (xs passed : List Version) (v : Version) → test v.cells true → Pass test xs passed → Pass test (xs ++ v ∷ []) (passed ++ v ∷ [])
pass_more test _ _ v is End = Kept v [] [] is End
pass_more test _ _ v is (Kept w ws passed here rest) = Kept w (ws ++ v ∷ []) (passed ++ v ∷ []) here (pass_more test ws passed v is rest)
pass_more test _ _ v is (Dropped w ws passed here rest) = Dropped w (ws ++ v ∷ []) (passed ++ v ∷ []) here (pass_more test ws passed v is rest)

pub pass_less : (test : Answers) (xs passed : List Version) (v : Version) → test v.cells false → Pass test xs passed → Pass test (xs ++ v ∷ []) passed
pass_less test _ _ v is End = Dropped v [] [] is End
pass_less test _ _ v is (Kept w ws passed here rest) = Kept w (ws ++ v ∷ []) passed here (pass_less test ws passed v is rest)
pass_less test _ _ v is (Dropped w ws passed here rest) = Dropped w (ws ++ v ∷ []) passed here (pass_less test ws passed v is rest)

-- what passes of rows of which each is such is such
pub each_passes : (test : Answers) (P : Version → Type 0) (xs passed : List Version) → Pass test xs passed → AllByRecursion P xs → AllByRecursion P passed
each_passes test P _ _ End all = tt
each_passes test P _ _ (Kept v vs passed is rest) all = (all.0, each_passes test P vs passed rest all.1)
each_passes test P _ _ (Dropped v vs passed is rest) all = each_passes test P vs passed rest all.1

-- The rows at these places are those of the first i that pass.
pub record Picked (test : Answers) (rows : List Version) (i : ℕ) (places : List ℕ) : Type 0 where
  pub passed : List Version
  pub pass : Pass test (take i rows) passed
  pub at : map (slice_get rows) places ≡ map Some passed

take_one : (rows : List Version) (i : ℕ) (v : Version) → slice_get rows i ≡ Some v → take (i + 1) rows ≡ take i rows ++ v ∷ []
take_one rows i v at = ap (λ n. take n rows) (add-one i) ∙ from rows i at
  where
    from : (rows : List Version) (i : ℕ) → slice_get rows i ≡ Some v → take (suc i) rows ≡ take i rows ++ v ∷ []
    from [] i at = cc at
    from (w ∷ rows) zero at = ap (λ x. x ∷ []) (cc at)
    from (w ∷ rows) (suc i) at = ap (λ xs. w ∷ xs) (from rows i at)

pub picked_more : (test : Answers) (rows : List Version) (i : ℕ) (places more : List ℕ) (v : Version) (b : Bool) → slice_get rows i ≡ Some v → test v.cells b → more ≡ cond b (places ++ i ∷ []) places → Picked test rows i places → Picked test rows (i + 1) more
picked_more test rows i places more v true at answer is p = record {
  passed = p.passed ++ v ∷ [];
  pass = subst (λ xs. Pass test xs (p.passed ++ v ∷ [])) (sym (take_one rows i v at)) (pass_more test (take i rows) p.passed v answer p.pass);
  at = ap (map (slice_get rows)) is ∙ map-append (slice_get rows) places (i ∷ []) ∙ (λ k. p.at k ++ at k ∷ []) ∙ sym (map-append Some p.passed (v ∷ []));
}
picked_more test rows i places more v false at answer is p = record {
  passed = p.passed;
  pass = subst (λ xs. Pass test xs p.passed) (sym (take_one rows i v at)) (pass_less test (take i rows) p.passed v answer p.pass);
  at = ap (map (slice_get rows)) is ∙ p.at;
}

pub picked_all : (test : Answers) (rows : List Version) (i : ℕ) (places : List ℕ) (block : List Version) → length rows ≤ i → Picked test rows i places → map Some block ≡ map (slice_get rows) places → Pass test rows block
picked_all test rows i places block le p is = subst (λ xs. Pass test xs block) (take_all i rows le) (subst (Pass test (take i rows)) (same_items p.passed block (sym p.at ∙ sym is)) p.pass)

-- ---- what neighbours tell

map_at : {X : Type 0} (f : Pack → X) (packs : List Pack) (k : ℕ) (x : X) → slice_get (map f packs) k ≡ Some x → (pack : Pack) × (slice_get packs k ≡ Some pack) × (f pack ≡ x)
map_at f [] k x e = cc e
map_at f (p ∷ packs) zero x e = (p, refl, cc e)
map_at f (p ∷ packs) (suc k) x e = map_at f packs k x e

pub from_tells : (packs : List Pack) (k : ℕ) (pack : Pack) (high low : ℤ) → (k ≡ 0 → ⊥) → slice_get packs k ≡ Some pack → slice_get (map (λ (p : Pack). p.high) packs) (k - 1) ≡ Some high → slice_get (map (λ (p : Pack). p.low) packs) k ≡ Some low → int_le low high ≡ goes_on_from (before_of packs k) pack
from_tells packs zero pack high low some at above below = absurd (some refl)
from_tells packs (suc k) pack high low some at above below =
    let n : suc k - 1 ≡ k = omega arith in
    let b = map_at (λ (p : Pack). p.high) packs k high (ap (slice_get (map (λ (p : Pack). p.high) packs)) (sym n) ∙ above) in
    sym (λ i. int_le (field_at (λ (p : Pack). p.low) packs (suc k) pack low at below i) (b.2 i)) ∙ ap (λ o. goes_on_from o pack) (sym b.1)

pub in_tells : (packs : List Pack) (k : ℕ) (pack : Pack) (high low : ℤ) → slice_get packs k ≡ Some pack → slice_get (map (λ (p : Pack). p.high) packs) k ≡ Some high → slice_get (map (λ (p : Pack). p.low) packs) (k + 1) ≡ Some low → int_le low high ≡ goes_on_in pack (slice_get packs (k + 1))
in_tells packs k pack high low at above below =
    let b = map_at (λ (p : Pack). p.low) packs (k + 1) low below in
    sym (λ i. int_le (b.2 i) (field_at (λ (p : Pack). p.high) packs k pack high at above i)) ∙ ap (λ o. goes_on_in pack o) (sym b.1)

none_past : (packs : List Pack) (n : ℕ) → length packs ≤ n → slice_get packs n ≡ None
none_past [] n le = refl
none_past (p ∷ packs) zero le = absurd (omega (arith, le))
none_past (p ∷ packs) (suc n) le = none_past packs n (omega (arith, le))

pub last_tells : (packs : List Pack) (k : ℕ) (pack : Pack) → length packs ≤ k + 1 → false ≡ goes_on_in pack (slice_get packs (k + 1))
last_tells packs k pack le = ap (goes_on_in pack) (sym (none_past packs (k + 1) le))

-- a pack that is read begins below the end of the piece's range
pub read_begins : {G : Type 0} (snapshot : Snapshot G) (bound : Option Bound) (piece : SegmentView G) (before : Option Pack) (pack : Pack) (after : Option Pack) (b : Bool) → b ≡ is_read snapshot bound piece before pack after → b ≡ true → is_below pack.low piece.range.high ≡ true
read_begins snapshot bound piece before pack after b is so = first (is_below pack.low piece.range.high) _ (first _ _ (first _ _ (sym is ∙ so)))
  where
    first : (a b : Bool) → (a && b) ≡ true → a ≡ true
    first true b e = refl
    first false b e = e
