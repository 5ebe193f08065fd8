-- Segments that are put one after the other, in their order, stand so.
use Rattle.std.proofs.Common.{◌≡◌, ◌≢◌, ℕ, ℤ, ◌<◌, Bool, true, false, eqb, ltb, List, [], ◌∷◌, ◌++◌, map, Option, Some, None, refl, sym, ap, ◌∙◌, append_assoc, arith}
use Rattle.std.specs.Prelude.{int_lt, if◌then◌else◌, ◌&&◌}
use Rattle.std.specs.Ordering.{int_eq}
use Rattle.std.specs.List.{list_any, list_all}
use Rattle.std.proofs.lemmas.Bool.{ne_eqb}
use Rattle.std.proofs.lemmas.List.{append-nil}
use Rattle.manifest_form.specs.declared.state.StoredFile.{StoredFile}
use Rattle.manifest_form.specs.declared.state.StoredFile.TheVariants.{Tiny, DeleteRange}
use Rattle.manifest_form.specs.declared.state.StoredSegment.{StoredSegment}
use Rattle.manifest_form.specs.declared.state.State.{State}
use Rattle.manifest_form.specs.declared.state.Edit.{Edit}
use Rattle.manifest_form.specs.declared.state.Edit.TheVariants.{Segment}
use Rattle.manifest_form.specs.States.{placed, without, all_done, with_segments, nothing, is_high, is_safe_point, has_any, cover_from, name_below, file_below, segment_below, least_handle, is_formed, all_below, changed, formed, after_record}
use Rattle.manifest_form.specs.Whole.{HasNone, IdsDiffer, with_next, region_edits, count_edits, other_edits, whole_edits}

-- ---- a segment behind those that begin no later

-- none of these has its id or begins behind it
abbrev Fits : StoredSegment → List StoredSegment → Type 0
Fits s [] = Unit {0}
Fits s (first ∷ rest) = ((first.id ≢ s.id) × (int_lt s.range.low first.range.low ≡ false)) × Fits s rest

none_out : (s : StoredSegment) (front : List StoredSegment) → Fits s front → without s.id front ≡ front
none_out s [] fits = refl
none_out s (first ∷ rest) fits =
    let other : eqb first.id s.id ≡ false = ne_eqb first.id s.id fits.0.0 in
    rw other (ap (λ (l : List StoredSegment). first ∷ l) (none_out s rest fits.1))

last_placed : (s : StoredSegment) (front : List StoredSegment) → Fits s front → placed s front ≡ front ++ s ∷ []
last_placed s [] fits = refl
last_placed s (first ∷ rest) fits = let behind : int_lt s.range.low first.range.low ≡ false = fits.0.1 in rw behind (ap (λ (l : List StoredSegment). first ∷ l) (last_placed s rest fits.1))

put_last : (s : StoredSegment) (front : List StoredSegment) → Fits s front → placed s (without s.id front) ≡ front ++ s ∷ []
put_last s front fits = ap (placed s) (none_out s front fits) ∙ last_placed s front fits

-- ---- segments in order

-- it has the id of none of these, and none begins before it
abbrev Before : StoredSegment → List StoredSegment → Type 0
Before a [] = Unit {0}
Before a (s ∷ rest) = ((a.id ≢ s.id) × (int_lt s.range.low a.range.low ≡ false)) × Before a rest

abbrev EachBefore : List StoredSegment → List StoredSegment → Type 0
EachBefore [] segments = Unit {0}
EachBefore (a ∷ front) segments = Before a segments × EachBefore front segments

abbrev InOrder : List StoredSegment → Type 0
InOrder [] = Unit {0}
InOrder (s ∷ rest) = Before s rest × InOrder rest

fits_front : (s : StoredSegment) (front rest : List StoredSegment) → EachBefore front (s ∷ rest) → Fits s front
fits_front s [] rest each = tt
fits_front s (a ∷ front) rest each = (each.0.0, fits_front s front rest each.1)

each_with : (s : StoredSegment) (front rest : List StoredSegment) → EachBefore front (s ∷ rest) → Before s rest → EachBefore (front ++ s ∷ []) rest
each_with s [] rest each one = (one, tt)
each_with s (a ∷ front) rest each one = (each.0.1, each_with s front rest each.1 one)

put_all : (t : State) (front segments : List StoredSegment) (others : List Edit) → EachBefore front segments → InOrder segments
    → all_done (with_segments t front) (map (λ (segment : StoredSegment). Segment segment) segments ++ others) ≡ all_done (with_segments t (front ++ segments)) others
put_all t front [] others each ordered = ap (λ (l : List StoredSegment). all_done (with_segments t l) others) (sym (append-nil front))
put_all t front (s ∷ rest) others each ordered =
    let one : placed s (without s.id front) ≡ front ++ s ∷ [] = put_last s front (fits_front s front rest each) in
    ap (λ (l : List StoredSegment). all_done (with_segments t l) (map (λ (segment : StoredSegment). Segment segment) rest ++ others)) one
    ∙ put_all t (front ++ s ∷ []) rest others (each_with s front rest each ordered.0) ordered.1
    ∙ ap (λ (l : List StoredSegment). all_done (with_segments t l) others) (append_assoc front (s ∷ []) rest)

-- ---- a cover is in order

and_both : (a b : Bool) → (a && b) ≡ true → (a ≡ true) × (b ≡ true)
and_both true b h = (refl, h)
and_both false b h = absurd (cc h)

-- the next range begins where this one ends, which is behind its low end
abbrev Behind : ℤ → Option ℤ → Type 0
Behind low None = Unit {0}
Behind low (Some next) = int_lt next low ≡ false

not_before : (low next : ℤ) → int_lt low next ≡ true → int_lt next low ≡ false
not_before low next lt = grind (arith, lt)

no_later : (a b c : ℤ) → int_lt b a ≡ false → int_lt b c ≡ true → int_lt c a ≡ false
no_later a b c le lt = grind (arith, le, lt)

same_low : (a b : ℤ) → int_eq a b ≡ true → a ≡ b
same_low a b h = grind (arith, h)

-- a handle that isn't above this one isn't above the high end of a range that begins there
high_behind : (a low : ℤ) (high : Option ℤ) → int_lt low a ≡ false → elim high [ None ↦ true | Some h ↦ int_lt low h ] ≡ true → Behind a high
high_behind a low None le some = tt
high_behind a low (Some h) le some = no_later a low h le some

covered_before : (a : StoredSegment) (from : Option ℤ) (segments : List StoredSegment) → Behind a.range.low from → cover_from from segments ≡ true → HasNone a.id segments → Before a segments
covered_before a None [] le cover none = tt
covered_before a None (s ∷ rest) le cover none = absurd (cc cover)
covered_before a (Some low) [] le cover none = tt
covered_before a (Some low) (s ∷ rest) le cover none =
    let one = and_both (int_eq s.range.low low) (has_any s.range && cover_from s.range.high rest) cover in
    let two = and_both (has_any s.range) (cover_from s.range.high rest) one.1 in
    let here : s.range.low ≡ low = same_low s.range.low low one.0 in
    let le' : int_lt s.range.low a.range.low ≡ false = ap (λ (z : ℤ). int_lt z a.range.low) here ∙ le in
    (((λ is. none.0 (sym is)), le'), covered_before a s.range.high rest (high_behind a.range.low s.range.low s.range.high le' two.0) two.1 none.1)

not_itself : (a : ℤ) → int_lt a a ≡ false
not_itself a = grind arith

in_order : (from : Option ℤ) (segments : List StoredSegment) → cover_from from segments ≡ true → IdsDiffer segments → InOrder segments
in_order None [] cover differ = tt
in_order None (s ∷ rest) cover differ = absurd (cc cover)
in_order (Some low) [] cover differ = tt
in_order (Some low) (s ∷ rest) cover differ =
    let one = and_both (int_eq s.range.low low) (has_any s.range && cover_from s.range.high rest) cover in
    let two = and_both (has_any s.range) (cover_from s.range.high rest) one.1 in
    (covered_before s s.range.high rest (high_behind s.range.low s.range.low s.range.high (not_itself s.range.low) two.0) two.1 differ.0, in_order s.range.high rest two.1 differ.1)

-- ---- a greater Next

below_more : (a n m : ℕ) → n < m → ltb a n ≡ true → ltb a m ≡ true
below_more a n m lt h = grind (arith, lt, h)

name_more : (n m : ℕ) (name : Option ℕ) → n < m → name_below n name ≡ true → name_below m name ≡ true
name_more n m None lt h = refl
name_more n m (Some file) lt h = below_more file n m lt h

file_more : (n m : ℕ) (file : StoredFile) → n < m → file_below n file ≡ true → file_below m file ≡ true
file_more n m (Tiny file) lt h = below_more file n m lt h
file_more n m (DeleteRange range) lt h = refl

both_and : (a b : Bool) → a ≡ true → b ≡ true → (a && b) ≡ true
both_and true b one two = two
both_and false b one two = absurd (cc one)

all_more : {X : Type 0} (p q : X → Bool) → ((x : X) → p x ≡ true → q x ≡ true) → (xs : List X) → list_all p xs ≡ true → list_all q xs ≡ true
all_more p q each [] h = refl
all_more p q each (x ∷ xs) h = let b = and_both (p x) (list_all p xs) h in both_and (q x) (list_all q xs) (each x b.0) (all_more p q each xs b.1)

segment_more : (n m : ℕ) (s : StoredSegment) → n < m → segment_below n s ≡ true → segment_below m s ≡ true
segment_more n m s lt h =
    let a = and_both (ltb s.id n) (name_below n s.stable && list_all (file_below n) s.delta) h in
    let b = and_both (name_below n s.stable) (list_all (file_below n) s.delta) a.1 in
    both_and (ltb s.id m) (name_below m s.stable && list_all (file_below m) s.delta) (below_more s.id n m lt a.0)
    (both_and (name_below m s.stable) (list_all (file_below m) s.delta) (name_more n m s.stable lt b.0) (all_more (file_below n) (file_below m) (λ x below. file_more n m x lt below) s.delta b.1))

is_below : (n m : ℕ) → n < m → ltb n m ≡ true
is_below n m lt = grind (arith, lt)

formed_next : (file next : ℕ) (s : State) → s.next < next → is_formed file s ≡ true → is_formed s.next (with_next next s) ≡ true
formed_next file next s lt h =
    let a = and_both (all_below s.next file s) (cover_from (Some least_handle) s.segments) h in
    let b = and_both (ltb file s.next) (name_below s.next s.regions && list_all (segment_below s.next) s.segments) a.0 in
    let c = and_both (name_below s.next s.regions) (list_all (segment_below s.next) s.segments) b.1 in
    both_and (all_below next s.next (with_next next s)) (cover_from (Some least_handle) s.segments)
    (both_and (ltb s.next next) (name_below next s.regions && list_all (segment_below next) s.segments) (is_below s.next next lt)
    (both_and (name_below next s.regions) (list_all (segment_below next) s.segments) (name_more s.next next s.regions lt c.0) (all_more (segment_below s.next) (segment_below next) (λ x below. segment_more s.next next x lt below) s.segments c.1))) a.1

-- ---- the whole state

-- A state without a region file and a count gets those that it is told.
regions_done : (t : State) (regions count : Option ℕ) → t.regions ≡ None → t.count ≡ None → all_done t (region_edits regions ++ count_edits count) ≡ record t { regions = regions; count = count }
regions_done t None None h k = rw (h, k) refl
regions_done t (Some file) None h k = rw k refl
regions_done t None (Some entries) h k = rw h refl
regions_done t (Some file) (Some entries) h k = refl

whole_done : (next : ℕ) (s : State) → InOrder s.segments → all_done nothing (whole_edits next s) ≡ with_next next s
whole_done next s ordered =
    put_all (with_next next nothing) [] s.segments (other_edits s) tt ordered
    ∙ regions_done (record { next = next; segments = s.segments; high = s.high; chain = s.chain; safe_point = s.safe_point; regions = None; count = None }) s.regions s.count refl refl

any_high : (segments : List StoredSegment) (s : State) → list_any is_high (map (λ (segment : StoredSegment). Segment segment) segments ++ other_edits s) ≡ true
any_high [] s = refl
any_high (x ∷ rest) s = any_high rest s

any_point : (segments : List StoredSegment) (s : State) → list_any is_safe_point (map (λ (segment : StoredSegment). Segment segment) segments ++ other_edits s) ≡ true
any_point [] s = refl
any_point (x ∷ rest) s = any_point rest s

pub if_true : {X : Type 0} (b : Bool) (x y : X) → b ≡ true → (if b then x else y) ≡ x
if_true true x y h = refl
if_true false x y h = absurd (cc h)

finish : (file : ℕ) (o : Option State) (s t : State) (edits : List Edit) → o ≡ Some s → all_done s edits ≡ t → is_formed file t ≡ true → elim o [ None ↦ None | Some x ↦ formed file (all_done x edits) ] ≡ Some t
finish file None s t edits is done' form = absurd (cc is)
finish file (Some x) s t edits is done' form =
    let same : x ≡ s = some_same is in
    ap (λ (y : State). formed file (all_done y edits)) same ∙ ap (formed file) done' ∙ if_true (is_formed file t) (Some t) None form
  where
    some_same : {a b : State} → Some a ≡ Some b → a ≡ b
    some_same e = cc

pub whole_again : (file next : ℕ) (s : State) → s.next < next → is_formed file s ≡ true → IdsDiffer s.segments → after_record s.next None (whole_edits next s) ≡ Some (with_next next s)
whole_again file next s lt form differ =
    let cover = and_both (all_below s.next file s) (cover_from (Some least_handle) s.segments) form in
    let edits = whole_edits next s in
    let marks : (list_any is_high edits && list_any is_safe_point edits) ≡ true = both_and (list_any is_high edits) (list_any is_safe_point edits) (any_high s.segments s) (any_point s.segments s) in
    finish s.next (changed None edits) nothing (with_next next s) edits (if_true (list_any is_high edits && list_any is_safe_point edits) (Some nothing) None marks)
    (whole_done next s (in_order (Some least_handle) s.segments cover.1 differ)) (formed_next file next s lt form)
