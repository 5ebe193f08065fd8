-- The form of a state by its count of faults and its greatest numbers.
use Rattle.std.proofs.Common.{◌≡◌, ◌≢◌, ◌∙◌, refl, sym, ap, ℕ, ◌<◌, Bool, true, false, cond, ltb, List, [], ◌∷◌, Option, Some, None, arith}
use Rattle.std.specs.Prelude.{not, nat_eq, int_lt, is_some}
use Rattle.std.specs.declared.cmp.Ordering.TheVariants.{Less, Equal, Greater}
use Rattle.std.specs.Ordering.{nat_cmp, is_lt, ordering_then}
use Rattle.std.specs.Cmp.{Equal-is}
use Rattle.std.specs.BTreeMap.{is_at}
use Rattle.std.specs.List.{list_all}
use Rattle.std.proofs.lemmas.Bool.{ltb-true, ltb-false, lt-ltb, eqb-false}
use Rattle.std.proofs.lemmas.Map.Lookups.{exact_pairs, exact_unsigned}
use Rattle.manifest_form.specs.declared.state.StoredFile.{StoredFile}
use Rattle.manifest_form.specs.declared.state.StoredFile.TheVariants.{Tiny, DeleteRange}
use Rattle.manifest_form.specs.declared.state.StoredSegment.{StoredSegment}
use Rattle.manifest_form.specs.declared.state.State.{State}
use Rattle.manifest_form.specs.States.{placed, without, name_below, file_below, segment_below, is_formed, least_handle}
use Rattle.manifest_form.specs.Counting.{larger, top_of_name, top_of_file, top_from, top_of, top_cmp, faults, Counts, AllTopped}
use Rattle.manifest_form.proofs.Differ.{without_none}
use Rattle.manifest_form.proofs.Slotting.{without_absent}
use Rattle.manifest_form.proofs.Faults.{covered}

-- ---- the table of greatest numbers

pub put_kept : {X : Type 0} (b : Bool) (x : X) (old new : Option X) → new ≡ cond b (Some x) old → is_some old ≡ true → is_some new ≡ true
put_kept true x old new is there = ap is_some is
put_kept false x old new is there = ap is_some is ∙ there

pub other_kept : {X : Type 0} (p q : ℕ × ℕ) (old new : Option X) → q.1 ≢ p.1 → new ≡ cond (is_at (top_cmp p) q) None old → is_some old ≡ true → is_some new ≡ true
other_kept p q old new apart is there = by (is_at (top_cmp p) q) refl is
  where
    by : (b : Bool) → is_at (top_cmp p) q ≡ b → new ≡ cond b None old → is_some new ≡ true
    by true at is = absurd (apart (sym (ap (λ (x : ℕ × ℕ). x.1) (exact_pairs nat_cmp nat_cmp exact_unsigned exact_unsigned p q ((Equal-is (top_cmp p q)).0 at)))))
    by false at is = ap is_some is ∙ there

pub below_last : (k q : ℕ × ℕ) (next : ℕ) → is_lt (top_cmp k q) ≡ false → k.0 < next → q.0 < next
below_last k q next last less = by (ltb k.0 q.0) refl last
  where
    by : (b : Bool) → ltb k.0 q.0 ≡ b → is_lt (ordering_then (cond b Less (cond (nat_eq k.0 q.0) Equal Greater)) (nat_cmp k.1 q.1)) ≡ false → q.0 < next
    by true is last = absurd (cc last)
    by false is last = let h = ltb-false k.0 q.0 is in omega (arith, h, less)

-- ---- greatest numbers

larger_below : (a b next : ℕ) → larger a b < next → (a < next) × (b < next)
larger_below a b next = by (ltb a b) refl
  where
    by : (t : Bool) → ltb a b ≡ t → cond t b a < next → (a < next) × (b < next)
    by true is less = let h = ltb-true a b is in (omega (arith, h, less), less)
    by false is less = let h = ltb-false a b is in (less, omega (arith, h, less))

below_is : (a b : ℕ) → a < b → ltb a b ≡ true
below_is a b less = lt-ltb a b less

file_is : (next : ℕ) (file : StoredFile) → top_of_file file < next → file_below next file ≡ true
file_is next (Tiny file) less = below_is file next less
file_is next (DeleteRange range) less = refl

name_is : (next : ℕ) (name : Option ℕ) → top_of_name name < next → name_below next name ≡ true
name_is next None less = refl
name_is next (Some file) less = below_is file next less

files_are : (next top : ℕ) (files : List StoredFile) → top_from top files < next → (top < next) × (list_all (file_below next) files ≡ true)
files_are next top [] less = (less, refl)
files_are next top (file ∷ files) less =
    let rest = files_are next (larger top (top_of_file file)) files less in
    let both = larger_below top (top_of_file file) next rest.0 in
    (both.0, rw (file_is next file both.1, rest.1) refl)

segment_is : (next : ℕ) (s : StoredSegment) → top_of s < next → segment_below next s ≡ true
segment_is next s less =
    let files = files_are next (larger s.id (top_of_name s.stable)) s.delta less in
    let both = larger_below s.id (top_of_name s.stable) next files.0 in
    rw (below_is s.id next both.0, name_is next s.stable both.1, files.1) refl

segments_are : (has : ℕ × ℕ → Bool) (next : ℕ) (ss : List StoredSegment) → ((q : ℕ × ℕ) → has q ≡ true → q.0 < next) → AllTopped has ss → list_all (segment_below next) ss ≡ true
segments_are has next [] below topped = refl
segments_are has next (s ∷ ss) below topped = rw (segment_is next s (below (top_of s, s.id) topped.0), segments_are has next ss below topped.1) refl

none_counted : (count : Option ℕ) (n : ℕ) → count ≡ Some 0 → Counts count n → n ≡ 0
none_counted None n is counts = absurd (cc is)
none_counted (Some c) n is counts = sym counts ∙ some_is c 0 is
  where
    some_is : (a b : ℕ) → Some a ≡ Some b → a ≡ b
    some_is a b is = cc is

pub sure : (file : ℕ) (s : State) (count : Option ℕ) (has : ℕ × ℕ → Bool) → Counts count (faults (Some least_handle) s.segments) → AllTopped has s.segments → count ≡ Some 0 → ltb file s.next ≡ true → name_below s.next s.regions ≡ true → ((q : ℕ × ℕ) → has q ≡ true → q.0 < s.next) → is_formed file s ≡ true
sure file s count has counts topped none own regions below =
    rw (own, regions, segments_are has s.next s.segments below topped, covered (Some least_handle) s.segments (none_counted count _ none counts)) refl

-- ---- greatest numbers where a segment goes or comes

pub topped_more : (has more : ℕ × ℕ → Bool) (ss : List StoredSegment) → ((q : ℕ × ℕ) → has q ≡ true → more q ≡ true) → AllTopped has ss → AllTopped more ss
topped_more has more [] kept topped = tt
topped_more has more (s ∷ ss) kept topped = (kept (top_of s, s.id) topped.0, topped_more has more ss kept topped.1)

pub topped_without : (has rest : ℕ × ℕ → Bool) (id : ℕ) (ss : List StoredSegment) → ((q : ℕ × ℕ) → q.1 ≢ id → has q ≡ true → rest q ≡ true) → AllTopped has ss → AllTopped rest (without id ss)
topped_without has rest id [] kept topped = tt
topped_without has rest id (s ∷ ss) kept topped = by (topped_without has rest id ss kept topped.1) (nat_eq s.id id) refl
  where
    by : AllTopped rest (without id ss) → (b : Bool) → nat_eq s.id id ≡ b → AllTopped rest (cond (not b) (s ∷ without id ss) (without id ss))
    by again true is = again
    by again false is = (kept (top_of s, s.id) (eqb-false s.id id is) topped.0, again)

pub topped_placed : (has : ℕ × ℕ → Bool) (s : StoredSegment) (ss : List StoredSegment) → has (top_of s, s.id) ≡ true → AllTopped has ss → AllTopped has (placed s ss)
topped_placed has s [] own topped = (own, tt)
topped_placed has s (x ∷ xs) own topped = by (topped_placed has s xs own topped.1) (int_lt s.range.low x.range.low)
  where
    by : AllTopped has (placed s xs) → (b : Bool) → AllTopped has (cond b (s ∷ x ∷ xs) (x ∷ placed s xs))
    by again true = (own, topped)
    by again false = (topped.0, again)

pub without_twice : (id : ℕ) (ss : List StoredSegment) → without id (without id ss) ≡ without id ss
without_twice id ss = without_absent id (without id ss) (without_none id ss)
