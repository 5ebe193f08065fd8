-- A region file that is named under a raised Next.
use Rattle.std.proofs.Common.{◌≡◌, ℕ, ◌<◌, ◌≤◌, ◌+◌, Bool, true, false, ltb, List, [], ◌∷◌, Option, Some, None, refl, arith}
use Rattle.std.specs.Prelude.{◌&&◌}
use Rattle.std.specs.List.{list_all}
use Rattle.manifest_form.specs.declared.state.State.{State}
use Rattle.manifest_form.specs.declared.state.Edit.TheVariants.{Next, Regions}
use Rattle.manifest_form.specs.declared.state.StoredFile.{StoredFile}
use Rattle.manifest_form.specs.declared.state.StoredFile.TheVariants.{Tiny, DeleteRange}
use Rattle.manifest_form.specs.declared.state.StoredSegment.{StoredSegment}
use Rattle.manifest_form.specs.States.{all_done, cover_from, file_below, is_formed, least_handle, name_below, segment_below}

and_both : (a b : Bool) → (a && b) ≡ true → (a ≡ true) × (b ≡ true)
and_both true b h = (refl, h)
and_both false b h = absurd (cc h)

both_and : (a b : Bool) → a ≡ true → b ≡ true → (a && b) ≡ true
both_and true b one two = two
both_and false b one two = absurd (cc one)

below_more : (a n m : ℕ) → n ≤ m → ltb a n ≡ true → ltb a m ≡ true
below_more a n m le h = grind (arith, le, h)

name_more : (n m : ℕ) (name : Option ℕ) → n ≤ m → name_below n name ≡ true → name_below m name ≡ true
name_more n m None le h = refl
name_more n m (Some file) le h = below_more file n m le h

file_more : (n m : ℕ) (file : StoredFile) → n ≤ m → file_below n file ≡ true → file_below m file ≡ true
file_more n m (Tiny file) le h = below_more file n m le h
file_more n m (DeleteRange range) le h = refl

all_more : {X : Type 0} (p q : X → Bool) → ((x : X) → p x ≡ true → q x ≡ true) → (xs : List X) → list_all p xs ≡ true → list_all q xs ≡ true
all_more p q each [] h = refl
all_more p q each (x ∷ xs) h = let b = and_both (p x) (list_all p xs) h in both_and (q x) (list_all q xs) (each x b.0) (all_more p q each xs b.1)

segment_more : (n m : ℕ) (s : StoredSegment) → n ≤ m → segment_below n s ≡ true → segment_below m s ≡ true
segment_more n m s le h =
    let a = and_both (ltb s.id n) (name_below n s.stable && list_all (file_below n) s.delta) h in
    let b = and_both (name_below n s.stable) (list_all (file_below n) s.delta) a.1 in
    both_and (ltb s.id m) (name_below m s.stable && list_all (file_below m) s.delta) (below_more s.id n m le a.0)
    (both_and (name_below m s.stable) (list_all (file_below m) s.delta) (name_more n m s.stable le b.0) (all_more (file_below n) (file_below m) (λ x below. file_more n m x le below) s.delta b.1))

pub named_formed : (own : ℕ) (s : State) (file : ℕ) → is_formed own s ≡ true → s.next ≤ file → is_formed own (all_done s (Next (file + 1) ∷ Regions file ∷ [])) ≡ true
named_formed own s file h le =
    let n = s.next in
    let m = file + 1 in
    let up : n ≤ m = omega (arith, le) in
    let segments = list_all (segment_below n) s.segments in
    let more = list_all (segment_below m) s.segments in
    let covers = cover_from (Some least_handle) s.segments in
    let parts = and_both (ltb own n && (name_below n s.regions && segments)) covers h in
    let numbers = and_both (ltb own n) (name_below n s.regions && segments) parts.0 in
    let rest = and_both (name_below n s.regions) segments numbers.1 in
    let here : ltb file m ≡ true = grind (arith) in
    both_and (ltb own m && (ltb file m && more)) covers
    (both_and (ltb own m) (ltb file m && more) (below_more own n m up numbers.0)
    (both_and (ltb file m) more here (all_more (segment_below n) (segment_below m) (λ s below. segment_more n m s up below) s.segments rest.1)))
    parts.1
