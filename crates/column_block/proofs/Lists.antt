-- Lists of pointers and of what they point to, and the search for a fall.
use Rattle.std.proofs.Common.{◌≡◌, ℕ, ◌+◌, ◌-◌, ◌<◌, ◌≤◌, List, [], ◌∷◌, ◌++◌, length, map, take, drop, get_or, slice_get, slice_range, Some, refl, sym, ap, ◌∙◌, option_map, arith}
use Rattle.std.proofs.lemmas.List.{take-map, drop-map, map-append, take_more, length-map, get_or-map}
use Rattle.std.proofs.Math.Seq.{take-append_seam}
use Rattle.std.proofs.lemmas.Option.{slice_get-map, slice_get-get_or}
use Rattle.column_block.specs.declared.column.Column.{Column}
use Rattle.column_block.specs.Schemas.{ids}
use Rattle.column_block.specs.Rising.{first_fall, fall_after}
use Rattle.column_block.proofs.Rising.{falls_here}

pub cut_back : {X Y : Type 0} (f : X → Y) (before now : List X) (n : ℕ) (more : List Y) → n ≡ length before → map f now ≡ map f before ++ more → map f (take n now) ≡ map f before
cut_back f before now n more is h =
    let k : n ≡ length (map f before) = is ∙ sym (length-map before f) in
    sym (take-map f n now) ∙ ap (take n) h ∙ rw k (take-append_seam (map f before) more)

pub one_more : {X Y : Type 0} (f : X → Y) (items : List X) (order : List ℕ) (i : ℕ) (old new : List Y) (x : X) → i < length order → get_or order i 0 < length items → x ≡ get_or items (get_or order i 0) x
    → map Some old ≡ map (slice_get (map f items)) (take i order) → new ≡ old ++ f x ∷ [] → map Some new ≡ map (slice_get (map f items)) (take (i + 1) order)
one_more f items order i old new x lt within is so_far added =
    let at : slice_get (map f items) (get_or order i 0) ≡ Some (f x) = slice_get-map f items (get_or order i 0) ∙ ap (option_map f) (slice_get-get_or items (get_or order i 0) x within ∙ ap Some (sym is)) in
    let more = take_more order i 0 lt in
    rw (added, map-append, more, map-append, so_far, at) refl

pub part_of : {X Y : Type 0} (f : X → Y) (items : List X) (from to : ℕ) → map f (take (to - from) (drop from items)) ≡ slice_range (map f items) from to
part_of f items from to = rw (drop-map f from items, take-map f (to - from) (drop from items)) refl

pub fall_at : (columns : List Column) (i : ℕ) (d : Column) → 1 ≤ i → i < length columns → (get_or columns i d).id ≤ (get_or columns (i - 1) d).id
    → first_fall (ids columns) ≡ fall_after (get_or (ids columns) (i - 1) 0) i (drop i (ids columns)) → Some i ≡ first_fall (ids columns)
fall_at columns i d least lt le so_far =
    let id : Column → ℕ = λ (column : Column). column.id in
    let here : get_or (ids columns) i 0 ≡ (get_or columns i d).id = get_or-map id columns i d 0 lt in
    let before : get_or (ids columns) (i - 1) 0 ≡ (get_or columns (i - 1) d).id = get_or-map id columns (i - 1) d 0 (omega arith) in
    let within : i < length (ids columns) = omega (arith, length-map columns id) in
    sym (so_far ∙ falls_here (ids columns) i (get_or (ids columns) (i - 1) 0) within (omega arith))
