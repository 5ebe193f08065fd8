-- A slot stays in order where an entry's files come.
use Rattle.std.proofs.Common.{◌≡◌, refl, sym, subst, ℕ, ◌<◌, ◌≤◌, Bool, true, false, cond, List, [], ◌∷◌, ◌++◌, Option, Some, None, length, drop, arith}
use Rattle.std.specs.Prelude.{filter}
use Rattle.std.specs.List.{AllByRecursion}
use Rattle.std.proofs.lemmas.List.{length-append, take-append-le, drop-append-le}
use Rattle.column_block.specs.declared.cell.Version.{Version}
use Rattle.column_file.specs.declared.file.ColumnFile.{ColumnFile}
use Rattle.column_file.specs.declared.file.ColumnFile.TheVariants.{DeleteRange}
use Rattle.delta_layer.specs.Files.{is_mem, is_tiny}
use Rattle.flash_types.specs.Ranges.{common, has_any}
use Rattle.flash_types.specs.declared.range.HandleRange.{HandleRange}
use Rattle.segment_list.specs.Order.{IsSlot, LiesIn}
use Rattle.segment_list.specs.Slots.{Slotted, is_in, kept, pushed, pushed_some, absorbed, cleared_file, added_file, block_file}

module _ {X : Type 0} where
  all_append : (P : X → Type 0) (xs ys : List X) → AllByRecursion P xs → AllByRecursion P ys → AllByRecursion P (xs ++ ys)
  all_append P [] ys a b = b
  all_append P (x ∷ xs) ys a b = (a.0, all_append P xs ys a.1 b)

  all_imp : (P Q : X → Type 0) → ((x : X) → P x → Q x) → (xs : List X) → AllByRecursion P xs → AllByRecursion Q xs
  all_imp P Q f [] a = tt
  all_imp P Q f (x ∷ xs) a = (f x a.0, all_imp P Q f xs a.1)

  all_kept : (p : X → Bool) (xs : List X) → AllByRecursion (λ (x : X). p x ≡ true) (filter p xs)
  all_kept p [] = tt
  all_kept p (x ∷ xs) = one (p x) refl (all_kept p xs)
    where
      one : (b : Bool) → p x ≡ b → AllByRecursion (λ (y : X). p y ≡ true) (filter p xs) → AllByRecursion (λ (y : X). p y ≡ true) (cond b (x ∷ filter p xs) (filter p xs))
      one true e rest = (e, rest)
      one false e rest = rest

IsAdded : HandleRange → Option ColumnFile → Type 0
IsAdded range None = Unit {0}
IsAdded range (Some f) = (is_tiny f ≡ false) × LiesIn range f

module _ {G : Type 0} (committed last tag : ℕ) where
  later : (s : Slotted G) → last ≤ tag → IsSlot committed last s → IsSlot committed tag s
  later s le ok = record {
    tagged = ok.tagged;
    tags = all_imp (λ (t : ℕ). (committed < t) × (t ≤ last)) (λ (t : ℕ). (committed < t) × (t ≤ tag)) (λ t h. (h.0, omega (arith, h.1, le))) s.tags ok.tags;
    named = ok.named;
    behind = ok.behind;
    rows = ok.rows;
  }

  one_more : (s : Slotted G) (f : ColumnFile) → last ≤ tag → committed < tag → is_tiny f ≡ false → LiesIn s.range f → IsSlot committed last s → IsSlot committed tag (pushed tag f s)
  one_more s f le above not_tiny lies ok =
      let within : s.named ≤ length s.files = omega (arith, ok.tagged) in
      record {
        tagged = omega (arith, ok.tagged, length-append s.files (f ∷ []), length-append s.tags (tag ∷ []));
        tags = all_append (λ (t : ℕ). (committed < t) × (t ≤ tag)) s.tags (tag ∷ []) (later s le ok).tags ((above, omega arith), tt);
        named = subst (AllByRecursion (λ (g : ColumnFile). is_mem g ≡ false)) (sym (take-append-le s.named s.files (f ∷ []) within)) ok.named;
        behind = subst (AllByRecursion (λ (g : ColumnFile). is_tiny g ≡ false)) (sym (drop-append-le s.named s.files (f ∷ []) within)) (all_append (λ (g : ColumnFile). is_tiny g ≡ false) (drop s.named s.files) (f ∷ []) ok.behind (not_tiny, tt));
        rows = all_append (LiesIn s.range) s.files (f ∷ []) ok.rows (lies, tt);
      }

  some_more : (s : Slotted G) (o : Option ColumnFile) → last ≤ tag → committed < tag → IsAdded s.range o → IsSlot committed last s → IsSlot committed tag (pushed_some tag o s)
  unfolding IsAdded
  some_more s None le above added ok = later s le ok
  some_more s (Some f) le above added ok = one_more s f le above added.0 added.1 ok

cleared_is_added : (range : HandleRange) (clears : Option HandleRange) → IsAdded range (cleared_file range clears)
unfolding IsAdded
cleared_is_added range None = tt
cleared_is_added range (Some other) = elim (has_any (common range other)) as (λ v. IsAdded range (cond v (Some (DeleteRange (common range other))) None)) [ true ↦ (refl, tt) | false ↦ tt ]

block_is_added : (range : HandleRange) (vs : List Version) → AllByRecursion (λ (v : Version). is_in range v ≡ true) vs → IsAdded range (block_file vs)
unfolding IsAdded
block_is_added range [] all = tt
block_is_added range (v ∷ vs) all = (refl, all)

moved : (a b : HandleRange) (o : Option ColumnFile) → a ≡ b → IsAdded a o → IsAdded b o
moved a b o e added = subst (λ (r : HandleRange). IsAdded r o) e added

range_of : {G : Type 0} (tag : ℕ) (o : Option ColumnFile) (s : Slotted G) → s.range ≡ (pushed_some tag o s).range
range_of tag None s = refl
range_of tag (Some f) s = refl

pub absorbed_stays : {G : Type 0} (committed last tag : ℕ) (clears : Option HandleRange) (adds : List Version) (s : Slotted G) → last ≤ tag → committed < tag → IsSlot committed last s → IsSlot committed tag (absorbed tag clears adds s)
absorbed_stays committed last tag clears adds s le above ok =
    some_more committed tag tag (pushed_some tag (cleared_file s.range clears) s) (added_file s.range adds) (omega arith) above
    (moved s.range (pushed_some tag (cleared_file s.range clears) s).range (added_file s.range adds) (range_of tag (cleared_file s.range clears) s)
    (block_is_added s.range (kept s.range adds) (all_kept (is_in s.range) adds)))
    (some_more committed last tag s (cleared_file s.range clears) le above (cleared_is_added s.range clears) ok)
