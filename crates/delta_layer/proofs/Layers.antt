-- Files that take the place of others keep the order of a layer.
use Rattle.std.proofs.Common.{◌≡◌, ◌∙◌, refl, sym, ap, subst, ℕ, suc, ◌+◌, ◌-◌, ◌<◌, ◌≤◌, Bool, true, false, true≢false, not, cond, List, [], ◌∷◌, ◌++◌, length, take, drop, slice_range, arith, length-take, length-drop, append_assoc}
use Rattle.std.proofs.lemmas.List.{take-append-drop, drop-drop}
use Rattle.std.proofs.lemmas.List.Elements.{All-nil, All-cons, All-head, All-weaker, All-from_recursion}
use Rattle.std.proofs.lemmas.List.Kept.{AllPairs-cons}
use Rattle.std.specs.List.{All, AllByRecursion}
use Rattle.column_file.specs.declared.file.ColumnFile.{ColumnFile}
use Rattle.column_file.specs.declared.file.ColumnFile.TheVariants.{Mem, Tiny, DeleteRange}
use Rattle.delta_layer.specs.Files.{is_mem, is_tiny, HasNoMem, IsLayered}
use Rattle.delta_layer.specs.Repacked.{first_mem, flushed, compacted, CanFlush, CanCompact}
use Rattle.delta_layer.proofs.Pairs.{pairs_none, pairs_left, pairs_right, pairs_cross, pairs_both}

abbrev pub Before : ColumnFile → ColumnFile → Type 0
Before f g = is_mem f ≡ true → is_tiny g ≡ false

abbrev pub IsNoMem : ColumnFile → Type 0
IsNoMem f = is_mem f ≡ false

tiny_is_no_mem : (f : ColumnFile) → is_tiny f ≡ true → is_mem f ≡ false
tiny_is_no_mem (Mem block) e = absurd (true≢false (sym e))
tiny_is_no_mem (Tiny file block) e = refl
tiny_is_no_mem (DeleteRange range) e = refl

no_mem_before : (f : ColumnFile) → is_mem f ≡ false → (g : ColumnFile) → Before f g
no_mem_before f other g mem = absurd (true≢false (sym mem ∙ other))

none_before : (files others : List ColumnFile) → All IsNoMem files → All (λ (f : ColumnFile). All (Before f) others) files
none_before files others none = All-weaker IsNoMem (λ (f : ColumnFile). All (Before f) others) (λ f other. λ k d less. no_mem_before f other (_)) files none

pub appended : (files : List ColumnFile) (f : ColumnFile) → IsLayered files → (is_tiny f ≡ true → HasNoMem files) → IsLayered (files ++ f ∷ [])
appended files f layered may = pairs_both Before files (f ∷ []) layered (AllPairs-cons Before f [] (All-nil (Before f)) (pairs_none Before)) (by (is_tiny f) refl)
  where
    one : (g : ColumnFile) → Before g f → All (Before g) (f ∷ [])
    one g b = All-cons (Before g) f [] b (All-nil (Before g))

    any : is_tiny f ≡ false → (files : List ColumnFile) → All (λ (g : ColumnFile). All (Before g) (f ∷ [])) files
    any other [] = All-nil (λ (g : ColumnFile). All (Before g) (f ∷ []))
    any other (g ∷ gs) = All-cons (λ (g : ColumnFile). All (Before g) (f ∷ [])) g gs (one g (λ mem. other)) (any other gs)

    by : (b : Bool) → is_tiny f ≡ b → All (λ (g : ColumnFile). All (Before g) (f ∷ [])) files
    by true is = none_before files (f ∷ []) (All-from_recursion IsNoMem files (may is))
    by false is = any is files

pub rest_is_layered : (files : List ColumnFile) (n : ℕ) → IsLayered files → IsLayered (drop n files)
rest_is_layered files n layered = pairs_right Before (take n files) (drop n files) (subst IsLayered (sym (take-append-drop n files)) layered)

pub front_is_layered : (files : List ColumnFile) (n : ℕ) → IsLayered files → IsLayered (take n files)
front_is_layered files n layered = pairs_left Before (take n files) (drop n files) (subst IsLayered (sym (take-append-drop n files)) layered)

-- ---- one file in the place of several

pub parted : (files : List ColumnFile) (from to : ℕ) → from ≤ to → files ≡ take from files ++ (slice_range files from to ++ drop to files)
parted files from to le =
    let sum : from + (to - from) ≡ to = omega (arith, le) in
    sym (take-append-drop from files)
    ∙ ap (λ xs. take from files ++ xs) (sym (take-append-drop (to - from) (drop from files)))
    ∙ ap (λ xs. take from files ++ (slice_range files from to ++ xs)) (drop-drop (to - from) from files ∙ ap (λ n. drop n files) sum)

replaced_is_layered : (before run after : List ColumnFile) (one : ColumnFile) → IsLayered (before ++ (run ++ after)) → is_tiny one ≡ true → All IsNoMem before → IsLayered (before ++ one ∷ after)
replaced_is_layered before run after one layered tiny none =
    let back = pairs_right Before run after (pairs_right Before before (run ++ after) layered) in
    pairs_both Before before (one ∷ after) (pairs_left Before before (run ++ after) layered)
    (AllPairs-cons Before one after (λ k d less. no_mem_before one (tiny_is_no_mem one tiny) (_)) back)
    (none_before before (one ∷ after) none)

none_to_first_mem : (files : List ColumnFile) → All IsNoMem (take (first_mem files) files)
none_to_first_mem [] = All-nil IsNoMem
none_to_first_mem (f ∷ files) = by (is_mem f) refl (none_to_first_mem files)
  where
    more : (n : ℕ) → 1 + n ≡ suc n
    more n = omega arith

    by : (b : Bool) → is_mem f ≡ b → All IsNoMem (take (first_mem files) files) → All IsNoMem (take (cond (not b) (1 + first_mem files) 0) (f ∷ files))
    by true is rest = All-nil IsNoMem
    by false is rest = subst (λ n. All IsNoMem (take n (f ∷ files))) (sym (more (first_mem files))) (All-cons IsNoMem f (take (first_mem files) files) is rest)

pub flushed_is_layered : (files : List ColumnFile) (n : ℕ) (one : ColumnFile) → IsLayered files → CanFlush n one files → IsLayered (flushed n one files)
flushed_is_layered files n one layered can =
    let from = first_mem files in
    let whole = parted files from (from + n) (omega arith) in
    replaced_is_layered (take from files) (slice_range files from (from + n)) (drop (from + n) files) one (subst IsLayered whole layered) can.tiny (none_to_first_mem files)

none_before_tiny : (before run after : List ColumnFile) → IsLayered (before ++ (run ++ after)) → 0 < length run → AllByRecursion (λ (f : ColumnFile). is_tiny f ≡ true) run → All IsNoMem before
none_before_tiny before [] after layered some tinies = absurd (omega (arith, some))
none_before_tiny before (g ∷ run) after layered some tinies = All-weaker (λ (f : ColumnFile). All (Before f) ((g ∷ run) ++ after)) IsNoMem none before (pairs_cross Before before ((g ∷ run) ++ after) layered)
  where
    none : (f : ColumnFile) → All (Before f) ((g ∷ run) ++ after) → is_mem f ≡ false
    none f all = by (is_mem f) refl
      where
        by : (b : Bool) → is_mem f ≡ b → b ≡ false
        by true is = absurd (true≢false (sym tinies.0 ∙ All-head (Before f) g (run ++ after) all is))
        by false is = refl

pub compacted_is_layered : (files : List ColumnFile) (from to : ℕ) (one : ColumnFile) → IsLayered files → CanCompact from to one files → IsLayered (compacted from to one files)
compacted_is_layered files from to one layered can =
    let whole = subst IsLayered (parted files from to (omega (arith, can.some))) layered in
    let some : 0 < length (slice_range files from to) = omega (arith, length-take (to - from) (drop from files), length-drop from files, can.some, can.within) in
    replaced_is_layered (take from files) (slice_range files from to) (drop to files) one whole can.tiny (none_before_tiny (take from files) (slice_range files from to) (drop to files) whole some can.tinies)

-- the next file of what is layered as a whole
pub front_layered : (all rest total : List ColumnFile) (f : ColumnFile) → IsLayered total → all ++ (f ∷ rest) ≡ total → IsLayered (all ++ f ∷ [])
front_layered all rest total f layered is = pairs_left Before (all ++ f ∷ []) rest (subst IsLayered (sym (append_assoc all (f ∷ []) rest ∙ is)) layered)
