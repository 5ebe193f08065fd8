-- What a flush leaves of the files of a delta.
use Rattle.std.proofs.Common.{◌≡◌, ◌∙◌, refl, sym, ap, subst, ◌⊎◌, inl, inr, ℕ, zero, suc, ◌+◌, ◌-◌, ◌<◌, ◌≤◌, Bool, true, false, true≢false, cond, ◌||◌, List, [], ◌∷◌, ◌++◌, Option, Some, None, length, map, take, drop, get_or, set, add-one, arith}
use Rattle.std.specs.Prelude.{slice_get, slice_range}
use Rattle.std.specs.List.{AllByRecursion, list_any, sum_by}
use Rattle.std.proofs.Math.Seq.{take-append_seam, drop-append_seam, drop-append-add}
use Rattle.std.proofs.lemmas.List.{append_assoc, drop_all, length-append, take_all}
use Rattle.std.proofs.lemmas.List.Folds.{list_any-append}
use Rattle.std.proofs.lemmas.List.Sums.{sum_by-cons}
use Rattle.column_block.specs.declared.cell.Version.{Version}
use Rattle.column_file.specs.declared.file.ColumnFile.{ColumnFile}
use Rattle.column_file.specs.declared.file.ColumnFile.TheVariants.{Mem, Tiny, DeleteRange}
use Rattle.delta_layer.specs.Files.{HasNoMem, files_of, is_mem, is_tiny}
use Rattle.delta_layer.specs.Repacked.{CanFlush, Flushed, Repacked, Then, first_mem, flushed}
use Rattle.good_replica.specs.Trail.{after_steps, steps_on}
use Rattle.segment.specs.declared.segments.Segment.{Segment}
use Rattle.flash_types.specs.declared.range.HandleRange.{HandleRange}
use Rattle.segment_list.specs.Flushes.{after_file, after_files, flushed_file, flushed_files, flushed_slot}
use Rattle.segment_list.specs.Order.{IsSlot, LiesIn}
use Rattle.segment_list.specs.Slots.{Slotted, file_rows, key_of, mem_rows}
use Rattle.segment_list.proofs.Covers.{place_behind, place_here}
use Rattle.segment_list.proofs.Rows.{one_more}

-- ---- one more file

pub files_more : (n : ℕ) (fs : List ColumnFile) (f : ColumnFile) → flushed_files n (fs ++ f ∷ []) ≡ flushed_files n fs ++ flushed_file (after_files n fs) f ∷ []
files_more n [] f = refl
files_more n (g ∷ gs) f = ap (λ (r : List ColumnFile). flushed_file n g ∷ r) (files_more (after_file n g) gs f)

after_more : (n : ℕ) (fs : List ColumnFile) (f : ColumnFile) → after_files n (fs ++ f ∷ []) ≡ after_file (after_files n fs) f
after_more n [] f = refl
after_more n (g ∷ gs) f = after_more (after_file n g) gs f

pub flushed_more : (n : ℕ) (fs : List ColumnFile) (i : ℕ) (f : ColumnFile) → slice_get fs i ≡ Some f → flushed_files n (take (i + 1) fs) ≡ flushed_files n (take i fs) ++ flushed_file (after_files n (take i fs)) f ∷ []
flushed_more n fs i f e = rw add-one (ap (flushed_files n) (one_more fs i f e)) ∙ files_more n (take i fs) f

pub number_more : (n : ℕ) (fs : List ColumnFile) (i : ℕ) (f : ColumnFile) → slice_get fs i ≡ Some f → after_files n (take (i + 1) fs) ≡ after_file (after_files n (take i fs)) f
number_more n fs i f e = rw add-one (ap (after_files n) (one_more fs i f e)) ∙ after_more n (take i fs) f

-- ---- what stays

pub no_mem : (n : ℕ) (fs : List ColumnFile) → HasNoMem (flushed_files n fs)
no_mem n [] = tt
no_mem n (Mem block ∷ fs) = (refl, no_mem (n + 1) fs)
no_mem n (Tiny file block ∷ fs) = (refl, no_mem n fs)
no_mem n (DeleteRange range ∷ fs) = (refl, no_mem n fs)

same_file_rows : (n : ℕ) (f : ColumnFile) → file_rows (flushed_file n f) ≡ file_rows f
same_file_rows n (Mem block) = refl
same_file_rows n (Tiny file block) = refl
same_file_rows n (DeleteRange range) = refl

no_file_rows : (n : ℕ) (f : ColumnFile) → mem_rows (flushed_file n f) ≡ 0
no_file_rows n (Mem block) = refl
no_file_rows n (Tiny file block) = refl
no_file_rows n (DeleteRange range) = refl

pub same_rows : (n : ℕ) (fs : List ColumnFile) → sum_by file_rows (flushed_files n fs) ≡ sum_by file_rows fs
same_rows n [] = refl
same_rows n (f ∷ fs) = omega (arith, sum_by-cons file_rows (flushed_file n f) (flushed_files (after_file n f) fs), sum_by-cons file_rows f fs, same_file_rows n f, same_rows (after_file n f) fs)

pub no_rows : (n : ℕ) (fs : List ColumnFile) → sum_by mem_rows (flushed_files n fs) ≡ 0
no_rows n [] = refl
no_rows n (f ∷ fs) = omega (arith, sum_by-cons mem_rows (flushed_file n f) (flushed_files (after_file n f) fs), no_file_rows n f, no_rows (after_file n f) fs)

pub none_same : (n : ℕ) (fs : List ColumnFile) → list_any is_mem fs ≡ false → flushed_files n fs ≡ fs
none_same n [] e = refl
none_same n (Mem block ∷ fs) e = absurd (true≢false e)
none_same n (Tiny file block ∷ fs) e = ap (λ (r : List ColumnFile). Tiny file block ∷ r) (none_same n fs e)
none_same n (DeleteRange range ∷ fs) e = ap (λ (r : List ColumnFile). DeleteRange range ∷ r) (none_same n fs e)

-- ---- the layer came by flushes

first_behind : (pre : List ColumnFile) (block : List Version) (fs : List ColumnFile) → HasNoMem pre → first_mem (pre ++ Mem block ∷ fs) ≡ length pre
first_behind [] block fs free = place_here is_mem (Mem block) fs refl
first_behind (f ∷ pre) block fs free = place_behind is_mem f (pre ++ Mem block ∷ fs) free.0 ∙ omega (arith, first_behind pre block fs free.1)

slice_one : (pre : List ColumnFile) (f : ColumnFile) (fs : List ColumnFile) → slice_range (pre ++ f ∷ fs) (length pre) (length pre + 1) ≡ f ∷ []
slice_one pre f fs =
    let one : (length pre + 1) - length pre ≡ 1 = omega arith in
    ap (λ (n : ℕ). take n (drop (length pre) (pre ++ f ∷ fs))) one ∙ ap (take 1) (drop-append_seam pre (f ∷ fs))

can : (n : ℕ) (pre : List ColumnFile) (block : List Version) (fs : List ColumnFile) → HasNoMem pre → CanFlush 1 (Tiny n block) (pre ++ Mem block ∷ fs)
can n pre block fs free =
    let files : List ColumnFile = pre ++ Mem block ∷ fs in
    let first : first_mem files ≡ length pre = first_behind pre block fs free in
    let part : slice_range files (first_mem files) (first_mem files + 1) ≡ Mem block ∷ [] = ap (λ (m : ℕ). slice_range files m (m + 1)) first ∙ slice_one pre (Mem block) fs in
    record {
      some = omega arith;
      within = omega (arith, first, length-append pre (Mem block ∷ fs));
      mems = subst (AllByRecursion (λ (f : ColumnFile). is_mem f ≡ true)) (sym part) (refl, tt);
      tiny = refl;
      same = λ h ts. ap (λ (gs : List ColumnFile). after_steps ts None (steps_on h (files_of gs))) (sym part);
    }

one_flushed : (n : ℕ) (pre : List ColumnFile) (block : List Version) (fs : List ColumnFile) → HasNoMem pre → flushed 1 (Tiny n block) (pre ++ Mem block ∷ fs) ≡ pre ++ Tiny n block ∷ fs
one_flushed n pre block fs free =
    ap (λ (m : ℕ). take m (pre ++ Mem block ∷ fs) ++ Tiny n block ∷ drop (m + 1) (pre ++ Mem block ∷ fs)) (first_behind pre block fs free)
    ∙ ap (λ (r : List ColumnFile). r ++ Tiny n block ∷ drop (length pre + 1) (pre ++ Mem block ∷ fs)) (take-append_seam pre (Mem block ∷ fs))
    ∙ ap (λ (r : List ColumnFile). pre ++ Tiny n block ∷ r) (drop-append-add pre (Mem block ∷ fs) 1)

no_mem_more : (pre : List ColumnFile) (f : ColumnFile) → HasNoMem pre → is_mem f ≡ false → HasNoMem (pre ++ f ∷ [])
no_mem_more [] f free e = (e, tt)
no_mem_more (g ∷ gs) f free e = (free.0, no_mem_more gs f free.1 e)

repacked_behind : (n : ℕ) (pre fs : List ColumnFile) → HasNoMem pre → list_any is_mem fs ≡ true → Repacked (pre ++ fs) (pre ++ flushed_files n fs)
repacked_behind n pre [] free e = absurd (true≢false (sym e))
repacked_behind n pre (Mem block ∷ fs) free e =
    by (list_any is_mem fs) refl (repacked_behind (n + 1) (pre ++ Tiny n block ∷ []) fs (no_mem_more pre (Tiny n block) free refl))
  where
    middle : Repacked (pre ++ Mem block ∷ fs) (pre ++ Tiny n block ∷ fs)
    middle = subst (Repacked (pre ++ Mem block ∷ fs)) (one_flushed n pre block fs free) (Flushed (pre ++ Mem block ∷ fs) 1 (Tiny n block) (can n pre block fs free))

    by : (t : Bool) → list_any is_mem fs ≡ t → (list_any is_mem fs ≡ true → Repacked ((pre ++ Tiny n block ∷ []) ++ fs) ((pre ++ Tiny n block ∷ []) ++ flushed_files (n + 1) fs)) → Repacked (pre ++ Mem block ∷ fs) (pre ++ Tiny n block ∷ flushed_files (n + 1) fs)
    by true is more = Then (pre ++ Mem block ∷ fs) (pre ++ Tiny n block ∷ fs) (pre ++ Tiny n block ∷ flushed_files (n + 1) fs) middle (subst (λ (r : List ColumnFile). Repacked r (pre ++ Tiny n block ∷ flushed_files (n + 1) fs)) (append_assoc pre (Tiny n block ∷ []) fs) (subst (Repacked ((pre ++ Tiny n block ∷ []) ++ fs)) (append_assoc pre (Tiny n block ∷ []) (flushed_files (n + 1) fs)) (more is)))
    by false is more = subst (λ (r : List ColumnFile). Repacked (pre ++ Mem block ∷ fs) (pre ++ Tiny n block ∷ r)) (sym (none_same (n + 1) fs is)) middle
repacked_behind n pre (Tiny file block ∷ fs) free e =
    subst (λ (r : List ColumnFile). Repacked r (pre ++ Tiny file block ∷ flushed_files n fs)) (append_assoc pre (Tiny file block ∷ []) fs)
    (subst (Repacked ((pre ++ Tiny file block ∷ []) ++ fs)) (append_assoc pre (Tiny file block ∷ []) (flushed_files n fs)) (repacked_behind n (pre ++ Tiny file block ∷ []) fs (no_mem_more pre (Tiny file block) free refl) e))
repacked_behind n pre (DeleteRange range ∷ fs) free e =
    subst (λ (r : List ColumnFile). Repacked r (pre ++ DeleteRange range ∷ flushed_files n fs)) (append_assoc pre (DeleteRange range ∷ []) fs)
    (subst (Repacked ((pre ++ DeleteRange range ∷ []) ++ fs)) (append_assoc pre (DeleteRange range ∷ []) (flushed_files n fs)) (repacked_behind n (pre ++ DeleteRange range ∷ []) fs (no_mem_more pre (DeleteRange range) free refl) e))

pub repacked_all : (n : ℕ) (fs : List ColumnFile) → list_any is_mem fs ≡ true → Repacked fs (flushed_files n fs)
repacked_all n fs e = repacked_behind n [] fs tt e

pub repacked_or_same : (n : ℕ) (fs : List ColumnFile) → Repacked fs (flushed_files n fs) ⊎ (flushed_files n fs ≡ fs)
repacked_or_same n fs = by (list_any is_mem fs) refl
  where
    by : (t : Bool) → list_any is_mem fs ≡ t → Repacked fs (flushed_files n fs) ⊎ (flushed_files n fs ≡ fs)
    by true e = inl (repacked_all n fs e)
    by false e = inr (none_same n fs e)

-- ---- a slot in order

flushed_length : (n : ℕ) (fs : List ColumnFile) → length (flushed_files n fs) ≡ length fs
flushed_length n [] = refl
flushed_length n (f ∷ fs) = ap suc (flushed_length (after_file n f) fs)

one_lies : (range : HandleRange) (n : ℕ) (f : ColumnFile) → LiesIn range f → LiesIn range (flushed_file n f)
one_lies range n (Mem block) lies = lies
one_lies range n (Tiny file block) lies = lies
one_lies range n (DeleteRange other) lies = lies

all_lie : (range : HandleRange) (n : ℕ) (fs : List ColumnFile) → AllByRecursion (LiesIn range) fs → AllByRecursion (LiesIn range) (flushed_files n fs)
all_lie range n [] all = tt
all_lie range n (f ∷ fs) all = (one_lies range n f all.0, all_lie range (after_file n f) fs all.1)

pub in_order : {G : Type 0} (committed last after latest n : ℕ) (s : Slotted G) → IsSlot committed last s → IsSlot after latest (flushed_slot n s)
in_order committed last after latest n s ok =
    let long : length (flushed_files n s.files) ≤ length s.files = omega (arith, flushed_length n s.files) in
    record {
      tagged = omega (arith, flushed_length n s.files);
      tags = tt;
      named = subst (AllByRecursion (λ (f : ColumnFile). is_mem f ≡ false)) (sym (take_all (length s.files) (flushed_files n s.files) long)) (no_mem n s.files);
      behind = subst (AllByRecursion (λ (f : ColumnFile). is_tiny f ≡ false)) (sym (drop_all (length s.files) (flushed_files n s.files) long)) tt;
      rows = all_lie s.range n s.files ok.rows;
    }

-- ---- whether there is a block in memory

pub has_at : {X : Type 0} (p : X → Bool) (xs : List X) (i : ℕ) (x : X) → slice_get xs i ≡ Some x → p x ≡ true → list_any p xs ≡ true
has_at p [] i x e is = absurd (cc e)
has_at p (y ∷ ys) zero x e is = (let same : y ≡ x = cc in ap (λ (t : Bool). t || list_any p ys) (ap p same ∙ is))
has_at p (y ∷ ys) (suc i) x e is = by (p y) (has_at p ys i x e is)
  where
    by : (t : Bool) → list_any p ys ≡ true → (t || list_any p ys) ≡ true
    by true rest = refl
    by false rest = rest

pub has_no_more : {X : Type 0} (p : X → Bool) (xs : List X) (i : ℕ) (x : X) → slice_get xs i ≡ Some x → p x ≡ false → list_any p (take i xs) ≡ false → list_any p (take (i + 1) xs) ≡ false
has_no_more p xs i x e out none =
    rw add-one (ap (list_any p) (one_more xs i x e)) ∙ list_any-append p (take i xs) (x ∷ []) ∙ ap (λ (t : Bool). t || (p x || false)) none ∙ ap (λ (t : Bool). t || false) out

-- ---- a segment

module _ {G : Type 0} where
  renewed : (n : ℕ) (s : Segment G) → Bool → List ColumnFile → Segment G
  renewed n s t fs = record s { epoch = cond t (s.epoch + 1) s.epoch; layer = fs }

  pub same_segment : (n : ℕ) (s : Segment G) → list_any is_mem s.layer ≡ false → s ≡ record s { epoch = cond (list_any is_mem s.layer) (s.epoch + 1) s.epoch; layer = flushed_files n s.layer }
  unfolding renewed
  same_segment n s none = ap (λ (t : Bool). renewed n s t s.layer) (sym none) ∙ ap (renewed n s (list_any is_mem s.layer)) (sym (none_same n s.layer none))

  pub new_segment : (n : ℕ) (s : Segment G) (layer : List ColumnFile) → list_any is_mem s.layer ≡ true → layer ≡ flushed_files n s.layer → record s { epoch = s.epoch + 1; layer = layer } ≡ record s { epoch = cond (list_any is_mem s.layer) (s.epoch + 1) s.epoch; layer = flushed_files n s.layer }
  unfolding renewed
  new_segment n s layer any is = ap (λ (t : Bool). renewed n s t layer) (sym any) ∙ ap (renewed n s (list_any is_mem s.layer)) is

-- ---- places

pub get_some : {X : Type 0} (xs : List X) (k : ℕ) (d : X) → k < length xs → slice_get xs k ≡ Some (get_or xs k d)
get_some [] k d lt = absurd (omega arith)
get_some (x ∷ xs) zero d lt = refl
get_some (x ∷ xs) (suc k) d lt = get_some xs k d (omega arith)

pub key_set_at : {G : Type 0} (slots : List (Slotted G)) (k : ℕ) (x y : Slotted G) → key_of y ≡ key_of (get_or slots k x) → map key_of (set slots k y) ≡ map key_of slots
key_set_at [] k x y same = refl
key_set_at (s ∷ ss) zero x y same = ap (λ (q : ℕ × HandleRange). q ∷ map key_of ss) same
key_set_at (s ∷ ss) (suc k) x y same = ap (λ (r : List (ℕ × HandleRange)). key_of s ∷ r) (key_set_at ss k x y same)

pub put_same : {G : Type 0} (n : ℕ) (slots : List (Slotted G)) (k : ℕ) (d s y : Slotted G) → k < length slots → y ≡ flushed_slot n (get_or slots k d) → slice_get slots k ≡ Some s → set slots k y ≡ set slots k (flushed_slot n s)
put_same {G = G} n slots k d s y lt is there = ap (set slots k) (is ∙ ap (flushed_slot n) (one (get_some slots k d lt) there))
  where
    one : {a b : Slotted G} {o : Option (Slotted G)} → o ≡ Some a → o ≡ Some b → a ≡ b
    one e f = cc
