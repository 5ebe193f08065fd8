-- Slots that are in order give way to slots that are.
use Rattle.std.proofs.Common.{◌≡◌, ◌∙◌, refl, sym, ap, subst, ℕ, zero, suc, ◌+◌, ◌-◌, ◌<◌, ◌≤◌, Bool, true, false, cond, Option, List, [], ◌∷◌, ◌++◌, length, map, take, drop, arith}
use Rattle.std.specs.Prelude.{filter}
use Rattle.std.specs.List.{AllByRecursion}
use Rattle.std.proofs.Math.Seq.{drop-append-add, drop-append_seam, take-append-add, take-append_seam}
use Rattle.std.proofs.lemmas.List.{length-append, length-drop, length-map, length-take-le}
use Rattle.column_block.specs.declared.cell.Version.{Version}
use Rattle.column_file.specs.declared.file.ColumnFile.{ColumnFile}
use Rattle.column_file.specs.declared.file.ColumnFile.TheVariants.{Mem, Tiny, DeleteRange}
use Rattle.delta_layer.specs.Files.{is_mem, is_tiny}
use Rattle.flash_types.specs.declared.range.HandleRange.{HandleRange}
use Rattle.segment_list.specs.Order.{IsSlot, LiesIn}
use Rattle.segment_list.specs.Slots.{Slotted, clip_file, clip_pair, file_in, file_speaks, is_in, pair_speaks, pairs_of, tag_in}
use Rattle.segment_list.proofs.Gathers.{tiny_same}
use Rattle.segment_list.proofs.Replacing.{drop_again, take_again}
use Rattle.segment_install.specs.Slots.{Rest, both_rests, clip_rest, compacted_slot, half_slot, joined_slot, merged_slot, new_slot, rest_of}
use Rattle.segment_install.specs.declared.part.Part.{Part}

-- ---- lists

module _ {X : Type 0} (P : X → Type 0) where
  pub all_both : (xs ys : List X) → AllByRecursion P xs → AllByRecursion P ys → AllByRecursion P (xs ++ ys)
  all_both [] ys a b = b
  all_both (x ∷ xs) ys a b = (a.0, all_both xs ys a.1 b)

  pub all_drop : (n : ℕ) (xs : List X) → AllByRecursion P xs → AllByRecursion P (drop n xs)
  all_drop zero xs all = all
  all_drop (suc n) [] all = tt
  all_drop (suc n) (x ∷ xs) all = all_drop n xs all.1

  pub all_take : (n : ℕ) (xs : List X) → AllByRecursion P xs → AllByRecursion P (take n xs)
  all_take zero xs all = tt
  all_take (suc n) [] all = tt
  all_take (suc n) (x ∷ xs) all = (all.0, all_take n xs all.1)

  pub all_filter : (p : X → Bool) (xs : List X) → AllByRecursion P xs → AllByRecursion P (filter p xs)
  all_filter p [] all = tt
  all_filter p (x ∷ xs) all = by (p x) (all_filter p xs all.1)
    where
      by : (t : Bool) → AllByRecursion P (filter p xs) → AllByRecursion P (cond t (x ∷ filter p xs) (filter p xs))
      by true rest = (all.0, rest)
      by false rest = rest

pub all_map : {X Y : Type 0} (P : Y → Type 0) (f : X → Y) (xs : List X) → AllByRecursion (λ (x : X). P (f x)) xs → AllByRecursion P (map f xs)
all_map P f [] all = tt
all_map P f (x ∷ xs) all = (all.0, all_map P f xs all.1)

pub all_imply : {X : Type 0} (P Q : X → Type 0) → ((x : X) → P x → Q x) → (xs : List X) → AllByRecursion P xs → AllByRecursion Q xs
all_imply P Q f [] all = tt
all_imply P Q f (x ∷ xs) all = (f x all.0, all_imply P Q f xs all.1)

none_taken : {X : Type 0} (k : ℕ) → ◌≡◌ {A = List X} [] (take k [])
none_taken zero = refl
none_taken (suc k) = refl

drop_take : {X : Type 0} (n m : ℕ) (xs : List X) → drop n (take m xs) ≡ take (m - n) (drop n xs)
drop_take zero m xs = let same : m ≡ m - 0 = omega arith in ap (λ (k : ℕ). take k xs) same
drop_take (suc n) zero xs = let same : 0 ≡ 0 - suc n = omega arith in ap (λ (k : ℕ). take k (drop (suc n) xs)) same
drop_take (suc n) (suc m) [] = none_taken (suc m - suc n)
drop_take (suc n) (suc m) (x ∷ xs) = let same : m - n ≡ suc m - suc n = omega arith in drop_take n m xs ∙ ap (λ (k : ℕ). take k (drop n xs)) same

-- ---- files with tags, in pairs

pairs_tags : (P : ℕ → Type 0) (tags : List ℕ) (files : List ColumnFile) → AllByRecursion P tags → AllByRecursion (λ (q : ℕ × ColumnFile). P q.0) (pairs_of tags files)
pairs_tags P [] files all = tt
pairs_tags P (t ∷ ts) [] all = tt
pairs_tags P (t ∷ ts) (f ∷ fs) all = (all.0, pairs_tags P ts fs all.1)

pub pairs_files : (P : ColumnFile → Type 0) (tags : List ℕ) (files : List ColumnFile) → AllByRecursion P files → AllByRecursion (λ (q : ℕ × ColumnFile). P q.1) (pairs_of tags files)
pairs_files P [] files all = tt
pairs_files P (t ∷ ts) [] all = tt
pairs_files P (t ∷ ts) (f ∷ fs) all = (all.0, pairs_files P ts fs all.1)

-- ---- clipped

mem_same : (range : HandleRange) (f : ColumnFile) → is_mem (clip_file range f) ≡ is_mem f
mem_same range (Mem block) = refl
mem_same range (Tiny file block) = refl
mem_same range (DeleteRange other) = refl

all_kept : (p : Version → Bool) (vs : List Version) → AllByRecursion (λ (v : Version). p v ≡ true) (filter p vs)
all_kept p [] = tt
all_kept p (v ∷ vs) = by (p v) refl (all_kept p vs)
  where
    by : (t : Bool) → p v ≡ t → AllByRecursion (λ (w : Version). p w ≡ true) (filter p vs) → AllByRecursion (λ (w : Version). p w ≡ true) (cond t (v ∷ filter p vs) (filter p vs))
    by true is rest = (is, rest)
    by false is rest = rest

clip_lies : (range : HandleRange) (f : ColumnFile) → LiesIn range (clip_file range f)
clip_lies range (Mem block) = all_kept (is_in range) block
clip_lies range (Tiny file block) = all_kept (is_in range) block
clip_lies range (DeleteRange other) = tt

-- ---- a rest

-- what the parts of a new slot are
pub record IsRest (committed last : ℕ) (range : HandleRange) (rest : Rest) : Type 0 where
  pub named : AllByRecursion (λ (f : ColumnFile). is_mem f ≡ false) rest.named
  pub named_rows : AllByRecursion (LiesIn range) rest.named
  pub tags : AllByRecursion (λ (q : ℕ × ColumnFile). (committed < q.0) × (q.0 ≤ last)) rest.others
  pub behind : AllByRecursion (λ (q : ℕ × ColumnFile). is_tiny q.1 ≡ false) rest.others
  pub rows : AllByRecursion (λ (q : ℕ × ColumnFile). LiesIn range q.1) rest.others

module _ (committed last : ℕ) where
  pub clipped_is : (range wide : HandleRange) (rest : Rest) → IsRest committed last wide rest → IsRest committed last range (clip_rest range rest)
  clipped_is range wide rest is = record {
    named = all_filter (λ (f : ColumnFile). is_mem f ≡ false) file_speaks (map (clip_file range) rest.named) (all_map (λ (f : ColumnFile). is_mem f ≡ false) (clip_file range) rest.named (all_imply (λ (f : ColumnFile). is_mem f ≡ false) (λ (f : ColumnFile). is_mem (clip_file range f) ≡ false) (λ f e. mem_same range f ∙ e) rest.named is.named));
    named_rows = all_filter (LiesIn range) file_speaks (map (clip_file range) rest.named) (all_map (LiesIn range) (clip_file range) rest.named (all_imply (λ (f : ColumnFile). is_mem f ≡ false) (λ (f : ColumnFile). LiesIn range (clip_file range f)) (λ f e. clip_lies range f) rest.named is.named));
    tags = all_filter (λ (q : ℕ × ColumnFile). (committed < q.0) × (q.0 ≤ last)) pair_speaks (map (clip_pair range) rest.others) (all_map (λ (q : ℕ × ColumnFile). (committed < q.0) × (q.0 ≤ last)) (clip_pair range) rest.others is.tags);
    behind = all_filter (λ (q : ℕ × ColumnFile). is_tiny q.1 ≡ false) pair_speaks (map (clip_pair range) rest.others) (all_map (λ (q : ℕ × ColumnFile). is_tiny q.1 ≡ false) (clip_pair range) rest.others (all_imply (λ (q : ℕ × ColumnFile). is_tiny q.1 ≡ false) (λ (q : ℕ × ColumnFile). is_tiny (clip_file range q.1) ≡ false) (λ q e. tiny_same range q.1 ∙ e) rest.others is.behind));
    rows = all_filter (λ (q : ℕ × ColumnFile). LiesIn range q.1) pair_speaks (map (clip_pair range) rest.others) (all_map (λ (q : ℕ × ColumnFile). LiesIn range q.1) (clip_pair range) rest.others (all_imply (λ (q : ℕ × ColumnFile). is_tiny q.1 ≡ false) (λ (q : ℕ × ColumnFile). LiesIn range (clip_file range q.1)) (λ q e. clip_lies range q.1) rest.others is.behind));
  }

  pub both_are : (range : HandleRange) (a b : Rest) → IsRest committed last range a → IsRest committed last range b → IsRest committed last range (both_rests a b)
  both_are range a b x y = record {
    named = all_both (λ (f : ColumnFile). is_mem f ≡ false) a.named b.named x.named y.named;
    named_rows = all_both (LiesIn range) a.named b.named x.named_rows y.named_rows;
    tags = all_both (λ (q : ℕ × ColumnFile). (committed < q.0) × (q.0 ≤ last)) a.others b.others x.tags y.tags;
    behind = all_both (λ (q : ℕ × ColumnFile). is_tiny q.1 ≡ false) a.others b.others x.behind y.behind;
    rows = all_both (λ (q : ℕ × ColumnFile). LiesIn range q.1) a.others b.others x.rows y.rows;
  }

  -- what lies in a range lies in a wider one
  pub wider_is : (range wide : HandleRange) (rest : Rest) → ((v : Version) → is_in range v ≡ true → is_in wide v ≡ true) → IsRest committed last range rest → IsRest committed last wide rest
  wider_is range wide rest within is = record {
    named = is.named;
    named_rows = all_imply (LiesIn range) (LiesIn wide) lies rest.named is.named_rows;
    tags = is.tags;
    behind = is.behind;
    rows = all_imply (λ (q : ℕ × ColumnFile). LiesIn range q.1) (λ (q : ℕ × ColumnFile). LiesIn wide q.1) (λ q e. lies q.1 e) rest.others is.rows;
  }
    where
      lies : (f : ColumnFile) → LiesIn range f → LiesIn wide f
      lies (Mem block) e = all_imply (λ (v : Version). is_in range v ≡ true) (λ (v : Version). is_in wide v ≡ true) within block e
      lies (Tiny file block) e = all_imply (λ (v : Version). is_in range v ≡ true) (λ (v : Version). is_in wide v ≡ true) within block e
      lies (DeleteRange other) e = tt

module _ {G : Type 0} (committed last : ℕ) where
  pub new_in_order : (id : ℕ) (range : HandleRange) (part : Option (Part G)) (rest : Rest) → IsRest committed last range rest → IsSlot committed last (new_slot id range part rest)
  new_in_order id range part rest is = record {
    tagged = length-append rest.named (map file_in rest.others) ∙ ap (λ (n : ℕ). length rest.named + n) (length-map rest.others file_in ∙ sym (length-map rest.others tag_in));
    tags = all_map (λ (t : ℕ). (committed < t) × (t ≤ last)) tag_in rest.others is.tags;
    named = subst (AllByRecursion (λ (f : ColumnFile). is_mem f ≡ false)) (sym (take-append_seam rest.named (map file_in rest.others))) is.named;
    behind = subst (AllByRecursion (λ (f : ColumnFile). is_tiny f ≡ false)) (sym (drop-append_seam rest.named (map file_in rest.others))) (all_map (λ (f : ColumnFile). is_tiny f ≡ false) file_in rest.others is.behind);
    rows = all_both (LiesIn range) rest.named (map file_in rest.others) is.named_rows (all_map (LiesIn range) file_in rest.others is.rows);
  }

  -- what came behind the first files of a slot
  pub rest_is : (n : ℕ) (s : Slotted G) → IsSlot committed last s → IsRest committed last s.range (rest_of n s)
  rest_is n s is = record {
    named = subst (AllByRecursion (λ (f : ColumnFile). is_mem f ≡ false)) (drop_take n s.named s.files) (all_drop (λ (f : ColumnFile). is_mem f ≡ false) n (take s.named s.files) is.named);
    named_rows = all_take (LiesIn s.range) (s.named - n) (drop n s.files) (all_drop (LiesIn s.range) n s.files is.rows);
    tags = pairs_tags (λ (t : ℕ). (committed < t) × (t ≤ last)) (drop (n - s.named) s.tags) (drop (s.named - n) (drop n s.files)) (all_drop (λ (t : ℕ). (committed < t) × (t ≤ last)) (n - s.named) s.tags is.tags);
    behind = pairs_files (λ (f : ColumnFile). is_tiny f ≡ false) (drop (n - s.named) s.tags) (drop (s.named - n) (drop n s.files)) (behind_is n s is);
    rows = pairs_files (LiesIn s.range) (drop (n - s.named) s.tags) (drop (s.named - n) (drop n s.files)) (all_drop (LiesIn s.range) (s.named - n) (drop n s.files) (all_drop (LiesIn s.range) n s.files is.rows));
  }
    where
      behind_is : (n : ℕ) (s : Slotted G) → IsSlot committed last s → AllByRecursion (λ (f : ColumnFile). is_tiny f ≡ false) (drop (s.named - n) (drop n s.files))
      behind_is n s is = (
          let same : s.named + (n - s.named) ≡ n + (s.named - n) = omega arith in
          subst (AllByRecursion (λ (f : ColumnFile). is_tiny f ≡ false)) (drop_again s.named (n - s.named) s.files ∙ ap (λ (k : ℕ). drop k s.files) same ∙ sym (drop_again n (s.named - n) s.files)) (all_drop (λ (f : ColumnFile). is_tiny f ≡ false) (n - s.named) (drop s.named s.files) is.behind))

  pub merged_in_order : (n : ℕ) (part : Option (Part G)) (s : Slotted G) → n ≤ length s.files → IsSlot committed last s → IsSlot committed last (merged_slot n part s)
  merged_in_order n part s within is = record {
    tagged = omega (arith, is.tagged, within, length-drop n s.files, length-drop (n - s.named) s.tags);
    tags = all_drop (λ (t : ℕ). (committed < t) × (t ≤ last)) (n - s.named) s.tags is.tags;
    named = subst (AllByRecursion (λ (f : ColumnFile). is_mem f ≡ false)) (drop_take n s.named s.files) (all_drop (λ (f : ColumnFile). is_mem f ≡ false) n (take s.named s.files) is.named);
    behind = (
        let same : s.named + (n - s.named) ≡ n + (s.named - n) = omega arith in
        subst (AllByRecursion (λ (f : ColumnFile). is_tiny f ≡ false)) (drop_again s.named (n - s.named) s.files ∙ ap (λ (k : ℕ). drop k s.files) same ∙ sym (drop_again n (s.named - n) s.files)) (all_drop (λ (f : ColumnFile). is_tiny f ≡ false) (n - s.named) (drop s.named s.files) is.behind));
    rows = all_drop (LiesIn s.range) n s.files is.rows;
  }

  pub half_in_order : (id : ℕ) (range : HandleRange) (part : Option (Part G)) (n : ℕ) (s : Slotted G) → IsSlot committed last s → IsSlot committed last (half_slot id range part n s)
  half_in_order id range part n s is = new_in_order id range part (clip_rest range (rest_of n s)) (clipped_is committed last range s.range (rest_of n s) (rest_is n s is))

  pub joined_in_order : (id : ℕ) (range : HandleRange) (part : Option (Part G)) (n : ℕ) (l : Slotted G) (m : ℕ) (r : Slotted G) → ((v : Version) → is_in l.range v ≡ true → is_in range v ≡ true) → ((v : Version) → is_in r.range v ≡ true → is_in range v ≡ true) → IsSlot committed last l → IsSlot committed last r → IsSlot committed last (joined_slot id range part n l m r)
  joined_in_order id range part n l m r left right a b =
      let x : Rest = clip_rest l.range (rest_of n l) in
      let y : Rest = clip_rest r.range (rest_of m r) in
      new_in_order id range part (both_rests x y)
      (both_are committed last range x y
      (wider_is committed last l.range range x left (clipped_is committed last l.range l.range (rest_of n l) (rest_is n l a)))
      (wider_is committed last r.range range y right (clipped_is committed last r.range r.range (rest_of m r) (rest_is m r b))))

  pub compacted_in_order : (from to number : ℕ) (versions : List Version) (s : Slotted G) → from ≤ to → to ≤ s.named → AllByRecursion (λ (v : Version). is_in s.range v ≡ true) versions → IsSlot committed last s → IsSlot committed last (compacted_slot from to (Tiny number versions) s)
  compacted_in_order from to number versions s order within lie is =
      let long : length (take from s.files) ≡ from = length-take-le from s.files (omega (arith, is.tagged, order, within)) in
      let many : s.named - (to - from) + 1 ≡ length (take from s.files) + suc (s.named - to) = omega (arith, long, order, within) in
      let all : to + (s.named - to) ≡ s.named = omega (arith, within) in
      record {
        tagged = omega (arith, is.tagged, order, within, long, length-append (take from s.files) (Tiny number versions ∷ drop to s.files), length-drop to s.files);
        tags = is.tags;
        named = subst (AllByRecursion (λ (f : ColumnFile). is_mem f ≡ false)) (sym (ap (λ (k : ℕ). take k (take from s.files ++ Tiny number versions ∷ drop to s.files)) many ∙ take-append-add (take from s.files) (Tiny number versions ∷ drop to s.files) (suc (s.named - to))))
            (all_both (λ (f : ColumnFile). is_mem f ≡ false) (take from s.files) (Tiny number versions ∷ take (s.named - to) (drop to s.files))
            (subst (AllByRecursion (λ (f : ColumnFile). is_mem f ≡ false)) (take_again from s.named s.files (omega (arith, order, within))) (all_take (λ (f : ColumnFile). is_mem f ≡ false) from (take s.named s.files) is.named))
            (refl, subst (AllByRecursion (λ (f : ColumnFile). is_mem f ≡ false)) (drop_take to s.named s.files) (all_drop (λ (f : ColumnFile). is_mem f ≡ false) to (take s.named s.files) is.named)));
        behind = subst (AllByRecursion (λ (f : ColumnFile). is_tiny f ≡ false)) (sym (ap (λ (k : ℕ). drop k (take from s.files ++ Tiny number versions ∷ drop to s.files)) many ∙ drop-append-add (take from s.files) (Tiny number versions ∷ drop to s.files) (suc (s.named - to)) ∙ drop_again to (s.named - to) s.files ∙ ap (λ (k : ℕ). drop k s.files) all)) is.behind;
        rows = all_both (LiesIn s.range) (take from s.files) (Tiny number versions ∷ drop to s.files) (all_take (LiesIn s.range) from s.files is.rows) (lie, all_drop (LiesIn s.range) to s.files is.rows);
      }
