-- What every file of a slot is, the files of the slots are that take its place.
use Rattle.std.proofs.Common.{ℕ, ◌-◌, List, ◌∷◌, Option, map, take, drop}
use Rattle.std.specs.List.{AllByRecursion}
use Rattle.column_file.specs.declared.file.ColumnFile.{ColumnFile}
use Rattle.column_file.specs.declared.file.ColumnFile.TheVariants.{Tiny}
use Rattle.column_block.specs.declared.cell.Version.{Version}
use Rattle.flash_types.specs.declared.range.HandleRange.{HandleRange}
use Rattle.segment_list.specs.Slots.{Slotted, clip_file, clip_pair, file_in, file_speaks, pair_speaks}
use Rattle.segment_install.specs.Slots.{Rest, both_rests, clip_rest, compacted_slot, half_slot, joined_slot, merged_slot, new_slot, rest_of}
use Rattle.segment_install.specs.declared.part.Part.{Part}
use Rattle.segment_install.proofs.Orders.{all_both, all_drop, all_filter, all_imply, all_map, all_take, pairs_files}

-- where what a file is stays when it is clipped
module _ (P : ColumnFile → Type 0) (clips : (range : HandleRange) (f : ColumnFile) → P f → P (clip_file range f)) where
  -- the files of a rest
  AllOf : Rest → Type 0
  AllOf rest = AllByRecursion P rest.named × AllByRecursion (λ (q : ℕ × ColumnFile). P q.1) rest.others

  clipped_are : (range : HandleRange) (rest : Rest) → AllOf rest → AllOf (clip_rest range rest)
  unfolding AllOf
  clipped_are range rest all = (
    all_filter P file_speaks (map (clip_file range) rest.named) (all_map P (clip_file range) rest.named (all_imply P (λ (f : ColumnFile). P (clip_file range f)) (clips range) rest.named all.0)),
    all_filter (λ (q : ℕ × ColumnFile). P q.1) pair_speaks (map (clip_pair range) rest.others) (all_map (λ (q : ℕ × ColumnFile). P q.1) (clip_pair range) rest.others (all_imply (λ (q : ℕ × ColumnFile). P q.1) (λ (q : ℕ × ColumnFile). P (clip_file range q.1)) (λ q e. clips range q.1 e) rest.others all.1)),
  )

  both_are_such : (a b : Rest) → AllOf a → AllOf b → AllOf (both_rests a b)
  unfolding AllOf
  both_are_such a b x y = (all_both P a.named b.named x.0 y.0, all_both (λ (q : ℕ × ColumnFile). P q.1) a.others b.others x.1 y.1)

  module _ {G : Type 0} where
    rest_are : (n : ℕ) (s : Slotted G) → AllByRecursion P s.files → AllOf (rest_of n s)
    unfolding AllOf
    rest_are n s all = (
      all_take P (s.named - n) (drop n s.files) (all_drop P n s.files all),
      pairs_files P (drop (n - s.named) s.tags) (drop (s.named - n) (drop n s.files)) (all_drop P (s.named - n) (drop n s.files) (all_drop P n s.files all)),
    )

    new_are : (id : ℕ) (range : HandleRange) (part : Option (Part G)) (rest : Rest) → AllOf rest → AllByRecursion P (new_slot id range part rest).files
    unfolding AllOf
    new_are id range part rest all = all_both P rest.named (map file_in rest.others) all.0 (all_map P file_in rest.others all.1)

    pub compacted_are : (from to number : ℕ) (versions : List Version) (s : Slotted G) → AllByRecursion P s.files → P (Tiny number versions) → AllByRecursion P (compacted_slot from to (Tiny number versions) s).files
    compacted_are from to number versions s all one = all_both P (take from s.files) (Tiny number versions ∷ drop to s.files) (all_take P from s.files all) (one, all_drop P to s.files all)

    pub merged_are : (n : ℕ) (part : Option (Part G)) (s : Slotted G) → AllByRecursion P s.files → AllByRecursion P (merged_slot n part s).files
    merged_are n part s all = all_drop P n s.files all

    pub half_are : (id : ℕ) (range : HandleRange) (part : Option (Part G)) (n : ℕ) (s : Slotted G) → AllByRecursion P s.files → AllByRecursion P (half_slot id range part n s).files
    half_are id range part n s all = new_are id range part (clip_rest range (rest_of n s)) (clipped_are range (rest_of n s) (rest_are n s all))

    pub joined_are : (id : ℕ) (range : HandleRange) (part : Option (Part G)) (n : ℕ) (l : Slotted G) (m : ℕ) (r : Slotted G) → AllByRecursion P l.files → AllByRecursion P r.files → AllByRecursion P (joined_slot id range part n l m r).files
    joined_are id range part n l m r a b = new_are id range part (both_rests (clip_rest l.range (rest_of n l)) (clip_rest r.range (rest_of m r))) (both_are_such (clip_rest l.range (rest_of n l)) (clip_rest r.range (rest_of m r)) (clipped_are l.range (rest_of n l) (rest_are n l a)) (clipped_are r.range (rest_of m r) (rest_are m r b)))
