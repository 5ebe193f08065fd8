-- What installs keep, by cases on the job.
use Rattle.std.proofs.Common.{◌≡◌, ◌∙◌, refl, sym, ap, subst, ℕ, suc, ◌+◌, ◌-◌, ◌<◌, ◌≤◌, Bool, true, ◌&&◌, int_le, int_lt, ℤ, Option, Some, None, Ok, List, [], ◌∷◌, ◌++◌, length, map, take, drop, arith}
use Rattle.std.specs.Prelude.{slice_get, slice_range}
use Rattle.std.specs.List.{AllByRecursion, flat_map}
use Rattle.std.proofs.lemmas.Int.{ints}
use Rattle.std.proofs.lemmas.List.{length-append, map-append}
use Rattle.column_block.specs.declared.cell.Version.{Version}
use Rattle.column_block.specs.declared.column.Column.{Column}
use Rattle.column_file.specs.declared.file.ColumnFile.{ColumnFile}
use Rattle.column_file.specs.declared.file.ColumnFile.TheVariants.{Mem, Tiny, DeleteRange}
use Rattle.delta_layer.specs.Built.{AreTwo, IsOne}
use Rattle.delta_layer.specs.Overlay.{block_in}
use Rattle.delta_layer.specs.Stable.{stable_in}
use Rattle.delta_layer.specs.declared.built.Built.{Built}
use Rattle.delta_layer.specs.declared.built.Job.{Job}
use Rattle.delta_layer.specs.declared.built.Job.TheVariants.{Compact, MergeDelta, Split, Merge}
use Rattle.delta_layer.specs.declared.view.SegmentView.{SegmentView}
use Rattle.flash_types.specs.Ranges.{is_below, least_handle}
use Rattle.flash_types.specs.declared.range.HandleRange.{HandleRange}
use Rattle.good_replica.specs.Good.{CoversFrom}
use Rattle.prefix_laws.specs.Tagged.{TaggedSegment}
use Rattle.segment_laws.specs.Jobs.{FromDeltaMerge, FromMerge, FromSplit, IsBuiltBy}
use Rattle.segment_laws.proofs.Contracts.{delta_merge_gives, merge_gives, split_gives}
use Rattle.segment_list.specs.Laws.{told_by}
use Rattle.segment_list.specs.Lists.{range_alone, with_slots}
use Rattle.segment_list.specs.Order.{IsSlot, LiesIn}
use Rattle.segment_list.specs.Slots.{Slotted, is_in}
use Rattle.segment_list.proofs.Insides.{both_true}
use Rattle.segment_list.proofs.Replacing.{in_three}
use Rattle.segment_merge.specs.Joined.{Touch, joined}
use Rattle.segment_work.specs.Begun.{segments_for}
use Rattle.stable_file.specs.declared.file.StableFile.{StableFile}
use Rattle.segment_install.specs.Goodness.{FilesHave, IsInstall, slots_after}
use Rattle.segment_install.specs.Plans.{AreHalves, AreInstalled, CanInstall, CanInstallAt, IsCompacted, IsJoined, IsMerged, IsPlan, part_of}
use Rattle.segment_install.specs.Slots.{Fits, compacted_slot, half_slot, joined_slot, merged_slot}
use Rattle.segment_install.specs.declared.part.Files.{Files}
use Rattle.segment_install.specs.declared.planned.Install.{Install}
use Rattle.segment_install.proofs.Goods.{Keeps, Laws, compact_keeps, join_keeps, merge_delta_keeps, split_keeps}
use Rattle.segment_install.proofs.Orders.{all_both, all_drop, all_take, compacted_in_order, half_in_order, joined_in_order, merged_in_order}
use Rattle.segment_install.proofs.Placed.{one_at, two_at}
use Rattle.segment_install.proofs.Putting.{Stands, stands_at}
use Rattle.segment_install.proofs.Ready.{at_place, can_at}
use Rattle.segment_install.proofs.Running.{run_named, run_tinies, same_slice}

-- ---- what stands at the place, and what takes its place, by the job

-- a slot gives way
pub record OneAt {G : Type 0} (slots : List (Slotted G)) (place count : ℕ) (v : SegmentView G) : Type 0 where
  pub slot : Slotted G
  pub there : slice_get slots place ≡ Some slot
  pub olds : take count (drop place slots) ≡ slot ∷ []
  pub fits : Fits v slot

-- two slots give way
pub record TwoAt {G : Type 0} (slots : List (Slotted G)) (place count : ℕ) (v w : SegmentView G) : Type 0 where
  pub left : Slotted G
  pub right : Slotted G
  pub left_there : slice_get slots place ≡ Some left
  pub right_there : slice_get slots (place + 1) ≡ Some right
  pub olds : take count (drop place slots) ≡ left ∷ right ∷ []
  pub left_fits : Fits v left
  pub right_fits : Fits w right

module _ {G : Type 0} (first place count : ℕ) (built : Built G) (slots : List (Slotted G)) (can : CanInstallAt first place built slots) (count_is : count ≡ segments_for built.job) where
  pub one_slot : (v : SegmentView G) → segments_for built.job ≡ 1 → built.views ≡ v ∷ [] → OneAt slots place count v
  one_slot v one views =
      let at : Stands slots place = stands_at slots place (omega (arith, can.within, one)) in
      let none : place + 0 ≡ place = omega arith in
      record {
        slot = at.slot;
        there = at.there;
        olds = ap (λ (n : ℕ). take n (drop place slots)) (count_is ∙ one) ∙ one_at slots place at.slot at.there;
        fits = can.fit 0 v at.slot (ap (λ (vs : List (SegmentView G)). slice_get vs 0) views) (ap (slice_get slots) none ∙ at.there);
      }

  pub two_slots : (v w : SegmentView G) → segments_for built.job ≡ 2 → built.views ≡ v ∷ w ∷ [] → TwoAt slots place count v w
  two_slots v w two views =
      let low : Stands slots place = stands_at slots place (omega (arith, can.within, two)) in
      let high : Stands slots (place + 1) = stands_at slots (place + 1) (omega (arith, can.within, two)) in
      let none : place + 0 ≡ place = omega arith in
      record {
        left = low.slot;
        right = high.slot;
        left_there = low.there;
        right_there = high.there;
        olds = ap (λ (n : ℕ). take n (drop place slots)) (count_is ∙ two) ∙ two_at slots place low.slot high.slot low.there high.there;
        left_fits = can.fit 0 v low.slot (ap (λ (vs : List (SegmentView G)). slice_get vs 0) views) (ap (slice_get slots) none ∙ low.there);
        right_fits = can.fit 1 w high.slot (ap (λ (vs : List (SegmentView G)). slice_get vs 1) views) high.there;
      }

view_same : {G : Type 0} {v w : SegmentView G} → ◌≡◌ {A = List (SegmentView G)} (v ∷ []) (w ∷ []) → v ≡ w
view_same e = cc e

left_same : {G : Type 0} {a b c d : SegmentView G} → ◌≡◌ {A = List (SegmentView G)} (a ∷ b ∷ []) (c ∷ d ∷ []) → a ≡ c
left_same e = cc e

right_same : {G : Type 0} {a b c d : SegmentView G} → ◌≡◌ {A = List (SegmentView G)} (a ∷ b ∷ []) (c ∷ d ∷ []) → b ≡ d
right_same e = cc e

-- ---- goodness

module _ {G : Type 0} (P : List TaggedSegment → Type 0) (read : Option (StableFile G) → List Version) where
  shape : (place count : ℕ) (news slots : List (Slotted G)) → map (told_by read) (with_slots place count news slots) ≡ map (told_by read) (take place slots) ++ (map (told_by read) news ++ map (told_by read) (drop (place + count) slots))
  shape place count news slots =
      map-append (told_by read) (take place slots) (news ++ drop (place + count) slots)
      ∙ ap (λ (ts : List TaggedSegment). map (told_by read) (take place slots) ++ ts) (map-append (told_by read) news (drop (place + count) slots))

  all_keep : (place count : ℕ) (olds news slots : List (Slotted G)) → take count (drop place slots) ≡ olds → Keeps P (map (told_by read) olds) (map (told_by read) news) → P (map (told_by read) slots) → P (map (told_by read) (with_slots place count news slots))
  all_keep place count olds news slots are keeps good =
      subst P (sym (shape place count news slots))
      (keeps.keeps (map (told_by read) (take place slots)) (map (told_by read) (drop (place + count) slots))
      (subst P (ap (map (told_by read)) (sym (in_three place count slots)) ∙ shape place count (take count (drop place slots)) slots ∙ ap (λ (os : List (Slotted G)). map (told_by read) (take place slots) ++ (map (told_by read) os ++ map (told_by read) (drop (place + count) slots))) are) good))

module _ {G : Type 0} (P : List TaggedSegment → Type 0) (tells : Type 0) (bytes : G → List ℕ) (columns : List Column) (rows : ℕ) (read : Option (StableFile G) → List Version) (safe committed last first : ℕ) (laws : Laws P safe committed last) (order : committed ≤ last) (files : Files G) (built : Built G) (slots : List (Slotted G)) (install : Install G) (inst : IsInstall tells bytes columns rows read safe committed last first files built slots install) where
  can : CanInstallAt first install.place built slots
  can = can_at first install.place built slots inst.can inst.cover inst.plan.place

  in_order : (k : ℕ) (s : Slotted G) → slice_get slots k ≡ Some s → IsSlot committed last s
  in_order k s there = at_place (IsSlot committed last) slots k s inst.order there

  put_back : (olds news : List (Slotted G)) → take install.count (drop install.place slots) ≡ olds → install.slots.items ≡ news → Keeps P (map (told_by read) olds) (map (told_by read) news) → P (map (told_by read) slots) → P (map (told_by read) (slots_after install slots))
  put_back olds news are is keeps good = subst (λ (ns : List (Slotted G)). P (map (told_by read) (with_slots install.place install.count ns slots))) (sym is) (all_keep P read install.place install.count olds news slots are keeps good)

  compact_good : (seg : ℕ) → built.job ≡ Compact seg → AreInstalled (Compact seg) first files built (take install.count (drop install.place slots)) install.slots.items → P (map (told_by read) slots) → P (map (told_by read) (slots_after install slots))
  compact_good seg e news good = by (take install.count (drop install.place slots)) refl news
    where
      by : (olds : List (Slotted G)) → take install.count (drop install.place slots) ≡ olds → IsOne (λ (old : Slotted G). IsCompacted first built old install.slots.items) olds → P (map (told_by read) (slots_after install slots))
      by [] are is = absurd is
      by (s ∷ t ∷ more) are is = absurd is
      by (s ∷ []) are is = (
          let one : OneAt slots install.place install.count is.of.view = one_slot first install.place install.count built slots can inst.plan.count is.of.view (ap segments_for e) is.of.views in
          let same : one.slot ≡ s = slot_same (sym one.olds ∙ are) in
          put_back (s ∷ []) (compacted_slot is.of.from is.of.to (Tiny first is.of.piece.versions) s ∷ []) are is.are
          (compact_keeps P safe committed last laws order read is.of.from is.of.to first is.of.view s is.of.piece.versions (subst (Fits is.of.view) same one.fits) (subst (IsSlot committed last) same (in_order install.place one.slot one.there)) is.of.run is.of.versions) good)
        where
          slot_same : {a b : Slotted G} → ◌≡◌ {A = List (Slotted G)} (a ∷ []) (b ∷ []) → a ≡ b
          slot_same e = cc e

  merge_delta_good : (seg : ℕ) → built.job ≡ MergeDelta seg → FromDeltaMerge tells bytes columns rows built → FilesHave read files (MergeDelta seg) built.pieces → AreInstalled (MergeDelta seg) first files built (take install.count (drop install.place slots)) install.slots.items → P (map (told_by read) slots) → P (map (told_by read) (slots_after install slots))
  merge_delta_good seg e from have news good = by (take install.count (drop install.place slots)) refl news
    where
      by : (olds : List (Slotted G)) → take install.count (drop install.place slots) ≡ olds → IsOne (λ (old : Slotted G). IsMerged first files built old install.slots.items) olds → P (map (told_by read) (slots_after install slots))
      by [] are is = absurd is
      by (s ∷ t ∷ more) are is = absurd is
      by (s ∷ []) are is = (
          let one : OneAt slots install.place install.count from.old = one_slot first install.place install.count built slots can inst.plan.count from.old (ap segments_for e) from.is.views in
          let same : one.slot ≡ s = slot_same (sym one.olds ∙ are) in
          let view : is.of.view ≡ from.old = view_same (sym is.of.views ∙ from.is.views) in
          let reads = (subst (AllByRecursion (λ (v : SegmentView G). stable_in bytes v.stable ≡ Ok (read v.stable))) from.is.views inst.views).0 in
          put_back (s ∷ []) (merged_slot (length from.old.delta) (part_of first files.low) s ∷ []) are (is.are ∙ ap (λ (v : SegmentView G). merged_slot (length v.delta) (part_of first files.low) s ∷ []) view)
          (merge_delta_keeps P safe committed last laws order read first built.safe_point files.low from.old s built.pieces (subst (Fits from.old) same one.fits) (subst (IsSlot committed last) same (in_order install.place one.slot one.there)) inst.safe_point
          (delta_merge_gives bytes columns rows built built.safe_point from.old (read from.old.stable) from.is (from.gives inst.known) reads) have) good)
        where
          slot_same : {a b : Slotted G} → ◌≡◌ {A = List (Slotted G)} (a ∷ []) (b ∷ []) → a ≡ b
          slot_same e = cc e

  split_good : (seg : ℕ) → built.job ≡ Split seg → FromSplit tells bytes columns rows built → FilesHave read files (Split seg) built.pieces → AreInstalled (Split seg) first files built (take install.count (drop install.place slots)) install.slots.items → P (map (told_by read) slots) → P (map (told_by read) (slots_after install slots))
  split_good seg e from have news good = by (take install.count (drop install.place slots)) refl news
    where
      by : (olds : List (Slotted G)) → take install.count (drop install.place slots) ≡ olds → IsOne (λ (old : Slotted G). AreHalves first files built old install.slots.items) olds → P (map (told_by read) (slots_after install slots))
      by [] are is = absurd is
      by (s ∷ t ∷ more) are is = absurd is
      by (s ∷ []) are is = (
          let one : OneAt slots install.place install.count from.old = one_slot first install.place install.count built slots can inst.plan.count from.old (ap segments_for e) from.is.views in
          let same : one.slot ≡ s = slot_same (sym one.olds ∙ are) in
          let view : is.of.view ≡ from.old = view_same (sym is.of.views ∙ from.is.views) in
          let reads = (subst (AllByRecursion (λ (v : SegmentView G). stable_in bytes v.stable ≡ Ok (read v.stable))) from.is.views inst.views).0 in
          put_back (s ∷ []) (half_slot (first + 2) is.of.low.range (part_of first files.low) (length from.old.delta) s ∷ half_slot (first + 3) is.of.high.range (part_of (first + 1) files.high) (length from.old.delta) s ∷ []) are
          (is.are ∙ ap (λ (v : SegmentView G). half_slot (first + 2) is.of.low.range (part_of first files.low) (length v.delta) s ∷ half_slot (first + 3) is.of.high.range (part_of (first + 1) files.high) (length v.delta) s ∷ []) view)
          (split_keeps P safe committed last laws order read first files.low files.high from.old s is.of.low is.of.high built.pieces (subst (Fits from.old) same one.fits) (subst (IsSlot committed last) same (in_order install.place one.slot one.there)) is.of.pieces
          (split_gives bytes columns rows built from.at from.old (read from.old.stable) from.cut from.is (from.gives inst.known) reads) have) good)
        where
          slot_same : {a b : Slotted G} → ◌≡◌ {A = List (Slotted G)} (a ∷ []) (b ∷ []) → a ≡ b
          slot_same e = cc e

  merge_good : (seg : ℕ) → built.job ≡ Merge seg → FromMerge tells bytes columns rows built → FilesHave read files (Merge seg) built.pieces → AreInstalled (Merge seg) first files built (take install.count (drop install.place slots)) install.slots.items → P (map (told_by read) slots) → P (map (told_by read) (slots_after install slots))
  merge_good seg e from have news good = by (take install.count (drop install.place slots)) refl news
    where
      by : (olds : List (Slotted G)) → take install.count (drop install.place slots) ≡ olds → AreTwo (λ (left right : Slotted G). IsJoined first files built left right install.slots.items) olds → P (map (told_by read) (slots_after install slots))
      by [] are is = absurd is
      by (s ∷ []) are is = absurd is
      by (s ∷ t ∷ u ∷ more) are is = absurd is
      by (s ∷ t ∷ []) are is = (
          let two : TwoAt slots install.place install.count from.left from.right = two_slots first install.place install.count built slots can inst.plan.count from.left from.right (ap segments_for e) from.is.views in
          let low : two.left ≡ s = first_same (sym two.olds ∙ are) in
          let high : two.right ≡ t = second_same (sym two.olds ∙ are) in
          let left : is.of.left ≡ from.left = left_same (sym is.of.views ∙ from.is.views) in
          let right : is.of.right ≡ from.right = right_same (sym is.of.views ∙ from.is.views) in
          let reads = subst (AllByRecursion (λ (v : SegmentView G). stable_in bytes v.stable ≡ Ok (read v.stable))) from.is.views inst.views in
          put_back (s ∷ t ∷ []) (joined_slot (first + 1) is.of.piece.range (part_of first files.low) (length from.left.delta) s (length from.right.delta) t ∷ []) are
          (is.are ∙ ap (λ (v : SegmentView G). joined_slot (first + 1) is.of.piece.range (part_of first files.low) (length v.delta) s (length is.of.right.delta) t ∷ []) left ∙ ap (λ (v : SegmentView G). joined_slot (first + 1) is.of.piece.range (part_of first files.low) (length from.left.delta) s (length v.delta) t ∷ []) right)
          (join_keeps P safe committed last laws order read first files.low from.left from.right s t is.of.piece built.pieces (subst (Fits from.left) low two.left_fits) (subst (Fits from.right) high two.right_fits) (subst (IsSlot committed last) low (in_order install.place two.left two.left_there)) (subst (IsSlot committed last) high (in_order (install.place + 1) two.right two.right_there)) is.of.pieces
          (merge_gives bytes columns rows built from.left from.right (read from.left.stable) (read from.right.stable) from.touch from.is (from.gives inst.known) reads.0 reads.1.0) have) good)
        where
          first_same : {a b c d : Slotted G} → ◌≡◌ {A = List (Slotted G)} (a ∷ b ∷ []) (c ∷ d ∷ []) → a ≡ c
          first_same e = cc e

          second_same : {a b c d : Slotted G} → ◌≡◌ {A = List (Slotted G)} (a ∷ b ∷ []) (c ∷ d ∷ []) → b ≡ d
          second_same e = cc e

  pub install_keeps : P (map (told_by read) slots) → P (map (told_by read) (slots_after install slots))
  install_keeps good = by built.job refl inst.built_is inst.have inst.plan.news
    where
      by : (job : Job) → built.job ≡ job → IsBuiltBy tells bytes columns rows job built → FilesHave read files job built.pieces → AreInstalled job first files built (take install.count (drop install.place slots)) install.slots.items → P (map (told_by read) (slots_after install slots))
      by (Compact seg) e from have news = compact_good seg e news good
      by (MergeDelta seg) e from have news = merge_delta_good seg e from have news good
      by (Split seg) e from have news = split_good seg e from have news good
      by (Merge seg) e from have news = merge_good seg e from have news good

-- ---- order

all_flat : (P : Version → Type 0) (range : HandleRange) (files : List ColumnFile) → ((f : ColumnFile) → LiesIn range f → AllByRecursion P (block_in f)) → AllByRecursion (LiesIn range) files → AllByRecursion P (flat_map block_in files)
all_flat P range [] each all = tt
all_flat P range (f ∷ fs) each all = all_both P (block_in f) (flat_map block_in fs) (each f all.0) (all_flat P range fs each all.1)

block_lies : (range : HandleRange) (f : ColumnFile) → LiesIn range f → AllByRecursion (λ (v : Version). is_in range v ≡ true) (block_in f)
block_lies range (Mem block) e = e
block_lies range (Tiny file block) e = e
block_lies range (DeleteRange other) e = tt

below_both : (a b : ℤ) (o : Option ℤ) → is_below a (Some b) ≡ true → is_below b o ≡ true → is_below a o ≡ true
below_both a b None p q = refl
below_both a b (Some c) p q = less a b c p q
  where
    less : (a b c : ℤ) → int_lt a b ≡ true → int_lt b c ≡ true → int_lt a c ≡ true
    less a b c p q = grind (arith, ints)

in_left : (left right : HandleRange) (v : Version) → Touch left right → is_in left v ≡ true → is_in (joined left right) v ≡ true
in_left left right v touch e =
    let both = both_true (int_le left.low v.handle) (is_below v.handle left.high) e in
    ap (λ (t : Bool). t && is_below v.handle right.high) both.0 ∙ below_both v.handle right.low right.high (sym (ap (is_below v.handle) touch.seam) ∙ both.1) touch.right_filled

in_right : (left right : HandleRange) (v : Version) → Touch left right → is_in right v ≡ true → is_in (joined left right) v ≡ true
in_right left right v touch e =
    let both = both_true (int_le right.low v.handle) (is_below v.handle right.high) e in
    ap (λ (t : Bool). t && is_below v.handle right.high) (under left.low right.low v.handle (sym (ap (is_below left.low) touch.seam) ∙ touch.left_filled) both.0) ∙ both.1
  where
    under : (a b c : ℤ) → int_lt a b ≡ true → int_le b c ≡ true → int_le a c ≡ true
    under a b c p q = grind (arith, ints)

module _ {G : Type 0} (committed last first : ℕ) (files : Files G) (built : Built G) (slots : List (Slotted G)) (install : Install G) (may : CanInstall first built slots) (cover : CoversFrom least_handle (map range_alone slots)) (plan : IsPlan first files built slots install) (order : AllByRecursion (IsSlot committed last) slots) where
  ready : CanInstallAt first install.place built slots
  ready = can_at first install.place built slots may cover plan.place

  slot_at : (k : ℕ) (s : Slotted G) → slice_get slots k ≡ Some s → IsSlot committed last s
  slot_at k s there = at_place (IsSlot committed last) slots k s order there

  slot_same : {a b : Slotted G} → ◌≡◌ {A = List (Slotted G)} (a ∷ []) (b ∷ []) → a ≡ b
  slot_same e = cc e

  first_same : {a b c d : Slotted G} → ◌≡◌ {A = List (Slotted G)} (a ∷ b ∷ []) (c ∷ d ∷ []) → a ≡ c
  first_same e = cc e

  second_same : {a b c d : Slotted G} → ◌≡◌ {A = List (Slotted G)} (a ∷ b ∷ []) (c ∷ d ∷ []) → b ≡ d
  second_same e = cc e

  news_in_order : (job : Job) → built.job ≡ job → (olds : List (Slotted G)) → take install.count (drop install.place slots) ≡ olds → AreInstalled job first files built olds install.slots.items → AllByRecursion (IsSlot committed last) install.slots.items
  news_in_order (Compact seg) e [] are is = absurd is
  news_in_order (Compact seg) e (s ∷ t ∷ more) are is = absurd is
  news_in_order (Compact seg) e (s ∷ []) are is =
      let one : OneAt slots install.place install.count is.of.view = one_slot first install.place install.count built slots ready plan.count is.of.view (ap segments_for e) is.of.views in
      let same : one.slot ≡ s = slot_same (sym one.olds ∙ are) in
      let fits : Fits is.of.view s = subst (Fits is.of.view) same one.fits in
      let ok : IsSlot committed last s = subst (IsSlot committed last) same (slot_at install.place one.slot one.there) in
      let many : suc is.of.from < is.of.to = is.of.run.many in
      let tinies = run_tinies s.files is.of.view.delta fits.rest is.of.from is.of.to fits.files is.of.run in
      let named : is.of.to ≤ s.named = run_named s.files is.of.from is.of.to s.named (omega (arith, many)) tinies.1 tinies.0 ok.behind in
      let slice : slice_range s.files is.of.from is.of.to ≡ slice_range is.of.view.delta is.of.from is.of.to = ap (λ (fs : List ColumnFile). slice_range fs is.of.from is.of.to) fits.files ∙ same_slice is.of.view.delta fits.rest is.of.from is.of.to (omega (arith, many)) is.of.run.within in
      let lie : AllByRecursion (λ (v : Version). is_in s.range v ≡ true) is.of.piece.versions = subst (AllByRecursion (λ (v : Version). is_in s.range v ≡ true)) (ap (flat_map block_in) slice ∙ sym is.of.versions) (all_flat (λ (v : Version). is_in s.range v ≡ true) s.range (slice_range s.files is.of.from is.of.to) (block_lies s.range) (all_take (LiesIn s.range) (is.of.to - is.of.from) (drop is.of.from s.files) (all_drop (LiesIn s.range) is.of.from s.files ok.rows))) in
      subst (AllByRecursion (IsSlot committed last)) (sym is.are) (compacted_in_order committed last is.of.from is.of.to first is.of.piece.versions s (omega (arith, many)) named lie ok, tt)
  news_in_order (MergeDelta seg) e [] are is = absurd is
  news_in_order (MergeDelta seg) e (s ∷ t ∷ more) are is = absurd is
  news_in_order (MergeDelta seg) e (s ∷ []) are is =
      let one : OneAt slots install.place install.count is.of.view = one_slot first install.place install.count built slots ready plan.count is.of.view (ap segments_for e) is.of.views in
      let same : one.slot ≡ s = slot_same (sym one.olds ∙ are) in
      let fits : Fits is.of.view s = subst (Fits is.of.view) same one.fits in
      let ok : IsSlot committed last s = subst (IsSlot committed last) same (slot_at install.place one.slot one.there) in
      subst (AllByRecursion (IsSlot committed last)) (sym is.are) (merged_in_order committed last (length is.of.view.delta) (part_of first files.low) s (omega (arith, ap length fits.files, length-append is.of.view.delta fits.rest)) ok, tt)
  news_in_order (Split seg) e [] are is = absurd is
  news_in_order (Split seg) e (s ∷ t ∷ more) are is = absurd is
  news_in_order (Split seg) e (s ∷ []) are is =
      let one : OneAt slots install.place install.count is.of.view = one_slot first install.place install.count built slots ready plan.count is.of.view (ap segments_for e) is.of.views in
      let same : one.slot ≡ s = slot_same (sym one.olds ∙ are) in
      let ok : IsSlot committed last s = subst (IsSlot committed last) same (slot_at install.place one.slot one.there) in
      subst (AllByRecursion (IsSlot committed last)) (sym is.are) (half_in_order committed last (first + 2) is.of.low.range (part_of first files.low) (length is.of.view.delta) s ok, (half_in_order committed last (first + 3) is.of.high.range (part_of (first + 1) files.high) (length is.of.view.delta) s ok, tt))
  news_in_order (Merge seg) e [] are is = absurd is
  news_in_order (Merge seg) e (s ∷ []) are is = absurd is
  news_in_order (Merge seg) e (s ∷ t ∷ u ∷ more) are is = absurd is
  news_in_order (Merge seg) e (s ∷ t ∷ []) are is =
      let two : TwoAt slots install.place install.count is.of.left is.of.right = two_slots first install.place install.count built slots ready plan.count is.of.left is.of.right (ap segments_for e) is.of.views in
      let low : two.left ≡ s = first_same (sym two.olds ∙ are) in
      let high : two.right ≡ t = second_same (sym two.olds ∙ are) in
      let left_fits : Fits is.of.left s = subst (Fits is.of.left) low two.left_fits in
      let right_fits : Fits is.of.right t = subst (Fits is.of.right) high two.right_fits in
      subst (AllByRecursion (IsSlot committed last)) (sym is.are) (
        joined_in_order committed last (first + 1) is.of.piece.range (part_of first files.low) (length is.of.left.delta) s (length is.of.right.delta) t
            (λ v inside. ap (λ (r : HandleRange). is_in r v) is.of.range ∙ in_left is.of.left.range is.of.right.range v is.of.touch (sym (ap (λ (r : HandleRange). is_in r v) left_fits.range) ∙ inside))
            (λ v inside. ap (λ (r : HandleRange). is_in r v) is.of.range ∙ in_right is.of.left.range is.of.right.range v is.of.touch (sym (ap (λ (r : HandleRange). is_in r v) right_fits.range) ∙ inside))
            (subst (IsSlot committed last) low (slot_at install.place two.left two.left_there)) (subst (IsSlot committed last) high (slot_at (install.place + 1) two.right two.right_there)),
        tt,
      )

  pub install_in_order : AllByRecursion (IsSlot committed last) (slots_after install slots)
  install_in_order =
      all_both (IsSlot committed last) (take install.place slots) (install.slots.items ++ drop (install.place + install.count) slots) (all_take (IsSlot committed last) install.place slots order)
      (all_both (IsSlot committed last) install.slots.items (drop (install.place + install.count) slots) (news_in_order built.job refl (take install.count (drop install.place slots)) refl plan.news) (all_drop (IsSlot committed last) (install.place + install.count) slots order))
