-- What is planned can be put.
use Rattle.std.proofs.Common.{◌≡◌, ◌≢◌, ◌∙◌, refl, sym, ap, subst, ℕ, zero, suc, ◌+◌, ◌<◌, ◌≤◌, Some, List, [], ◌∷◌, ◌++◌, length, take, drop, get_or, arith}
use Rattle.std.specs.Prelude.{slice_get, vec_capacity, vec_len}
use Rattle.std.specs.List.{AllByRecursion}
use Rattle.std.proofs.lemmas.List.{length-append, length-drop, length-take-le}
use Rattle.delta_layer.specs.Built.{AreTwo, IsOne}
use Rattle.delta_layer.specs.declared.built.Built.{Built}
use Rattle.delta_layer.specs.declared.built.Job.{Job}
use Rattle.delta_layer.specs.declared.built.Job.TheVariants.{Compact, MergeDelta, Split, Merge}
use Rattle.delta_layer.specs.declared.view.SegmentView.{SegmentView}
use Rattle.segment_list.specs.Lists.{CoverAlike, NumbersDiffer, with_slots}
use Rattle.segment_list.specs.Slots.{Slotted}
use Rattle.segment_work.specs.Begun.{segments_for}
use Rattle.segment_install.specs.Plans.{AreHalves, AreInstalled, CanInstallAt, CanPut, IsCompacted, IsJoined, IsMerged, part_of}
use Rattle.column_file.specs.declared.file.ColumnFile.TheVariants.{Tiny}
use Rattle.segment_install.specs.Slots.{Fits, compacted_slot, half_slot, joined_slot, merged_slot}
use Rattle.segment_install.specs.declared.part.Files.{Files}
use Rattle.segment_install.specs.declared.planned.Install.{Install}
use Rattle.segment_install.proofs.Alike.{alike_halves, alike_joined, alike_one}
use Rattle.segment_install.proofs.Placed.{inside, new_differ, one_at, one_differs, two_at}
use Rattle.segment_install.proofs.Ready.{all_numbers}

module _ {G : Type 0} where
  -- what stands at a place
  pub record Stands (slots : List (Slotted G)) (place : ℕ) : Type 0 where
    pub slot : Slotted G
    pub there : slice_get slots place ≡ Some slot

  pub stands_at : (slots : List (Slotted G)) (place : ℕ) → place < length slots → Stands slots place
  stands_at [] place lt = absurd (omega (arith, lt))
  stands_at (s ∷ slots) zero lt = record { slot = s; there = refl }
  stands_at (s ∷ slots) (suc place) lt = (let rest = stands_at slots place (omega (arith, lt)) in record { slot = rest.slot; there = rest.there })

  room_is : (place count : ℕ) (news slots : List (Slotted G)) → place + count ≤ length slots → length news ≤ 2 → length (with_slots place count news slots) ≤ length slots + 2
  room_is place count news slots within few = omega (arith, within, few, length-append (take place slots) (news ++ drop (place + count) slots), length-append news (drop (place + count) slots), length-take-le place slots (omega (arith, within)), length-drop (place + count) slots)

  put_with : (install : Install G) (slots olds news : List (Slotted G)) → 0 < install.count → install.place + install.count ≤ length slots → take install.count (drop install.place slots) ≡ olds → install.slots.items ≡ news → CoverAlike olds news → NumbersDiffer (with_slots install.place install.count news slots) → length news ≤ 2 → vec_len install.spare ≡ 0 → length slots + 2 ≤ vec_capacity install.spare → CanPut install slots
  put_with install slots olds news some within are is alike differ few empty room = record {
    some = some;
    within = within;
    cover = subst (λ (os : List (Slotted G)). CoverAlike os install.slots.items) (sym are) (subst (CoverAlike olds) (sym is) alike);
    numbers = subst (λ (ns : List (Slotted G)). NumbersDiffer (with_slots install.place install.count ns slots)) (sym is) differ;
    empty = empty;
    room = (let enough : length (with_slots install.place install.count news slots) ≤ length slots + 2 = room_is install.place install.count news slots within few in omega (arith, enough, room, ap (λ (ns : List (Slotted G)). length (with_slots install.place install.count ns slots)) is));
  }

  -- one slot in the place of one with the same handles and number
  one_put : (install : Install G) (slots : List (Slotted G)) (s x : Slotted G) → install.count ≡ 1 → slice_get slots install.place ≡ Some s → install.slots.items ≡ x ∷ [] → x.range ≡ s.range → x.id ≡ s.id → NumbersDiffer slots → vec_len install.spare ≡ 0 → length slots + 2 ≤ vec_capacity install.spare → CanPut install slots
  one_put install slots s x count there is range number differ empty room =
      put_with install slots (s ∷ []) (x ∷ []) (omega (arith, count)) (omega (arith, count, inside slots install.place s there)) (ap (λ (n : ℕ). take n (drop install.place slots)) count ∙ one_at slots install.place s there) is
      (alike_one s x range) (subst (λ (n : ℕ). NumbersDiffer (with_slots install.place n (x ∷ []) slots)) (sym count) (one_differs install.place s x slots there number differ)) (omega arith) empty room

  one_alone : (x : Slotted G) → NumbersDiffer (x ∷ [])
  one_alone x i j d less lt = absurd (omega (arith, less, lt))

  two_differ : (x y : Slotted G) → x.id ≢ y.id → NumbersDiffer (x ∷ y ∷ [])
  two_differ x y apart zero zero d less lt = absurd (omega (arith, less))
  two_differ x y apart zero (suc zero) d less lt = apart
  two_differ x y apart zero (suc (suc j)) d less lt = absurd (omega (arith, lt))
  two_differ x y apart (suc i) j d less lt = absurd (omega (arith, less, lt))

  from_one : (first : ℕ) (x : Slotted G) → first ≤ x.id → (k : ℕ) (d : Slotted G) → k < length (x ∷ []) → first ≤ (get_or (x ∷ []) k d).id
  from_one first x le zero d lt = le
  from_one first x le (suc k) d lt = absurd (omega (arith, lt))

  from_two : (first : ℕ) (x y : Slotted G) → first ≤ x.id → first ≤ y.id → (k : ℕ) (d : Slotted G) → k < length (x ∷ y ∷ []) → first ≤ (get_or (x ∷ y ∷ []) k d).id
  from_two first x y le more zero d lt = le
  from_two first x y le more (suc zero) d lt = more
  from_two first x y le more (suc (suc k)) d lt = absurd (omega (arith, lt))

  -- two new slots in the place of one
  halves_put : (first : ℕ) (install : Install G) (slots : List (Slotted G)) (s x y : Slotted G) → install.count ≡ 1 → slice_get slots install.place ≡ Some s → install.slots.items ≡ x ∷ y ∷ [] → CoverAlike (s ∷ []) (x ∷ y ∷ []) → first ≤ x.id → x.id < y.id → AllByRecursion (λ (t : Slotted G). t.id < first) slots → NumbersDiffer slots → vec_len install.spare ≡ 0 → length slots + 2 ≤ vec_capacity install.spare → CanPut install slots
  halves_put first install slots s x y count there is alike from apart below differ empty room =
      put_with install slots (s ∷ []) (x ∷ y ∷ []) (omega (arith, count)) (omega (arith, count, inside slots install.place s there)) (ap (λ (n : ℕ). take n (drop install.place slots)) count ∙ one_at slots install.place s there) is alike
      (new_differ first install.place install.count (x ∷ y ∷ []) slots below differ (two_differ x y (λ e. omega (arith, apart, e))) (from_two first x y from (omega (arith, from, apart)))) (omega arith) empty room

  -- a new slot in the place of two
  joined_put : (first : ℕ) (install : Install G) (slots : List (Slotted G)) (s t x : Slotted G) → install.count ≡ 2 → slice_get slots install.place ≡ Some s → slice_get slots (install.place + 1) ≡ Some t → install.slots.items ≡ x ∷ [] → CoverAlike (s ∷ t ∷ []) (x ∷ []) → first ≤ x.id → AllByRecursion (λ (u : Slotted G). u.id < first) slots → NumbersDiffer slots → vec_len install.spare ≡ 0 → length slots + 2 ≤ vec_capacity install.spare → CanPut install slots
  joined_put first install slots s t x count there next is alike from below differ empty room =
      put_with install slots (s ∷ t ∷ []) (x ∷ []) (omega (arith, count)) (omega (arith, count, inside slots (install.place + 1) t next)) (ap (λ (n : ℕ). take n (drop install.place slots)) count ∙ two_at slots install.place s t there next) is alike
      (new_differ first install.place install.count (x ∷ []) slots below differ (one_alone x) (from_one first x from)) (omega arith) empty room

  pub can_put : (first : ℕ) (files : Files G) (built : Built G) (slots : List (Slotted G)) (install : Install G) → CanInstallAt first install.place built slots → install.count ≡ segments_for built.job → AreInstalled built.job first files built (take install.count (drop install.place slots)) install.slots.items → NumbersDiffer slots → vec_len install.spare ≡ 0 → length slots + 2 ≤ vec_capacity install.spare → CanPut install slots
  can_put first files built slots install can count are differ empty room = by built.job refl are
    where
      below : AllByRecursion (λ (t : Slotted G). t.id < first) slots
      below = all_numbers first slots can.laid

      one_there : (job : Job) → built.job ≡ job → segments_for job ≡ 1 → Stands slots install.place
      one_there job e n = (let many : segments_for built.job ≡ 1 = ap segments_for e ∙ n in stands_at slots install.place (omega (arith, can.within, many)))

      count_is : (job : Job) (n : ℕ) → built.job ≡ job → segments_for job ≡ n → install.count ≡ n
      count_is job n e f = count ∙ ap segments_for e ∙ f

      olds_one : (s : Slotted G) → install.count ≡ 1 → slice_get slots install.place ≡ Some s → take install.count (drop install.place slots) ≡ s ∷ []
      olds_one s n there = ap (λ (k : ℕ). take k (drop install.place slots)) n ∙ one_at slots install.place s there

      fits_first : (v : SegmentView G) (vs : List (SegmentView G)) (s : Slotted G) → built.views ≡ v ∷ vs → slice_get slots install.place ≡ Some s → Fits v s
      fits_first v vs s views there = (let none : install.place + 0 ≡ install.place = omega arith in can.fit 0 v s (ap (λ (ws : List (SegmentView G)). slice_get ws 0) views) (ap (slice_get slots) none ∙ there))

      by : (job : Job) → built.job ≡ job → AreInstalled job first files built (take install.count (drop install.place slots)) install.slots.items → CanPut install slots
      by (Compact seg) e is = (
          let at = one_there (Compact seg) e refl in
          let n : install.count ≡ 1 = count_is (Compact seg) 1 e refl in
          let new = subst (IsOne (λ (old : Slotted G). IsCompacted first built old install.slots.items)) (olds_one at.slot n at.there) is in
          one_put install slots at.slot (compacted_slot new.of.from new.of.to (Tiny first new.of.piece.versions) at.slot) n at.there new.are refl refl differ empty room)
      by (MergeDelta seg) e is = (
          let at = one_there (MergeDelta seg) e refl in
          let n : install.count ≡ 1 = count_is (MergeDelta seg) 1 e refl in
          let new = subst (IsOne (λ (old : Slotted G). IsMerged first files built old install.slots.items)) (olds_one at.slot n at.there) is in
          one_put install slots at.slot (merged_slot (length new.of.view.delta) (part_of first files.low) at.slot) n at.there new.are refl refl differ empty room)
      by (Split seg) e is = (
          let at = one_there (Split seg) e refl in
          let n : install.count ≡ 1 = count_is (Split seg) 1 e refl in
          let new = subst (IsOne (λ (old : Slotted G). AreHalves first files built old install.slots.items)) (olds_one at.slot n at.there) is in
          halves_put first install slots at.slot (half_slot (first + 2) new.of.low.range (part_of first files.low) (length new.of.view.delta) at.slot) (half_slot (first + 3) new.of.high.range (part_of (first + 1) files.high) (length new.of.view.delta) at.slot) n at.there new.are
          (alike_halves at.slot (half_slot (first + 2) new.of.low.range (part_of first files.low) (length new.of.view.delta) at.slot) (half_slot (first + 3) new.of.high.range (part_of (first + 1) files.high) (length new.of.view.delta) at.slot) new.of.view.range new.of.at (fits_first new.of.view [] at.slot new.of.views at.there).range new.of.cut new.of.low_range new.of.high_range)
          (omega arith) (omega arith) below differ empty room)
      by (Merge seg) e is = (
          let n : install.count ≡ 2 = count_is (Merge seg) 2 e refl in
          let many : segments_for built.job ≡ 2 = ap segments_for e in
          let low = stands_at slots install.place (omega (arith, can.within, many)) in
          let high = stands_at slots (install.place + 1) (omega (arith, can.within, many)) in
          let new = subst (AreTwo (λ (left right : Slotted G). IsJoined first files built left right install.slots.items)) (ap (λ (k : ℕ). take k (drop install.place slots)) n ∙ two_at slots install.place low.slot high.slot low.there high.there) is in
          joined_put first install slots low.slot high.slot (joined_slot (first + 1) new.of.piece.range (part_of first files.low) (length new.of.left.delta) low.slot (length new.of.right.delta) high.slot) n low.there high.there new.are
          (alike_joined low.slot high.slot (joined_slot (first + 1) new.of.piece.range (part_of first files.low) (length new.of.left.delta) low.slot (length new.of.right.delta) high.slot) new.of.left.range new.of.right.range (fits_first new.of.left (new.of.right ∷ []) low.slot new.of.views low.there).range
          (can.fit 1 new.of.right high.slot (ap (λ (ws : List (SegmentView G)). slice_get ws 1) new.of.views) high.there).range new.of.touch new.of.range)
          (omega arith) below differ empty room)
