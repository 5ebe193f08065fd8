-- What is in memory stays in order where an install is put.
use Rattle.std.proofs.Common.{◌≡◌, ◌∙◌, ℕ, suc, ◌+◌, ◌-◌, ◌<◌, ◌≤◌, ◌^◌, List, [], ◌∷◌, ◌++◌, length, map, take, drop, Option, Some, None, refl, sym, ap, subst, arith}
use Rattle.std.specs.Prelude.{slice_range}
use Rattle.std.specs.List.{AllByRecursion, flat_map}
use Rattle.column_block.specs.Suiting.{Suits}
use Rattle.column_block.specs.declared.cell.Version.{Version}
use Rattle.column_block.specs.declared.column.Column.{Column}
use Rattle.column_file.specs.declared.file.ColumnFile.{ColumnFile}
use Rattle.column_file.specs.declared.file.ColumnFile.TheVariants.{Mem, Tiny, DeleteRange}
use Rattle.delta_layer.specs.Files.{FileHas, FilesHave, file_of, files_of}
use Rattle.delta_layer.specs.Laws.{HasSchema}
use Rattle.delta_layer.specs.Overlay.{block_in}
use Rattle.delta_layer.specs.declared.built.Built.{Built}
use Rattle.delta_layer.specs.declared.built.Job.{Job}
use Rattle.delta_layer.specs.declared.built.Job.TheVariants.{Compact, MergeDelta, Split, Merge}
use Rattle.flash_types.specs.Ranges.{least_handle}
use Rattle.flash_types.specs.declared.range.HandleRange.{HandleRange}
use Rattle.good_replica.specs.Good.{CoversFrom}
use Rattle.segment_list.specs.Lists.{range_alone}
use Rattle.segment_list.specs.Order.{IsSlot}
use Rattle.segment_list.specs.Slots.{Slotted, clip_file, is_in}
use Rattle.segment_work.specs.Begun.{segments_for}
use Rattle.stable_file.specs.declared.file.StableFile.{StableFile}
use Rattle.segment_install.specs.Goodness.{slots_after}
use Rattle.segment_install.specs.Plans.{AreInstalled, CanInstall, CanInstallAt, IsLaid, numbers_for, part_of}
use Rattle.segment_install.specs.Slots.{Fits, compacted_slot, half_slot, joined_slot, merged_slot, part_file, part_number}
use Rattle.segment_install.specs.declared.part.Files.{Files}
use Rattle.segment_install.specs.declared.planned.Install.{Install}
use Rattle.segment_install.proofs.Carried.{compacted_are, half_are, joined_are, merged_are}
use Rattle.segment_install.proofs.Orders.{all_both, all_drop, all_filter, all_take}
use Rattle.segment_install.proofs.Ready.{can_at}
use Rattle.segment_install.proofs.Running.{same_slice}
use Rattle.segment_install.proofs.Whole.{OneAt, install_in_order, one_slot}
use Rattle.replica_state.specs.Core.{AreSlots, Core, IsCore, IsFileBelow, IsNumberBelow, IsNumbered, SlotSuits}
use Rattle.replica_state.specs.Installs.{CanInstallOn, IsInstallOn}
use Rattle.replica_state.proofs.Flushes.{numbered_up}

-- ---- what files are

-- its number is below this one, and its versions suit the columns
IsFine : ℕ → List Column → ColumnFile → Type 0
IsFine next columns f = IsFileBelow next f × FileHas (Suits columns) (file_of f)

clips_fine : (next : ℕ) (columns : List Column) (range : HandleRange) (f : ColumnFile) → IsFine next columns f → IsFine next columns (clip_file range f)
unfolding IsFine
clips_fine next columns range (Mem block) fine = (tt, all_filter (Suits columns) (is_in range) block fine.1)
clips_fine next columns range (Tiny file block) fine = (fine.0, all_filter (Suits columns) (is_in range) block fine.1)
clips_fine next columns range (DeleteRange other) fine = (tt, tt)

fine_files : (next : ℕ) (columns : List Column) (fs : List ColumnFile) → AllByRecursion (IsFileBelow next) fs → FilesHave (Suits columns) (files_of fs) → AllByRecursion (IsFine next columns) fs
unfolding IsFine
fine_files next columns [] a b = tt
fine_files next columns (f ∷ fs) a b = ((a.0, b.0), fine_files next columns fs a.1 b.1)

below_again : (next : ℕ) (columns : List Column) (fs : List ColumnFile) → AllByRecursion (IsFine next columns) fs → AllByRecursion (IsFileBelow next) fs
unfolding IsFine
below_again next columns [] all = tt
below_again next columns (f ∷ fs) all = (all.0.0, below_again next columns fs all.1)

suits_again : (next : ℕ) (columns : List Column) (fs : List ColumnFile) → AllByRecursion (IsFine next columns) fs → FilesHave (Suits columns) (files_of fs)
unfolding IsFine
suits_again next columns [] all = tt
suits_again next columns (f ∷ fs) all = (all.0.1, suits_again next columns fs all.1)

one_fine : (next : ℕ) (columns : List Column) (number : ℕ) (versions : List Version) → number < next → AllByRecursion (Suits columns) versions → IsFine next columns (Tiny number versions)
unfolding IsFine
one_fine next columns number versions below suits = (below, suits)

-- the versions of files, one behind the other
run_suits : (next : ℕ) (columns : List Column) (fs : List ColumnFile) → AllByRecursion (IsFine next columns) fs → AllByRecursion (Suits columns) (flat_map block_in fs)
unfolding IsFine
run_suits next columns [] all = tt
run_suits next columns (Mem block ∷ fs) all = all_both (Suits columns) block (flat_map block_in fs) all.0.1 (run_suits next columns fs all.1)
run_suits next columns (Tiny file block ∷ fs) all = all_both (Suits columns) block (flat_map block_in fs) all.0.1 (run_suits next columns fs all.1)
run_suits next columns (DeleteRange range ∷ fs) all = run_suits next columns fs all.1

-- ---- what slots are

module _ {G : Type 0} where
  part_below : (next number : ℕ) → number < next → (o : Option (StableFile G)) → IsNumberBelow next (part_number (part_of number o))
  part_below next number lt None = tt
  part_below next number lt (Some file) = lt

  part_suits : (columns : List Column) (number : ℕ) (o : Option (StableFile G)) → HasSchema columns o → HasSchema columns (part_file (part_of number o))
  part_suits columns number None has = tt
  part_suits columns number (Some file) has = has

  record IsWell (next : ℕ) (columns : List Column) (s : Slotted G) : Type 0 where
    numbered : IsNumbered next s
    suits : SlotSuits columns s

  made_well : (next : ℕ) (columns : List Column) (s : Slotted G) → s.id < next → s.epoch < next → AllByRecursion (IsFine next columns) s.files → IsNumberBelow next s.stable_number → HasSchema columns s.stable → IsWell next columns s
  made_well next columns s id epoch files number schema = record {
    numbered = record { id = id; epoch = epoch; files = below_again next columns s.files files; stable = number };
    suits = record { stable = schema; files = suits_again next columns s.files files };
  }

  files_fine : (next : ℕ) (columns : List Column) (s : Slotted G) → IsWell next columns s → AllByRecursion (IsFine next columns) s.files
  files_fine next columns s is = fine_files next columns s.files is.numbered.files is.suits.files

  all_well : (low next : ℕ) (columns : List Column) → low ≤ next → (slots : List (Slotted G)) → AllByRecursion (IsNumbered low) slots → AllByRecursion (SlotSuits columns) slots → AllByRecursion (IsWell next columns) slots
  all_well low next columns le [] a b = tt
  all_well low next columns le (s ∷ ss) a b = (record { numbered = numbered_up low next le s a.0; suits = b.0 }, all_well low next columns le ss a.1 b.1)

  numbered_all : (next : ℕ) (columns : List Column) (slots : List (Slotted G)) → AllByRecursion (IsWell next columns) slots → AllByRecursion (IsNumbered next) slots
  numbered_all next columns [] all = tt
  numbered_all next columns (s ∷ ss) all = (all.0.numbered, numbered_all next columns ss all.1)

  suits_all : (next : ℕ) (columns : List Column) (slots : List (Slotted G)) → AllByRecursion (IsWell next columns) slots → AllByRecursion (SlotSuits columns) slots
  suits_all next columns [] all = tt
  suits_all next columns (s ∷ ss) all = (all.0.suits, suits_all next columns ss all.1)

  laid_all : (first committed last : ℕ) (slots : List (Slotted G)) → first < 2 ^ 32 → AllByRecursion (IsSlot committed last) slots → AllByRecursion (IsNumbered first) slots → AllByRecursion (IsLaid first) slots
  laid_all first committed last [] small a b = tt
  laid_all first committed last (s ∷ ss) small a b = (
    record { tagged = a.0.tagged; behind = a.0.behind; number = b.0.id; epoch = (let less = b.0.epoch in omega (arith, small, less)) },
    laid_all first committed last ss small a.1 b.1,
  )

  pub can_on : (built : Built G) (s : Core G) → IsCore s → CanInstallOn built s → CanInstall s.numbers.next built s.slots
  can_on built s is can = record {
    built_is = can.built_is;
    fresh = can.fresh;
    fit = can.fit;
    laid = laid_all s.numbers.next s.committed (length s.listed) s.slots (let free = can.free in omega (arith, free)) is.slots.order is.slots.numbered;
    free = can.free;
  }

  slot_same : {a b : Slotted G} → ◌≡◌ {A = List (Slotted G)} (a ∷ []) (b ∷ []) → a ≡ b
  slot_same e = cc e

  -- ---- the slots of an install

  module _ (files : Files G) (built : Built G) (install : Install G) (s : Core G) (is : IsCore s) (cover : CoversFrom least_handle (map range_alone s.slots)) (on : IsInstallOn files built install s) where
    first : ℕ
    first = s.numbers.next

    next : ℕ
    next = s.numbers.next + numbers_for built.job

    columns : List Column
    columns = s.log.schema

    ready : CanInstallAt s.numbers.next install.place built s.slots
    ready = can_at s.numbers.next install.place built s.slots on.can cover on.plan.place

    Well : Slotted G → Type 0
    Well x = IsWell (s.numbers.next + numbers_for built.job) s.log.schema x

    slots_well : AllByRecursion (IsWell (s.numbers.next + numbers_for built.job) s.log.schema) s.slots
    slots_well = all_well s.numbers.next (s.numbers.next + numbers_for built.job) s.log.schema (omega arith) s.slots is.slots.numbered is.slots.suit

    low_numbers : AllByRecursion (IsNumbered s.numbers.next) (take install.count (drop install.place s.slots))
    low_numbers = all_take (IsNumbered s.numbers.next) install.count (drop install.place s.slots) (all_drop (IsNumbered s.numbers.next) install.place s.slots is.slots.numbered)

    old_well : AllByRecursion (IsWell (s.numbers.next + numbers_for built.job) s.log.schema) (take install.count (drop install.place s.slots))
    old_well = all_take (IsWell (s.numbers.next + numbers_for built.job) s.log.schema) install.count (drop install.place s.slots) (all_drop (IsWell (s.numbers.next + numbers_for built.job) s.log.schema) install.place s.slots slots_well)

    news_well : (job : Job) → built.job ≡ job → (olds : List (Slotted G)) → take install.count (drop install.place s.slots) ≡ olds → AllByRecursion (IsNumbered s.numbers.next) olds → AllByRecursion (IsWell (s.numbers.next + numbers_for built.job) s.log.schema) olds → AreInstalled job s.numbers.next files built olds install.slots.items → AllByRecursion (IsWell (s.numbers.next + numbers_for built.job) s.log.schema) install.slots.items
    news_well (Compact seg) e [] are lows wells new = absurd new
    news_well (Compact seg) e (o ∷ p ∷ more) are lows wells new = absurd new
    news_well (Compact seg) e (o ∷ []) are lows wells new =
        let n = s.numbers.next + numbers_for built.job in
        let one : OneAt s.slots install.place install.count new.of.view = one_slot s.numbers.next install.place install.count built s.slots ready on.plan.count new.of.view (ap segments_for e) new.of.views in
        let same : one.slot ≡ o = slot_same (sym one.olds ∙ are) in
        let fits : Fits new.of.view o = subst (Fits new.of.view) same one.fits in
        let many : suc new.of.from < new.of.to = new.of.run.many in
        let many_are = ap numbers_for e in
        let fine : AllByRecursion (IsFine n s.log.schema) o.files = files_fine n s.log.schema o wells.0 in
        let slice : slice_range o.files new.of.from new.of.to ≡ slice_range new.of.view.delta new.of.from new.of.to = ap (λ (fs : List ColumnFile). slice_range fs new.of.from new.of.to) fits.files ∙ same_slice new.of.view.delta fits.rest new.of.from new.of.to (omega (arith, many)) new.of.run.within in
        let suits : AllByRecursion (Suits s.log.schema) new.of.piece.versions = subst (AllByRecursion (Suits s.log.schema)) (ap (flat_map block_in) slice ∙ sym new.of.versions) (run_suits n s.log.schema (slice_range o.files new.of.from new.of.to) (all_take (IsFine n s.log.schema) (new.of.to - new.of.from) (drop new.of.from o.files) (all_drop (IsFine n s.log.schema) new.of.from o.files fine))) in
        let less = lows.0.epoch in
        subst (AllByRecursion (IsWell n s.log.schema)) (sym new.are) (
          made_well n s.log.schema (compacted_slot new.of.from new.of.to (Tiny s.numbers.next new.of.piece.versions) o) wells.0.numbered.id (omega (arith, less, many_are))
              (compacted_are (IsFine n s.log.schema) (clips_fine n s.log.schema) new.of.from new.of.to s.numbers.next new.of.piece.versions o fine (one_fine n s.log.schema s.numbers.next new.of.piece.versions (omega (arith, many_are)) suits))
              wells.0.numbered.stable wells.0.suits.stable,
          tt,
        )
    news_well (MergeDelta seg) e [] are lows wells new = absurd new
    news_well (MergeDelta seg) e (o ∷ p ∷ more) are lows wells new = absurd new
    news_well (MergeDelta seg) e (o ∷ []) are lows wells new =
        let n = s.numbers.next + numbers_for built.job in
        let many_are = ap numbers_for e in
        let less = lows.0.epoch in
        subst (AllByRecursion (IsWell n s.log.schema)) (sym new.are) (
          made_well n s.log.schema (merged_slot (length new.of.view.delta) (part_of s.numbers.next files.low) o) wells.0.numbered.id (omega (arith, less, many_are))
              (merged_are (IsFine n s.log.schema) (clips_fine n s.log.schema) (length new.of.view.delta) (part_of s.numbers.next files.low) o (files_fine n s.log.schema o wells.0))
              (part_below n s.numbers.next (omega (arith, many_are)) files.low) (part_suits s.log.schema s.numbers.next files.low on.low),
          tt,
        )
    news_well (Split seg) e [] are lows wells new = absurd new
    news_well (Split seg) e (o ∷ p ∷ more) are lows wells new = absurd new
    news_well (Split seg) e (o ∷ []) are lows wells new =
        let n = s.numbers.next + numbers_for built.job in
        let many_are = ap numbers_for e in
        let fine = files_fine n s.log.schema o wells.0 in
        subst (AllByRecursion (IsWell n s.log.schema)) (sym new.are) (
          made_well n s.log.schema (half_slot (s.numbers.next + 2) new.of.low.range (part_of s.numbers.next files.low) (length new.of.view.delta) o) (omega (arith, many_are)) (omega (arith, many_are))
              (half_are (IsFine n s.log.schema) (clips_fine n s.log.schema) (s.numbers.next + 2) new.of.low.range (part_of s.numbers.next files.low) (length new.of.view.delta) o fine)
              (part_below n s.numbers.next (omega (arith, many_are)) files.low) (part_suits s.log.schema s.numbers.next files.low on.low),
          (
            made_well n s.log.schema (half_slot (s.numbers.next + 3) new.of.high.range (part_of (s.numbers.next + 1) files.high) (length new.of.view.delta) o) (omega (arith, many_are)) (omega (arith, many_are))
                (half_are (IsFine n s.log.schema) (clips_fine n s.log.schema) (s.numbers.next + 3) new.of.high.range (part_of (s.numbers.next + 1) files.high) (length new.of.view.delta) o fine)
                (part_below n (s.numbers.next + 1) (omega (arith, many_are)) files.high) (part_suits s.log.schema (s.numbers.next + 1) files.high on.high),
            tt,
          ),
        )
    news_well (Merge seg) e [] are lows wells new = absurd new
    news_well (Merge seg) e (o ∷ []) are lows wells new = absurd new
    news_well (Merge seg) e (o ∷ p ∷ q ∷ more) are lows wells new = absurd new
    news_well (Merge seg) e (o ∷ p ∷ []) are lows wells new =
        let n = s.numbers.next + numbers_for built.job in
        let many_are = ap numbers_for e in
        subst (AllByRecursion (IsWell n s.log.schema)) (sym new.are) (
          made_well n s.log.schema (joined_slot (s.numbers.next + 1) new.of.piece.range (part_of s.numbers.next files.low) (length new.of.left.delta) o (length new.of.right.delta) p) (omega (arith, many_are)) (omega (arith, many_are))
              (joined_are (IsFine n s.log.schema) (clips_fine n s.log.schema) (s.numbers.next + 1) new.of.piece.range (part_of s.numbers.next files.low) (length new.of.left.delta) o (length new.of.right.delta) p (files_fine n s.log.schema o wells.0) (files_fine n s.log.schema p wells.1.0))
              (part_below n s.numbers.next (omega (arith, many_are)) files.low) (part_suits s.log.schema s.numbers.next files.low on.low),
          tt,
        )

    after_well : AllByRecursion (IsWell (s.numbers.next + numbers_for built.job) s.log.schema) (slots_after install s.slots)
    after_well =
        let n = s.numbers.next + numbers_for built.job in
        all_both (IsWell n s.log.schema) (take install.place s.slots) (install.slots.items ++ drop (install.place + install.count) s.slots) (all_take (IsWell n s.log.schema) install.place s.slots slots_well)
        (all_both (IsWell n s.log.schema) install.slots.items (drop (install.place + install.count) s.slots) (news_well built.job refl (take install.count (drop install.place s.slots)) refl low_numbers old_well on.plan.news) (all_drop (IsWell n s.log.schema) (install.place + install.count) s.slots slots_well))

    pub installed_in_order : AreSlots s.log.schema (s.numbers.next + numbers_for built.job) s.committed (length s.listed) (slots_after install s.slots)
    installed_in_order = record {
      order = install_in_order s.committed (length s.listed) s.numbers.next files built s.slots install on.can cover on.plan is.slots.order;
      numbered = numbered_all (s.numbers.next + numbers_for built.job) s.log.schema (slots_after install s.slots) after_well;
      suit = suits_all (s.numbers.next + numbers_for built.job) s.log.schema (slots_after install s.slots) after_well;
    }

-- ---- what a call leaves, by its parts

module _ {G : Type 0} where
  abbrev pub with_new_slots : Core G → List (Slotted G) → (next high generation : ℕ) → Core G
  with_new_slots s slots next high generation = record s { slots = slots; numbers = record s.numbers { next = next; high = high; generation = generation } }

  pub put_in_order : (s : Core G) → IsCore s → (slots after : List (Slotted G)) (next high generation : ℕ) → slots ≡ after → AreSlots s.log.schema next s.committed (length s.listed) after → s.numbers.high ≤ high → high ≤ length s.log.entries → s.numbers.generation ≤ generation → generation < next → IsCore (with_new_slots s slots next high generation)
  put_in_order s is slots after next high generation are order no_lower within no_younger numbered = record {
    sets = record { table = is.sets.table; closed = is.sets.closed; differ = is.sets.differ; applied = is.sets.applied; committed = is.sets.committed; count = is.sets.count; highest = is.sets.highest };
    slots = subst (AreSlots s.log.schema next s.committed (length s.listed)) (sym are) order;
    numbers = record {
      mark = (let le = is.numbers.mark in omega (arith, le, no_lower));
      high = within;
      kept = (let le = is.numbers.kept in omega (arith, le, no_younger));
      generation = numbered;
    };
    settings = is.settings;
  }
