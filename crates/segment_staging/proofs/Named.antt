-- What the manifest names once slots are flushed.
use Rattle.std.proofs.Common.{◌≡◌, ℕ, zero, suc, ◌+◌, ◌<◌, Bool, true, false, true≢false, List, [], ◌∷◌, length, map, take, drop, refl, sym, subst, arith}
use Rattle.std.specs.Prelude.{◌||◌, ◌==◌}
use Rattle.std.specs.List.{AllByRecursion, filter_map, list_any}
use Rattle.column_file.specs.declared.file.ColumnFile.{ColumnFile}
use Rattle.column_file.specs.declared.file.ColumnFile.TheVariants.{Mem, Tiny, DeleteRange}
use Rattle.delta_layer.specs.Files.{is_mem, is_tiny}
use Rattle.manifest_form.specs.declared.state.StoredFile.TheVariants as stored
use Rattle.replica_store.specs.Naming.{is_file_of, is_number, is_tiny_file}
use Rattle.segment_flush.specs.Flushing.{after_one, flushed_slots, one_flushed}
use Rattle.segment_flush.specs.Names.{name_of, stored_of}
use Rattle.segment_flush.proofs.Planned.{all_there}
use Rattle.segment_list.specs.Flushes.{after_files, flushed_files, flushed_slot}
use Rattle.segment_list.specs.Order.{IsSlot}
use Rattle.segment_list.specs.Slots.{Slotted}
use Rattle.store_image.proofs.Frames.{or_left, or_right}
use Rattle.segment_staging.proofs.Numbered.{no_fewer}

-- ---- what was named is named

file_still : (file n named : ℕ) (files : List ColumnFile) → AllByRecursion (λ (f : ColumnFile). is_mem f ≡ false) (take named files) → list_any (is_tiny_file file) (filter_map name_of (take named files)) ≡ true → list_any (is_tiny_file file) (filter_map name_of (flushed_files n files)) ≡ true
file_still file n zero files no_mem is = absurd (true≢false (sym is))
file_still file n (suc named) [] no_mem is = absurd (true≢false (sym is))
file_still file n (suc named) (Mem block ∷ fs) no_mem is = absurd (true≢false no_mem.0)
file_still file n (suc named) (Tiny other block ∷ fs) no_mem is = by (is_tiny_file file (stored.Tiny other)) is (λ e. file_still file n named fs no_mem.1 e)
  where
    by : (b : Bool) → (b || list_any (is_tiny_file file) (filter_map name_of (take named fs))) ≡ true → (list_any (is_tiny_file file) (filter_map name_of (take named fs)) ≡ true → list_any (is_tiny_file file) (filter_map name_of (flushed_files n fs)) ≡ true) → (b || list_any (is_tiny_file file) (filter_map name_of (flushed_files n fs))) ≡ true
    by true e rest = refl
    by false e rest = rest e
file_still file n (suc named) (DeleteRange range ∷ fs) no_mem is = file_still file n named fs no_mem.1 is

slot_still : {G : Type 0} (file n committed last : ℕ) (s : Slotted G) → IsSlot committed last s → is_file_of file (stored_of s) ≡ true → is_file_of file (stored_of (flushed_slot n s)) ≡ true
slot_still file n committed last s is named = by (is_number file s.stable_number) named
  where
    by : (b : Bool) → (b || list_any (is_tiny_file file) (filter_map name_of (take s.named s.files))) ≡ true → (b || list_any (is_tiny_file file) (filter_map name_of (take (length s.files) (flushed_files n s.files)))) ≡ true
    by true e = refl
    by false e = subst (λ (fs : List ColumnFile). list_any (is_tiny_file file) (filter_map name_of fs) ≡ true) (sym (all_there n s.files)) (file_still file n s.named s.files is.named e)

pub slots_still : {G : Type 0} (file committed last : ℕ) (p : Slotted G → Bool) (n : ℕ) (slots : List (Slotted G)) → AllByRecursion (IsSlot committed last) slots → list_any (is_file_of file) (map stored_of slots) ≡ true → list_any (is_file_of file) (map stored_of (flushed_slots p n slots)) ≡ true
slots_still file committed last p n [] all is = absurd (true≢false (sym is))
slots_still file committed last p n (s ∷ ss) all is = by (p s) (is_file_of file (stored_of s)) refl is (λ k e. slots_still file committed last p k ss all.1 e)
  where
    by : (b t : Bool) → is_file_of file (stored_of s) ≡ t → (t || list_any (is_file_of file) (map stored_of ss)) ≡ true
        → ((k : ℕ) → list_any (is_file_of file) (map stored_of ss) ≡ true → list_any (is_file_of file) (map stored_of (flushed_slots p k ss)) ≡ true)
        → list_any (is_file_of file) (map stored_of (one_flushed b n s ∷ flushed_slots p (after_one b n s) ss)) ≡ true
    by true true here e rest = or_left (is_file_of file (stored_of (flushed_slot n s))) _ (slot_still file n committed last s all.0 here)
    by false true here e rest = or_left (is_file_of file (stored_of s)) _ here
    by true false here e rest = or_right (is_file_of file (stored_of (flushed_slot n s))) _ (rest (after_files n s.files) e)
    by false false here e rest = or_right (is_file_of file (stored_of s)) _ (rest n e)

-- ---- and what is named below the first new number was named

pub number_same : (a b : ℕ) → (a == b) ≡ true → a ≡ b
number_same a b h = grind (arith, h)

file_back : (file n named : ℕ) (files : List ColumnFile) → file < n → AllByRecursion (λ (f : ColumnFile). is_tiny f ≡ false) (drop named files) → list_any (is_tiny_file file) (filter_map name_of (flushed_files n files)) ≡ true → list_any (is_tiny_file file) (filter_map name_of (take named files)) ≡ true
file_back file n named [] low no_tiny is = absurd (true≢false (sym is))
file_back file n zero (Mem block ∷ fs) low no_tiny is = by (n == file) refl is (λ e. file_back file (n + 1) zero fs (omega (arith, low)) no_tiny.1 e)
  where
    by : (b : Bool) → (n == file) ≡ b → (b || list_any (is_tiny_file file) (filter_map name_of (flushed_files (n + 1) fs))) ≡ true → (list_any (is_tiny_file file) (filter_map name_of (flushed_files (n + 1) fs)) ≡ true → false ≡ true) → false ≡ true
    by true same e rest = (let equal = number_same n file same in absurd (omega (arith, equal, low)))
    by false same e rest = rest e
file_back file n zero (Tiny other block ∷ fs) low no_tiny is = absurd (true≢false no_tiny.0)
file_back file n zero (DeleteRange range ∷ fs) low no_tiny is = file_back file n zero fs low no_tiny.1 is
file_back file n (suc named) (Mem block ∷ fs) low no_tiny is = by (n == file) refl is (λ e. file_back file (n + 1) named fs (omega (arith, low)) no_tiny e)
  where
    by : (b : Bool) → (n == file) ≡ b → (b || list_any (is_tiny_file file) (filter_map name_of (flushed_files (n + 1) fs))) ≡ true → (list_any (is_tiny_file file) (filter_map name_of (flushed_files (n + 1) fs)) ≡ true → list_any (is_tiny_file file) (filter_map name_of (take named fs)) ≡ true) → list_any (is_tiny_file file) (filter_map name_of (take named fs)) ≡ true
    by true same e rest = (let equal = number_same n file same in absurd (omega (arith, equal, low)))
    by false same e rest = rest e
file_back file n (suc named) (Tiny other block ∷ fs) low no_tiny is = by (is_tiny_file file (stored.Tiny other)) is (λ e. file_back file n named fs low no_tiny e)
  where
    by : (b : Bool) → (b || list_any (is_tiny_file file) (filter_map name_of (flushed_files n fs))) ≡ true → (list_any (is_tiny_file file) (filter_map name_of (flushed_files n fs)) ≡ true → list_any (is_tiny_file file) (filter_map name_of (take named fs)) ≡ true) → (b || list_any (is_tiny_file file) (filter_map name_of (take named fs))) ≡ true
    by true e rest = refl
    by false e rest = rest e
file_back file n (suc named) (DeleteRange range ∷ fs) low no_tiny is = file_back file n named fs low no_tiny is

slot_back : {G : Type 0} (file n committed last : ℕ) (s : Slotted G) → file < n → IsSlot committed last s → is_file_of file (stored_of (flushed_slot n s)) ≡ true → is_file_of file (stored_of s) ≡ true
slot_back file n committed last s low is named = by (is_number file s.stable_number) named
  where
    by : (b : Bool) → (b || list_any (is_tiny_file file) (filter_map name_of (take (length s.files) (flushed_files n s.files)))) ≡ true → (b || list_any (is_tiny_file file) (filter_map name_of (take s.named s.files))) ≡ true
    by true e = refl
    by false e = file_back file n s.named s.files low is.behind (subst (λ (fs : List ColumnFile). list_any (is_tiny_file file) (filter_map name_of fs) ≡ true) (all_there n s.files) e)

pub slots_back : {G : Type 0} (file committed last : ℕ) (p : Slotted G → Bool) (n : ℕ) (slots : List (Slotted G)) → file < n → AllByRecursion (IsSlot committed last) slots → list_any (is_file_of file) (map stored_of (flushed_slots p n slots)) ≡ true → list_any (is_file_of file) (map stored_of slots) ≡ true
slots_back file committed last p n [] low all is = absurd (true≢false (sym is))
slots_back file committed last p n (s ∷ ss) low all is = by (p s) is (λ k less e. slots_back file committed last p k ss less all.1 e)
  where
    either : (t u : Bool) (k : ℕ) → (u ≡ true → t ≡ true) → (list_any (is_file_of file) (map stored_of (flushed_slots p k ss)) ≡ true → list_any (is_file_of file) (map stored_of ss) ≡ true) → (u || list_any (is_file_of file) (map stored_of (flushed_slots p k ss))) ≡ true → (t || list_any (is_file_of file) (map stored_of ss)) ≡ true
    either t true k here rest e = or_left t _ (here refl)
    either t false k here rest e = or_right t _ (rest e)

    by : (b : Bool) → list_any (is_file_of file) (map stored_of (one_flushed b n s ∷ flushed_slots p (after_one b n s) ss)) ≡ true
        → ((k : ℕ) → file < k → list_any (is_file_of file) (map stored_of (flushed_slots p k ss)) ≡ true → list_any (is_file_of file) (map stored_of ss) ≡ true)
        → list_any (is_file_of file) (map stored_of (s ∷ ss)) ≡ true
    by true e rest =
        let up = no_fewer n s.files in
        either (is_file_of file (stored_of s)) (is_file_of file (stored_of (flushed_slot n s))) (after_files n s.files) (slot_back file n committed last s low all.0) (rest (after_files n s.files) (omega (arith, low, up))) e
    by false e rest = either (is_file_of file (stored_of s)) (is_file_of file (stored_of s)) n (λ is. is) (rest n low) e
