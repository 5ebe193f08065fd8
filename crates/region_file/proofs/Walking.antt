-- Reading the regions of a file one after the other, as a loop does.
use Rattle.std.proofs.Common.{◌≡◌, ◌∙◌, refl, sym, ap, ℕ, suc, ◌+◌, ◌-◌, ◌<◌, ◌≤◌, List, [], ◌∷◌, ◌++◌, Option, Some, None, Result, Ok, Err, arith}
use Rattle.std.proofs.lemmas.List.{append-nil}
use Rattle.std.proofs.lemmas.Grind.{flat_map-append}
use Rattle.flash_types.specs.declared.range.HandleRange.{HandleRange}
use Rattle.committed_log.proofs.Positions.{fold_push}
use Rattle.region_file.specs.declared.entry.Entry.{Entry}
use Rattle.region_file.specs.declared.fault.TableError.{TableError}
use Rattle.region_file.specs.declared.fault.TableError.TheVariants.{Damaged, Memory}
use Rattle.region_file.specs.Faults.{Fails}
use Rattle.region_file.specs.Regions.{last_id, range_in, ranges_of, entry_at, entries_at}

abbrev Entries : Type 0
Entries = List (ℕ × Entry)

pub last_more : (before : Entries) (e : ℕ × Entry) → last_id (before ++ e ∷ []) ≡ Some e.0
last_more before e = fold_push (λ (last : Option ℕ) (e : ℕ × Entry). Some e.0) None before e

pub ranges_more : (before : Entries) (e : ℕ × Entry) → ranges_of (before ++ e ∷ []) ≡ ranges_of before ++ range_in e
ranges_more before e = flat_map-append range_in before (e ∷ []) ∙ ap (λ (rs : List HandleRange). ranges_of before ++ rs) (append-nil (range_in e))

module _ (end count i : ℕ) (before : Entries) (bytes : List ℕ) (total : Result (Entries × List ℕ) TableError) (so_far : entries_at end (count - i) before bytes ≡ total) where
  pub next_entry : (e : ℕ × Entry) (after : List ℕ) → i < count → entry_at end (last_id before) (ranges_of before) bytes ≡ Ok (e, after) → entries_at end (count - (i + 1)) (before ++ e ∷ []) after ≡ total
  unfolding entries_at
  next_entry e after less is =
      let k : count - i ≡ suc (count - (i + 1)) = omega arith in
      let one : entries_at end (count - i) before bytes ≡ entries_at end (count - (i + 1)) (before ++ e ∷ []) after = rw (k, is) refl in
      sym one ∙ so_far

  pub entry_fails : (f : TableError) → i < count → entry_at end (last_id before) (ranges_of before) bytes ≡ Err f → total ≡ Err f
  unfolding entries_at
  entry_fails f less is =
      let k : count - i ≡ suc (count - (i + 1)) = omega arith in
      let one : entries_at end (count - i) before bytes ≡ Err f = rw (k, is) refl in
      sym so_far ∙ one

  pub all_read : count ≤ i → total ≡ Ok (before, bytes)
  unfolding entries_at
  all_read le =
      let k : count - i ≡ 0 = omega arith in
      let one : entries_at end (count - i) before bytes ≡ Ok (before, bytes) = rw k refl in
      sym so_far ∙ one

  pub fault_here : (f : TableError) → i < count → Fails f (entry_at end (last_id before) (ranges_of before) bytes) → Fails f total
  fault_here Memory less is = tt
  fault_here (Damaged at) less is = entry_fails (Damaged at) less is
