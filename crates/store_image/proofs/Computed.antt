-- The small images, computed.
use Rattle.std.proofs.Common.{◌≡◌, refl, subst, ℕ, ◌≤◌, pos, true, false, List, [], ◌∷◌, Some, None, Ok, arith}
use Rattle.flash_io.specs.Image.{Image}
use Rattle.flash_types.specs.Ranges.{least_handle}
use Rattle.column_file.specs.Tiny.{tiny_at}
use Rattle.good_replica.specs.Trail.{DeltaFile, Puts, Segment}
use Rattle.good_replica.proofs.Checking.{check_tells}
use Rattle.manifest_form.specs.declared.state.StoredFile.TheVariants.{Tiny}
use Rattle.good_replica.specs.Good.{AreGood}
use Rattle.flash_types.specs.declared.range.HandleRange.{HandleRange}
use Rattle.store_image.specs.Images.{AreFilesRead, AreSegmentsRead}
use Rattle.store_image.specs.Small.{empty_log, in_file_2, nothing_applied, number_column, parted, state_of, stray, StandsAtNothing, SmallImagesStand}
use Rattle.store_image.proofs.Begun.{stands_begun}
use Rattle.store_image.proofs.Unique.{segments_one}

-- the two segments, with these files
abbrev halves : List DeltaFile → List DeltaFile → List Segment
halves low high =
    record { range = record { low = least_handle; high = Some (pos 6) }; stable = []; delta = low }
    ∷ record { range = record { low = pos 6; high = None }; stable = []; delta = high } ∷ []

two_not_zero : ◌≡◌ {A = ℕ} 2 0 → ⊥
two_not_zero is = absurd (omega (arith, is))

two_not_one : ◌≡◌ {A = ℕ} 2 1 → ⊥
two_not_one is = absurd (omega (arith, is))

outside : (bytes : List ℕ) → tiny_at number_column bytes ≡ Ok (stray ∷ []) → StandsAtNothing (state_of (parted (Tiny 2 ∷ []) []) (Some 0)) (in_file_2 bytes)
outside bytes reads = record {
  table = refl;
  columns = refl;
  segments = halves (Puts [] ∷ []) [];
  read = (
    record { range = refl; stable = refl; delta = ((two_not_zero, two_not_one, (bytes, refl, (stray ∷ [], reads, refl))), tt) },
    (record { range = refl; stable = refl; delta = tt }, tt),
  );
  regions = λ p. refl;
  count = refl;
  good = (check_tells empty_log nothing_applied 0 5 (pos 7 ∷ []) (halves (Puts [] ∷ []) []) refl).yes refl;
  high = omega arith;
  below = λ p is. absurd (cc is);
  chain = refl;
}

inside : (bytes : List ℕ) → tiny_at number_column bytes ≡ Ok (stray ∷ []) → StandsAtNothing (state_of (parted [] (Tiny 2 ∷ [])) (Some 0)) (in_file_2 bytes) → ⊥
inside bytes reads stands =
    let read : AreSegmentsRead 1 (in_file_2 bytes) number_column (parted [] (Tiny 2 ∷ [])) (halves [] (Puts (stray ∷ []) ∷ [])) = (
      record { range = refl; stable = refl; delta = tt },
      (record { range = refl; stable = refl; delta = ((two_not_zero, two_not_one, (bytes, refl, (stray ∷ [], reads, refl))), tt) }, tt),
    ) in
    let same = segments_one number_column 1 (in_file_2 bytes) (parted [] (Tiny 2 ∷ [])) stands.segments (halves [] (Puts (stray ∷ []) ∷ [])) stands.read read in
    let e : false ≡ true = (check_tells empty_log nothing_applied 0 5 (pos 7 ∷ []) (halves [] (Puts (stray ∷ []) ∷ [])) refl).holds (subst (λ (ts : List Segment). AreGood empty_log nothing_applied 0 5 ts) same stands.good) in
    absurd (cc e)

abbrev low : HandleRange
low = record { low = least_handle; high = Some (pos 6) }

missing_delta : (fs : List DeltaFile) → AreFilesRead 1 (λ _. None) number_column low (Tiny 2 ∷ []) fs → ⊥
missing_delta [] h = absurd h
missing_delta (f ∷ fs) h = absurd (cc h.0.2.1)

missing : (ts : List Segment) → AreSegmentsRead 1 (λ _. None) number_column (parted (Tiny 2 ∷ []) []) ts → ⊥
missing [] h = absurd h
missing (t ∷ ts) h = missing_delta t.delta h.0.delta

own_delta : (c : Image) (fs : List DeltaFile) → AreFilesRead 1 c number_column low (Tiny 1 ∷ []) fs → ⊥
own_delta c [] h = absurd h
own_delta c (f ∷ fs) h = absurd (h.0.1 refl)

own : (c : Image) (ts : List Segment) → AreSegmentsRead 1 c number_column (parted (Tiny 1 ∷ []) []) ts → ⊥
own c [] h = absurd h
own c (t ∷ ts) h = own_delta c t.delta h.0.delta

pub small_images_stand : SmallImagesStand
small_images_stand = record {
  made = stands_begun empty_log 1 (λ _. None);
  outside = outside;
  inside = inside;
  miscounted = λ stands. let e : 1 ≡ 0 = stands.count in absurd (omega (arith, e));
  too_high = λ stands. let e : 1 ≤ 0 = stands.high in absurd (omega (arith, e));
  missing = λ stands. missing stands.segments stands.read;
  own = λ c stands. own c stands.segments stands.read;
}
