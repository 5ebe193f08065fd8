-- The packs of a file that is written are read again.
use Rattle.std.proofs.Common.{◌≡◌, ℕ, zero, suc, ◌+◌, ◌-◌, ◌*◌, ◌/◌, ◌^◌, ◌<◌, ◌≤◌, Bool, true, false, List, [], ◌∷◌, ◌++◌, length, take, drop, Ok, refl, sym, ap, ◌∙◌, subst, append_assoc, arith, length-append, length-drop, length-take}
use Rattle.std.specs.Prelude.{◌&&◌}
use Rattle.std.specs.Int.{w32, to_be_bytes}
use Rattle.std.specs.List.{AllByRecursion, flat_map}
use Rattle.std.proofs.Math.Seq.{drop-append_seam}
use Rattle.std.proofs.lemmas.List.{take-append-drop, take_at}
use Rattle.std.proofs.lemmas.Nat.{div-add-mod'}
use Rattle.std.proofs.Math.Nat.{suc-mul, mod-lt}
use Rattle.column_block.specs.declared.column.Column.{Column}
use Rattle.column_block.specs.declared.cell.Version.{Version}
use Rattle.pack_codec.specs.Spelling.{pack, PackFits}
use Rattle.column_block.specs.Suiting.{Suits}
use Rattle.pack_codec.proofs.PackAgain.{packs_again}
use Rattle.stable_file.specs.Packs.{versions_in}
use Rattle.column_block.specs.Order.{is_before, rise_after, rise}
use Rattle.stable_file.specs.Ranges.{told_at, told_in, reached}
use Rattle.stable_file.specs.Building.{first_cuts, packs_for, cuts, magic, footer, ending, file_of}
use Rattle.stable_file.specs.Laws.{told, AllStand, IsReadAgain, IsAsTold, AreFull, BuiltPacksAreReadAgain}
use Rattle.stable_file.proofs.BuildSteps.{last_reach}
use Rattle.stable_file.proofs.Room.{room_again}
use Rattle.stable_file.proofs.ToldAgain.{told_again}

-- ---- a cut of versions that rise

pub both : (a b : Bool) → (a && b) ≡ true → (a ≡ true) × (b ≡ true)
both true b h = (refl, h)
both false b h = absurd (cc h)

after_take : (n : ℕ) (v : Version) (ws : List Version) → rise_after v ws ≡ true → rise_after v (take n ws) ≡ true
after_take zero v ws h = refl
after_take (suc n) v [] h = refl
after_take (suc n) v (w ∷ ws) h =
    let p = both (is_before v w) (rise_after w ws) h in
    ap (λ b. b && rise_after w (take n ws)) p.0 ∙ after_take n w ws p.1

pub rise_take : (n : ℕ) (xs : List Version) → 0 < n → rise xs ≡ true → rise (take n xs) ≡ true
rise_take zero xs some h = absurd (omega arith)
rise_take (suc n) [] some h = h
rise_take (suc n) (x ∷ xs) some h = after_take n x xs h

after_drop : (n : ℕ) (v : Version) (ws : List Version) → n < length ws → rise_after v ws ≡ true → rise (drop n ws) ≡ true
after_drop n v [] lt h = absurd (omega arith)
after_drop zero v (w ∷ ws) lt h = (both (is_before v w) (rise_after w ws) h).1
after_drop (suc n) v (w ∷ ws) lt h = after_drop n w ws (omega arith) (both (is_before v w) (rise_after w ws) h).1

pub rise_drop : (n : ℕ) (xs : List Version) → n < length xs → rise xs ≡ true → rise (drop n xs) ≡ true
rise_drop zero xs lt h = h
rise_drop (suc n) [] lt h = absurd (omega arith)
rise_drop (suc n) (x ∷ xs) lt h = after_drop n x xs (omega arith) h

pub all_take : {X : Type 0} (P : X → Type 0) (n : ℕ) (xs : List X) → AllByRecursion P xs → AllByRecursion P (take n xs)
all_take P zero xs all = tt
all_take P (suc n) [] all = tt
all_take P (suc n) (x ∷ xs) all = (all.0, all_take P n xs all.1)

pub all_drop : {X : Type 0} (P : X → Type 0) (n : ℕ) (xs : List X) → AllByRecursion P xs → AllByRecursion P (drop n xs)
all_drop P zero xs all = all
all_drop P (suc n) [] all = tt
all_drop P (suc n) (x ∷ xs) all = all_drop P n xs all.1

-- ---- each cut

one_again : (columns : List Column) (versions : List Version) → length columns < 2 ^ 16 → rise versions ≡ true → AllByRecursion (Suits columns) versions → PackFits columns versions → IsReadAgain columns versions
unfolding versions_in
one_again columns versions few rises suits fits = λ end at. rw (room_again columns versions rises fits, packs_again columns versions end few suits fits, rises) refl

module _ (columns : List Column) (rows : ℕ) (few : length columns < 2 ^ 16) (some : 0 < rows) where
  each_again : (packs : ℕ) (xs : List Version) → (packs - 1) * rows < length xs → rise xs ≡ true → AllByRecursion (Suits columns) xs → AllByRecursion (PackFits columns) (first_cuts packs rows xs) → AllByRecursion (IsReadAgain columns) (first_cuts packs rows xs)
  each_again zero xs reach rises suits fits = tt
  each_again (suc zero) xs reach rises suits fits = (one_again columns (take rows xs) few (rise_take rows xs some rises) (all_take (Suits columns) rows xs suits) fits.0, tt)
  each_again (suc (suc packs)) xs reach rises suits fits =
      let k : suc (suc packs) - 1 ≡ suc packs = omega arith in
      let j : packs ≡ suc packs - 1 = omega arith in
      let sum : packs * rows + rows < length xs = subst (λ m. m < length xs) (suc-mul packs rows) (subst (λ m. m * rows < length xs) k reach) in
      let fewer : packs * rows < length (drop rows xs) = omega (arith, sum, length-drop rows xs) in
      let left : (suc packs - 1) * rows < length (drop rows xs) = subst (λ m. m * rows < length (drop rows xs)) j fewer in
      let first = one_again columns (take rows xs) few (rise_take rows xs some rises) (all_take (Suits columns) rows xs suits) fits.0 in
      (first, each_again (suc packs) (drop rows xs) left (rise_drop rows xs (omega (arith, sum)) rises) (all_drop (Suits columns) rows xs suits) fits.1)

pub full_cuts : (packs rows : ℕ) (xs : List Version) → 0 < packs → (packs - 1) * rows < length xs → length xs ≤ packs * rows → AreFull rows (first_cuts packs rows xs)
full_cuts zero rows xs some reach le = absurd (omega arith)
full_cuts (suc zero) rows xs some reach le =
    let none : 0 < length xs = omega (arith, reach) in
    let all : length xs ≤ 0 * rows + rows = subst (λ m. length xs ≤ m) (suc-mul 0 rows) le in
    let len = length-take rows xs in
    (omega (arith, none, all, len), omega (arith, len))
full_cuts (suc (suc packs)) rows xs some reach le =
    let k : suc (suc packs) - 1 ≡ suc packs = omega arith in
    let j : packs ≡ suc packs - 1 = omega arith in
    let sum : packs * rows + rows < length xs = subst (λ m. m < length xs) (suc-mul packs rows) (subst (λ m. m * rows < length xs) k reach) in
    let fewer : packs * rows < length (drop rows xs) = omega (arith, sum, length-drop rows xs) in
    let left : (suc packs - 1) * rows < length (drop rows xs) = subst (λ m. m * rows < length (drop rows xs)) j fewer in
    let most : length xs ≤ suc packs * rows + rows = subst (λ m. length xs ≤ m) (suc-mul (suc packs) rows) le in
    (omega (arith, sum, length-take rows xs), full_cuts (suc packs) rows (drop rows xs) (omega arith) left (omega (arith, most, length-drop rows xs)))

-- what each cut has for being read again and suiting the schema
each_told : (columns : List Column) (packs rows : ℕ) (xs : List Version) → AllByRecursion (Suits columns) xs → AllByRecursion (IsReadAgain columns) (first_cuts packs rows xs) → AllByRecursion (IsAsTold columns) (first_cuts packs rows xs)
each_told columns zero rows xs suits read = tt
each_told columns (suc packs) rows xs suits read = (told_again columns (take rows xs) (all_take (Suits columns) rows xs suits) read.0, each_told columns packs rows (drop rows xs) (all_drop (Suits columns) rows xs suits) read.1)

-- ---- all of them

none_left : {X : Type 0} (xs : List X) → length xs ≤ 0 → [] ≡ xs
none_left [] le = refl
none_left (x ∷ xs) le = absurd (omega arith)

cuts_are : (packs rows : ℕ) (xs : List Version) → length xs ≤ packs * rows → flat_map (λ cut. cut) (first_cuts packs rows xs) ≡ xs
cuts_are zero rows xs le = none_left xs (omega (arith, le))
cuts_are (suc packs) rows xs le =
    let sum : length xs ≤ packs * rows + rows = subst (λ m. length xs ≤ m) (suc-mul packs rows) le in
    ap (λ (vs : List Version). take rows xs ++ vs) (cuts_are packs rows (drop rows xs) (omega (arith, sum, length-drop rows xs))) ∙ take-append-drop rows xs

pub enough : (n rows : ℕ) → 0 < rows → n ≤ ((n - 1) / rows + 1) * rows
enough n rows some =
    let k : (n - 1) / rows + 1 ≡ suc ((n - 1) / rows) = omega arith in
    let parts = div-add-mod' (n - 1) rows in
    let small = mod-lt (n - 1) some in
    subst (λ m. n ≤ m) (sym (ap (λ q. q * rows) k ∙ suc-mul ((n - 1) / rows) rows)) (omega (arith, parts, small))

pub some_rise : (xs : List Version) → rise xs ≡ true → 0 < length xs
some_rise [] h = absurd (cc h)
some_rise (x ∷ xs) h = omega arith

-- ---- where they stand

stand_again : (columns : List Column) (content front behind : List ℕ) (parts : List (List Version)) → content ≡ front ++ (flat_map (pack columns) parts ++ behind) → AllByRecursion (IsAsTold columns) parts → AllStand columns content (length front) parts
stand_again columns content front behind [] e all = tt
stand_again columns content front behind (cut ∷ others) e all =
    let bytes = pack columns cut in
    let rest = flat_map (pack columns) others ++ behind in
    let split : (bytes ++ flat_map (pack columns) others) ++ behind ≡ bytes ++ rest = append_assoc bytes (flat_map (pack columns) others) behind in
    let from : drop (length front) content ≡ bytes ++ rest = ap (drop (length front)) e ∙ drop-append_seam front ((bytes ++ flat_map (pack columns) others) ++ behind) ∙ split in
    let is : take (length bytes) (drop (length front) content) ≡ bytes = ap (take (length bytes)) from ∙ take_at bytes rest (length bytes) refl in
    let entry = told columns (length front) cut in
    let one : told_in entry columns content ≡ Ok cut = ap (λ bs. told_at entry (reached (length front) bs) columns bs) is ∙ all.0 (reached (length front) bytes) (length front) in
    let whole : content ≡ (front ++ bytes) ++ rest = e ∙ ap (λ bs. front ++ bs) split ∙ sym (append_assoc front bytes rest) in
    (one, subst (λ n. AllStand columns content n others) (length-append front bytes) (stand_again columns content (front ++ bytes) behind others whole all.1))

file_stands : (columns : List Column) (parts : List (List Version)) → AllByRecursion (IsAsTold columns) parts → AllStand columns (file_of columns parts) 4 parts
unfolding file_of
file_stands columns parts all = stand_again columns (file_of columns parts) (to_be_bytes w32 magic) (ending (footer columns parts)) parts refl all

pub packs_have : BuiltPacksAreReadAgain
packs_have columns rows versions few some rises suits fits =
    let n = length versions in
    let packs = packs_for rows n in
    let reach = last_reach n rows (some_rise versions rises) in
    let all = enough n rows some in
    let read = each_again columns rows few some packs versions reach rises suits fits in
    let entries = each_told columns packs rows versions suits read in
    record {
      together = cuts_are packs rows versions all;
      sizes = full_cuts packs rows versions (omega arith) reach all;
      each = read;
      entries = entries;
      stand = file_stands columns (cuts rows versions) entries;
    }
