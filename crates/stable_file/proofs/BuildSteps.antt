-- Going over the columns and the packs of a file that is written.
use Rattle.std.proofs.Common.{◌≡◌, ℕ, zero, suc, ◌+◌, ◌-◌, ◌*◌, ◌/◌, ◌<◌, ◌≤◌, List, [], ◌∷◌, ◌++◌, length, take, drop, get_or, slice_range, refl, sym, ap, ◌∙◌, subst, arith, length-drop}
use Rattle.std.proofs.lemmas.List.{drop_all, drop_more, drop-drop, get_or-take, get_or-drop}
use Rattle.std.proofs.lemmas.Nat.{div-add-mod'}
use Rattle.std.proofs.Math.Nat.{suc-mul}
use Rattle.column_block.specs.declared.column.Column.{Column}
use Rattle.column_block.specs.declared.cell.Version.{Version}
use Rattle.pack_codec.proofs.FieldSteps.{range_len}
use Rattle.stable_file.specs.Ranges.{handle_at}
use Rattle.stable_file.specs.Building.{range, ranges, first_cuts}

-- ---- columns

abbrev pub left : List Column → ℕ → List Version → List ℕ
left columns k versions = ranges (drop k columns) k versions

pub column_left : (columns : List Column) (k : ℕ) (versions : List Version) (d : Column) → k < length columns → left columns k versions ≡ range (get_or columns k d).kind k versions ++ left columns (k + 1) versions
column_left columns k versions d lt = ap (λ (cs : List Column). ranges cs k versions) (drop_more columns k d lt)

pub none_left : (columns : List Column) (k : ℕ) (versions : List Version) → length columns ≤ k → left columns k versions ≡ []
none_left columns k versions le = ap (λ (cs : List Column). ranges cs k versions) (drop_all k columns le)

-- ---- handles

pub first_handle : (xs : List Version) (from to : ℕ) → from < to → handle_at (slice_range xs from to) 0 ≡ handle_at xs from
first_handle xs from to lt =
    let k : from + 0 ≡ from = omega arith in
    ap (λ (v : Version). v.handle) (get_or-take (to - from) (drop from xs) 0 _ (omega arith) ∙ get_or-drop from xs 0 _) ∙ ap (handle_at xs) k

pub last_handle : (xs : List Version) (from to : ℕ) → from < to → to ≤ length xs → handle_at (slice_range xs from to) (length (slice_range xs from to) - 1) ≡ handle_at xs (to - 1)
last_handle xs from to lt within =
    let len : length (slice_range xs from to) ≡ to - from = range_len xs from to (omega arith) within in
    let k : from + (to - from - 1) ≡ to - 1 = omega arith in
    ap (λ n. handle_at (slice_range xs from to) (n - 1)) len ∙ ap (λ (v : Version). v.handle) (get_or-take (to - from) (drop from xs) (to - from - 1) _ (omega arith) ∙ get_or-drop from xs (to - from - 1) _) ∙ ap (handle_at xs) k

-- ---- cuts

take_all : {X : Type 0} (n : ℕ) (xs : List X) → length xs ≤ n → take n xs ≡ xs
take_all zero [] le = refl
take_all (suc n) [] le = refl
take_all zero (x ∷ xs) le = absurd (omega arith)
take_all (suc n) (x ∷ xs) le = ap (λ ys. x ∷ ys) (take_all n xs (omega arith))

pub last_cut : (xs : List Version) (from rows : ℕ) → from ≤ length xs → length xs - from < rows → slice_range xs from (length xs) ≡ take rows (drop from xs)
last_cut xs from rows le lt =
    let len : length (drop from xs) ≡ length xs - from = length-drop from xs in
    take_all (length xs - from) (drop from xs) (omega (arith, len)) ∙ sym (take_all rows (drop from xs) (omega (arith, len)))

pub no_rest : (xs : List Version) (from rows : ℕ) → from ≤ length xs → length xs - from < rows → drop (length xs) xs ≡ drop rows (drop from xs)
no_rest xs from rows le lt =
    let len : length (drop from xs) ≡ length xs - from = length-drop from xs in
    drop_all (length xs) xs (omega arith) ∙ sym (drop_all rows (drop from xs) (omega (arith, len)))

pub full_cut : (xs : List Version) (from rows : ℕ) → slice_range xs from (from + rows) ≡ take rows (drop from xs)
full_cut xs from rows =
    let k : from + rows - from ≡ rows = omega arith in
    ap (λ n. take n (drop from xs)) k

pub next_rest : (xs : List Version) (from rows : ℕ) → drop (from + rows) xs ≡ drop rows (drop from xs)
next_rest xs from rows = sym (drop-drop rows from xs)

pub cuts_len : (packs rows : ℕ) (xs : List Version) → length (first_cuts packs rows xs) ≡ packs
cuts_len zero rows xs = refl
cuts_len (suc packs) rows xs = ap suc (cuts_len packs rows (drop rows xs))

pub cuts_start : (packs rows : ℕ) (xs : List Version) → first_cuts packs rows xs ≡ first_cuts (packs - 0) rows xs
cuts_start packs rows xs =
    let k : packs ≡ packs - 0 = omega arith in
    ap (λ n. first_cuts n rows xs) k

pub next_cut : (packs i rows from to : ℕ) (xs : List Version) → i < packs → slice_range xs from to ≡ take rows (drop from xs) → drop to xs ≡ drop rows (drop from xs)
    → first_cuts (packs - i) rows (drop from xs) ≡ slice_range xs from to ∷ first_cuts (packs - (i + 1)) rows (drop to xs)
next_cut packs i rows from to xs lt cut rest =
    let k : packs - i ≡ suc (packs - (i + 1)) = omega arith in
    ap (λ n. first_cuts n rows (drop from xs)) k ∙ ap (λ (c : List Version). c ∷ first_cuts (packs - (i + 1)) rows (drop rows (drop from xs))) (sym cut) ∙ ap (λ (r : List Version). slice_range xs from to ∷ first_cuts (packs - (i + 1)) rows r) (sym rest)

pub no_cut : (packs i rows : ℕ) (xs : List Version) → packs ≤ i → first_cuts (packs - i) rows xs ≡ []
no_cut packs i rows xs le =
    let k : packs - i ≡ 0 = omega arith in
    ap (λ n. first_cuts n rows xs) k

pub some_reach : (packs rows n : ℕ) → (packs - 1) * rows < n → 0 < packs → (packs - 0 - 1) * rows < n - 0
some_reach packs rows n lt some =
    let k : packs - 0 - 1 ≡ packs - 1 = omega arith in
    let m : n - 0 ≡ n = omega arith in
    rw (k, m) lt

pub next_reach : (packs i rows from to n : ℕ) → ((packs - i - 1) * rows < n - from) → to ≤ from + rows → i + 1 < packs → (packs - (i + 1) - 1) * rows < n - to
next_reach packs i rows from to n so_far few lt =
    let k : packs - i - 1 ≡ suc (packs - (i + 1) - 1) = omega arith in
    let all : suc (packs - (i + 1) - 1) * rows < n - from = subst (λ m. m * rows < n - from) k so_far in
    let sum : (packs - (i + 1) - 1) * rows + rows < n - from = subst (λ m. m < n - from) (suc-mul (packs - (i + 1) - 1) rows) all in
    omega (arith, sum)

pub starts_within : (packs i rows from n : ℕ) → ((packs - i - 1) * rows < n - from) → from < n
starts_within packs i rows from n so_far = omega (arith, so_far)

pub last_reach : (n rows : ℕ) → 0 < n → ((n - 1) / rows + 1 - 1) * rows < n
last_reach n rows some =
    let k : (n - 1) / rows + 1 - 1 ≡ (n - 1) / rows = omega arith in
    let parts = div-add-mod' (n - 1) rows in
    rw k (omega (arith, parts))
