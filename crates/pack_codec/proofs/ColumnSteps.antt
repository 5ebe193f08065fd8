-- Going over the columns of a pack, as a reader and a writer do.
use Rattle.std.proofs.Common.{◌≡◌, ℕ, ◌+◌, ◌<◌, ◌≤◌, List, [], ◌∷◌, ◌++◌, length, drop, get_or, Option, Result, Ok, Err, refl, sym, ap, ◌∙◌, append_assoc}
use Rattle.std.proofs.lemmas.List.{append-nil, drop_all, drop_more}
use Rattle.std.specs.List.{flat_map}
use Rattle.flash_list.specs.Steps.{◌>>=◌}
use Rattle.flash_list.proofs.Each.{with_front}
use Rattle.column_block.specs.declared.column.Column.{Column}
use Rattle.column_block.specs.declared.cell.Version.{Version}
use Rattle.column_codec.specs.declared.list.ListKind.{ListKind}
use Rattle.column_codec.specs.declared.list.ColumnList.{ColumnList}
use Rattle.pack_codec.specs.declared.fault.FormError.{FormError}
use Rattle.pack_codec.specs.declared.fault.FormError.TheVariants.{Damaged, Memory}
use Rattle.pack_codec.specs.declared.field.Field.TheVariants.{Cell}
use Rattle.pack_codec.specs.Faults.{Fails}
use Rattle.pack_codec.specs.Reading.{list_kind, column_in, list_behind, columns_at}
use Rattle.pack_codec.specs.Spelling.{list_of, columns_of, sized}

regroup : {X E : Type 0} (front : List X) (n : X) (read : Result (List X × List ℕ) E) → with_front front (read >>= λ x. Ok (n ∷ x.0, x.1)) ≡ with_front (front ++ n ∷ []) read
regroup front n (Ok x) = ap (λ ns. Ok (ns, x.1)) (simp append_assoc)
regroup front n (Err f) = refl

pub nothing_before : {X E : Type 0} (read : Result (List X × List ℕ) E) → with_front [] read ≡ read
nothing_before (Ok x) = refl
nothing_before (Err e) = refl

module _ (end count : ℕ) (marks : List (Option ℕ)) (columns : List Column) where
  pub goes_on : (k : ℕ) (d : Column) (front : List ColumnList) (bytes : List ℕ) (l : ColumnList) (after : List ℕ) (total : Result (List ColumnList × List ℕ) FormError)
      → k < length columns → list_behind (list_kind (get_or columns k d).kind) (column_in marks count) count end bytes ≡ Ok (l, after)
      → with_front front (columns_at end count marks (drop k columns) bytes) ≡ total → with_front (front ++ l ∷ []) (columns_at end count marks (drop (k + 1) columns) after) ≡ total
  unfolding columns_at
  goes_on k d front bytes l after total lt h so_far =
      let one : with_front front (columns_at end count marks (drop k columns) bytes) ≡ with_front (front ++ l ∷ []) (columns_at end count marks (drop (k + 1) columns) after) = rw (drop_more columns k d lt, h) (regroup front l (columns_at end count marks (drop (k + 1) columns) after)) in
      sym one ∙ so_far

  fails : (k : ℕ) (d : Column) (front : List ColumnList) (bytes : List ℕ) (e : FormError) (total : Result (List ColumnList × List ℕ) FormError)
      → k < length columns → list_behind (list_kind (get_or columns k d).kind) (column_in marks count) count end bytes ≡ Err e
      → with_front front (columns_at end count marks (drop k columns) bytes) ≡ total → total ≡ Err e
  unfolding columns_at
  fails k d front bytes e total lt h so_far =
      let one : with_front front (columns_at end count marks (drop k columns) bytes) ≡ Err e = rw (drop_more columns k d lt, h) refl in
      sym so_far ∙ one

  pub fails_here : (k : ℕ) (d : Column) (front : List ColumnList) (bytes : List ℕ) (e : FormError) (total : Result (List ColumnList × List ℕ) FormError)
      → k < length columns → Fails e (list_behind (list_kind (get_or columns k d).kind) (column_in marks count) count end bytes)
      → with_front front (columns_at end count marks (drop k columns) bytes) ≡ total → Fails e total
  fails_here k d front bytes Memory total lt h so_far = tt
  fails_here k d front bytes (Damaged at) total lt h so_far = fails k d front bytes (Damaged at) total lt h so_far

  pub is_done : (k : ℕ) (front : List ColumnList) (bytes : List ℕ) (total : Result (List ColumnList × List ℕ) FormError) → length columns ≤ k
      → with_front front (columns_at end count marks (drop k columns) bytes) ≡ total → total ≡ Ok (front, bytes)
  unfolding columns_at
  is_done k front bytes total le so_far =
      let one : with_front front (columns_at end count marks (drop k columns) bytes) ≡ Ok (front, bytes) = rw (drop_all k columns le) (ap (λ ls. Ok (ls, bytes)) (append-nil front)) in
      sym so_far ∙ one

-- ---- what a writer has left

abbrev pub left : List Column → ℕ → List Version → List ℕ
left columns k versions = flat_map sized (columns_of (drop k columns) k versions)

pub column_left : (columns : List Column) (k : ℕ) (versions : List Version) (d : Column) (kind : ListKind) → k < length columns → kind ≡ list_kind (get_or columns k d).kind
    → columns_of (drop k columns) k versions ≡ list_of kind (Cell k) versions ∷ columns_of (drop (k + 1) columns) (k + 1) versions
column_left columns k versions d kind lt is =
    ap (λ (cs : List Column). columns_of cs k versions) (drop_more columns k d lt) ∙ ap (λ (x : ListKind). list_of x (Cell k) versions ∷ columns_of (drop (k + 1) columns) (k + 1) versions) (sym is)

pub none_left : (columns : List Column) (k : ℕ) (versions : List Version) → length columns ≤ k → columns_of (drop k columns) k versions ≡ []
none_left columns k versions le = ap (λ (cs : List Column). columns_of cs k versions) (drop_all k columns le)
