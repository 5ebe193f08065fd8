-- The files of a delta as they are opened.
use Rattle.std.proofs.Common.{◌≡◌, ◌∙◌, ℕ, ◌+◌, take, slice_get, Bool, true, false, cond, List, [], ◌∷◌, ◌++◌, map, filter, Option, Some, None, Result, Ok, Err, refl, sym, ap, subst}
use Rattle.std.specs.List.{AllByRecursion, cons_option, filter_map}
use Rattle.flash_io.specs.Image.{Image}
use Rattle.flash_types.specs.declared.range.HandleRange.{HandleRange}
use Rattle.column_block.specs.Suiting.{Suits}
use Rattle.column_block.specs.declared.cell.Version.{Version}
use Rattle.column_block.specs.declared.column.Column.{Column}
use Rattle.column_block.proofs.Ordered.{each_filter}
use Rattle.column_file.specs.Laws.{TinyFilesSuit}
use Rattle.column_file.specs.Tiny.{file_at, tiny_at}
use Rattle.flash_list.specs.Steps.{◌>>=◌}
use Rattle.std.specs.Prelude.{IfOk, IfErr}
use Rattle.pack_codec.specs.Faults.{Fails}
use Rattle.pack_codec.specs.declared.fault.FormError.TheVariants as form
use Rattle.pack_codec.proofs.Binds.{bind_ok, ok_is}
use Rattle.column_file.specs.declared.file.ColumnFile.{ColumnFile}
use Rattle.column_file.specs.declared.file.ColumnFile.TheVariants.{Mem, Tiny, DeleteRange}
use Rattle.delta_layer.specs.Files.{FileHas, FilesHave, HasNoMem, file_of, files_of, is_mem}
use Rattle.manifest_form.specs.declared.state.StoredFile.{StoredFile}
use Rattle.manifest_form.specs.declared.state.StoredFile.TheVariants as stored
use Rattle.pack_codec.specs.declared.fault.FormError.{FormError}
use Rattle.segment_list.specs.Order.{LiesIn}
use Rattle.segment_list.specs.Slots.{clip_file, is_in, kept}
use Rattle.segment_flush.specs.Names.{name_of}
use Rattle.replica_state.proofs.Sets.{all_one_more}
use Rattle.opened_segments.specs.Errors.{form_fault}
use Rattle.opened_segments.specs.Faults.{IsFaultOf, IsLost, Judges, data_faults, data_in, reading_faults}
use Rattle.opened_segments.specs.Opened.{AreParts, IsPart, IsPartIn, IsTinyOf}
use Rattle.opened_segments.specs.declared.fault.OpenFault.{OpenFault}
use Rattle.opened_segments.specs.declared.fault.OpenFault.TheVariants.{Damaged, Device, Memory}
use Rattle.opened_segments.proofs.Judging.{data_has, take_one}

-- ---- one file

module _ (own : ℕ) (c : Image) where
  -- a file that isn't there
  pub lost_judged : {X : Type 0} (T : Type 0) (read : List ℕ → Result X FormError) (file : ℕ) (e : OpenFault) → IsLost {T = T} own c file (Err e) → IsFaultOf (data_faults read file (data_in own c file)) e
  lost_judged T read file (Damaged f at) (is, zero, none) = ([], ap (data_faults read file) none ∙ ap2 (λ (x y : ℕ). Damaged x y ∷ []) (sym is) (sym zero))
    where
      ap2 : {X Y Z : Type 0} (f : X → Y → Z) {a b : X} {c d : Y} → a ≡ b → c ≡ d → f a c ≡ f b d
      ap2 f p q = λ i. f (p i) (q i)
  lost_judged T read file Device lost = tt
  lost_judged T read file Memory lost = tt

  -- bytes that are there
  pub bytes_judged : {X T : Type 0} (read : List ℕ → Result X FormError) (file : ℕ) (bytes : List ℕ) (r : Result T OpenFault) → data_in own c file ≡ Some bytes → Judges (reading_faults file (read bytes)) r → Judges (data_faults read file (data_in own c file)) r
  bytes_judged read file bytes r here judged = subst (λ (faults : List OpenFault). Judges faults r) (sym (ap (data_faults read file) here)) judged

  pub tiny_in : (columns : List Column) (range : HandleRange) (file : ℕ) (bytes : List ℕ) (f : ColumnFile) → data_in own c file ≡ Some bytes → IsTinyOf columns range file bytes f → IsPartIn own c columns range f
  tiny_in columns range file bytes f here (versions, reads, is) =
      let has = data_has own c file bytes here in
      subst (IsPartIn own c columns range) (sym is) (has.0, has.1, (bytes, has.2, (versions, reads, refl)))

all_pass : {X : Type 0} (p : X → Bool) (xs : List X) → AllByRecursion (λ (x : X). p x ≡ true) (filter p xs)
all_pass p [] = tt
all_pass p (x ∷ xs) = by (all_pass p xs) (p x) refl
  where
    by : AllByRecursion (λ (y : _). p y ≡ true) (filter p xs) → (b : Bool) → p x ≡ b → AllByRecursion (λ (y : _). p y ≡ true) (cond b (x ∷ filter p xs) (filter p xs))
    by rest true is = (is, rest)
    by rest false is = rest

pub tiny_part : (law : TinyFilesSuit) (columns : List Column) (range : HandleRange) (file : ℕ) (bytes : List ℕ) (f : ColumnFile) → IsTinyOf columns range file bytes f → IsPart columns range f
tiny_part law columns range file bytes f (versions, reads, is) =
    subst (IsPart columns range) (sym is) (record { stored = refl; lies = all_pass (is_in range) versions; suits = each_filter (Suits columns) (is_in range) versions (law columns bytes versions reads) })

pub tiny_name : (columns : List Column) (range : HandleRange) (file : ℕ) (bytes : List ℕ) (f : ColumnFile) → IsTinyOf columns range file bytes f → name_of f ≡ Some (stored.Tiny file)
tiny_name columns range file bytes f (versions, reads, is) = ap name_of is

pub range_part : (columns : List Column) (range cleared : HandleRange) → IsPart columns range (DeleteRange cleared)
range_part columns range cleared = record { stored = refl; lies = tt; suits = tt }

-- ---- the bytes of a tiny file

module _ (file : ℕ) (columns : List Column) (bytes : List ℕ) where
  file_read : (whole : ColumnFile) → file_at file columns bytes ≡ Ok whole → (versions : List Version) × (tiny_at columns bytes ≡ Ok versions) × (whole ≡ Tiny file versions)
  unfolding file_at
  file_read whole e = (let a = bind_ok (tiny_at columns bytes) (λ versions. Ok (Tiny file versions)) whole e in (a.0, a.1, sym (ok_is _ _ a.2)))

  file_refused : (f : FormError) → file_at file columns bytes ≡ Err f → tiny_at columns bytes ≡ Err f
  unfolding file_at
  file_refused f e = by (tiny_at columns bytes) e
    where
      by : (r : Result (List Version) FormError) → (r >>= λ versions. Ok (Tiny file versions)) ≡ Err f → r ≡ Err f
      by (Ok x) h = absurd (cc h)
      by (Err g) h = (let same : g ≡ f = cc h in ap Err same)

  pub kept_judged : (whole : ColumnFile) → file_at file columns bytes ≡ Ok whole → (r : Result ColumnFile OpenFault) → IfErr r (λ e. e ≡ Memory) → Judges (reading_faults file (tiny_at columns bytes)) r
  kept_judged whole read (Ok part) memory = ap (reading_faults file) (file_read whole read).1
  kept_judged whole read (Err e) memory = subst (IsFaultOf (reading_faults file (tiny_at columns bytes))) (sym memory) tt

  pub kept_tiny : (range : HandleRange) (whole : ColumnFile) → file_at file columns bytes ≡ Ok whole → (r : Result ColumnFile OpenFault) → IfOk r (λ part. part ≡ clip_file range whole) → IfOk r (IsTinyOf columns range file bytes)
  kept_tiny range whole read (Ok part) is = (let told = file_read whole read in (told.0, told.1, is ∙ ap (clip_file range) told.2))
  kept_tiny range whole read (Err e) is = tt

  pub form_judged : (e : FormError) → Fails e (file_at file columns bytes) → (o : OpenFault) → o ≡ form_fault file e → IsFaultOf (reading_faults file (tiny_at columns bytes)) o
  form_judged form.Memory fails o is = subst (IsFaultOf (reading_faults file (tiny_at columns bytes))) (sym is) tt
  form_judged (form.Damaged at) fails o is = subst (IsFaultOf (reading_faults file (tiny_at columns bytes))) (sym is) ([], ap (reading_faults file) (file_refused (form.Damaged at) fails))

pub part_told : (law : TinyFilesSuit) (columns : List Column) (range : HandleRange) (file : ℕ) (r : Result ColumnFile OpenFault) → IfOk r (λ f. (bytes : List ℕ) × IsTinyOf columns range file bytes f) → IfOk r (IsPart columns range)
part_told law columns range file (Ok f) is = tiny_part law columns range file is.0 f is.1
part_told law columns range file (Err e) is = tt

-- ---- several

pub all_of : {X : Type 0} (P Q : X → Type 0) (step : (x : X) → P x → Q x) (xs : List X) → AllByRecursion P xs → AllByRecursion Q xs
all_of P Q step [] all = tt
all_of P Q step (x ∷ xs) all = (step x all.0, all_of P Q step xs all.1)

map_push : {X Y : Type 0} (f : X → Y) (xs : List X) (x : X) → map f (xs ++ x ∷ []) ≡ map f xs ++ f x ∷ []
map_push f [] x = refl
map_push f (y ∷ xs) x = ap (λ (ys : List _). f y ∷ ys) (map_push f xs x)

pub no_mem : (columns : List Column) (range : HandleRange) (files : List ColumnFile) → AllByRecursion (IsPart columns range) files → HasNoMem files
no_mem columns range files all = all_of (IsPart columns range) (λ (f : ColumnFile). is_mem f ≡ false) (λ f is. is.stored) files all

pub parts_none : (columns : List Column) (range : HandleRange) → AreParts columns range [] []
parts_none columns range = record { names = refl; each = tt }

pub parts_more : (columns : List Column) (range : HandleRange) (ss : List StoredFile) (fs : List ColumnFile) (s : StoredFile) (f : ColumnFile) → AreParts columns range ss fs → IsPart columns range f → name_of f ≡ Some s → AreParts columns range (ss ++ s ∷ []) (fs ++ f ∷ [])
parts_more columns range ss fs s f are is name = record {
  names = map_push name_of fs f ∙ (λ i. are.names i ++ name i ∷ []) ∙ sym (map_push Some ss s);
  each = all_one_more (IsPart columns range) fs f are.each is;
}

pub parts_on : (columns : List Column) (range : HandleRange) (ss : List StoredFile) (i : ℕ) (fs : List ColumnFile) (s : StoredFile) (f : ColumnFile) → slice_get ss i ≡ Some s → AreParts columns range (take i ss) fs → IsPart columns range f → name_of f ≡ Some s → AreParts columns range (take (i + 1) ss) (fs ++ f ∷ [])
parts_on columns range ss i fs s f here are is name = subst (λ (xs : List StoredFile). AreParts columns range xs (fs ++ f ∷ [])) (sym (take_one ss i s here)) (parts_more columns range (take i ss) fs s f are is name)

-- the names that are there are the names
pub filtered_names : (fs : List ColumnFile) (ss : List StoredFile) → map name_of fs ≡ map Some ss → filter_map name_of fs ≡ ss
filtered_names [] [] is = refl
filtered_names [] (s ∷ ss) is = absurd (cc is)
filtered_names (f ∷ fs) [] is = absurd (cc is)
filtered_names (f ∷ fs) (s ∷ ss) is =
    let here : name_of f ≡ Some s = cc is in
    let rest : map name_of fs ≡ map Some ss = cc is in
    (λ i. cons_option (here i) (filtered_names fs ss rest i))
