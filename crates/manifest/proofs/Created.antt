-- A store that is made.
use Rattle.std.proofs.Common.{◌≡◌, ◌≢◌, ℕ, ℤ, ◌+◌, ◌<◌, ◌^◌, List, [], ◌∷◌, ◌++◌, length, Option, Some, None, Ok, inl, inr, ⊎_elim, refl, sym, ap, ◌∙◌, subst, append_assoc, length-append, arith}
use Rattle.std.specs.Prelude.{FitsSigned, Result, Err, OnOk}
use Rattle.std.specs.List.{All, flat_map}
use Rattle.std.specs.Int.{w64, to_be_bytes}
use Rattle.flash_list.specs.Fields.{number_at}
use Rattle.flash_io.specs.Image.{Image}
use Rattle.flash_io.specs.Crash.{Durable, OneFile, Created}
use Rattle.column_block.specs.declared.column.Column.{Column}
use Rattle.column_block.specs.Schemas.{IsSchema}
use Rattle.manifest_form.specs.declared.recover.Recovered.{Recovered}
use Rattle.manifest_form.specs.declared.state.State.{State}
use Rattle.manifest_form.specs.declared.state.Edit.{Edit}
use Rattle.manifest_form.specs.declared.fault.Fault.{Fault}
use Rattle.flash_list.specs.Steps.{◌>>=◌}
use Rattle.manifest_form.specs.States.{after_record}
use Rattle.manifest_form.specs.Edits.{edits_of}
use Rattle.manifest_form.specs.Spelling as spelling
use Rattle.manifest_form.specs.Spelling.{EditFits, ColumnFits}
use Rattle.manifest_form.specs.Walk.{root_step, manifest_step, manifest_of}
use Rattle.manifest_form.specs.Takes.{ClosedAt, IsRoot, IsManifest, Closes}
use Rattle.manifest_form.proofs.Again.{edits_again}
use Rattle.manifest_form.proofs.HeaderAgain.{header_again}
use Rattle.manifest_form.proofs.Fronts.{record_again}
use Rattle.manifest_form.proofs.Taking.{none, more, reads}
use Rattle.manifest.specs.declared.store.Manifest.{Manifest}
use Rattle.manifest.specs.Gated.{with_record, IsSteady, IsCommitted, IsBeforeOrAfter}
use Rattle.manifest.specs.Stores.{IsNew, IsKept, has_of}
use Rattle.manifest.specs.Made.{first_edits, first_state, store_of, HasGate, IsUnmade, Apart, NewOrMade, OldOrNone, OldOrMade}
use Rattle.manifest.proofs.Making.{lacks_short, closed_gate, closed_root}
use Rattle.manifest.proofs.Stays.{answer, names_file}

abbrev pub name : List ℕ
name = 0 ∷ 0 ∷ 0 ∷ 1 ∷ []

-- the root's first record names file 1
named : (gate stop : ℕ) → root_step gate stop None name ≡ Ok (Some 1)
unfolding number_at
named gate stop = refl

pub root_part : IsRoot 1 (with_record [] name)
root_part =
    let front = 1 ∷ to_be_bytes w64 4 ++ name in
    more root_step (Some 4) 0 None None (Some 1) [] front name (none root_step (Some 4) 0 None) (record_again (Some 4) name (omega arith) refl) (named (0 + 0) (0 + 0 + length front))

module _ (file : ℕ) (state : State) (edits : List Edit) (bytes : List ℕ) (spelled : bytes ≡ flat_map spelling.edit edits) (fits : All EditFits edits) (after : after_record file None edits ≡ Some state) where
  step_first : (gate stop : ℕ) → manifest_step file gate stop None bytes ≡ Ok (Some state)
  unfolding manifest_step
  step_first gate stop =
      let read : edits_of stop bytes ≡ Ok edits = ap (edits_of stop) spelled ∙ edits_again stop edits fits in
      ap (λ (r : Result (List Edit) Fault). r >>= λ es. answer gate (after_record file None es)) read ∙ ap (answer gate) after

-- the bytes of a new manifest are read as that
pub first_read : (table : ℤ) (columns : List Column) (edits : List Edit) (bytes record' : List ℕ) → FitsSigned w64 table → IsSchema columns → All ColumnFits columns → record' ≡ flat_map spelling.edit edits → All EditFits edits → length record' < 2 ^ 64
    → bytes ≡ spelling.header table columns ++ 1 ∷ [] ++ (to_be_bytes w64 (length record') ++ (record' ++ 0 ∷ [])) → (file : ℕ) (state : State) → after_record file None edits ≡ Some state → manifest_of file bytes ≡ Ok (store_of table columns state)
first_read table columns edits bytes record' table_fits schema columns_fit spelled fits sized is file state after =
    let front = spelling.header table columns in
    let one = 1 ∷ to_be_bytes w64 (length record') ++ record' in
    let has = store_of table columns state in
    let part : IsManifest file has (front ++ one) = record {
      front = front;
      records = one;
      is = refl;
      header = header_again table columns table_fits schema columns_fit;
      takes = more (manifest_step file) None (length front) None None (Some has.state) [] one record' (none (manifest_step file) None (length front) None) (record_again None record' sized refl) (step_first file state edits record' spelled fits after _ _);
    } in
    let shut : ClosedAt (front ++ one) bytes = record {
      gate = 0;
      rest = [];
      is = is ∙ append_assoc front (1 ∷ []) (to_be_bytes w64 (length record') ++ (record' ++ 0 ∷ [])) ∙ ap (λ (l : List ℕ). front ++ 1 ∷ l) (sym (append_assoc (to_be_bytes w64 (length record')) record' (0 ∷ []))) ∙ sym (append_assoc front one (0 ∷ []));
      closed = λ e. cc;
    } in
    reads file has (front ++ one) bytes part shut

pub first_after : (chain : List ℕ) → after_record 1 None (first_edits chain) ≡ Some (first_state chain)
first_after chain = refl

-- ---- images

module _ (old mid : Image → Type 0) (bytes : List ℕ) (has : Recovered) (read : manifest_of 1 bytes ≡ Ok has) (apart : (c : Image) → mid c → Apart old c) (durable : Durable 1 bytes mid) where
  one_is_not_zero : ◌≡◌ {A = ℕ} 1 0 → ⊥
  one_is_not_zero e = absurd (cc e)

  pub root_opened : (c : Image) → OneFile 0 mid (IsBeforeOrAfter [] name) c → NewOrMade old has c
  root_opened c one =
      let d = one.0.0 in
      let was = apart d one.0.1 in (
        (was.0, was.1, λ file a b. one.0.2 file a ∙ was.2 file a b),
        ⊎_elim
            (λ before. inl (inr (before.0, before.1, closed_root before.0 before.2)))
            (λ after. inr (record {
              names = (after.0, after.1, names_file 1 13 after.0 (record { part = with_record [] name; size = refl; shut = after.2; holds = root_part }) (omega arith));
              content = bytes;
              is = one.0.2 1 one_is_not_zero ∙ durable d one.0.1;
              reads = read;
            })) one.1,
      )

-- where the root's record was or wasn't committed, the root has its first gate
pub opened_unmade : (files : Image) (mid new : Image → Type 0) → ((c : Image) → new c → new files) → ((c : Image) → new c → OneFile 0 mid (IsBeforeOrAfter [] name) c) → IsUnmade files new
opened_unmade files mid new reads each = inr (inr (λ c left. ⊎_elim closed made (each files (reads c left)).1))
  where
    closed : IsCommitted [] (files 0) → HasGate files
    closed before = (before.0, before.1, closed_gate before.0 before.2)

    made : IsCommitted (with_record [] name) (files 0) → HasGate files
    made after = (after.0, after.1, λ lacks. absurd (omega (arith, lacks_short after.0 lacks, ap length after.2.is, length-append (with_record [] name) (after.2.gate ∷ after.2.rest))))

-- the new manifest on its disk
pub kept_new : (outcomes : Image → Type 0) (bytes : List ℕ) (m : Manifest) → m.file ≡ 1 → m.root_at ≡ 13 → Closes (IsManifest 1 (has_of m)) m.at bytes → IsSteady 0 (with_record [] name) outcomes → Durable 1 bytes outcomes → IsKept outcomes m
kept_new outcomes bytes m file root_at closes steady durable = record {
  root = steady.0;
  root_closes = subst (λ n. Closes (IsRoot n) m.root_at steady.0) (sym file) (record { part = with_record [] name; size = sym root_at; shut = steady.1; holds = root_part });
  root_held = steady.2;
  content = bytes;
  closes = subst (λ n. Closes (IsManifest n (has_of m)) m.at bytes) (sym file) closes;
  held = subst (λ n. Durable n bytes outcomes) (sym file) durable;
}

-- nothing is committed while file 1 is made
pub staged_new : (old mid : Image → Type 0) (n : ℕ) → IsSteady 0 [] mid → ((c : Image) → mid c → Apart old c) → (c : Image) → (d : Image) × mid d × Created 1 n d c → Apart old c × IsNew c
staged_new old mid n steady apart c made =
    let d = made.0 in
    let was = apart d made.1 in
    let same : c 0 ≡ d 0 = made.2.0 0 (λ e. absurd (cc e)) in
    ((was.0, was.1, λ file a b. made.2.0 file b ∙ was.2 file a b), inr (steady.0, same ∙ steady.2 d made.1, closed_root steady.0 steady.1))

-- the root stays while file 1 is made
pub root_stays : (mid new : Image → Type 0) (n : ℕ) → IsSteady 0 [] mid → ((c : Image) → new c → (d : Image) × mid d × Created 1 n d c) → IsSteady 0 [] new
root_stays mid new n steady made = (steady.0, steady.1, λ c left. let from = made c left in from.2.0 0 (λ e. absurd (cc e)) ∙ steady.2 from.0 from.1)

-- another file stays while the root is written
pub file_stays : (file : ℕ) → file ≢ 0 → (mid new : Image → Type 0) (bytes : List ℕ) (P : Option (List ℕ) → Type 0) → Durable file bytes mid → ((c : Image) → new c → OneFile 0 mid P c) → Durable file bytes new
file_stays file apart mid new bytes P durable each c left = let one = each c left in one.0.2 file apart ∙ durable one.0.0 one.0.1

-- what holds whatever was answered holds where the answer is Ok
pub ok_so : {X E P : Type 0} (r : Result X E) → P → OnOk r P
ok_so (Ok x) p = p
ok_so (Err e) p = tt

-- ---- an image while a store is made

pub none_or_made : (old : Image → Type 0) (has : Recovered) (c : Image) → OldOrNone old c → OldOrMade old has c
none_or_made old has c (inl now) = inl now
none_or_made old has c (inr (apart, new)) = inr (apart, inl new)

pub none_apart : (old : Image → Type 0) (c : Image) → OldOrNone old c → Apart old c
none_apart old c (inl now) = (c, now, λ file a b. refl)
none_apart old c (inr (apart, new)) = apart
