-- What a manifest has of its disk stays where other files change.
use Rattle.std.proofs.Common.{◌≡◌, ℕ, ◌+◌, ◌<◌, ◌≤◌, Bool, true, false, ltb, List, ◌∷◌, ◌++◌, length, Option, Some, None, Ok, inl, inr, ⊎_elim, refl, sym, ap, ◌∙◌, subst, append_assoc, length-append, arith}
use Rattle.std.specs.Prelude.{◌&&◌, ◌^◌, Result, Err}
use Rattle.std.specs.List.{All, flat_map}
use Rattle.std.specs.Int.{w64, to_be_bytes}
use Rattle.flash_io.specs.Image.{Image, Holds, SameBut}
use Rattle.flash_io.specs.Crash.{Durable, Elsewhere, OneFile}
use Rattle.flash_io.proofs.Moments.{same_but_refl}
use Rattle.flash_list.specs.Steps.{◌>>=◌}
use Rattle.manifest_form.specs.declared.state.State.{State}
use Rattle.manifest_form.specs.declared.state.Edit.{Edit}
use Rattle.manifest_form.specs.declared.recover.Recovered.{Recovered}
use Rattle.manifest_form.specs.Edits.{edits_of}
use Rattle.manifest_form.specs.declared.fault.Fault.{Fault}
use Rattle.manifest_form.specs.declared.fault.Fault.TheVariants.{At}
use Rattle.manifest_form.specs.Spelling as spelling
use Rattle.manifest_form.specs.Spelling.{EditFits}
use Rattle.manifest_form.specs.States.{all_done, is_formed, after_record}
use Rattle.manifest_form.specs.Walk.{root_of, manifest_step}
use Rattle.manifest_form.specs.Takes.{IsRoot, IsManifest, Closes}
use Rattle.manifest_form.proofs.Again.{edits_again}
use Rattle.manifest_form.proofs.Fronts.{record_again}
use Rattle.manifest_form.proofs.Segments.{if_true}
use Rattle.manifest_form.proofs.Taking.{more, names, reads}
use Rattle.manifest.specs.declared.store.Manifest.{Manifest}
use Rattle.manifest.specs.Gated.{with_record, IsSteady, IsCommitted, IsBeforeOrAfter}
use Rattle.manifest.specs.Stores.{HasStore, has_of, has_with, IsKept}
use Rattle.manifest.specs.Appended.{IsAppended}
use Rattle.manifest.specs.Runs.{OldOrNew}

abbrev pub answer : ℕ → Option State → Result (Option State) Fault
answer gate None = Err (At gate)
answer gate (Some s) = Ok (Some s)

pub positive : (n : ℕ) → 0 < n → 0 ≡ n → ⊥
positive n some is = omega (arith, some, is)

-- a root names its file in each image that has it
pub names_file : (file at : ℕ) (root : List ℕ) → Closes (IsRoot file) at root → 0 < at → root_of root ≡ Ok (Some file)
names_file file at root closes some =
    let shut = closes.shut in
    let long : 2 ≤ length root = omega (arith, closes.size, ap length shut.is, length-append closes.part (shut.gate ∷ shut.rest), some) in
    names file closes.part root long closes.holds shut

module _ (m : Manifest) (old : Image → Type 0) (kept : IsKept old m) where
  -- the root in an image in which only the manifest's file may differ
  pub root_in : (c d : Image) → old d → SameBut m.file d c → Holds c 0 kept.root
  root_in c d now same = same 0 (positive m.file m.apart) ∙ kept.root_held d now

  pub store_in : (c d : Image) → old d → SameBut m.file d c → (has : Recovered) (part : List ℕ) → IsManifest m.file has part → IsCommitted part (c m.file) → HasStore c m.file has
  store_in c d now same has part is committed = record {
    names = (kept.root, root_in c d now same, names_file m.file m.root_at kept.root kept.root_closes m.named);
    content = committed.0;
    is = committed.1;
    reads = reads m.file has part committed.0 is committed.2;
  }

  -- where nothing is done the old store is in each image
  pub still_old : (after : Recovered) (c : Image) → old c → OldOrNew old m.file (has_of m) after c
  still_old after c now = ((c, now, same_but_refl m.file c), inl (store_in c c now (same_but_refl m.file c) (has_of m) kept.closes.part kept.closes.holds (kept.content, kept.held c now, kept.closes.shut)))

  pub elsewhere : (file : ℕ) → m.file < file → (new : Image → Type 0) → ((c : Image) → new c → Elsewhere file old c) → IsKept new m
  elsewhere file above new each = record {
    root = kept.root;
    root_closes = kept.root_closes;
    root_held = λ c left. let from = each c left in from.2 0 (λ is. positive file (omega (arith, above)) is) ∙ kept.root_held from.0 from.1;
    content = kept.content;
    closes = kept.closes;
    held = λ c left. let from = each c left in from.2 m.file (λ is. less m.file file above is) ∙ kept.held from.0 from.1;
  }
    where
      less : (a b : ℕ) → a < b → a ≡ b → ⊥
      less a b lt is = omega (arith, lt, is)

  module _ (edits : List Edit) (bytes : List ℕ) (is_formed' : is_formed m.file (all_done m.state edits) ≡ true) (spelled : bytes ≡ flat_map spelling.edit edits) (fits : All EditFits edits) (sized : length bytes < 2 ^ 64) where
    step_good : (gate stop : ℕ) → manifest_step m.file gate stop (Some m.state) bytes ≡ Ok (Some (all_done m.state edits))
    unfolding manifest_step
    step_good gate stop =
        let read : edits_of stop bytes ≡ Ok edits = ap (edits_of stop) spelled ∙ edits_again stop edits fits in
        let after : after_record m.file (Some m.state) edits ≡ Some (all_done m.state edits) = if_true (is_formed m.file (all_done m.state edits)) (Some (all_done m.state edits)) None is_formed' in
        ap (λ (r : Result (List Edit) Fault). r >>= λ es. answer gate (after_record m.file (Some m.state) es)) read ∙ ap (answer gate) after

    -- with the record behind it the committed part gives the next state
    pub with_edits : IsManifest m.file (has_with m (all_done m.state edits)) (with_record kept.closes.part bytes)
    with_edits =
        let holds = kept.closes.holds in
        let record_is = 1 ∷ to_be_bytes w64 (length bytes) ++ bytes in
        record {
          front = holds.front;
          records = holds.records ++ record_is;
          is = append_assoc kept.closes.part (1 ∷ to_be_bytes w64 (length bytes)) bytes ∙ ap (λ (l : List ℕ). l ++ record_is) holds.is ∙ append_assoc holds.front holds.records record_is;
          header = holds.header;
          takes = more (manifest_step m.file) None (length holds.front) None (Some m.state) (Some (all_done m.state edits)) holds.records record_is bytes holds.takes (record_again None bytes sized refl) (step_good (length holds.front + length holds.records) (length holds.front + length holds.records + length record_is));
        }

    pub old_or_new : (c : Image) → OneFile m.file old (IsBeforeOrAfter kept.closes.part bytes) c → OldOrNew old m.file (has_of m) (has_with m (all_done m.state edits)) c
    old_or_new c one = (
      one.0,
      ⊎_elim
          (λ before. inl (store_in c one.0.0 one.0.1 one.0.2 (has_of m) kept.closes.part kept.closes.holds before))
          (λ after. inr (store_in c one.0.0 one.0.1 one.0.2 (has_with m (all_done m.state edits)) (with_record kept.closes.part bytes) with_edits after)) one.1,
    )

    size_of_record : length (with_record kept.closes.part bytes) ≡ m.at + 9 + length bytes
    size_of_record = omega (arith, kept.closes.size, length-append (kept.closes.part ++ 1 ∷ to_be_bytes w64 (length bytes)) bytes, length-append kept.closes.part (1 ∷ to_be_bytes w64 (length bytes)))

    pub kept_with : (new : Image → Type 0) → ((c : Image) → new c → OneFile m.file old (IsBeforeOrAfter kept.closes.part bytes) c) → IsSteady m.file (with_record kept.closes.part bytes) new → (next : Manifest) → IsAppended m (all_done m.state edits) (length bytes) next → IsKept new next
    kept_with new each steady next is = record {
      root = kept.root;
      root_closes = subst (λ f. Closes (IsRoot f) next.root_at kept.root) (sym is.becomes.file) (subst (λ n. Closes (IsRoot m.file) n kept.root) (sym is.becomes.root_at) kept.root_closes);
      root_held = λ c left. let one = each c left in root_in c one.0.0 one.0.1 one.0.2;
      content = steady.0;
      closes = subst (λ f. Closes (IsManifest f (has_of next)) next.at steady.0) (sym is.becomes.file) (record {
        part = with_record kept.closes.part bytes;
        size = size_of_record ∙ sym is.at;
        shut = steady.1;
        holds = subst (λ (h : Recovered). IsManifest m.file h (with_record kept.closes.part bytes)) has_same with_edits;
      });
      held = subst (λ f. Durable f steady.0 new) (sym is.becomes.file) steady.2;
    }
      where
        has_same : has_with m (all_done m.state edits) ≡ has_of next
        has_same = rw (is.becomes.table, is.becomes.columns, is.becomes.state) refl

  -- the gate is still closed
  pub kept_same : (bytes : List ℕ) (new : Image → Type 0) → ((c : Image) → new c → OneFile m.file old (IsBeforeOrAfter kept.closes.part bytes) c) → IsSteady m.file kept.closes.part new → IsKept new m
  kept_same bytes new each steady = record {
    root = kept.root;
    root_closes = kept.root_closes;
    root_held = λ c left. let one = each c left in root_in c one.0.0 one.0.1 one.0.2;
    content = steady.0;
    closes = record { part = kept.closes.part; size = kept.closes.size; shut = steady.1; holds = kept.closes.holds };
    held = steady.2;
  }

and_left : (a b : Bool) → (a && b) ≡ true → a ≡ true
and_left true b h = refl
and_left false b h = absurd (cc h)

below : (a b : ℕ) → ltb a b ≡ true → a < b
below a b h = grind (arith, h)

-- the manifest's file is below Next
pub file_below : (file : ℕ) (s : State) → is_formed file s ≡ true → file < s.next
file_below file s formed = below file s.next (and_left (ltb file s.next) _ (and_left _ _ formed))
