-- A store that goes on in a new manifest file.
use Rattle.std.proofs.Common.{◌≡◌, ℕ, ◌+◌, ◌<◌, ◌^◌, List, [], ◌∷◌, ◌++◌, length, Option, Some, None, Ok, inl, inr, ⊎_elim, refl, sym, ap, ◌∙◌, subst, append_assoc, length-append, arith}
use Rattle.std.specs.Prelude.{Result}
use Rattle.std.specs.Int.{w32, w64, to_be_bytes}
use Rattle.std.proofs.lemmas.List.{append-nil}
use Rattle.flash_list.specs.Fields.{number_at}
use Rattle.flash_io.specs.Image.{Image}
use Rattle.flash_io.specs.Crash.{Durable, Elsewhere, OneFile}
use Rattle.manifest_form.specs.declared.fault.Fault.{Fault}
use Rattle.manifest_form.specs.declared.fault.Fault.TheVariants.{At}
use Rattle.manifest_form.specs.declared.recover.Recovered.{Recovered}
use Rattle.manifest_form.specs.Walk.{root_step, manifest_of}
use Rattle.manifest_form.specs.Takes.{IsRoot, IsManifest, Closes}
use Rattle.manifest_form.proofs.Again.{u32_again}
use Rattle.manifest_form.proofs.Fronts.{record_again}
use Rattle.manifest_form.proofs.Taking.{more, reads}
use Rattle.manifest.specs.declared.store.Manifest.{Manifest}
use Rattle.manifest.specs.Gated.{with_record, IsSteady, IsBeforeOrAfter}
use Rattle.manifest.specs.Stores.{HasStore, IsKept, has_of}
use Rattle.manifest.specs.Rolled.{IsNamedNext, OldOrRolled}
use Rattle.manifest.proofs.Stays.{names_file, file_below}
use Rattle.manifest.proofs.Created.{file_stays}

abbrev pub name : ℕ → List ℕ
name file = to_be_bytes w32 file

-- a record of the root names this file
named : (file gate stop : ℕ) (before : Option ℕ) → file < 2 ^ 32 → root_step gate stop before (name file) ≡ Ok (Some file)
named file gate stop before lt =
    let read : ◌≡◌ {A = Result (ℕ × List ℕ) Fault} (number_at w32 (At gate) (name file)) (Ok (file, [])) = ap (number_at w32 (At gate)) (sym (append-nil (name file))) ∙ u32_again (At gate) file [] lt in
    rw read refl

pub root_next : (file next : ℕ) (part : List ℕ) → next < 2 ^ 32 → IsRoot file part → IsRoot next (with_record part (name next))
root_next file next part lt is =
    let front = 1 ∷ to_be_bytes w64 (length (name next)) ++ name next in
    let whole : with_record part (name next) ≡ part ++ front = append_assoc part (1 ∷ to_be_bytes w64 (length (name next))) (name next) in
    subst (IsRoot next) (sym whole) (more root_step (Some 4) 0 None (Some file) (Some next) part front (name next) is (record_again (Some 4) (name next) (omega arith) refl) (named next (0 + length part) (0 + length part + length front) (Some file) lt))

not_zero : (n : ℕ) → 0 < n → n ≡ 0 → ⊥
not_zero n some is = omega (arith, some, is)

less : (a b : ℕ) → a < b → a ≡ b → ⊥
less a b lt is = omega (arith, lt, is)

module _ (m : Manifest) where
  below_next : m.file < m.state.next
  below_next = file_below m.file m.state m.formed

  next_apart : m.state.next ≡ 0 → ⊥
  next_apart is = omega (arith, below_next, is)

  -- the old store in an image in which neither the root nor its file differ
  pub stands_in : (old : Image → Type 0) → IsKept old m → (c d : Image) → old d → c 0 ≡ d 0 → c m.file ≡ d m.file → HasStore c m.file (has_of m)
  stands_in old kept c d now root file = record {
    names = (kept.root, root ∙ kept.root_held d now, names_file m.file m.root_at kept.root kept.root_closes m.named);
    content = kept.content;
    is = file ∙ kept.held d now;
    reads = reads m.file (has_of m) kept.closes.part kept.content kept.closes.holds kept.closes.shut;
  }

  -- where nothing is done
  pub still_old : (old : Image → Type 0) → IsKept old m → (has : Recovered) (c : Image) → old c → OldOrRolled old m.file m.state.next (has_of m) has c
  still_old old kept has c now = ((c, now, λ file a b. refl), inl (stands_in old kept c c now refl refl))

  -- while the next file is made
  pub still_staged : (old : Image → Type 0) → IsKept old m → (has : Recovered) (c : Image) → Elsewhere m.state.next old c → OldOrRolled old m.file m.state.next (has_of m) has c
  still_staged old kept has c else' =
      let d = else'.0 in
      ((d, else'.1, λ file a b. else'.2 file b), inl (stands_in old kept c d else'.1 (else'.2 0 (λ is. next_apart (sym is))) (else'.2 m.file (less m.file m.state.next below_next))))

  module _ (mid : Image → Type 0) (kept : IsKept mid m) (fits : m.state.next < 2 ^ 32) (bytes : List ℕ) (durable : Durable m.state.next bytes mid) (n : List ℕ) (is_name : n ≡ name m.state.next) where
    abbrev pub Named : Image → Type 0
    Named c = OneFile 0 mid (IsBeforeOrAfter kept.root_closes.part n) c

    part_next : IsRoot m.state.next (with_record kept.root_closes.part n)
    part_next = subst (λ (l : List ℕ). IsRoot m.state.next (with_record kept.root_closes.part l)) (sym is_name) (root_next m.file m.state.next kept.root_closes.part fits kept.root_closes.holds)

    size_next : length (with_record kept.root_closes.part n) ≡ m.root_at + 13
    size_next =
        let four : length n ≡ 4 = ap length is_name in
        omega (arith, kept.root_closes.size, four, length-append (kept.root_closes.part ++ 1 ∷ to_be_bytes w64 (length n)) n, length-append kept.root_closes.part (1 ∷ to_be_bytes w64 (length n)))

    -- while the root is written
    pub old_or_rolled : (old : Image → Type 0) → ((c : Image) → mid c → Elsewhere m.state.next old c) → (has : Recovered) → manifest_of m.state.next bytes ≡ Ok has → (c : Image) → Named c → OldOrRolled old m.file m.state.next (has_of m) has c
    old_or_rolled old each has read c one =
        let d = one.0.0 in
        let was = each d one.0.1 in (
          (was.0, was.1, λ file a b. one.0.2 file a ∙ was.2 file b),
          ⊎_elim
              (λ before. inl (record {
                names = (before.0, before.1, names_file m.file m.root_at before.0 (record { part = kept.root_closes.part; size = kept.root_closes.size; shut = before.2; holds = kept.root_closes.holds }) m.named);
                content = kept.content;
                is = one.0.2 m.file (not_zero m.file m.apart) ∙ kept.held d one.0.1;
                reads = reads m.file (has_of m) kept.closes.part kept.content kept.closes.holds kept.closes.shut;
              }))
              (λ after. inr (record {
                names = (after.0, after.1, names_file m.state.next (m.root_at + 13) after.0 (record { part = with_record kept.root_closes.part n; size = size_next; shut = after.2; holds = part_next }) (omega arith));
                content = bytes;
                is = one.0.2 m.state.next next_apart ∙ durable d one.0.1;
                reads = read;
              })) one.1,
        )

    -- the next manifest on its disk
    pub kept_next : (new : Image → Type 0) → ((c : Image) → new c → Named c) → IsSteady 0 (with_record kept.root_closes.part n) new → (next : Manifest) → IsNamedNext m bytes next → IsKept new next
    kept_next new each steady next is = record {
      root = steady.0;
      root_closes = subst (λ f. Closes (IsRoot f) next.root_at steady.0) (sym is.file) (record { part = with_record kept.root_closes.part n; size = size_next ∙ sym is.root_at; shut = steady.1; holds = part_next });
      root_held = steady.2;
      content = bytes;
      closes = subst (λ f. Closes (IsManifest f (has_of next)) next.at bytes) (sym is.file) is.closes;
      held = subst (λ f. Durable f bytes new) (sym is.file) (file_stays m.state.next next_apart mid new bytes (IsBeforeOrAfter kept.root_closes.part n) durable each);
    }

    -- the root's gate is still closed
    pub kept_old : (new : Image → Type 0) → ((c : Image) → new c → Named c) → IsSteady 0 kept.root_closes.part new → IsKept new m
    kept_old new each steady = record {
      root = steady.0;
      root_closes = record { part = kept.root_closes.part; size = kept.root_closes.size; shut = steady.1; holds = kept.root_closes.holds };
      root_held = steady.2;
      content = kept.content;
      closes = kept.closes;
      held = file_stays m.file (not_zero m.file m.apart) mid new kept.content (IsBeforeOrAfter kept.root_closes.part n) kept.held each;
    }
