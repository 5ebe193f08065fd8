-- The image that is chosen call by call is one that a crash may leave.
use mathlib.Core.Path.{transport, fun_ext}
use Rattle.std.proofs.Common.{◌≡◌, ◌≢◌, inl, inr, ⊎_elim, ℕ, ◌+◌, ◌-◌, ◌≤◌, List, [], ◌∷◌, ◌++◌, length, drop, arith, Option, Some, None, refl, sym, ◌∙◌, ap, subst}
use Rattle.std.specs.Prelude.{MatchOption, IsSomeAnd}
use Rattle.std.specs.Option.{option_map}
use Rattle.std.specs.Arc.{arc_value}
use Rattle.std.proofs.lemmas.Bool.{cases_eq}
use Rattle.std.proofs.lemmas.List.{drop-drop}
use Rattle.flash_io.specs.Image.{Image}
use Rattle.flash_io.specs.Crash.{Torn, TornFile, TornBytes}
use Rattle.flash_mem.specs.declared.history.Call.{Call}
use Rattle.flash_mem.specs.declared.history.Call.TheVariants as call
use Rattle.flash_mem.specs.Files.{Content, bytes_of, set_file, written}
use Rattle.flash_mem.specs.History.{seen_after, seen_at_last, Step}
use Rattle.flash_mem.specs.Chosen.{Chosen}
use Rattle.flash_mem.specs.Laws.{MayLeave, Leaves-push, seen-push, same_but_set, set_at, torn_seen}
use Rattle.flash_mem.proofs.Mix.{Mixes, mix}

-- a clone has the same bytes
pub same_bytes : (o p : Option Content) → MatchOption o (p ≡ None) (λ v. IsSomeAnd p (λ w. arc_value w ≡ arc_value v)) → option_map bytes_of p ≡ option_map bytes_of o
same_bytes None p none = ap (option_map bytes_of) none
same_bytes (Some v) None clone = absurd clone
same_bytes (Some v) (Some w) clone = ap (λ x. Some x.items) clone

module _ (base : Image) where
  starts_mixed : Mixes base (λ d. d ≡ base)
  starts_mixed file image is = subst (λ (i : Image). set_file file (base file) i ≡ base) (sym is) (fun_ext (λ f. ⊎_elim
      (λ here. subst (λ (g : ℕ). set_file file (base file) base g ≡ base g) (sym here) (set_at file (base file) base))
      (same_but_set file (base file) base f)
      (cases_eq f file)))

  noted : (calls : List Call) (c : Call) (old image : Image) → MayLeave base calls old → Step c (seen_at_last base calls) old image → MayLeave base (calls ++ c ∷ []) image
  noted calls c old image left step = transport (sym (Leaves-push base (λ d. d ≡ base) calls c image)) (old, left, step)

  pub chosen_left : (calls : List Call) (c : Call) (seen old image : Image) → ((f : ℕ) → seen f ≡ seen_at_last base calls f) → MayLeave base calls old → Chosen c seen old image → MayLeave base (calls ++ c ∷ []) image
  chosen_left calls (call.Create file bytes) seen old image reads left step = noted calls (call.Create file bytes) old image left step
  chosen_left calls (call.Write file at bytes) seen old image reads left step = noted calls (call.Write file at bytes) old image left step
  chosen_left calls (call.Sync file) seen old image reads left step =
      let mixed = mix base (λ d. d ≡ base) calls starts_mixed file old left in
      let is : image ≡ set_file file (seen_at_last base calls file) old = fun_ext (λ f. step f ∙ ap (λ (x : Option (List ℕ)). set_file file x old f) (reads file)) in
      noted calls (call.Sync file) image image (subst (MayLeave base calls) (sym is) mixed) (refl, ap (λ (i : Image). i file) is ∙ set_at file (seen_at_last base calls file) old)
  chosen_left calls (call.Remove file) seen old image reads left step = noted calls (call.Remove file) old image left step

  pub seen_on : (calls : List Call) (c : Call) (seen next : Image) → ((f : ℕ) → seen f ≡ seen_at_last base calls f) → ((f : ℕ) → next f ≡ seen_after c seen f) → (f : ℕ) → next f ≡ seen_at_last base (calls ++ c ∷ []) f
  seen_on calls c seen next reads is f = is f ∙ ap (λ (i : Image). seen_after c i f) (fun_ext reads) ∙ ap (λ (i : Image). i f) (sym (seen-push base calls c))

-- fewer bytes leave no more than more bytes
torn_fewer : (at m n : ℕ) (old new : List ℕ) → m ≤ n → TornBytes at m old new → TornBytes at n old new
torn_fewer at m n old new le torn =
    let far : (xs : List ℕ) → drop (at + n) xs ≡ drop (n - m) (drop (at + m) xs) = λ xs. sym (drop-drop (n - m) (at + m) xs ∙ ap (λ k. drop k xs) (omega (arith, le))) in
    record {
      before = torn.before;
      after = far new ∙ ap (drop (n - m)) torn.after ∙ sym (far old);
      no_shorter = torn.no_shorter;
      no_longer = omega (arith, le, torn.no_longer);
    }

torn_part : (at n : ℕ) (part : List ℕ) (file : Option (List ℕ)) → length part ≤ n → TornFile at n file (option_map (written at part) file)
torn_part at n part file le = ⊎_elim inl (λ torn. inr (torn.0, torn.1, torn.2, torn.3, torn_fewer at (length part) n torn.0 torn.1 le torn.4)) (torn_seen at part file)

-- so a part of a write, and then others, is one outcome of it
pub part_torn : (file at n : ℕ) (part : List ℕ) (old new : Image) → length part ≤ n → ((f : ℕ) → new f ≡ set_file file (option_map (written at part) (old file)) old f) → Torn file at n old new
part_torn file at n part old new le is =
    let changed = option_map (written at part) (old file) in
    (λ f not_it. is f ∙ same_but_set file changed old f not_it, subst (TornFile at n (old file)) (sym (is file ∙ set_at file changed old)) (torn_part at n part (old file) le))
