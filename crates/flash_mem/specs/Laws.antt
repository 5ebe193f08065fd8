-- What a list of calls leaves, one call more or none.
use Rattle.std.specs.Prelude.{◌≡◌, ◌⊎◌, ◌≤◌, ◌<◌, ◌-◌, ℕ, ◌+◌, Bool, false, List, [], ◌∷◌, ◌++◌, length, take, drop, Option, Some, None}
use Rattle.std.specs.Option.{option_map}
use mathlib.Core.Path.{fun_ext}
use Rattle.std.proofs.Common.{inl, inr, ⊎_elim, refl, sym, ◌∙◌, ap, subst, arith, length-append, length-take, length-drop, append_assoc}
use Rattle.std.proofs.lemmas.List.{take_all, take-append-le, take_at, drop_at}
use Rattle.std.proofs.lemmas.Bool.Decides.{leb_tells}
use Rattle.std.proofs.lemmas.Grind.{common_steps}
use Rattle.flash_io.specs.Image.{Image, SameBut, Holds}
use Rattle.flash_io.specs.Crash.{TornFile, TornBytes, Elapses}
use Rattle.flash_mem.specs.declared.history.Call.{Call}
use Rattle.flash_mem.specs.declared.history.Call.TheVariants as call
use Rattle.flash_mem.specs.Files.{set_file, written}
use Rattle.flash_mem.specs.History.{seen_after, seen_at_last, Step, Leaves}

le_or_lt : (a b : ℕ) → (a ≤ b) ⊎ (b < a)
le_or_lt a b = ⊎_elim (λ p. inl p.1) (λ p. inr p.1) (leb_tells a b)

pub seen-push : (seen : Image) (calls : List Call) (c : Call) → seen_at_last seen (calls ++ c ∷ []) ≡ seen_after c (seen_at_last seen calls)
seen-push seen [] c = refl
seen-push seen (d ∷ calls) c = seen-push (seen_after d seen) calls c

-- the outcomes after one call more
pub Leaves-push : (seen : Image) (P : Image → Type 0) (calls : List Call) (c : Call) (image : Image)
    → Leaves seen P (calls ++ c ∷ []) image ≡ ((old : Image) × Leaves seen P calls old × Step c (seen_at_last seen calls) old image)
Leaves-push seen P [] c image = refl
Leaves-push seen P (d ∷ calls) c image = Leaves-push (seen_after d seen) (λ new. (old : Image) × P old × Step d seen old new) calls c image

-- one file is set, and no other
pub same_but_set : (file : ℕ) (content : Option (List ℕ)) (image : Image) → SameBut file image (set_file file content image)
same_but_set file content image other not_it = grind (arith, common_steps)

pub set_at : (file : ℕ) (content : Option (List ℕ)) (image : Image) → set_file file content image file ≡ content
set_at file content image = grind (arith, common_steps)

-- what is written whole is one outcome of a write
pub written_torn : (at : ℕ) (bytes content : List ℕ) → at ≤ length content → TornBytes at (length bytes) content (take at content ++ bytes ++ drop (at + length bytes) content)
written_torn at bytes content fits =
    let new = take at content ++ bytes ++ drop (at + length bytes) content in
    let front : length (take at content) ≡ at = simp length-take (omega arith) in
    let size : length new ≡ at + length bytes + (length content - (at + length bytes)) = simp (length-append, length-take, length-drop) (omega arith) in
    let two : length (take at content ++ bytes) ≡ at + length bytes = simp (length-append, length-take) (omega arith) in
    record {
      before = ap (take at) (append_assoc (take at content) bytes (drop (at + length bytes) content)) ∙ take_at (take at content) (bytes ++ drop (at + length bytes) content) at front;
      after = drop_at (take at content ++ bytes) (drop (at + length bytes) content) (at + length bytes) two;
      no_shorter = omega (arith, size);
      no_longer = omega (arith, size);
    }

pub torn_seen : (at : ℕ) (bytes : List ℕ) (file : Option (List ℕ)) → TornFile at (length bytes) file (option_map (written at bytes) file)
torn_seen at bytes None = inl refl
torn_seen at bytes (Some content) = ⊎_elim (λ fits. inr (content, take at content ++ bytes ++ drop (at + length bytes) content, refl, ap Some (whole fits), written_torn at bytes content fits)) (λ none. inl (ap Some (kept none))) (le_or_lt at (length content))
  where
    whole : at ≤ length content → written at bytes content ≡ take at content ++ bytes ++ drop (at + length bytes) content
    whole fits = grind (arith, common_steps)

    kept : length content < at → written at bytes content ≡ content
    kept none = grind (arith, common_steps)

-- a disk as it reads is one of its outcomes
pub step_seen : (c : Call) (seen : Image) → Step c seen seen (seen_after c seen)
step_seen (call.Create file bytes) seen = (same_but_set file (Some bytes.items) seen, inr (inr (bytes.items, set_at file (Some bytes.items) seen, omega arith)))
step_seen (call.Write file at bytes) seen =
    let changed = option_map (written at bytes.items) (seen file) in
    (same_but_set file changed seen, subst (λ (f : Option (List ℕ)). TornFile at (length bytes.items) (seen file) f) (sym (set_at file changed seen)) (torn_seen at bytes.items (seen file)))
step_seen (call.Sync file) seen = (refl, refl)
step_seen (call.Remove file) seen = (same_but_set file None seen, inl (set_at file None seen))

pub leaves_seen : (seen : Image) (P : Image → Type 0) (calls : List Call) → P seen → Leaves seen P calls (seen_at_last seen calls)
leaves_seen seen P [] here = here
leaves_seen seen P (c ∷ calls) here = leaves_seen (seen_after c seen) (λ new. (old : Image) × P old × Step c seen old new) calls (seen, here, step_seen c seen)

-- what a crash at some moment since t might have left
abbrev pub LeftSince : Image → List Call → ℕ → Image → Type 0
LeftSince base calls t image = (k : ℕ) × (t ≤ k) × (k ≤ length calls) × Leaves base (λ c. c ≡ base) (take k calls) image

abbrev pub MayLeave : Image → List Call → Image → Type 0
MayLeave base calls = Leaves base (λ c. c ≡ base) calls

pub counts : (base : Image) (calls : List Call) (t : ℕ) (image : Image) → t ≤ length calls → MayLeave base calls image → LeftSince base calls t image
counts base calls t image le now = (length calls, le, omega arith, subst (λ (l : List Call). Leaves base (λ c. c ≡ base) l image) (sym (take_all (length calls) calls (omega arith))) now)

pub only : (base : Image) (calls : List Call) (image : Image) → LeftSince base calls (length calls) image → MayLeave base calls image
only base calls image (k, low, high, left) = subst (λ (l : List Call). Leaves base (λ c. c ≡ base) l image) (take_all k calls low) left

pub elapses_same : (base : Image) (calls : List Call) → Elapses (length calls) (length calls) (LeftSince base calls) (LeftSince base calls) (MayLeave base calls)
elapses_same base calls = record { later = omega arith; nothing_else = λ t c le left. inl left; keeps = λ t c le left. left }

pub elapses_push : (base : Image) (calls : List Call) (c : Call) → Elapses (length calls) (length (calls ++ c ∷ [])) (LeftSince base calls) (LeftSince base (calls ++ c ∷ [])) (MayLeave base (calls ++ c ∷ []))
elapses_push base calls c = record {
  later = omega (arith, length-append calls (c ∷ []));
  nothing_else = λ t image le left. was t image left (le_or_lt left.0 (length calls));
  keeps = λ t image le left. (left.0, left.1, omega (arith, left.2, length-append calls (c ∷ [])), subst (λ (l : List Call). Leaves base (λ d. d ≡ base) l image) (sym (take-append-le left.0 calls (c ∷ []) left.2)) left.3);
}
  where
    was : (t : ℕ) (image : Image) (left : LeftSince base (calls ++ c ∷ []) t image) → (left.0 ≤ length calls) ⊎ (length calls < left.0) → LeftSince base calls t image ⊎ MayLeave base (calls ++ c ∷ []) image
    was t image left (inl earlier) = inl (left.0, left.1, earlier, subst (λ (l : List Call). Leaves base (λ d. d ≡ base) l image) (take-append-le left.0 calls (c ∷ []) earlier) left.3)
    was t image left (inr now) = inr (subst (λ (l : List Call). Leaves base (λ d. d ≡ base) l image) (take_all left.0 (calls ++ c ∷ []) (omega (arith, now, length-append calls (c ∷ [])))) left.3)

-- each file that isn't among these is on the disk as it reads
abbrev pub IsSettled : Image → List Call → (ℕ → Bool) → Image → Type 0
IsSettled base calls unsynced files = (f : ℕ) (bytes : List ℕ) (c : Image) → unsynced f ≡ false → Holds files f bytes → MayLeave base calls c → Holds c f bytes

pub leaves_files_of : (base : Image) (calls : List Call) (files : Image) → ((f : ℕ) → files f ≡ seen_at_last base calls f) → MayLeave base calls files
leaves_files_of base calls files reads = subst (MayLeave base calls) (sym (fun_ext reads)) (leaves_seen base (λ c. c ≡ base) calls refl)

pub earlier : (base : Image) (calls : List Call) (t u : ℕ) (image : Image) → t ≤ u → LeftSince base calls u image → LeftSince base calls t image
earlier base calls t u image le (k, low, high, left) = (k, omega arith, high, left)
