-- What one call more, or none, does to what a crash may leave.
use mathlib.Core.Path.{transport, fun_ext}
use Rattle.std.proofs.Common.{◌≡◌, ◌≢◌, ◌⊎◌, inl, inr, ⊎_elim, ℕ, ◌+◌, ◌≤◌, Bool, true, false, List, [], ◌∷◌, ◌++◌, length, take, drop, Option, Some, None, refl, sym, ◌∙◌, ap, subst, arith, Vec}
use Rattle.std.proofs.lemmas.Grind.{common_steps}
use Rattle.std.proofs.lemmas.Bool.{cases_eq}
use Rattle.flash_io.specs.Image.{Image, SameBut, Holds, IsThere}
use Rattle.flash_io.specs.Crash.{Created, Torn, Removed, Follows, Allows, NoNew, SyncedTo, KeepsSynced, Elapses}
use Rattle.flash_io.proofs.Moments.{same_but_refl}
use Rattle.flash_mem.specs.declared.history.Call.{Call}
use Rattle.flash_mem.specs.declared.history.Call.TheVariants as call
use Rattle.std.specs.Option.{option_map}
use Rattle.flash_mem.specs.Files.{set_file, written}
use Rattle.flash_mem.specs.History.{seen_after, seen_at_last, Step, IsKept, IsNoted}
use Rattle.std.specs.declared.alloc.Global.{Global}
use Rattle.flash_mem.specs.Laws.{MayLeave, LeftSince, IsSettled, Leaves-push, seen-push, elapses_same, elapses_push, same_but_set, set_at}

module _ (base : Image) where
  -- nothing was noted
  pub follows_same : (step : Image → Image → Type 0) → ((c : Image) → step c c) → (calls later : List Call) → later ≡ calls → Follows step (MayLeave base calls) (MayLeave base later)
  follows_same step here calls later same c left = (c, subst (λ (l : List Call). MayLeave base l c) same left, here c)

  pub elapses_none : (calls later : List Call) → later ≡ calls → Elapses (length calls) (length later) (LeftSince base calls) (LeftSince base later) (MayLeave base later)
  elapses_none calls later same = subst (λ (l : List Call). Elapses (length calls) (length l) (LeftSince base calls) (LeftSince base l) (MayLeave base l)) (sym same) (elapses_same base calls)

  -- a call was noted
  pub before_it : (calls later : List Call) (c : Call) → later ≡ calls ++ c ∷ [] → (image : Image) → MayLeave base later image → (old : Image) × MayLeave base calls old × Step c (seen_at_last base calls) old image
  before_it calls later c same image left = transport (Leaves-push base (λ d. d ≡ base) calls c image) (subst (λ (l : List Call). MayLeave base l image) same left)

  -- and what its step allows is left
  pub after_it : (calls later : List Call) (c : Call) → later ≡ calls ++ c ∷ [] → (old image : Image) → MayLeave base calls old → Step c (seen_at_last base calls) old image → MayLeave base later image
  after_it calls later c same old image left step = subst (λ (l : List Call). MayLeave base l image) (sym same) (transport (sym (Leaves-push base (λ d. d ≡ base) calls c image)) (old, left, step))

  pub elapses_one : (calls later : List Call) (c : Call) → later ≡ calls ++ c ∷ [] → Elapses (length calls) (length later) (LeftSince base calls) (LeftSince base later) (MayLeave base later)
  elapses_one calls later c same = subst (λ (l : List Call). Elapses (length calls) (length l) (LeftSince base calls) (LeftSince base l) (MayLeave base l)) (sym same) (elapses_push base calls c)

  -- what a read gives afterwards
  pub reads_one : (calls later : List Call) (c : Call) → later ≡ calls ++ c ∷ [] → (files : Image) → ((f : ℕ) → files f ≡ seen_after c (seen_at_last base calls) f) → (f : ℕ) → files f ≡ seen_at_last base later f
  reads_one calls later c same files is f = is f ∙ ap (λ (i : Image). i f) (sym (ap (seen_at_last base) same ∙ seen-push base calls c))

  -- the other files that were on the disk still are
  pub settled_one : (calls later : List Call) (c : Call) → later ≡ calls ++ c ∷ [] → (file : ℕ) → ((old image : Image) → Step c (seen_at_last base calls) old image → SameBut file old image)
      → (unsynced after : ℕ → Bool) (files now : Image) → IsSettled base calls unsynced files → SameBut file files now
      → ((f : ℕ) → f ≢ file → after f ≡ false → unsynced f ≡ false)
      → ((bytes : List ℕ) (image : Image) → after file ≡ false → Holds now file bytes → MayLeave base later image → Holds image file bytes)
      → IsSettled base later after now
  settled_one calls later c same file others unsynced after files now settled same_files fewer this f bytes image clean holds left = ⊎_elim at_it elsewhere (cases_eq f file)
    where
      at_it : f ≡ file → image f ≡ Some bytes
      at_it is = subst (λ (x : ℕ). image x ≡ Some bytes) (sym is) (this bytes image (subst (λ (x : ℕ). after x ≡ false) is clean) (subst (λ (x : ℕ). now x ≡ Some bytes) is holds) left)

      elsewhere : f ≢ file → image f ≡ Some bytes
      elsewhere not_it =
          let from = before_it calls later c same image left in
          others from.0 image from.2 f not_it ∙ settled f bytes from.0 (fewer f not_it clean) (sym (same_files f not_it) ∙ holds) from.1

  pub settled_none : (calls later : List Call) → later ≡ calls → (unsynced after : ℕ → Bool) (files now : Image) → IsSettled base calls unsynced files → ((f : ℕ) → now f ≡ files f) → ((f : ℕ) → after f ≡ false → unsynced f ≡ false) → IsSettled base later after now
  settled_none calls later same unsynced after files now settled same_files fewer f bytes image clean holds left =
      settled f bytes image (fewer f clean) (sym (same_files f) ∙ holds) (subst (λ (l : List Call). MayLeave base l image) same left)

-- a read through a set file
pub set_reads : (file : ℕ) (content : Option (List ℕ)) (files seen now : Image) → ((f : ℕ) → files f ≡ seen f) → ((f : ℕ) → now f ≡ set_file file content files f) → (f : ℕ) → now f ≡ set_file file content seen f
set_reads file content files seen now reads is f = is f ∙ grind (arith, common_steps, reads f)

pub set_others : (file : ℕ) (content : Option (List ℕ)) (files now : Image) → ((f : ℕ) → now f ≡ set_file file content files f) → SameBut file files now
set_others file content files now is f not_it = is f ∙ same_but_set file content files f not_it

-- a creation or a write: either nothing was noted, or the call was
module _ (base : Image) (c : Call) (file : ℕ) (calls later : List Call) (files now : Image) (unsynced after : ℕ → Bool) where
  pub put_reads : ((f : ℕ) → files f ≡ seen_at_last base calls f) → IsKept calls later files now ⊎ IsNoted c file calls later files now after → (f : ℕ) → now f ≡ seen_at_last base later f
  put_reads reads (inl kept) f = kept.files_kept f ∙ reads f ∙ ap (λ (l : List Call). seen_at_last base l f) (sym kept.calls_kept)
  put_reads reads (inr noted) f = reads_one base calls later c noted.calls_noted now (λ f. noted.files_set f ∙ ap (λ (i : Image). seen_after c i f) (fun_ext reads)) f

  pub put_settled : ((old image : Image) → Step c (seen_at_last base calls) old image → SameBut file old image) → ((image : Image) → SameBut file image (seen_after c image)) → IsSettled base calls unsynced files
      → ((f : ℕ) → after f ≡ false → unsynced f ≡ false) → IsKept calls later files now ⊎ IsNoted c file calls later files now after → IsSettled base later after now
  put_settled others seen_others settled fewer (inl kept) = settled_none base calls later kept.calls_kept unsynced after files now settled kept.files_kept fewer
  put_settled others seen_others settled fewer (inr noted) = settled_one base calls later c noted.calls_noted file others unsynced after files now settled
      (λ f not_it. noted.files_set f ∙ seen_others files f not_it)
      (λ f not_it clean. fewer f clean) (λ bytes image clean holds left. absurd (clash (sym noted.to_sync ∙ clean)))
    where
      clash : true ≡ false → ⊥
      clash e = cc

pub create_others : (file : ℕ) (bytes : Vec ℕ Global) (image : Image) → SameBut file image (seen_after (call.Create file bytes) image)
create_others file bytes image = same_but_set file (Some bytes.items) image

pub write_others : (file at : ℕ) (bytes : Vec ℕ Global) (image : Image) → SameBut file image (seen_after (call.Write file at bytes) image)
write_others file at bytes image = same_but_set file (option_map (written at bytes.items) (image file)) image

-- the outcomes after a creation
pub create_crash : (base : Image) (file : ℕ) (bytes : Vec ℕ Global) (calls later : List Call) → later ≡ calls ++ call.Create file bytes ∷ [] → Follows (Created file (length bytes.items)) (MayLeave base calls) (MayLeave base later)
create_crash base file bytes calls later same image left = before_it base calls later (call.Create file bytes) same image left

pub create_model : (base : Image) (file : ℕ) (bytes : Vec ℕ Global) (calls later : List Call) → later ≡ calls ++ call.Create file bytes ∷ [] → Allows (Created file (length bytes.items)) (MayLeave base calls) (MayLeave base later)
create_model base file bytes calls later same old image left step = after_it base calls later (call.Create file bytes) same old image left step

pub write_model : (base : Image) (file at : ℕ) (bytes : Vec ℕ Global) (calls later : List Call) → later ≡ calls ++ call.Write file at bytes ∷ [] → Allows (Torn file at (length bytes.items)) (MayLeave base calls) (MayLeave base later)
write_model base file at bytes calls later same old image left step = after_it base calls later (call.Write file at bytes) same old image left step

pub created_same : (file n : ℕ) (image : Image) → Created file n image image
created_same file n image = (same_but_refl file image, inr (inl refl))

pub torn_same : (file at n : ℕ) (image : Image) → Torn file at n image image
torn_same file at n image = (same_but_refl file image, inl refl)

pub removed_same : (file : ℕ) (image : Image) → Removed file image image
removed_same file image = (same_but_refl file image, inr refl)

pub write_crash : (base : Image) (file at : ℕ) (bytes : Vec ℕ Global) (calls later : List Call) → later ≡ calls ++ call.Write file at bytes ∷ [] → Follows (Torn file at (length bytes.items)) (MayLeave base calls) (MayLeave base later)
write_crash base file at bytes calls later same image left = before_it base calls later (call.Write file at bytes) same image left

-- a sync: it is noted where the file has changed since the last one
module _ (base : Image) (file : ℕ) (calls later : List Call) (files : Image) (unsynced after : ℕ → Bool) (reads : (f : ℕ) → files f ≡ seen_at_last base calls f) (settled : IsSettled base calls unsynced files)
    (noted : unsynced file ≡ true → later ≡ calls ++ call.Sync file ∷ []) (none : unsynced file ≡ false → later ≡ calls) (rest : (f : ℕ) → f ≢ file → after f ≡ unsynced f) where
  changed_or_not : (unsynced file ≡ true) ⊎ (unsynced file ≡ false)
  changed_or_not = cases (unsynced file)
    where
      cases : (b : Bool) → (b ≡ true) ⊎ (b ≡ false)
      cases true = inl refl
      cases false = inr refl

  pub sync_reads : (f : ℕ) → files f ≡ seen_at_last base later f
  sync_reads = ⊎_elim (λ changed. reads_one base calls later (call.Sync file) (noted changed) files reads) (λ unchanged f. reads f ∙ ap (λ (l : List Call). seen_at_last base l f) (sym (none unchanged))) changed_or_not

  synced : unsynced file ≡ true → (image : Image) → MayLeave base later image → image file ≡ files file
  synced changed image left =
      let from = before_it base calls later (call.Sync file) (noted changed) image left in
      ap (λ (i : Image). i file) from.2.0 ∙ from.2.1 ∙ sym (reads file)

  pub sync_settled : IsSettled base later after files
  sync_settled = ⊎_elim
      (λ changed. settled_one base calls later (call.Sync file) (noted changed) file (λ old image step other not_it. ap (λ (i : Image). i other) step.0) unsynced after files files settled (λ f not_it. refl)
      (λ f not_it clean. sym (rest f not_it) ∙ clean) (λ bytes image clean holds left. synced changed image left ∙ holds))
      (λ unchanged. settled_none base calls later (none unchanged) unsynced after files files settled (λ f. refl)
      (λ f clean. ⊎_elim (λ is. ap unsynced is ∙ unchanged) (λ not_it. sym (rest f not_it) ∙ clean) (cases_eq f file)))
      changed_or_not

  pub sync_durable : IsThere files file → SyncedTo file files (MayLeave base later)
  sync_durable there image left = ⊎_elim (λ changed. synced changed image left)
      (λ unchanged. settled file there.0 image unchanged there.1 (subst (λ (l : List Call). MayLeave base l image) (none unchanged) left) ∙ sym there.1) changed_or_not

  pub sync_crash : NoNew (MayLeave base calls) (MayLeave base later)
  sync_crash image left = ⊎_elim
      (λ changed. let from = before_it base calls later (call.Sync file) (noted changed) image left in subst (MayLeave base calls) (sym from.2.0) from.1)
      (λ unchanged. subst (λ (l : List Call). MayLeave base l image) (none unchanged) left) changed_or_not

  pub sync_model : KeepsSynced file files (MayLeave base calls) (MayLeave base later)
  sync_model image left is = ⊎_elim
      (λ changed. after_it base calls later (call.Sync file) (noted changed) image image left (refl, is ∙ reads file))
      (λ unchanged. subst (λ (l : List Call). MayLeave base l image) (sym (none unchanged)) left) changed_or_not

  pub sync_time : Elapses (length calls) (length later) (LeftSince base calls) (LeftSince base later) (MayLeave base later)
  sync_time = ⊎_elim (λ changed. elapses_one base calls later (call.Sync file) (noted changed)) (λ unchanged. elapses_none base calls later (none unchanged)) changed_or_not

-- a removal
module _ (base : Image) (file : ℕ) (calls later : List Call) (files now : Image) (unsynced after : ℕ → Bool) (noted : later ≡ calls ++ call.Remove file ∷ []) (gone : (f : ℕ) → now f ≡ set_file file None files f) where
  pub remove_reads : ((f : ℕ) → files f ≡ seen_at_last base calls f) → (f : ℕ) → now f ≡ seen_at_last base later f
  remove_reads reads = reads_one base calls later (call.Remove file) noted now (set_reads file None files (seen_at_last base calls) now reads gone)

  pub remove_settled : IsSettled base calls unsynced files → ((f : ℕ) → f ≢ file → after f ≡ unsynced f) → IsSettled base later after now
  remove_settled settled rest = settled_one base calls later (call.Remove file) noted file (λ old image step. step.0) unsynced after files now settled (set_others file None files now gone)
      (λ f not_it clean. sym (rest f not_it) ∙ clean)
      (λ bytes image clean holds left. absurd (clash (sym (gone file ∙ set_at file None files) ∙ holds)))
    where
      clash : {bytes : List ℕ} → None ≡ Some bytes → ⊥
      clash e = cc

  pub remove_crash : Follows (Removed file) (MayLeave base calls) (MayLeave base later)
  remove_crash image left = before_it base calls later (call.Remove file) noted image left

  pub remove_model : Allows (Removed file) (MayLeave base calls) (MayLeave base later)
  remove_model old image left step = after_it base calls later (call.Remove file) noted old image left step
