-- What a new safe point keeps.
use Rattle.std.proofs.Common.{◌≡◌, ◌∙◌, inl, ℕ, ◌≤◌, true, List, [], ◌∷◌, refl, sym, ap, subst, arith}
use Rattle.std.specs.List.{AllByRecursion}
use Rattle.flash_io.specs.Crash.{LeavesOnly}
use Rattle.flash_io.specs.Image.{Image}
use Rattle.flash_io.specs.declared.disk.Disk.{Ghosts}
use Rattle.flash_io.proofs.Moments.{started}
use Rattle.replica_state.specs.Changes.{with_safe_point}
use Rattle.good_state.proofs.Raising.{raised_follows, raised_good}
use Rattle.manifest.specs.Stores.{Becomes, IsKept, has_of, has_with}
use Rattle.manifest.specs.declared.store.Manifest.{Manifest}
use Rattle.manifest_form.specs.States.{all_done}
use Rattle.manifest_form.specs.declared.state.Edit.TheVariants.{SafePoint}
use Rattle.manifest_form.specs.declared.state.State.{State}
use Rattle.replica_state.specs.Core.{Core, IsCore}
use Rattle.replica_store.specs.Naming.{is_file_in}
use Rattle.replica_store.specs.Store.{Stored, IsWhole}
use Rattle.manifest.specs.Runs.{OldOrNew}
use Rattle.replica.specs.Follows.{Follows}
use Rattle.replica.specs.Learner.{IsLearner, IsPromised, Learner, Sound}
use Rattle.replica.specs.Names.{IsRetired, Names}
use Rattle.replica.specs.declared.retired.Retired.{Retired}
use Rattle.replica.proofs.Steps.{step_done, step_failed, with_store}

module _ {D G : Type 0} where
  abbrev pub raised : Learner D G → Stored D → ℕ → Learner D G
  raised s store ts = record { store = store; core = with_safe_point ts s.core; retired = s.retired }

-- the state after the edit
abbrev pub edited : Manifest → ℕ → State
edited m ts = all_done m.state (SafePoint ts ∷ [])

module _ {D R G : Type 0} (d : Ghosts D R G) (bytes : G → List ℕ) (counts_now : (disk : D) (t : ℕ) (c : Image) → t ≤ d.moment disk → d.may_leave disk c → d.left_since disk t c) (only_now : (disk : D) (c : Image) → d.left_since disk (d.moment disk) c → d.may_leave disk c)
    (s : Learner D G) (is : IsCore s.core) (names : Names (has_of s.store.manifest) s.core) (kept : IsKept (d.may_leave s.store.disk) s.store.manifest) (whole : IsWhole d s.store) (ts : ℕ) (up : s.core.numbers.safe_point ≤ ts) where
  abbrev next : Core G
  next = with_safe_point ts s.core

  abbrev m : Manifest
  m = s.store.manifest

  names_then : Names (has_with m (edited m ts)) next
  names_then = record { table = names.table; columns = names.columns; segments = names.segments; next = names.next; high = names.high; safe_point = refl; chain = names.chain }

  here : Sound d bytes s → LeavesOnly d.moment d.left_since s.store.disk s.store.disk (IsPromised s.core)
  here sound = started d.moment d.left_since s.store.disk _ (λ c left. sound.images c (only_now s.store.disk c left))

  module _ (u : Stored D) (run : LeavesOnly d.moment d.left_since s.store.disk u.disk (OldOrNew (d.may_leave s.store.disk) m.file (has_of m) (has_with m (edited m ts))))
      (opened : u.opened_faults ≡ s.store.opened_faults) (faults : d.fault_count s.store.disk ≤ d.fault_count u.disk) where
    pub failed : u.manifest ≡ m → Follows d bytes (with_store s u) s
    failed = step_failed d bytes counts_now s s.store kept refl refl (omega arith) here (λ sound. sound.images) (λ sound. sound.named whole) next (edited m ts)
        (raised_follows s.core ts up) is.sets.committed is.numbers.high names_then (raised_good s.core ts up bytes) (λ sound. sound.counted)
        (λ sound c left. (sound.named whole c left).segments) (λ sound c left. (sound.named whole c left).regions) u run opened faults

    pub succeeded : Becomes m (edited m ts) u.manifest → IsKept (d.may_leave u.disk) u.manifest → Follows d bytes (raised s u ts) s
    succeeded becomes = step_done d bytes counts_now s s.store kept refl refl (omega arith) here (λ sound. sound.images) (λ sound. sound.named whole) next (edited m ts)
        (raised_follows s.core ts up) is.sets.committed is.numbers.high names_then (raised_good s.core ts up bytes) (λ sound. sound.counted)
        (λ sound c left. (sound.named whole c left).segments) (λ sound c left. (sound.named whole c left).regions) u run opened faults
        s.retired (λ it here. inl here) (λ file named. inl (subst (λ (st : State). is_file_in file st ≡ true) (sym becomes.state) named)) becomes

-- ---- what the manifest names then

retired_still : (m u : Manifest) (ts generation : ℕ) → Becomes m (edited m ts) u → (retired : List Retired) → AllByRecursion (IsRetired m generation) retired → AllByRecursion (IsRetired u generation) retired
retired_still m u ts generation becomes [] all = tt
retired_still m u ts generation becomes (it ∷ its) all = (
  record {
    unnamed = ap (λ (st : State). is_file_in it.file st) becomes.state ∙ all.0.unnamed;
    numbered = let less = all.0.numbered in let same : u.state.next ≡ m.state.next = ap (λ (st : State). st.next) becomes.state in omega (arith, less, same);
    before = all.0.before;
  },
  retired_still m u ts generation becomes its all.1,
)

module _ {D G : Type 0} where
  pub learner_raised : (s : Learner D G) (u : Stored D) (ts : ℕ) → IsLearner s → Becomes s.store.manifest (edited s.store.manifest ts) u.manifest → IsLearner (raised s u ts)
  learner_raised s u ts ok becomes = record {
    names = record {
      table = becomes.table ∙ ok.names.table;
      columns = becomes.columns ∙ ok.names.columns;
      segments = ap (λ (st : State). st.segments) becomes.state ∙ ok.names.segments;
      next = ap (λ (st : State). st.next) becomes.state ∙ ok.names.next;
      high = ap (λ (st : State). st.high) becomes.state ∙ ok.names.high;
      safe_point = ap (λ (st : State). st.safe_point) becomes.state;
      chain = ap (λ (st : State). st.chain) becomes.state ∙ ok.names.chain;
    };
    retired = retired_still s.store.manifest u.manifest ts s.core.numbers.generation becomes s.retired ok.retired;
  }
