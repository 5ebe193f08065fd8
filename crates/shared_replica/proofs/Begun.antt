-- What the answer of a begun work says.
use Rattle.std.proofs.Common.{◌≡◌, ◌∙◌, Bool, true, false, Option, Some, None, IfSome, ap, refl, subst, sym}
use Rattle.std.specs.Prelude.{is_some}
use Rattle.std.specs.Option.{IsNone}
use Rattle.delta_layer.specs.declared.built.Job.{Job}
use Rattle.segment_work.specs.Jobs.{can_begin}
use Rattle.replica_state.specs.Core.{Core}
use Rattle.replica_state.specs.Works.{BegunTask, task_of}

pub none_of : {A : Type 0} (o : Option A) → ((x : A) → o ≡ Some x → ⊥) → IsNone o
none_of None other = refl
none_of (Some x) other = absurd (other x refl)

module _ {G : Type 0} (job : Job) (s t : Core G) (same : s ≡ t) (found : Option (BegunTask G)) (can : is_some found ≡ can_begin job s.slots) where
  can_now : is_some found ≡ can_begin job t.slots
  can_now = subst (λ (core : Core G). is_some found ≡ can_begin job core.slots) same can

  pub begun_there : (task : BegunTask G) → found ≡ Some task → can_begin job t.slots ≡ true
  begun_there task is = sym can_now ∙ ap (λ (o : Option (BegunTask G)). is_some o) is

  pub begun_as : (task : BegunTask G) → found ≡ Some task → IfSome found (λ b. b ≡ task_of job s) → task ≡ task_of job t
  begun_as task is it = subst (λ (core : Core G). task ≡ task_of job core) same (subst (λ (o : Option (BegunTask G)). IfSome o (λ b. b ≡ task_of job s)) is it)

  pub not_begun : found ≡ None → can_begin job t.slots ≡ false
  not_begun is = sym can_now ∙ ap (λ (o : Option (BegunTask G)). is_some o) is
