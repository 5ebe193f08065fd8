-- What is present is of the stable part or of a file.
use Rattle.std.proofs.Common.{◌≡◌, ◌∙◌, refl, sym, ap, subst, ℕ, ℤ, Bool, true, false, cond, List, [], ◌∷◌, Option, Some, None, is_eq}
use Rattle.std.specs.declared.cmp.Ordering.{Ordering}
use Rattle.std.specs.declared.cmp.Ordering.TheVariants.{Less, Equal, Greater}
use Rattle.std.specs.List.{AllByRecursion, cons_option}
use Rattle.std.specs.Prelude.{◌==◌}
use Rattle.std.specs.Ordering.{int_eq, ordering_reverse}
use Rattle.column_block.specs.declared.cell.Version.{Version}
use Rattle.flash_types.specs.Ranges.{holds}
use Rattle.flash_types.specs.declared.range.HandleRange.{HandleRange}
use Rattle.good_replica.specs.Changed.{had}
use Rattle.good_replica.specs.Trail.{DeltaFile, Puts, Clears, Step, Cleared, after_version, after_versions, after_steps, steps_on, versions_on, wrote_unless_empty}
use Rattle.delta_layer.specs.Present.{ArePresent, AreWithin}
use Rattle.column_block.specs.Order.{key_cmp}
use Rattle.column_block.proofs.Ordered.{Up, up_from_rise, each_filter, key, key_cmp_total}
use Rattle.delta_layer.proofs.Order.{at, is_at_key, had_is, none_above}
use Rattle.delta_layer.specs.Files.{FilesHave}

some_is : (x y : Version) → Some x ≡ Some y → x ≡ y
some_is x y e = cc e

eq_self : (o : Ordering) → o ≡ ordering_reverse o → is_eq o ≡ true
eq_self Less e = cc e
eq_self Equal e = refl
eq_self Greater e = cc e

module _ (P : Version → Type 0) where
  versions_have : (ts : ℕ) (o : Option Version) (vs : List Version) (v : Version) → after_versions ts o vs ≡ Some v → (o ≡ Some v → P v) → AllByRecursion P vs → P v
  versions_have ts o [] v e base all = base e
  versions_have ts o (w ∷ vs) v e base all = versions_have ts (after_version ts o w) vs v e (by (w.ts == ts)) all.1
    where
      by : (b : Bool) → cond b (Some w) o ≡ Some v → P v
      by true h = subst P (some_is w v h) all.0
      by false h = base h

  wrote : (ts : ℕ) (o : Option Version) (vs : List Version) (rest : List Step) → after_steps ts o (cons_option (wrote_unless_empty vs) rest) ≡ after_steps ts (after_versions ts o vs) rest
  wrote ts o [] rest = refl
  wrote ts o (v ∷ vs) rest = refl

  files_have : (h : ℤ) (ts : ℕ) (o : Option Version) (files : List DeltaFile) (v : Version) → after_steps ts o (steps_on h files) ≡ Some v → (o ≡ Some v → P v) → FilesHave P files → P v
  files_have h ts o [] v e base all = base e
  files_have h ts o (Puts vs ∷ files) v e base all =
      files_have h ts (after_versions ts o (versions_on h vs)) files v (sym (wrote ts o (versions_on h vs) (steps_on h files)) ∙ e)
      (λ is. versions_have ts o (versions_on h vs) v is base (each_filter P (λ (w : Version). int_eq w.handle h) vs all.0)) all.1
  files_have h ts o (Clears range ∷ files) v e base all =
      elim (holds range h) as (λ b. after_steps ts o (cons_option (cond b (Some Cleared) None) (steps_on h files)) ≡ Some v → P v) [
        | true ↦ (λ is. files_have h ts None files v is (λ none. cc none) all.1)
        | false ↦ (λ is. files_have h ts o files v is base all.1)
      ] e

  all_at : (range : HandleRange) (vs : List Version) → Up vs → AreWithin range vs → ((h : ℤ) (ts : ℕ) (v : Version) → holds range h ≡ true → at h ts vs ≡ Some v → P v) → AllByRecursion P vs
  all_at range [] up within each = tt
  all_at range (v ∷ vs) up within each = (
    each v.handle v.ts v within.0 (ap (λ b. cond b (Some v) (at v.handle v.ts vs)) (itself v)),
    all_at range vs up.1 within.1 (λ h ts w held e. each h ts w held (by h ts w e (is_at_key h ts v) refl)),
  )
    where
      itself : (v : Version) → is_at_key v.handle v.ts v ≡ true
      itself v = eq_self (key_cmp (key v) (key v)) (key_cmp_total.antisymm (key v) (key v))

      by : (h : ℤ) (ts : ℕ) (w : Version) → at h ts vs ≡ Some w → (b : Bool) → is_at_key h ts v ≡ b → cond b (Some v) (at h ts vs) ≡ Some w
      by h ts w e true is = cc (sym (none_above h ts v vs is up.0) ∙ e)
      by h ts w e false is = e

  -- so it is such if each of the stable part and of the files is
  pub present_all : (range : HandleRange) (stable : List Version) (files : List DeltaFile) (versions : List Version) → ArePresent range stable files versions → AllByRecursion P stable → FilesHave P files → AllByRecursion P versions
  present_all range stable files versions are old new = all_at range versions up are.within (λ h ts v held e.
      files_have h ts (had h stable ts) files v (sym (are.here h ts held) ∙ had_is h ts versions up ∙ e)
      (λ is. versions_have ts None (versions_on h stable) v is (λ none. cc none) (each_filter P (λ (w : Version). int_eq w.handle h) stable old)) new)
    where
      up : Up versions
      up = up_from_rise versions are.rise
