-- What steps make of what was there at a timestamp.
use Rattle.std.proofs.Common.{◌≡◌, ◌∙◌, refl, sym, ap, ℕ, Bool, true, false, cond, ◌||◌, List, [], ◌∷◌, Option, Some, None, true≢false}
use Rattle.std.specs.Prelude.{◌==◌}
use Rattle.std.specs.Option.{option_or}
use Rattle.std.specs.List.{list_any}
use Rattle.column_block.specs.declared.cell.Version.{Version}
use Rattle.good_replica.specs.Trail.{Step, Cleared, Wrote, after_version, after_versions, after_steps, writes, write}
use Rattle.committed_log.proofs.Faults.{or_false}

or_assoc : {X : Type 0} (a b c : Option X) → option_or a (option_or b c) ≡ option_or (option_or a b) c
or_assoc None b c = refl
or_assoc (Some a) b c = refl

-- versions take the place of what was there, or leave it
pub versions_over : (ts : ℕ) (o : Option Version) (vs : List Version) → after_versions ts o vs ≡ option_or (after_versions ts None vs) o
versions_over ts o [] = refl
versions_over ts o (v ∷ vs) =
    versions_over ts (after_version ts o v) vs
    ∙ ap (option_or (after_versions ts None vs)) (one (v.ts == ts))
    ∙ or_assoc (after_versions ts None vs) (after_version ts None v) o
    ∙ ap (λ x. option_or x o) (sym (versions_over ts (after_version ts None v) vs))
  where
    one : (b : Bool) → cond b (Some v) o ≡ option_or (cond b (Some v) None) o
    one true = refl
    one false = refl

-- versions that aren't at the timestamp leave what was there
pub versions_pass : (ts : ℕ) (o : Option Version) (vs : List Version) → writes ts (Wrote vs) ≡ false → after_versions ts o vs ≡ o
versions_pass ts o [] e = refl
versions_pass ts o (v ∷ vs) e = by (v.ts == ts) e (versions_pass ts o vs)
  where
    by : (b : Bool) → (b || list_any (λ (v : Version). v.ts == ts) vs) ≡ false → (list_any (λ (v : Version). v.ts == ts) vs ≡ false → after_versions ts o vs ≡ o) → after_versions ts (cond b (Some v) o) vs ≡ o
    by true e rest = absurd (true≢false e)
    by false e rest = rest e

or_none : {X : Type 0} (a b : Option X) → option_or a b ≡ None → (a ≡ None) × (b ≡ None)
or_none None b e = (refl, e)
or_none (Some a) b e = cc

pub versions_none : (ts : ℕ) (vs : List Version) → after_versions ts None vs ≡ None → writes ts (Wrote vs) ≡ false
versions_none ts [] e = refl
versions_none ts (v ∷ vs) e =
    let both = or_none (after_versions ts None vs) _ (sym (versions_over ts (after_version ts None v) vs) ∙ e) in
    by (v.ts == ts) both.1 (versions_none ts vs both.0)
  where
    by : (b : Bool) → cond b (Some v) None ≡ None → list_any (λ (v : Version). v.ts == ts) vs ≡ false → (b || list_any (λ (v : Version). v.ts == ts) vs) ≡ false
    by true e rest = cc e
    by false e rest = rest

-- whether one of the steps clears
abbrev pub is_cleared : Step → Bool
is_cleared Cleared = true
is_cleared (Wrote vs) = false

abbrev pub clear : List Step → Bool
clear steps = list_any is_cleared steps

-- after a clear nothing depends on what was there
pub steps_clear : (ts : ℕ) (o : Option Version) (ss : List Step) → clear ss ≡ true → after_steps ts o ss ≡ after_steps ts None ss
steps_clear ts o [] e = absurd (true≢false (sym e))
steps_clear ts o (Cleared ∷ ss) e = refl
steps_clear ts o (Wrote vs ∷ ss) e = steps_clear ts (after_versions ts o vs) ss e ∙ sym (steps_clear ts (after_versions ts None vs) ss e)

-- steps that don't clear take the place of what was there, or leave it
pub steps_over : (ts : ℕ) (o : Option Version) (ss : List Step) → clear ss ≡ false → after_steps ts o ss ≡ option_or (after_steps ts None ss) o
steps_over ts o [] e = refl
steps_over ts o (Cleared ∷ ss) e = absurd (true≢false e)
steps_over ts o (Wrote vs ∷ ss) e =
    steps_over ts (after_versions ts o vs) ss e
    ∙ ap (option_or (after_steps ts None ss)) (versions_over ts o vs)
    ∙ or_assoc (after_steps ts None ss) (after_versions ts None vs) o
    ∙ ap (λ x. option_or x o) (sym (steps_over ts (after_versions ts None vs) ss e))

pub steps_none : (ts : ℕ) (ss : List Step) → clear ss ≡ false → after_steps ts None ss ≡ None → write ts ss ≡ false
steps_none ts [] e n = refl
steps_none ts (Cleared ∷ ss) e n = absurd (true≢false e)
steps_none ts (Wrote vs ∷ ss) e n =
    let both = or_none (after_steps ts None ss) (after_versions ts None vs) (sym (steps_over ts (after_versions ts None vs) ss e) ∙ n) in
    ap (λ b. b || write ts ss) (versions_none ts vs both.1) ∙ steps_none ts ss e both.0

-- what steps that don't write at the timestamp show was there
pub steps_pass : (ts : ℕ) (o : Option Version) (v : Version) (ss : List Step) → write ts ss ≡ false → after_steps ts o ss ≡ Some v → o ≡ Some v
steps_pass ts o v [] w e = e
steps_pass ts o v (Cleared ∷ ss) w e = cc (steps_pass ts None v ss w e)
steps_pass ts o v (Wrote vs ∷ ss) w e =
    let both = or_false (writes ts (Wrote vs)) (write ts ss) w in
    sym (versions_pass ts o vs both.0) ∙ steps_pass ts (after_versions ts o vs) v ss both.1 e

-- what is shown over nothing is shown over anything
pub steps_shown : (ts : ℕ) (o : Option Version) (v : Version) (ss : List Step) → after_steps ts None ss ≡ Some v → after_steps ts o ss ≡ Some v
steps_shown ts o v ss e = by (clear ss) refl
  where
    by : (b : Bool) → clear ss ≡ b → after_steps ts o ss ≡ Some v
    by true is = steps_clear ts o ss is ∙ e
    by false is = steps_over ts o ss is ∙ ap (λ x. option_or x o) e
