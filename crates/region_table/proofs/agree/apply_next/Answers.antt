use Rattle.std.proofs.Common.{◌≡◌, ◌∙◌, sym, ap, subst, ℕ, ◌+◌, Bool, true, false, true≢false}
use Rattle.std.proofs.lemmas.Result.{IfOk-weaker}
use Rattle.committed_log.specs.Applied.{IsClosed, is_ready, with_position}
use Rattle.region_table.specs.Agreeing.{below}
use Rattle.region_table.specs.Counting.{applied_in}
use Rattle.region_table.specs.Table.{IsTableAt}
use Rattle.region_table.proofs.Agreeing.{still_below, more_below, ready_below, position_is}
use Rattle.region_table.proofs.agree.apply_next.Goals as goal

pub returns-then-not-is_applied-clause-yes : goal.returns-then-not-is_applied-clause-yes
returns-then-not-is_applied-clause-yes c = λ _.
    let A = applied_in c.args.logs.now c.args.regions.now.entries in
    let out : A c.args.position ≡ false = sym c.is_applied.ensures ∙ c.if-not-is_applied.true in
    subst (λ (B : ℕ → Bool). IsTableAt c.args.logs.now B c.args.table.now) (still_below A c.args.position out) c.requires.before

pub returns-in-Ok-clause-yes : goal.returns-in-Ok-clause-yes
returns-in-Ok-clause-yes c =
    let log = c.args.logs.now in
    let p = c.args.position in
    let A : ℕ → Bool = applied_in log c.args.regions.now.entries in
    let in_set : A p ≡ true = sym c.is_applied.ensures ∙ c.if-not-is_applied.false in
    let there : c.in-Ok.parsed.position ≡ p = position_is log p c.in-Ok.parsed c.in-Ok.ensures in
    IfOk-weaker c.apply_parsed.result _ (λ b. b ≡ true → IsTableAt log (below (p + 1) A) c.apply_parsed.new.table)
    (λ b told yes. subst (λ (B : ℕ → Bool). IsTableAt log B c.apply_parsed.new.table) (ap (with_position (below p A)) there ∙ more_below A p in_set) (told yes (below p A) c.requires.before))
    c.apply_parsed.ensures.yes

pub returns-in-Ok-clause-no : goal.returns-in-Ok-clause-no
returns-in-Ok-clause-no c =
    let log = c.args.logs.now in
    let p = c.args.position in
    let A : ℕ → Bool = applied_in log c.args.regions.now.entries in
    let in_set : A p ≡ true = sym c.is_applied.ensures ∙ c.if-not-is_applied.false in
    let there : c.in-Ok.parsed.position ≡ p = position_is log p c.in-Ok.parsed c.in-Ok.ensures in
    IfOk-weaker c.apply_parsed.result _ (λ b. b ≡ false → IsClosed log A → ⊥)
    (λ b told no closed. true≢false (sym (ap (is_ready log (below p A)) there ∙ ready_below log A closed p in_set) ∙ told no (below p A) c.requires.before))
    c.apply_parsed.ensures.no
