use Rattle.std.proofs.Common.{◌≡◌, ◌∙◌, sym, ap, w64, inr, false, None, option_copied}
use Rattle.std.proofs.lemmas.Int.{to_z-of_z}
use Rattle.committed_log.specs.Admission.{commit_fault}
use Rattle.committed_log.specs.Store.{value, last_commit, is_repeated}
use Rattle.committed_log.proofs.LastCommits.{is_newer, has_value}
use Rattle.committed_log.proofs.FamilySteps.{returns_last}
use Rattle.committed_log.proofs.StoreSteps.{holds_commit}
use Rattle.committed_log.proofs.admit_ops.admit_commit.Goals as goal

pub returns-in-Some-clause-err : goal.returns-in-Some-clause-err
returns-in-Some-clause-err g c =
    let last : c.last_of-last.result ≡ last_commit g.from.store.commits c.args.handle = (simp (to_z-of_z w64 _ c.ranges.handle) at c.last_of-last.ensures) ∙ c.requires.0.last c.args.handle in
    let long : option_copied c.long_value-long.result ≡ value g.from.store.values c.args.handle c.args.commit.start = (simp (to_z-of_z w64 _ c.ranges.handle) at c.long_value-long.ensures) ∙ c.requires.0.values c.args.handle c.args.commit.start in
    inr (sym (c.in-Some.ensures ∙ (λ i. commit_fault c.args.schema.now (last i) (long i) c.args.op c.args.commit.ts c.args.commit.start c.args.commit.gone (option_copied c.args.short))))

pub returns-then-repeats_commit-clause-ok : goal.returns-then-repeats_commit-clause-ok
returns-then-repeats_commit-clause-ok g c =
    let last : c.last_of-last.result ≡ last_commit g.from.store.commits c.args.handle = (simp (to_z-of_z w64 _ c.ranges.handle) at c.last_of-last.ensures) ∙ c.requires.0.last c.args.handle in
    let long : option_copied c.long_value-long.result ≡ value g.from.store.values c.args.handle c.args.commit.start = (simp (to_z-of_z w64 _ c.ranges.handle) at c.long_value-long.ensures) ∙ c.requires.0.values c.args.handle c.args.commit.start in
    sym (c.in_default.ensures ∙ (λ i. commit_fault c.args.schema.now (last i) (long i) c.args.op c.args.commit.ts c.args.commit.start c.args.commit.gone (option_copied c.args.short)))

pub returns-then-repeats_commit-clause-repeated : goal.returns-then-repeats_commit-clause-repeated
returns-then-repeats_commit-clause-repeated g c =
    let last : c.last_of-last.result ≡ last_commit g.from.store.commits c.args.handle = (simp (to_z-of_z w64 _ c.ranges.handle) at c.last_of-last.ensures) ∙ c.requires.0.last c.args.handle in
    sym c.if-repeats_commit.true ∙ c.repeats_commit.ensures ∙ ap (λ l. is_repeated l c.args.commit.ts c.args.commit.start c.args.commit.gone) last

pub returns-in-Ok-clause-holds : goal.returns-in-Ok-clause-holds
returns-in-Ok-clause-holds g c =
    let last : c.last_of-last.result ≡ last_commit g.from.store.commits c.args.handle = (simp (to_z-of_z w64 _ c.ranges.handle) at c.last_of-last.ensures) ∙ c.requires.0.last c.args.handle in
    let long : option_copied c.long_value-long.result ≡ value g.from.store.values c.args.handle c.args.commit.start = (simp (to_z-of_z w64 _ c.ranges.handle) at c.long_value-long.ensures) ∙ c.requires.0.values c.args.handle c.args.commit.start in
    let fresh : is_repeated (last_commit g.from.store.commits c.args.handle) c.args.commit.ts c.args.commit.start c.args.commit.gone ≡ false = ap (λ l. is_repeated l c.args.commit.ts c.args.commit.start c.args.commit.gone) (sym last) ∙ sym c.repeats_commit.ensures ∙ c.if-repeats_commit.false in
    let none : commit_fault c.args.schema.now (last_commit g.from.store.commits c.args.handle) (value g.from.store.values c.args.handle c.args.commit.start) c.args.op c.args.commit.ts c.args.commit.start c.args.commit.gone (option_copied c.args.short) ≡ None = sym (c.in_default.ensures ∙ (λ i. commit_fault c.args.schema.now (last i) (long i) c.args.op c.args.commit.ts c.args.commit.start c.args.commit.gone (option_copied c.args.short))) in
    holds_commit c.args.families.now c.put_last.new.families g.from.store c.requires.0 c.args.handle c.args.commit (option_copied c.args.short) c.args.op (simp (to_z-of_z w64 _ c.ranges.handle) at c.in-Ok.ensures.ok) fresh
    (is_newer c.args.schema.now (last_commit g.from.store.commits c.args.handle) (value g.from.store.values c.args.handle c.args.commit.start) c.args.op c.args.commit.ts c.args.commit.start c.args.commit.gone (option_copied c.args.short) none fresh)
    (has_value c.args.schema.now (last_commit g.from.store.commits c.args.handle) (value g.from.store.values c.args.handle c.args.commit.start) c.args.op c.args.commit.ts c.args.commit.start c.args.commit.gone (option_copied c.args.short) none fresh)

pub returns-in-Ok-clause-returns : goal.returns-in-Ok-clause-returns
returns-in-Ok-clause-returns g c = returns_last c.args.families.now c.put_last.new.families g.from.before c.args.handle c.args.commit (simp (to_z-of_z w64 _ c.ranges.handle) at c.in-Ok.ensures.ok) c.requires.1
