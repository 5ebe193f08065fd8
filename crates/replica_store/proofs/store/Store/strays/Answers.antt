use Rattle.std.proofs.Common.{◌∙◌, ℕ, List, sym, subst}
use Rattle.std.specs.List.{Contains}
use Rattle.std.specs.List.Sorted.{IsStrictlyIncreasing}
use Rattle.std.proofs.lemmas.List.Kept.{IsStrictlyIncreasing-filter}
use Rattle.replica_store.specs.Naming.{is_stray}
use Rattle.replica_store.proofs.Others.{filter_has, in_filter, same_strays}
use Rattle.replica_store.proofs.store.Store.strays.Goals as goal

pub returns-clause-rising : goal.returns-clause-rising
returns-clause-rising g c =
    subst IsStrictlyIncreasing (sym c.in_ok-strays.ensures)
    (IsStrictlyIncreasing-filter (is_stray c.file.result c.state.result.now c.args.retired.now) c.in_ok-list.list.items c.in_ok-list.ensures.rising)

pub returns-clause-each : goal.returns-clause-each
returns-clause-each g c = λ tells file.
    let m = c.args.self.now.manifest in
    let stray = is_stray m.file m.state c.args.retired.now in
    let list = c.in_ok-list.list.items in
    let is = c.in_ok-strays.ensures
    ∙ same_strays c.list.new.self.manifest m c.file.result c.state.result.now c.args.retired.now list c.list.ensures.named.manifest c.file.ensures c.state.ensures in (
      λ has. let both = in_filter stray list file (subst (λ (files : List ℕ). Contains files file) is has) in ((c.in_ok-list.ensures.each tells file).0 both.0, both.1),
      λ both. subst (λ (files : List ℕ). Contains files file) (sym is) (filter_has stray list file ((c.in_ok-list.ensures.each tells file).1 both.0) both.1),
    )

pub returns-clause-stray : goal.returns-clause-stray
returns-clause-stray g c = λ file has.
    let m = c.args.self.now.manifest in
    let list = c.in_ok-list.list.items in
    let is = c.in_ok-strays.ensures
    ∙ same_strays c.list.new.self.manifest m c.file.result c.state.result.now c.args.retired.now list c.list.ensures.named.manifest c.file.ensures c.state.ensures in
    (in_filter (is_stray m.file m.state c.args.retired.now) list file (subst (λ (files : List ℕ). Contains files file) is has)).1
