use Rattle.std.proofs.Common.{rules, ◌≡◌, None, Some, List, map, sym, subst}
use Rattle.std.specs.Prelude.{IsSome}
use Rattle.std.specs.List.{All}
use Rattle.std.specs.Arc.{arc_value}
use Rattle.committed_log.specs.Lawful.{IsLawful}
use Rattle.committed_log.specs.Replies.{AreCuts, refused}
use Rattle.flash_types.specs.Asks.{AreDistinct}
use Rattle.flash_types.specs.declared.ask.AskRegion.{AskRegion}
use Rattle.log_laws.proofs.Apart.{cuts_apart}
use Rattle.region_table.specs.Counting.{applied_in}
use Rattle.replica_state.specs.Core.{Core, full}
use Rattle.replica_state.specs.Reads.{cut_in}
use Rattle.replica_state.proofs.Cutting.{are_cuts, have_cuts}
use Rattle.replica_state.proofs.state.State.cuts_of.Goals as goal

pub cuts_in-requires : goal.cuts_in-requires
cuts_in-requires g c =
    let log = arc_value c.self.inside.logs in
    let table = c.self.inside.table in
    let numbers = c.self.inside.numbers in
    let A = applied_in log table.regions in
    let allowed : refused log c.args.ask.now A numbers.safe_point numbers.mark ≡ None = subst (λ (s : Core _). refused s.log c.args.ask.now (full s) s.numbers.safe_point s.numbers.mark ≡ None) (sym c.self.view_is) c.requires in
    subst (λ (rs : List AskRegion). All (λ (asked : AskRegion). IsSome (cut_in table.regions asked)) rs) (sym c.regions.ensures.order) (have_cuts log A table c.self.invariant.sets.table c.args.ask.now numbers.safe_point numbers.mark allowed)

pub returns-clause-cuts : goal.returns-clause-cuts
returns-clause-cuts g c =
    let log = arc_value c.self.inside.logs in
    let table = c.self.inside.table in
    let A = applied_in log table.regions in
    let items = c.in_ok-cuts.cuts.items in
    let cuts : AreCuts log A c.args.ask.now.regions items = are_cuts log A table c.self.invariant.sets.table c.args.ask.now.regions items (subst (λ (rs : List AskRegion). map (cut_in table.regions) rs ≡ map Some items) c.regions.ensures.order c.in_ok-cuts.ensures) in
    subst (λ (s : Core _). AreCuts s.log (full s) c.args.ask.now.regions items) c.self.view_is cuts

pub returns-clause-apart : goal.returns-clause-apart
returns-clause-apart g c =
    let log = arc_value c.self.inside.logs in
    let table = c.self.inside.table in
    let A = applied_in log table.regions in
    let items = c.in_ok-cuts.cuts.items in
    let lawful : IsLawful log = search rules in
    let cuts : AreCuts log A c.args.ask.now.regions items = are_cuts log A table c.self.invariant.sets.table c.args.ask.now.regions items (subst (λ (rs : List AskRegion). map (cut_in table.regions) rs ≡ map Some items) c.regions.ensures.order c.in_ok-cuts.ensures) in
    let distinct : AreDistinct c.args.ask.now.regions = subst (λ (rs : List AskRegion). AreDistinct rs) c.regions.ensures.order c.regions.ensures.can.distinct in
    cuts_apart log lawful A c.self.invariant.sets.table.closed c.args.ask.now.regions distinct items cuts
