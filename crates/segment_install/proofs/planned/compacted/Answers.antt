use Rattle.std.proofs.Common.{◌≡◌, ◌∙◌, sym, ap, subst, List, [], ◌∷◌, get_or}
use Rattle.std.specs.List.{AllByRecursion}
use Rattle.std.proofs.lemmas.Result.{IfOk-weaker}
use Rattle.column_file.specs.declared.file.ColumnFile.TheVariants.{Tiny}
use Rattle.delta_layer.specs.Repacked.{CanCompact}
use Rattle.delta_layer.specs.declared.built.Piece.{Piece}
use Rattle.delta_layer.specs.declared.view.SegmentView.{SegmentView}
use Rattle.segment_laws.specs.Runs.{IsFirstRun}
use Rattle.segment_work.specs.Jobs.{has_run}
use Rattle.segment_install.specs.Plans.{IsCompacted}
use Rattle.segment_install.specs.Slots.{Fits, compacted_slot}
use Rattle.segment_install.proofs.News.{compact_can, compacted_news}
use Rattle.segment_install.proofs.Running.{run_has}
use Rattle.segment_install.proofs.planned.compacted.Goals as goal

pub first_run-from-requires : goal.first_run-from-requires
first_run-from-requires g c = ap (λ (vs : List (SegmentView g.row.G.Denot)). has_run (get_or vs 0 c.index-as_slice-0.result).delta) (c.as_slice.ensures ∙ c.requires.built.views) ∙ run_has c.requires.built.view.delta c.requires.built.from c.requires.built.to c.requires.built.run

pub compacted_slot-requires-clause-can : goal.compacted_slot-requires-clause-can
compacted_slot-requires-clause-can g c =
    let run : IsFirstRun c.requires.built.view.delta c.first_run-from.result.0 c.first_run-from.result.1 = subst (λ (vs : List (SegmentView g.row.G.Denot)). IsFirstRun (get_or vs 0 c.index-as_slice-0.result).delta c.first_run-from.result.0 c.first_run-from.result.1) (c.as_slice.ensures ∙ c.requires.built.views) c.first_run-from.ensures in
    let fits : Fits c.requires.built.view c.args.slot.now = (subst (AllByRecursion (λ (v : SegmentView g.row.G.Denot). Fits v c.args.slot.now)) c.requires.built.views c.requires.fits).0 in
    subst (λ (ps : List Piece). CanCompact c.first_run-from.result.0 c.first_run-from.result.1 (Tiny c.args.first (get_or ps 0 c.index-as_slice-0-2.result).versions) c.args.slot.now.files) (sym (c.as_slice-2.ensures ∙ c.requires.built.pieces))
    (compact_can c.blocks_become_one.ensures.compact c.args.first c.args.built.now c.args.slot.now c.requires.built c.first_run-from.result.0 c.first_run-from.result.1 fits c.requires.laid run).0

pub compacted_slot-requires-clause-named : goal.compacted_slot-requires-clause-named
compacted_slot-requires-clause-named g c =
    let run : IsFirstRun c.requires.built.view.delta c.first_run-from.result.0 c.first_run-from.result.1 = subst (λ (vs : List (SegmentView g.row.G.Denot)). IsFirstRun (get_or vs 0 c.index-as_slice-0.result).delta c.first_run-from.result.0 c.first_run-from.result.1) (c.as_slice.ensures ∙ c.requires.built.views) c.first_run-from.ensures in
    let fits : Fits c.requires.built.view c.args.slot.now = (subst (AllByRecursion (λ (v : SegmentView g.row.G.Denot). Fits v c.args.slot.now)) c.requires.built.views c.requires.fits).0 in
    (compact_can c.blocks_become_one.ensures.compact c.args.first c.args.built.now c.args.slot.now c.requires.built c.first_run-from.result.0 c.first_run-from.result.1 fits c.requires.laid run).1

pub returns : goal.returns
returns g c =
    let run : IsFirstRun c.requires.built.view.delta c.first_run-from.result.0 c.first_run-from.result.1 = subst (λ (vs : List (SegmentView g.row.G.Denot)). IsFirstRun (get_or vs 0 c.index-as_slice-0.result).delta c.first_run-from.result.0 c.first_run-from.result.1) (c.as_slice.ensures ∙ c.requires.built.views) c.first_run-from.ensures in
    let new : c.in_ok-new.new ≡ compacted_slot c.first_run-from.result.0 c.first_run-from.result.1 (Tiny c.args.first c.requires.built.piece.versions) c.args.slot.now =
    c.in_ok-new.ensures ∙ ap (λ (ps : List Piece). compacted_slot c.first_run-from.result.0 c.first_run-from.result.1 (Tiny c.args.first (get_or ps 0 c.index-as_slice-0-2.result).versions) c.args.slot.now) (c.as_slice-2.ensures ∙ c.requires.built.pieces) in
    IfOk-weaker c.one.result (λ news. news.items ≡ c.in_ok-new.new ∷ []) (λ news. IsCompacted c.args.first c.args.built.now c.args.slot.now news.items)
    (λ news are. compacted_news c.args.first c.args.built.now c.args.slot.now c.requires.built c.first_run-from.result.0 c.first_run-from.result.1 c.in_ok-new.new news.items run new are) c.one.ensures
