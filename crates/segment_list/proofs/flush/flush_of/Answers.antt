use Rattle.std.proofs.Common.{◌∙◌, sym, ap, subst, List, ◌++◌, ◌∷◌, [], ℕ, take}
use Rattle.column_file.specs.declared.file.ColumnFile.{ColumnFile}
use Rattle.delta_layer.specs.Files.{HasNoMem}
use Rattle.segment_list.specs.Flushes.{after_file, flushed_file, flushed_files}
use Rattle.segment_list.proofs.Flushing.{flushed_more, no_mem, number_more}
use Rattle.segment_list.proofs.flush.flush_of.Goals as goal

pub append-requires : goal.append-requires
append-requires c = λ tiny. subst HasNoMem (sym c.loop-i.invariant.0) (no_mem c.args.from (take c.loop-i.i c.args.layer.now))

pub loop-i-preserved : goal.loop-i-preserved
loop-i-preserved c = (
  c.in_ok-append.ensures
      ∙ ap (λ (fs : List ColumnFile). fs ++ c.in_ok-file.file ∷ []) c.loop-i.invariant.0
      ∙ ap (λ (f : ColumnFile). flushed_files c.args.from (take c.loop-i.i c.args.layer.now) ++ f ∷ []) (c.in_ok-file.ensures ∙ ap (λ (n : ℕ). flushed_file n c.file.result.now) c.loop-i.invariant.1)
      ∙ sym (flushed_more c.args.from c.args.layer.now c.loop-i.i c.file.result.now c.file.ensures),
  c.in_ok-next.ensures
      ∙ ap (λ (n : ℕ). after_file n c.file-in-loop-i.result.now) c.loop-i.invariant.1
      ∙ sym (number_more c.args.from c.args.layer.now c.loop-i.i c.file-in-loop-i.result.now c.file-in-loop-i.ensures),
)
