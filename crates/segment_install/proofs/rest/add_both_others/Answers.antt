use Rattle.std.proofs.Common.{◌≡◌, ◌∙◌, ◌++◌, ℕ, ap, List}
use Rattle.std.proofs.lemmas.Result.{IfOk-weaker}
use Rattle.column_file.specs.declared.file.ColumnFile.{ColumnFile}
use Rattle.flash_types.specs.declared.range.HandleRange.{HandleRange}
use Rattle.segment_list.specs.Slots.{Gathered, clip_pairs, with_pairs}
use Rattle.segment_list.proofs.Gathers.{with_more}
use Rattle.segment_install.specs.Slots.{rest_of}
use Rattle.segment_install.proofs.rest.add_both_others.Goals as goal

pub returns : goal.returns
returns g c =
    let left : List (ℕ × ColumnFile) = (rest_of c.args.left_taken c.args.left.now).others in
    let right : List (ℕ × ColumnFile) = (rest_of c.args.right_taken c.args.right.now).others in
    IfOk-weaker c.add_others-2.result
    (λ _. c.add_others-2.new.gathering ≡ with_pairs c.add_others.new.gathering (clip_pairs c.range-2.result right))
    (λ _. c.add_others-2.new.gathering ≡ with_pairs c.args.gathering.now (clip_pairs c.args.left.now.range left ++ clip_pairs c.args.right.now.range right))
    (λ done e.
    e
    ∙ ap (λ (r : Gathered). with_pairs r (clip_pairs c.range-2.result right)) c.in_ok-add_others.ensures
    ∙ with_more c.args.gathering.now (clip_pairs c.range.result left) (clip_pairs c.range-2.result right)
    ∙ ap (λ (r : HandleRange). with_pairs c.args.gathering.now (clip_pairs r left ++ clip_pairs c.range-2.result right)) c.range.ensures
    ∙ ap (λ (r : HandleRange). with_pairs c.args.gathering.now (clip_pairs c.args.left.now.range left ++ clip_pairs r right)) c.range-2.ensures)
    c.add_others-2.ensures
