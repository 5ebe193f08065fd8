use Rattle.std.proofs.Common.{◌≡◌, ◌∙◌, ◌++◌, ap, List}
use Rattle.std.proofs.lemmas.Result.{IfOk-weaker}
use Rattle.column_file.specs.declared.file.ColumnFile.{ColumnFile}
use Rattle.flash_types.specs.declared.range.HandleRange.{HandleRange}
use Rattle.segment_list.specs.Slots.{clip_files}
use Rattle.segment_install.specs.Slots.{rest_of}
use Rattle.segment_install.proofs.News.{named_gathered}
use Rattle.segment_install.proofs.rest.add_both_named.Goals as goal

pub returns : goal.returns
returns g c =
    let left : List ColumnFile = (rest_of c.args.left_taken c.args.left.now).named in
    let right : List ColumnFile = (rest_of c.args.right_taken c.args.right.now).named in
    IfOk-weaker c.add_named-2.result
    (λ _. c.add_named-2.new.gathering ≡ record c.add_named.new.gathering { files = c.add_named.new.gathering.files ++ clip_files c.range-2.result right })
    (λ _. c.add_named-2.new.gathering ≡ record c.args.gathering.now { files = c.args.gathering.now.files ++ (clip_files c.args.left.now.range left ++ clip_files c.args.right.now.range right) })
    (λ done e.
    e
    ∙ named_gathered c.args.gathering.now c.add_named.new.gathering (clip_files c.range.result left) (clip_files c.range-2.result right) c.in_ok-add_named.ensures
    ∙ ap (λ (r : HandleRange). record c.args.gathering.now { files = c.args.gathering.now.files ++ (clip_files r left ++ clip_files c.range-2.result right) }) c.range.ensures
    ∙ ap (λ (r : HandleRange). record c.args.gathering.now { files = c.args.gathering.now.files ++ (clip_files c.args.left.now.range left ++ clip_files r right) }) c.range-2.ensures)
    c.add_named-2.ensures
