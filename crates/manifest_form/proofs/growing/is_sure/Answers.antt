use Rattle.std.proofs.Common.{rules}
use Rattle.std.specs.Prelude.{is_some}
use Rattle.std.specs.BTreeMap.{get}
use Rattle.manifest_form.specs.Counting.{top_cmp}
use Rattle.manifest_form.proofs.Growth.{sure}
use Rattle.manifest_form.proofs.growing.is_sure.Goals as goal

pub returns : goal.returns
returns c = λ less. sure c.args.file c.args.state.now c.args.count (λ q. is_some (get top_cmp c.args.tops.now q)) c.requires.counts c.requires.topped (search rules) (search rules) (search rules) (c.tops_below.ensures less)
