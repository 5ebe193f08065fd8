use Rattle.std.proofs.Common.{◌++◌, ◌∙◌, ap, sym, rules, slice_range, SFits, w64, subst}
use Rattle.std.proofs.lemmas.Int.{to_z-of_z}
use Rattle.flash_put.specs.Appending.{Appends}
use Rattle.flash_put.proofs.Appending.{more}
use Rattle.stable_file.specs.Ranges.{handle_at}
use Rattle.stable_file.specs.Building as building
use Rattle.stable_file.proofs.BuildSteps.{first_handle, last_handle}
use Rattle.stable_file.proofs.write.put_handles.Goals as goal

pub returns : goal.returns
unfolding building.handles
returns c =
    let xs = c.args.block.now in
    let versions = slice_range xs c.args.from c.args.to in
    let old = c.args.into.now.items in
    let low : SFits w64 c.handle_at.result = search rules in
    let high : SFits w64 c.handle_at-2.result = search rules in
    let first = to_z-of_z w64 c.handle_at.result low ∙ c.handle_at.ensures ∙ sym (first_handle xs c.args.from c.args.to c.requires.some) in
    let last = to_z-of_z w64 c.handle_at-2.result high ∙ c.handle_at-2.ensures ∙ sym (last_handle xs c.args.from c.args.to c.requires.some c.requires.within) in
    let one = c.in_ok-put_i64.ensures ∙ ap (λ h. old ++ building.handle h) first in
    let two = subst (λ h. Appends c.put_i64-2.result c.put_i64.new.into.items (building.handle h) c.put_i64-2.new.into.items) last c.put_i64-2.ensures in
    more c.put_i64-2.result old (building.handle (handle_at versions 0)) _ c.put_i64.new.into.items c.put_i64-2.new.into.items one two
