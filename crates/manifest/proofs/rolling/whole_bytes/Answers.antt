use Rattle.std.proofs.Common.{◌≡◌, ◌+◌, ◌∙◌, List, ap, None, Ok, rules, SFits, w64, arith}
use Rattle.std.proofs.lemmas.Int.{to_z-of_z}
use Rattle.column_block.specs.declared.column.Column.{Column}
use Rattle.manifest_form.specs.States.{after_record}
use Rattle.manifest_form.specs.Walk.{manifest_of}
use Rattle.manifest_form.specs.Whole.{whole_edits}
use Rattle.manifest_form.proofs.Segments.{whole_again}
use Rattle.manifest.specs.Made.{store_of}
use Rattle.manifest.specs.Rolled.{raised}
use Rattle.manifest.proofs.rolling.whole_bytes.Goals as goal

pub returns : goal.returns
returns c =
    let m = c.args.manifest.now in
    let fits : SFits w64 m.table = search rules in
    let edits_is : c.as_slice.result.now ≡ whole_edits (m.state.next + 1) m.state = search rules in
    let columns_is : c.as_slice-columns.result.now ≡ m.columns = search rules in
    let read = c.in_ok-bytes.ensures m.state.next (raised m.state) (ap (after_record m.state.next None) edits_is ∙ whole_again m.file (m.state.next + 1) m.state (omega arith) m.formed m.differ) in
    let one : manifest_of m.state.next c.in_ok-bytes.bytes.items ≡ Ok (store_of m.table c.as_slice-columns.result.now (raised m.state)) = simp to_z-of_z at read in
    one ∙ ap (λ (cs : List Column). Ok (store_of m.table cs (raised m.state))) columns_is
