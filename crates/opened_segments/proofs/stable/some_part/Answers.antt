use Rattle.std.proofs.Common.{◌≡◌, ◌∙◌, ℕ, List, Some, length, refl, sym, ap, subst}
use Rattle.stable_file.specs.Footer.{tail_at}
use Rattle.opened_segments.specs.Faults.{IsFaultOf, data_faults, data_in}
use Rattle.opened_segments.specs.declared.fault.OpenFault.{OpenFault}
use Rattle.opened_segments.proofs.Judging.{data_absent, data_there, lost_first}
use Rattle.opened_segments.proofs.stable.some_part.Goals as goal

pub returns-then-not-is_data-clause-exact : goal.returns-then-not-is_data-clause-exact
returns-then-not-is_data-clause-exact g c = λ tells. lost_first c.args.own (g.D.Disk.files c.args.disk.now) (λ (b : List ℕ). tail_at (length b) c.args.schema.now b) c.args.file
    (data_absent c.args.own (g.D.Disk.files c.args.disk.now) c.args.list.now c.args.file (c.requires.each tells) (c.if-not-is_data.ensures.absent refl))

pub file_of-requires : goal.file_of-requires
file_of-requires g c = record { there = λ tells. (c.requires.each tells c.args.file).0 (c.if-not-is_data.ensures.there refl).2 }

pub returns-in-Ok-clause-exact : goal.returns-in-Ok-clause-exact
returns-in-Ok-clause-exact g c = λ tells.
    let is = c.if-not-is_data.ensures.there refl in
    let there = (c.requires.each tells c.args.file).0 is.2 in
    let held : data_in c.args.own (g.D.Disk.files c.args.disk.now) c.args.file ≡ Some there.0 = data_there c.args.own (g.D.Disk.files c.args.disk.now) c.args.file is.0 is.1 ∙ there.1 in
    ap (data_faults (λ (b : List ℕ). tail_at (length b) c.args.schema.now b) c.args.file) held ∙ c.in-Ok.ensures.exact tells there.0 there.1

pub returns-in-Ok-clause-read : goal.returns-in-Ok-clause-read
returns-in-Ok-clause-read g c = λ tells.
    let is = c.if-not-is_data.ensures.there refl in
    let there = (c.requires.each tells c.args.file).0 is.2 in
    (is.0, is.1, (there.0, there.1, c.in-Ok.ensures.held tells there.0 there.1))

pub returns-in-Err-clause-exact : goal.returns-in-Err-clause-exact
returns-in-Err-clause-exact g c = λ tells.
    let is = c.if-not-is_data.ensures.there refl in
    let there = (c.requires.each tells c.args.file).0 is.2 in
    let held : data_in c.args.own (g.D.Disk.files c.args.disk.now) c.args.file ≡ Some there.0 = data_there c.args.own (g.D.Disk.files c.args.disk.now) c.args.file is.0 is.1 ∙ there.1 in
    subst (λ (faults : List OpenFault). IsFaultOf faults c.in-Err.fault) (sym (ap (data_faults (λ (b : List ℕ). tail_at (length b) c.args.schema.now b) c.args.file) held)) (c.in-Err.ensures.exact tells there.0 there.1)
