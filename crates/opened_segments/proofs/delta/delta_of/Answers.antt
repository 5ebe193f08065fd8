use Rattle.std.proofs.Common.{rules, ◌≡◌, ◌∙◌, ◌++◌, ◌∷◌, [], List, sym, subst}
use Rattle.std.specs.List.{AllByRecursion}
use Rattle.std.specs.Prelude.{Contains, ◌↔◌}
use Rattle.std.proofs.lemmas.Result.{err_from_is_err_and}
use Rattle.flash_io.proofs.Runs.{counted_then, untouched_then}
use Rattle.flash_io.specs.Image.{Image, IsThere}
use Rattle.column_file.specs.declared.file.ColumnFile.{ColumnFile}
use Rattle.replica_state.proofs.Sets.{all_one_more}
use Rattle.opened_segments.specs.Faults.{IsFaultOf, part_faults}
use Rattle.opened_segments.specs.Opened.{AreParts, IsPartIn}
use Rattle.opened_segments.proofs.Judging.{fault_at, none_more}
use Rattle.opened_segments.proofs.Parts.{no_mem, parts_on}
use Rattle.opened_segments.proofs.delta.delta_of.Goals as goal

pub part_of-requires-clause-each : goal.part_of-requires-clause-each
part_of-requires-clause-each g c = λ tells file. subst (λ (image : Image). Contains c.args.list.now file ↔ IsThere image file) (sym c.loop-i.invariant.untouched.same) (c.requires.each tells file)

pub returns-in_err-file-clause-exact : goal.returns-in_err-file-clause-exact
returns-in_err-file-clause-exact g c = λ tells.
    let p = err_from_is_err_and c.from_residual.result c.from_residual.ensures.1 in
    let e = c.in_err-file.field-0.0 in
    let found = subst (λ (image : Image). IsFaultOf (part_faults c.args.own image c.args.schema.now c.part_at-part.result) e) c.loop-i.invariant.untouched.same (c.in_err-file.ensures.exact tells) in
    rw (p.1, p.2) (fault_at (part_faults c.args.own (g.D.Disk.files c.args.disk.now) c.args.schema.now) c.args.stored.now c.loop-i.i c.part_at-part.result c.part_at-part.ensures e (c.loop-i.invariant.exact tells) found)

pub add-requires : goal.add-requires
add-requires g c = no_mem c.args.schema.now c.args.range c.loop-i.layer c.loop-i.invariant.parts.each

pub loop-i-preserved : goal.loop-i-preserved
loop-i-preserved g c =
    let d = g.D.Disk in
    let old = c.args.disk.now in
    let mid = c.loop-i.disk in
    let new = c.part_of.new.disk in
    let same = c.loop-i.invariant.untouched.same in
    let file = c.in_ok-file.file in
    let more : c.add.new.layer ≡ c.loop-i.layer ++ file ∷ [] = c.in_ok-add.ensures.ok in
    record {
      exact = λ tells. none_more (part_faults c.args.own (d.files old) c.args.schema.now) c.args.stored.now c.loop-i.i c.part_at-part.result c.part_at-part.ensures (c.loop-i.invariant.exact tells)
          (subst (λ (image : Image). part_faults c.args.own image c.args.schema.now c.part_at-part.result ≡ []) same (c.in_ok-file.ensures.exact tells));
      read = λ tells. subst (AllByRecursion (IsPartIn c.args.own (d.files old) c.args.schema.now c.args.range)) (sym more)
          (all_one_more (IsPartIn c.args.own (d.files old) c.args.schema.now c.args.range) c.loop-i.layer file (c.loop-i.invariant.read tells) (subst (λ (image : Image). IsPartIn c.args.own image c.args.schema.now c.args.range file) same (c.in_ok-file.ensures.read tells)));
      parts = subst (AreParts c.args.schema.now c.args.range _) (sym more) (parts_on c.args.schema.now c.args.range c.args.stored.now c.loop-i.i c.loop-i.layer c.part_at-part.result file c.part_at-part.ensures c.loop-i.invariant.parts c.in_ok-file.ensures.part c.in_ok-file.ensures.name);
      untouched = untouched_then d.files d.may_leave d.moment d.left_since old mid new c.loop-i.invariant.untouched c.in_ok-file.ensures.untouched;
      counted = counted_then d.fault_count d.reader_fault_count d.never_fails old mid new c.loop-i.invariant.counted c.in_ok-file.ensures.counted;
    }
