use Rattle.std.proofs.Common.{◌≡◌, ◌∙◌, ◌-◌, ◌+◌, [], sym, ap, subst}
use Rattle.std.proofs.lemmas.Result.{err_from_is_err_and}
use Rattle.std.specs.Cmp.{nat_cmp_total}
use Rattle.region_file.specs.Faults.{Fails}
use Rattle.region_file.specs.Regions.{last_id, ranges_of, entry_at, entries_at}
use Rattle.region_file.specs.Taken.{AreTaken}
use Rattle.region_file.proofs.Rising.{one_more_key, after_id}
use Rattle.region_file.proofs.Walking.{last_more, ranges_more, next_entry, fault_here, all_read}
use Rattle.region_file.proofs.reading.entries_of.Goals as goal

pub returns-in_err-id : goal.returns-in_err-id
returns-in_err-id c =
    let p = err_from_is_err_and c.from_residual.result c.from_residual.ensures.1 in
    let e = c.in_err-id.field-0.0 in
    let es = c.loop.entries.entries in
    let read = subst (λ last. Fails e (entry_at c.args.end last (ranges_of es) c.loop.rest.now)) (sym c.loop.invariant.id) (c.in_err-id.ensures.gives (ranges_of es) c.loop.invariant.taken) in
    rw (p.1, p.2) (fault_here c.args.end c.args.count c.loop.counter es c.loop.rest.now (entries_at c.args.end c.args.count [] c.args.bytes.now) c.loop.invariant.gives e c.loop-test.true read)

pub loop-preserved : goal.loop-preserved
loop-preserved c =
    let es = c.loop.entries.entries in
    let total = entries_at c.args.end c.args.count [] c.args.bytes.now in
    let read = ap (λ last. entry_at c.args.end last (ranges_of es) c.loop.rest.now) c.loop.invariant.id ∙ c.in_ok-id.ensures.gives (ranges_of es) c.loop.invariant.taken in
    let is = c.in-Ok-append.ensures in
    record {
      gives = subst (λ es. entries_at c.args.end (c.args.count - (c.loop.counter + 1)) es c.in_ok-id.after.now ≡ total) (sym is)
          (next_entry c.args.end c.args.count c.loop.counter es c.loop.rest.now total c.loop.invariant.gives (c.in_ok-id.id, c.in_ok-id.entry) c.in_ok-id.after.now c.loop-test.true read);
      taken = subst (AreTaken c.note.new.taken.entries) (sym (ap ranges_of is ∙ ranges_more es (c.in_ok-id.id, c.in_ok-id.entry)))
          (c.in-Ok.ensures c.in_ok-id.id (ranges_of es) c.loop.invariant.taken (c.in_ok-id.ensures.free (ranges_of es) c.loop.invariant.taken));
      rises = one_more_key nat_cmp_total c.loop.last es c.append.new.map.entries c.in_ok-id.id c.in_ok-id.entry c.loop.invariant.rises (after_id c.loop.last c.in_ok-id.id c.in_ok-id.ensures.rises) is;
      id = ap last_id is ∙ last_more es (c.in_ok-id.id, c.in_ok-id.entry);
    }

pub returns : goal.returns
returns c = all_read c.args.end c.args.count c.loop.counter c.loop.entries.entries c.loop.rest.now (entries_at c.args.end c.args.count [] c.args.bytes.now) c.loop.invariant.gives c.loop-test.false
