use Rattle.std.proofs.Common.{◌≡◌, ◌+◌, ◌-◌, ◌≤◌, ◌++◌, ◌∙◌, ap, sym, subst, arith, length, length-append, drop, slice_range}
use Rattle.std.proofs.lemmas.Result.{err_from_is_err_and}
use Rattle.std.specs.List.{AllByRecursion, flat_map}
use Rattle.column_codec.proofs.WriteSteps.{starts, goes_on, left_is, fails, is_done}
use Rattle.pack_codec.specs.Spelling.{pack, PackFits}
use Rattle.stable_file.specs.Building.{first_cuts, entry, entries}
use Rattle.stable_file.proofs.BuildSteps.{cuts_start, next_cut, no_cut, some_reach, next_reach}
use Rattle.stable_file.proofs.write.put_packs.Goals as goal

pub loop-init : goal.loop-init
loop-init c =
    let xs = c.args.block.now in
    let columns = c.args.schema.now in
    let all = first_cuts c.args.packs c.args.rows xs in
    let same = cuts_start c.args.packs c.args.rows xs in
    let place : 4 ≡ length c.args.into.now.items - c.args.start = omega (arith, c.requires.start) in
    record {
      bytes = left_is c.args.into.now.items c.args.into.now.items _ _ (flat_map (pack columns) all) (ap (flat_map (pack columns)) same) (starts c.args.into.now.items (flat_map (pack columns) all));
      entries = left_is c.args.footer.now.items c.args.footer.now.items _ _ (entries columns 4 all) (ap (λ k. entries columns k all) place ∙ ap (entries columns (length c.args.into.now.items - c.args.start)) same) (starts c.args.footer.now.items (entries columns 4 all));
      fits = λ h. subst (AllByRecursion (PackFits columns)) (sym same) h;
      start = omega (arith, c.requires.start);
      within = omega arith;
      reach = λ lt. some_reach c.args.packs c.args.rows (length xs) c.requires.reach lt;
    }

pub returns-in_err-put_pack-clause-bytes : goal.returns-in_err-put_pack-clause-bytes
returns-in_err-put_pack-clause-bytes c =
    let p = err_from_is_err_and c.from_residual.result c.from_residual.ensures.1 in
    rw (p.1) (fails c.args.into.now.items c.loop.into.items _ _ c.put_pack.new.into.items c.loop.invariant.bytes c.in_err-put_pack.ensures.bytes)

pub returns-in_err-put_pack-clause-entries : goal.returns-in_err-put_pack-clause-entries
returns-in_err-put_pack-clause-entries c =
    let p = err_from_is_err_and c.from_residual.result c.from_residual.ensures.1 in
    rw (p.1) (fails c.args.footer.now.items c.loop.footer.items _ _ c.put_pack.new.footer.items c.loop.invariant.entries c.in_err-put_pack.ensures.entry)

pub loop-preserved : goal.loop-preserved
loop-preserved c =
    let xs = c.args.block.now in
    let columns = c.args.schema.now in
    let i = c.loop.counter in
    let from = c.loop.from in
    let to = c.end_of-to.result in
    let cut = slice_range xs from to in
    let before = c.loop.into.items in
    let now = c.put_pack.new.into.items in
    let total = first_cuts c.args.packs c.args.rows xs in
    let others = first_cuts (c.args.packs - (i + 1)) c.args.rows (drop to xs) in
    let first = next_cut c.args.packs i c.args.rows from to xs c.loop-test.true c.end_of-to.ensures.cut c.end_of-to.ensures.rest in
    let place = length before - c.args.start in
    let size : length now ≡ length before + length (pack columns cut) = ap length c.in_ok-put_pack.ensures.bytes ∙ length-append before (pack columns cut) in
    let start : c.args.start ≤ length before = c.loop.invariant.start in
    let next : place + length (pack columns cut) ≡ length now - c.args.start = omega (arith, size, start) in
    let so_far = left_is c.args.into.now.items before _ (pack columns cut ++ flat_map (pack columns) others) (flat_map (pack columns) total) (ap (flat_map (pack columns)) first) c.loop.invariant.bytes in
    let told = left_is c.args.footer.now.items c.loop.footer.items _ (entry columns place cut ++ entries columns (length now - c.args.start) others) (entries columns 4 total) (ap (entries columns place) first ∙ ap (λ k. entry columns place cut ++ entries columns k others) next) c.loop.invariant.entries in
    record {
      bytes = goes_on c.args.into.now.items before (pack columns cut) (flat_map (pack columns) others) (flat_map (pack columns) total) now so_far c.in_ok-put_pack.ensures.bytes;
      entries = goes_on c.args.footer.now.items c.loop.footer.items (entry columns place cut) (entries columns (length now - c.args.start) others) (entries columns 4 total) c.put_pack.new.footer.items told c.in_ok-put_pack.ensures.entry;
      fits = λ h. c.loop.invariant.fits (subst (AllByRecursion (PackFits columns)) (sym first) (c.in_ok-put_pack.ensures.fits, h));
      start = omega (arith, size, start);
      within = c.end_of-to.ensures.within;
      reach = λ lt. next_reach c.args.packs i c.args.rows from to (length xs) (c.loop.invariant.reach c.loop-test.true) c.end_of-to.ensures.few lt;
    }

pub returns-clause-bytes : goal.returns-clause-bytes
returns-clause-bytes c =
    let columns = c.args.schema.now in
    is_done c.args.into.now.items c.loop.into.items _ _ (ap (flat_map (pack columns)) (no_cut c.args.packs c.loop.counter c.args.rows (drop c.loop.from c.args.block.now) c.loop-test.false)) c.loop.invariant.bytes

pub returns-clause-entries : goal.returns-clause-entries
returns-clause-entries c =
    let columns = c.args.schema.now in
    is_done c.args.footer.now.items c.loop.footer.items _ _ (ap (entries columns (length c.loop.into.items - c.args.start)) (no_cut c.args.packs c.loop.counter c.args.rows (drop c.loop.from c.args.block.now) c.loop-test.false)) c.loop.invariant.entries

pub returns-clause-fits : goal.returns-clause-fits
returns-clause-fits c =
    let none = no_cut c.args.packs c.loop.counter c.args.rows (drop c.loop.from c.args.block.now) c.loop-test.false in
    c.loop.invariant.fits (subst (AllByRecursion (PackFits c.args.schema.now)) (sym none) tt)
