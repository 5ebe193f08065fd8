use Rattle.std.proofs.Common.{◌<◌, ◌∙◌, length, arith}
use Rattle.std.specs.Prelude.{Ok}
use Rattle.stable_file.specs.Opened.{packs_of, schema_of, grip_of}
use Rattle.delta_layer.proofs.Packing.{some_at, pack_step, pack_fails, fails_on}
use Rattle.delta_layer.proofs.stable.file_versions.Goals as goal

pub returns-in-Err-clause-exact : goal.returns-in-Err-clause-exact
returns-in-Err-clause-exact g c = λ tells.
    let packs = packs_of c.args.file.now in
    let lt : c.loop-k.k < length (packs_of c.args.file.now) = omega (arith, c.loop-k-test.true, c.packs-k-end.ensures) in
    let at = some_at packs c.loop-k.k lt in
    pack_fails (schema_of c.args.file.now) (g.R.Grip.Gripped.bytes (grip_of c.args.file.now)) packs c.loop-k.k at.0 c.loop-k.all c.in-Err.error at.1 (c.loop-k.invariant.exact tells) (c.in-Err.ensures.exact tells at.0 at.1)

pub returns-in-Err-clause-cause : goal.returns-in-Err-clause-cause
returns-in-Err-clause-cause g c = fails_on _ _ _ c.in-Err.error c.loop-k.invariant.quiet c.in-Err.ensures.cause

pub loop-k-preserved : goal.loop-k-preserved
loop-k-preserved g c =
    let packs = packs_of c.args.file.now in
    let lt : c.loop-k.k < length (packs_of c.args.file.now) = omega (arith, c.loop-k-test.true, c.packs-k-end.ensures) in
    let at = some_at packs c.loop-k.k lt in
    record {
      rising = c.in-Ok.ensures.rising;
      exact = λ tells. pack_step (schema_of c.args.file.now) (g.R.Grip.Gripped.bytes (grip_of c.args.file.now)) packs c.loop-k.k at.0 c.loop-k.all (Ok c.add_pack.new.all) at.1 (c.loop-k.invariant.exact tells) (c.in-Ok.ensures.exact tells at.0 at.1);
      quiet = c.in-Ok.ensures.cause.quiet ∙ c.loop-k.invariant.quiet;
    }
