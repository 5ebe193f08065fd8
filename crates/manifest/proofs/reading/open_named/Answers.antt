use Rattle.std.proofs.Common.{refl, inl, inr}
use Rattle.manifest.proofs.Listed.{not_there}
use Rattle.manifest.proofs.reading.open_named.Goals as goal

pub returns-then-not-lists-clause-found : goal.returns-then-not-lists-clause-found
returns-then-not-lists-clause-found g c = λ tells.
    let D = g.D.Disk in
    (refl, inl (refl, inr (not_there (D.files c.args.disk.now) c.args.name.file (λ there. c.if-not-lists.ensures.absent refl ((c.requires.each tells c.args.name.file).1 there)))))

pub read_file-requires : goal.read_file-requires
read_file-requires g c = record { there = λ tells. (c.requires.each tells c.args.name.file).0 (c.if-not-lists.ensures.there refl) }
