use Rattle.std.proofs.Common.{◌≡◌, ℕ, List, refl, inl, sym, subst, rules}
use Rattle.std.specs.Prelude.{Contains, ◌↔◌}
use Rattle.flash_io.specs.Image.{Image, IsThere}
use Rattle.manifest.proofs.Listed.{not_there}
use Rattle.manifest.proofs.reading.open.Goals as goal

pub returns-then-lists_none-clause-opened : goal.returns-then-lists_none-clause-opened
returns-then-lists_none-clause-opened g c = λ tells.
    let files = g.D.Disk.files c.args.disk.now in
    let is : c.as_slice.result.now ≡ c.in_ok-list.list.items = search rules in
    inl (λ file. not_there files file (λ there. c.if-lists_none.ensures.none refl file (subst (λ (l : List ℕ). Contains l file) (sym is) ((c.in_ok-list.ensures.each tells file).1 there))))

pub returns-then-not-lists-clause-opened : goal.returns-then-not-lists-clause-opened
returns-then-not-lists-clause-opened g c = λ tells.
    let files = g.D.Disk.files c.args.disk.now in
    let is : c.as_slice.result.now ≡ c.in_ok-list.list.items = search rules in
    let is' : c.as_slice-2.result.now ≡ c.in_ok-list.list.items = search rules in
    let some = c.if-lists_none.ensures.some refl in (
      not_there files 0 (λ there. c.if-not-lists.ensures.absent refl (subst (λ (l : List ℕ). Contains l 0) (sym is') ((c.in_ok-list.ensures.each tells 0).1 there))),
      (some.0, (c.in_ok-list.ensures.each tells some.0).0 (subst (λ (l : List ℕ). Contains l some.0) is some.1)),
    )

pub open_store-requires-clause-root : goal.open_store-requires-clause-root
open_store-requires-clause-root g c = λ tells.
    let is : c.as_slice-2.result.now ≡ c.in_ok-list.list.items = search rules in
    subst (λ (image : Image). IsThere image 0) (sym c.in_ok-list.ensures.files) ((c.in_ok-list.ensures.each tells 0).0 (subst (λ (l : List ℕ). Contains l 0) is (c.if-not-lists.ensures.there refl)))

pub open_store-requires-clause-each : goal.open_store-requires-clause-each
open_store-requires-clause-each g c = λ tells file.
    let is : c.as_slice-3.result.now ≡ c.in_ok-list.list.items = search rules in
    subst (λ (l : List ℕ). Contains l file ↔ IsThere (g.D.Disk.files c.list.new.self) file) (sym is) (subst (λ (image : Image). Contains c.in_ok-list.list.items file ↔ IsThere image file) (sym c.in_ok-list.ensures.files) (c.in_ok-list.ensures.each tells file))
