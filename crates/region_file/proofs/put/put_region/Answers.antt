use Rattle.std.proofs.Common.{◌≡◌, ◌∙◌, ◌++◌, ap, subst, List, ℕ, append_assoc}
use Rattle.std.specs.Int.{w64, to_be_bytes}
use Rattle.flash_put.specs.Appending.{Appends}
use Rattle.flash_put.proofs.Appending.{more}
use Rattle.region_file.specs.Spelling as spelling
use Rattle.region_file.proofs.put.put_region.Goals as goal

pub returns-clause-bytes : goal.returns-clause-bytes
unfolding spelling.region
returns-clause-bytes c =
    let s = c.args.region.now in
    let d = s.descriptor in
    let r = c.put_families.result in
    let new = c.put_families.new.into.items in
    let index : List ℕ = to_be_bytes w64 d.index in
    let conf_ver : List ℕ = to_be_bytes w64 d.epoch.conf_ver in
    let version : List ℕ = to_be_bytes w64 d.epoch.version in
    let range : List ℕ = spelling.range d.range in
    let families : List ℕ = spelling.target s.target ++ (spelling.values s.values ++ spelling.locks s.locks) in
    let first = subst (λ of. c.put_descriptor.new.into.items ≡ c.args.into.now.items ++ (to_be_bytes w64 of.index ++ (to_be_bytes w64 of.epoch.conf_ver ++ (to_be_bytes w64 of.epoch.version ++ spelling.range of.range)))) c.descriptor.ensures c.in_ok-put_descriptor.ensures.bytes in
    let parts = append_assoc index (conf_ver ++ (version ++ range)) families
    ∙ ap (λ (l : List ℕ). index ++ l) (append_assoc conf_ver (version ++ range) families ∙ ap (λ (l : List ℕ). conf_ver ++ l) (append_assoc version range families)) in
    subst (λ (l : List ℕ). Appends r c.args.into.now.items l new) parts
    (more r c.args.into.now.items (index ++ (conf_ver ++ (version ++ range))) families c.put_descriptor.new.into.items new first c.put_families.ensures.bytes)
