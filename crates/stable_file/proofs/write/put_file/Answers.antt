use Rattle.std.proofs.Common.{◌≡◌, ◌++◌, ◌∙◌, ap, sym, subst, length}
use Rattle.std.specs.Int.{w32, w64, to_be_bytes}
use Rattle.std.specs.List.{flat_map}
use Rattle.flash_put.specs.Appending.{Appends}
use Rattle.flash_put.proofs.Appending.{more}
use Rattle.pack_codec.specs.Spelling.{pack}
use Rattle.stable_file.specs.Building as building
use Rattle.stable_file.proofs.BuildSteps.{cuts_len}
use Rattle.stable_file.proofs.write.put_file.Goals as goal

pub returns-clause-bytes : goal.returns-clause-bytes
unfolding building.file_of building.footer
returns-clause-bytes c =
    let xs = c.args.block.now in
    let columns = c.args.schema.now in
    let old = c.args.into.now.items in
    let packs = c.packs_for-packs.result in
    let parts = building.first_cuts packs c.args.rows xs in
    let entries = building.entries columns 4 parts in
    let count : length parts ≡ packs = cuts_len packs c.args.rows xs in
    let footer : c.as_slice.result.now ≡ building.footer columns parts = c.as_slice.ensures.value ∙ c.in_ok-put_u64.ensures ∙ ap (λ bs. bs ++ to_be_bytes w64 packs) (c.in_ok-put_packs.ensures.entries ∙ ap (λ bs. bs ++ entries) c.new-footer.ensures.items) ∙ ap (λ n. entries ++ to_be_bytes w64 n) (sym count) in
    let r = c.put_ending.result in
    let new = c.put_ending.new.into.items in
    let ending = subst (λ bs. Appends r c.put_packs.new.into.items (building.ending bs) new) footer c.put_ending.ensures in
    let tail = more r c.put_u32.new.into.items (flat_map (pack columns) parts) (building.ending (building.footer columns parts)) c.put_packs.new.into.items new c.in_ok-put_packs.ensures.bytes ending in
    let all = more r old (to_be_bytes w32 building.magic) (flat_map (pack columns) parts ++ building.ending (building.footer columns parts)) c.put_u32.new.into.items new c.in_ok-put_u32.ensures tail in
    subst (λ n. Appends r old (building.file_of columns (building.first_cuts n c.args.rows xs)) new) (c.packs_for-packs.ensures.exact ∙ ap (building.packs_for c.args.rows) c.len.ensures) all
