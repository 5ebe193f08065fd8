use Rattle.std.proofs.Common.{◌≡◌, ◌<◌, ◌^◌, ◌++◌, ◌∷◌, [], ◌∙◌, ap, List, ℕ, length, rules, SFits, w64}
use Rattle.std.specs.Int.{to_be_bytes}
use Rattle.std.proofs.lemmas.Int.{to_z-of_z}
use Rattle.manifest_form.specs.Spelling as spelling
use Rattle.manifest.proofs.Created.{first_read}
use Rattle.manifest.proofs.creating.file_bytes.Goals as goal

pub returns : goal.returns
returns c =
    let columns = c.args.columns.now in
    let record' = c.in_ok-record.record.items in
    let fits : SFits w64 c.args.table = c.ranges.table in
    let record_is : c.as_slice.result.now ≡ record' = search rules in
    let sized : length record' < 2 ^ 64 = search rules in
    let one = simp to_z-of_z at c.in_ok-put_header.ensures.bytes in
    let start : c.new-bytes.result.items ≡ [] = search rules in
    let header_is : c.put_header.new.into.items ≡ spelling.header c.args.table columns = one ∙ ap (λ (l : List ℕ). l ++ spelling.header c.args.table columns) start in
    let two : c.put_u8.new.into.items ≡ c.put_header.new.into.items ++ 1 ∷ [] = c.in_ok-put_u8.ensures in
    let three : c.put_record.new.into.items ≡ c.put_u8.new.into.items ++ (to_be_bytes w64 (length c.as_slice.result.now) ++ (c.as_slice.result.now ++ 0 ∷ [])) = c.in_ok-put_record.ensures in
    let behind : List ℕ → List ℕ = λ r. to_be_bytes w64 (length r) ++ (r ++ 0 ∷ []) in
    let whole : c.put_record.new.into.items ≡ spelling.header c.args.table columns ++ 1 ∷ [] ++ behind record' =
    three ∙ ap (λ (l : List ℕ). c.put_u8.new.into.items ++ behind l) record_is ∙ ap (λ (l : List ℕ). l ++ behind record') (two ∙ ap (λ (l : List ℕ). l ++ 1 ∷ []) header_is) in
    first_read c.args.table columns c.args.edits.now c.put_record.new.into.items record' fits c.requires.lawful c.in_ok-put_header.ensures.fits.1 c.in_ok-record.ensures.bytes c.in_ok-record.ensures.fits sized whole
