use Rattle.std.proofs.Common.{◌≡◌, ◌++◌, List, ℕ, ap, ◌∙◌, SFits}
use Rattle.std.specs.Int.{w64, to_be_bytes}
use Rattle.std.proofs.lemmas.Int.{to_z-of_z}
use Rattle.std.proofs.lemmas.Result.{on_ok_weaker}
use Rattle.kv_codec.specs.Keys.{flipped, key_by_places}
use Rattle.kv_codec.specs.Spelling as spelling
use Rattle.kv_codec.proofs.KeysAgain.{by_places}
use Rattle.kv_codec.proofs.writing.encode_key.Goals as goal

pub returns-clause-ok : goal.returns-clause-ok
returns-clause-ok c =
    let ft : SFits w64 c.args.table = c.ranges.table in
    let fh : SFits w64 c.args.handle = c.ranges.handle in
    let t = c.to_be_bytes.ensures ∙ ap (to_be_bytes w64) (simp to_z-of_z at c.flip.ensures) in
    let h = c.to_be_bytes-2.ensures ∙ ap (to_be_bytes w64) (simp to_z-of_z at c.flip-2.ensures) in
    let key : c.key_bytes-key.result ≡ spelling.key c.args.table c.args.handle =
    c.key_bytes-key.ensures ∙ ap (λ (xs : List ℕ). key_by_places xs c.to_be_bytes-2.result) t ∙ ap (key_by_places (to_be_bytes w64 (flipped c.args.table))) h ∙ by_places c.args.table c.args.handle in
    on_ok_weaker c.append.result (λ e. e ∙ ap (λ (xs : List ℕ). c.args.into.now.items ++ xs) key) c.append.ensures.ok
