use Rattle.std.proofs.Common.{ℕ, List, [], ◌∷◌, ◌++◌, subst}
use Rattle.flash_put.specs.Appending.{Appends}
use Rattle.flash_put.proofs.Appending.{more}
use Rattle.column_codec.specs.Lists.{given}
use Rattle.column_codec.specs.Spelling as spelling
use Rattle.column_codec.proofs.write.put_uint_list.Goals as goal

pub returns : goal.returns
unfolding spelling.uints
returns c =
    let r = c.put_uint_values.result in
    let old = c.args.into.now.items in
    let new = c.put_uint_values.new.into.items in
    let values = c.args.values.now in
    let nulls = spelling.null_part (spelling.are_null values) in
    let body : ℕ → List ℕ = λ mode. spelling.each spelling.uint (λ n. n) 0 (spelling.shown mode (given values)) in
    let mode = c.mode_of-mode.result in
    let tail = more r c.put_u8.new.into.items nulls (body mode) c.put_nulls.new.into.items new c.in_ok-put_nulls.ensures c.put_uint_values.ensures in
    let all = more r old (mode ∷ []) (nulls ++ body mode) c.put_u8.new.into.items new c.in_ok-put_u8.ensures tail in
    subst (λ k. Appends r old (k ∷ (nulls ++ body k)) new) c.mode_of-mode.ensures all
