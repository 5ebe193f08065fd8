-- A tiny file that is read is the one spelling of its versions.
use Rattle.std.proofs.Common.{◌≡◌, ◌∙◌, ap, subst, ℕ, Bool, true, List, ◌++◌, length, Ok, arith}
use Rattle.std.specs.Prelude.{◌==◌}
use Rattle.std.specs.Int.{w32, to_be_bytes}
use Rattle.flash_list.specs.Fields.{number_at}
use Rattle.column_codec.specs.Laws.{AreBytes}
use Rattle.pack_codec.specs.declared.fault.FormError.TheVariants.{Damaged}
use Rattle.pack_codec.specs.Spelling.{pack}
use Rattle.pack_codec.proofs.Binds.{bind_ok, if_ok}
use Rattle.pack_codec.proofs.SpelledFields.{behind_are, u32_spelled}
use Rattle.pack_codec.proofs.SpelledPack.{pack_spelled}
use Rattle.column_file.specs.Laws.{TinyFilesHaveOneSpelling}
use Rattle.column_file.specs.Tiny.{magic, magic_at, tiny, tiny_at}

same : (m n : ℕ) → (m == n) ≡ true → m ≡ n
same m n h = grind arith

magic_spelled : (bytes rest : List ℕ) → AreBytes bytes → magic_at bytes ≡ Ok rest → bytes ≡ to_be_bytes w32 magic ++ rest
unfolding magic_at
magic_spelled bytes rest all e =
    let a = bind_ok (number_at w32 (Damaged (length bytes)) bytes) _ rest e in
    let b = if_ok (a.0.0 == magic) a.0.1 rest (Damaged 0) a.2 in
    u32_spelled (Damaged (length bytes)) bytes a.0 a.1 all ∙ (λ i. to_be_bytes w32 (same a.0.0 magic b.0 i) ++ b.1 i)

pub tiny_spelled : TinyFilesHaveOneSpelling
unfolding tiny_at tiny
tiny_spelled columns bytes versions all e =
    let a = bind_ok (magic_at bytes) _ versions e in
    let front = magic_spelled bytes a.0 all a.1 in
    front ∙ ap (λ (xs : List ℕ). to_be_bytes w32 magic ++ xs) (pack_spelled columns (length bytes) a.0 versions (behind_are (to_be_bytes w32 magic) a.0 (subst AreBytes front all)) a.2)
