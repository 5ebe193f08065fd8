-- A tiny file that is written is read again.
use Rattle.std.proofs.Common.{length, lit<}
use Rattle.column_file.specs.Tiny.{magic, magic_at, tiny_at, tiny}
use Rattle.column_file.specs.Laws.{TinyFilesAreReadAgain}
use Rattle.pack_codec.specs.declared.fault.FormError.TheVariants.{Damaged}
use Rattle.pack_codec.specs.Spelling.{pack}
use Rattle.pack_codec.proofs.FieldsAgain.{u32_again}
use Rattle.pack_codec.proofs.PackAgain.{packs_again}

pub tiny_again : TinyFilesAreReadAgain
unfolding tiny_at magic_at tiny
tiny_again columns versions few suits fits =
    let end = length (tiny columns versions) in
    rw (u32_again (Damaged end) magic (pack columns versions) (lit< tt)) (packs_again columns versions end few suits fits)
