-- Packs and files, computed.
use Rattle.std.proofs.Common.{refl}
use Rattle.column_codec.specs.Spelling.{higher, number, uint, int, text, byte, null_part, ints, uints, texts, spelled}
use Rattle.pack_codec.specs.Spelling.{sized, counts, heads, pack}
use Rattle.column_file.specs.Tiny.{tiny}
use Rattle.stable_file.specs.Building as stable
use Rattle.format_examples.specs.Files.{FilesInBytes}

pub computed : FilesInBytes
unfolding higher number uint int text byte null_part ints uints texts spelled sized counts heads pack tiny stable.bits stable.number stable.numbers stable.sizes stable.handles stable.entry_of stable.footer stable.ending stable.file_of
computed = record { packed = refl; tiny_file = refl; stable_file = refl }
