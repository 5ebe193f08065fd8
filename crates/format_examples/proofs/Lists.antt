-- Lists, computed.
use Rattle.std.proofs.Common.{refl}
use Rattle.column_codec.specs.Numbers.{higher_at, number_at, uint_at, int_at, text_at}
use Rattle.column_codec.specs.Nulls.{flag_at, bits_at, bitmap_at}
use Rattle.column_codec.specs.Lists.{values_at, value_at, ended, of_mode, list_of, ints_of, uints_of, texts_of, list_at}
use Rattle.column_codec.specs.Spelling.{higher, number, uint, int, text, byte, null_part, ints, uints, texts, spelled}
use Rattle.format_examples.specs.Lists.{ListsInBytes, BytesAsLists}

pub written : ListsInBytes
unfolding higher number uint int text byte null_part ints uints texts spelled
written = record { several = refl; equal = refl; one = refl; texts = refl; no_ints = refl; no_uints = refl; no_texts = refl }

pub read : BytesAsLists
unfolding higher_at number_at uint_at int_at text_at flag_at bits_at bitmap_at values_at value_at ended of_mode list_of ints_of uints_of texts_of list_at
read = record { several = refl; equal = refl; texts = refl; other_mode = refl; too_long = refl }
