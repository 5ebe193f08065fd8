-- What opens for an example to be computed: the readers and writers of keys, records and rows, and the texts of rows.
use Rattle.std.specs.Fmt.{digits}
use Rattle.kv_codec.specs.Keys.{text_at, handle_of, record_at, parts_at}
use Rattle.kv_codec.specs.Records.{number_at, kind_at, sized_at, short_at, write_at, lock_kind_at, text_at as sized_text_at, ttl_at, lock_at}
use Rattle.kv_codec.specs.Spelling.{number, write, lock, encoded, key}
use Rattle.log_codec.specs.Spelling.{op, body, payload}
use Rattle.row_codec.specs.Numbers.{numbers}
use Rattle.row_codec.specs.Rows.{checked_row, row_behind_head, row_at}
use Rattle.tool_text.specs.Texts.{line}

unfoldable pub readers : Unit {0}
unfolding digits text_at handle_of record_at parts_at number_at kind_at sized_at short_at write_at lock_kind_at sized_text_at ttl_at lock_at number write lock encoded key op body payload numbers checked_row row_behind_head row_at line
readers = tt
