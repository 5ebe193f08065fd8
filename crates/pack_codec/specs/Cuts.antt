-- Column lists as a reader makes cells of them.
use Rattle.column_codec.specs.declared.list.ColumnList.{ColumnList}
use Rattle.column_codec.specs.declared.list.ColumnList.TheVariants as list
use Rattle.pack_codec.specs.declared.cuts.Values.{Values}
use Rattle.pack_codec.specs.declared.cuts.Values.TheVariants as cut

abbrev pub list_of : Values → ColumnList
list_of (cut.Int values) = list.Int values
list_of (cut.Uint values) = list.Uint values
list_of (cut.Bytes values) = list.Bytes values
