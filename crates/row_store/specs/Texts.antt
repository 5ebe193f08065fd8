-- What is printed of the rows at a log's end.
use Rattle.std.specs.Prelude.{ℕ, List, ◌++◌, length, codes}
use Rattle.std.specs.List.{flat_map}
use Rattle.std.specs.Fmt.{decimal}
use Rattle.tool_text.specs.Texts.{line}
use Rattle.committed_log.specs.Log.{Log}
use Rattle.committed_log.specs.Reads.{rows_at_end}

abbrev pub show_text : Log → ℕ → List ℕ
show_text log ts = flat_map line (rows_at_end log ts) ++ codes "rows " ++ decimal (length (rows_at_end log ts)) ++ codes "\n"
