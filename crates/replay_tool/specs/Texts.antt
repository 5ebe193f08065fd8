-- The texts of the commands.
use Rattle.std.specs.Prelude.{ℕ, List, ◌++◌, codes}
use Rattle.std.specs.Fmt.{decimal}

-- how many entries the log has, and how many reads the script
unfoldable pub check_text : ℕ → ℕ → List ℕ
check_text entries reads = (codes "ok " ++ decimal entries) ++ (codes " entries " ++ decimal reads) ++ codes " reads\n"
