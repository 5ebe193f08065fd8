-- The files of a disk in memory, as an image.
use Rattle.std.specs.Prelude.{ℕ, List, [], ◌++◌, ◌+◌, length, take, drop, Option, Some, None, Vec, cond, nat_le}
use Rattle.std.specs.Option.{option_map}
use Rattle.std.specs.Ordering.{nat_cmp, is_eq}
use Rattle.std.specs.BTreeMap.{BTreeMap, get}
use Rattle.std.specs.declared.alloc.Global.{Global}
use Rattle.std.specs.Arc.{arc_value}
use Rattle.std.specs.declared.sync.Arc.{Arc}
use Rattle.flash_io.specs.Image.{Image}

-- one file's bytes, shared with those who hold it
abbrev pub Content : Type 0
Content = Arc (Vec ℕ Global) Global

abbrev pub bytes_of : Content → List ℕ
bytes_of content = (arc_value content).items

abbrev pub Files : Type 0
Files = BTreeMap ℕ Content

abbrev pub image_of : Files → Image
image_of files file = option_map bytes_of (get nat_cmp files file)

-- the image with this in the place of one file
abbrev pub set_file : ℕ → Option (List ℕ) → Image → Image
set_file file content image other = cond (is_eq (nat_cmp file other)) content (image other)

-- the content with these bytes in the place of those from a place on, which is no later than its end
abbrev pub written : ℕ → List ℕ → List ℕ → List ℕ
written at bytes content = cond (nat_le at (length content)) (take at content ++ bytes ++ drop (at + length bytes) content) content

-- the calls of a shared list, of which there may be none
abbrev pub listed : Option (Arc (Vec ℕ Global) Global) → List ℕ
listed None = []
listed (Some list) = (arc_value list).items
