-- The text of replies to reads.
use Rattle.std.specs.Prelude.{ℕ, ℤ, Option, Some, None, List, length, ◌++◌, codes}
use Rattle.std.specs.List.{flat_map}
use Rattle.std.specs.Fmt.{decimal, signed_decimal}
use Rattle.column_block.specs.declared.cell.Row.{Row}
use Rattle.flash_types.specs.declared.Epoch.{Epoch}
use Rattle.flash_types.specs.declared.refusal.Cut.{Cut}
use Rattle.flash_types.specs.declared.refusal.Wants.{Wants}
use Rattle.flash_types.specs.declared.refusal.Wants.TheVariants as wants
use Rattle.flash_types.specs.declared.refusal.Refusal.{Refusal}
use Rattle.flash_types.specs.declared.refusal.Refusal.TheVariants.{BelowSafePoint, NotYet, EpochNotMatch, Locked}
use Rattle.tool_text.specs.Texts.{line}
use Rattle.tool_text.specs.declared.reply.ReadReply.{ReadReply}
use Rattle.tool_text.specs.declared.reply.ReadReply.TheVariants as reply

-- ---- rows

-- a region and its applied index
abbrev pub cut_text : Cut → List ℕ
cut_text cut = (codes " " ++ decimal cut.region) ++ (codes ":" ++ decimal cut.index)

abbrev pub cuts_text : List Cut → List ℕ
cuts_text cuts = flat_map cut_text cuts

-- the end of a line, and the lines of the rows
unfoldable pub rows_text : List Row → List ℕ
rows_text rows = codes "\n" ++ flat_map line rows

unfoldable pub counted_rows_text : List Row → List ℕ
counted_rows_text rows = (codes " rows " ++ decimal (length rows)) ++ rows_text rows

unfoldable pub cuts_and_rows_text : List Cut → List Row → List ℕ
cuts_and_rows_text cuts rows = (codes " at" ++ cuts_text cuts) ++ counted_rows_text rows

-- ---- refusals

-- a region, and its index
unfoldable pub region_text : ℕ → ℕ → List ℕ
region_text region index = (codes " region " ++ decimal region) ++ (codes " index " ++ decimal index)

unfoldable pub applied_text : Option ℕ → List ℕ
applied_text None = codes " applied none"
applied_text (Some index) = codes " applied " ++ decimal index

unfoldable pub wants_text : Wants → List ℕ
wants_text (wants.Index index) = codes " wants index " ++ decimal index
wants_text (wants.Mark next mark) = (codes " wants mark " ++ decimal next) ++ (codes " " ++ decimal mark)

unfoldable pub waits_text : Option ℕ → Wants → List ℕ
waits_text applied wants = applied_text applied ++ wants_text wants

unfoldable pub not_yet_text : ℕ → Option ℕ → Wants → List ℕ
not_yet_text region applied wants = (codes " region " ++ decimal region) ++ waits_text applied wants

unfoldable pub found_text : Option Epoch → List ℕ
found_text None = codes " found none"
found_text (Some epoch) = (codes " found " ++ decimal epoch.conf_ver) ++ (codes " " ++ decimal epoch.version)

unfoldable pub epoch_mismatch_text : ℕ → ℕ → Option Epoch → List ℕ
epoch_mismatch_text region index found = region_text region index ++ found_text found

unfoldable pub lock_text : ℤ → ℕ → List ℕ
lock_text handle start = (codes " handle " ++ signed_decimal handle) ++ (codes " start " ++ decimal start)

unfoldable pub locked_text : ℕ → ℕ → ℤ → ℕ → List ℕ
locked_text region index handle start = region_text region index ++ lock_text handle start

abbrev pub refusal_text : Refusal → List ℕ
refusal_text (BelowSafePoint safe_point) = codes "below-safe-point " ++ decimal safe_point
refusal_text (NotYet region applied wants) = codes "not-yet" ++ not_yet_text region applied wants
refusal_text (EpochNotMatch region index found) = codes "epoch" ++ epoch_mismatch_text region index found
refusal_text (Locked region index handle start) = codes "locked" ++ locked_text region index handle start

-- ---- replies

unfoldable pub answer_text : ReadReply → List ℕ
answer_text (reply.Rows ts cuts rows) = (codes " ts " ++ decimal ts) ++ cuts_and_rows_text cuts rows
answer_text (reply.Refused refusal) = codes " refused " ++ refusal_text refusal ++ codes "\n"
answer_text reply.Device = codes " device\n"
answer_text (reply.Damaged at) = (codes " damaged " ++ decimal at) ++ codes "\n"

unfoldable pub reply_text : ℕ → ReadReply → List ℕ
reply_text k reply = (codes "read " ++ decimal k) ++ answer_text reply
