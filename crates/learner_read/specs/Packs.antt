-- The packs of a piece's stable part, and which of them a scan reads.
use Rattle.std.specs.Prelude.{ℕ, zero, suc, ℤ, Bool, true, false, ◌&&◌, ◌||◌, Option, Some, None, List, [], ◌∷◌, fold, int_le, slice_get, slice_index_or, if◌then◌else◌, Result, Ok}
use Rattle.std.specs.List.{list_any}
use Rattle.column_block.specs.declared.cell.Version.{Version}
use Rattle.column_block.specs.declared.column.Bound.{Bound}
use Rattle.column_block.specs.declared.column.Column.{Column}
use Rattle.column_block.specs.declared.column.MinMax.TheVariants.{Empty}
use Rattle.column_file.specs.declared.file.ColumnFile.{ColumnFile}
use Rattle.delta_index.specs.Indexes.{Entry}
use Rattle.delta_layer.specs.Files.{index_of}
use Rattle.delta_layer.specs.Stable.{with_pack}
use Rattle.delta_layer.specs.declared.view.SegmentView.{SegmentView}
use Rattle.flash_types.specs.Ranges.{is_below}
use Rattle.flash_types.specs.declared.range.HandleRange.{HandleRange}
use Rattle.flash_types.specs.declared.refusal.Cut.{Cut}
use Rattle.pack_codec.specs.declared.fault.FormError.{FormError}
use Rattle.sieve.specs.Sieves.{may_pass}
use Rattle.stable_file.specs.Opened.{grip_of, packs_of, schema_of}
use Rattle.stable_file.specs.declared.file.StableFile.{StableFile}
use Rattle.stable_file.specs.declared.pack.Pack.{Pack}
use Rattle.learner_read.specs.declared.snapshot.Snapshot.{Snapshot}

-- ---- a stable part

-- its packs, as the footer tells them; no part has none
abbrev pub packs_in : {G : Type 0} → Option (StableFile G) → List Pack
packs_in None = []
packs_in (Some file) = packs_of file

-- The versions of packs behind those that were read before, or the first place where they aren't of the form.
abbrev pub read_in : {G : Type 0} → (G → List ℕ) → Option (StableFile G) → List Version → List Pack → Result (List Version) FormError
read_in bytes None before packs = Ok before
read_in bytes (Some file) before packs = fold (with_pack (schema_of file) (bytes (grip_of file))) (Ok before) packs

-- ---- which packs are read

-- whether a range may hold a handle from the least to the greatest: the least is below its end, and the greatest not below its low end
abbrev pub reaches : HandleRange → ℤ → ℤ → Bool
reaches range least greatest = is_below least range.high && int_le range.low greatest

-- whether a read may ask for handles from the least to the greatest: the piece's range, the clip and the range of a cut may hold one
abbrev pub is_wanted : HandleRange → List Cut → HandleRange → ℤ → ℤ → Bool
is_wanted clip cuts range least greatest = reaches range least greatest && (reaches clip least greatest && list_any (λ (cut : Cut). reaches cut.range least greatest) cuts)

-- whether rows with the numbers that the footer tells of a pack may pass a test that keeps the bound
abbrev pub may_hold : Option Bound → Pack → Bool
may_hold None pack = true
may_hold (Some bound) pack = may_pass (Some bound) bound.column (slice_index_or pack.ranges bound.column Empty)

-- whether a delta has a version of a handle from the least to the greatest
abbrev pub delta_has : List ColumnFile → ℤ → ℤ → Bool
delta_has files least greatest = list_any (λ (entry : Entry). int_le least entry.0.0 && int_le entry.0.0 greatest) (index_of files)

-- whether the pack before ends with the pack's least handle, and whether the one behind begins with its greatest (handles never fall from one pack to the next)
abbrev pub goes_on_from : Option Pack → Pack → Bool
goes_on_from None pack = false
goes_on_from (Some before) pack = int_le pack.low before.high

-- the pack before a place
abbrev pub before_of : List Pack → ℕ → Option Pack
before_of packs zero = None
before_of packs (suc k) = slice_get packs k

abbrev pub goes_on_in : Pack → Option Pack → Bool
goes_on_in pack None = false
goes_on_in pack (Some after) = int_le after.low pack.high

-- Whether a scan reads a pack that stands between these: its handles are wanted, and its rows may pass, or are not its own alone, since the delta or a neighbour may have versions of them.
abbrev pub is_read : {G : Type 0} → Snapshot G → Option Bound → SegmentView G → Option Pack → Pack → Option Pack → Bool
is_read snapshot bound piece before pack after =
    is_wanted snapshot.clip snapshot.cuts piece.range pack.low pack.high && (may_hold bound pack || (delta_has piece.delta pack.low pack.high || (goes_on_from before pack || goes_on_in pack after)))

-- the packs that a scan reads of these, which stand behind another one, if there is one
abbrev pub read_of : {G : Type 0} → Snapshot G → Option Bound → SegmentView G → Option Pack → List Pack → List Pack
read_of snapshot bound piece before [] = []
read_of snapshot bound piece before (pack ∷ more) = if is_read snapshot bound piece before pack (slice_get more 0) then pack ∷ read_of snapshot bound piece (Some pack) more else read_of snapshot bound piece (Some pack) more
