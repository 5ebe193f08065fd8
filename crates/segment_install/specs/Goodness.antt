-- What installs keep good.
use Rattle.std.specs.Prelude.{◌≡◌, ◌≤◌, ℕ, Bool, Ok, Option, List, map}
use Rattle.std.specs.List.{AllByRecursion}
use Rattle.column_block.specs.declared.cell.Version.{Version}
use Rattle.column_block.specs.declared.column.Column.{Column}
use Rattle.committed_log.specs.Lawful.{IsLawful}
use Rattle.committed_log.specs.Log.{Log}
use Rattle.delta_layer.specs.Built.{AreTwo, IsOne}
use Rattle.delta_layer.specs.Stable.{stable_in}
use Rattle.delta_layer.specs.declared.built.Built.{Built}
use Rattle.delta_layer.specs.declared.built.Job.{Job}
use Rattle.delta_layer.specs.declared.built.Job.TheVariants.{Compact, MergeDelta, Split, Merge}
use Rattle.delta_layer.specs.declared.built.Piece.{Piece}
use Rattle.delta_layer.specs.declared.view.SegmentView.{SegmentView}
use Rattle.flash_types.specs.Ranges.{least_handle}
use Rattle.good_replica.specs.Good.{AreGood, CoversFrom}
use Rattle.prefix_laws.specs.Prefixes.{ArePrefixesGood, AreSteps}
use Rattle.prefix_laws.specs.Tagged.{content}
use Rattle.segment_laws.specs.Jobs.{IsBuilt}
use Rattle.segment_list.specs.Laws.{told_by}
use Rattle.segment_list.specs.Lists.{range_alone, with_slots}
use Rattle.segment_list.specs.Order.{IsSlot}
use Rattle.segment_list.specs.Slots.{Slotted}
use Rattle.stable_file.specs.declared.file.StableFile.{StableFile}
use Rattle.segment_install.specs.Plans.{CanInstall, IsPlan}
use Rattle.segment_install.specs.declared.part.Files.{Files}
use Rattle.segment_install.specs.declared.planned.Install.{Install}

module _ {G : Type 0} where
  -- the open files have what the pieces have
  abbrev pub FilesHave : (Option (StableFile G) → List Version) → Files G → Job → List Piece → Type 0
  FilesHave read files (Compact seg) pieces = Unit {0}
  FilesHave read files (MergeDelta seg) pieces = IsOne (λ (piece : Piece). read files.low ≡ piece.versions) pieces
  FilesHave read files (Split seg) pieces = AreTwo (λ (low high : Piece). (read files.low ≡ low.versions) × (read files.high ≡ high.versions)) pieces
  FilesHave read files (Merge seg) pieces = IsOne (λ (piece : Piece). read files.low ≡ piece.versions) pieces

-- An install of what was built where a grip's bytes are known: the slots cover the handles and are in order, with `committed` of the `last` entries named; the stable parts of the views read as `read` says; the safe point is at least the one that was built with; and the open files have what the pieces have.
pub record IsInstall {G : Type 0} (tells : Type 0) (bytes : G → List ℕ) (columns : List Column) (rows : ℕ) (read : Option (StableFile G) → List Version) (safe committed last first : ℕ) (files : Files G) (built : Built G) (slots : List (Slotted G)) (install : Install G) : Type 0 where
  pub known : tells
  pub built_is : IsBuilt tells bytes columns rows built
  pub can : CanInstall first built slots
  pub plan : IsPlan first files built slots install
  pub cover : CoversFrom least_handle (map range_alone slots)
  pub order : AllByRecursion (IsSlot committed last) slots
  pub views : AllByRecursion (λ (v : SegmentView G). stable_in bytes v.stable ≡ Ok (read v.stable)) built.views
  pub safe_point : built.safe_point ≤ safe
  pub have : FilesHave read files built.job built.pieces

-- the slots once the install is put
abbrev pub slots_after : {G : Type 0} → Install G → List (Slotted G) → List (Slotted G)
slots_after install slots = with_slots install.place install.count install.slots.items slots

-- What is there at each count is good as before, where all applied entries are below the mark.
abbrev pub InstallsKeepCounts : {G : Type 0} → Type 0 → (G → List ℕ) → Type 0
InstallsKeepCounts {G} tells bytes = (log : Log) → IsLawful log → (S : ℕ → ℕ → Bool) (m safe committed last : ℕ) → AreSteps S m last → committed ≤ last → (columns : List Column) (rows : ℕ) (read : Option (StableFile G) → List Version) (first : ℕ) (files : Files G) (built : Built G) (slots : List (Slotted G)) (install : Install G) →
    IsInstall tells bytes columns rows read safe committed last first files built slots install →
    ArePrefixesGood log S m safe committed last (map (told_by read) slots) →
    ArePrefixesGood log S m safe committed last (map (told_by read) (slots_after install slots))

-- All that is there is good as before, for any entries and any mark.
abbrev pub InstallsKeepAll : {G : Type 0} → Type 0 → (G → List ℕ) → Type 0
InstallsKeepAll {G} tells bytes = (log : Log) → IsLawful log → (A : ℕ → Bool) (m safe committed last : ℕ) → committed ≤ last → (columns : List Column) (rows : ℕ) (read : Option (StableFile G) → List Version) (first : ℕ) (files : Files G) (built : Built G) (slots : List (Slotted G)) (install : Install G) →
    IsInstall tells bytes columns rows read safe committed last first files built slots install →
    AreGood log A m safe (map (content last) (map (told_by read) slots)) →
    AreGood log A m safe (map (content last) (map (told_by read) (slots_after install slots)))

-- Slots that are in order give way to slots that are.
abbrev pub InstallsKeepOrder : Type 0 → Type 0
InstallsKeepOrder G = (committed last first : ℕ) (files : Files G) (built : Built G) (slots : List (Slotted G)) (install : Install G) → CanInstall first built slots → CoversFrom least_handle (map range_alone slots) → IsPlan first files built slots install → AllByRecursion (IsSlot committed last) slots → AllByRecursion (IsSlot committed last) (slots_after install slots)
