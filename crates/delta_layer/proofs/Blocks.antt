-- Blocks whose versions, one behind the other, take their place.
use Rattle.std.proofs.Common.{◌≡◌, ◌∙◌, refl, sym, ap, ℕ, ◌+◌, ◌<◌, ◌≤◌, ℤ, true, true≢false, List, [], ◌∷◌, length, slice_range, Option, None}
use Rattle.std.specs.Ordering.{int_eq}
use Rattle.std.proofs.lemmas.List.Elements.{filter-append}
use Rattle.std.proofs.lemmas.List.Sums.{fold-append}
use Rattle.std.specs.List.{AllByRecursion, cons_option, flat_map}
use Rattle.column_block.specs.declared.cell.Version.{Version}
use Rattle.column_block.proofs.Ordered.{each_weaker}
use Rattle.column_file.specs.declared.file.ColumnFile.{ColumnFile}
use Rattle.column_file.specs.declared.file.ColumnFile.TheVariants.{Mem, Tiny, DeleteRange}
use Rattle.good_replica.specs.Trail.{Puts, Step, steps_on, after_steps, after_version, after_versions, versions_on, wrote_unless_empty}
use Rattle.delta_layer.specs.Files.{file_of, files_of, is_mem, is_tiny}
use Rattle.delta_layer.specs.Overlay.{block_in}
use Rattle.delta_layer.specs.Repacked.{ShowSame, CanFlush, CanCompact, first_mem}

-- a file that has versions and is no delete-range
abbrev pub IsBlock : ColumnFile → Type 0
IsBlock (DeleteRange range) = ⊥
IsBlock _ = Unit {0}

mem_is : (f : ColumnFile) → is_mem f ≡ true → IsBlock f
mem_is (Mem block) e = tt
mem_is (Tiny file block) e = tt
mem_is (DeleteRange range) e = absurd (true≢false (sym e))

tiny_is : (f : ColumnFile) → is_tiny f ≡ true → IsBlock f
tiny_is (Mem block) e = tt
tiny_is (Tiny file block) e = tt
tiny_is (DeleteRange range) e = absurd (true≢false (sym e))

puts_of : (f : ColumnFile) → IsBlock f → file_of f ≡ Puts (block_in f)
puts_of (Mem block) is = refl
puts_of (Tiny file block) is = refl
puts_of (DeleteRange range) is = absurd is

shown_one : (ts : ℕ) (vs : List Version) → after_steps ts None (cons_option (wrote_unless_empty vs) []) ≡ after_versions ts None vs
shown_one ts [] = refl
shown_one ts (v ∷ vs) = refl

-- ---- the versions of several blocks, one behind the other, show what the blocks show
wrote : (ts : ℕ) (o : Option Version) (vs : List Version) (rest : List Step) → after_steps ts o (cons_option (wrote_unless_empty vs) rest) ≡ after_steps ts (after_versions ts o vs) rest
wrote ts o [] rest = refl
wrote ts o (v ∷ vs) rest = refl

run_shows : (h : ℤ) (ts : ℕ) (o : Option Version) (run : List ColumnFile) → AllByRecursion IsBlock run → after_versions ts o (versions_on h (flat_map block_in run)) ≡ after_steps ts o (steps_on h (files_of run))
run_shows h ts o [] all = refl
run_shows h ts o (f ∷ run) all =
    ap (after_versions ts o) (filter-append (λ (v : Version). int_eq v.handle h) (block_in f) (flat_map block_in run))
    ∙ fold-append (after_version ts) o (versions_on h (block_in f)) (versions_on h (flat_map block_in run))
    ∙ run_shows h ts (after_versions ts o (versions_on h (block_in f))) run all.1
    ∙ sym (wrote ts o (versions_on h (block_in f)) (steps_on h (files_of run)))
    ∙ ap (λ g. after_steps ts o (steps_on h (g ∷ files_of run))) (sym (puts_of f all.0))

pub blocks_show : (run : List ColumnFile) (one : ColumnFile) → AllByRecursion IsBlock run → IsBlock one → block_in one ≡ flat_map block_in run → ShowSame (one ∷ []) run
blocks_show run one all block is h ts =
    ap (λ g. after_steps ts None (steps_on h (g ∷ []))) (puts_of one block)
    ∙ shown_one ts (versions_on h (block_in one))
    ∙ ap (λ vs. after_versions ts None (versions_on h vs)) is
    ∙ run_shows h ts None run all

pub can_flush : (files : List ColumnFile) (n file : ℕ) → 1 ≤ n → first_mem files + n ≤ length files → AllByRecursion (λ (f : ColumnFile). is_mem f ≡ true) (slice_range files (first_mem files) (first_mem files + n)) →
    CanFlush n (Tiny file (flat_map block_in (slice_range files (first_mem files) (first_mem files + n)))) files
can_flush files n file some within mems = record {
  some = some;
  within = within;
  mems = mems;
  tiny = refl;
  same = blocks_show (slice_range files (first_mem files) (first_mem files + n)) (Tiny file (flat_map block_in (slice_range files (first_mem files) (first_mem files + n)))) (each_weaker (λ (f : ColumnFile). is_mem f ≡ true) IsBlock mem_is (slice_range files (first_mem files) (first_mem files + n)) mems) (tt {0}) refl;
}

pub can_compact : (files : List ColumnFile) (from to file : ℕ) → from < to → to ≤ length files → AllByRecursion (λ (f : ColumnFile). is_tiny f ≡ true) (slice_range files from to) →
    CanCompact from to (Tiny file (flat_map block_in (slice_range files from to))) files
can_compact files from to file some within tinies = record {
  some = some;
  within = within;
  tinies = tinies;
  tiny = refl;
  same = blocks_show (slice_range files from to) (Tiny file (flat_map block_in (slice_range files from to))) (each_weaker (λ (f : ColumnFile). is_tiny f ≡ true) IsBlock tiny_is (slice_range files from to) tinies) (tt {0}) refl;
}
