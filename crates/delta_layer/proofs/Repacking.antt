-- Layers in which one file stands for several show the same.
use Rattle.std.proofs.Common.{◌≡◌, ◌∙◌, refl, sym, ap, ℕ, ℤ, ◌+◌, true, false, true≢false, List, [], ◌∷◌, ◌++◌, take, drop, slice_range, Option, None, arith, lit≤, lit<}
use Rattle.std.proofs.lemmas.List.{map-append}
use Rattle.std.proofs.lemmas.List.Elements.{filter-append, filter_map-append}
use Rattle.std.specs.Ordering.{int_eq}
use Rattle.std.proofs.lemmas.List.Sums.{fold-append}
use Rattle.std.specs.List.{AllByRecursion, cons_option}
use Rattle.std.specs.Option.{option_or}
use Rattle.column_block.specs.declared.cell.Version.{Version}
use Rattle.column_file.specs.declared.file.ColumnFile.{ColumnFile}
use Rattle.column_file.specs.declared.file.ColumnFile.TheVariants.{Mem, Tiny, DeleteRange}
use Rattle.good_replica.specs.Changed.{view, had}
use Rattle.good_replica.specs.Trail.{Step, Puts, steps_on, step_on, wrote_unless_empty, versions_on, after_version, after_versions, after_step, after_steps}
use Rattle.good_replica.proofs.Steps.{clear, steps_over}
use Rattle.delta_layer.specs.Files.{file_of, files_of, is_mem, is_tiny}
use Rattle.delta_layer.specs.Repacked.{first_mem, CanFlush, CanCompact, ShowSame, Repacked, Flushed, Compacted, Then}
use Rattle.delta_layer.proofs.Layers.{parted}
use Rattle.column_block.proofs.Ordered.{each_weaker}

steps_both : (h : ℤ) (files others : List ColumnFile) → steps_on h (files_of (files ++ others)) ≡ steps_on h (files_of files) ++ steps_on h (files_of others)
steps_both h files others = ap (steps_on h) (map-append file_of files others) ∙ filter_map-append (step_on h) (files_of files) (files_of others)

after_both : (h : ℤ) (ts : ℕ) (o : Option Version) (files others : List ColumnFile) → after_steps ts o (steps_on h (files_of (files ++ others))) ≡ after_steps ts (after_steps ts o (steps_on h (files_of files))) (steps_on h (files_of others))
after_both h ts o files others = ap (after_steps ts o) (steps_both h files others) ∙ fold-append (after_step ts) o (steps_on h (files_of files)) (steps_on h (files_of others))

-- a file that has versions and no delete-range
abbrev IsBlock : ColumnFile → Type 0
IsBlock (DeleteRange range) = ⊥
IsBlock _ = Unit {0}

mem_is : (f : ColumnFile) → is_mem f ≡ true → IsBlock f
mem_is (Mem block) e = tt
mem_is (Tiny file block) e = tt
mem_is (DeleteRange range) e = absurd (true≢false (sym e))

tiny_is : (f : ColumnFile) → is_tiny f ≡ true → IsBlock f
tiny_is (Mem block) e = tt
tiny_is (Tiny file block) e = tt
tiny_is (DeleteRange range) e = absurd (true≢false (sym e))

no_clear_in : (vs : List Version) (steps : List Step) → clear steps ≡ false → clear (cons_option (wrote_unless_empty vs) steps) ≡ false
no_clear_in [] steps none = none
no_clear_in (v ∷ vs) steps none = none

no_clear : (h : ℤ) (files : List ColumnFile) → AllByRecursion IsBlock files → clear (steps_on h (files_of files)) ≡ false
no_clear h [] all = refl
no_clear h (Mem block ∷ files) all = no_clear_in (versions_on h block) (steps_on h (files_of files)) (no_clear h files all.1)
no_clear h (Tiny file block ∷ files) all = no_clear_in (versions_on h block) (steps_on h (files_of files)) (no_clear h files all.1)
no_clear h (DeleteRange range ∷ files) all = absurd all.0

module _ (h : ℤ) (ts : ℕ) where
  blocks_same : (o : Option Version) (files others : List ColumnFile) → AllByRecursion IsBlock files → AllByRecursion IsBlock others → ShowSame files others → after_steps ts o (steps_on h (files_of files)) ≡ after_steps ts o (steps_on h (files_of others))
  blocks_same o files others blocks other_blocks same =
      steps_over ts o (steps_on h (files_of files)) (no_clear h files blocks) ∙ ap (λ x. option_or x o) (same h ts) ∙ sym (steps_over ts o (steps_on h (files_of others)) (no_clear h others other_blocks))

  replaced_same : (o : Option Version) (before run after : List ColumnFile) (one : ColumnFile) → AllByRecursion IsBlock run → IsBlock one → ShowSame (one ∷ []) run
      → after_steps ts o (steps_on h (files_of (before ++ one ∷ after))) ≡ after_steps ts o (steps_on h (files_of (before ++ (run ++ after))))
  replaced_same o before run after one blocks tiny same =
      let below = after_steps ts o (steps_on h (files_of before)) in
      after_both h ts o before (one ∷ after)
      ∙ after_both h ts below (one ∷ []) after
      ∙ ap (λ x. after_steps ts x (steps_on h (files_of after))) (blocks_same below (one ∷ []) run (tiny, tt) blocks same)
      ∙ sym (after_both h ts below run after)
      ∙ sym (after_both h ts o before (run ++ after))

pub repacked_same : {old new : List ColumnFile} → Repacked old new → (stable : List Version) (h : ℤ) (ts : ℕ) → view h stable (files_of new) ts ≡ view h stable (files_of old) ts
repacked_same (Flushed files n one can) stable h ts =
    let from = first_mem files in
    replaced_same h ts (had h stable ts) (take from files) (slice_range files from (from + n)) (drop (from + n) files) one
    (each_weaker (λ (f : ColumnFile). is_mem f ≡ true) IsBlock mem_is (slice_range files from (from + n)) can.mems) (tiny_is one can.tiny) can.same
    ∙ ap (λ fs. after_steps ts (had h stable ts) (steps_on h (files_of fs))) (sym (parted files from (from + n) (omega arith)))
repacked_same (Compacted files from to one can) stable h ts =
    replaced_same h ts (had h stable ts) (take from files) (slice_range files from to) (drop to files) one
    (each_weaker (λ (f : ColumnFile). is_tiny f ≡ true) IsBlock tiny_is (slice_range files from to) can.tinies) (tiny_is one can.tiny) can.same
    ∙ ap (λ fs. after_steps ts (had h stable ts) (steps_on h (files_of fs))) (sym (parted files from to (omega (arith, can.some))))
repacked_same (Then old middle new first second) stable h ts = repacked_same second stable h ts ∙ repacked_same first stable h ts

-- ---- two blocks and one with the versions of both

wrote : (ts : ℕ) (o : Option Version) (vs : List Version) (rest : List Step) → after_steps ts o (cons_option (wrote_unless_empty vs) rest) ≡ after_steps ts (after_versions ts o vs) rest
wrote ts o [] rest = refl
wrote ts o (v ∷ vs) rest = refl

pub both_show : (first second : List Version) (f g one : ColumnFile) → file_of f ≡ Puts first → file_of g ≡ Puts second → file_of one ≡ Puts (first ++ second) → ShowSame (one ∷ []) (f ∷ g ∷ [])
both_show first second f g one f_is g_is one_is h ts =
    ap (λ x. after_steps ts None (steps_on h (x ∷ []))) one_is
    ∙ wrote ts None (versions_on h (first ++ second)) []
    ∙ ap (after_versions ts None) (filter-append (λ (v : Version). int_eq v.handle h) first second)
    ∙ fold-append (after_version ts) None (versions_on h first) (versions_on h second)
    ∙ sym (wrote ts (after_versions ts None (versions_on h first)) (versions_on h second) [])
    ∙ sym (wrote ts None (versions_on h first) (cons_option (wrote_unless_empty (versions_on h second)) []))
    ∙ sym (λ i. after_steps ts None (steps_on h (f_is i ∷ g_is i ∷ [])))

pub pair_can_flush : (first second : List Version) (file : ℕ) → CanFlush 2 (Tiny file (first ++ second)) (Mem first ∷ Mem second ∷ [])
pair_can_flush first second file = record {
  some = lit≤ tt;
  within = lit≤ tt;
  mems = (refl, (refl, tt));
  tiny = refl;
  same = both_show first second (Mem first) (Mem second) (Tiny file (first ++ second)) refl refl refl;
}

pub pair_can_compact : (first second : List Version) (a b file : ℕ) → CanCompact 0 2 (Tiny file (first ++ second)) (Tiny a first ∷ Tiny b second ∷ [])
pair_can_compact first second a b file = record {
  some = lit< tt;
  within = lit≤ tt;
  tinies = (refl, (refl, tt));
  tiny = refl;
  same = both_show first second (Tiny a first) (Tiny b second) (Tiny file (first ++ second)) refl refl refl;
}
