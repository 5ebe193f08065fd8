-- Flushes and compactions keep segments good.
use Rattle.std.proofs.Common.{◌≡◌, ◌∙◌, refl, sym, ap, subst, ℕ, ◌+◌, ◌-◌, ◌≤◌, ℤ, Bool, true, true≢false, List, [], ◌∷◌, ◌++◌, append_assoc, map, take, drop, slice_range, None, arith}
use Rattle.std.specs.List.{AllByRecursion, cons_option}
use Rattle.std.proofs.lemmas.List.{map-append, append-nil, take-append-drop, drop-drop, drop-map, take-map}
use Rattle.column_block.specs.declared.cell.Version.{Version}
use Rattle.column_block.proofs.Ordered.{each_weaker}
use Rattle.column_file.specs.declared.file.ColumnFile.{ColumnFile}
use Rattle.column_file.specs.declared.file.ColumnFile.TheVariants.{Mem, Tiny, DeleteRange}
use Rattle.flash_types.specs.declared.range.HandleRange.{HandleRange}
use Rattle.committed_log.specs.Log.{Log}
use Rattle.good_replica.specs.Changed.{of_parts, had}
use Rattle.good_replica.specs.Front.{front}
use Rattle.good_replica.specs.Good.{IsGoodOn, IsGoodSegment}
use Rattle.good_replica.specs.Trail.{DeltaFile, Puts, trail, steps_on, after_steps, after_versions, versions_on, wrote_unless_empty}
use Rattle.good_replica.proofs.Installs.{run_of_blocks}
use Rattle.delta_layer.specs.Files.{file_of, files_of, is_mem, is_tiny}
use Rattle.delta_layer.specs.Overlay.{block_in}
use Rattle.delta_layer.specs.Repacked.{ShowSame, Repacked, Flushed, Compacted, Then, first_mem, replaced}
use Rattle.delta_layer.proofs.Blocks.{IsBlock, blocks_show}
use Rattle.delta_layer.proofs.Layers.{parted}
use Rattle.prefix_laws.specs.Prefixes.{IsPrefixGood}
use Rattle.prefix_laws.specs.Tagged.{Tagged, content, file_in, files_at, tagged_of, with_tag}
use Rattle.prefix_laws.specs.Views.{AreBy}
use Rattle.prefix_laws.proofs.Replica.{one_count}
use Rattle.prefix_laws.proofs.Tagging.{at_both, all_by}
use Rattle.segment_laws.specs.Runs.{IsNamedRun, run_of, with_run}

mem_is : (f : ColumnFile) → is_mem f ≡ true → IsBlock f
mem_is (Mem block) e = tt
mem_is (Tiny file block) e = tt
mem_is (DeleteRange range) e = absurd (true≢false (sym e))

tiny_is : (f : ColumnFile) → is_tiny f ≡ true → IsBlock f
tiny_is (Mem block) e = tt
tiny_is (Tiny file block) e = tt
tiny_is (DeleteRange range) e = absurd (true≢false (sym e))

puts_of : (f : ColumnFile) → IsBlock f → file_of f ≡ Puts (block_in f)
puts_of (Mem block) is = refl
puts_of (Tiny file block) is = refl
puts_of (DeleteRange range) is = absurd is

all_puts : (run : List ColumnFile) → AllByRecursion IsBlock run → files_of run ≡ map Puts (map block_in run)
all_puts [] all = refl
all_puts (f ∷ run) all = (λ i. puts_of f all.0 i ∷ all_puts run all.1 i)

shown_one : (ts : ℕ) (vs : List Version) → after_steps ts None (cons_option (wrote_unless_empty vs) []) ≡ after_versions ts None vs
shown_one ts [] = refl
shown_one ts (v ∷ vs) = refl

module _ (log : Log) (A : ℕ → Bool) (m safe : ℕ) (range : HandleRange) (stable : List Version) where
  abbrev GoodOn : ℤ → List DeltaFile → Type 0
  GoodOn h fs = IsGoodOn log h (front log A h) m safe (trail h (of_parts range stable fs))

  abbrev Goal : List DeltaFile → Type 0
  Goal fs = IsGoodSegment log A m safe (of_parts range stable fs)

  -- a run of blocks gives way to one that shows the same
  pub pack_good : (before after : List DeltaFile) (run : List ColumnFile) (one : ColumnFile) → AllByRecursion IsBlock run → IsBlock one → ShowSame (one ∷ []) run →
      IsGoodSegment log A m safe (of_parts range stable (before ++ (files_of run ++ after))) → IsGoodSegment log A m safe (of_parts range stable (before ++ (file_of one ∷ after)))
  pack_good before after run one blocks block same good h held =
      subst (λ f. GoodOn h (before ++ (f ∷ after))) (sym (puts_of one block))
      (run_of_blocks log h (front log A h) m safe range stable (block_in one) before after (map block_in run) shown
      (subst (λ fs. GoodOn h (before ++ (fs ++ after))) (all_puts run blocks) (good h held)))
    where
      shown : (ts : ℕ) → had h (block_in one) ts ≡ after_steps ts None (steps_on h (map Puts (map block_in run)))
      shown ts =
          sym (shown_one ts (versions_on h (block_in one)))
          ∙ ap (λ f. after_steps ts None (steps_on h (f ∷ []))) (sym (puts_of one block))
          ∙ same h ts
          ∙ ap (λ fs. after_steps ts None (steps_on h fs)) (all_puts run blocks)

  -- files in the places from..to, with others behind them all
  replaced_good : (files : List ColumnFile) (others : List DeltaFile) (from to : ℕ) (one : ColumnFile) → from ≤ to → AllByRecursion IsBlock (slice_range files from to) → IsBlock one → ShowSame (one ∷ []) (slice_range files from to) →
      IsGoodSegment log A m safe (of_parts range stable (files_of files ++ others)) → IsGoodSegment log A m safe (of_parts range stable (files_of (replaced from to one files) ++ others))
  replaced_good files others from to one le blocks block same good =
      subst Goal (sym after_is) (pack_good (files_of (take from files)) (files_of (drop to files) ++ others) (slice_range files from to) one blocks block same (subst Goal before_is good))
    where
      before_is : files_of files ++ others ≡ files_of (take from files) ++ (files_of (slice_range files from to) ++ (files_of (drop to files) ++ others))
      before_is =
          ap (λ fs. files_of fs ++ others) (parted files from to le)
          ∙ ap (λ fs. fs ++ others) (map-append file_of (take from files) (slice_range files from to ++ drop to files) ∙ ap (λ fs. files_of (take from files) ++ fs) (map-append file_of (slice_range files from to) (drop to files)))
          ∙ append_assoc (files_of (take from files)) (files_of (slice_range files from to) ++ files_of (drop to files)) others
          ∙ ap (λ fs. files_of (take from files) ++ fs) (append_assoc (files_of (slice_range files from to)) (files_of (drop to files)) others)

      after_is : files_of (replaced from to one files) ++ others ≡ files_of (take from files) ++ (file_of one ∷ (files_of (drop to files) ++ others))
      after_is = ap (λ fs. fs ++ others) (map-append file_of (take from files) (one ∷ drop to files)) ∙ append_assoc (files_of (take from files)) (file_of one ∷ files_of (drop to files)) others

  -- a layer that came from another by flushes and compactions, with other files behind it
  pub repacked_good : (others : List DeltaFile) {old new : List ColumnFile} → Repacked old new → IsGoodSegment log A m safe (of_parts range stable (files_of old ++ others)) → IsGoodSegment log A m safe (of_parts range stable (files_of new ++ others))
  repacked_good others (Flushed files n one can) good =
      replaced_good files others (first_mem files) (first_mem files + n) one (omega arith) (each_weaker (λ (f : ColumnFile). is_mem f ≡ true) IsBlock mem_is (slice_range files (first_mem files) (first_mem files + n)) can.mems) (tiny_is one can.tiny) can.same good
  repacked_good others (Compacted files from to one can) good =
      replaced_good files others from to one (omega (arith, can.some)) (each_weaker (λ (f : ColumnFile). is_tiny f ≡ true) IsBlock tiny_is (slice_range files from to) can.tinies) (tiny_is one can.tiny) can.same good
  repacked_good others (Then old middle new first second) good = repacked_good others second (repacked_good others first good)

  pub repacked_alone : (old new : List ColumnFile) → Repacked old new → IsGoodSegment log A m safe (of_parts range stable (files_of old)) → IsGoodSegment log A m safe (of_parts range stable (files_of new))
  repacked_alone old new came good = subst Goal (append-nil (files_of new)) (repacked_good [] came (subst Goal (sym (append-nil (files_of old))) good))

-- A compaction, at each count: tiny files that are all named give way to one that is, with any files before and behind.
module _ (log : Log) (S : ℕ → ℕ → Bool) (m safe from last : ℕ) where
  pub compact : (range : HandleRange) (stable : List Version) (before after run : List Tagged) (one : Tagged) (files : List ColumnFile) (file : ColumnFile) → AreBy from run → one.tag ≤ from → map file_in run ≡ files_of files → one.file ≡ file_of file →
      AllByRecursion IsBlock files → IsBlock file → ShowSame (file ∷ []) files →
      IsPrefixGood log S m safe from last (tagged_of range stable (before ++ (run ++ after))) → IsPrefixGood log S m safe from last (tagged_of range stable (before ++ (one ∷ after)))
  compact range stable before after run one files file by by_one are is blocks block same good k begins ends =
      subst (λ fs. IsGoodSegment log (S k) m safe (of_parts range stable fs)) (sym after_is) (pack_good log (S k) m safe range stable (files_at k before) (files_at k after) files file blocks block same (subst (λ fs. IsGoodSegment log (S k) m safe (of_parts range stable fs)) before_is (good k begins ends)))
    where
      before_is : files_at k (before ++ (run ++ after)) ≡ files_at k before ++ (files_of files ++ files_at k after)
      before_is = at_both k before (run ++ after) ∙ ap (λ fs. files_at k before ++ fs) (at_both k run after ∙ ap (λ fs. fs ++ files_at k after) (all_by from k run by begins ∙ are))

      after_is : files_at k (before ++ (one ∷ after)) ≡ files_at k before ++ (file_of file ∷ files_at k after)
      after_is = at_both k before (one ∷ after) ∙ ap (λ fs. files_at k before ++ fs) (at_both k (one ∷ []) after ∙ ap (λ fs. fs ++ files_at k after) (all_by from k (one ∷ []) (by_one, tt) begins ∙ ap (λ f. f ∷ []) is))

-- ---- a run of tiny files, by its places

split_at : {X : Type 0} (xs : List X) (a b : ℕ) → a ≤ b → xs ≡ take a xs ++ (slice_range xs a b ++ drop b xs)
split_at xs a b le =
    let sum : a + (b - a) ≡ b = omega (arith, le) in
    sym (take-append-drop a xs)
    ∙ ap (λ ys. take a xs ++ ys) (sym (take-append-drop (b - a) (drop a xs)))
    ∙ ap (λ ys. take a xs ++ (slice_range xs a b ++ ys)) (drop-drop (b - a) a xs ∙ ap (λ n. drop n xs) sum)

slice_same : (files : List Tagged) (layer : List ColumnFile) (a b : ℕ) → map file_in files ≡ files_of layer → map file_in (slice_range files a b) ≡ files_of (slice_range layer a b)
slice_same files layer a b are =
    sym (take-map file_in (b - a) (drop a files))
    ∙ ap (take (b - a)) (sym (drop-map file_in a files) ∙ ap (drop a) are ∙ drop-map file_of a layer)
    ∙ take-map file_of (b - a) (drop a layer)

module _ (log : Log) (S : ℕ → ℕ → Bool) (m safe from last : ℕ) (range : HandleRange) (stable : List Version) where
  pub run_compacts : (files : List Tagged) (layer : List ColumnFile) (a b tag : ℕ) → IsNamedRun from tag layer a b files →
      IsPrefixGood log S m safe from last (tagged_of range stable files) → IsPrefixGood log S m safe from last (tagged_of range stable (with_run tag layer a b files))
  run_compacts files layer a b tag is good =
      compact log S m safe from last range stable (take a files) (drop b files) (slice_range files a b) (with_tag tag (Puts (run_of layer a b))) (slice_range layer a b) (Tiny 0 (run_of layer a b)) is.by is.one_by (slice_same files layer a b is.are) refl
      blocks (tt {0}) (blocks_show (slice_range layer a b) (Tiny 0 (run_of layer a b)) blocks (tt {0}) refl)
      (subst (λ fs. IsPrefixGood log S m safe from last (tagged_of range stable fs)) (split_at files a b (let many = is.run.many in omega (arith, many))) good)
    where
      blocks : AllByRecursion IsBlock (slice_range layer a b)
      blocks = each_weaker (λ (f : ColumnFile). is_tiny f ≡ true) IsBlock tiny_is (slice_range layer a b) is.run.tinies

-- at one count, for any set and mark
pub run_compacts_once : (log : Log) (A : ℕ → Bool) (m safe k : ℕ) (range : HandleRange) (stable : List Version) (files : List Tagged) (layer : List ColumnFile) (a b tag : ℕ) → IsNamedRun k tag layer a b files →
    IsGoodSegment log A m safe (content k (tagged_of range stable files)) → IsGoodSegment log A m safe (content k (tagged_of range stable (with_run tag layer a b files)))
run_compacts_once log A m safe k range stable files layer a b tag is good = run_compacts log (λ _. A) m safe k k range stable files layer a b tag is (one_count log A m safe k (tagged_of range stable files) good) k (omega arith) (omega arith)
