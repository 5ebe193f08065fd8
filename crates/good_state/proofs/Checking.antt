-- What a checkpoint keeps, where all files are named.
use Rattle.std.proofs.Common.{◌≡◌, ◌∙◌, ℕ, ◌<◌, ◌≤◌, Bool, true, List, [], ◌∷◌, ◌++◌, length, map, replicate, refl, sym, subst, arith}
use Rattle.good_replica.specs.Changed.{of_parts}
use Rattle.prefix_laws.specs.Tagged.{content, files_at}
use Rattle.prefix_laws.specs.Views.{AreBy}
use Rattle.prefix_laws.proofs.Replica.{later_from}
use Rattle.prefix_laws.proofs.Tagging.{all_by}
use Rattle.segment_list.specs.Laws.{told_by}
use Rattle.segment_list.specs.Slots.{Slotted, tagged, tags_of}
use Rattle.segment_snapshot.specs.Rights.{stable_of}
use Rattle.replica_state.specs.Core.{Core, IsCore, full, upto}
use Rattle.replica_state.proofs.Sets.{upto_all}
use Rattle.replica_state.specs.Changes.{AllNamed, checkpointed, with_flushes}
use Rattle.replica_state.proofs.Flushes.{no_fewer_slots}
use Rattle.segment_flush.specs.Flushing.{after_slots, has_more}
use Rattle.committed_log.specs.Lawful.{IsLawful}
use Rattle.good_state.proofs.Flushing.{flush_follows, flush_good}
use Rattle.good_state.specs.Follows.{StateFollows}
use Rattle.good_state.specs.Good.{IsGoodState, told, segments_at, committed_set}
use Rattle.good_state.proofs.Applying.{named_by}

module _ {G : Type 0} (s : Core G) (is : IsCore s) (next high generation : ℕ) where
  abbrev now : Core G
  now = checkpointed next high generation s

  pub checked_set : committed_set now ≡ full s
  checked_set = upto_all s is.sets.applied (length s.listed) (omega arith)

  pub checked_follows : after_slots has_more s.numbers.next s.slots < next → s.numbers.high ≤ high → s.numbers.generation ≤ generation → StateFollows now s
  checked_follows above no_lower no_younger =
      let flushed = flush_follows s is has_more high no_lower in
      let more = no_fewer_slots has_more s.numbers.next s.slots in
      record {
        log = flushed.log;
        settings = flushed.settings;
        mark = flushed.mark;
        opened = flushed.opened;
        listed = flushed.listed;
        count = flushed.count;
        committed = is.sets.committed;
        high = no_lower;
        safe_point = flushed.safe_point;
        next = omega (arith, above, more);
        generation = no_younger;
        kept_from = flushed.kept_from;
        slots = flushed.slots;
      }

  module _ (bytes : G → List ℕ) where
    pub checked_good : IsLawful s.log → s.highest ≤ high → s.numbers.high ≤ high → high ≤ length s.log.entries → IsGoodState bytes s → IsGoodState bytes now
    checked_good lawful reached no_lower within good =
        let flushed = flush_good bytes s is lawful has_more high reached no_lower within good in
        record {
          readable = flushed.readable;
          memory = flushed.memory;
          counts = later_from s.log (upto s) high s.numbers.safe_point s.committed (length s.listed) (length s.listed) (told bytes (with_flushes has_more high s)) is.sets.committed flushed.counts;
          below = λ p h. let less = is.sets.highest.below p (subst (λ (A : ℕ → Bool). A p ≡ true) checked_set h) in omega (arith, less, reached);
        }

module _ {G : Type 0} (bytes : G → List ℕ) where
  -- where all is named, the same is there at each count
  same_at : (j k : ℕ) (slots : List (Slotted G)) → AllNamed slots → map (content j) (map (told_by (stable_of bytes)) slots) ≡ map (content k) (map (told_by (stable_of bytes)) slots)
  same_at j k [] all = refl
  same_at j k (t ∷ ts) all = λ i. of_parts t.range (stable_of bytes t.stable) (files i) ∷ same_at j k ts all.1 i
    where
      known : AreBy 0 (tagged (tags_of t) t.files)
      known = subst (λ (ns : List ℕ). AreBy 0 (tagged (replicate t.named 0 ++ ns) t.files)) (sym all.0) (named_by 0 t.named [] t.files tt)

      files : files_at j (tagged (tags_of t) t.files) ≡ files_at k (tagged (tags_of t) t.files)
      files = all_by 0 j (tagged (tags_of t) t.files) known (omega arith) ∙ sym (all_by 0 k (tagged (tags_of t) t.files) known (omega arith))

  pub checked_named : (s : Core G) → AllNamed s.slots → (j k : ℕ) → segments_at bytes j s ≡ segments_at bytes k s
  checked_named s all j k = same_at j k s.slots all
