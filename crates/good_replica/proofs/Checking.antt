-- The finite check tells whether a replica is good.
use Rattle.std.proofs.Common.{◌≡◌, ◌⊎◌, inl, inr, ◌∙◌, refl, sym, ap, ℕ, zero, suc, max, ◌<◌, ◌≤◌, ℤ, Bool, true, false, true≢false, cond, not, ◌&&◌, ◌||◌, List, [], ◌∷◌, ◌++◌, Option, Some, None, option_map, find, map, drop, length, is_none, is_some, nat_lt, nat_le, arith}
use Rattle.std.proofs.lemmas.List.Folds.{list_any-append}
use Rattle.std.specs.List.{list_all, list_any, flat_map, cons_option}
use Rattle.std.specs.Ordering.{int_eq}
use Rattle.std.specs.Prelude.{◌==◌}
use Rattle.column_block.specs.declared.cell.Version.{Version}
use Rattle.flash_types.specs.Ranges.{holds, is_below}
use Rattle.committed_log.specs.Applied.{first_numbers}
use Rattle.committed_log.specs.Log.{Log, at}
use Rattle.committed_log.specs.ReadIndex.{clears_at}
use Rattle.committed_log.specs.declared.store.Commit.{Commit}
use Rattle.committed_log.proofs.Faults.{both_true, or_either, or_false, or_first, or_second}
use Rattle.committed_log.proofs.Positions.{each_first}
use Rattle.good_replica.specs.Check.{each_is_committed, is_passed, is_lone_delete, each_is_there, newer_follows_behind, newer_follows, times_of, step_times, trail_times, commit_times, times, is_good_for, is_uncleared, is_good_on, is_good_segment, ends_at, covers_from, is_good, is_listed, lists_file, lists_segment, lists, is_it}
use Rattle.good_replica.specs.Front.{front, IsUncleared}
use Rattle.good_replica.specs.Good.{EachIsCommitted, IsPassed, IsLoneDelete, EachIsThere, NewerFollows, IsGoodFor, IsGoodOn, IsGoodSegment, EachGood, least_handle, CoversFrom, AreGood}
use Rattle.good_replica.specs.Trail.{Trail, Step, Cleared, Wrote, Segment, DeltaFile, Puts, Clears, trail, present, write, writes, versions_on, steps_on, wrote_unless_empty, after_versions, after_steps}
use Rattle.good_replica.specs.Versions.{Versions, written, version_of, is_on}
use Rattle.good_replica.proofs.Facts.{and_true, int_same, int_itself}
use Rattle.good_replica.proofs.Fronts.{front_length}
use Rattle.good_replica.proofs.SameVersions.{tells_it}
use Rattle.good_replica.proofs.Steps.{versions_pass}
use Rattle.good_replica.proofs.Telling.{Tells, tells_same, tells_both, tells_either, tells_if, tells_less, tells_le, tells_true, tells_false, tells_none, tells_some, tells_all, tells_any, tells_first}
use Rattle.committed_log.proofs.Ranks.{same_number}

-- ---- the parts, for one handle

abbrev Out : Versions → List ℕ → Type 0
Out f times = (ts : ℕ) → list_any (λ x. x == ts) times ≡ false → f ts ≡ None

some_of : (o : Option Version) → is_some o ≡ true → (v : Version) × (o ≡ Some v)
some_of None e = absurd (true≢false (sym e))
some_of (Some v) e = (v, refl)

drop_past : (k : ℕ) (ss : List Step) → length ss ≤ k → drop k ss ≡ []
drop_past zero [] le = refl
drop_past (suc k) [] le = refl
drop_past zero (s ∷ ss) le = absurd (omega (arith, le))
drop_past (suc k) (s ∷ ss) le = drop_past k ss (omega (arith, le))

module _ (front all : Versions) (safe : ℕ) (t : Trail) (times : List ℕ) (out_front : Out front times) (out_all : Out all times) (out_there : Out (present t) times) where
  tells_real : Tells (each_is_committed all t times) (EachIsCommitted all t)
  tells_real = tells_all (λ a b. a == b) same_number times (λ ts. elim (present t ts) [ None ↦ true | Some v ↦ is_it (all ts) v ]) (λ ts. (v : Version) → present t ts ≡ Some v → all ts ≡ Some v)
      (λ ts. tells_some (present t ts) (is_it (all ts)) (λ v. all ts ≡ Some v) (tells_it (all ts)))
      (λ ts e v is. cc (sym (out_there ts e) ∙ is))

  abbrev PassedBy : ℕ → ℕ → Type 0
  PassedBy ts d = (v : Version) × (ts < d) × (d ≤ safe) × (all d ≡ Some v)

  tells_passed_by : (ts d : ℕ) → Tells (nat_lt ts d && (nat_le d safe && is_some (all d))) (PassedBy ts d)
  tells_passed_by ts d = record {
    yes = λ e.
        let a = both_true (nat_lt ts d) (nat_le d safe && is_some (all d)) e in
        let b = both_true (nat_le d safe) (is_some (all d)) a.1 in
        let v = some_of (all d) b.1 in
        (v.0, (tells_less ts d).yes a.0, (tells_le d safe).yes b.0, v.1);
    holds = λ p. and_true (nat_lt ts d) (nat_le d safe && is_some (all d)) ((tells_less ts d).holds p.1) (and_true (nat_le d safe) (is_some (all d)) ((tells_le d safe).holds p.2) (ap is_some p.3));
  }

  tells_passed : (ts : ℕ) → Tells (is_passed all safe ts times) (IsPassed all safe ts)
  tells_passed ts = tells_same (is_passed all safe ts times) ((d : ℕ) × PassedBy ts d) (IsPassed all safe ts) (λ p. (p.0, p.1.0, p.1.1, p.1.2, p.1.3)) (λ h. (h.0, (h.1, h.2, h.3, h.4)))
      (tells_any (λ a b. a == b) same_number times (λ d. nat_lt ts d && (nat_le d safe && is_some (all d))) (PassedBy ts) (tells_passed_by ts) (λ d p. inside d p (list_any (λ x. x == d) times) refl))
    where
      inside : (d : ℕ) → PassedBy ts d → (b : Bool) → list_any (λ x. x == d) times ≡ b → list_any (λ x. x == d) times ≡ true
      inside d p true is = is
      inside d p false is = cc (sym (out_all d is) ∙ p.3)

  tells_lone : (ts : ℕ) (v : Version) → Tells (is_lone_delete (present t) safe ts v times) (IsLoneDelete (present t) safe ts v)
  tells_lone ts v = tells_same (is_lone_delete (present t) safe ts v times) ((v.gone ≡ true) × ((ts ≤ safe) × ((older : ℕ) → older < ts → present t older ≡ None))) (IsLoneDelete (present t) safe ts v) (λ p. (p.0, p.1.0, p.1.1)) (λ h. (h.0, (h.1, h.2)))
      (tells_both v.gone (nat_le ts safe && list_all (λ older. not (nat_lt older ts) || is_none (present t older)) times) (v.gone ≡ true) ((ts ≤ safe) × ((older : ℕ) → older < ts → present t older ≡ None)) (tells_true v.gone)
      (tells_both (nat_le ts safe) (list_all (λ older. not (nat_lt older ts) || is_none (present t older)) times) (ts ≤ safe) ((older : ℕ) → older < ts → present t older ≡ None) (tells_le ts safe)
      (tells_all (λ a b. a == b) same_number times (λ older. not (nat_lt older ts) || is_none (present t older)) (λ older. older < ts → present t older ≡ None)
      (λ older. tells_if (nat_lt older ts) (is_none (present t older)) (older < ts) (present t older ≡ None) (tells_less older ts) (λ less. tells_none (present t older)))
      (λ older e less. out_there older e))))

  abbrev Excused : ℕ → Version → Type 0
  Excused ts v = IsPassed all safe ts ⊎ IsLoneDelete (present t) safe ts v

  tells_kept : Tells (each_is_there front all safe t times) (EachIsThere front all safe t)
  tells_kept = tells_all (λ a b. a == b) same_number times
      (λ ts. elim (front ts) [ None ↦ true | Some v ↦ is_it (present t ts) v || (is_passed all safe ts times || is_lone_delete (present t) safe ts v times) ])
      (λ ts. (v : Version) → front ts ≡ Some v → (present t ts ≡ Some v) ⊎ Excused ts v)
      (λ ts. tells_some (front ts) (λ v. is_it (present t ts) v || (is_passed all safe ts times || is_lone_delete (present t) safe ts v times)) (λ v. (present t ts ≡ Some v) ⊎ Excused ts v)
      (λ v. tells_either (is_it (present t ts) v) (is_passed all safe ts times || is_lone_delete (present t) safe ts v times) (present t ts ≡ Some v) (Excused ts v) (tells_it (present t ts) v)
      (tells_either (is_passed all safe ts times) (is_lone_delete (present t) safe ts v times) (IsPassed all safe ts) (IsLoneDelete (present t) safe ts v) (tells_passed ts) (tells_lone ts v))))
      (λ ts e v is. cc (sym (out_front ts e) ∙ is))

  -- behind the first k files
  abbrev W : ℕ → ℕ → Bool
  W k c = write c (drop k t.steps)

  abbrev Behind : ℕ → Type 0
  Behind k = (c d : ℕ) (u : Version) → front c ≡ Some u → (v : Version) → front d ≡ Some v → c < d → write c (drop k t.steps) ≡ true → write d (drop k t.steps) ≡ true

  abbrev Pair : ℕ → ℕ → ℕ → Type 0
  Pair k c d = (u : Version) → front c ≡ Some u → (v : Version) → front d ≡ Some v → c < d → write c (drop k t.steps) ≡ true → write d (drop k t.steps) ≡ true

  tells_pair : (k c d : ℕ) → Tells (elim (front c) [ None ↦ true | Some u ↦ elim (front d) [ None ↦ true | Some v ↦ not (nat_lt c d) || (not (write c (drop k t.steps)) || write d (drop k t.steps)) ] ]) (Pair k c d)
  tells_pair k c d = tells_some (front c) (λ u. elim (front d) [ None ↦ true | Some v ↦ not (nat_lt c d) || (not (W k c) || W k d) ]) (λ u. (v : Version) → front d ≡ Some v → c < d → W k c ≡ true → W k d ≡ true)
      (λ u. tells_some (front d) (λ v. not (nat_lt c d) || (not (W k c) || W k d)) (λ v. c < d → W k c ≡ true → W k d ≡ true)
      (λ v. tells_if (nat_lt c d) (not (W k c) || W k d) (c < d) (W k c ≡ true → W k d ≡ true) (tells_less c d) (λ less. tells_if (W k c) (W k d) (W k c ≡ true) (W k d ≡ true) (tells_true (W k c)) (λ has. tells_true (W k d)))))

  tells_behind : (k : ℕ) → Tells (newer_follows_behind front t times k) (Behind k)
  tells_behind k = tells_all (λ a b. a == b) same_number times
      (λ c. list_all (λ d. elim (front c) [ None ↦ true | Some u ↦ elim (front d) [ None ↦ true | Some v ↦ not (nat_lt c d) || (not (write c (drop k t.steps)) || write d (drop k t.steps)) ] ]) times)
      (λ c. (d : ℕ) → Pair k c d)
      (λ c. tells_all (λ a b. a == b) same_number times (λ d. elim (front c) [ None ↦ true | Some u ↦ elim (front d) [ None ↦ true | Some v ↦ not (nat_lt c d) || (not (write c (drop k t.steps)) || write d (drop k t.steps)) ] ]) (λ d. Pair k c d) (tells_pair k c)
      (λ d e u a v b. cc (sym (out_front d e) ∙ b)))
      (λ c e d u a. cc (sym (out_front c e) ∙ a))

  past : (k : ℕ) → length t.steps ≤ k → Behind k
  past k le c d u a v b less has = absurd (true≢false (sym has ∙ ap (write c) (drop_past k t.steps le)))

  tells_ordered : Tells (newer_follows front t times) (NewerFollows front t)
  tells_ordered = tells_same (newer_follows front t times) ((k : ℕ) → Behind k) (NewerFollows front t) (λ f k c d u v less a b has. f k c d u a v b less has) (λ f k c d u a v b less has. f k c d u v less a b has)
      (tells_first (length t.steps) (newer_follows_behind front t times) Behind (λ k less. tells_behind k) past)

  tells_good : Tells (is_good_for front all safe t times) (IsGoodFor front all safe t)
  tells_good = tells_same (is_good_for front all safe t times) (EachIsCommitted all t × (EachIsThere front all safe t × NewerFollows front t)) (IsGoodFor front all safe t)
      (λ p. record { real = p.0; kept = p.1.0; ordered = p.1.1 }) (λ g. (g.real, (g.kept, g.ordered)))
      (tells_both (each_is_committed all t times) (each_is_there front all safe t times && newer_follows front t times) (EachIsCommitted all t) (EachIsThere front all safe t × NewerFollows front t) tells_real
      (tells_both (each_is_there front all safe t times) (newer_follows front t times) (EachIsThere front all safe t) (NewerFollows front t) tells_kept tells_ordered))

-- ---- the timestamps that count

found_out : (h : ℤ) (ts : ℕ) (cs : List Commit) → list_any (λ x. x == ts) (map (λ (c : Commit). c.ts) cs) ≡ false → find (is_on h ts) cs ≡ None
found_out h ts [] e = refl
found_out h ts (c ∷ cs) e = (let both = or_false (c.ts == ts) (list_any (λ x. x == ts) (map (λ (c : Commit). c.ts) cs)) e in let rest = found_out h ts cs both.1 in by (int_eq c.handle h) (c.ts == ts) both.0 rest)
  where
    by : (a b : Bool) → b ≡ false → find (is_on h ts) cs ≡ None → cond (a && b) (Some c) (find (is_on h ts) cs) ≡ None
    by true true off rest = absurd (true≢false off)
    by true false off rest = rest
    by false b off rest = rest

written_out : (log : Log) (h : ℤ) (p : ℕ) → Out (written log h p) (commit_times log p)
written_out log h p ts e = ap (option_map (version_of log.schema)) (found_out h ts (at log p).commits e)

writes_times : (ts : ℕ) (vs : List Version) → list_any (λ x. x == ts) (times_of vs) ≡ writes ts (Wrote vs)
writes_times ts [] = refl
writes_times ts (v ∷ vs) = ap (λ b. (v.ts == ts) || b) (writes_times ts vs)

apart : (ts : ℕ) (xs ys : List ℕ) → list_any (λ x. x == ts) (xs ++ ys) ≡ false → (list_any (λ x. x == ts) xs ≡ false) × (list_any (λ x. x == ts) ys ≡ false)
apart ts xs ys e = or_false (list_any (λ x. x == ts) xs) (list_any (λ x. x == ts) ys) (sym (list_any-append (λ x. x == ts) xs ys) ∙ e)

steps_out : (ts : ℕ) (ss : List Step) → list_any (λ x. x == ts) (flat_map step_times ss) ≡ false → after_steps ts None ss ≡ None
steps_out ts [] e = refl
steps_out ts (Cleared ∷ ss) e = steps_out ts ss e
steps_out ts (Wrote vs ∷ ss) e =
    let both = apart ts (times_of vs) (flat_map step_times ss) e in
    ap (λ o. after_steps ts o ss) (versions_pass ts None vs (sym (writes_times ts vs) ∙ both.0)) ∙ steps_out ts ss both.1

present_out : (t : Trail) → Out (present t) (trail_times t)
present_out t ts e =
    let both = apart ts (times_of t.stable) (flat_map step_times t.steps) e in
    ap (λ o. after_steps ts o t.steps) (versions_pass ts None t.stable (sym (writes_times ts t.stable) ∙ both.0)) ∙ steps_out ts t.steps both.1

-- ---- a handle

tells_uncleared : (clears : ℕ → Bool) (f m : ℕ) → Tells (is_uncleared clears f m) (IsUncleared clears f m)
tells_uncleared clears f m = tells_first m (λ p. nat_lt p f || not (clears p)) (λ p. f ≤ p → p < m → clears p ≡ false) each (λ p le low less. absurd (omega (arith, le, less)))
  where
    either : (p f : ℕ) → (p < f) ⊎ (f ≤ p)
    either p f = grind arith

    each : (p : ℕ) → p < m → Tells (nat_lt p f || not (clears p)) (f ≤ p → p < m → clears p ≡ false)
    each p low = record {
      yes = λ e le less. elim (or_either (nat_lt p f) (not (clears p)) e) [ inl before ↦ (let l = (tells_less p f).yes before in absurd (omega (arith, l, le))) | inr off ↦ (tells_false (clears p)).yes off ];
      holds = λ all. elim (either p f) [ inl before ↦ or_first (nat_lt p f) (not (clears p)) ((tells_less p f).holds before) | inr le ↦ or_second (nat_lt p f) (not (clears p)) ((tells_false (clears p)).holds (all le low)) ];
    }

tells_on : (log : Log) (h : ℤ) (f m safe : ℕ) (t : Trail) → Tells (is_good_on log h f m safe t) (IsGoodOn log h f m safe t)
tells_on log h f m safe t = tells_if (is_uncleared (clears_at log h) f m) (is_good_for (written log h f) (written log h (max f m)) safe t (times log f (max f m) t)) (IsUncleared (clears_at log h) f m) (IsGoodFor (written log h f) (written log h (max f m)) safe t) (tells_uncleared (clears_at log h) f m)
    (λ un. tells_good (written log h f) (written log h (max f m)) safe t (times log f (max f m) t)
    (λ ts e. written_out log h f ts (apart ts (commit_times log f) (commit_times log (max f m) ++ trail_times t) e).0)
    (λ ts e. written_out log h (max f m) ts (apart ts (commit_times log (max f m)) (trail_times t) (apart ts (commit_times log f) (commit_times log (max f m) ++ trail_times t) e).1).0)
    (λ ts e. present_out t ts (apart ts (commit_times log (max f m)) (trail_times t) (apart ts (commit_times log f) (commit_times log (max f m) ++ trail_times t) e).1).1))

-- ---- a handle that isn't listed

unlisted : (hs : List ℤ) (h k : ℤ) → is_listed hs h ≡ false → is_listed hs k ≡ true → int_eq k h ≡ false
unlisted hs h k out here = by (int_eq k h) refl
  where
    by : (b : Bool) → int_eq k h ≡ b → int_eq k h ≡ false
    by false is = is
    by true is = absurd (true≢false (sym here ∙ ap (is_listed hs) (int_same k h is) ∙ out))

none_on : (hs : List ℤ) (h : ℤ) → is_listed hs h ≡ false → (vs : List Version) → list_all (λ (v : Version). is_listed hs v.handle) vs ≡ true → versions_on h vs ≡ []
none_on hs h out [] e = refl
none_on hs h out (v ∷ vs) e =
    let both = both_true (is_listed hs v.handle) (list_all (λ (v : Version). is_listed hs v.handle) vs) e in
    let rest = none_on hs h out vs both.1 in
    (λ i. cond (unlisted hs h v.handle out both.0 i) (v ∷ rest i) (rest i))

none_found : (hs : List ℤ) (h : ℤ) (ts : ℕ) → is_listed hs h ≡ false → (cs : List Commit) → list_all (λ (c : Commit). is_listed hs c.handle) cs ≡ true → find (is_on h ts) cs ≡ None
none_found hs h ts out [] e = refl
none_found hs h ts out (c ∷ cs) e =
    let both = both_true (is_listed hs c.handle) (list_all (λ (c : Commit). is_listed hs c.handle) cs) e in
    let rest = none_found hs h ts out cs both.1 in
    (λ i. cond (unlisted hs h c.handle out both.0 i && (c.ts == ts)) (Some c) (rest i))

none_said : (hs : List ℤ) (h : ℤ) (ts : ℕ) → is_listed hs h ≡ false → (fs : List DeltaFile) → list_all (lists_file hs) fs ≡ true → after_steps ts None (steps_on h fs) ≡ None
none_said hs h ts out [] e = refl
none_said hs h ts out (Puts versions ∷ fs) e =
    let both = both_true (list_all (λ (v : Version). is_listed hs v.handle) versions) (list_all (lists_file hs) fs) e in
    ap (λ vs. after_steps ts None (cons_option (wrote_unless_empty vs) (steps_on h fs))) (none_on hs h out versions both.0) ∙ none_said hs h ts out fs both.1
none_said hs h ts out (Clears range ∷ fs) e = by (holds range h) (none_said hs h ts out fs e)
  where
    by : (b : Bool) → after_steps ts None (steps_on h fs) ≡ None → after_steps ts None (cons_option (cond b (Some Cleared) None) (steps_on h fs)) ≡ None
    by true rest = rest
    by false rest = rest

module _ (log : Log) (A : ℕ → Bool) (m safe : ℕ) (hs : List ℤ) (all_commits : list_all (λ p. list_all (λ (c : Commit). is_listed hs c.handle) (at log p).commits) (first_numbers (suc (length log.entries))) ≡ true) where
  silent : (s : Segment) → lists_segment hs s ≡ true → (h : ℤ) → is_listed hs h ≡ false → IsGoodOn log h (front log A h) m safe (trail h s)
  silent s listed h out un =
      record {
        real = λ ts v e. cc (sym (nothing ts) ∙ e);
        kept = λ ts v e. cc (sym (unwritten ts) ∙ e);
        ordered = λ k c d u v less a b has. cc (sym (unwritten c) ∙ a);
      }
    where
      nothing : (ts : ℕ) → present (trail h s) ts ≡ None
      nothing ts =
          let both = both_true (list_all (λ (v : Version). is_listed hs v.handle) s.stable) (list_all (lists_file hs) s.delta) listed in
          ap (λ vs. after_steps ts (after_versions ts None vs) (steps_on h s.delta)) (none_on hs h out s.stable both.0) ∙ none_said hs h ts out s.delta both.1

      unwritten : (ts : ℕ) → written log h (front log A h) ts ≡ None
      unwritten ts =
          let low = front_length log h A in
          let here = each_first (λ p. list_all (λ (c : Commit). is_listed hs c.handle) (at log p).commits) (suc (length log.entries)) all_commits (front log A h) (omega (arith, low)) in
          ap (option_map (version_of log.schema)) (none_found hs h ts out (at log (front log A h)).commits here)

  tells_segment : (s : Segment) → lists_segment hs s ≡ true → Tells (is_good_segment log A m safe hs s) (IsGoodSegment log A m safe s)
  tells_segment s listed = tells_all int_eq int_same hs (λ h. not (holds s.range h) || is_good_on log h (front log A h) m safe (trail h s)) (λ h. holds s.range h ≡ true → IsGoodOn log h (front log A h) m safe (trail h s))
      (λ h. tells_if (holds s.range h) (is_good_on log h (front log A h) m safe (trail h s)) (holds s.range h ≡ true) (IsGoodOn log h (front log A h) m safe (trail h s)) (tells_true (holds s.range h)) (λ held. tells_on log h (front log A h) m safe (trail h s)))
      (λ h out held. silent s listed h out)

  tells_each : (ss : List Segment) → list_all (lists_segment hs) ss ≡ true → Tells (list_all (is_good_segment log A m safe hs) ss) (EachGood log A m safe ss)
  tells_each [] listed = record { yes = λ e. tt; holds = λ e. refl }
  tells_each (s ∷ ss) listed =
      let both = both_true (lists_segment hs s) (list_all (lists_segment hs) ss) listed in
      tells_both (is_good_segment log A m safe hs s) (list_all (is_good_segment log A m safe hs) ss) (IsGoodSegment log A m safe s) (EachGood log A m safe ss) (tells_segment s both.0) (tells_each ss both.1)

-- ---- the segments

tells_int : (a b : ℤ) → Tells (int_eq a b) (a ≡ b)
tells_int a b = record { yes = int_same a b; holds = int_itself a b }

tells_end : (o : Option ℤ) (low : ℤ) → Tells (ends_at o low) (o ≡ Some low)
tells_end None low = record { yes = λ e. absurd (true≢false (sym e)); holds = λ e. cc e }
tells_end (Some high) low = record { yes = λ e. ap (λ x. Some x) (int_same high low e); holds = λ e. int_itself high low (one high low e) }
  where
    one : (a b : ℤ) → Some a ≡ Some b → a ≡ b
    one a b e = cc e

tells_covers : (low : ℤ) (ss : List Segment) → Tells (covers_from low ss) (CoversFrom low ss)
tells_covers low [] = record { yes = λ e. e; holds = λ e. e }
tells_covers low (s ∷ []) = tells_both (int_eq s.range.low low) (is_none s.range.high) (s.range.low ≡ low) (s.range.high ≡ None) (tells_int s.range.low low) (tells_none s.range.high)
tells_covers low (s ∷ t ∷ more) =
    tells_same (covers_from low (s ∷ t ∷ more)) ((s.range.low ≡ low) × ((s.range.high ≡ Some t.range.low) × ((is_below s.range.low s.range.high ≡ true) × CoversFrom t.range.low (t ∷ more)))) (CoversFrom low (s ∷ t ∷ more))
    (λ p. (p.0, p.1.0, p.1.1.0, p.1.1.1)) (λ c. (c.0, (c.1, (c.2, c.3))))
    (tells_both (int_eq s.range.low low) (ends_at s.range.high t.range.low && (is_below s.range.low s.range.high && covers_from t.range.low (t ∷ more))) (s.range.low ≡ low) ((s.range.high ≡ Some t.range.low) × ((is_below s.range.low s.range.high ≡ true) × CoversFrom t.range.low (t ∷ more))) (tells_int s.range.low low)
    (tells_both (ends_at s.range.high t.range.low) (is_below s.range.low s.range.high && covers_from t.range.low (t ∷ more)) (s.range.high ≡ Some t.range.low) ((is_below s.range.low s.range.high ≡ true) × CoversFrom t.range.low (t ∷ more)) (tells_end s.range.high t.range.low)
    (tells_both (is_below s.range.low s.range.high) (covers_from t.range.low (t ∷ more)) (is_below s.range.low s.range.high ≡ true) (CoversFrom t.range.low (t ∷ more)) (tells_true (is_below s.range.low s.range.high)) (tells_covers t.range.low (t ∷ more)))))

pub check_tells : (log : Log) (A : ℕ → Bool) (m safe : ℕ) (hs : List ℤ) (ss : List Segment) → lists log hs ss ≡ true → Tells (is_good log A m safe hs ss) (AreGood log A m safe ss)
check_tells log A m safe hs ss listed =
    let both = both_true (list_all (λ p. list_all (λ (c : Commit). is_listed hs c.handle) (at log p).commits) (first_numbers (suc (length log.entries)))) (list_all (lists_segment hs) ss) listed in
    tells_same (is_good log A m safe hs ss) (CoversFrom least_handle ss × ((m ≤ length log.entries) × EachGood log A m safe ss)) (AreGood log A m safe ss)
    (λ p. record { cover = p.0; mark = p.1.0; handles = p.1.1 }) (λ g. (g.cover, (g.mark, g.handles)))
    (tells_both (covers_from least_handle ss) (nat_le m (length log.entries) && list_all (is_good_segment log A m safe hs) ss) (CoversFrom least_handle ss) ((m ≤ length log.entries) × EachGood log A m safe ss) (tells_covers least_handle ss)
    (tells_both (nat_le m (length log.entries)) (list_all (is_good_segment log A m safe hs) ss) (m ≤ length log.entries) (EachGood log A m safe ss) (tells_le m (length log.entries)) (tells_each log A m safe hs both.0 ss both.1)))
