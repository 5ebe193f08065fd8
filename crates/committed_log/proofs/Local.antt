-- What an entry doesn't act on it leaves: of a region that is there its values, locks and commits.
use Rattle.std.proofs.Common.{◌≡◌, ◌∙◌, refl, sym, ap, subst, ℕ, suc, ℤ, Bool, true, false, true≢false, cond, not, List, [], ◌∷◌, ◌++◌, Option, Some, None, Result, Ok, Err, slice_get, arith}
use Rattle.std.proofs.lemmas.Int.{ints}
use Rattle.std.proofs.lemmas.Map.Lookups.{exact_signed, exact_unsigned, exact_pairs}
use Rattle.std.specs.BTreeMap.{is_at}
use Rattle.std.specs.Ordering.{int_cmp, nat_cmp, is_eq}
use Rattle.std.specs.Prelude.{◌==◌}
use Rattle.std.specs.List.{list_any}
use Rattle.std.specs.declared.cmp.Ordering.{Ordering}
use Rattle.std.specs.declared.cmp.Ordering.TheVariants.{Less, Equal, Greater}
use Rattle.flash_types.specs.Ranges.{holds}
use Rattle.flash_types.specs.declared.range.HandleRange.{HandleRange}
use Rattle.kv_codec.specs.Records.{write_at, lock_at}
use Rattle.kv_codec.specs.declared.keys.KeyError.{KeyError}
use Rattle.kv_codec.specs.declared.records.WriteKind.{WriteKind}
use Rattle.kv_codec.specs.declared.records.WriteKind.TheVariants as kind
use Rattle.log_codec.specs.declared.entry.Body.{Body}
use Rattle.log_codec.specs.declared.entry.Body.TheVariants as body
use Rattle.log_codec.specs.declared.entry.Entry.{Entry}
use Rattle.log_codec.specs.declared.entry.Family.{Family}
use Rattle.log_codec.specs.declared.entry.Family.TheVariants as family
use Rattle.log_codec.specs.declared.entry.Op.{Op}
use Rattle.committed_log.specs.Admission.{range_fault}
use Rattle.committed_log.specs.Applied.{acts_at}
use Rattle.committed_log.specs.Changes.{change_of, key_at, put_of, delete_of, commit_of, BadKey, BadRecord}
use Rattle.committed_log.specs.declared.op.FamilyOp.{FamilyOp}
use Rattle.committed_log.specs.declared.op.FamilyOp.TheVariants as change
use Rattle.committed_log.specs.declared.op.OpFault.{OpFault}
use Rattle.committed_log.specs.Lawful.{IsLawful}
use Rattle.committed_log.specs.Laws.{owns, AreSameOn, AreSameWithin}
use Rattle.committed_log.specs.Log.{Log, at}
use Rattle.committed_log.specs.Regions.{region, range_of, acts_on, also_acted}
use Rattle.committed_log.specs.Store.{Store, Commit, Lock, value, value_cmp, after_change, after_op, after_ops, after_entry, families_after, cleared, is_repeated, last_commit, committed_value}
use Rattle.committed_log.proofs.Entries.{at_next, at_past, head_next}
use Rattle.committed_log.proofs.Faults.{or_false}
use Rattle.committed_log.proofs.Merged.{unowned}
use Rattle.committed_log.proofs.Owners.{disjoint_at, untaken}
use Rattle.committed_log.proofs.Within.{within-insert, within-remove, filter-filter, filter-push}

-- ---- the handle that a change is of

abbrev pub handle_of : FamilyOp → ℤ
handle_of (change.Value h start bytes) = h
handle_of (change.DropValue h start) = h
handle_of (change.Lock h kind start) = h
handle_of (change.Unlock h) = h
handle_of (change.Write h ts start gone short) = h

-- if there is a change, it is of this handle
abbrev IsOf : ℤ → Result (Option FamilyOp) OpFault → Type 0
IsOf h (Err fault) = Unit {0}
IsOf h (Ok None) = Unit {0}
IsOf h (Ok (Some c)) = handle_of c ≡ h

commit_is_of : (h : ℤ) (ts start : ℕ) (k : WriteKind) (short : Option (List ℕ)) → IsOf h (Ok (commit_of h ts (record { kind = k; start = start; short = short })))
commit_is_of h ts start kind.Put short = refl
commit_is_of h ts start kind.Delete short = refl
commit_is_of h ts start kind.Lock short = tt
commit_is_of h ts start kind.Rollback short = tt

put_is_of : (f : Family) (h : ℤ) (ts : ℕ) (bytes : List ℕ) → IsOf h (put_of f h ts bytes)
put_is_of family.Default h ts bytes = refl
put_is_of family.Lock h ts bytes = elim (lock_at bytes) as (λ l. IsOf h (elim l [ Err e ↦ Err BadRecord | Ok l ↦ Ok (Some (change.Lock h l.kind l.start)) ])) [ Err e ↦ tt | Ok l ↦ refl ]
put_is_of family.Write h ts bytes = elim (write_at bytes) as (λ w. IsOf h (elim w [ Err e ↦ Err BadRecord | Ok w ↦ Ok (commit_of h ts w) ])) [ Err e ↦ tt | Ok w ↦ commit_is_of h ts w.start w.kind w.short ]

delete_is_of : (f : Family) (h : ℤ) (ts : ℕ) → IsOf h (Ok (delete_of f h ts))
delete_is_of family.Default h ts = refl
delete_is_of family.Lock h ts = refl
delete_is_of family.Write h ts = tt

-- if there is a change, its handle lies in the range
abbrev LiesIn : HandleRange → Result (Option FamilyOp) OpFault → Type 0
LiesIn range (Err fault) = Unit {0}
LiesIn range (Ok None) = Unit {0}
LiesIn range (Ok (Some c)) = holds range (handle_of c) ≡ true

lies : (range : HandleRange) (h : ℤ) (c : Result (Option FamilyOp) OpFault) → IsOf h c → holds range h ≡ true → LiesIn range c
lies range h (Err fault) is inside = tt
lies range h (Ok None) is inside = tt
lies range h (Ok (Some c)) is inside = ap (holds range) is ∙ inside

change_lies : (table : ℤ) (range : HandleRange) (op : Op) → LiesIn range (change_of table range op)
change_lies table range op = by (key_at table op.family op.key)
  where
    made : (b : Bool) (h : ℤ) (ts : ℕ) → holds range h ≡ true → LiesIn range (cond b (put_of op.family h ts op.value) (Ok (delete_of op.family h ts)))
    made true h ts inside = lies range h (put_of op.family h ts op.value) (put_is_of op.family h ts op.value) inside
    made false h ts inside = lies range h (Ok (delete_of op.family h ts)) (delete_is_of op.family h ts) inside

    here : (k : ℤ × ℕ) (b : Bool) → holds range k.0 ≡ b → LiesIn range (cond b (cond op.put (put_of op.family k.0 k.1 op.value) (Ok (delete_of op.family k.0 k.1))) (Err BadKey))
    here k true is = made op.put k.0 k.1 is
    here k false is = tt

    by : (key : Result (Option (ℤ × ℕ)) KeyError) → LiesIn range (elim key [ Err e ↦ Err BadKey | Ok named ↦ elim named [ None ↦ Ok None | Some k ↦ cond (holds range k.0) (cond op.put (put_of op.family k.0 k.1 op.value) (Ok (delete_of op.family k.0 k.1))) (Err BadKey) ] ])
    by (Err e) = tt
    by (Ok None) = tt
    by (Ok (Some k)) = here k (holds range k.0) refl

-- ---- stores that are the same on some handles

module _ (test : ℤ → Bool) where
  pub same_itself : (s : Store) → AreSameOn test s s
  same_itself s = record { values = refl; locks = refl; commits = refl }

  pub same_then : (s t u : Store) → AreSameOn test s t → AreSameOn test t u → AreSameOn test s u
  same_then s t u a b = record { values = a.values ∙ b.values; locks = a.locks ∙ b.locks; commits = a.commits ∙ b.commits }

  same_handle : (x y : ℤ) → int_cmp x y ≡ Equal → test x ≡ test y
  same_handle x y e = ap test (exact_signed x y e)

  same_key : (x y : ℤ × ℕ) → value_cmp x y ≡ Equal → test x.0 ≡ test y.0
  same_key x y e = ap (λ (k : ℤ × ℕ). test k.0) (exact_pairs int_cmp nat_cmp exact_signed exact_unsigned x y e)

  module _ (p : ℕ) (s : Store) where
    module _ (h : ℤ) (out : test h ≡ false) where
      at_handle : (k : ℤ) → is_at (int_cmp h) k ≡ true → test k ≡ false
      at_handle k e = ap test (one h k e) ∙ out
        where
          one : (h k : ℤ) → is_at (int_cmp h) k ≡ true → k ≡ h
          one h k e = grind (arith, ints)

      at_key : (start : ℕ) (k : ℤ × ℕ) → is_at (value_cmp (h, start)) k ≡ true → test k.0 ≡ false
      at_key start k e = sym (same_key (h, start) k (is_equal (value_cmp (h, start) k) e)) ∙ out
        where
          is_equal : (o : Ordering) → is_eq o ≡ true → o ≡ Equal
          is_equal Less e = absurd (true≢false (sym e))
          is_equal Equal e = refl
          is_equal Greater e = absurd (true≢false (sym e))

      either : (b : Bool) (c : Commit) → c.handle ≡ h → AreSameOn test s (cond b s (record s { commits = s.commits ++ c ∷ [] }))
      either true c is = same_itself s
      either false c is = record { values = refl; locks = refl; commits = sym (filter-push (λ (c : Commit). test c.handle) s.commits c (ap test is ∙ out)) }

    -- a change of a handle that isn't one of them
    same_change : (c : FamilyOp) → test (handle_of c) ≡ false → AreSameOn test s (after_change p s c)
    same_change (change.Value h start bytes) out = record { values = sym (within-insert (λ (k : ℤ × ℕ). test k.0) value_cmp same_key s.values (h, start) bytes out); locks = refl; commits = refl }
    same_change (change.DropValue h start) out = record { values = sym (within-remove (λ (k : ℤ × ℕ). test k.0) (is_at (value_cmp (h, start))) (at_key h out start) s.values); locks = refl; commits = refl }
    same_change (change.Lock h kind start) out = record { values = refl; locks = sym (within-insert test int_cmp same_handle s.locks h (record { kind = kind; start = start }) out); commits = refl }
    same_change (change.Unlock h) out = record { values = refl; locks = sym (within-remove test (is_at (int_cmp h)) (at_handle h out) s.locks); commits = refl }
    same_change (change.Write h ts start gone short) out = either h out (is_repeated (last_commit s.commits h) ts start gone) (record { handle = h; ts = ts; start = start; value = committed_value gone short (value s.values h start); position = p }) refl

    module _ (other : HandleRange) (apart : (h : ℤ) → holds other h ≡ true → test h ≡ false) where
      same_made : (c : Result (Option FamilyOp) OpFault) → LiesIn other c → AreSameOn test s (elim c [ Err fault ↦ s | Ok found ↦ elim found [ None ↦ s | Some c ↦ after_change p s c ] ])
      same_made (Err fault) inside = same_itself s
      same_made (Ok None) inside = same_itself s
      same_made (Ok (Some c)) inside = same_change c (apart (handle_of c) inside)

      -- what is cleared lies that isn't one of them
      same_cleared : AreSameOn test s (cleared other s)
      same_cleared = record {
        values = sym (filter-filter (λ (e : (ℤ × ℕ) × List ℕ). test e.0.0) (λ e. not (holds other e.0.0)) (λ e inside. kept e.0.0 inside) s.values);
        locks = sym (filter-filter (λ (e : ℤ × Lock). test e.0) (λ e. not (holds other e.0)) (λ e inside. kept e.0 inside) s.locks);
        commits = sym (filter-filter (λ (c : Commit). test c.handle) (λ c. not (holds other c.handle)) (λ c inside. kept c.handle inside) s.commits);
      }
        where
          kept : (h : ℤ) → test h ≡ true → not (holds other h) ≡ true
          kept h inside = by (holds other h) refl
            where
              by : (b : Bool) → holds other h ≡ b → not b ≡ true
              by true is = absurd (true≢false (sym inside ∙ apart h is))
              by false is = refl

  -- ops of other handles
  module _ (other : HandleRange) (apart : (h : ℤ) → holds other h ≡ true → test h ≡ false) where
    pub same_ops : (table : ℤ) (p : ℕ) (s : Store) (ops : List Op) → AreSameOn test s (after_ops table other p s ops)
    same_ops table p s [] = same_itself s
    same_ops table p s (op ∷ ops) = same_then s (after_op table other p s op) (after_ops table other p (after_op table other p s op) ops)
        (same_made p s other apart (change_of table other op) (change_lies table other op)) (same_ops table p (after_op table other p s op) ops)

    pub same_install : (table : ℤ) (p : ℕ) (s : Store) (ops : List Op) → AreSameOn test s (after_ops table other p (cleared other s) ops)
    same_install table p s ops = same_then s (cleared other s) (after_ops table other p (cleared other s) ops) (same_cleared p s other apart) (same_ops table p (cleared other s) ops)

  -- an entry of a region with other handles, that makes no region which has some of these
  pub same_families : (table : ℤ) (p : ℕ) (s : Store) (there : Option HandleRange) (b : Body) →
      ((other : HandleRange) → there ≡ Some other → (h : ℤ) → holds other h ≡ true → test h ≡ false) →
      ((conf_ver version : ℕ) (low : ℤ) (high : Option ℤ) (ops : List Op) → b ≡ body.Install conf_ver version low high ops → (h : ℤ) → holds (record { low = low; high = high }) h ≡ true → test h ≡ false) →
      AreSameOn test s (families_after table p there b s)
  same_families table p s (Some other) (body.Write ops) apart born = same_ops other (apart other refl) table p s ops
  same_families table p s (Some other) body.Remove apart born = same_cleared p s other (apart other refl)
  same_families table p s (Some other) (body.Install conf_ver version low high ops) apart born = same_install _ (born conf_ver version low high ops refl) table p s ops
  same_families table p s None (body.Install conf_ver version low high ops) apart born = same_install _ (born conf_ver version low high ops refl) table p s ops
  same_families table p s (Some other) (body.Open conf_ver version low high) apart born = same_itself s
  same_families table p s (Some other) (body.Split at child) apart born = same_itself s
  same_families table p s (Some other) (body.Prepare target) apart born = same_itself s
  same_families table p s (Some other) (body.Commit source) apart born = same_itself s
  same_families table p s (Some other) body.Empty apart born = same_itself s
  same_families table p s None (body.Open conf_ver version low high) apart born = same_itself s
  same_families table p s None (body.Write ops) apart born = same_itself s
  same_families table p s None (body.Split at child) apart born = same_itself s
  same_families table p s None (body.Prepare target) apart born = same_itself s
  same_families table p s None (body.Commit source) apart born = same_itself s
  same_families table p s None body.Remove apart born = same_itself s
  same_families table p s None body.Empty apart born = same_itself s

module _ (log : Log) (lawful : IsLawful log) (p r : ℕ) (range : HandleRange) (there : range_of (region (at log p).regions r) ≡ Some range) where
  own : (h : ℤ) → holds range h ≡ true → owns (at log p).regions r h ≡ true
  own h inside = ap (λ o. elim o [ None ↦ false | Some range ↦ holds range h ]) there ∙ inside

  module _ (e : Entry) (is : slice_get log.entries p ≡ Some e) (apart : acts_on r e ≡ false) where
    elsewhere : (other : HandleRange) → range_of (region (at log p).regions e.region) ≡ Some other → (h : ℤ) → holds other h ≡ true → holds range h ≡ false
    elsewhere other is_other h inside = by (holds range h) refl
      where
        contra : e.region ≡ r → (e.region == r) ≡ false → ⊥
        contra same not_same = absurd (grind arith)

        by : (b : Bool) → holds range h ≡ b → holds range h ≡ false
        by false e = e
        by true here = absurd (contra ((disjoint_at log lawful p).one e.region r h (ap (λ o. elim o [ None ↦ false | Some range ↦ holds range h ]) is_other ∙ inside) (own h here)) (or_false (e.region == r) (list_any (λ acted. acted == r) (also_acted e.body)) apart).0)

    not_born : (conf_ver version : ℕ) (low : ℤ) (high : Option ℤ) (ops : List Op) → e.body ≡ body.Install conf_ver version low high ops → (h : ℤ) → holds (record { low = low; high = high }) h ≡ true → holds range h ≡ false
    not_born conf_ver version low high ops is_body h inside = by (holds range h) refl
      where
        by : (b : Bool) → holds range h ≡ b → holds range h ≡ false
        by false e = e
        by true here = absurd (unowned (record { low = low; high = high }) (at log p).regions (untaken (at log p).regions (record { low = low; high = high }) (sym (ap (range_fault (at log p).regions e.region) is_body) ∙ (head_next log p e is lawful).range)) r h (own h here) inside)

    same_entry : AreSameWithin range (at log p) (after_entry log.table p (at log p) e)
    same_entry =
        let same = same_families (holds range) log.table p (at log p) (range_of (region (at log p).regions e.region)) e.body elsewhere not_born in
        record { values = same.values; locks = same.locks; commits = same.commits }

  -- an entry that doesn't act on a region that is there leaves the values, locks and commits in its range
  pub same_within : acts_at log r p ≡ false → AreSameWithin range (at log p) (at log (suc p))
  same_within apart = by (slice_get log.entries p) refl apart
    where
      by : (o : Option Entry) → slice_get log.entries p ≡ o → elim o [ None ↦ false | Some e ↦ acts_on r e ] ≡ false → AreSameWithin range (at log p) (at log (suc p))
      by None is out = subst (AreSameWithin range (at log p)) (sym (at_past log p is)) (same_itself (holds range) (at log p))
      by (Some e) is out = subst (AreSameWithin range (at log p)) (sym (at_next log p e is)) (same_entry e is out)
