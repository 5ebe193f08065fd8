-- What entries do to the list of commits: they add some at its end, by their position and newer than the handle's others, or take away those of a range.
use Rattle.std.proofs.Common.{◌≡◌, ◌∙◌, refl, sym, ap, subst, ℕ, suc, ◌<◌, ◌≤◌, ℤ, Bool, true, false, true≢false, cond, not, ◌&&◌, List, [], ◌∷◌, ◌++◌, Option, Some, None, Result, Ok, Err, option_map, nat_lt, fold, map, arith}
use Rattle.std.proofs.lemmas.Int.{ints}
use Rattle.std.proofs.lemmas.List.Elements.{All-append, All-cons, All-nil}
use Rattle.std.proofs.lemmas.List.Kept.{AllPairs-filter}
use Rattle.std.proofs.lemmas.List.Quantifiers.{all_pairs_push}
use Rattle.std.specs.List.{All}
use Rattle.std.specs.Option.{option_or}
use Rattle.std.specs.Ordering.{int_eq}
use Rattle.flash_types.specs.Ranges.{holds}
use Rattle.flash_types.specs.declared.range.HandleRange.{HandleRange}
use Rattle.column_block.specs.declared.column.Column.{Column}
use Rattle.log_codec.specs.declared.entry.Body.{Body}
use Rattle.log_codec.specs.declared.entry.Body.TheVariants as body
use Rattle.log_codec.specs.declared.entry.Entry.{Entry}
use Rattle.log_codec.specs.declared.entry.Op.{Op}
use Rattle.committed_log.specs.Admission.{backdated_fault, change_fault, op_fault, ops_fault, ops_fault_from, value_fault}
use Rattle.committed_log.specs.Changes.{change_of, BadKey, BadRecord}
use Rattle.committed_log.specs.declared.op.FamilyOp.{FamilyOp}
use Rattle.committed_log.specs.declared.op.FamilyOp.TheVariants as change
use Rattle.committed_log.specs.declared.op.OpFault.{OpFault}
use Rattle.committed_log.specs.declared.unlawful.Unlawful.{Unlawful}
use Rattle.committed_log.specs.declared.unlawful.Unlawful.TheVariants as unlawful
use Rattle.committed_log.specs.Lawful.{IsLawful}
use Rattle.committed_log.specs.Laws.{CommitsRise}
use Rattle.committed_log.specs.Log.{Log, at}
use Rattle.committed_log.specs.Regions.{region, range_of}
use Rattle.committed_log.specs.Store.{Store, Commit, newer, candidate, newest, is_delete, last_commit, is_repeated, committed_value, value, after_change, after_op, after_ops, after_entry, families_after, cleared}
use Rattle.committed_log.proofs.Entries.{by_entries, ops_next}
use Rattle.committed_log.proofs.Faults.{both_none, unless_ok}

-- the store after what an op means
abbrev made : ℕ → Store → Result (Option FamilyOp) OpFault → Store
made p s c = elim c [ Err fault ↦ s | Ok found ↦ elim found [ None ↦ s | Some c ↦ after_change p s c ] ]

-- ---- what comes at the end

-- the second list is the first and then commits by the entry at position p
pub record HasMore (p : ℕ) (old new : List Commit) : Type 0 where
  pub more : List Commit
  pub is : new ≡ old ++ more
  pub theirs : All (λ (c : Commit). c.position ≡ p) more

append_nil : {X : Type 0} (xs : List X) → xs ≡ xs ++ []
append_nil [] = refl
append_nil (x ∷ xs) = ap (λ rest. x ∷ rest) (append_nil xs)

append_twice : {X : Type 0} (xs ys zs : List X) → (xs ++ ys) ++ zs ≡ xs ++ (ys ++ zs)
append_twice [] ys zs = refl
append_twice (x ∷ xs) ys zs = ap (λ rest. x ∷ rest) (append_twice xs ys zs)

pub no_more : (p : ℕ) (cs : List Commit) → HasMore p cs cs
no_more p cs = record { more = []; is = append_nil cs; theirs = All-nil (λ (c : Commit). c.position ≡ p) }

more_twice : (p : ℕ) (a b c : List Commit) → HasMore p a b → HasMore p b c → HasMore p a c
more_twice p a b c x y = record { more = x.more ++ y.more; is = y.is ∙ ap (λ z. z ++ y.more) x.is ∙ append_twice a x.more y.more; theirs = All-append (λ (c : Commit). c.position ≡ p) x.more y.more x.theirs y.theirs }

module _ (p : ℕ) (s : Store) where
  either : (b : Bool) (c : Commit) → c.position ≡ p → HasMore p s.commits (cond b s (record s { commits = s.commits ++ c ∷ [] })).commits
  either true c is = no_more p s.commits
  either false c is = record { more = c ∷ []; is = refl; theirs = All-cons (λ (c : Commit). c.position ≡ p) c [] is (All-nil (λ (c : Commit). c.position ≡ p)) }

  change_adds : (c : FamilyOp) → HasMore p s.commits (after_change p s c).commits
  change_adds (change.Value h start bytes) = no_more p s.commits
  change_adds (change.DropValue h start) = no_more p s.commits
  change_adds (change.Lock h kind start) = no_more p s.commits
  change_adds (change.Unlock h) = no_more p s.commits
  change_adds (change.Write h ts start gone short) = either (is_repeated (last_commit s.commits h) ts start gone) (record { handle = h; ts = ts; start = start; value = committed_value gone short (value s.values h start); position = p }) refl

  made_adds : (c : Result (Option FamilyOp) OpFault) → HasMore p s.commits (made p s c).commits
  made_adds (Err fault) = no_more p s.commits
  made_adds (Ok None) = no_more p s.commits
  made_adds (Ok (Some c)) = change_adds c

pub ops_add : (table : ℤ) (range : HandleRange) (p : ℕ) (s : Store) (ops : List Op) → HasMore p s.commits (after_ops table range p s ops).commits
ops_add table range p s [] = no_more p s.commits
ops_add table range p s (op ∷ ops) = more_twice p s.commits (after_op table range p s op).commits (after_ops table range p (after_op table range p s op) ops).commits (made_adds p s (change_of table range op)) (ops_add table range p (after_op table range p s op) ops)

-- ---- the newest commit is the newest

-- what is found is below
abbrev IsUnder : ℕ → Option Commit → Type 0
IsUnder ts None = Unit {0}
IsUnder ts (Some c) = c.ts < ts

module _ (h : ℤ) (ts : ℕ) where
  under_newer : (o : Option Commit) (c : Commit) → IsUnder ts (newer o (candidate (λ c. true) h c)) → IsUnder ts o × (c.handle ≡ h → c.ts < ts)
  under_newer o c u = by (int_eq c.handle h) refl u
    where
      same : (a b : ℤ) → a ≡ b → int_eq a b ≡ true
      same a b e = grind (arith, ints)

      whole : (o : Option Commit) → newer o None ≡ o
      whole None = refl
      whole (Some x) = refl

      less : (x y : ℕ) → nat_lt x y ≡ true → x < y
      less x y e = grind arith

      not_less : (x y : ℕ) → nat_lt x y ≡ false → y ≤ x
      not_less x y e = grind arith

      here : (o : Option Commit) → IsUnder ts (newer o (Some c)) → IsUnder ts o × (c.handle ≡ h → c.ts < ts)
      here None u = (tt, λ e. u)
      here (Some x) u = which (nat_lt x.ts c.ts) refl u
        where
          which : (b : Bool) → nat_lt x.ts c.ts ≡ b → IsUnder ts (cond b (Some c) (Some x)) → IsUnder ts (Some x) × (c.handle ≡ h → c.ts < ts)
          which true e u = (let l = less x.ts c.ts e in omega (arith, l, u), λ e. u)
          which false e u = (u, λ f. (let l = not_less x.ts c.ts e in omega (arith, l, u)))

      by : (b : Bool) → int_eq c.handle h ≡ b → IsUnder ts (newer o (cond (b && true) (Some c) None)) → IsUnder ts o × (c.handle ≡ h → c.ts < ts)
      by true is u = here o u
      by false is u = (subst (IsUnder ts) (whole o) u, λ e. absurd (true≢false (sym (same c.handle h e) ∙ is)))

  all_under : (o : Option Commit) (cs : List Commit) → IsUnder ts (fold newer o (map (candidate (λ c. true) h) cs)) → IsUnder ts o × All (λ (c : Commit). c.handle ≡ h → c.ts < ts) cs
  all_under o [] u = (u, All-nil (λ (c : Commit). c.handle ≡ h → c.ts < ts))
  all_under o (c ∷ cs) u =
      let rest = all_under (newer o (candidate (λ c. true) h c)) cs u in
      let here = under_newer o c rest.0 in
      (here.0, All-cons (λ (c : Commit). c.handle ≡ h → c.ts < ts) c cs here.1 rest.1)

-- a commit that isn't backdated is newer than the others on its handle
pub newer_than_all : (cs : List Commit) (h : ℤ) (ts k : ℕ) → backdated_fault (last_commit cs h) ts k ≡ None → All (λ (c : Commit). c.handle ≡ h → c.ts < ts) cs
newer_than_all cs h ts k fine = (all_under h ts None cs (by (newest (λ c. true) h cs) fine)).1
  where
    by : (o : Option Commit) → backdated_fault (option_map (λ (c : Commit). record { ts = c.ts; start = c.start; gone = is_delete c }) o) ts k ≡ None → IsUnder ts o
    by None e = tt
    by (Some c) e = less c.ts ts (unless_ok (nat_lt c.ts ts) (unlawful.Backdated k c.ts) e)
      where
        less : (x y : ℕ) → nat_lt x y ≡ true → x < y
        less x y e = grind arith

-- ---- the commits on a handle rise

push_rises : (cs : List Commit) (c : Commit) → CommitsRise cs → All (λ (d : Commit). d.handle ≡ c.handle → d.ts < c.ts) cs → CommitsRise (cs ++ c ∷ [])
push_rises cs c rise under = all_pairs_push (λ (c d : Commit). c.handle ≡ d.handle → c.ts < d.ts) cs c rise (λ k d low. under k d low)

module _ (schema : List Column) (p : ℕ) (s : Store) (k : ℕ) (rise : CommitsRise s.commits) where
  change_rises : (c : FamilyOp) → change_fault schema (last_commit s.commits) s.values k c ≡ None → CommitsRise (after_change p s c).commits
  change_rises (change.Value h start bytes) e = rise
  change_rises (change.DropValue h start) e = rise
  change_rises (change.Lock h kind start) e = rise
  change_rises (change.Unlock h) e = rise
  change_rises (change.Write h ts start gone short) e = by (is_repeated (last_commit s.commits h) ts start gone) e
    where
      by : (b : Bool) → cond b None (option_or (backdated_fault (last_commit s.commits h) ts k) (cond gone None (value_fault schema (committed_value gone short (value s.values h start)) k))) ≡ None →
          CommitsRise (cond {A = Store} b s (record s { commits = s.commits ++ record { handle = h; ts = ts; start = start; value = committed_value gone short (value s.values h start); position = p } ∷ [] })).commits
      by true e = rise
      by false e = push_rises s.commits (record { handle = h; ts = ts; start = start; value = committed_value gone short (value s.values h start); position = p }) rise (newer_than_all s.commits h ts k (both_none (backdated_fault (last_commit s.commits h) ts k) (cond gone None (value_fault schema (committed_value gone short (value s.values h start)) k)) e).0)

  abbrev fault_of : Result (Option FamilyOp) OpFault → Option Unlawful
  fault_of r = elim r [
    | Err fault ↦ elim fault [ BadKey ↦ Some (unlawful.Key k) | BadRecord ↦ Some (unlawful.Record k) ]
    | Ok found ↦ elim found [ None ↦ None | Some c ↦ change_fault schema (last_commit s.commits) s.values k c ]
  ]

  made_rises : (c : Result (Option FamilyOp) OpFault) → fault_of c ≡ None → CommitsRise (made p s c).commits
  made_rises (Err fault) e = rise
  made_rises (Ok None) e = rise
  made_rises (Ok (Some c)) e = change_rises c e

ops_rise : (table : ℤ) (schema : List Column) (range : HandleRange) (p : ℕ) (s : Store) (k : ℕ) (ops : List Op) → ops_fault_from table schema range p s k ops ≡ None → CommitsRise s.commits → CommitsRise (after_ops table range p s ops).commits
ops_rise table schema range p s k [] e rise = rise
ops_rise table schema range p s k (op ∷ ops) e rise =
    let parts = both_none (op_fault table schema range s k op) (ops_fault_from table schema range p (after_op table range p s op) (suc k) ops) e in
    ops_rise table schema range p (after_op table range p s op) (suc k) ops parts.1 (made_rises schema p s k rise (change_of table range op) parts.0)

cleared_rises : (range : HandleRange) (s : Store) → CommitsRise s.commits → CommitsRise (cleared range s).commits
cleared_rises range s rise = AllPairs-filter (λ (c d : Commit). c.handle ≡ d.handle → c.ts < d.ts) (λ (c : Commit). not (holds range c.handle)) s.commits rise

module _ (table : ℤ) (schema : List Column) (p : ℕ) (s : Store) (rise : CommitsRise s.commits) where
  abbrev fault_in : Body → Option HandleRange → Option Unlawful
  fault_in (body.Write ops) there = elim there [ None ↦ None | Some range ↦ ops_fault_from table schema range p s 0 ops ]
  fault_in (body.Install conf_ver version low high ops) there = let range : HandleRange = record { low = low; high = high } in ops_fault_from table schema range p (cleared range s) 0 ops
  fault_in _ there = None

  families_rise : (there : Option HandleRange) (b : Body) → fault_in b there ≡ None → CommitsRise (families_after table p there b s).commits
  families_rise (Some range) (body.Write ops) e = ops_rise table schema range p s 0 ops e rise
  families_rise (Some range) body.Remove e = cleared_rises range s rise
  families_rise (Some range) (body.Install conf_ver version low high ops) e = ops_rise table schema (record { low = low; high = high }) p (cleared (record { low = low; high = high }) s) 0 ops e (cleared_rises (record { low = low; high = high }) s rise)
  families_rise None (body.Install conf_ver version low high ops) e = ops_rise table schema (record { low = low; high = high }) p (cleared (record { low = low; high = high }) s) 0 ops e (cleared_rises (record { low = low; high = high }) s rise)
  families_rise (Some range) (body.Open conf_ver version low high) e = rise
  families_rise (Some range) (body.Split middle child) e = rise
  families_rise (Some range) (body.Prepare target) e = rise
  families_rise (Some range) (body.Commit source) e = rise
  families_rise (Some range) body.Empty e = rise
  families_rise None (body.Open conf_ver version low high) e = rise
  families_rise None (body.Write ops) e = rise
  families_rise None (body.Split middle child) e = rise
  families_rise None (body.Prepare target) e = rise
  families_rise None (body.Commit source) e = rise
  families_rise None body.Remove e = rise
  families_rise None body.Empty e = rise

  fault_is : (r : ℕ) (b : Body) → ops_fault table schema p s r b ≡ None → fault_in b (range_of (region s.regions r)) ≡ None
  fault_is r (body.Write ops) e = e
  fault_is r (body.Install conf_ver version low high ops) e = e
  fault_is r body.Remove e = refl
  fault_is r (body.Open conf_ver version low high) e = refl
  fault_is r (body.Split middle child) e = refl
  fault_is r (body.Prepare target) e = refl
  fault_is r (body.Commit source) e = refl
  fault_is r body.Empty e = refl

  pub entry_rises : (e : Entry) → ops_fault table schema p s e.region e.body ≡ None → CommitsRise (after_entry table p s e).commits
  entry_rises e fine = families_rise (range_of (region s.regions e.region)) e.body (fault_is e.region e.body fine)

pub commits_rise_at : (log : Log) → IsLawful log → (p : ℕ) → CommitsRise (at log p).commits
commits_rise_at log lawful p = by_entries log (λ p s. CommitsRise s.commits) (λ i j d less low. absurd (omega (arith, low)))
    (λ p e is rise. entry_rises log.table log.schema p (at log p) rise e (ops_next log p e is lawful)) (λ p s rise. rise) p
