-- The rows that pass of what is present, and lists of them.
use Rattle.std.proofs.Common.{◌≡◌, ◌⊎◌, inl, inr, ◌∙◌, refl, sym, ap, subst, ℕ, zero, suc, ◌<◌, ◌≤◌, ◌<ℤ◌, ℤ, Bool, true, false, true≢false, cond, ◌&&◌, ◌||◌, List, [], ◌∷◌, ◌++◌, Option, Some, None, length, get_or, slice_get, option_map, arith}
use Rattle.std.specs.Prelude.{filter, find, int_le, int_lt}
use Rattle.std.specs.List.{AllByRecursion, AllPairs, list_any}
use Rattle.std.specs.Option.{option_or}
use Rattle.std.specs.Ordering.{int_eq}
use Rattle.std.proofs.lemmas.Int.{ints}
use Rattle.std.proofs.lemmas.List.Kept.{AllPairs-filter}
use Rattle.column_block.specs.declared.cell.Version.{Version}
use Rattle.flash_types.specs.Ranges.{holds, is_below}
use Rattle.flash_types.specs.declared.range.HandleRange.{HandleRange}
use Rattle.flash_types.specs.declared.refusal.Cut.{Cut}
use Rattle.good_replica.specs.Changed.{view}
use Rattle.good_replica.specs.Shows.{Shows}
use Rattle.good_replica.specs.Versions.{Versions}
use Rattle.good_replica.proofs.Facts.{int_same}
use Rattle.column_block.specs.Order.{Rise}
use Rattle.delta_layer.specs.Files.{files_of}
use Rattle.delta_layer.specs.Present.{ArePresent, AreWithin}
use Rattle.delta_layer.specs.Stable.{packs_in, stable_in}
use Rattle.delta_layer.specs.declared.view.SegmentView.{SegmentView}
use Rattle.learner_read.specs.Laws.{AreRead, IsWell, KeepsTest, KeptAs, ScansFollow, ShowsRow, TellsColumn}
use Rattle.learner_read.specs.Pieces.{PiecesRise, ends_before, is_needed, meets}
use Rattle.learner_read.specs.Rows.{cells_on, is_asked, shown_rows}
use Rattle.learner_read.specs.Scans.{Answers, AreOf, AreRowsOrNone, Leaves, Pass, Scans, rows_of}
use Rattle.learner_read.specs.Scans.Pass.{Dropped, End, Kept}
use Rattle.learner_read.specs.declared.snapshot.Snapshot.{Snapshot}
use Rattle.learner_read.proofs.Members.{In, in_filter, in_get, find_in}
use Rattle.learner_read.proofs.Newest.{IsTop, once, shows, top}

-- ---- lists of rows

abbrev pub IsLower : Version → Version → Type 0
IsLower v w = v.handle <ℤ w.handle

pairs_cons : (v : Version) (ws : List Version) → ((w : Version) → In w ws → IsLower v w) → AllPairs IsLower ws → AllPairs IsLower (v ∷ ws)
pairs_cons v ws below all zero zero d less within = absurd (omega (arith, less))
pairs_cons v ws below all zero (suc j) d less within = below (get_or ws j d) (in_get ws j d (omega (arith, within)))
pairs_cons v ws below all (suc i) zero d less within = absurd (omega (arith, less))
pairs_cons v ws below all (suc i) (suc j) d less within = all i j d (omega (arith, less)) (omega (arith, within))

pairs_rest : (v : Version) (ws : List Version) → AllPairs IsLower (v ∷ ws) → AllPairs IsLower ws
pairs_rest v ws all i j d less within = all (suc i) (suc j) d (omega (arith, less)) (omega (arith, within))

pairs_first : (v : Version) (ws : List Version) → AllPairs IsLower (v ∷ ws) → (w : Version) → In w ws → IsLower v w
pairs_first v ws all w i = (let at = place ws w i in subst (IsLower v) (at.2) (all 0 (suc at.0) w (omega arith) (let l = at.1 in omega (arith, l))))
  where
    place : (ws : List Version) (w : Version) → In w ws → (k : ℕ) × (k < length ws) × (get_or ws k w ≡ w)
    place [] w i = absurd i
    place (x ∷ xs) w (inl same) = (0, omega arith, sym same)
    place (x ∷ xs) w (inr i) = (let at = place xs w i in (suc at.0, (let l = at.1 in omega (arith, l)), at.2))

pub in_append : (v : Version) (xs ys : List Version) → In v (xs ++ ys) → In v xs ⊎ In v ys
in_append v [] ys i = inr i
in_append v (x ∷ xs) ys (inl same) = inl (inl same)
in_append v (x ∷ xs) ys (inr i) = elim (in_append v xs ys i) [ inl a ↦ inl (inr a) | inr b ↦ inr b ]

pub pairs_join : (xs ys : List Version) → AllPairs IsLower xs → AllPairs IsLower ys → ((v w : Version) → In v xs → In w ys → IsLower v w) → AllPairs IsLower (xs ++ ys)
pairs_join [] ys a b across = b
pairs_join (x ∷ xs) ys a b across =
    pairs_cons x (xs ++ ys) (λ w i. elim (in_append w xs ys i) [ inl l ↦ pairs_first x xs a w l | inr r ↦ across x w (inl refl) r ])
    (pairs_join xs ys (pairs_rest x xs a) b (λ v w i j. across v w (inr i) j))

pub each_in : (P : Version → Type 0) (vs : List Version) → ((v : Version) → In v vs → P v) → AllByRecursion P vs
each_in P [] all = tt
each_in P (v ∷ vs) all = (all v (inl refl), each_in P vs (λ w i. all w (inr i)))

pub in_each : (P : Version → Type 0) (vs : List Version) → AllByRecursion P vs → (v : Version) → In v vs → P v
in_each P [] all v i = absurd i
in_each P (w ∷ ws) all v (inl same) = subst P (sym same) all.0
in_each P (w ∷ ws) all v (inr i) = in_each P ws all.1 v i

-- ---- a row by its handle

abbrev pub on : ℤ → Version → Bool
on h v = int_eq v.handle h

pub find_append : (h : ℤ) (xs ys : List Version) → find (on h) (xs ++ ys) ≡ option_or (find (on h) xs) (find (on h) ys)
find_append h [] ys = refl
find_append h (x ∷ xs) ys = by (on h x) (find_append h xs ys)
  where
    by : (b : Bool) → find (on h) (xs ++ ys) ≡ option_or (find (on h) xs) (find (on h) ys) → cond b (Some x) (find (on h) (xs ++ ys)) ≡ option_or (cond b (Some x) (find (on h) xs)) (find (on h) ys)
    by true rest = refl
    by false rest = rest

-- none is found where each is of another handle
pub find_other : (h : ℤ) (vs : List Version) → ((v : Version) → In v vs → v.handle ≡ h → ⊥) → find (on h) vs ≡ None
find_other h vs other = by (find (on h) vs) refl
  where
    by : (o : Option Version) → find (on h) vs ≡ o → find (on h) vs ≡ None
    by None e = e
    by (Some v) e = let f = find_in (on h) v vs e in absurd (other v (f.0) (int_same v.handle h (f.1)))

-- a filter on handles leaves the rows of the handles that pass
pub find_kept : (q : ℤ → Bool) (h : ℤ) (vs : List Version) → q h ≡ true → find (on h) (filter (λ (v : Version). q v.handle) vs) ≡ find (on h) vs
find_kept q h [] passes = refl
find_kept q h (v ∷ vs) passes = by (on h v) refl (q v.handle) refl (find_kept q h vs passes)
  where
    by : (b : Bool) → on h v ≡ b → (c : Bool) → q v.handle ≡ c → find (on h) (filter (λ (v : Version). q v.handle) vs) ≡ find (on h) vs →
        find (on h) (cond c (v ∷ filter (λ (v : Version). q v.handle) vs) (filter (λ (v : Version). q v.handle) vs)) ≡ cond b (Some v) (find (on h) vs)
    by true is true out rest = ap (λ b. cond b (Some v) (find (on h) (filter (λ (v : Version). q v.handle) vs))) is
    by true is false out rest = absurd (true≢false (sym passes ∙ ap q (sym (int_same v.handle h is)) ∙ out))
    by false is true out rest = ap (λ b. cond b (Some v) (find (on h) (filter (λ (v : Version). q v.handle) vs))) is ∙ rest
    by false is false out rest = rest

-- ---- ranges

pub both : (a b : Bool) → (a && b) ≡ true → (a ≡ true) × (b ≡ true)
both true b e = (refl, e)
both false b e = absurd (true≢false (sym e))

pub and : (a b : Bool) → a ≡ true → b ≡ true → (a && b) ≡ true
and true b e f = f
and false b e f = absurd (true≢false (sym e))

low_high : (h : ℤ) (a : ℤ) (high : Option ℤ) → int_le a h ≡ true → is_below h high ≡ true → is_below a high ≡ true
low_high h a None le below = refl
low_high h a (Some high) le below = less a h high le below
  where
    less : (a h high : ℤ) → int_le a h ≡ true → int_lt h high ≡ true → int_lt a high ≡ true
    less a h high p q = grind (arith, ints)

meet_at : (a b : HandleRange) (h : ℤ) → holds a h ≡ true → holds b h ≡ true → meets a b ≡ true
meet_at a b h x y =
    let p = both (int_le a.low h) (is_below h a.high) x in
    let q = both (int_le b.low h) (is_below h b.high) y in
    and (is_below a.low b.high) (is_below b.low a.high) (low_high h a.low b.high (p.0) (q.1)) (low_high h b.low a.high (q.0) (p.1))

-- a piece is needed that has a handle that is asked for
pub needed_at : (clip : HandleRange) (cuts : List Cut) (range : HandleRange) (h : ℤ) → holds range h ≡ true → is_asked clip cuts h ≡ true → is_needed clip cuts range ≡ true
needed_at clip cuts range h held asked =
    let p = both (holds clip h) (list_any (λ (cut : Cut). holds cut.range h) cuts) asked in
    and (meets range clip) (list_any (λ (cut : Cut). meets range cut.range) cuts) (meet_at range clip h held (p.0)) (some cuts (p.1))
  where
    some : (cuts : List Cut) → list_any (λ (cut : Cut). holds cut.range h) cuts ≡ true → list_any (λ (cut : Cut). meets range cut.range) cuts ≡ true
    some [] e = e
    some (cut ∷ cuts) e = by (holds cut.range h) refl e (some cuts)
      where
        or_first : (a b : Bool) → a ≡ true → (a || b) ≡ true
        or_first true b e = refl
        or_first false b e = absurd (true≢false (sym e))

        or_second : (a b : Bool) → b ≡ true → (a || b) ≡ true
        or_second true b e = refl
        or_second false b e = e

        by : (b : Bool) → holds cut.range h ≡ b → (b || list_any (λ (cut : Cut). holds cut.range h) cuts) ≡ true → (list_any (λ (cut : Cut). holds cut.range h) cuts ≡ true → list_any (λ (cut : Cut). meets range cut.range) cuts ≡ true) → (meets range cut.range || list_any (λ (cut : Cut). meets range cut.range) cuts) ≡ true
        by true is e rest = or_first (meets range cut.range) (list_any (λ (cut : Cut). meets range cut.range) cuts) (meet_at range cut.range h held is)
        by false is e rest = or_second (meets range cut.range) (list_any (λ (cut : Cut). meets range cut.range) cuts) (rest e)

-- handles of ranges that rise
pub ordered : (a b : HandleRange) → ends_before a b ≡ true → (h k : ℤ) → holds a h ≡ true → holds b k ≡ true → h <ℤ k
ordered a b before h k x y = by a.high refl
  where
    less : (h high low k : ℤ) → int_lt h high ≡ true → int_le high low ≡ true → int_le low k ≡ true → h <ℤ k
    less h high low k p q r = grind (arith, ints)

    by : (o : Option ℤ) → a.high ≡ o → h <ℤ k
    by None e = absurd (true≢false (sym before ∙ ap (λ o. elim o [ None ↦ false | Some high ↦ int_le high b.low ]) e))
    by (Some high) e = less h high b.low k (sym (ap (is_below h) e) ∙ (both (int_le a.low h) (is_below h a.high) x).1) (sym (ap (λ o. elim o [ None ↦ false | Some high ↦ int_le high b.low ]) e) ∙ before) ((both (int_le b.low k) (is_below k b.high) y).0)

pub irreflexive : (a b : ℤ) → a <ℤ b → a ≡ b → ⊥
irreflexive a b less same = grind (arith, ints)

-- ---- rows that pass

pub pass_in : (test : Answers) (xs passed : List Version) → Pass test xs passed → (v : Version) → In v passed → In v xs × test v.cells true
pass_in test _ _ End v i = absurd i
pass_in test _ _ (Kept w ws passed is rest) v (inl same) = (inl same, subst (λ (x : Version). test x.cells true) (sym same) is)
pass_in test _ _ (Kept w ws passed is rest) v (inr i) = (let r = pass_in test ws passed rest v i in (inr r.0, r.1))
pass_in test _ _ (Dropped w ws passed is rest) v i = (let r = pass_in test ws passed rest v i in (inr r.0, r.1))

pub pass_rise : (test : Answers) (xs passed : List Version) → Pass test xs passed → AllPairs IsLower xs → AllPairs IsLower passed
pass_rise test _ _ End rise = rise
pass_rise test _ _ (Kept w ws passed is rest) rise = pairs_cons w passed (λ x i. pairs_first w ws rise x (pass_in test ws passed rest x i).0) (pass_rise test ws passed rest (pairs_rest w ws rise))
pass_rise test _ _ (Dropped w ws passed is rest) rise = pass_rise test ws passed rest (pairs_rest w ws rise)

-- of rows that rise, what is kept of a handle
pub kept_of : (test : Answers) (h : ℤ) (xs passed : List Version) → Pass test xs passed → AllPairs IsLower xs → KeptAs test (cells_on h xs) (cells_on h passed)
kept_of test h _ _ End rise = refl
kept_of test h _ _ (Kept w ws passed is rest) rise = by (on h w) (kept_of test h ws passed rest (pairs_rest w ws rise))
  where
    by : (b : Bool) → KeptAs test (cells_on h ws) (cells_on h passed) → KeptAs test (option_map (λ (v : Version). v.cells) (cond b (Some w) (find (on h) ws))) (option_map (λ (v : Version). v.cells) (cond b (Some w) (find (on h) passed)))
    by true k = inl (refl, is)
    by false k = k
kept_of test h _ _ (Dropped w ws passed is rest) rise = by (on h w) refl (kept_of test h ws passed rest (pairs_rest w ws rise))
  where
    none : on h w ≡ true → cells_on h passed ≡ None
    none here = ap (option_map (λ (v : Version). v.cells)) (find_other h passed (λ x i same. irreflexive w.handle x.handle (pairs_first w ws rise x (pass_in test ws passed rest x i).0) (int_same w.handle h here ∙ sym same)))

    by : (b : Bool) → on h w ≡ b → KeptAs test (cells_on h ws) (cells_on h passed) → KeptAs test (option_map (λ (v : Version). v.cells) (cond b (Some w) (find (on h) ws))) (cells_on h passed)
    by true here k = inr (none here, inl is)
    by false here k = k

-- ---- the rows of a piece

module _ {G : Type 0} (snapshot : Snapshot G) where
  abbrev pub asked : ℤ → Bool
  asked h = is_asked snapshot.clip snapshot.cuts h

  pub row_is : (versions : List Version) (v : Version) → In v (rows_of snapshot versions) → In v versions × ((asked v.handle ≡ true) × IsTop snapshot.ts versions v)
  row_is versions v i =
      let a = in_filter (λ (v : Version). asked v.handle) v (shown_rows snapshot.ts versions) i in
      let b = in_filter _ v versions (a.0) in
      (b.0, (a.1, top snapshot.ts versions v (b.1)))

  pub rows_rise : (versions : List Version) → Rise versions → AllPairs IsLower (rows_of snapshot versions)
  rows_rise versions rise = AllPairs-filter IsLower (λ (v : Version). asked v.handle) (shown_rows snapshot.ts versions) (once snapshot.ts versions rise)

  pub are_rows : (test : Answers) (versions shown rows : List Version) → Rise versions → shown ≡ rows_of snapshot versions → Pass test shown rows → AreRowsOrNone snapshot rows
  are_rows test versions shown rows rise is passes = record {
    rise = pass_rise test shown rows passes (subst (AllPairs IsLower) (sym is) (rows_rise versions rise));
    asked = each_in (λ (v : Version). is_asked snapshot.clip snapshot.cuts v.handle ≡ true) rows (λ v i. (of v i).1.0);
    puts = each_in (λ (v : Version). v.gone ≡ false) rows (λ v i. (of v i).1.1.put);
    old = each_in (λ (v : Version). v.ts ≤ snapshot.ts) rows (λ v i. (of v i).1.1.low);
  }
    where
      of : (v : Version) → In v rows → In v versions × ((asked v.handle ≡ true) × IsTop snapshot.ts versions v)
      of v i = row_is versions v (subst (In v) is (pass_in test shown rows passes v i).0)

  -- each row of what is present in a range is of the range
  pub are_of : (test : Answers) (range : HandleRange) (versions shown rows : List Version) → AreWithin range versions → shown ≡ rows_of snapshot versions → Pass test shown rows → AreOf range rows
  are_of test range versions shown rows within is passes = each_in (λ (v : Version). holds range v.handle ≡ true) rows (λ v i. in_each (λ (v : Version). holds range v.handle ≡ true) versions within v (row_is versions v (subst (In v) is (pass_in test shown rows passes v i).0)).0)
