-- What an image has of a store stays where only files change that the store doesn't name.
use Rattle.std.proofs.Common.{◌≡◌, ◌≢◌, ◌∙◌, ℕ, ◌<◌, ◌≤◌, Bool, true, false, List, [], ◌∷◌, Option, Some, None, refl, sym, subst, arith, nat_lt}
use Rattle.std.specs.Prelude.{◌&&◌, ◌||◌, ◌==◌}
use Rattle.std.specs.List.{list_any, list_all}
use Rattle.flash_io.specs.Image.{Image, SameBut}
use Rattle.flash_types.specs.declared.range.HandleRange.{HandleRange}
use Rattle.column_block.specs.declared.column.Column.{Column}
use Rattle.column_block.specs.declared.cell.Version.{Version}
use Rattle.manifest_form.specs.declared.recover.Recovered.{Recovered}
use Rattle.manifest_form.specs.declared.state.State.{State}
use Rattle.manifest_form.specs.declared.state.StoredFile.{StoredFile}
use Rattle.manifest_form.specs.declared.state.StoredFile.TheVariants.{Tiny, DeleteRange}
use Rattle.manifest_form.specs.declared.state.StoredSegment.{StoredSegment}
use Rattle.manifest_form.specs.States.{is_formed, all_below, name_below, file_below, segment_below}
use Rattle.manifest.specs.Stores.{HasStore}
use Rattle.committed_log.specs.Log.{Log}
use Rattle.good_replica.specs.Trail.{DeltaFile, Segment}
use Rattle.region_table.specs.Opening.{IsFileOf}
use Rattle.replica_store.specs.Naming.{is_number, is_tiny_file, is_file_of, is_file_in, is_named}
use Rattle.store_image.specs.Images.{TellsStable, TellsTiny, HasFile, IsStableRead, IsFileRead, AreFilesRead, AreSegmentsRead, AreRegionsRead, Stands, HasStanding, columns_in}
use Rattle.store_image.specs.Sound.{AreAlike, SameNamed}

pub same_number : (n : ℕ) → (n == n) ≡ true
same_number n = grind arith

number_same : (a b : ℕ) → (a == b) ≡ true → a ≡ b
number_same a b h = grind (arith, h)

pub or_left : (a b : Bool) → a ≡ true → (a || b) ≡ true
or_left true b h = refl
or_left false b h = absurd (cc h)

pub or_right : (a b : Bool) → b ≡ true → (a || b) ≡ true
or_right true b h = refl
or_right false b h = h

-- ---- which files are named

pub root_named : (own : ℕ) (s : State) → is_named own s 0 ≡ true
root_named own s = refl

pub own_named : (own : ℕ) (s : State) → is_named own s own ≡ true
own_named own s = or_right (own == 0) _ (or_left (own == own) _ (same_number own))

pub file_named : (own : ℕ) (s : State) (file : ℕ) → is_file_in file s ≡ true → is_named own s file ≡ true
file_named own s file h = or_right (file == 0) _ (or_right (file == own) _ h)

-- a file that isn't named is another than one that is
pub named_apart : (own : ℕ) (s : State) (file other : ℕ) → is_named own s file ≡ false → is_named own s other ≡ true → other ≢ file
named_apart own s file other out in_it same = absurd (cc (sym (subst (λ n. is_named own s n ≡ true) same in_it) ∙ out))

-- ---- named files are below Next

and_left : (a b : Bool) → (a && b) ≡ true → a ≡ true
and_left true b h = refl
and_left false b h = absurd (cc h)

and_right : (a b : Bool) → (a && b) ≡ true → b ≡ true
and_right true b h = h
and_right false b h = absurd (cc h)

less_than : (a b : ℕ) → nat_lt a b ≡ true → a < b
less_than a b h = grind (arith, h)

module _ (next file : ℕ) where
  number_below : (o : Option ℕ) → name_below next o ≡ true → is_number file o ≡ true → file < next
  number_below None below is = absurd (cc is)
  number_below (Some other) below is = (let same = number_same other file is in subst (λ n. n < next) same (less_than other next below))

  tiny_below : (s : StoredFile) → file_below next s ≡ true → is_tiny_file file s ≡ true → file < next
  tiny_below (Tiny other) below is = (let same = number_same other file is in subst (λ n. n < next) same (less_than other next below))
  tiny_below (DeleteRange range) below is = absurd (cc is)

  rest_below : {X : Type 0} (low is_it : X → Bool) (x : X) (xs : List X) → (low x ≡ true → is_it x ≡ true → file < next) → (list_all low xs ≡ true → list_any is_it xs ≡ true → file < next) → (low x && list_all low xs) ≡ true → (b : Bool) → is_it x ≡ b → (b || list_any is_it xs) ≡ true → file < next
  rest_below low is_it x xs each rest below true here is = each (and_left (low x) _ below) here
  rest_below low is_it x xs each rest below false here is = rest (and_right (low x) _ below) is

  any_below : {X : Type 0} (low is_it : X → Bool) → ((x : X) → low x ≡ true → is_it x ≡ true → file < next) → (xs : List X) → list_all low xs ≡ true → list_any is_it xs ≡ true → file < next
  any_below low is_it each [] below is = absurd (cc is)
  any_below low is_it each (x ∷ xs) below is = rest_below low is_it x xs (each x) (any_below low is_it each xs) below (is_it x) refl is

  segment_low : (s : StoredSegment) → segment_below next s ≡ true → is_file_of file s ≡ true → file < next
  segment_low s below is = by (is_number file s.stable) refl
    where
      files : (name_below next s.stable && list_all (file_below next) s.delta) ≡ true
      files = and_right (nat_lt s.id next) _ below

      by : (b : Bool) → is_number file s.stable ≡ b → file < next
      by true here = number_below s.stable (and_left (name_below next s.stable) _ files) here
      by false not_here = any_below (file_below next) (is_tiny_file file) tiny_below s.delta (and_right (name_below next s.stable) _ files) (subst (λ b. (b || list_any (is_tiny_file file) s.delta) ≡ true) not_here is)

pub file_low : (own : ℕ) (s : State) (file : ℕ) → is_formed own s ≡ true → is_file_in file s ≡ true → file < s.next
file_low own s file formed is = by (is_number file s.regions) refl
  where
    low : (name_below s.next s.regions && list_all (segment_below s.next) s.segments) ≡ true
    low = and_right (nat_lt own s.next) _ (and_left (all_below s.next own s) _ formed)

    by : (b : Bool) → is_number file s.regions ≡ b → file < s.next
    by true here = number_below s.next file s.regions (and_left (name_below s.next s.regions) _ low) here
    by false not_here = any_below s.next file (segment_below s.next) (is_file_of file) (segment_low s.next file) s.segments (and_right (name_below s.next s.regions) _ low) (subst (λ b. (b || list_any (is_file_of file) s.segments) ≡ true) not_here is)

pub own_low : (own : ℕ) (s : State) → is_formed own s ≡ true → own < s.next
own_low own s formed = less_than own s.next (and_left (nat_lt own s.next) _ (and_left (all_below s.next own s) _ formed))

pub named_low : (own : ℕ) (s : State) (file : ℕ) → is_formed own s ≡ true → is_named own s file ≡ true → file < s.next
named_low own s file formed is = by (file == 0) refl (file == own) refl
  where
    low : own < s.next
    low = own_low own s formed

    by : (a : Bool) → (file == 0) ≡ a → (b : Bool) → (file == own) ≡ b → file < s.next
    by true root b mine = (let same = number_same file 0 root in omega (arith, same, low))
    by false root true mine = (let same = number_same file own mine in omega (arith, same, low))
    by false root false mine = file_low own s file formed (subst (λ b. (b || is_file_in file s) ≡ true) mine (subst (λ a. (a || (file == own || is_file_in file s)) ≡ true) root is))

-- what isn't below Next isn't named
pub fresh_unnamed : (own : ℕ) (s : State) (file : ℕ) → is_formed own s ≡ true → s.next ≤ file → is_named own s file ≡ false
fresh_unnamed own s file formed fresh = by (is_named own s file) refl
  where
    by : (b : Bool) → is_named own s file ≡ b → b ≡ false
    by false is = refl
    by true is = absurd (omega (arith, fresh, named_low own s file formed is))

-- ---- frames

-- two images that have the same bytes in a file for which a test holds
abbrev SameFor : Image → Image → (ℕ → Bool) → Type 0
SameFor d c test = (file : ℕ) → test file ≡ true → c file ≡ d file

module _ (own : ℕ) (d c : Image) where
  has_file_on : (file : ℕ) (P : List ℕ → Type 0) → c file ≡ d file → HasFile own d file P → HasFile own c file P
  has_file_on file P same h = (h.0, h.1, (h.2.0, same ∙ h.2.1, h.2.2))

  stable_on : (columns : List Column) (file : Option ℕ) (versions : List Version) → SameFor d c (λ n. is_number n file) → IsStableRead own d columns file versions → IsStableRead own c columns file versions
  stable_on columns None versions same h = h
  stable_on columns (Some file) versions same h = has_file_on file (TellsStable columns versions) (same file (same_number file)) h

  file_on : (columns : List Column) (range : HandleRange) (s : StoredFile) (f : DeltaFile) → SameFor d c (λ n. is_tiny_file n s) → IsFileRead own d columns range s f → IsFileRead own c columns range s f
  file_on columns range (Tiny file) f same h = has_file_on file (TellsTiny columns range f) (same file (same_number file)) h
  file_on columns range (DeleteRange cleared) f same h = h

  files_on : (columns : List Column) (range : HandleRange) (ss : List StoredFile) (fs : List DeltaFile) → SameFor d c (λ n. list_any (is_tiny_file n) ss) → AreFilesRead own d columns range ss fs → AreFilesRead own c columns range ss fs
  files_on columns range [] [] same h = h
  files_on columns range [] (f ∷ fs) same h = absurd h
  files_on columns range (s ∷ ss) [] same h = absurd h
  files_on columns range (s ∷ ss) (f ∷ fs) same h = (
    file_on columns range s f (λ n is. same n (or_left (is_tiny_file n s) (list_any (is_tiny_file n) ss) is)) h.0,
    files_on columns range ss fs (λ n is. same n (or_right (is_tiny_file n s) (list_any (is_tiny_file n) ss) is)) h.1,
  )

  pub segments_on : (columns : List Column) (ss : List StoredSegment) (ts : List Segment) → SameFor d c (λ n. list_any (is_file_of n) ss) → AreSegmentsRead own d columns ss ts → AreSegmentsRead own c columns ss ts
  segments_on columns [] [] same h = h
  segments_on columns [] (t ∷ ts) same h = absurd h
  segments_on columns (s ∷ ss) [] same h = absurd h
  segments_on columns (s ∷ ss) (t ∷ ts) same h = (
    record {
      range = h.0.range;
      stable = stable_on columns s.stable t.stable (λ n is. same n (or_left (is_file_of n s) (list_any (is_file_of n) ss) (or_left (is_number n s.stable) (list_any (is_tiny_file n) s.delta) is))) h.0.stable;
      delta = files_on columns s.range s.delta t.delta (λ n is. same n (or_left (is_file_of n s) (list_any (is_file_of n) ss) (or_right (is_number n s.stable) (list_any (is_tiny_file n) s.delta) is))) h.0.delta;
    },
    segments_on columns ss ts (λ n is. same n (or_right (is_file_of n s) (list_any (is_file_of n) ss) is)) h.1,
  )

  pub regions_on : (log : Log) (A : ℕ → Bool) (file : Option ℕ) → SameFor d c (λ n. is_number n file) → AreRegionsRead own d log A file → AreRegionsRead own c log A file
  regions_on log A None same h = h
  regions_on log A (Some file) same h = has_file_on file (IsFileOf log A) (same file (same_number file)) h

-- the files that a state names are read in the other image
pub read_on : (own : ℕ) (d c : Image) (s : State) (columns : List Column) (ts : List Segment) → AreAlike d c s → AreSegmentsRead own d columns s.segments ts → AreSegmentsRead own c columns s.segments ts
read_on own d c s columns ts same read = segments_on own d c columns s.segments ts (λ n is. same n (or_right (is_number n s.regions) (list_any (is_file_of n) s.segments) is)) read

pub regions_read_on : (own : ℕ) (d c : Image) (s : State) (log : Log) (A : ℕ → Bool) → AreAlike d c s → AreRegionsRead own d log A s.regions → AreRegionsRead own c log A s.regions
regions_read_on own d c s log A same read = regions_on own d c log A s.regions (λ n is. same n (or_left (is_number n s.regions) (list_any (is_file_of n) s.segments) is)) read

pub stands_on : (log : Log) (A : ℕ → Bool) (own : ℕ) (has : Recovered) (d c : Image) → AreAlike d c has.state → Stands log A own has d → Stands log A own has c
stands_on log A own has d c same stands = record {
  table = stands.table;
  columns = stands.columns;
  segments = stands.segments;
  read = read_on own d c has.state (columns_in log) stands.segments same stands.read;
  regions = regions_read_on own d c has.state log A same stands.regions;
  count = stands.count;
  good = stands.good;
  high = stands.high;
  below = stands.below;
  chain = stands.chain;
}

-- ---- the store with the files that it names

pub named_alike : (own : ℕ) (s : State) (d c : Image) → SameNamed own s d c → AreAlike d c s
named_alike own s d c same file is = same file (file_named own s file is)

pub store_on : (own : ℕ) (has : Recovered) (d c : Image) → SameNamed own has.state d c → HasStore d own has → HasStore c own has
store_on own has d c same store = record {
  names = (store.names.0, same 0 (root_named own has.state) ∙ store.names.1, store.names.2);
  content = store.content;
  is = same own (own_named own has.state) ∙ store.is;
  reads = store.reads;
}

pub standing_on : (log : Log) (A : ℕ → Bool) (safe : ℕ) (d c : Image) (it : HasStanding log A safe d) → SameNamed it.file it.has.state d c → HasStanding log A safe c
standing_on log A safe d c it same = record {
  file = it.file;
  has = it.has;
  store = store_on it.file it.has d c same it.store;
  safe_point = it.safe_point;
  stands = stands_on log A it.file it.has d c (named_alike it.file it.has.state d c same) it.stands;
}

-- one other file changes
pub one_unnamed : (own : ℕ) (s : State) (file : ℕ) (d c : Image) → is_named own s file ≡ false → SameBut file d c → SameNamed own s d c
one_unnamed own s file d c out same other is = same other (named_apart own s file other out is)

-- files from Next on change
pub beneath_next : (own : ℕ) (s : State) (first : ℕ) (d c : Image) → is_formed own s ≡ true → s.next ≤ first → ((file : ℕ) → file < first → c file ≡ d file) → SameNamed own s d c
beneath_next own s first d c formed fresh same other is = (let low = named_low own s other formed is in same other (omega (arith, low, fresh)))
