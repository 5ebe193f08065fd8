-- Entries in chunks, and the places of the chunks.
use Rattle.std.specs.Prelude.{◌≡◌, ℕ, ℤ, ◌+◌, ◌<◌, ◌≤◌, List, [], ◌∷◌, ◌++◌, length, take, drop, get_or, fold}
use Rattle.std.specs.declared.cmp.Ordering.TheVariants.{Less}
use Rattle.std.specs.List.{flat_map, AllByRecursion}
use Rattle.std.specs.Map.{keys_of}
use Rattle.delta_index.specs.Indexes.{Entry, put, AreRising}
use Rattle.column_block.specs.Order.{key_cmp}

-- the entries of all chunks, in order
abbrev pub flat : List (List Entry) → List Entry
flat chunks = flat_map (λ (chunk : List Entry). chunk) chunks

-- the places of the chunks' first entries, where the first of all is at `from`
abbrev pub starts_from : ℕ → List (List Entry) → List ℕ
starts_from from [] = []
starts_from from (chunk ∷ chunks) = from ∷ starts_from (from + length chunk) chunks

-- a chunk isn't empty, and has at most 256 entries
pub record IsSized (chunk : List Entry) : Type 0 where
  pub some : 1 ≤ length chunk
  pub few : length chunk ≤ 256

-- chunks, and what is kept beside them: the places of their first entries, and the number of all entries
pub record AreChunks (chunks : List (List Entry)) (starts : List ℕ) (len : ℕ) : Type 0 where
  pub sized : AllByRecursion IsSized chunks
  pub places : starts ≡ starts_from 0 chunks
  pub count : len ≡ length (flat chunks)

-- the chunk at place j has the entry at place k among all
pub record IsChunkOf (chunks : List (List Entry)) (k j : ℕ) : Type 0 where
  pub within : j < length chunks
  pub from : length (flat (take j chunks)) ≤ k
  pub to : k < length (flat (take (j + 1) chunks))

-- the chunk at place j and the next have together at most 256 entries
pub record FitInOne (chunks : List (List Entry)) (j : ℕ) : Type 0 where
  pub next : j + 1 < length chunks
  pub few : length (get_or chunks j []) + length (get_or chunks (j + 1) []) ≤ 256

-- each key is above k
abbrev pub AreAbove : ℤ × ℕ → List Entry → Type 0
AreAbove k entries = AllByRecursion (λ y. key_cmp k y ≡ Less) (keys_of entries)

-- each key is below r
abbrev pub AreBelow : ℤ × ℕ → List Entry → Type 0
AreBelow r entries = AllByRecursion (λ y. key_cmp y r ≡ Less) (keys_of entries)

-- the first n entries are below a key, and what is below the key is below all others
pub record IsCut (key : ℤ × ℕ) (entries : List Entry) (n : ℕ) : Type 0 where
  pub within : n ≤ length entries
  pub below : AreBelow key (take n entries)
  pub from : (k : ℤ × ℕ) → key_cmp k key ≡ Less → AreAbove k (drop n entries)

-- of new entries, `mine` go into the chunk at place j, and `others` behind it
pub record IsPart (chunks : List (List Entry)) (j : ℕ) (news mine others : List Entry) : Type 0 where
  pub same : fold put (flat (drop j chunks)) news ≡ fold put (get_or chunks j []) mine ++ fold put (flat (drop (j + 1) chunks)) others
  pub mine_rise : AreRising mine
  pub others_rise : AreRising others
