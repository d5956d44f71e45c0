-- Told names while they are kept, sorted and ranked.
use Rattle.std.specs.Prelude.{◌≡◌, ℕ, ◌+◌, ◌<◌, ◌++◌, List, All, length, map, false, slice_index_or}
use Rattle.std.specs.List.{enumerate_from}
use Rattle.std.specs.Ordering.{nat_cmp, is_lt}
use Rattle.std.specs.Cmp.Lexicographic.{slice_cmp}
use denote.Ref.{Bor}
use Rattle.sample_tables.specs.Rows.{name_at}

-- a told name, and its place among those that are kept
abbrev pub NameAt : Type 0
NameAt = Bor (List ℕ) × ℕ

abbrev pub placed_name : NameAt → ℕ × List ℕ
placed_name told = (told.1, told.0.now)

-- so many names are these, where `Tells` says what may be told of each number
abbrev pub AreNamed : (ℕ → Bor (List ℕ) → Type 0) → ℕ → List (List ℕ) → Type 0
AreNamed Tells count names = (count ≡ length names) × ((number : ℕ) (name : Bor (List ℕ)) → number < count → Tells number name → name.now ≡ name_at names number)

-- each of the names stands once among these, at its place, and none is below the one before it
pub record AreSorted (names : List (List ℕ)) (told : List NameAt) : Type 0 where
  pub len : length told ≡ length names
  pub are : (i : ℕ) (d : NameAt) → i < length told → ((slice_index_or told i d).1 < length names) × ((slice_index_or told i d).0.now ≡ name_at names (slice_index_or told i d).1)
  pub each : (k : ℕ) (d : NameAt) → k < length names → (i : ℕ) × (i < length told) × ((slice_index_or told i d).1 ≡ k)
  pub ordered : (i : ℕ) (d : NameAt) → i + 1 < length told → is_lt (slice_cmp nat_cmp (slice_index_or told (i + 1) d).0.now (slice_index_or told i d).0.now) ≡ false

-- the names have gained some at their end, or none
abbrev pub Grows : List (List ℕ) → List (List ℕ) → Type 0
Grows old new = (more : List (List ℕ)) × (new ≡ old ++ more)

-- the names that are kept
abbrev pub kept_name : NameAt → List ℕ
kept_name kept = kept.0.now

abbrev pub kept_names : List NameAt → List (List ℕ)
kept_names kept = map kept_name kept

-- each is kept at its place
abbrev pub ArePlaced : List NameAt → Type 0
ArePlaced kept = map placed_name kept ≡ enumerate_from 0 (kept_names kept)

-- a name is kept at this place
pub record IsKept (kept : List NameAt) (place : ℕ) (name : List ℕ) : Type 0 where
  pub within : place < length kept
  pub same : name_at (kept_names kept) place ≡ name

-- the told names are kept at these places
pub record AreKept (told : List (List ℕ)) (kept : List NameAt) (places : List ℕ) : Type 0 where
  pub placed : ArePlaced kept
  pub within : All (λ place. place < length kept) places
  pub same : map (name_at (kept_names kept)) places ≡ told

-- some names more are kept, or none
pub record KeepsMore (old new : List NameAt) : Type 0 where
  pub more : List NameAt
  pub grown : new ≡ old ++ more
  pub placed : ArePlaced old → ArePlaced new
