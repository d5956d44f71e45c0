-- Names whose numbers are found by their hashes.
use Rattle.std.specs.Prelude.{◌≡◌, ℕ, ◌<◌, ◌⊎◌, List, length, Option, Some}
use Rattle.std.specs.List.{slice_index_or}
use Rattle.sample_tables.specs.NameHashes.{hash_of_name}

-- the number is that of the name's hash, or of the name among the crowded
abbrev pub IsFound : (ℕ → Option ℕ) → (List ℕ → Option ℕ) → List ℕ → ℕ → Type 0
IsFound hashed crowded name number = (hashed (hash_of_name name) ≡ Some number) ⊎ (crowded name ≡ Some number)

-- each name is found
abbrev pub AreFound : List (List ℕ) → (ℕ → Option ℕ) → (List ℕ → Option ℕ) → Type 0
AreFound names hashed crowded = (number : ℕ) (d : List ℕ) → number < length names → IsFound hashed crowded (slice_index_or names number d) number
