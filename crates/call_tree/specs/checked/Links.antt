-- Links of nodes that are found by their hashes.
use Rattle.std.specs.Prelude.{◌≡◌, ℕ, ◌+◌, ◌*◌, ◌/◌, ◌%◌, ◌^◌, ◌<◌, ◌≤◌, List, [], ◌∷◌, ◌++◌, length, bit_xor}
use Rattle.std.specs.List.{slice_index_or}
use Rattle.call_tree.specs.declared.links.Link.{Link}
use Rattle.call_tree.specs.checked.Places.{IsPlaced, AreSound}

-- links, and how many more can be added without want of memory
pub record LinkList : Type 0 where
  pub keys : List Link
  pub room : ℕ

-- a step of a hash: the product, of which 64 bits are kept
abbrev pub times : ℕ → ℕ → ℕ
times hash factor = hash * factor % 2 ^ 64

-- the upper half of a hash mixed into the lower
abbrev pub folded : ℕ → ℕ
folded hash = bit_xor hash (hash / 2 ^ 32)

-- the hash of a link
unfoldable pub hash_of_link : Link → ℕ
hash_of_link link = times (folded (times (bit_xor (link.parent * 2 ^ 32 % 2 ^ 64) link.frame) 11400714819323198485)) 2611923443488327891

-- each link is met by the walk of its hash
pub record HasLinks (links : List Link) (slots : ℕ) (cells : List ℕ) (capacity : ℕ) : Type 0 where
  pub sound : AreSound slots cells capacity
  pub len : length cells ≡ slots + 2 * length links
  pub fit : length links ≤ slots
  pub placed : (number : ℕ) (d : Link) → number < length links → IsPlaced cells slots (hash_of_link (slice_index_or links number d)) number

-- the link is not among these
abbrev pub IsNoLink : List Link → Link → Type 0
IsNoLink links link = (number : ℕ) → number < length links → slice_index_or links number link ≡ link → ⊥

-- the link was known under the number
pub record IsKnownLink (links new : List Link) (link : Link) (number : ℕ) : Type 0 where
  pub within : number < length links
  pub stands : slice_index_or links number link ≡ link
  pub stay : new ≡ links

-- the link is new, and has the next number
pub record IsNewLink (links new : List Link) (link : Link) (number : ℕ) : Type 0 where
  pub absent : IsNoLink links link
  pub next : number ≡ length links
  pub grow : new ≡ links ++ link ∷ []
