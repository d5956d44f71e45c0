-- Cells in which numbers stand. The first `slots` are where walks begin; behind them each number has two cells for those below it.
-- A cell has a number, from 1, or 0. A walk goes by a hash: from a cell with a number to one of that number's two, by the next bit.
use Rattle.std.specs.Prelude.{◌≡◌, ℕ, zero, suc, ◌+◌, ◌*◌, ◌/◌, ◌%◌, ◌^◌, ◌<◌, ◌≤◌, max, List, length}
use Rattle.std.specs.List.{slice_index}

-- where the walk of a hash begins
abbrev pub home_of : ℕ → ℕ → ℕ
home_of slots hash = hash / 2 ^ 32 % max slots 1

-- the cell below a number to which a hash leads
abbrev pub below_of : ℕ → ℕ → ℕ → ℕ
below_of slots number bits = slots + 2 * number + bits % 2

-- the number stands where a walk comes in so many steps
abbrev pub IsAhead : List ℕ → ℕ → ℕ → ℕ → ℕ → ℕ → Type 0
IsAhead cells slots number zero place bits = slice_index cells place ≡ number + 1
IsAhead cells slots number (suc steps) place bits =
    (on : ℕ) × (slice_index cells place ≡ on + 1) × IsAhead cells slots number steps (below_of slots on bits) (bits / 2)

-- the walk from a cell comes to the number
pub record IsMet (cells : List ℕ) (slots number place bits : ℕ) : Type 0 where
  pub steps : ℕ
  pub ahead : IsAhead cells slots number steps place bits

-- the walk of a hash comes to the number
abbrev pub IsPlaced : List ℕ → ℕ → ℕ → ℕ → Type 0
IsPlaced cells slots hash number = IsMet cells slots number (home_of slots hash) hash

-- each number stays where it stands
pub record KeepsNumbers (cells new : List ℕ) : Type 0 where
  pub stay : (place number : ℕ) → slice_index cells place ≡ number + 1 → slice_index new place ≡ number + 1

-- whatever a walk comes to from here is what the walk of the hash comes to, also once more numbers have places
pub record LeadsTo (cells : List ℕ) (slots hash place bits : ℕ) : Type 0 where
  pub within : place < length cells
  pub meets : (new : List ℕ) (number : ℕ) → KeepsNumbers cells new → IsMet new slots number place bits → IsPlaced new slots hash number

-- an empty cell, in which a number is met by the walk of the hash
pub record IsFree (cells : List ℕ) (slots hash place : ℕ) : Type 0 where
  pub bits : ℕ
  pub leads : LeadsTo cells slots hash place bits
  pub empty : slice_index cells place ≡ 0

-- the same numbers in two cells more
pub record IsLonger (cells more : List ℕ) : Type 0 where
  pub len : length more ≡ length cells + 2
  pub same : (place : ℕ) → slice_index more place ≡ slice_index cells place

-- there is room for as many numbers as there are slots, and each number stands before its own two cells
pub record AreSound (slots : ℕ) (cells : List ℕ) (capacity : ℕ) : Type 0 where
  pub room : 3 * slots ≤ capacity
  pub small : slots < 2 ^ 32
  pub rises : (place number : ℕ) → slice_index cells place ≡ number + 1 → place < slots + 2 * number
  pub within : (place number : ℕ) → slice_index cells place ≡ number + 1 → slots + 2 * number + 1 < length cells
