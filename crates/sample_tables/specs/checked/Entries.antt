use Rattle.std.specs.Prelude.{◌≡◌, ◌<◌, ◌≤◌, ℕ, List, map, length, All, sum_by}
use Rattle.std.specs.List.{zip}
use Rattle.sample_tables.specs.Rows.{Entry}
use Rattle.sample_tables.specs.declared.samples.TheConstants.{WEIGHT_LIMIT}

-- the numbers of the samples' stacks and the weights, side by side
abbrev pub entry_of : ℕ × ℕ → Entry
entry_of (stack, weight) = record { stack = stack; weight = weight }

abbrev pub entries_of : List ℕ → List ℕ → List Entry
entries_of stacks weights = map entry_of (zip stacks weights)

-- as many numbers as weights, each weight within the limit, and their total
pub record AreEntered (stacks weights : List ℕ) (total : ℕ) : Type 0 where
  pub paired : length stacks ≡ length weights
  pub limits : All (λ entry. entry.weight ≤ WEIGHT_LIMIT) (entries_of stacks weights)
  pub summed : total ≡ sum_by (λ entry. entry.weight) (entries_of stacks weights)

-- an entry of one of so many stacks, whose weight is within the limit
pub record IsEntry (stacks : ℕ) (entry : Entry) : Type 0 where
  pub kept : entry.stack < stacks
  pub weight : entry.weight ≤ WEIGHT_LIMIT
