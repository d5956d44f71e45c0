use Rattle.std.specs.Prelude.{ℕ, ◌+◌, ◌<◌, List, [], ◌∷◌, ◌++◌, map, All}
use Rattle.sample_tables.specs.Rows.{name_at, stack_at}
use Rattle.stack_core.specs.declared.endings.Item.{Item}
use Rattle.stack_core.specs.declared.endings.Item.TheVariants as item
use Rattle.stack_core.specs.declared.records.RingRecord.{RingRecord}
use Rattle.stack_core.specs.declared.records.RingRecord.TheVariants.{Name, Row, Again, Close}

-- the names that are told, in order; number k stands for the k-th, from 0
abbrev pub names_told : List RingRecord → List (List ℕ)
names_told [] = []
names_told (Name name ∷ records) = name ∷ names_told records
names_told (Row frames weight ∷ records) = names_told records
names_told (Again row weight ∷ records) = names_told records
names_told (Close last ∷ records) = names_told records

-- the stacks that are told, in order, each as the numbers of its names; row k is the k-th, from 0
abbrev pub stacks_told : List RingRecord → List (List ℕ)
stacks_told [] = []
stacks_told (Name name ∷ records) = stacks_told records
stacks_told (Row frames weight ∷ records) = frames ∷ stacks_told records
stacks_told (Again row weight ∷ records) = stacks_told records
stacks_told (Close last ∷ records) = stacks_told records

-- the names for which numbers stand
abbrev pub names_at : List (List ℕ) → List ℕ → List (List ℕ)
names_at names numbers = map (name_at names) numbers

-- the sample for which a row stands, as an item
abbrev pub sample_item : List (List ℕ) → List ℕ → ℕ → Item
sample_item names frames weight = item.Sample (record { stack = names_at names frames; weight = weight })

-- the items for which records stand that follow these names and stacks: the names are left out, each number is its name,
-- and a row that is told again is that row with another weight
abbrev pub stands_for_after : List (List ℕ) → List (List ℕ) → List RingRecord → List Item
stands_for_after names stacks [] = []
stands_for_after names stacks (Name name ∷ records) = stands_for_after (names ++ name ∷ []) stacks records
stands_for_after names stacks (Row frames weight ∷ records) = sample_item names frames weight ∷ stands_for_after names (stacks ++ frames ∷ []) records
stands_for_after names stacks (Again row weight ∷ records) = sample_item names (stack_at stacks row) weight ∷ stands_for_after names stacks records
stands_for_after names stacks (Close last ∷ records) = item.Close last ∷ stands_for_after names stacks records

-- the items for which the records of a ring stand
abbrev pub stands_for : List RingRecord → List Item
stands_for records = stands_for_after [] [] records

-- each number's name was told before it, and each row that is told again too, where that many names and rows were told before
-- these records
abbrev pub IsWellToldAfter : ℕ → ℕ → List RingRecord → Type 0
IsWellToldAfter names rows [] = Unit {0}
IsWellToldAfter names rows (Name name ∷ records) = IsWellToldAfter (names + 1) rows records
IsWellToldAfter names rows (Row frames weight ∷ records) =
    All (λ number. number < names) frames × IsWellToldAfter names (rows + 1) records
IsWellToldAfter names rows (Again row weight ∷ records) = (row < rows) × IsWellToldAfter names rows records
IsWellToldAfter names rows (Close last ∷ records) = IsWellToldAfter names rows records

-- each number of the records of a ring has a name that was told before it, and each row that is told again was told before
abbrev pub IsWellTold : List RingRecord → Type 0
IsWellTold records = IsWellToldAfter 0 0 records

-- the items where each number is its name among these names, and each row told again its row among these stacks, whenever told
abbrev pub written : List (List ℕ) → List (List ℕ) → List RingRecord → List Item
written names stacks [] = []
written names stacks (Name name ∷ records) = written names stacks records
written names stacks (Row frames weight ∷ records) = sample_item names frames weight ∷ written names stacks records
written names stacks (Again row weight ∷ records) = sample_item names (stack_at stacks row) weight ∷ written names stacks records
written names stacks (Close last ∷ records) = item.Close last ∷ written names stacks records
