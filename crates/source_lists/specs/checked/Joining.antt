-- Lists that are put together in one ledger, in which each name and stack of a list has a number of its own.
use Rattle.std.specs.Prelude.{◌≡◌, ℕ, ◌<◌, List, ◌++◌, length, map, All, slice_index_or}
use Rattle.sample_tables.specs.Rows.{name_at}
use Rattle.stack_core.specs.Ledgers.{LedgerState}

-- the item of this number is this one
pub record IsFound {X : Type 0} (none : X) (items : List X) (number : ℕ) (item : X) : Type 0 where
  pub within : number < length items
  pub same : slice_index_or items number none ≡ item

-- the items of these numbers are these
pub record AreFound {X : Type 0} (none : X) (items : List X) (numbers : List ℕ) (wanted : List X) : Type 0 where
  pub within : All (λ number. number < length items) numbers
  pub same : map (λ number. slice_index_or items number none) numbers ≡ wanted

-- stacks, as their names
abbrev pub named_stacks : List (List ℕ) → List (List ℕ) → List (List (List ℕ))
named_stacks told stacks = map (λ frames. map (name_at told) frames) stacks

-- a ledger was told some names more, and nothing else
abbrev pub TellsMore : LedgerState → LedgerState → Type 0
TellsMore old new = (names : List (List ℕ)) × (new ≡ record old { told = old.told ++ names })

-- a ledger keeps some stacks more, and nothing else
abbrev pub KeepsMore : LedgerState → LedgerState → Type 0
KeepsMore old new = (stacks : List (List ℕ)) × (new ≡ record old { stacks = old.stacks ++ stacks })
