use Rattle.std.proofs.Common.{◌≡◌, ℕ, List, [], ◌∷◌, length, None, true, false, refl}
use Rattle.stack_core.specs.Ledgers.{LedgerState, with_again, with_row, with_sample}
use Rattle.stack_core.specs.Reading.{Rest}
use Rattle.stack_core.specs.RowSamples.{Nothing, OneRow, Ending, given_by, is_at_end, is_idle, left_with, stacks_with}
use Rattle.stack_core.specs.declared.endings.SourceEnd.TheVariants.{Clean}
use Rattle.stack_core.specs.declared.readers.RowStep.{RowStep}
use Rattle.stack_core.specs.declared.readers.RowStep.TheVariants.{New, Again, End}
use Rattle.sample_tables.specs.Rows.{name_at, row_at, sample_at, entry_at}
use Rattle.sample_tables.specs.Samples.{total_weight}

-- `a` and `b` are told, and then the rows of both and of `a` are taken
abbrev rows_taken : LedgerState
rows_taken =
    with_row
    (with_row
    (record { samples = []; close = None; told = (97 ∷ []) ∷ (98 ∷ []) ∷ []; rows = []; stacks = []; entries = [] })
    (record { frames = 0 ∷ 1 ∷ []; weight = 2 }))
    (record { frames = 0 ∷ []; weight = 1 })

pub names_told_once : (length rows_taken.samples ≡ 2) × (total_weight rows_taken.samples ≡ 3) × (name_at (sample_at rows_taken.samples 0).stack 1 ≡ 98 ∷ []) × (length (sample_at rows_taken.samples 1).stack ≡ 1) × ((row_at rows_taken.rows 1).frames ≡ 0 ∷ [])
names_told_once = (refl, refl, refl, refl, refl)

-- and then one of both again, with another weight
abbrev row_taken_again : LedgerState
row_taken_again = with_again rows_taken 0 7

pub row_told_again : (length row_taken_again.samples ≡ 3) × (length row_taken_again.stacks ≡ 2) × (total_weight row_taken_again.samples ≡ 10) × ((row_at row_taken_again.rows 2).frames ≡ 0 ∷ 1 ∷ []) × (name_at (sample_at row_taken_again.samples 2).stack 1 ≡ 98 ∷ []) × ((entry_at row_taken_again.entries 1).stack ≡ 1)
row_told_again = (refl, refl, refl, refl, refl, refl)

-- one sample of `x` is taken twice: its name is told anew
abbrev samples_taken : LedgerState
samples_taken =
    with_sample
    (with_sample
    (record { samples = []; close = None; told = []; rows = []; stacks = []; entries = [] })
    (record { stack = (120 ∷ []) ∷ []; weight = 2 }))
    (record { stack = (120 ∷ []) ∷ []; weight = 2 })

pub world_and_ledger : (length samples_taken.samples ≡ 2) × (total_weight samples_taken.samples ≡ 4) × ((row_at samples_taken.rows 1).frames ≡ 1 ∷ [])
world_and_ledger = (refl, refl, refl)

-- a reader of rows tells the stack of `b` and `a`, tells it again with another weight, and ends
abbrev both : List (List ℕ)
both = (97 ∷ []) ∷ (98 ∷ []) ∷ []

abbrev told_now : RowStep
told_now = New ((98 ∷ []) ∷ []) (1 ∷ 0 ∷ []) 2

pub steps_given : (stacks_with ((0 ∷ []) ∷ []) told_now ≡ (0 ∷ []) ∷ (1 ∷ 0 ∷ []) ∷ []) × (given_by ((0 ∷ []) ∷ []) told_now ≡ OneRow (record { frames = 1 ∷ 0 ∷ []; weight = 2 }))
    × (given_by ((0 ∷ []) ∷ (1 ∷ 0 ∷ []) ∷ []) (Again 1 7) ≡ OneRow (record { frames = 1 ∷ 0 ∷ []; weight = 7 })) × (given_by [] (End (Clean 3)) ≡ Ending (Clean 3))
steps_given = (refl, refl, refl, refl)

abbrev left : Rest
left = record { samples = []; ending = Clean 3 }

-- with the sample that is awaited one is left, and nothing behind the ending
pub left_with_one : (left_with both (OneRow (record { frames = 1 ∷ 0 ∷ []; weight = 7 })) left ≡ record { samples = record { stack = (98 ∷ []) ∷ (97 ∷ []) ∷ []; weight = 7 } ∷ []; ending = Clean 3 })
    × (left_with both Nothing left ≡ left) × (left_with both (Ending (Clean 3)) left ≡ left) × (is_idle Nothing ≡ true) × (is_at_end (Ending (Clean 3)) ≡ true) × (is_at_end Nothing ≡ false)
left_with_one = (refl, refl, refl, refl, refl, refl)
