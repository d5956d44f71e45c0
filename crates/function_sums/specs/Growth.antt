-- Which functions have a greater share of the whole than before.
use Rattle.std.specs.Prelude.{ℕ, ◌+◌, ◌*◌, Bool, List, filter, nat_lt}
use Rattle.function_sums.specs.declared.changes.Change.{Change}
use Rattle.function_sums.specs.declared.changes.FunctionChange.{FunctionChange}
use Rattle.function_sums.specs.FunctionChanges.{divisor, share_after, share_before}

-- the share after is greater than that before by more than so many hundredths of the whole: without division,
-- after / whole.after > before / whole.before + points / 100
abbrev pub grew_over : ℕ → Change → Change → Bool
grew_over points whole change =
    nat_lt (100 * share_before whole change + points * (divisor whole.before * divisor whole.after)) (100 * share_after whole change)

-- those of some functions whose share of own weight grew so, in their order
abbrev pub grown : ℕ → Change → List FunctionChange → List FunctionChange
grown points whole changes = filter (λ change. grew_over points whole change.own) changes
