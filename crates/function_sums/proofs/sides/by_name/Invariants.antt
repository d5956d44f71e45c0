-- what is found so far is what the functions so far tell
use Rattle.std.proofs.Common.{◌≡◌, ℕ, List, take}
use Rattle.sample_tables.specs.declared.samples.Sample.{Sample}
use Rattle.run_options.specs.declared.orders.FunctionOrder.{FunctionOrder as Order}
use Rattle.function_sums.specs.FunctionSums.{AreFunctionSums}
use Rattle.function_sums.specs.checked.Sides.{found}
use Rattle.function_sums.proofs.FoundWeights.{told_weights}
use Rattle.function_sums.proofs.sides.by_name.Given as goal

abbrev pub invariant-loop-sum : goal.invariant-loop-sum
invariant-loop-sum l =
    (by : Order) (samples : List Sample) → AreFunctionSums by samples l.sums → (name : List ℕ) → found l.named name ≡ told_weights samples name (take l.sum-index l.sums)
