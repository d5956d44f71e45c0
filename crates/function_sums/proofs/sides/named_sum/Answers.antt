use Rattle.std.proofs.Common.{◌≡◌, ◌∙◌, List, subst, sym}
use Rattle.run_options.specs.declared.orders.FunctionOrder.TheVariants.{Own}
use Rattle.function_sums.specs.declared.sums.FunctionSum.{FunctionSum}
use Rattle.function_sums.specs.FunctionSums.{AreFunctionSums}
use Rattle.function_sums.specs.checked.Sides.{weights_of}
use Rattle.function_sums.proofs.sides.named_sum.Goals as goal

pub returns : goal.returns
returns c samples alike =
    let name = c.args.name.now in
    let are = subst (λ (all : List FunctionSum). AreFunctionSums Own samples all) (sym c.deref.ensures.value) (c.in_ok-sums.ensures samples alike) in
    let found : c.weights_at-weights.result ≡ weights_of samples name = c.weights_at-weights.ensures ∙ c.in_ok-named.ensures Own samples are name in
    λ i. record { name = c.in_ok-from_str.ensures i; own = (found i).own; total = (found i).total }
