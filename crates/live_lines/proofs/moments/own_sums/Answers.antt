use Rattle.std.proofs.lemmas.Result.{IfOk-weaker}
use Rattle.function_sums.specs.FunctionSums.{AreFunctionSums}
use Rattle.merging.specs.Snapshots.{samples_of_pairs}
use Rattle.run_options.specs.declared.orders.FunctionOrder.TheVariants.{Own}
use Rattle.live_lines.proofs.MergeLemmas.{same_merged}
use Rattle.live_lines.proofs.moments.own_sums.Goals as goal

pub returns : goal.returns
returns c =
    let samples = samples_of_pairs c.args.rows.now in
    IfOk-weaker c.function_sums.result _ (λ sums. AreFunctionSums Own samples sums.items) (λ sums weighed. weighed samples (same_merged samples _ c.in_ok-merged.ensures)) c.function_sums.ensures
