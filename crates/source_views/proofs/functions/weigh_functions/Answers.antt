use Rattle.std.proofs.lemmas.Result.{IfOk-weaker}
use Rattle.function_sums.specs.FunctionSums.{AreFunctionSums}
use Rattle.merged_stacks.specs.Merged.{all_samples}
use Rattle.merged_stacks.specs.Timeline.{samples_of}
use Rattle.source_views.proofs.functions.weigh_functions.Goals as goal

pub returns : goal.returns
returns g c =
    let samples = all_samples (samples_of c.args.sources.lists) in
    IfOk-weaker c.function_sums.result _ (λ sums. AreFunctionSums c.args.by samples sums.items)
    (λ sums weighed. weighed samples c.in_ok-merged.ensures)
    c.function_sums.ensures
