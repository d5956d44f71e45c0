use Rattle.std.proofs.Common.{◌<◌, ◌^◌, List, subst, sym}
use Rattle.std.proofs.lemmas.Result.{IfOk-weaker}
use Rattle.sample_tables.specs.declared.samples.Sample.{Sample}
use Rattle.function_sums.specs.FunctionSums.{AreFunctionSums}
use Rattle.merged_stacks.specs.RankedStacks.{ranked_samples}
use Rattle.merged_stacks.specs.Timeline.{total_weight}
use Rattle.source_views.proofs.MergedRuns.{SameOwn-one, one_list}
use Rattle.source_views.proofs.functions.weigh_list.Goals as goal

pub of-requires : goal.of-requires
of-requires c =
    subst (λ (samples : List Sample). total_weight samples < 2 ^ 64) (sym (one_list c.args.list.now c.from_ref.result.now c.from_ref.ensures.value)) c.requires

pub returns : goal.returns
returns c =
    let list = c.args.list.now in
    IfOk-weaker c.function_sums.result _ (λ sums. AreFunctionSums c.args.by list.samples sums.items)
    (λ sums weighed. weighed list.samples (SameOwn-one list c.from_ref.result.now c.from_ref.ensures.value (ranked_samples c.in_ok-stacks.stacks) c.in_ok-stacks.ensures))
    c.function_sums.ensures
