use Rattle.std.proofs.Common.{◌∙◌, ap, get_or, arith}
use Rattle.merged_stacks.proofs.KeptStacks.{picked_none, zero_at}
use Rattle.merged_stacks.proofs.list_sums.ListSums.of.Goals as goal

pub invariant_of-result : goal.invariant_of-result
invariant_of-result c =
    let facts = c.len-count.ensures in
    record {
      ordered = c.requires.order;
      len = omega (arith, c.in_ok-sums.ensures.len, c.in_ok-sums.sums.ok.0, c.stack_count.ensures);
      fits = omega (arith, facts.count);
      total = c.requires.total;
      samples_named = facts.named.samples_named;
      picked = λ g. picked_none g c.args.list.now.stacks c.in_ok-sums.sums.items (λ k. ap (λ xs. get_or xs k 0) (c.in_ok-sums.ensures.items_if_clones_equal (λ y e. e)) ∙ zero_at c.stack_count.result k);
    }
