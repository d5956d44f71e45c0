use Rattle.std.proofs.Common.{sym, subst, ap, ◌∙◌}
use Rattle.call_tree.specs.CallTree.{with_weight}
use Rattle.call_tree.specs.Listing.{HasNumbersOf}
use Rattle.call_tree.proofs.Numbers.{HasNumbersOf-with_weight}
use Rattle.bench_tree.specs.Depth.{IsShallow}
use Rattle.bench_tree.proofs.GrowLemmas.{are_in, shallow-with_weight}
use Rattle.bench_tree.proofs.growing.add_sample.Goals as goal

pub returns-clause-numbers : goal.returns-clause-numbers
returns-clause-numbers c =
    let told = c.args.list.now.told in
    let added = HasNumbersOf-with_weight told c.args.tree.now c.frames.result.now c.weight.result c.requires.numbers (are_in told c.frames.result.now c.frames.ensures.told) in
    subst (HasNumbersOf told) (sym (c.in_ok-add.ensures.ok ∙ ap (λ row. with_weight c.args.tree.now row c.weight.result) (c.deref.ensures.value ∙ c.in_ok-numbers.ensures))) added

pub returns-clause-depth : goal.returns-clause-depth
returns-clause-depth c =
    subst IsShallow (sym (c.in_ok-add.ensures.ok ∙ ap (λ row. with_weight c.args.tree.now row c.weight.result) (c.deref.ensures.value ∙ c.in_ok-numbers.ensures))) (shallow-with_weight c.args.tree.now c.frames.result.now c.weight.result c.requires.depth c.frames.ensures.limit)
