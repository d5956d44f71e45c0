use Rattle.std.proofs.Common.{All, List, subst}
use Rattle.std.proofs.lemmas.List.{take_all}
use Rattle.std.proofs.lemmas.List.Elements.{All-more}
use Rattle.sample_tables.specs.Samples.{IsLimited}
use Rattle.stack_core.specs.Ledgers.{ListState}
use Rattle.source_lists.proofs.source_lists.recall_limits.Goals as goal

pub loop-list-preserved : goal.loop-list-preserved
loop-list-preserved c =
    let list = c.list-item.result in
    All-more (λ (list : ListState). All IsLimited list.samples) c.args.lists.now c.loop-list.list-index list c.loop-list-test.true c.loop-list.invariant
    (subst (λ (list : ListState). All IsLimited list.samples) c.list-item.is c.len-count.ensures.limits)

pub returns : goal.returns
returns c =
    subst (λ (lists : List ListState). All (λ list. All IsLimited list.samples) lists) (take_all c.loop-list.list-index c.args.lists.now c.loop-list-test.false) c.loop-list.invariant
