use Rattle.std.proofs.Common.{◌∙◌, ◌++◌, ◌∷◌, [], ap, sym}
use Rattle.std.proofs.lemmas.List.{map_push, map_more, take_all}
use denote.Ref.{Bor}
use Rattle.stack_core.specs.Ledgers.{ListState}
use Rattle.merged_stacks.specs.Timeline.{samples_of}
use Rattle.flame_layout.specs.checked.ChartRuns.{samples_in}
use Rattle.flame_layout.proofs.chart.lent.Goals as goal

pub loop-list-preserved : goal.loop-list-preserved
loop-list-preserved c =
    let samples = λ (list : ListState). list.samples in
    ap (samples_in samples) c.in_ok-push.ensures.items ∙ (map_push (λ (list : Bor ListState). list.now.samples) c.loop-list.all.items _
    ∙ ((λ i. c.loop-list.invariant i ++ samples (c.list-item.is i) ∷ []) ∙ sym (map_more samples c.args.lists.now c.loop-list.list-index c.list-item.result c.loop-list-test.true)))

pub returns : goal.returns
returns c = c.loop-list.invariant ∙ ap samples_of (take_all c.loop-list.list-index c.args.lists.now c.loop-list-test.false)
