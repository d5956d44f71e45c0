use Rattle.std.proofs.Common.{◌≡◌, ◌∙◌, [], rules, sym}
use Rattle.call_tree.specs.CallTree.{total_weight}
use Rattle.merged_stacks.specs.Timeline.{samples_of}
use Rattle.merging.specs.Sums.{all_samples}
use Rattle.merging.proofs.GatherLemmas.{timeline_weight}
use Rattle.source_views.proofs.PageDrawings.{drawn_weight}
use Rattle.source_views.proofs.page_data.timeline_total.Goals as goal

pub returns : goal.returns
returns c =
    let views = c.args.views.now in
    let lists = samples_of views.lists in
    let total : c.total.result ≡ total_weight views.tree [] = search rules in
    total ∙ drawn_weight views.names views.tree (all_samples lists) c.tree.ensures.sums.stacks ∙ sym (timeline_weight lists)
