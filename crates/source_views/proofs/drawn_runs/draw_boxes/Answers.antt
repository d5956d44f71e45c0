use Rattle.std.proofs.Common.{◌≡◌, ◌∙◌, [], rules}
use Rattle.call_tree.specs.CallTree.{total_weight}
use Rattle.source_views.proofs.PageDrawings.{drawn_weight}
use Rattle.source_views.proofs.drawn_runs.draw_boxes.Goals as goal

pub returns-clause-total : goal.returns-clause-total
returns-clause-total c =
    let total : c.total-total.result ≡ total_weight c.args.tree.now [] = search rules in
    λ samples same. total ∙ drawn_weight c.args.table.now c.args.tree.now samples same
