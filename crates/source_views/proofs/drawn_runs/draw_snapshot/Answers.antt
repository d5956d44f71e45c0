use Rattle.std.proofs.Common.{◌≡◌, length, map, rules, sym}
use Rattle.std.proofs.lemmas.List.{length-map}
use Rattle.stack_core.specs.Ledgers.{ListState}
use Rattle.flame_layout.specs.Boxes.{span_of}
use Rattle.merged_stacks.specs.Timeline.{samples_of}
use Rattle.source_views.specs.checked.Filling.{filled}
use Rattle.source_views.proofs.PageDrawings.{snapshot_drawn}
use Rattle.source_views.proofs.drawn_runs.draw_snapshot.Goals as goal

pub returns : goal.returns
returns c =
    let run = c.args.run.now in
    let snapshot = c.index-snapshots-place.result in
    let graph = c.in_ok-draw_boxes.field-0 in
    let lists = run.lists in
    let counted : c.in_ok-counts.counts.items ≡ filled (length lists) snapshot.counts = search rules in
    snapshot_drawn c.args.place (length lists) graph.total run.every run.order (samples_of lists) run.names c.table.result.now run.snapshots snapshot c.in_ok-counts.counts.items (map span_of graph.boxes.items)
    c.table.ensures.names c.requires (search rules) (sym (length-map lists (λ (list : ListState). list.samples))) c.snapshots.ensures.made
    counted c.in_ok-draw_boxes.ensures.total c.in_ok-draw_boxes.ensures.boxes
