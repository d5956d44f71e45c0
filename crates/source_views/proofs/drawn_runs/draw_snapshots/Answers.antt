use Rattle.std.proofs.Common.{◌∙◌, ◌<◌, ap, arith, length, map, rules}
use Rattle.std.proofs.lemmas.List.{length-map}
use Rattle.merging.specs.declared.snapshots.Snapshot.{Snapshot}
use Rattle.merged_stacks.specs.Timeline.{samples_of}
use Rattle.source_views.specs.checked.DrawnRuns.{places_of}
use Rattle.source_views.specs.checked.DrawnRuns.{drawing_in}
use Rattle.source_views.proofs.PageDrawings.{snapshots_more}
use Rattle.source_views.proofs.drawn_runs.draw_snapshots.Goals as goal

pub loop-place-preserved : goal.loop-place-preserved
loop-place-preserved c =
    let run = c.args.run.now in
    let places = places_of run.snapshots in
    let below : c.loop-place.place < length places = omega (arith, c.loop-place-test.true, ap length c.snapshots-place-end.ensures.snapshots, length-map run.snapshots (λ (snapshot : Snapshot). snapshot.at)) in
    λ least. ap (map (drawing_in least)) c.in_ok-push.ensures.items
    ∙ snapshots_more least (samples_of run.lists) run.order places c.loop-place.place _ c.loop-place.drawn.items c.in_ok-draw_snapshot.field-0 below (search rules) (c.loop-place.invariant least) (c.in_ok-draw_snapshot.ensures least)
