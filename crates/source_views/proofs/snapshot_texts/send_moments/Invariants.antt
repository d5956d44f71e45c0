-- the lines of the snapshots so far were sent, and of each list it is counted what came
use Rattle.std.proofs.Common.{◌≡◌}
use Rattle.std.specs.Io.KnownBytes.{Appends}
use Rattle.merged_stacks.specs.Timeline.{samples_of}
use Rattle.source_views.proofs.SnapshotLines.{AreCounted, lines_upto}
use Rattle.source_views.proofs.snapshot_texts.send_moments.Given as goal

abbrev pub invariant-loop-source : goal.invariant-loop-source
invariant-loop-source g l = record {
  lists : l.growing.lists ≡ samples_of l.sources.lists;
  counted : AreCounted l.growing.counts l.source-index l.sources.order (samples_of l.sources.lists);
  moment : l.at ≡ l.source-index;
  sent : Appends (g.W.Outlet.contents l.initial.out) (g.W.Outlet.contents l.out) (lines_upto l.width l.every (samples_of l.sources.lists) l.sources.order l.source-index);
  unfailed : g.W.Outlet.failures l.out ≡ g.W.Outlet.failures l.initial.out;
}
