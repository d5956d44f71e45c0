use Rattle.std.proofs.Common.{◌≡◌}
use Rattle.source_views.specs.checked.Filling.{filled}
use Rattle.source_views.proofs.drawn_runs.filled_counts.Given as goal

abbrev pub invariant-loop-source : goal.invariant-loop-source
invariant-loop-source l = l.filling.items ≡ filled l.source l.counts
