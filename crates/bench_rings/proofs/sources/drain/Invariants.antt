-- Each sample brings the ending nearer.
use Rattle.std.proofs.Common.{length}
use Rattle.bench_rings.proofs.sources.drain.Given as goal

abbrev pub decreases-samples : goal.decreases-samples
decreases-samples g l = length (g.R.SampleReader.rest l.reader).samples
