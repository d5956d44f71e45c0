-- What was counted and what is still to come are the whole source.
use Rattle.std.proofs.Common.{◌≡◌, ◌+◌, ◌<◌, ◌^◌, length, sum_by}
use Rattle.bench_profile.proofs.draining.drain.Given as goal

abbrev pub invariant-samples : goal.invariant-samples
invariant-samples g l = record {
  few : 0 < l.drained.samples → length (g.R.SampleReader.rest l.initial.reader).samples < 2 ^ 64;
  samples : l.drained.samples + length (g.R.SampleReader.rest l.reader).samples ≡ length (g.R.SampleReader.rest l.initial.reader).samples;
  weight : l.drained.weight + sum_by (λ sample. sample.weight) (g.R.SampleReader.rest l.reader).samples ≡ sum_by (λ sample. sample.weight) (g.R.SampleReader.rest l.initial.reader).samples;
}

abbrev pub decreases-samples : goal.decreases-samples
decreases-samples g l = length (g.R.SampleReader.rest l.reader).samples
