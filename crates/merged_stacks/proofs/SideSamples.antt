-- Paired stacks as the samples of one list.
use Rattle.std.proofs.Common.{◌≡◌, ℕ, ◌<◌, [], List, ap, arith, length}
use Rattle.std.proofs.lemmas.List.{get_or-map, length-map}
use Rattle.sample_tables.specs.Rows.{sample_at}
use Rattle.sample_tables.specs.declared.samples.Sample.{Sample}
use Rattle.merged_stacks.specs.Paired.{PairedStack, pair_at, sum_of, side_samples}
use Rattle.merged_stacks.specs.declared.paired_sides.Side.{Side}

abbrev pub side_sample : Side → PairedStack → Sample
side_sample side pair = record { stack = pair.stack; weight = sum_of side pair }

pub side_within : (side : Side) (stacks : List PairedStack) (at : ℕ) → at < length (side_samples side stacks) → at < length stacks
side_within side stacks at lt = omega (arith, lt, length-map stacks (side_sample side))

pub side_at : (side : Side) (stacks : List PairedStack) (at : ℕ) → at < length (side_samples side stacks) → sample_at (side_samples side stacks) at ≡ side_sample side (pair_at stacks at)
side_at side stacks at lt = get_or-map (side_sample side) stacks at (record { stack = []; before = 0; after = 0 }) (record { stack = []; weight = 0 }) (side_within side stacks at lt)

pub side_deep : (side : Side) (stacks : List PairedStack) (at frame : ℕ) → at < length (side_samples side stacks) → frame < length (sample_at (side_samples side stacks) at).stack → frame < length (pair_at stacks at).stack
side_deep side stacks at frame lt deep = omega (arith, deep, ap (λ (sample : Sample). length sample.stack) (side_at side stacks at lt))
