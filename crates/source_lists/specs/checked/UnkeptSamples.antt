-- What a sink without memory took, which contracts alone read.
use Rattle.std.specs.Prelude.{ℕ, List, [], ◌∷◌, ◌++◌}
use Rattle.sample_tables.specs.declared.samples.Sample.{Sample}
use Rattle.source_lists.specs.declared.unkept_samples.TakenSamples.{TakenSamples, Nothing, More'}

-- the pairs of a source and a sample, in order
abbrev pub pairs_of : TakenSamples → List (ℕ × Sample)
pairs_of Nothing = []
pairs_of (More' _ before source last) = pairs_of before ++ (source, last.value) ∷ []
