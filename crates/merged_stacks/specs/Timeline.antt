-- The timeline: the samples that weigh, of all lists one after another.
use Rattle.std.specs.Prelude.{ℕ, Bool, List, [], ◌∷◌, ◌++◌, filter, map, nat_lt}
pub use Rattle.sample_tables.specs.Samples.{total_weight}
use Rattle.stack_core.specs.Ledgers.{ListState}
use Rattle.sample_tables.specs.declared.samples.Sample.{Sample}

-- the names of a stack, root first, each as its bytes
abbrev pub Stack : Type 0
Stack = List (List ℕ)

abbrev pub is_drawn : Sample → Bool
is_drawn sample = nat_lt 0 sample.weight

-- without the samples of weight 0
abbrev pub drawn : List Sample → List Sample
drawn samples = filter is_drawn samples

-- the sources one after another, without samples of weight 0
abbrev pub timeline : List (List Sample) → List Sample
timeline [] = []
timeline (samples ∷ sources) = drawn samples ++ timeline sources

-- the samples of each list
abbrev pub samples_of : List ListState → List (List Sample)
samples_of lists = map (λ list. list.samples) lists
