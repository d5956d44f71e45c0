-- The merged stacks of some samples: each stack with weight once, in order, with the sum of its samples.
use Rattle.std.specs.Prelude.{ℕ, List, [], ◌∷◌, ◌++◌, map, filter, sum_by, nat_lt, if◌then◌else◌, Bool, Option, Some, None}
use Rattle.std.specs.Ordering.{is_eq}
use Rattle.std.specs.BTreeSet.{insert_key}
use Rattle.std.specs.FinMap.Entries.{find, is_sorted}
use Rattle.sample_tables.specs.declared.samples.Sample.{Sample}
use Rattle.merged_stacks.specs.Order.{stack_cmp}
use Rattle.merged_stacks.specs.Timeline.{Stack}

-- a stack and a weight: a sample, or a row of sums
abbrev pub Weighed : Type 0
Weighed = Stack × ℕ

-- each sample as its stack and its weight
abbrev pub weighed : List Sample → List Weighed
weighed samples = map (λ sample. (sample.stack, sample.weight)) samples

-- the sum of the weights of a stack's samples
unfoldable pub sum_at : List Weighed → Stack → ℕ
sum_at samples stack = sum_by (λ s. if is_eq (stack_cmp stack s.0) then s.1 else 0) samples

-- the stacks of the samples, each once, in order
unfoldable pub stacks_of : List Weighed → List Stack
stacks_of [] = []
stacks_of (s ∷ samples) = insert_key stack_cmp (stacks_of samples) s.0

-- the stacks with weight, each with the sum of its samples
unfoldable pub merged : List Weighed → List Weighed
merged samples = filter (λ row. nat_lt 0 row.1) (map (λ stack. (stack, sum_at samples stack)) (stacks_of samples))

-- the samples of all lists, one after another
abbrev pub all_samples : List (List Sample) → List Sample
all_samples [] = []
all_samples (samples ∷ lists) = samples ++ all_samples lists

-- the merged stacks as samples
abbrev pub merged_samples : List Sample → List Sample
merged_samples samples = map (λ row. record { stack = row.0; weight = row.1 }) (merged (weighed samples))

-- whether the stacks of the rows strictly rise
abbrev pub are_in_order : List Weighed → Bool
are_in_order rows = is_sorted stack_cmp rows

-- the weight that the rows have at a stack
abbrev pub weight_at : List Weighed → Stack → Option ℕ
weight_at rows stack = find stack_cmp stack rows

-- a weight, unless it is 0
abbrev pub if_positive : ℕ → Option ℕ
if_positive weight = if nat_lt 0 weight then Some weight else None
