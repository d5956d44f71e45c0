-- The callers and the callees of a function: what stands directly above, and directly below, a frame of its name.
use Rattle.std.specs.Prelude.{ℕ, ◌+◌, ◌-◌, List, [], ◌∷◌, ◌++◌, length, map, drop, filter, if◌then◌else◌}
use Rattle.std.specs.Str.{bytes_eq}
use Rattle.sample_tables.specs.declared.samples.Sample.{Sample}
use Rattle.merged_stacks.specs.Timeline.{Stack}
use Rattle.function_sums.specs.declared.call_sides.CallSide.{CallSide}
use Rattle.function_sums.specs.declared.call_sides.CallSide.TheVariants.{Callers, Callees}
use Rattle.function_sums.specs.declared.sums.FunctionSum.{FunctionSum}
use Rattle.function_sums.specs.FunctionList.{names_in}
use Rattle.function_sums.specs.FunctionSums.{ends, stands_in, own_of, total_of, sum_cmp}
use Rattle.function_sums.specs.Tables.{IsTable, put_in_order}
use Rattle.run_options.specs.declared.orders.FunctionOrder.TheVariants.{Total}

-- of a frame and the one directly below it, the one beside a frame of the name
abbrev pub beside : CallSide → List ℕ → List ℕ → List ℕ → Stack
beside Callers name above below = if bytes_eq name below then above ∷ [] else []
beside Callees name above below = if bytes_eq name above then below ∷ [] else []

-- the frames directly above the frames of the name, or those directly below them
abbrev pub beside_in : CallSide → List ℕ → Stack → Stack
beside_in side name [] = []
beside_in side name (frame ∷ []) = []
beside_in side name (above ∷ below ∷ rest) = beside side name above below ++ beside_in side name (below ∷ rest)

abbrev pub last_two : Stack → Stack
last_two stack = drop (length stack - 2) stack

-- the samples with nothing in their stacks but these frames, and with none but that of a call in which the stack ends
abbrev pub with_beside : CallSide → List ℕ → List Sample → List Sample
with_beside side name samples = map (λ sample. record { stack = beside_in side name sample.stack; weight = sample.weight }) samples

abbrev pub ending_beside : CallSide → List ℕ → List Sample → List Sample
ending_beside side name samples = map (λ sample. record { stack = beside_in side name (last_two sample.stack); weight = sample.weight }) samples

-- of a caller or a callee: the weight of the samples that end in such a call, and of those in which there is one, each once
abbrev pub call_of : CallSide → List ℕ → List Sample → List ℕ → FunctionSum
call_of side name samples other = record {
  name = other;
  own = own_of other (ending_beside side name samples);
  total = total_of other (with_beside side name samples);
}

-- the table of the callers or the callees that stand in a sample with weight, the greatest total first
abbrev pub AreCalls : CallSide → List ℕ → List Sample → List FunctionSum → Type 0
AreCalls side name samples =
    IsTable (sum_cmp Total) (λ sum. sum.name) (call_of side name samples) (λ other. total_of other (with_beside side name samples))

-- how often a sample of this stack counts among the callees of a function, and as its own
abbrev pub times_shared : List ℕ → List FunctionSum → Stack → ℕ
times_shared name calls stack =
    (if ends name stack then 1 else 0) + length (filter (λ call. stands_in call.name (beside_in Callees name stack)) calls)

-- as one list
unfoldable pub calls_of : CallSide → List ℕ → List Sample → List FunctionSum
calls_of side name samples = put_in_order (sum_cmp Total) (map (call_of side name samples) (names_in (with_beside side name samples)))
