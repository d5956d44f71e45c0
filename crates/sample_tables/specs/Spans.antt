-- Stacks of numbers that lie one after another in one list.
use Rattle.std.specs.Prelude.{◌≤◌, ℕ, List, map, length, All, slice_range}
use Rattle.sample_tables.specs.declared.stacks.Span.{Span}

-- the numbers of a span, from its start to its end
abbrev pub stack_of : List ℕ → Span → List ℕ
stack_of frames span = slice_range frames span.start span.end

abbrev pub stacks_of : List ℕ → List Span → List (List ℕ)
stacks_of frames spans = map (stack_of frames) spans

-- each span lies in the numbers
abbrev pub AreWithin : List ℕ → List Span → Type 0
AreWithin frames spans = All (λ span. (span.start ≤ span.end) × (span.end ≤ length frames)) spans
