-- The flame graph: the chart of the samples sorted by stack.
use Rattle.std.specs.Prelude.{List, [], ◌∷◌, if◌then◌else◌}
use Rattle.std.specs.Ordering.{is_lt}
use Rattle.sample_tables.specs.declared.samples.Sample.{Sample}
use Rattle.flame_layout.specs.declared.boxes.SpanBox.{SpanBox}
use Rattle.merged_stacks.specs.Order.{stack_cmp}
use Rattle.merged_stacks.specs.Timeline.{drawn}
use Rattle.flame_layout.specs.Chart.{chart_of}

-- the samples with one put in before the first whose stack is not below its own
abbrev pub insert_by_stack : Sample → List Sample → List Sample
insert_by_stack sample [] = sample ∷ []
insert_by_stack sample (other ∷ rest) =
    if is_lt (stack_cmp other.stack sample.stack) then other ∷ insert_by_stack sample rest else sample ∷ other ∷ rest

-- the samples sorted by stack, those of one stack in the order that they have
abbrev pub sorted_by_stack : List Sample → List Sample
sorted_by_stack [] = []
sorted_by_stack (sample ∷ rest) = insert_by_stack sample (sorted_by_stack rest)

-- the flame graph: the chart of the samples sorted by stack, without those of weight 0
abbrev pub graph_of : List Sample → List SpanBox
graph_of samples = chart_of (sorted_by_stack (drawn samples))
