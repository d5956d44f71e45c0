-- The flame chart of a timeline: a box for each longest run of neighbouring samples whose stacks begin with the same names.
use Rattle.std.specs.Prelude.{ℕ, zero, suc, ◌+◌, ◌-◌, Bool, List, [], ◌∷◌, ◌++◌, Option, None, Some, length, map, sum_by, nat_le, nat_eq, slice_index_or, if◌then◌else◌, codes, take_while}
use Rattle.std.specs.Str.{bytes_eq}
use Rattle.std.specs.List.{common_prefix_len, range_with_len}
use Rattle.sample_tables.specs.declared.samples.Sample.{Sample}
use Rattle.flame_layout.specs.declared.boxes.SpanBox.{SpanBox}
use Rattle.merged_stacks.specs.Timeline.{Stack, total_weight}

-- with how many names two stacks begin alike
abbrev pub names_shared : Stack → Stack → ℕ
names_shared = common_prefix_len bytes_eq

-- the sample has at least `depth` frames, and the first `depth` names of the stack
abbrev pub begins_alike : ℕ → Stack → Sample → Bool
begins_alike depth stack sample = nat_le depth (names_shared stack sample.stack)

-- the longest run at the front of the samples, all with the first `depth` names of the stack
abbrev pub run_at : ℕ → Stack → List Sample → List Sample
run_at depth stack samples = take_while (begins_alike depth stack) samples

-- the sum of the weights of those with exactly `depth` frames
abbrev pub own_weight : ℕ → List Sample → ℕ
own_weight depth samples = sum_by (λ sample. (if nat_eq (length sample.stack) depth then sample.weight else 0)) samples

-- `all`, or the name of that frame, counted from 1
abbrev pub box_name : ℕ → Stack → List ℕ
box_name zero stack = codes "all"
box_name (suc place) stack = slice_index_or stack place []

-- the box of the run at the front of the samples
abbrev pub box_at : Stack → ℕ → List Sample → ℕ → SpanBox
box_at stack start samples depth = record {
  depth = depth;
  name = box_name depth stack;
  start = start;
  weight = total_weight (run_at depth stack samples);
  own = own_weight depth (run_at depth stack samples);
}

-- the boxes of the runs at the front of the samples, from a depth on to the last frame of the stack
abbrev pub boxes_from : ℕ → Stack → ℕ → List Sample → List SpanBox
boxes_from first stack start samples = map (box_at stack start samples) (range_with_len first (length stack + 1 - first))

-- the least depth at which a sample's run is not that of the sample before it
abbrev pub first_new : Option Stack → Stack → ℕ
first_new None stack = 0
first_new (Some before) stack = names_shared before stack + 1

-- at each sample the boxes of the runs that begin there
abbrev pub boxes_after : Option Stack → ℕ → List Sample → List SpanBox
boxes_after before start [] = []
boxes_after before start (sample ∷ rest) =
    boxes_from (first_new before sample.stack) sample.stack start (sample ∷ rest) ++ boxes_after (Some sample.stack) (start + sample.weight) rest

-- the flame chart of a timeline: a box for each longest unbroken run of samples with the same first names,
-- listed by start, then depth
abbrev pub chart_of : List Sample → List SpanBox
chart_of samples = boxes_after None 0 samples
