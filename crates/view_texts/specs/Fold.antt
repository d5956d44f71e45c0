-- Fold text: a line for each stack with weight, in order, with the sum of the weights of its samples.
use Rattle.std.specs.Prelude.{ℕ, List, map}
use Rattle.std.specs.List.{flat_map}
use Rattle.folded_lines.specs.Writing.{line_of}
use Rattle.sample_tables.specs.declared.samples.Sample.{Sample}
use Rattle.merged_stacks.specs.Merged.{Weighed, merged}

-- the lines of some rows
abbrev pub lines_of : List Weighed → List ℕ
lines_of rows = flat_map (λ row. line_of row.0 row.1) rows

-- a sample as its stack and its weight
abbrev pub weighed : Sample → Weighed
weighed sample = (sample.stack, sample.weight)

-- the fold text of some samples
abbrev pub fold_text : List Sample → List ℕ
fold_text samples = lines_of (merged (map weighed samples))
