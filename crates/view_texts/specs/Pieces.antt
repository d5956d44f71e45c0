-- The pieces of the texts, of which each text is made.
use Rattle.std.specs.Prelude.{ℕ, Bool, true, false, List, [], ◌∷◌, ◌++◌, map}
use Rattle.serde_json.specs.Data.{Data}
use Rattle.serde_json.specs.Written.{comma_if, compact_text}
use Rattle.sample_tables.specs.declared.samples.Sample.{Sample}
use Rattle.folded_lines.specs.Writing.{line_of, pair_line_of}
use Rattle.merged_stacks.specs.Paired.{PairedStack}

-- a line for each stack
abbrev pub stack_lines : List Sample → List (List ℕ)
stack_lines stacks = map (λ sample. line_of sample.stack sample.weight) stacks

-- a line with both sums for each stack of two lists
abbrev pub pair_lines : List PairedStack → List (List ℕ)
pair_lines stacks = map (λ pair. pair_line_of pair.stack pair.before pair.after) stacks

-- each value of a list, after a comma where another stands before it
abbrev pub value_pieces : Bool → List Data → List (List ℕ)
value_pieces later [] = []
value_pieces later (value ∷ values) = (comma_if later ++ compact_text value) ∷ value_pieces true values

-- what stands before the values, the values, and what stands after them
abbrev pub line_pieces : List ℕ → List Data → List ℕ → List (List ℕ)
line_pieces head values tail = head ∷ (value_pieces false values ++ tail ∷ [])
