-- The pieces of the texts, of which each text is made.
use Rattle.std.specs.Prelude.{ℕ, List, ◌∷◌, ◌++◌, map, codes, decimal, Option, None, Some}
use Rattle.serde_json.specs.Data.{string}
use Rattle.serde_json.specs.Written.{compact_text}
use Rattle.function_sums.specs.declared.call_sides.CallSide.{CallSide}
use Rattle.function_sums.specs.declared.call_sides.CallSide.TheVariants.{Callers, Callees}
use Rattle.function_sums.specs.declared.changes.FunctionChange.{FunctionChange}
use Rattle.function_sums.specs.declared.sums.FunctionSum.{FunctionSum}
use Rattle.view_texts.specs.Pieces.{line_pieces}
use Rattle.function_sums.specs.ChangeJson.{change_data}
use Rattle.function_sums.specs.Columns.{Line, line_text}
use Rattle.function_sums.specs.FunctionJson.{function_data}
use Rattle.function_sums.specs.Told.{Told}

-- what stands above a table, and its lines in columns of these widths
abbrev pub table_pieces : List ℕ → List ℕ → List Line → List (List ℕ)
table_pieces heading widths lines = heading ∷ map (line_text widths) lines

-- what stands after the functions in their line
abbrev pub functions_end : Option ℕ → List ℕ
functions_end None = codes "}\n"
functions_end (Some all) = codes ",\"whole\":" ++ (decimal all ++ codes "}\n")

abbrev pub view_member : Option CallSide → List ℕ
view_member None = codes ",\"view\":\"top\""
view_member (Some Callers) = codes ",\"view\":\"callers\""
view_member (Some Callees) = codes ",\"view\":\"callees\""

abbrev pub unit_member : List ℕ → List ℕ
unit_member unit = codes ",\"unit\":" ++ compact_text (string unit)

abbrev pub functions_tail : Option CallSide → Told → ℕ → List ℕ
functions_tail side told whole =
    codes "],\"total\":" ++ (decimal whole ++ (unit_member told.unit ++ (view_member side ++ functions_end told.whole)))

-- what stands before the functions, each function, and what stands after them
abbrev pub functions_pieces : Option CallSide → Told → ℕ → List FunctionSum → List (List ℕ)
functions_pieces side told whole sums =
    line_pieces (codes "{\"functions\":[") (map function_data sums) (functions_tail side told whole)

-- the same of changes
abbrev pub changes_tail : List ℕ → ℕ → ℕ → List ℕ
changes_tail unit before after =
    codes "],\"total_after\":" ++ (decimal after ++ (codes ",\"total_before\":" ++ (decimal before ++ (unit_member unit ++ codes ",\"view\":\"diff\"}\n"))))

abbrev pub changes_pieces : List ℕ → ℕ → ℕ → List FunctionChange → List (List ℕ)
changes_pieces unit before after changes =
    line_pieces (codes "{\"functions\":[") (map change_data changes) (changes_tail unit before after)
