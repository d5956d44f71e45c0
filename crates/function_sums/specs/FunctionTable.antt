-- The table of functions: what is shown, a line of headings, and a line for each function.
use Rattle.std.specs.Prelude.{ℕ, ◌+◌, Bool, true, false, min, if◌then◌else◌, List, [], ◌∷◌, ◌++◌, length, codes, Option, None, Some, option_map}
use Rattle.function_sums.specs.declared.call_sides.CallSide.{CallSide}
use Rattle.function_sums.specs.declared.call_sides.CallSide.TheVariants.{Callers, Callees}
use Rattle.function_sums.specs.declared.sums.FunctionSum.{FunctionSum}
use Rattle.view_texts.specs.Shares.{hundredths, percent_text}
use Rattle.function_sums.specs.Columns.{Line, lines_text}
use Rattle.function_sums.specs.Told.{Told, said, shown_of, whole_heading}

abbrev pub part_text : ℕ → ℕ → List ℕ
part_text whole weight = percent_text (hundredths whole weight)

-- the third column is left out of a table of calls, and the last where it isn't known what all samples weigh
abbrev pub headings : Bool → Option ℕ → Line
headings is_running all = record {
  entries = Some (codes "own") ∷ Some (codes "own%") ∷ (if is_running then Some (codes "sum%") else None)
      ∷ Some (codes "total") ∷ Some (codes "total%") ∷ option_map (λ _. codes "whole%") all ∷ [];
  name = codes "name";
}

-- the weights of a function, what parts they are of the whole that is listed, as are the own weights up to it, and what part its
-- total is of all samples
abbrev pub function_line : Bool → Told → ℕ → Option ℕ → FunctionSum → Line
function_line is_exact told whole until sum = record {
  entries = Some (said is_exact told.unit sum.own) ∷ Some (part_text whole sum.own) ∷ option_map (part_text whole) until
      ∷ Some (said is_exact told.unit sum.total) ∷ Some (part_text whole sum.total) ∷ option_map (λ all. part_text all sum.total) told.whole ∷ [];
  name = sum.name;
}

-- the own weights up to a function, and no more than the whole
abbrev pub up_to : ℕ → Option ℕ → FunctionSum → Option ℕ
up_to whole before sum = option_map (λ weight. min (weight + sum.own) whole) before

-- a line for each function, behind functions of so much own weight
abbrev pub function_lines : Bool → Told → ℕ → Option ℕ → List FunctionSum → List Line
function_lines is_exact told whole before [] = []
function_lines is_exact told whole before (sum ∷ sums) =
    function_line is_exact told whole (up_to whole before sum) sum ∷ function_lines is_exact told whole (up_to whole before sum) sums

-- the table of some functions of so many
unfoldable pub functions_table : Bool → Told → ℕ → ℕ → List FunctionSum → List ℕ
functions_table is_exact told count whole sums =
    shown_of (length sums) count (codes " functions") [] ++ (whole_heading is_exact told whole
    ++ lines_text (headings true told.whole ∷ function_lines is_exact told whole (Some 0) sums))

abbrev pub calls_word : CallSide → List ℕ
calls_word Callers = codes " callers of "
calls_word Callees = codes " callees of "

-- the table of a function and some of its callers, or its callees, of so many
unfoldable pub listed_table : Bool → Told → CallSide → ℕ → FunctionSum → List FunctionSum → List ℕ
listed_table is_exact told side count function calls =
    shown_of (length calls) count (calls_word side) function.name ++ (whole_heading is_exact told function.total
    ++ lines_text (headings false told.whole ∷ function_lines is_exact told function.total None (function ∷ calls)))
