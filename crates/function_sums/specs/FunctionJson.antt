-- The line of JSON of functions: the compact text of one value, whose keys are in byte order, and a line feed.
use Rattle.std.specs.Prelude.{ℕ, List, map, codes, Option, None, Some}
use Rattle.serde_json.specs.Data.{Data, Members, string, object, no_members, member}
use Rattle.view_texts.specs.Json.{whole_number, list_data, json_line}
use Rattle.function_sums.specs.declared.call_sides.CallSide.{CallSide}
use Rattle.function_sums.specs.declared.call_sides.CallSide.TheVariants.{Callers, Callees}
use Rattle.function_sums.specs.declared.sums.FunctionSum.{FunctionSum}
use Rattle.function_sums.specs.Told.{Told}

-- a function with its weights
abbrev pub function_data : FunctionSum → Data
function_data sum =
    object
    (member (codes "name") (string sum.name)
    (member (codes "own") (whole_number sum.own)
    (member (codes "total") (whole_number sum.total)
    no_members)))

-- what all samples weigh, with those that a filter leaves out, where that is known
abbrev pub whole_member : Option ℕ → Members
whole_member None = no_members
whole_member (Some all) = member (codes "whole") (whole_number all) no_members

-- which functions these are: those of some samples, or the callers or the callees of one
abbrev pub view_word : Option CallSide → List ℕ
view_word None = codes "top"
view_word (Some Callers) = codes "callers"
view_word (Some Callees) = codes "callees"

-- the functions, the weight of which their weights are parts, their unit, and the weight of all samples
abbrev pub functions_data : Option CallSide → Told → ℕ → List FunctionSum → Data
functions_data side told whole sums =
    object
    (member (codes "functions") (list_data (map function_data sums))
    (member (codes "total") (whole_number whole)
    (member (codes "unit") (string told.unit)
    (member (codes "view") (string (view_word side))
    (whole_member told.whole)))))

unfoldable pub functions_line : Option CallSide → Told → ℕ → List FunctionSum → List ℕ
functions_line side told whole sums = json_line (functions_data side told whole sums)
