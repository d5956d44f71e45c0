-- The line of JSON of changes: the compact text of one value, whose keys are in byte order, and a line feed.
use Rattle.std.specs.Prelude.{ℕ, List, map, codes}
use Rattle.serde_json.specs.Data.{Data, string, object, no_members, member}
use Rattle.view_texts.specs.Json.{whole_number, list_data, json_line}
use Rattle.function_sums.specs.declared.changes.FunctionChange.{FunctionChange}

-- a function with its weights on both sides
abbrev pub change_data : FunctionChange → Data
change_data change =
    object
    (member (codes "name") (string change.name)
    (member (codes "own_after") (whole_number change.own.after)
    (member (codes "own_before") (whole_number change.own.before)
    (member (codes "total_after") (whole_number change.total.after)
    (member (codes "total_before") (whole_number change.total.before)
    no_members)))))

-- the functions, the weight of the samples of each side, and the unit of all weights
abbrev pub changes_data : List ℕ → ℕ → ℕ → List FunctionChange → Data
changes_data unit before after changes =
    object
    (member (codes "functions") (list_data (map change_data changes))
    (member (codes "total_after") (whole_number after)
    (member (codes "total_before") (whole_number before)
    (member (codes "unit") (string unit)
    (member (codes "view") (string (codes "diff"))
    no_members)))))

unfoldable pub changes_line : List ℕ → ℕ → ℕ → List FunctionChange → List ℕ
changes_line unit before after changes = json_line (changes_data unit before after changes)
