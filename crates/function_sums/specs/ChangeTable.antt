-- The table of changes: what is shown, a line of headings, and a line for each function.
use Rattle.std.specs.Prelude.{ℕ, Bool, List, [], ◌∷◌, ◌++◌, length, map, nat_lt, codes, Some, if◌then◌else◌}
use Rattle.std.specs.Int.{abs_diff}
use Rattle.function_sums.specs.declared.changes.Change.{Change}
use Rattle.function_sums.specs.declared.changes.FunctionChange.{FunctionChange}
use Rattle.view_texts.specs.Shares.{hundredths, points_text}
use Rattle.function_sums.specs.Columns.{Line, lines_text}
use Rattle.function_sums.specs.FunctionTable.{part_text}
use Rattle.function_sums.specs.Told.{Told, said, shown_of, sides_heading}

-- how much more or less there is after than before, with its sign
abbrev pub sign : Change → List ℕ
sign change =
    if nat_lt change.before change.after then codes "+"
    else (if nat_lt change.after change.before then codes "-" else [])

abbrev pub signed : Bool → List ℕ → Change → List ℕ
signed is_exact unit change = sign change ++ said is_exact unit (abs_diff change.before change.after)

abbrev pub change_headings : Line
change_headings = record {
  entries = Some (codes "own before") ∷ Some (codes "after") ∷ Some (codes "change")
      ∷ Some (codes "total before") ∷ Some (codes "after") ∷ Some (codes "change") ∷ [];
  name = codes "name";
}

-- both weights on both sides, and how each changes
abbrev pub change_line : Bool → List ℕ → FunctionChange → Line
change_line is_exact unit change = record {
  entries = Some (said is_exact unit change.own.before) ∷ Some (said is_exact unit change.own.after) ∷ Some (signed is_exact unit change.own)
      ∷ Some (said is_exact unit change.total.before) ∷ Some (said is_exact unit change.total.after) ∷ Some (signed is_exact unit change.total) ∷ [];
  name = change.name;
}

-- the table of some changes of so many, from samples of a weight to samples of another
unfoldable pub changes_table : Bool → Told → ℕ → ℕ → ℕ → List FunctionChange → List ℕ
changes_table is_exact told count before after changes =
    shown_of (length changes) count (codes " functions") [] ++ (sides_heading is_exact told before after
    ++ lines_text (change_headings ∷ map (change_line is_exact told.unit) changes))

-- ---- shares of what both sides weigh

abbrev pub share_headings : Line
share_headings = record {
  entries = Some (codes "own before") ∷ Some (codes "after") ∷ Some (codes "points")
      ∷ Some (codes "total before") ∷ Some (codes "after") ∷ Some (codes "points") ∷ [];
  name = codes "name";
}

-- by how much a share is greater or less: the difference of both, as they are said
abbrev pub points : Change → Change → List ℕ
points whole change = points_text (hundredths whole.before change.before) (hundredths whole.after change.after)

abbrev pub share_line : Change → FunctionChange → Line
share_line whole change = record {
  entries = Some (part_text whole.before change.own.before) ∷ Some (part_text whole.after change.own.after) ∷ Some (points whole change.own)
      ∷ Some (part_text whole.before change.total.before) ∷ Some (part_text whole.after change.total.after) ∷ Some (points whole change.total) ∷ [];
  name = change.name;
}

-- the table of some changes of so many
unfoldable pub shares_table : Bool → Told → ℕ → Change → List FunctionChange → List ℕ
shares_table is_exact told count whole changes =
    shown_of (length changes) count (codes " functions") [] ++ (sides_heading is_exact told whole.before whole.after
    ++ lines_text (share_headings ∷ map (share_line whole) changes))
