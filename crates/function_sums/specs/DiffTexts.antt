-- The texts of the greatest changes from some samples to others.
use Rattle.std.specs.Prelude.{ℕ, Bool, List, length, take}
use Rattle.sample_tables.specs.Samples.{total_weight}
use Rattle.sample_tables.specs.declared.samples.Sample.{Sample}
use Rattle.function_sums.specs.FunctionList.{changes_of}
use Rattle.function_sums.specs.declared.changes.Change.{Change}
use Rattle.function_sums.specs.declared.changes.ChangeOrder.{ChangeOrder}
use Rattle.function_sums.specs.declared.changes.FunctionChange.{FunctionChange}
use Rattle.function_sums.specs.ChangeJson.{changes_line}
use Rattle.function_sums.specs.ChangeTable.{changes_table, shares_table}
use Rattle.function_sums.specs.Told.{Told}

-- what both sides weigh
abbrev pub wholes : List Sample → List Sample → Change
wholes before after = record { before = total_weight before; after = total_weight after }

-- the first changes in the order, so many
abbrev pub greatest_changes : ChangeOrder → ℕ → List Sample → List Sample → List FunctionChange
greatest_changes by rows before after = take rows (changes_of by before after)

-- their table
abbrev pub diff_table : Bool → Told → ChangeOrder → ℕ → List Sample → List Sample → List ℕ
diff_table is_exact told by rows before after =
    changes_table is_exact told (length (changes_of by before after)) (total_weight before) (total_weight after) (greatest_changes by rows before after)

-- the same of shares
abbrev pub share_table : Bool → Told → ChangeOrder → ℕ → List Sample → List Sample → List ℕ
share_table is_exact told by rows before after =
    shares_table is_exact told (length (changes_of by before after)) (wholes before after) (greatest_changes by rows before after)

-- and their line of JSON
abbrev pub diff_line : Told → ChangeOrder → ℕ → List Sample → List Sample → List ℕ
diff_line told by rows before after =
    changes_line told.unit (total_weight before) (total_weight after) (greatest_changes by rows before after)
