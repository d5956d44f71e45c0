-- The values of the lines: their keys rise, their numbers are whole and have 64 bits, and they nest three deep.
use Rattle.std.proofs.Common.{ℕ, ◌^◌, ◌<◌, ◌≤◌, List, map, All, IfSome, Option, None, Some, rules, arith}
use Rattle.std.specs.List.Sorted.{IsStrictlySortedBy}
use Rattle.serde_json.specs.Data.{depth}
use Rattle.function_sums.specs.declared.call_sides.CallSide.{CallSide}
use Rattle.function_sums.specs.declared.changes.Change.{Change}
use Rattle.function_sums.specs.declared.changes.FunctionChange.{FunctionChange}
use Rattle.function_sums.specs.declared.sums.FunctionSum.{FunctionSum}
use Rattle.view_texts.specs.JsonLaws.{HasRisingKeys, IsJsonLine}
use Rattle.view_texts.proofs.JsonReading.{HasWholeNumbers}
use Rattle.view_texts.proofs.JsonValues.{each_of, whole_items, rising_items, items_depth-le, line_of_value}
use Rattle.view_texts.specs.Json.{list_data}
use Rattle.function_sums.specs.ChangeJson.{change_data, changes_data, changes_line}
use Rattle.function_sums.specs.FunctionJson.{function_data, functions_data, functions_line}
use Rattle.function_sums.specs.Told.{Told}

abbrev HasBits : FunctionSum → Type 0
HasBits sum = (sum.own < 2 ^ 64) × (sum.total < 2 ^ 64)

rising_function : (sum : FunctionSum) → HasRisingKeys (function_data sum)
unfolding IsStrictlySortedBy
rising_function sum = search rules

rising_functions : (side : Option CallSide) (told : Told) (whole : ℕ) (sums : List FunctionSum) → HasRisingKeys (functions_data side told whole sums)
unfolding IsStrictlySortedBy
rising_functions side told whole sums =
    let items = rising_items function_data rising_function sums in
    elim told.whole as (λ all. HasRisingKeys (functions_data side (record told { whole = all }) whole sums)) [
      | None ↦ search (rules, items)
      | Some weight ↦ search (rules, items)
    ]

whole_functions : (side : Option CallSide) (told : Told) (whole : ℕ) (sums : List FunctionSum) → whole < 2 ^ 64 → IfSome told.whole (λ weight. weight < 2 ^ 64) → All HasBits sums → HasWholeNumbers (functions_data side told whole sums)
whole_functions side told whole sums w bits h =
    let each = each_of HasBits (λ sum. HasWholeNumbers (function_data sum)) sums (λ sum bits. (tt, (bits.0, (bits.1, tt)))) h in
    by told.whole bits (whole_items function_data sums each)
  where
    by : (all : Option ℕ) → IfSome all (λ weight. weight < 2 ^ 64) → HasWholeNumbers (list_data (map function_data sums)) → HasWholeNumbers (functions_data side (record told { whole = all }) whole sums)
    by None bits items = (items, (w, (tt, (tt, tt))))
    by (Some weight) bits items = (items, (w, (tt, (tt, (bits, tt)))))

deep : (side : Option CallSide) (told : Told) (whole : ℕ) (sums : List FunctionSum) → depth (functions_data side told whole sums) ≤ 3
deep side told whole sums = by told.whole
  where
    by : (all : Option ℕ) → depth (functions_data side (record told { whole = all }) whole sums) ≤ 3
    by None = omega (arith, items_depth-le function_data 1 (λ sum. omega arith) sums)
    by (Some weight) = omega (arith, items_depth-le function_data 1 (λ sum. omega arith) sums)

pub read_back : (side : Option CallSide) (told : Told) (whole : ℕ) (sums : List FunctionSum) → whole < 2 ^ 64 → IfSome told.whole (λ weight. weight < 2 ^ 64) → All HasBits sums → IsJsonLine (functions_line side told whole sums) (functions_data side told whole sums)
unfolding functions_line
read_back side told whole sums w bits h =
    line_of_value (functions_data side told whole sums) (whole_functions side told whole sums w bits h) (rising_functions side told whole sums) (omega (arith, deep side told whole sums))

-- ---- changes

abbrev HasBoth : Change → Type 0
HasBoth change = (change.before < 2 ^ 64) × (change.after < 2 ^ 64)

rising_change : (change : FunctionChange) → HasRisingKeys (change_data change)
unfolding IsStrictlySortedBy
rising_change change = search rules

rising_changes : (unit : List ℕ) (before after : ℕ) (changes : List FunctionChange) → HasRisingKeys (changes_data unit before after changes)
unfolding IsStrictlySortedBy
rising_changes unit before after changes =
    let items = rising_items change_data rising_change changes in
    search (rules, items)

whole_changes : (unit : List ℕ) (before after : ℕ) (changes : List FunctionChange) → before < 2 ^ 64 → after < 2 ^ 64 → All (λ change. HasBoth change.own) changes → All (λ change. HasBoth change.total) changes
    → HasWholeNumbers (changes_data unit before after changes)
whole_changes unit before after changes first second own total =
    let each = each_of (λ (change : FunctionChange). HasBoth change.own × HasBoth change.total) (λ change. HasWholeNumbers (change_data change)) changes
    (λ change both. (tt, (both.0.1, (both.0.0, (both.1.1, (both.1.0, tt)))))) (λ k d below. (own k d below, total k d below)) in
    (whole_items change_data changes each, (second, (first, (tt, (tt, tt)))))

deep_changes : (unit : List ℕ) (before after : ℕ) (changes : List FunctionChange) → depth (changes_data unit before after changes) ≤ 3
deep_changes unit before after changes = omega (arith, items_depth-le change_data 1 (λ change. omega arith) changes)

pub changes_read_back : (unit : List ℕ) (before after : ℕ) (changes : List FunctionChange) → before < 2 ^ 64 → after < 2 ^ 64 → All (λ change. HasBoth change.own) changes → All (λ change. HasBoth change.total) changes
    → IsJsonLine (changes_line unit before after changes) (changes_data unit before after changes)
unfolding changes_line
changes_read_back unit before after changes first second own total =
    line_of_value (changes_data unit before after changes) (whole_changes unit before after changes first second own total) (rising_changes unit before after changes) (omega (arith, deep_changes unit before after changes))
