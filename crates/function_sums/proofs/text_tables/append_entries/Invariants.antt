-- the entries so far, and those that are left
use Rattle.std.proofs.Common.{◌≡◌, ◌++◌, drop, map, option_map}
use Rattle.std.specs.Io.{StartsWith}
use Rattle.function_sums.specs.Columns.{in_columns}
use Rattle.function_sums.specs.checked.Entries.{entry_text}
use Rattle.function_sums.proofs.text_tables.append_entries.Given as goal

abbrev pub invariant-loop-at : goal.invariant-loop-at
invariant-loop-at l = record {
  all : l.out.items ++ in_columns (drop l.at l.widths) (drop l.at (map (option_map (entry_text l.saying.is_exact l.saying.unit.now)) l.entries))
      ≡ l.fn.out.items ++ in_columns l.widths (map (option_map (entry_text l.saying.is_exact l.saying.unit.now)) l.entries);
  front : StartsWith l.out.items l.fn.out.items;
}
