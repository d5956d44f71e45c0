-- What the entries and the lines of the code stand for.
use Rattle.std.specs.Prelude.{ℕ, Bool, List, map, option_map}
use Rattle.function_sums.specs.ChangeTable.{points, signed}
use Rattle.function_sums.specs.Columns as columns
use Rattle.function_sums.specs.FunctionTable.{part_text}
use Rattle.function_sums.specs.Told.{said}
use Rattle.function_sums.specs.declared.entries.Entry.{Entry}
use Rattle.function_sums.specs.declared.entries.Entry.TheVariants.{Heading, Weight, Part, Change, Points}
use Rattle.function_sums.specs.declared.text_tables.Line.{Line}

abbrev pub entry_text : Bool → List ℕ → Entry → List ℕ
entry_text is_exact unit (Heading text) = text.now
entry_text is_exact unit (Weight weight) = said is_exact unit weight
entry_text is_exact unit (Part weight whole) = part_text whole weight
entry_text is_exact unit (Change change) = signed is_exact unit change
entry_text is_exact unit (Points change whole) = points whole change

abbrev pub line_of : Bool → List ℕ → Line → columns.Line
line_of is_exact unit line = record {
  entries = map (option_map (entry_text is_exact unit)) line.entries;
  name = line.name.now;
}
