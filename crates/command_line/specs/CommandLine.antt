-- The command line of the program, in `clap`'s words: its commands, each with its options and files.
use Rattle.std.specs.Prelude.{ℕ, true, false, List, [], ◌∷◌, Some, codes, pos}
use Rattle.clap.specs.Simple.{App, Shape, new_rule, new_shape}
use Rattle.clap.specs.Walk.{Rule, Text}
use Rattle.clap.specs.declared.builder.action.ArgAction.TheVariants.{Append, SetTrue}
use Rattle.clap.specs.declared.builder.value_parser.ValueParser.TheVariants.{NonEmptyString, Signed, Unsigned}
use Rattle.run_options.specs.declared.ring_sizes.TheConstants.{LARGEST_RING}
use Rattle.run_options.specs.declared.widths.TheConstants.{MAX_WIDTH}
use Rattle.command_line.specs.declared.arguments.TheConstants.{MOST_BETWEEN_SNAPSHOTS, MOST_HUNDREDTHS, MOST_ROWS}

-- an option with a value: a text, or a number from 1 to `most`
abbrev pub text_option : Text → Rule
text_option name = record (new_rule name) { long = Some name; value_names = 1 }

abbrev pub number_option : Text → ℕ → Rule
number_option name most =
    record (text_option name) { parser = Some (Signed (pos 1) (pos most)) }

-- an option that may be used several times, each time with a text that is not empty
abbrev pub texts_option : Text → Rule
texts_option name =
    record (text_option name) { parser = Some NonEmptyString; action = Some Append }

abbrev pub flag : Text → Rule
flag name = record (new_rule name) { long = Some name; action = Some SetTrue }

-- any number of files, and one value that has to be there: a file, or a name
abbrev pub any_files : Text → Rule
any_files name = record (new_rule name) { value_names = 1; action = Some Append }

abbrev pub one_value : Text → Rule
one_value name = record (new_rule name) { value_names = 1; required = true }

abbrev pub width_option : Rule
width_option = number_option (codes "width") MAX_WIDTH

abbrev pub type_option : Rule
type_option = text_option (codes "type")

abbrev pub format_option : Rule
format_option = text_option (codes "format")

abbrev pub focus_option : Rule
focus_option = texts_option (codes "focus")

abbrev pub hide_option : Rule
hide_option = texts_option (codes "hide")

abbrev pub from_option : Rule
from_option = record (text_option (codes "from")) { parser = Some NonEmptyString }

abbrev pub omit_option : Rule
omit_option = texts_option (codes "omit")

abbrev pub ring_option : Rule
ring_option = number_option (codes "ring") LARGEST_RING

abbrev pub every_option : Rule
every_option = number_option (codes "every") MOST_BETWEEN_SNAPSHOTS

abbrev pub lines_flag : Rule
lines_flag = flag (codes "lines")

abbrev pub boxes_flag : Rule
boxes_flag = flag (codes "boxes")

-- also as `-n`, where 110 is the code of n
abbrev pub rows_option : Rule
rows_option = record (number_option (codes "number") MOST_ROWS) { short = Some 110 }

abbrev pub by_option : Rule
by_option = text_option (codes "by")

abbrev pub json_flag : Rule
json_flag = flag (codes "json")

-- weights as plain digits, and the unit of weights that have none
abbrev pub exact_flag : Rule
exact_flag = flag (codes "exact")

abbrev pub unit_option : Rule
unit_option = text_option (codes "unit")

abbrev pub share_flag : Rule
share_flag = flag (codes "share")

-- from 0 to the most hundredths of a whole
abbrev pub fail_over_option : Rule
fail_over_option = record (text_option (codes "fail-over")) { parser = Some (Unsigned 0 MOST_HUNDREDTHS) }

abbrev pub strict_flag : Rule
strict_flag = flag (codes "strict")

abbrev pub quiet_flag : Rule
quiet_flag = flag (codes "quiet")

-- also as `-o`, where 111 is the code of o
abbrev pub output_option : Rule
output_option = record (text_option (codes "output")) { short = Some 111; parser = Some NonEmptyString }

abbrev pub page_flag : Rule
page_flag = flag (codes "page")

-- `--page` with a file, by an id of its own
abbrev pub pages_option : Rule
pages_option = record (text_option (codes "pages")) { long = Some (codes "page"); parser = Some NonEmptyString }

abbrev pub svg_flag : Rule
svg_flag = flag (codes "svg")

abbrev pub root_below_flag : Rule
root_below_flag = flag (codes "root-below")

abbrev pub title_option : Rule
title_option = record (text_option (codes "title")) { parser = Some NonEmptyString }

-- any number of 64 bits
abbrev pub least_option : Rule
least_option = record (text_option (codes "least")) { parser = Some (Unsigned 0 18446744073709551615) }

-- a command with its arguments
abbrev pub command : Text → List Rule → Shape
command name arguments = record (new_shape name) { rules = arguments }

abbrev pub fold_command : Shape
fold_command = command (codes "fold") (type_option ∷ format_option ∷ focus_option ∷ hide_option
    ∷ from_option ∷ omit_option ∷ ring_option ∷ lines_flag ∷ strict_flag ∷ output_option ∷ quiet_flag ∷ any_files (codes "file") ∷ [])

abbrev pub graph_command : Shape
graph_command = command (codes "graph") (width_option ∷ type_option ∷ unit_option ∷ format_option
    ∷ focus_option ∷ hide_option ∷ from_option ∷ omit_option ∷ ring_option ∷ every_option ∷ lines_flag ∷ strict_flag ∷ output_option ∷ quiet_flag
    ∷ page_flag ∷ svg_flag ∷ title_option ∷ root_below_flag ∷ least_option ∷ any_files (codes "file") ∷ [])

abbrev pub chart_command : Shape
chart_command = command (codes "chart") (width_option ∷ type_option ∷ unit_option ∷ format_option
    ∷ focus_option ∷ hide_option ∷ from_option ∷ omit_option ∷ ring_option ∷ lines_flag ∷ strict_flag ∷ output_option ∷ quiet_flag
    ∷ page_flag ∷ svg_flag ∷ title_option ∷ root_below_flag ∷ least_option ∷ any_files (codes "file") ∷ [])

abbrev pub svg_command : Shape
svg_command = command (codes "svg") (width_option ∷ type_option ∷ unit_option ∷ format_option
    ∷ focus_option ∷ hide_option ∷ from_option ∷ omit_option ∷ ring_option ∷ lines_flag ∷ strict_flag ∷ output_option ∷ quiet_flag
    ∷ title_option ∷ root_below_flag ∷ any_files (codes "file") ∷ [])

abbrev pub live_command : Shape
live_command = command (codes "live") (width_option ∷ every_option ∷ ring_option ∷ strict_flag ∷ output_option ∷ pages_option ∷ any_files (codes "file") ∷ [])

abbrev pub compare_command : Shape
compare_command = command (codes "compare") (width_option ∷ type_option ∷ unit_option ∷ format_option
    ∷ focus_option ∷ hide_option ∷ from_option ∷ omit_option ∷ ring_option ∷ boxes_flag ∷ lines_flag ∷ strict_flag ∷ output_option ∷ quiet_flag
    ∷ page_flag ∷ svg_flag ∷ title_option ∷ root_below_flag ∷ least_option ∷ share_flag
    ∷ one_value (codes "before") ∷ one_value (codes "after") ∷ [])

abbrev pub top_command : Shape
top_command = command (codes "top") (rows_option ∷ by_option ∷ json_flag ∷ exact_flag ∷ type_option ∷ unit_option ∷ format_option
    ∷ focus_option ∷ hide_option ∷ from_option ∷ omit_option ∷ ring_option ∷ lines_flag ∷ strict_flag ∷ output_option ∷ quiet_flag ∷ any_files (codes "file") ∷ [])

abbrev pub diff_command : Shape
diff_command = command (codes "diff") (rows_option ∷ by_option ∷ json_flag ∷ exact_flag ∷ share_flag ∷ fail_over_option
    ∷ type_option ∷ unit_option ∷ format_option ∷ focus_option ∷ hide_option ∷ from_option ∷ omit_option ∷ ring_option ∷ lines_flag ∷ strict_flag ∷ output_option ∷ quiet_flag
    ∷ one_value (codes "before") ∷ one_value (codes "after") ∷ [])

-- the name comes before the files
abbrev pub calls_command : Text → Shape
calls_command name = command name (rows_option ∷ json_flag ∷ exact_flag ∷ type_option ∷ unit_option ∷ format_option
    ∷ focus_option ∷ hide_option ∷ from_option ∷ omit_option ∷ ring_option ∷ lines_flag ∷ strict_flag ∷ output_option ∷ quiet_flag
    ∷ one_value (codes "function") ∷ any_files (codes "file") ∷ [])

abbrev pub callers_command : Shape
callers_command = calls_command (codes "callers")

abbrev pub callees_command : Shape
callees_command = calls_command (codes "callees")

abbrev pub peek_command : Shape
peek_command = calls_command (codes "peek")

abbrev pub types_command : Shape
types_command = command (codes "types") (output_option ∷ one_value (codes "file") ∷ [])

-- the words begin after the program's name, one of the commands is required, and the version can be asked for before it
abbrev pub command_line : App
command_line = record {
  top = record (new_shape (codes "flamecollect")) {
    is_leaf = false;
    no_binary_name = true;
    has_version = true;
    subcommand_required = true;
  };
  subs = fold_command ∷ graph_command ∷ chart_command ∷ svg_command ∷ live_command ∷ compare_command ∷ top_command ∷ diff_command
      ∷ callers_command ∷ callees_command ∷ peek_command ∷ types_command ∷ [];
}
