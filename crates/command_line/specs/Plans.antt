-- The plan that words stand for, by the entries that `clap` makes of them.
use Rattle.std.specs.Prelude.{◌≡◌, ◌⊎◌, ◌&&◌, ◌||◌, ℕ, Bool, true, false, List, [], ◌∷◌, ◌++◌, Option, Some, None, is_some}
use Rattle.std.specs.Prelude.{codes, if◌then◌else◌, length, not, option_and_then, option_map, string_bytes, unwrap_or}
use Rattle.std.specs.Option.{option_map_or}
use Rattle.std.specs.Str.{bytes_eq}
use Rattle.std.specs.Str.Parse.{digits_value, without_leading_plus}
use Rattle.clap.specs.Faults.{fault_of as parsing_fault}
use Rattle.clap.specs.Kinds.{IsAmong, Kinds, or_else}
use Rattle.clap.specs.Simple.{App, subcommand_of}
use Rattle.clap.specs.Takes.{takes as parses}
use Rattle.clap.specs.Walk.{Row, Text, all_of, first_of, is_empty, one_of}
use Rattle.clap.specs.declared.error.kind.ErrorKind.{ErrorKind}
use Rattle.clap.specs.declared.error.kind.ErrorKind.TheVariants as kind
use Rattle.run_options.specs.Formats.{named_format}
use Rattle.run_options.specs.Orders.{named_order}
use Rattle.run_options.specs.declared.choices.Naming.{Naming}
use Rattle.run_options.specs.declared.choices.Naming.TheVariants.{Plain, Lines}
use Rattle.run_options.specs.declared.choices.Pick.{Pick}
use Rattle.run_options.specs.declared.choices.Pick.TheVariants.{Preferred, Named}
use Rattle.run_options.specs.declared.filters.Filter.{Filter}
use Rattle.run_options.specs.declared.formats.Format.{Format}
use Rattle.run_options.specs.declared.formats.Format.TheVariants.{Folded, Pprof}
use Rattle.run_options.specs.declared.options.Options.{Options}
use Rattle.run_options.specs.declared.orders.FunctionOrder.{FunctionOrder}
use Rattle.run_options.specs.declared.orders.FunctionOrder.TheVariants.{Own}
use Rattle.command_line.specs.CommandLine.{command_line}
use Rattle.command_line.specs.EarlyValues.{told_kinds}
use Rattle.command_line.specs.Units.{named_unit}
use Rattle.command_line.specs.declared.plans.CallTable.{CallTable}
use Rattle.command_line.specs.declared.plans.DiffTable.{DiffTable}
use Rattle.command_line.specs.declared.plans.Form.{Form}
use Rattle.command_line.specs.declared.plans.Form.TheVariants as form
use Rattle.command_line.specs.declared.plans.PageForm.{PageForm}
use Rattle.command_line.specs.declared.plans.PictureForm.{PictureForm}
use Rattle.command_line.specs.declared.plans.Plan.{Plan}
use Rattle.command_line.specs.declared.plans.PlanFault.{PlanFault}
use Rattle.command_line.specs.declared.plans.PlanFault.TheVariants as fault
use Rattle.command_line.specs.declared.plans.TopTable.{TopTable}
use Rattle.command_line.specs.declared.units.WeightUnit.{WeightUnit}
use Rattle.command_line.specs.declared.plans.View.{View}
use Rattle.command_line.specs.declared.plans.View.TheVariants.{Fold, Graph, Chart, Pairs, PairBoxes, Top, Diff}

-- ---- the entries of a command, by the ids of its arguments

-- the number that an option's value writes, if the option was used
abbrev pub number_at : Text → List Row → Option ℕ
number_at id entries =
    option_map (λ text. digits_value 10 (without_leading_plus text)) (one_of id entries)

-- the flag was used
abbrev pub is_set : Text → List Row → Bool
is_set id entries = option_map_or (λ text. bytes_eq text (codes "true")) (one_of id entries) false

-- all values of an argument, in their order
abbrev pub values_at : Text → List Row → List Text
values_at id entries = unwrap_or (all_of id entries) []

-- the option was used
abbrev pub is_used : Text → List Row → Bool
is_used id entries = is_some (all_of id entries)

-- ---- the plan, where what no entry sets has its default

abbrev pub pick_of : List Row → Pick
pick_of entries = option_map_or Named (first_of (codes "type") entries) Preferred

abbrev pub naming_of : List Row → Naming
naming_of entries = if is_set (codes "lines") entries then Lines else Plain

-- the samples that the words ask for
abbrev pub filter_of : List Row → Filter
filter_of entries = record {
  focus = values_at (codes "focus") entries;
  hide = values_at (codes "hide") entries;
}

-- the format of all sources, if the words set one; and what they set is a format
abbrev pub asked_format : List Row → Option Format
asked_format entries = option_and_then named_format (first_of (codes "format") entries)

abbrev pub knows_format : List Row → Bool
knows_format entries =
    option_map_or (λ name. is_some (named_format name)) (first_of (codes "format") entries) true

-- the unit of weights that have none, if the words set one; and what they set is a unit
abbrev pub asked_unit : List Row → Option WeightUnit
asked_unit entries = option_and_then named_unit (first_of (codes "unit") entries)

abbrev pub knows_unit : List Row → Bool
knows_unit entries =
    option_map_or (λ name. is_some (named_unit name)) (first_of (codes "unit") entries) true

abbrev pub options_of : List Row → Options
options_of entries = record {
  ring = unwrap_or (number_at (codes "ring") entries) 1024;
  pick = pick_of entries;
  naming = naming_of entries;
  filter = filter_of entries;
  every = number_at (codes "every") entries;
}

-- the name of the frame at which each stack begins, if the words set one
abbrev pub from_of : List Row → Option Text
from_of entries = first_of (codes "from") entries

-- the names whose frames are left out
abbrev pub omit_of : List Row → List Text
omit_of entries = values_at (codes "omit") entries

-- the file that what is written goes to, if the words set one
abbrev pub output_of : List Row → Option Text
output_of entries = first_of (codes "output") entries

-- the file whose place the pages of `live` take, if the words set one
abbrev pub pages_of : List Row → Option Text
pages_of entries = first_of (codes "pages") entries

abbrev pub default_options : Options
default_options = options_of []

abbrev pub width_of : List Row → ℕ
width_of entries = unwrap_or (number_at (codes "width") entries) 1200

-- a page or a picture is asked for
abbrev pub is_drawn : List Row → Bool
is_drawn entries = is_set (codes "page") entries || is_set (codes "svg") entries

-- it shows boxes, whatever else is said
abbrev pub shows_boxes : List Row → Bool
shows_boxes entries = is_set (codes "boxes") entries || is_drawn entries

abbrev pub compared_view : List Row → View
compared_view entries =
    if shows_boxes entries then PairBoxes (width_of entries) else Pairs

-- by which weight the functions are listed, and what the words set is such an order
abbrev pub order_of : List Row → FunctionOrder
order_of entries = unwrap_or (option_and_then named_order (first_of (codes "by") entries)) Own

abbrev pub knows_order : List Row → Bool
knows_order entries =
    option_map_or (λ name. is_some (named_order name)) (first_of (codes "by") entries) true

abbrev pub rows_of : List Row → ℕ
rows_of entries = unwrap_or (number_at (codes "number") entries) 10

abbrev pub table_of : List Row → TopTable
table_of entries = record {
  by = order_of entries;
  rows = rows_of entries;
  is_json = is_set (codes "json") entries;
  is_exact = is_set (codes "exact") entries;
}

-- shares are compared, and not weights
abbrev pub is_share : List Row → Bool
is_share entries = is_set (codes "share") entries

-- a table of changes: of shares, and with a limit, if the words set one
abbrev pub diff_table_of : List Row → DiffTable
diff_table_of entries = record {
  table = table_of entries;
  is_share = is_share entries;
  fail_over = number_at (codes "fail-over") entries;
}

-- a function, and how much is told of its calls
abbrev pub function_of : List Row → Text
function_of entries = unwrap_or (first_of (codes "function") entries) []

abbrev pub call_table_of : List Row → CallTable
call_table_of entries = record {
  name = function_of entries;
  rows = rows_of entries;
  is_json = is_set (codes "json") entries;
  is_exact = is_set (codes "exact") entries;
}

-- the three commands that tell the calls of a function show no view: the plan has that of `fold`
abbrev pub view_of : Text → List Row → Option View
view_of name entries =
    if bytes_eq name (codes "fold") then Some Fold
    else (if bytes_eq name (codes "graph") then Some (Graph (width_of entries))
    else (if bytes_eq name (codes "chart") then Some (Chart (width_of entries))
    else (if bytes_eq name (codes "compare") then Some (compared_view entries)
    else (if bytes_eq name (codes "top") then Some (Top (table_of entries))
    else (if bytes_eq name (codes "diff") then Some (Diff (diff_table_of entries))
    else (if bytes_eq name (codes "callers") || (bytes_eq name (codes "callees") || bytes_eq name (codes "peek")) then Some Fold else None))))))

-- what is written: a page or a picture with what the words say of it, else the calls of a function, or the text of the view
abbrev pub title_of : List Row → Option Text
title_of entries = first_of (codes "title") entries

abbrev pub is_root_below : List Row → Bool
is_root_below entries = is_set (codes "root-below") entries

abbrev pub page_of : List Row → PageForm
page_of entries = record {
  title = title_of entries;
  least = number_at (codes "least") entries;
  is_root_below = is_root_below entries;
  is_share = is_share entries;
}

abbrev pub picture_of : List Row → PictureForm
picture_of entries = record {
  title = title_of entries;
  is_root_below = is_root_below entries;
  is_share = is_share entries;
}

abbrev pub text_form : Text → List Row → Form
text_form name entries =
    if bytes_eq name (codes "callers") then form.Callers (call_table_of entries)
    else (if bytes_eq name (codes "callees") then form.Callees (call_table_of entries)
    else (if bytes_eq name (codes "peek") then form.Peek (call_table_of entries) else form.Text))

abbrev pub form_of : Text → List Row → Form
form_of name entries =
    if is_set (codes "page") entries then form.Page (page_of entries)
    else (if is_set (codes "svg") entries then form.Picture (picture_of entries) else text_form name entries)

-- a picture is no page, has no snapshots, and leaves boxes out by its width alone
abbrev pub has_picture_conflict : List Row → Bool
has_picture_conflict entries = is_set (codes "svg") entries
    && (is_set (codes "page") entries || (is_used (codes "every") entries || is_used (codes "least") entries))

-- where pages take the place of a file, nothing else is written
abbrev pub has_two_files : List Row → Bool
has_two_files entries = is_used (codes "pages") entries && is_used (codes "output") entries

abbrev pub has_conflict : List Row → Bool
has_conflict entries = has_two_files entries || has_picture_conflict entries

-- a least weight is that of a page, and a title, a root below and the shares of `compare` are those of a page or a picture
abbrev pub has_its_page : List Row → Bool
has_its_page entries = is_set (codes "page") entries || not (is_used (codes "least") entries)

abbrev pub draws_shares : Text → List Row → Bool
draws_shares name entries = bytes_eq name (codes "compare") && is_share entries

abbrev pub has_its_form : Text → List Row → Bool
has_its_form name entries = bytes_eq name (codes "svg") || (is_drawn entries
    || not (is_used (codes "title") entries || (is_root_below entries || draws_shares name entries)))

-- a command has either FILEs or BEFORE and AFTER
abbrev pub files_of : List Row → List Text
files_of entries = values_at (codes "file") entries
    ++ (values_at (codes "before") entries ++ values_at (codes "after") entries)

-- the plan of a command that shows a view, or the calls of a function
abbrev pub plan_with : Text → List Row → View → Plan
plan_with name entries view = record {
  view = view;
  options = options_of entries;
  from = from_of entries;
  omit = omit_of entries;
  output = output_of entries;
  pages = None;
  format = asked_format entries;
  files = files_of entries;
  form = form_of name entries;
  is_strict = is_set (codes "strict") entries;
  is_quiet = is_set (codes "quiet") entries;
  unit = asked_unit entries;
}

-- the plan of `types`: the file is a profile, whatever its name, and nothing is asked of its samples
abbrev pub types_plan : List Row → Plan
types_plan entries = record {
  view = Fold;
  options = default_options;
  from = None;
  omit = [];
  output = output_of entries;
  pages = None;
  format = Some Pprof;
  files = files_of entries;
  form = form.Types;
  is_strict = false;
  is_quiet = false;
  unit = None;
}

-- after how many samples `live` draws the next graph
abbrev pub live_every : List Row → ℕ
live_every entries = unwrap_or (number_at (codes "every") entries) 1000

abbrev pub live_options : List Row → Options
live_options entries = record default_options {
  ring = (options_of entries).ring;
  every = Some (live_every entries);
}

-- the plan of `live`: the files are streams of folded text, whatever their names, and all of their samples are drawn; its lines
-- or pages tell how far it is
abbrev pub live_plan : List Row → Plan
live_plan entries = record {
  view = Graph (width_of entries);
  options = live_options entries;
  from = None;
  omit = [];
  output = output_of entries;
  pages = pages_of entries;
  format = Some Folded;
  files = files_of entries;
  form = form.Live;
  is_strict = is_set (codes "strict") entries;
  is_quiet = true;
  unit = None;
}

-- the file that the picture of `svg` goes to: the one that the words set, else one beside the first source, if that is no input
abbrev pub picture_path : List Row → Option Text
picture_path entries = if is_used (codes "output") entries then output_of entries
    else option_map (λ file. file ++ codes ".svg") (first_of (codes "file") entries)

-- the plan of `svg`: the picture that `graph --svg` draws
abbrev pub svg_plan : List Row → Plan
svg_plan entries = record (plan_with (codes "svg") entries (Graph (width_of entries))) {
  options = record (options_of entries) { every = None };
  output = picture_path entries;
  form = form.Picture (picture_of entries);
}

-- the faults of a command's entries that `clap` takes: a format, an order or a unit that there is not, else what excludes each other, else
-- what is said of a page or a picture where none is asked for
abbrev pub entries_fault : Text → List Row → Kinds
entries_fault name entries =
    if knows_format entries && (knows_order entries && knows_unit entries)
    then (if has_conflict entries then kind.ArgumentConflict ∷ []
    else (if has_its_page entries && has_its_form name entries then [] else kind.MissingRequiredArgument ∷ []))
    else kind.InvalidValue ∷ []

-- the plan of a command with its entries, if they have no fault
abbrev pub command_plan : Text → List Row → Option Plan
command_plan name entries =
    if is_empty (entries_fault name entries) then (if bytes_eq name (codes "types") then Some (types_plan entries)
    else (if bytes_eq name (codes "live") then Some (live_plan entries)
    else (if bytes_eq name (codes "svg") then Some (svg_plan entries)
    else option_map (plan_with name entries) (view_of name entries))))
    else None

-- the plan of the command that was entered
abbrev pub entered_plan : Option (Text × List Row) → Option Plan
entered_plan = option_and_then (λ entered. command_plan entered.0 entered.1)

-- the plan of a command line: that of the command which its words enter, as `clap` reads them
abbrev pub plan_of : List Text → Option Plan
plan_of words = entered_plan (subcommand_of command_line words)

-- the plan without words: the input is folded, and each option has its default
abbrev pub default_plan : Plan
default_plan = plan_with (codes "fold") [] Fold

-- two files are compared
abbrev pub IsComparison : View → Type 0
IsComparison Pairs = Unit {0}
IsComparison (PairBoxes width) = Unit {0}
IsComparison Fold = ⊥
IsComparison (Graph width) = ⊥
IsComparison (Chart width) = ⊥
IsComparison (Top table) = ⊥
IsComparison (Diff table) = Unit {0}

-- by how many hundredths of the whole a function's share may grow, if the plan sets a limit
abbrev pub limit_of : View → Option ℕ
limit_of Pairs = None
limit_of (PairBoxes width) = None
limit_of Fold = None
limit_of (Graph width) = None
limit_of (Chart width) = None
limit_of (Top table) = None
limit_of (Diff table) = table.fail_over

-- the view has boxes
abbrev pub IsDrawn : View → Type 0
IsDrawn Fold = ⊥
IsDrawn (Graph width) = Unit {0}
IsDrawn (Chart width) = Unit {0}
IsDrawn Pairs = ⊥
IsDrawn (PairBoxes width) = Unit {0}
IsDrawn (Top table) = ⊥
IsDrawn (Diff table) = ⊥

-- a page is written
abbrev pub IsPage : Form → Type 0
IsPage form.Text = ⊥
IsPage (form.Page page) = Unit {0}
IsPage (form.Picture picture) = ⊥
IsPage form.Types = ⊥
IsPage form.Live = ⊥
IsPage (form.Callers table) = ⊥
IsPage (form.Callees table) = ⊥
IsPage (form.Peek table) = ⊥

-- a picture is written
abbrev pub IsPicture : Form → Type 0
IsPicture form.Text = ⊥
IsPicture (form.Page page) = ⊥
IsPicture (form.Picture picture) = Unit {0}
IsPicture form.Types = ⊥
IsPicture form.Live = ⊥
IsPicture (form.Callers table) = ⊥
IsPicture (form.Callees table) = ⊥
IsPicture (form.Peek table) = ⊥

-- the plan reads one profile, with the default options
abbrev pub IsOfOneProfile : Plan → Type 0
IsOfOneProfile plan =
    (length plan.files ≡ 1) × (plan.format ≡ Some Pprof) × (plan.options ≡ default_options)

-- the plan shows the flame graph of folded text after every so many samples, and keeps all of them
pub record IsOfStreams (plan : Plan) : Type 0 where
  pub width : ℕ
  pub every : ℕ
  pub view : plan.view ≡ Graph width
  pub options : plan.options ≡ record default_options { ring = plan.options.ring; every = Some every }
  pub format : plan.format ≡ Some Folded
  pub from : plan.from ≡ None
  pub omit : plan.omit ≡ []

-- ---- refusals

-- the faults of the entries of the command that was entered
abbrev pub own_fault : Option (Text × List Row) → Kinds
own_fault entered = option_map_or (λ entered. entries_fault entered.0 entered.1) entered []

-- the words are taken: `clap` takes them, and their entries have no fault
abbrev pub takes : App → List Text → Bool
takes line words = parses line words
    && is_empty (own_fault (subcommand_of line words))

-- the faults of words: those that `clap` finds, else those of the entries; a value that is refused comes before help that is asked
-- for behind it
abbrev pub fault_of : App → List Text → Kinds
fault_of line words = or_else (told_kinds words (parsing_fault line words))
    (own_fault (subcommand_of line words))

-- the text that a fault is shown as
abbrev pub fault_text : PlanFault → List ℕ
fault_text (fault.Words text) = string_bytes text
fault_text (fault.Help text) = string_bytes text
fault_text fault.OutOfMemory = codes "out of memory"

-- help or the version is asked for
abbrev pub IsRequest : ErrorKind → Type 0
IsRequest k = (k ≡ kind.DisplayHelp) ⊎ (k ≡ kind.DisplayVersion)

-- the fault is one of the kinds: the text that was asked for, and refused words by another kind
abbrev pub IsFaultAmong : Kinds → PlanFault → Type 0
IsFaultAmong kinds (fault.Words text) =
    (k : ErrorKind) × IsAmong k kinds × (IsRequest k → ⊥)
IsFaultAmong kinds (fault.Help text) = (k : ErrorKind) × IsAmong k kinds × IsRequest k
IsFaultAmong kinds fault.OutOfMemory = Unit {0}
