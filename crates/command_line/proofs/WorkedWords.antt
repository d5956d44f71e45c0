-- Worked command lines, computed on the definitions.
use Rattle.std.proofs.Common.{◌≡◌, ℕ, false, true, refl, List, [], ◌∷◌, Option, Some, None, codes}
use Rattle.clap.proofs.OnLiterals.{clap_on_literals}
use Rattle.clap.specs.Faults.{is_simple_and_free}
use Rattle.clap.specs.Walk.{Text}
use Rattle.clap.specs.declared.error.kind.ErrorKind.TheVariants as kind
use Rattle.run_options.specs.declared.choices.Naming.TheVariants.{Plain, Lines}
use Rattle.run_options.specs.declared.choices.Pick.TheVariants.{Preferred, Named}
use Rattle.command_line.specs.CommandLine.{command_line}
use Rattle.run_options.specs.Filters.{everything}
use Rattle.run_options.specs.Formats.{format_at}
use Rattle.command_line.specs.Destinations.{destination_of}
use Rattle.command_line.specs.EarlyValues.{refuses_before_help}
use Rattle.command_line.specs.Plans.{fault_of, plan_of, takes}
use Rattle.run_options.specs.declared.formats.Format.TheVariants.{Folded, Pprof}
use Rattle.run_options.specs.declared.options.Options.{Options}
use Rattle.run_options.specs.declared.orders.FunctionOrder.TheVariants.{Own, Total}
use Rattle.command_line.specs.declared.destinations.Destination.TheVariants.{Pages}
use Rattle.command_line.specs.declared.plans.DiffTable.{DiffTable}
use Rattle.command_line.specs.declared.plans.Form.TheVariants as form
use Rattle.command_line.specs.declared.plans.Plan.{Plan}
use Rattle.command_line.specs.declared.plans.TopTable.{TopTable}
use Rattle.command_line.specs.declared.plans.View.{View}
use Rattle.command_line.specs.declared.units.WeightUnit.TheVariants.{Bytes, Seconds}
use Rattle.command_line.specs.declared.plans.View.TheVariants.{Fold, Graph, Chart, Pairs, PairBoxes, Top, Diff}

-- what `clap` says in `plan`'s clauses it says of this command line
line_is_simple : is_simple_and_free command_line ≡ true
line_is_simple = refl

abbrev defaults : Options
defaults = record { ring = 1024; pick = Preferred; naming = Plain; filter = everything; every = None }

abbrev changes : TopTable → DiffTable
changes table = record { table = table; is_share = false; fail_over = None }

abbrev plan_with : View → Options → List Text → Plan
plan_with view options files = record { view = view; options = options; from = None; omit = []; output = None; pages = None; format = None; files = files; form = form.Text; is_strict = false; is_quiet = false; unit = None }

graph_with_a_width : plan_of (codes "graph" ∷ codes "--width" ∷ codes "10" ∷ codes "x.folded" ∷ [])
    ≡ Some (plan_with (Graph 10) defaults (codes "x.folded" ∷ []))
unfolding clap_on_literals
graph_with_a_width = refl

fold_alone : plan_of (codes "fold" ∷ []) ≡ Some (plan_with Fold defaults [])
unfolding clap_on_literals
fold_alone = refl

chart_alone : plan_of (codes "chart" ∷ []) ≡ Some (plan_with (Chart 1200) defaults [])
unfolding clap_on_literals
chart_alone = refl

abbrev live_with : ℕ → Options → List Text → Plan
live_with width options files = record (plan_with (Graph width) options files) { format = Some Folded; form = form.Live; is_quiet = true }

live_alone : plan_of (codes "live" ∷ []) ≡ Some (live_with 1200 (record defaults { every = Some 1000 }) [])
unfolding clap_on_literals
live_alone = refl

live_of_two_streams : plan_of (codes "live" ∷ codes "a" ∷ codes "--every" ∷ codes "5" ∷ codes "--ring=7" ∷ codes "b.pb" ∷ codes "-o" ∷ codes "x" ∷ codes "--width=9" ∷ [])
    ≡ Some (record (live_with 9 (record defaults { ring = 7; every = Some 5 }) (codes "a" ∷ codes "b.pb" ∷ [])) { output = Some (codes "x") })
unfolding clap_on_literals
live_of_two_streams = refl

live_without_samples_between : fault_of command_line (codes "live" ∷ codes "--every" ∷ codes "0" ∷ []) ≡ kind.ValueValidation ∷ []
unfolding clap_on_literals
live_without_samples_between = refl

no_format_of_live : fault_of command_line (codes "live" ∷ codes "--format" ∷ codes "pprof" ∷ []) ≡ kind.UnknownArgument ∷ []
unfolding clap_on_literals
no_format_of_live = refl

live_on_a_page : plan_of (codes "live" ∷ codes "--page" ∷ codes "x.html" ∷ codes "a" ∷ [])
    ≡ Some (record (live_with 1200 (record defaults { every = Some 1000 }) (codes "a" ∷ [])) { pages = Some (codes "x.html") })
unfolding clap_on_literals
live_on_a_page = refl

live_on_a_page_at_once : plan_of (codes "live" ∷ codes "a.folded" ∷ codes "--page=x.html" ∷ codes "--every" ∷ codes "5" ∷ codes "--width=9" ∷ [])
    ≡ Some (record (live_with 9 (record defaults { every = Some 5 }) (codes "a.folded" ∷ [])) { pages = Some (codes "x.html") })
unfolding clap_on_literals
live_on_a_page_at_once = refl

pages_of_live_in_a_file : destination_of (codes "live" ∷ codes "--page" ∷ codes "x.html" ∷ []) ≡ Pages (codes "x.html")
unfolding clap_on_literals
pages_of_live_in_a_file = refl

page_of_live_and_output : fault_of command_line (codes "live" ∷ codes "--page" ∷ codes "x.html" ∷ codes "-o" ∷ codes "y" ∷ []) ≡ kind.ArgumentConflict ∷ []
unfolding clap_on_literals
page_of_live_and_output = refl

no_plan_of_page_and_output : plan_of (codes "live" ∷ codes "--output=y" ∷ codes "--page=x.html" ∷ []) ≡ None
unfolding clap_on_literals
no_plan_of_page_and_output = refl

page_of_live_without_a_file : fault_of command_line (codes "live" ∷ codes "--page" ∷ []) ≡ kind.InvalidValue ∷ []
unfolding clap_on_literals
page_of_live_without_a_file = refl

nameless_page_of_live : fault_of command_line (codes "live" ∷ codes "--page=" ∷ []) ≡ kind.InvalidValue ∷ []
unfolding clap_on_literals
nameless_page_of_live = refl

two_pages_of_live : fault_of command_line (codes "live" ∷ codes "--page=x" ∷ codes "--page=y" ∷ []) ≡ kind.ArgumentConflict ∷ []
unfolding clap_on_literals
two_pages_of_live = refl

no_other_name_of_the_pages : fault_of command_line (codes "live" ∷ codes "--pages" ∷ codes "x" ∷ []) ≡ kind.UnknownArgument ∷ []
unfolding clap_on_literals
no_other_name_of_the_pages = refl

strict_live : plan_of (codes "live" ∷ codes "--strict" ∷ []) ≡ Some (record (live_with 1200 (record defaults { every = Some 1000 }) []) { is_strict = true })
unfolding clap_on_literals
strict_live = refl

no_filter_of_live : fault_of command_line (codes "live" ∷ codes "--focus" ∷ codes "f" ∷ []) ≡ kind.UnknownArgument ∷ []
unfolding clap_on_literals
no_filter_of_live = refl

options_after_files : plan_of (codes "graph" ∷ codes "a" ∷ codes "--ring=7" ∷ codes "b" ∷ codes "--every" ∷ codes "2" ∷ codes "--lines" ∷ codes "--type" ∷ codes "cpu" ∷ [])
    ≡ Some (plan_with (Graph 1200) (record { ring = 7; pick = Named (codes "cpu"); naming = Lines; filter = everything; every = Some 2 }) (codes "a" ∷ codes "b" ∷ []))
unfolding clap_on_literals
options_after_files = refl

pairs : plan_of (codes "compare" ∷ codes "--width" ∷ codes "10" ∷ codes "b" ∷ codes "a" ∷ []) ≡ Some (plan_with Pairs defaults (codes "b" ∷ codes "a" ∷ []))
unfolding clap_on_literals
pairs = refl

pair_boxes : plan_of (codes "compare" ∷ codes "b" ∷ codes "--boxes" ∷ codes "--width" ∷ codes "10" ∷ codes "a" ∷ [])
    ≡ Some (plan_with (PairBoxes 10) defaults (codes "b" ∷ codes "a" ∷ []))
unfolding clap_on_literals
pair_boxes = refl

top_alone : plan_of (codes "top" ∷ []) ≡ Some (plan_with (Top (record { by = Own; rows = 10; is_json = false; is_exact = false })) defaults [])
unfolding clap_on_literals
top_alone = refl

top_with_options : plan_of (codes "top" ∷ codes "-n" ∷ codes "3" ∷ codes "x" ∷ codes "--by=total" ∷ codes "--json" ∷ codes "--hide" ∷ codes "c" ∷ [])
    ≡ Some (plan_with (Top (record { by = Total; rows = 3; is_json = true; is_exact = false }))
    (record defaults { filter = record { focus = []; hide = codes "c" ∷ [] } }) (codes "x" ∷ []))
unfolding clap_on_literals
top_with_options = refl

top_of_a_number : plan_of (codes "top" ∷ codes "--number=1000000000" ∷ codes "--by" ∷ codes "own" ∷ [])
    ≡ Some (plan_with (Top (record { by = Own; rows = 1000000000; is_json = false; is_exact = false })) defaults [])
unfolding clap_on_literals
top_of_a_number = refl

exact_top_in_seconds : plan_of (codes "top" ∷ codes "--unit" ∷ codes "seconds" ∷ codes "--exact" ∷ [])
    ≡ Some (record (plan_with (Top (record { by = Own; rows = 10; is_json = false; is_exact = true })) defaults []) { unit = Some Seconds })
unfolding clap_on_literals
exact_top_in_seconds = refl

picture_in_a_file : plan_of (codes "graph" ∷ codes "--svg" ∷ codes "-o" ∷ codes "x.svg" ∷ codes "x" ∷ [])
    ≡ Some (record (plan_with (Graph 1200) defaults (codes "x" ∷ [])) { form = form.Picture (record { title = None; is_root_below = false; is_share = false }); output = Some (codes "x.svg") })
unfolding clap_on_literals
picture_in_a_file = refl

abbrev svg_of : List Text → Option Text → Plan
svg_of files output = record (plan_with (Graph 1200) defaults files) { form = form.Picture (record { title = None; is_root_below = false; is_share = false }); output = output }

svg_beside_its_file : plan_of (codes "svg" ∷ codes "cpu.pb" ∷ codes "b" ∷ []) ≡ Some (svg_of (codes "cpu.pb" ∷ codes "b" ∷ []) (Some (codes "cpu.pb.svg")))
unfolding clap_on_literals
svg_beside_its_file = refl

svg_in_a_file : plan_of (codes "svg" ∷ codes "cpu.pb" ∷ codes "-ox" ∷ codes "--root-below" ∷ codes "--title=t" ∷ codes "--width" ∷ codes "9" ∷ [])
    ≡ Some (record (plan_with (Graph 9) defaults (codes "cpu.pb" ∷ [])) { form = form.Picture (record { title = Some (codes "t"); is_root_below = true; is_share = false }); output = Some (codes "x") })
unfolding clap_on_literals
svg_in_a_file = refl

svg_of_the_input : plan_of (codes "svg" ∷ codes "--format" ∷ codes "pprof" ∷ []) ≡ Some (record (svg_of [] None) { format = Some Pprof })
unfolding clap_on_literals
svg_of_the_input = refl

no_snapshots_of_svg : fault_of command_line (codes "svg" ∷ codes "--every" ∷ codes "2" ∷ []) ≡ kind.UnknownArgument ∷ []
unfolding clap_on_literals
no_snapshots_of_svg = refl

types_in_a_file : plan_of (codes "types" ∷ codes "x" ∷ codes "--output=types.json" ∷ [])
    ≡ Some (record (plan_with Fold defaults (codes "x" ∷ [])) { output = Some (codes "types.json"); format = Some Pprof; form = form.Types })
unfolding clap_on_literals
types_in_a_file = refl

no_nameless_file : fault_of command_line (codes "fold" ∷ codes "-o" ∷ codes "" ∷ []) ≡ kind.InvalidValue ∷ []
unfolding clap_on_literals
no_nameless_file = refl

picture_in_bytes : plan_of (codes "graph" ∷ codes "--svg" ∷ codes "--unit=bytes" ∷ [])
    ≡ Some (record (plan_with (Graph 1200) defaults []) { form = form.Picture (record { title = None; is_root_below = false; is_share = false }); unit = Some Bytes })
unfolding clap_on_literals
picture_in_bytes = refl

no_such_unit : fault_of command_line (codes "top" ∷ codes "--unit" ∷ codes "ns" ∷ []) ≡ kind.InvalidValue ∷ []
unfolding clap_on_literals
no_such_unit = refl

no_unit_of_fold : fault_of command_line (codes "fold" ∷ codes "--unit" ∷ codes "bytes" ∷ []) ≡ kind.UnknownArgument ∷ []
unfolding clap_on_literals
no_unit_of_fold = refl

no_functions : fault_of command_line (codes "top" ∷ codes "-n" ∷ codes "0" ∷ []) ≡ kind.ValueValidation ∷ []
unfolding clap_on_literals
no_functions = refl

too_many_functions : fault_of command_line (codes "top" ∷ codes "-n1000000001" ∷ []) ≡ kind.ValueValidation ∷ []
unfolding clap_on_literals
too_many_functions = refl

no_such_order : fault_of command_line (codes "top" ∷ codes "--by" ∷ codes "name" ∷ []) ≡ kind.InvalidValue ∷ []
unfolding clap_on_literals
no_such_order = refl

no_plan_of_such_an_order : plan_of (codes "top" ∷ codes "--by" ∷ codes "name" ∷ []) ≡ None
unfolding clap_on_literals
no_plan_of_such_an_order = refl

no_order_of_fold : fault_of command_line (codes "fold" ∷ codes "--by" ∷ codes "own" ∷ []) ≡ kind.UnknownArgument ∷ []
unfolding clap_on_literals
no_order_of_fold = refl

diff_alone : plan_of (codes "diff" ∷ codes "b" ∷ codes "a" ∷ []) ≡ Some (plan_with (Diff (changes (record { by = Own; rows = 10; is_json = false; is_exact = false }))) defaults (codes "b" ∷ codes "a" ∷ []))
unfolding clap_on_literals
diff_alone = refl

diff_with_options : plan_of (codes "diff" ∷ codes "--json" ∷ codes "b" ∷ codes "-n" ∷ codes "3" ∷ codes "a" ∷ codes "--by" ∷ codes "total" ∷ codes "--focus" ∷ codes "f" ∷ [])
    ≡ Some (plan_with (Diff (changes (record { by = Total; rows = 3; is_json = true; is_exact = false })))
    (record defaults { filter = record { focus = codes "f" ∷ []; hide = [] } }) (codes "b" ∷ codes "a" ∷ []))
unfolding clap_on_literals
diff_with_options = refl

abbrev shares_with_a_limit : ℕ → DiffTable
shares_with_a_limit over = record { table = record { by = Own; rows = 10; is_json = false; is_exact = false }; is_share = true; fail_over = Some over }

diff_of_shares_with_a_limit : plan_of (codes "diff" ∷ codes "--share" ∷ codes "b" ∷ codes "--fail-over" ∷ codes "5" ∷ codes "a" ∷ [])
    ≡ Some (plan_with (Diff (shares_with_a_limit 5)) defaults (codes "b" ∷ codes "a" ∷ []))
unfolding clap_on_literals
diff_of_shares_with_a_limit = refl

no_growth_at_all : plan_of (codes "diff" ∷ codes "b" ∷ codes "a" ∷ codes "--share" ∷ codes "--fail-over=0" ∷ [])
    ≡ Some (plan_with (Diff (shares_with_a_limit 0)) defaults (codes "b" ∷ codes "a" ∷ []))
unfolding clap_on_literals
no_growth_at_all = refl

more_than_the_whole : fault_of command_line (codes "diff" ∷ codes "--fail-over" ∷ codes "101" ∷ codes "b" ∷ codes "a" ∷ []) ≡ kind.ValueValidation ∷ []
unfolding clap_on_literals
more_than_the_whole = refl

no_limit_of_top : fault_of command_line (codes "top" ∷ codes "--fail-over" ∷ codes "5" ∷ []) ≡ kind.UnknownArgument ∷ []
unfolding clap_on_literals
no_limit_of_top = refl

diff_of_one_file : fault_of command_line (codes "diff" ∷ codes "b" ∷ []) ≡ kind.MissingRequiredArgument ∷ []
unfolding clap_on_literals
diff_of_one_file = refl

no_page_of_a_diff : fault_of command_line (codes "diff" ∷ codes "--page" ∷ codes "b" ∷ codes "a" ∷ []) ≡ kind.UnknownArgument ∷ []
unfolding clap_on_literals
no_page_of_a_diff = refl

callers_of_a_function : plan_of (codes "callers" ∷ codes "f g" ∷ [])
    ≡ Some (record (plan_with Fold defaults []) { form = form.Callers (record { name = codes "f g"; rows = 10; is_json = false; is_exact = false }) })
unfolding clap_on_literals
callers_of_a_function = refl

callees_with_options : plan_of (codes "callees" ∷ codes "--json" ∷ codes "f" ∷ codes "-n" ∷ codes "3" ∷ codes "x" ∷ codes "--hide" ∷ codes "c" ∷ codes "y" ∷ [])
    ≡ Some (record (plan_with Fold (record defaults { filter = record { focus = []; hide = codes "c" ∷ [] } }) (codes "x" ∷ codes "y" ∷ []))
    { form = form.Callees (record { name = codes "f"; rows = 3; is_json = true; is_exact = false }) })
unfolding clap_on_literals
callees_with_options = refl

peek_with_options : plan_of (codes "peek" ∷ codes "f" ∷ codes "--exact" ∷ codes "x" ∷ codes "-n3" ∷ [])
    ≡ Some (record (plan_with Fold defaults (codes "x" ∷ [])) { form = form.Peek (record { name = codes "f"; rows = 3; is_json = false; is_exact = true }) })
unfolding clap_on_literals
peek_with_options = refl

callers_of_none : fault_of command_line (codes "callers" ∷ codes "--json" ∷ []) ≡ kind.MissingRequiredArgument ∷ []
unfolding clap_on_literals
callers_of_none = refl

no_order_of_callers : fault_of command_line (codes "callers" ∷ codes "--by" ∷ codes "own" ∷ codes "f" ∷ []) ≡ kind.UnknownArgument ∷ []
unfolding clap_on_literals
no_order_of_callers = refl

graph_from_a_name : plan_of (codes "graph" ∷ codes "--from" ∷ codes "f g" ∷ codes "x" ∷ [])
    ≡ Some (record (plan_with (Graph 1200) defaults (codes "x" ∷ [])) { from = Some (codes "f g") })
unfolding clap_on_literals
graph_from_a_name = refl

diff_from_a_name : plan_of (codes "diff" ∷ codes "b" ∷ codes "a" ∷ codes "--from=f" ∷ [])
    ≡ Some (record (plan_with (Diff (changes (record { by = Own; rows = 10; is_json = false; is_exact = false }))) defaults (codes "b" ∷ codes "a" ∷ [])) { from = Some (codes "f") })
unfolding clap_on_literals
diff_from_a_name = refl

from_two_names : fault_of command_line (codes "fold" ∷ codes "--from" ∷ codes "f" ∷ codes "--from" ∷ codes "g" ∷ []) ≡ kind.ArgumentConflict ∷ []
unfolding clap_on_literals
from_two_names = refl

from_no_name : fault_of command_line (codes "top" ∷ codes "--from=" ∷ []) ≡ kind.InvalidValue ∷ []
unfolding clap_on_literals
from_no_name = refl

fold_without_names : plan_of (codes "fold" ∷ codes "--omit" ∷ codes "f g" ∷ codes "x" ∷ codes "--omit=h" ∷ [])
    ≡ Some (record (plan_with Fold defaults (codes "x" ∷ [])) { omit = codes "f g" ∷ codes "h" ∷ [] })
unfolding clap_on_literals
fold_without_names = refl

compared_without_a_name : plan_of (codes "compare" ∷ codes "b" ∷ codes "--from" ∷ codes "f" ∷ codes "a" ∷ codes "--omit" ∷ codes "f" ∷ [])
    ≡ Some (record (plan_with Pairs defaults (codes "b" ∷ codes "a" ∷ [])) { from = Some (codes "f"); omit = codes "f" ∷ [] })
unfolding clap_on_literals
compared_without_a_name = refl

omits_no_name : fault_of command_line (codes "top" ∷ codes "--omit=" ∷ []) ≡ kind.InvalidValue ∷ []
unfolding clap_on_literals
omits_no_name = refl

no_omit_of_live : fault_of command_line (codes "live" ∷ codes "--omit" ∷ codes "f" ∷ []) ≡ kind.UnknownArgument ∷ []
unfolding clap_on_literals
no_omit_of_live = refl

no_from_of_types : fault_of command_line (codes "types" ∷ codes "--from" ∷ codes "f" ∷ codes "x" ∷ []) ≡ kind.UnknownArgument ∷ []
unfolding clap_on_literals
no_from_of_types = refl

strict_fold : plan_of (codes "fold" ∷ codes "--strict" ∷ []) ≡ Some (record (plan_with Fold defaults []) { is_strict = true })
unfolding clap_on_literals
strict_fold = refl

strict_of_two : fault_of command_line (codes "fold" ∷ codes "--strict" ∷ codes "--strict" ∷ []) ≡ kind.ArgumentConflict ∷ []
unfolding clap_on_literals
strict_of_two = refl

no_strict_of_types : fault_of command_line (codes "types" ∷ codes "--strict" ∷ codes "x" ∷ []) ≡ kind.UnknownArgument ∷ []
unfolding clap_on_literals
no_strict_of_types = refl

quiet_fold : plan_of (codes "fold" ∷ codes "--quiet" ∷ []) ≡ Some (record (plan_with Fold defaults []) { is_quiet = true })
unfolding clap_on_literals
quiet_fold = refl

page_of_a_graph : plan_of (codes "graph" ∷ codes "--page" ∷ codes "x" ∷ [])
    ≡ Some (record (plan_with (Graph 1200) defaults (codes "x" ∷ [])) { form = form.Page (record { title = None; least = None; is_root_below = false; is_share = false }) })
unfolding clap_on_literals
page_of_a_graph = refl

page_with_a_title : plan_of (codes "chart" ∷ codes "--title" ∷ codes "t u" ∷ codes "--page" ∷ codes "--least=0" ∷ codes "--width=9" ∷ [])
    ≡ Some (record (plan_with (Chart 9) defaults []) { form = form.Page (record { title = Some (codes "t u"); least = Some 0; is_root_below = false; is_share = false }) })
unfolding clap_on_literals
page_with_a_title = refl

-- the page of a comparison shows boxes, said or not
page_of_a_comparison : plan_of (codes "compare" ∷ codes "--page" ∷ codes "a" ∷ codes "b" ∷ [])
    ≡ plan_of (codes "compare" ∷ codes "--page" ∷ codes "--boxes" ∷ codes "a" ∷ codes "b" ∷ [])
unfolding clap_on_literals
page_of_a_comparison = refl

page_with_the_root_below : plan_of (codes "graph" ∷ codes "--root-below" ∷ codes "--page" ∷ [])
    ≡ Some (record (plan_with (Graph 1200) defaults []) { form = form.Page (record { title = None; least = None; is_root_below = true; is_share = false }) })
unfolding clap_on_literals
page_with_the_root_below = refl

picture_of_a_graph : plan_of (codes "graph" ∷ codes "--svg" ∷ codes "--width" ∷ codes "800" ∷ codes "x" ∷ [])
    ≡ Some (record (plan_with (Graph 800) defaults (codes "x" ∷ [])) { form = form.Picture (record { title = None; is_root_below = false; is_share = false }) })
unfolding clap_on_literals
picture_of_a_graph = refl

picture_with_a_title : plan_of (codes "chart" ∷ codes "--title" ∷ codes "t u" ∷ codes "--root-below" ∷ codes "--svg" ∷ [])
    ≡ Some (record (plan_with (Chart 1200) defaults []) { form = form.Picture (record { title = Some (codes "t u"); is_root_below = true; is_share = false }) })
unfolding clap_on_literals
picture_with_a_title = refl

-- the picture of a comparison shows boxes, said or not
picture_of_a_comparison : plan_of (codes "compare" ∷ codes "a" ∷ codes "--svg" ∷ codes "b" ∷ [])
    ≡ Some (record (plan_with (PairBoxes 1200) defaults (codes "a" ∷ codes "b" ∷ [])) { form = form.Picture (record { title = None; is_root_below = false; is_share = false }) })
unfolding clap_on_literals
picture_of_a_comparison = refl

picture_of_shares : plan_of (codes "compare" ∷ codes "--share" ∷ codes "--svg" ∷ codes "a" ∷ codes "b" ∷ [])
    ≡ Some (record (plan_with (PairBoxes 1200) defaults (codes "a" ∷ codes "b" ∷ [])) { form = form.Picture (record { title = None; is_root_below = false; is_share = true }) })
unfolding clap_on_literals
picture_of_shares = refl

page_of_shares : plan_of (codes "compare" ∷ codes "a" ∷ codes "--page" ∷ codes "--least" ∷ codes "2" ∷ codes "b" ∷ codes "--share" ∷ [])
    ≡ Some (record (plan_with (PairBoxes 1200) defaults (codes "a" ∷ codes "b" ∷ [])) { form = form.Page (record { title = None; least = Some 2; is_root_below = false; is_share = true }) })
unfolding clap_on_literals
page_of_shares = refl

-- lines and boxes have the weights themselves
no_shares_of_lines : fault_of command_line (codes "compare" ∷ codes "--share" ∷ codes "a" ∷ codes "b" ∷ []) ≡ kind.MissingRequiredArgument ∷ []
unfolding clap_on_literals
no_shares_of_lines = refl

no_shares_of_boxes : fault_of command_line (codes "compare" ∷ codes "--boxes" ∷ codes "a" ∷ codes "b" ∷ codes "--share" ∷ []) ≡ kind.MissingRequiredArgument ∷ []
unfolding clap_on_literals
no_shares_of_boxes = refl

no_shares_of_a_graph : fault_of command_line (codes "graph" ∷ codes "--svg" ∷ codes "--share" ∷ []) ≡ kind.UnknownArgument ∷ []
unfolding clap_on_literals
no_shares_of_a_graph = refl

picture_and_page : fault_of command_line (codes "graph" ∷ codes "--svg" ∷ codes "--page" ∷ []) ≡ kind.ArgumentConflict ∷ []
unfolding clap_on_literals
picture_and_page = refl

picture_and_snapshots : fault_of command_line (codes "graph" ∷ codes "--every" ∷ codes "5" ∷ codes "--svg" ∷ []) ≡ kind.ArgumentConflict ∷ []
unfolding clap_on_literals
picture_and_snapshots = refl

picture_and_least : plan_of (codes "compare" ∷ codes "a" ∷ codes "--least=0" ∷ codes "--svg" ∷ codes "b" ∷ []) ≡ None
unfolding clap_on_literals
picture_and_least = refl

picture_and_json : fault_of command_line (codes "graph" ∷ codes "--svg" ∷ codes "--json" ∷ []) ≡ kind.UnknownArgument ∷ []
unfolding clap_on_literals
picture_and_json = refl

root_below_alone : fault_of command_line (codes "graph" ∷ codes "--root-below" ∷ []) ≡ kind.MissingRequiredArgument ∷ []
unfolding clap_on_literals
root_below_alone = refl

no_picture_of_fold : fault_of command_line (codes "fold" ∷ codes "--svg" ∷ []) ≡ kind.UnknownArgument ∷ []
unfolding clap_on_literals
no_picture_of_fold = refl

title_without_a_page : fault_of command_line (codes "graph" ∷ codes "--title" ∷ codes "t" ∷ []) ≡ kind.MissingRequiredArgument ∷ []
unfolding clap_on_literals
title_without_a_page = refl

least_without_a_page : plan_of (codes "compare" ∷ codes "a" ∷ codes "--least" ∷ codes "5" ∷ codes "b" ∷ []) ≡ None
unfolding clap_on_literals
least_without_a_page = refl

empty_title : fault_of command_line (codes "graph" ∷ codes "--page" ∷ codes "--title=" ∷ []) ≡ kind.InvalidValue ∷ []
unfolding clap_on_literals
empty_title = refl

no_page_of_fold : fault_of command_line (codes "fold" ∷ codes "--page" ∷ []) ≡ kind.UnknownArgument ∷ []
unfolding clap_on_literals
no_page_of_fold = refl

-- `types` reads a profile, whatever its name
types_of_a_file : plan_of (codes "types" ∷ codes "x.folded" ∷ [])
    ≡ Some (record (plan_with Fold defaults (codes "x.folded" ∷ [])) { format = Some Pprof; form = form.Types })
unfolding clap_on_literals
types_of_a_file = refl

types_of_no_file : fault_of command_line (codes "types" ∷ []) ≡ kind.MissingRequiredArgument ∷ []
unfolding clap_on_literals
types_of_no_file = refl

types_of_two_files : fault_of command_line (codes "types" ∷ codes "a" ∷ codes "b" ∷ []) ≡ kind.UnknownArgument ∷ []
unfolding clap_on_literals
types_of_two_files = refl

files_of_odd_names : plan_of (codes "fold" ∷ codes "-" ∷ codes "help" ∷ codes "--" ∷ codes "--ring" ∷ [])
    ≡ Some (plan_with Fold defaults (codes "-" ∷ codes "help" ∷ codes "--ring" ∷ []))
unfolding clap_on_literals
files_of_odd_names = refl

-- each use of a filter counts, in the order of the words
filtered : plan_of (codes "fold" ∷ codes "--focus" ∷ codes "b" ∷ codes "--hide=c" ∷ codes "--focus=a" ∷ codes "x" ∷ [])
    ≡ Some (plan_with Fold (record defaults { filter = record { focus = codes "b" ∷ codes "a" ∷ []; hide = codes "c" ∷ [] } }) (codes "x" ∷ []))
unfolding clap_on_literals
filtered = refl

filtered_pairs : plan_of (codes "compare" ∷ codes "a" ∷ codes "--hide" ∷ codes "c" ∷ codes "b" ∷ [])
    ≡ Some (plan_with Pairs (record defaults { filter = record { focus = []; hide = codes "c" ∷ [] } }) (codes "a" ∷ codes "b" ∷ []))
unfolding clap_on_literals
filtered_pairs = refl

empty_focus : fault_of command_line (codes "graph" ∷ codes "--focus=" ∷ []) ≡ kind.InvalidValue ∷ []
unfolding clap_on_literals
empty_focus = refl

-- a format is that of all sources, whatever their names
profile_of_the_input : plan_of (codes "graph" ∷ codes "--format" ∷ codes "pprof" ∷ [])
    ≡ Some (record (plan_with (Graph 1200) defaults []) { format = Some Pprof })
unfolding clap_on_literals
profile_of_the_input = refl

folded_profiles : plan_of (codes "compare" ∷ codes "a.pb" ∷ codes "--format=folded" ∷ codes "b.pb" ∷ [])
    ≡ Some (record (plan_with Pairs defaults (codes "a.pb" ∷ codes "b.pb" ∷ [])) { format = Some Folded })
unfolding clap_on_literals
folded_profiles = refl

no_such_format : fault_of command_line (codes "fold" ∷ codes "--format" ∷ codes "svg" ∷ []) ≡ kind.InvalidValue ∷ []
unfolding clap_on_literals
no_such_format = refl

no_plan_of_such_a_format : plan_of (codes "fold" ∷ codes "--format" ∷ codes "svg" ∷ []) ≡ None
unfolding clap_on_literals
no_plan_of_such_a_format = refl

two_formats : fault_of command_line (codes "fold" ∷ codes "--format=folded" ∷ codes "--format=pprof" ∷ []) ≡ kind.ArgumentConflict ∷ []
unfolding clap_on_literals
two_formats = refl

taken : takes command_line (codes "graph" ∷ codes "--width" ∷ codes "65536" ∷ codes "--every" ∷ codes "1000000000" ∷ []) ≡ true
unfolding clap_on_literals
taken = refl

width_zero : fault_of command_line (codes "graph" ∷ codes "--width" ∷ codes "0" ∷ []) ≡ kind.ValueValidation ∷ []
unfolding clap_on_literals
width_zero = refl

ring_too_large : fault_of command_line (codes "fold" ∷ codes "--ring" ∷ codes "65537" ∷ []) ≡ kind.ValueValidation ∷ []
unfolding clap_on_literals
ring_too_large = refl

snapshots_too_far_apart : fault_of command_line (codes "graph" ∷ codes "--every" ∷ codes "1000000001" ∷ []) ≡ kind.ValueValidation ∷ []
unfolding clap_on_literals
snapshots_too_far_apart = refl

no_snapshots_of_fold : fault_of command_line (codes "fold" ∷ codes "--every" ∷ codes "5" ∷ []) ≡ kind.UnknownArgument ∷ []
unfolding clap_on_literals
no_snapshots_of_fold = refl

nothing_to_compare : fault_of command_line (codes "compare" ∷ codes "a" ∷ []) ≡ kind.MissingRequiredArgument ∷ []
unfolding clap_on_literals
nothing_to_compare = refl

too_much_to_compare : fault_of command_line (codes "compare" ∷ codes "a" ∷ codes "b" ∷ codes "c" ∷ []) ≡ kind.UnknownArgument ∷ []
unfolding clap_on_literals
too_much_to_compare = refl

no_command : fault_of command_line [] ≡ kind.MissingSubcommand ∷ []
unfolding clap_on_literals
no_command = refl

fold_help : fault_of command_line (codes "fold" ∷ codes "--help" ∷ []) ≡ kind.DisplayHelp ∷ []
unfolding clap_on_literals refuses_before_help
fold_help = refl

help_alone : fault_of command_line (codes "--help" ∷ []) ≡ kind.DisplayHelp ∷ []
unfolding clap_on_literals refuses_before_help
help_alone = refl

version_alone : fault_of command_line (codes "--version" ∷ []) ≡ kind.DisplayVersion ∷ []
unfolding clap_on_literals
version_alone = refl

no_version_of_fold : fault_of command_line (codes "fold" ∷ codes "--version" ∷ []) ≡ kind.UnknownArgument ∷ []
unfolding clap_on_literals
no_version_of_fold = refl

cpu_prof : format_at (codes "cpu.prof") ≡ Pprof
cpu_prof = refl

x_folded : format_at (codes "x.folded") ≡ Folded
x_folded = refl

-- what is refused before a wish for help is told, and what stands behind it is not looked at
unknown_format_before_help : fault_of command_line (codes "graph" ∷ codes "--format" ∷ codes "svg" ∷ codes "--help" ∷ []) ≡ kind.InvalidValue ∷ []
unfolding clap_on_literals refuses_before_help
unknown_format_before_help = refl

unknown_order_before_help : fault_of command_line (codes "top" ∷ codes "--by=name" ∷ codes "-h" ∷ []) ≡ kind.InvalidValue ∷ []
unfolding clap_on_literals refuses_before_help
unknown_order_before_help = refl

unknown_format_behind_help : fault_of command_line (codes "graph" ∷ codes "--help" ∷ codes "--format" ∷ codes "svg" ∷ []) ≡ kind.DisplayHelp ∷ []
unfolding clap_on_literals refuses_before_help
unknown_format_behind_help = refl

known_format_before_help : fault_of command_line (codes "graph" ∷ codes "--format" ∷ codes "pprof" ∷ codes "--help" ∷ []) ≡ kind.DisplayHelp ∷ []
unfolding clap_on_literals refuses_before_help
known_format_before_help = refl
