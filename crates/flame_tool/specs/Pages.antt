-- The page and the picture that a plan asks for, of the lists of its samples, and the text of a plan whatever its form.
use Rattle.std.specs.Prelude.{ℕ, List, [], ◌∷◌, codes, length, map, Option, None, slice_get, unwrap_or, if◌then◌else◌}
use Rattle.std.specs.Option.{option_map_or}
use Rattle.std.specs.Str.{bytes_eq}
use Rattle.std.specs.List.{join_by, range_with_len}
use Rattle.sample_tables.specs.declared.samples.Sample.{Sample}
use Rattle.stack_core.specs.Interleaving.{list_of}
use Rattle.merged_stacks.specs.Timeline.{total_weight}
use Rattle.merging.specs.Sums.{all_samples}
use Rattle.function_sums.specs.declared.call_sides.CallSide.{CallSide}
use Rattle.function_sums.specs.declared.call_sides.CallSide.TheVariants.{Callers, Callees}
use Rattle.command_line.specs.declared.plans.CallTable.{CallTable}
use Rattle.command_line.specs.declared.plans.Form.{Form}
use Rattle.command_line.specs.declared.plans.Form.TheVariants as form
use Rattle.command_line.specs.declared.plans.PageForm.{PageForm}
use Rattle.command_line.specs.declared.plans.PictureForm.{PictureForm}
use Rattle.command_line.specs.declared.plans.Plan.{Plan}
use Rattle.command_line.specs.declared.plans.View.{View}
use Rattle.command_line.specs.declared.plans.View.TheVariants.{Fold, Graph, Chart, Pairs, PairBoxes, Top, Diff}
use Rattle.command_line.specs.Units.{unit_name}
use Rattle.command_line.specs.declared.units.WeightUnit.{WeightUnit}
use Rattle.function_sums.specs.Told.{Told}
use Rattle.page_texts.specs.Document.{document_text}
use Rattle.page_texts.specs.Page.{PageSource}
use Rattle.source_views.specs.Pages.{PageHeading, chart_page, comparison_page, snapshots_page}
use Rattle.source_views.specs.Names.{source_name}
use Rattle.profile_messages.specs.declared.types.SampleType.{SampleType}
use Rattle.source_lists.specs.Types.{type_or_none}
use Rattle.flame_tool.specs.Facts.{told_whole}
use Rattle.flame_tool.specs.Pictures.{PictureFrame, common_unit, framed_text, types_with_weight, units_with_weight}
use Rattle.flame_tool.specs.declared.run_facts.RunFacts.{RunFacts}
use Rattle.source_views.specs.Texts.{calls_text, peek_text, told_text, view_text}

-- the unit of a source, or that which the words give to weights without one
abbrev pub unit_or : Option WeightUnit → List ℕ → List ℕ
unit_or asked unit = if bytes_eq unit [] then option_map_or unit_name asked [] else unit

-- a source of a page, with the sample type of its weights
abbrev pub source_at : Option WeightUnit → List (List ℕ) → List SampleType → List (List Sample) → ℕ → PageSource
source_at asked files types lists at = record {
  name = source_name files at;
  type_name = (type_or_none (slice_get types at)).name;
  unit = unit_or asked (type_or_none (slice_get types at)).unit;
  weight = total_weight (list_of lists at);
}

-- a source for each list, in order
abbrev pub sources_of : Option WeightUnit → List (List ℕ) → List SampleType → List (List Sample) → List PageSource
sources_of asked files types lists = map (source_at asked files types lists) (range_with_len 0 (length lists))

-- those of a plan
abbrev pub asked_sources : Plan → RunFacts → List (List Sample) → List PageSource
asked_sources plan facts lists = sources_of plan.unit plan.files facts.types lists

-- what a page or a picture is called where the words say nothing
abbrev pub default_title : List (List ℕ) → List ℕ
default_title [] = codes "standard input"
default_title (file ∷ files) = join_by (λ name. name) (codes ", ") (file ∷ files)

abbrev pub asked_heading : Plan → RunFacts → PageForm → List (List Sample) → PageHeading
asked_heading plan facts page lists = record {
  title = unwrap_or page.title (default_title plan.files);
  sources = asked_sources plan facts lists;
  least = page.least;
  whole = facts.whole;
  is_root_below = page.is_root_below;
  is_share = page.is_share;
}

-- the page of a view with boxes, and of a graph with a drawing for each snapshot; the others have none, and no words ask for a page
-- of them
abbrev pub headed_text : PageHeading → View → List (List Sample) → List ℕ → Option ℕ → List ℕ
headed_text heading Fold lists order every = view_text Fold lists [] None
headed_text heading (Graph width) lists order every = document_text (snapshots_page heading lists order every)
headed_text heading (Chart width) lists order every = document_text (chart_page heading lists)
headed_text heading Pairs lists order every = view_text Pairs lists [] None
headed_text heading (PairBoxes width) lists order every = document_text (comparison_page heading (list_of lists 0) (list_of lists 1))
headed_text heading (Top top) lists order every = view_text (Top top) lists [] None
headed_text heading (Diff table) lists order every = view_text (Diff table) lists [] None

abbrev pub page_text : Plan → RunFacts → PageForm → List (List Sample) → List ℕ → Option ℕ → List ℕ
page_text plan facts page lists order every = headed_text (asked_heading plan facts page lists) plan.view lists order every

-- a picture has the one unit of its sources, as a page says it
abbrev pub asked_frame : Plan → RunFacts → PictureForm → List (List Sample) → PictureFrame
asked_frame plan facts picture lists = record {
  title = unwrap_or picture.title (default_title plan.files);
  unit = common_unit (units_with_weight (asked_sources plan facts lists));
  is_root_below = picture.is_root_below;
  is_share = picture.is_share;
}

abbrev pub picture_text : Plan → RunFacts → PictureForm → List (List Sample) → List ℕ
picture_text plan facts picture lists = framed_text (asked_frame plan facts picture lists) plan.view lists

-- what the texts of functions tell of the samples
abbrev pub told_in : Plan → RunFacts → List (List Sample) → Told
told_in plan facts lists = record {
  whole = told_whole plan facts;
  type_name = common_unit (types_with_weight (asked_sources plan facts lists));
  unit = common_unit (units_with_weight (asked_sources plan facts lists));
}

-- the text of a plan's view
abbrev pub asked_text : Plan → RunFacts → List (List Sample) → List ℕ → Option ℕ → List ℕ
asked_text plan facts lists order every = told_text (told_in plan facts lists) plan.view lists order every

-- the text of a function and its callers, or its callees
abbrev pub called_text : CallSide → CallTable → Plan → RunFacts → List (List Sample) → List ℕ
called_text side table plan facts lists = calls_text (told_in plan facts lists) side table (all_samples lists)

-- and that with both
abbrev pub peeked_text : CallTable → Plan → RunFacts → List (List Sample) → List ℕ
peeked_text table plan facts lists = peek_text (told_in plan facts lists) table (all_samples lists)

abbrev pub text_in : Form → Plan → RunFacts → List (List Sample) → List ℕ → Option ℕ → List ℕ
text_in form.Text plan facts lists order every = asked_text plan facts lists order every
text_in (form.Page page) plan facts lists order every = page_text plan facts page lists order every
text_in (form.Picture picture) plan facts lists order every = picture_text plan facts picture lists
text_in form.Types plan facts lists order every = asked_text plan facts lists order every
text_in form.Live plan facts lists order every = asked_text plan facts lists order every
text_in (form.Callers table) plan facts lists order every = called_text Callers table plan facts lists
text_in (form.Callees table) plan facts lists order every = called_text Callees table plan facts lists
text_in (form.Peek table) plan facts lists order every = peeked_text table plan facts lists

-- the text that a plan asks for: its page, its picture, the calls of a function, or the text of its view
abbrev pub shown_text : Plan → RunFacts → List (List Sample) → List ℕ → Option ℕ → List ℕ
shown_text plan facts lists order every = text_in plan.form plan facts lists order every
