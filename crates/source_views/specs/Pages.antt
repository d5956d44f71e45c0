-- The pages of the views: what they draw of the lists of samples.
use Rattle.std.specs.Prelude.{ℕ, Bool, ◌/◌, List, [], ◌∷◌, ◌++◌, length, map, codes, true, false, Option, Some, None}
use Rattle.sample_tables.specs.declared.samples.Sample.{Sample}
use Rattle.merged_stacks.specs.Timeline.{timeline, total_weight}
use Rattle.merging.specs.Snapshots.{snapshot_places, snapshot_samples}
use Rattle.merging.specs.Sums.{all_samples}
use Rattle.flame_layout.specs.declared.boxes.SpanBox.{SpanBox}
use Rattle.flame_layout.specs.Chart.{chart_of}
use Rattle.flame_layout.specs.Graph.{graph_of}
use Rattle.flame_layout.specs.Comparison.{compared_boxes_of}
use Rattle.source_views.specs.Texts.{all_counts}
use Rattle.page_texts.specs.Page.{Moment, PageDrawing, PageSource, Page}
use Rattle.page_texts.specs.Drawn.{source_of}
use Rattle.stack_core.specs.Interleaving.{list_of}
use Rattle.source_views.specs.declared.headings.Heading.{Heading}
use Rattle.source_views.specs.declared.page_data.PageView.{PageView}
use Rattle.source_views.specs.declared.page_data.PageView.TheVariants.{Graph, Chart, Compare}

-- the least weight of a box that is kept; where none is given, that of a pixel in a drawing of 1,200,000 pixels
abbrev pub least_of : Option ℕ → ℕ → ℕ
least_of None total = total / 1200000
least_of (Some least) total = least

-- what a page says beside its drawings, the least weight of a box that it keeps, if one is given, the weight of
-- all samples of all sources, also of those that a filter leaves out, and whether it opens with the root below, and by shares
pub record PageHeading : Type 0 where
  pub title : List ℕ
  pub sources : List PageSource
  pub least : Option ℕ
  pub whole : ℕ
  pub is_root_below : Bool
  pub is_share : Bool

abbrev pub heading_of : Heading → PageHeading
heading_of heading = record {
  title = heading.title.now;
  sources = map source_of heading.sources.now;
  least = heading.least;
  whole = heading.whole;
  is_root_below = heading.is_root_below;
  is_share = heading.is_share;
}

abbrev pub page_with : PageHeading → List ℕ → List PageDrawing → Page
page_with heading view drawings = record {
  drawings = drawings;
  sources = heading.sources;
  title = heading.title;
  view = view;
  whole = heading.whole;
  is_root_below = heading.is_root_below;
  is_share = heading.is_share;
  has_more = false;
}

-- these boxes, of samples with this total, and in a snapshot its moment
abbrev pub plain_drawing : Option ℕ → Option Moment → ℕ → List SpanBox → PageDrawing
plain_drawing least moment total boxes = record {
  moment = moment;
  is_compared = false;
  least = least_of least total;
  total = total;
  boxes = map (λ span. record { span = span; other = 0 }) boxes;
}

-- a page of these boxes alone
abbrev pub plain_page : PageHeading → List ℕ → ℕ → List SpanBox → Page
plain_page heading view total boxes = page_with heading view (plain_drawing heading.least None total boxes ∷ [])

-- the flame graph of all samples
abbrev pub graph_page : PageHeading → List (List Sample) → Page
graph_page heading lists = plain_page heading (codes "graph") (total_weight (all_samples lists)) (graph_of (all_samples lists))

-- what a page of samples that weigh so much says beside its drawing while they are still coming
abbrev pub growing_heading : ℕ → PageHeading
growing_heading whole = record {
  title = codes "flamecollect live";
  sources = [];
  least = None;
  whole = whole;
  is_root_below = false;
  is_share = false;
}

-- the flame graph of samples, of which more may be to come
abbrev pub growing_page : Bool → List Sample → Page
growing_page has_more samples =
    record (plain_page (growing_heading (total_weight samples)) (codes "graph") (total_weight samples) (graph_of samples)) { has_more = has_more }

-- the flame graph of each source's first samples, as many as stand among the first m of the order
abbrev pub snapshot_drawing : Option ℕ → List (List Sample) → List ℕ → ℕ → PageDrawing
snapshot_drawing least lists order m =
    let samples = snapshot_samples m order lists in
    plain_drawing least (Some (record { at = m; counts = all_counts m order lists })) (total_weight samples) (graph_of samples)

-- a drawing for each snapshot, and then the flame graph of all samples
abbrev pub snapshots_page : PageHeading → List (List Sample) → List ℕ → Option ℕ → Page
snapshots_page heading lists order every =
    page_with heading (codes "graph")
    (map (snapshot_drawing heading.least lists order) (snapshot_places every (length order))
    ++ plain_drawing heading.least None (total_weight (all_samples lists)) (graph_of (all_samples lists)) ∷ [])

-- the flame chart of the lists one after another
abbrev pub chart_page : PageHeading → List (List Sample) → Page
chart_page heading lists = plain_page heading (codes "chart") (total_weight (timeline lists)) (chart_of (timeline lists))

-- the flame graph of a profile, with the weights of the other
abbrev pub compared_drawing : Option ℕ → List Sample → List Sample → PageDrawing
compared_drawing least other samples = record {
  moment = None;
  is_compared = true;
  least = least_of least (total_weight samples);
  total = total_weight samples;
  boxes = map (λ compared. record { span = compared.span; other = compared.before }) (compared_boxes_of other samples);
}

-- the flame graph of the profile before, and then that of the profile after
abbrev pub comparison_page : PageHeading → List Sample → List Sample → Page
comparison_page heading before after =
    page_with heading (codes "compare") (compared_drawing heading.least after before ∷ compared_drawing heading.least before after ∷ [])

-- the page of a view of what was collected; a comparison is of the first two lists
abbrev pub view_page : PageHeading → PageView → List (List Sample) → List ℕ → Option ℕ → Page
view_page heading Graph lists order every = snapshots_page heading lists order every
view_page heading Chart lists order every = chart_page heading lists
view_page heading Compare lists order every = comparison_page heading (list_of lists 0) (list_of lists 1)
