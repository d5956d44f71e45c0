-- The picture of a view with boxes, of the lists of its samples.
use Rattle.std.specs.Prelude.{ℕ, Bool, List, [], ◌∷◌, filter, map, nat_lt, None, Some, if◌then◌else◌}
use Rattle.std.specs.List.{list_all}
use Rattle.std.specs.Str.{bytes_eq}
use Rattle.sample_tables.specs.declared.samples.Sample.{Sample}
use Rattle.stack_core.specs.Interleaving.{list_of}
use Rattle.merged_stacks.specs.Timeline.{timeline, total_weight}
use Rattle.merging.specs.Sums.{all_samples}
use Rattle.flame_layout.specs.Chart.{chart_of}
use Rattle.flame_layout.specs.Comparison.{compared_boxes_of}
use Rattle.flame_layout.specs.Graph.{graph_of}
use Rattle.command_line.specs.declared.plans.View.{View}
use Rattle.command_line.specs.declared.plans.View.TheVariants.{Fold, Graph, Chart, Pairs, PairBoxes, Top, Diff}
use Rattle.page_texts.specs.Page.{PageSource}
use Rattle.source_views.specs.Texts.{view_text}
use Rattle.svg_texts.specs.Svg.{Picture, compared_svg, plain_svg}

-- what is said of each source that has weight: its unit, or its sample type
abbrev pub said_with_weight : (PageSource → List ℕ) → List PageSource → List (List ℕ)
said_with_weight said sources = map said (filter (λ source. nat_lt 0 source.weight) sources)

abbrev pub units_with_weight : List PageSource → List (List ℕ)
units_with_weight sources = said_with_weight (λ source. source.unit) sources

abbrev pub types_with_weight : List PageSource → List (List ℕ)
types_with_weight sources = said_with_weight (λ source. source.type_name) sources

-- the one that all of them have; where there is no such unit, weights are plain numbers
abbrev pub common_unit : List (List ℕ) → List ℕ
common_unit [] = []
common_unit (unit ∷ units) = if list_all (bytes_eq unit) units then unit else []

-- what stands round the boxes of a picture, whatever its view
pub record PictureFrame : Type 0 where
  pub title : List ℕ
  pub unit : List ℕ
  pub is_root_below : Bool
  pub is_share : Bool

abbrev pub picture_in : PictureFrame → ℕ → ℕ → Picture
picture_in frame width total = record {
  title = frame.title;
  unit = frame.unit;
  total = total;
  total_before = None;
  width = width;
  root_below = frame.is_root_below;
}

-- that of a comparison, where both profiles weigh so much
abbrev pub compared_in : PictureFrame → ℕ → ℕ → ℕ → Picture
compared_in frame width before after = record (picture_in frame width after) {
  total_before = if frame.is_share then Some before else None;
}

-- the picture of the graph, of the chart, and of the comparison of the first two lists; other views have none, and no words ask for one
abbrev pub framed_text : PictureFrame → View → List (List Sample) → List ℕ
framed_text frame Fold lists = view_text Fold lists [] None
framed_text frame (Graph width) lists =
    plain_svg (picture_in frame width (total_weight (all_samples lists))) (graph_of (all_samples lists))
framed_text frame (Chart width) lists =
    plain_svg (picture_in frame width (total_weight (timeline lists))) (chart_of (timeline lists))
framed_text frame Pairs lists = view_text Pairs lists [] None
framed_text frame (PairBoxes width) lists =
    compared_svg (compared_in frame width (total_weight (list_of lists 0)) (total_weight (list_of lists 1))) (compared_boxes_of (list_of lists 0) (list_of lists 1))
framed_text frame (Top top) lists = view_text (Top top) lists [] None
framed_text frame (Diff table) lists = view_text (Diff table) lists [] None
