-- What the structs of the code stand for.
use Rattle.std.specs.Prelude.{ℕ, List, Option, None, Some, map, option_map}
use Rattle.flame_layout.specs.Boxes.{SeenBox}
use Rattle.page_texts.specs.Page.{PageBox, PageDrawing, PageSource, Moment as PageMoment, Page as PageValue}
use Rattle.page_texts.specs.declared.drawings.Drawing.{Drawing}
use Rattle.page_texts.specs.declared.drawings.Moment.{Moment}
use Rattle.page_texts.specs.declared.pages.Page.{Page}
use Rattle.page_texts.specs.declared.pages.Source.{Source}

-- the weight of a path in the other profile, and 0 where there is none
abbrev pub other_of : Option ℕ → ℕ
other_of None = 0
other_of (Some before) = before

abbrev pub page_box : SeenBox → PageBox
page_box box = record { span = box.span; other = other_of box.before }

abbrev pub moment_of : Moment → PageMoment
moment_of moment = record { at = moment.at; counts = moment.counts.now }

-- a drawing whose list has these boxes
abbrev pub drawing_of : {L : Type 0} → (L → List SeenBox) → Drawing L → PageDrawing
drawing_of boxes drawing = record {
  moment = option_map moment_of drawing.moment;
  is_compared = drawing.is_compared;
  least = drawing.least;
  total = drawing.total;
  boxes = map page_box (boxes drawing.boxes);
}

abbrev pub source_of : Source → PageSource
source_of source = record { name = source.name.now; type_name = source.type_name.now; unit = source.unit.now; weight = source.weight }

-- a page whose lists have these boxes
abbrev pub page_of : {L : Type 0} → (L → List SeenBox) → Page L → PageValue
page_of boxes page = record {
  drawings = map (drawing_of boxes) page.drawings.now;
  sources = map source_of page.sources.now;
  title = page.title.now;
  view = page.view.now;
  whole = page.whole;
  is_root_below = page.is_root_below;
  is_share = page.is_share;
  has_more = page.has_more;
}
