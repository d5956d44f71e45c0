-- The data of a page: one JSON value, whose keys are in byte order, and its text.
use Rattle.std.specs.Prelude.{ℕ, Bool, true, false, List, [], ◌∷◌, length, map, filter, sum_by, nat_le, not, Option, Some, None, codes, if◌then◌else◌}
use Rattle.std.specs.List.{flat_map, position_or_len}
use Rattle.std.specs.Str.{bytes_eq}
use Rattle.serde_json.specs.Data.{Data, boolean, string, object, Members, no_members, member}
use Rattle.stack_core.specs.NamesInOrder.{with_stack}
use Rattle.flame_layout.specs.declared.boxes.SpanBox.{SpanBox}
pub use Rattle.view_texts.specs.Json.{whole_number, list_data}
use Rattle.page_texts.specs.Columns.{no_span, up_of, is_on, gap_of, tail_of, rest_of}
use Rattle.page_texts.specs.ScriptSafe.{page_data_text}

-- a box, and in a comparison the weight of its path in the other profile
pub record PageBox : Type 0 where
  pub span : SpanBox
  pub other : ℕ

-- how many samples a snapshot has, and how many of them are of each source
pub record Moment : Type 0 where
  pub at : ℕ
  pub counts : List ℕ

-- a drawing: its boxes in order, the sum of the weights of its samples, and the least weight of a box that is kept
pub record PageDrawing : Type 0 where
  pub moment : Option Moment
  pub is_compared : Bool
  pub least : ℕ
  pub total : ℕ
  pub boxes : List PageBox

-- a file, with the name and the unit of its weights, and their sum
pub record PageSource : Type 0 where
  pub name : List ℕ
  pub type_name : List ℕ
  pub unit : List ℕ
  pub weight : ℕ

-- what a page shows; `whole` is the weight of all samples of all sources, also of those that a filter leaves out, it opens
-- with the root below, and by shares, where that is said, and `has_more` says that samples are to come, in a page that follows
pub record Page : Type 0 where
  pub drawings : List PageDrawing
  pub sources : List PageSource
  pub title : List ℕ
  pub view : List ℕ
  pub whole : ℕ
  pub is_root_below : Bool
  pub is_share : Bool
  pub has_more : Bool

-- ---- boxes

abbrev pub is_kept : ℕ → PageBox → Bool
is_kept least box = nat_le least box.span.weight

-- the boxes that weigh at least so much, and the others
abbrev pub kept : ℕ → List PageBox → List PageBox
kept least boxes = filter (is_kept least) boxes

abbrev pub left_out : ℕ → List PageBox → List PageBox
left_out least boxes = filter (λ box. not (is_kept least box)) boxes

-- the sum of the weights of the samples that end in these boxes
abbrev pub own_weight : List PageBox → ℕ
own_weight boxes = sum_by (λ box. box.span.own) boxes

-- ---- names

abbrev pub names_of : List PageBox → List (List ℕ)
names_of boxes = map (λ box. box.span.name) boxes

abbrev pub kept_names : PageDrawing → List (List ℕ)
kept_names drawing = names_of (kept drawing.least drawing.boxes)

-- each name of a kept box once, by first appearance
abbrev pub page_names : List PageDrawing → List (List ℕ)
page_names drawings = with_stack [] (flat_map kept_names drawings)

-- how many names stand before this one
abbrev pub place_of : List (List ℕ) → List ℕ → ℕ
place_of names name = position_or_len (bytes_eq name) names

-- ---- columns

-- what the columns tell of a box
pub record ToldBox : Type 0 where
  pub gap : ℕ
  pub name : ℕ
  pub other : ℕ
  pub rest : ℕ
  pub tail : ℕ
  pub up : ℕ

-- what is told of a box behind that one
abbrev pub told_box : List (List ℕ) → SpanBox → PageBox → Bool → ToldBox
told_box names before box is_under = record {
  gap = gap_of before box.span;
  name = place_of names box.span.name;
  other = box.other;
  rest = rest_of is_under box.span;
  tail = tail_of before box.span;
  up = up_of before box.span;
}

-- whether the first of the boxes behind a box stands on it
abbrev pub is_under : SpanBox → List PageBox → Bool
is_under span [] = false
is_under span (next ∷ later) = is_on span next.span

-- what is told of boxes in their order, of which the first stands behind that one
abbrev pub told_boxes : List (List ℕ) → SpanBox → List PageBox → List ToldBox
told_boxes names before [] = []
told_boxes names before (box ∷ later) = told_box names before box (is_under box.span later) ∷ told_boxes names box.span later

-- what is told of the boxes that a drawing keeps
abbrev pub drawing_boxes : List (List ℕ) → PageDrawing → List ToldBox
drawing_boxes names drawing = told_boxes names no_span (kept drawing.least drawing.boxes)

-- ---- members

-- a number of each box
abbrev pub column : (ToldBox → ℕ) → List ToldBox → Data
column number_of boxes = list_data (map (λ box. whole_number (number_of box)) boxes)

abbrev pub left_out_data : List PageBox → Data
left_out_data boxes =
    object
    (member (codes "boxes") (whole_number (length boxes))
    (member (codes "weight") (whole_number (own_weight boxes))
    no_members))

-- in snapshots alone
abbrev pub moment_members : Option Moment → Members → Members
moment_members None later = later
moment_members (Some moment) later =
    member (codes "at") (whole_number moment.at)
    (member (codes "counts") (list_data (map whole_number moment.counts))
    later)

-- in comparisons alone
abbrev pub other_members : Bool → List ToldBox → Members → Members
other_members is_compared boxes later =
    if is_compared then member (codes "other") (column (λ box. box.other) boxes) later else later

abbrev pub last_members : List ToldBox → ℕ → Members
last_members boxes total =
    member (codes "rest") (column (λ box. box.rest) boxes)
    (member (codes "tail") (column (λ box. box.tail) boxes)
    (member (codes "total") (whole_number total)
    (member (codes "up") (column (λ box. box.up) boxes)
    no_members)))

-- `boxes` are what is told of those that are kept, and `others` those that are not
abbrev pub box_members : PageDrawing → List ToldBox → List PageBox → Members
box_members drawing boxes others =
    member (codes "gap") (column (λ box. box.gap) boxes)
    (member (codes "least") (whole_number drawing.least)
    (member (codes "left_out") (left_out_data others)
    (member (codes "name") (column (λ box. box.name) boxes)
    (other_members drawing.is_compared boxes
    (last_members boxes drawing.total)))))

-- a drawing, whose names have their places in `names`
abbrev pub drawing_data : List (List ℕ) → PageDrawing → Data
drawing_data names drawing =
    object
    (moment_members drawing.moment
    (box_members drawing (drawing_boxes names drawing) (left_out drawing.least drawing.boxes)))

abbrev pub source_data : PageSource → Data
source_data source =
    object
    (member (codes "name") (string source.name)
    (member (codes "type") (string source.type_name)
    (member (codes "unit") (string source.unit)
    (member (codes "weight") (whole_number source.weight)
    no_members))))

-- ---- the whole

-- in pages of which it is said alone
abbrev pub member_if : Bool → List ℕ → Members → Members
member_if is_said key later = if is_said then member key (boolean true) later else later

-- a page opens with the root below, and by shares
abbrev pub opening_members : Bool → Bool → Members → Members
opening_members is_below is_share later = member_if is_below (codes "root_below") (member_if is_share (codes "share") later)

abbrev pub later_members : List PageSource → List ℕ → List ℕ → ℕ → Members
later_members sources title view whole =
    member (codes "sources") (list_data (map source_data sources))
    (member (codes "title") (string title)
    (member (codes "view") (string view)
    (member (codes "whole") (whole_number whole)
    no_members)))

abbrev pub page_value : Page → Data
page_value page =
    object
    (member (codes "drawings") (list_data (map (drawing_data (page_names page.drawings)) page.drawings))
    (member_if page.has_more (codes "more")
    (member (codes "names") (list_data (map string (page_names page.drawings)))
    (opening_members page.is_root_below page.is_share (later_members page.sources page.title page.view page.whole)))))

-- the data of a page
unfoldable pub page_text : Page → List ℕ
page_text page = page_data_text (page_value page)
