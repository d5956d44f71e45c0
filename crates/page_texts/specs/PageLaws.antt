-- What the laws of a page's data say.
use Rattle.std.specs.Prelude.{◌≡◌, ◌≢◌, ◌+◌, ◌^◌, ◌<◌, ◌==◌, ℕ, Bool, false, List, [], ◌∷◌, length, drop, get_or, All, IfSome, if◌then◌else◌}
use Rattle.flame_layout.specs.declared.boxes.SpanBox.{SpanBox}
use Rattle.page_texts.specs.Columns.{plus, minus, no_span, end_of, front_of}
use Rattle.page_texts.specs.Page.{PageBox, Moment, PageDrawing, Page, ToldBox, drawing_boxes, kept, left_out, own_weight, page_names}
use Rattle.page_texts.specs.ScriptSafe.{begins_separator}

-- no byte is `<`, `>` or `&`
abbrev pub HasNoMarkup : List ℕ → Type 0
HasNoMarkup text = All (λ byte. (byte ≢ 60) × (byte ≢ 62) × (byte ≢ 38)) text

-- nowhere stand the bytes of U+2028 or U+2029
abbrev pub HasNoSeparator : List ℕ → Type 0
HasNoSeparator text = (place : ℕ) → begins_separator (get_or text place 0) (drop (place + 1) text) ≡ false

-- ---- numbers that JSON is read to exactly: those of 64 bits

pub record IsSmallBox (box : PageBox) : Type 0 where
  pub depth : box.span.depth < 2 ^ 64
  pub start : box.span.start < 2 ^ 64
  pub weight : box.span.weight < 2 ^ 64
  pub own : box.span.own < 2 ^ 64
  pub other : box.other < 2 ^ 64

pub record IsSmallMoment (moment : Moment) : Type 0 where
  pub at : moment.at < 2 ^ 64
  pub counts : All (λ count. count < 2 ^ 64) moment.counts

-- the numbers of the boxes that are kept, and what is told of the others
pub record IsSmallDrawing (drawing : PageDrawing) : Type 0 where
  pub moment : IfSome drawing.moment IsSmallMoment
  pub least : drawing.least < 2 ^ 64
  pub total : drawing.total < 2 ^ 64
  pub boxes : All IsSmallBox (kept drawing.least drawing.boxes)
  pub left_boxes : length (left_out drawing.least drawing.boxes) < 2 ^ 64
  pub left_weight : own_weight (left_out drawing.least drawing.boxes) < 2 ^ 64

-- all numbers of a page
pub record IsSmallPage (page : Page) : Type 0 where
  pub drawings : All IsSmallDrawing page.drawings
  pub names : length (page_names page.drawings) < 2 ^ 64
  pub sources : All (λ source. source.weight < 2 ^ 64) page.sources
  pub whole : page.whole < 2 ^ 64

-- ---- the boxes that are read of the columns

-- where a box begins, behind that one
abbrev pub start_told : SpanBox → ToldBox → ℕ
start_told before told = plus (front_of (told.up == 0) before) told.gap

abbrev pub weight_told : SpanBox → ToldBox → ℕ
weight_told before told = if told.up == 0 then minus (minus (end_of before) told.tail) (start_told before told) else told.tail

abbrev pub own_told : Bool → ToldBox → ℕ → ℕ
own_told is_under told weight = if is_under then told.rest else minus weight told.rest

abbrev pub box_told : List (List ℕ) → SpanBox → ToldBox → Bool → PageBox
box_told names before told is_under = record {
  span = record {
    depth = minus (before.depth + 1) told.up;
    name = get_or names told.name [];
    start = start_told before told;
    weight = weight_told before told;
    own = own_told is_under told (weight_told before told);
  };
  other = told.other;
}

-- whether the first of what is told behind a box stands on it
abbrev pub is_told_under : List ToldBox → Bool
is_told_under [] = false
is_told_under (next ∷ later) = next.up == 0

-- the boxes of which this is told, one after another, of which the first stands behind that one
abbrev pub boxes_told : List (List ℕ) → SpanBox → List ToldBox → List PageBox
boxes_told names before [] = []
boxes_told names before (told ∷ later) =
    box_told names before told (is_told_under later) ∷ boxes_told names (box_told names before told (is_told_under later)).span later

-- the columns of a drawing are read as the boxes that it keeps
abbrev pub ReadsBack : List (List ℕ) → PageDrawing → Type 0
ReadsBack names drawing = boxes_told names no_span (drawing_boxes names drawing) ≡ kept drawing.least drawing.boxes
