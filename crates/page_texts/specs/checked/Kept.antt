-- The boxes that are kept, as the code has them.
use Rattle.std.specs.Prelude.{◌≡◌, ◌<◌, ◌+◌, ◌++◌, ◌&&◌, decimal, ℕ, zero, suc, nat_lt, Bool, false, List, [], ◌∷◌, length, get_or, map, Option, Some, None, codes, if◌then◌else◌}
use Rattle.std.specs.List.{AllByRecursion}
use Rattle.flame_layout.specs.declared.boxes.SpanBox.{SpanBox}
use Rattle.page_texts.specs.Columns.{up_of, is_on, gap_of, tail_of, rest_of}
use Rattle.page_texts.specs.Page.{PageBox, PageDrawing, kept, left_out, own_weight, page_names, place_of, whole_number, list_data}
use Rattle.page_texts.specs.declared.drawings.Drawing.{Drawing}
use Rattle.page_texts.specs.declared.drawings.Moment.{Moment}
use Rattle.page_texts.specs.declared.kept_boxes.KeptBox.{KeptBox}
use Rattle.page_texts.specs.declared.kept_boxes.KeptBoxes.{KeptBoxes}
use Rattle.page_texts.specs.declared.kept_boxes.KeptDrawings.{KeptDrawings}
use Rattle.page_texts.specs.declared.kept_boxes.Column.{Column}
use Rattle.page_texts.specs.declared.kept_boxes.Column.TheVariants.{Gap, Name, Other, Rest, Tail, Up}
use Rattle.page_texts.specs.checked.SafeText.{safe_text}

-- a box without its name
abbrev pub span_in : KeptBox → SpanBox
span_in box = record { depth = box.depth; name = []; start = box.start; weight = box.weight; own = box.own }

abbrev pub no_kept : KeptBox
no_kept = record { depth = 0; name = 0; other = 0; own = 0; start = 0; weight = 0 }

-- the number of a box in a column, by the box before it and by whether the next one stands on it
abbrev pub number_in : Column → KeptBox → KeptBox → Bool → ℕ
number_in Gap before box is_under = gap_of (span_in before) (span_in box)
number_in Name before box is_under = box.name
number_in Other before box is_under = box.other
number_in Rest before box is_under = rest_of is_under (span_in box)
number_in Tail before box is_under = tail_of (span_in before) (span_in box)
number_in Up before box is_under = up_of (span_in before) (span_in box)

abbrev pub is_kept_under : KeptBox → List KeptBox → Bool
is_kept_under box [] = false
is_kept_under box (next ∷ later) = is_on (span_in box) (span_in next)

-- a column of boxes, of which the first stands behind that one
abbrev pub numbers_of : Column → KeptBox → List KeptBox → List ℕ
numbers_of column before [] = []
numbers_of column before (box ∷ later) = number_in column before box (is_kept_under box later) ∷ numbers_of column box later

-- the same of one of the boxes, by its place
abbrev pub before_at : KeptBox → List KeptBox → ℕ → KeptBox
before_at first boxes zero = first
before_at first boxes (suc at) = get_or boxes at no_kept

abbrev pub is_under_at : List KeptBox → ℕ → Bool
is_under_at boxes at = nat_lt (at + 1) (length boxes) && is_on (span_in (get_or boxes at no_kept)) (span_in (get_or boxes (at + 1) no_kept))

-- a box with the place of its name
abbrev pub numbered : List (List ℕ) → PageBox → KeptBox
numbered names box = record {
  depth = box.span.depth;
  name = place_of names box.span.name;
  other = box.other;
  own = box.span.own;
  start = box.span.start;
  weight = box.span.weight;
}

-- each box's name is one of these
abbrev pub AreNamed : List (List ℕ) → List PageBox → Type 0
AreNamed names boxes = AllByRecursion (λ box. place_of names box.span.name < length names) boxes

-- what is kept of some boxes, and what is told of the others
pub record Keeps (names : List (List ℕ)) (least : ℕ) (boxes : List PageBox) (answer : KeptBoxes) : Type 0 where
  pub boxes_are : answer.boxes.items ≡ map (numbered names) (kept least boxes)
  pub named : AreNamed names (kept least boxes)
  pub left_boxes : answer.left_boxes ≡ length (left_out least boxes)
  pub left_weight : answer.left_weight ≡ own_weight (left_out least boxes)

-- the same of each drawing
abbrev pub AreAllKept : List (List ℕ) → List PageDrawing → List KeptBoxes → Type 0
AreAllKept names [] [] = Unit {0}
AreAllKept names (drawing ∷ drawings) (answer ∷ answers) = Keeps names drawing.least drawing.boxes answer × AreAllKept names drawings answers
AreAllKept names [] (answer ∷ answers) = ⊥
AreAllKept names (drawing ∷ drawings) [] = ⊥

-- what is kept of the drawings of a page, and their names
abbrev pub AreKept : List PageDrawing → KeptDrawings → Type 0
AreKept drawings kept = (kept.names ≡ page_names drawings) × AreAllKept kept.names drawings kept.drawings.items

-- ---- the text of a drawing, in the parts in which it is written

-- a text, where it is said
abbrev pub text_if : Bool → List ℕ → List ℕ
text_if is_said text = if is_said then text else []

-- what stands behind the names of a page: whether it opens with the root below, and by shares
abbrev pub opening_text : Bool → Bool → List ℕ
opening_text is_below is_share = text_if is_below (codes ",\"root_below\":true") ++ text_if is_share (codes ",\"share\":true")

-- a column after its key
abbrev pub column_text : List ℕ → Column → List KeptBox → List ℕ
column_text key column boxes = key ++ safe_text (list_data (map whole_number (numbers_of column no_kept boxes)))

abbrev pub number_text : List ℕ → ℕ → List ℕ
number_text key n = key ++ decimal n

abbrev pub moment_text : Option Moment → List ℕ
moment_text None = 123 ∷ []
moment_text (Some moment) =
    number_text (codes "{\"at\":") moment.at ++ ((codes ",\"counts\":" ++ safe_text (list_data (map whole_number moment.counts.now))) ++ 44 ∷ [])

abbrev pub first_text : KeptBoxes → ℕ → List ℕ
first_text kept least =
    column_text (codes "\"gap\":") Gap kept.boxes.items
    ++ (number_text (codes ",\"least\":") least
    ++ (number_text (codes ",\"left_out\":{\"boxes\":") kept.left_boxes
    ++ (number_text (codes ",\"weight\":") kept.left_weight
    ++ column_text (codes "},\"name\":") Name kept.boxes.items)))

abbrev pub other_text : Bool → KeptBoxes → List ℕ
other_text is_compared kept = if is_compared then column_text (codes ",\"other\":") Other kept.boxes.items else []

abbrev pub last_text : KeptBoxes → ℕ → List ℕ
last_text kept total =
    column_text (codes ",\"rest\":") Rest kept.boxes.items
    ++ (column_text (codes ",\"tail\":") Tail kept.boxes.items
    ++ (number_text (codes ",\"total\":") total
    ++ (column_text (codes ",\"up\":") Up kept.boxes.items ++ 125 ∷ [])))

-- the whole
abbrev pub drawing_parts : {L : Type 0} → Drawing L → KeptBoxes → List ℕ
drawing_parts drawing kept =
    moment_text drawing.moment ++ (first_text kept drawing.least ++ (other_text drawing.is_compared kept ++ last_text kept drawing.total))
