-- The JSON lines of the views. A line is the compact text of one value, whose keys are in byte order, and a line feed.
use Rattle.std.specs.Prelude.{ℕ, List, [], ◌∷◌, ◌++◌, map, codes}
use Rattle.serde_json.specs.Data.{Data, number, unsigned, string, array, object, Members, no_members, member}
use Rattle.serde_json.specs.View.{items_of}
use Rattle.serde_json.specs.Written.{compact_text}
use Rattle.flame_layout.specs.declared.boxes.ComparedBox.{ComparedBox}
use Rattle.flame_layout.specs.declared.boxes.SpanBox.{SpanBox}
use Rattle.flame_layout.specs.declared.boxes.PlacedBox.{PlacedBox}
use Rattle.flame_layout.specs.Edges.{placed_at}

abbrev pub whole_number : ℕ → Data
whole_number n = number (unsigned n)

abbrev pub list_data : List Data → Data
list_data values = array (items_of values)

-- the members of a box
abbrev pub box_members : PlacedBox → Members
box_members placed =
    member (codes "depth") (whole_number placed.depth)
    (member (codes "left") (whole_number placed.left)
    (member (codes "name") (string placed.name)
    (member (codes "own") (whole_number placed.own)
    (member (codes "right") (whole_number placed.right)
    (member (codes "start") (whole_number placed.start)
    (member (codes "weight") (whole_number placed.weight)
    no_members))))))

-- a box in an image of the width whose boxes span the total
abbrev pub box_data : ℕ → ℕ → SpanBox → Data
box_data total width span = object (box_members (placed_at total width span))

-- the same with the total of its path in the profile before
abbrev pub compared_box_data : ℕ → ℕ → ComparedBox → Data
compared_box_data total width compared =
    object (member (codes "before") (whole_number compared.before) (box_members (placed_at total width compared.span)))

-- the members that each line ends with
abbrev pub view_members : List ℕ → ℕ → ℕ → Members
view_members view total width =
    member (codes "total") (whole_number total)
    (member (codes "view") (string view)
    (member (codes "width") (whole_number width)
    no_members))

-- the boxes of a picture
abbrev pub boxes_data : List ℕ → ℕ → ℕ → List SpanBox → Data
boxes_data view total width boxes =
    object
    (member (codes "boxes") (list_data (map (box_data total width) boxes))
    (view_members view total width))

-- the flame graph of the first `at` samples in the order of arrival, of which each source has its count
abbrev pub snapshot_data : ℕ → List ℕ → ℕ → ℕ → List SpanBox → Data
snapshot_data at counts total width boxes =
    object
    (member (codes "at") (whole_number at)
    (member (codes "boxes") (list_data (map (box_data total width) boxes))
    (member (codes "counts") (list_data (map whole_number counts))
    (view_members (codes "snapshot") total width))))

-- the boxes of a comparison; `before` is the total of the profile before
abbrev pub pair_boxes_data : ℕ → ℕ → ℕ → List ComparedBox → Data
pair_boxes_data before total width boxes =
    object
    (member (codes "before") (whole_number before)
    (member (codes "boxes") (list_data (map (compared_box_data total width) boxes))
    (view_members (codes "compare") total width)))

abbrev pub json_line : Data → List ℕ
json_line value = compact_text value ++ 10 ∷ []

unfoldable pub boxes_line : List ℕ → ℕ → ℕ → List SpanBox → List ℕ
boxes_line view total width boxes = json_line (boxes_data view total width boxes)

unfoldable pub snapshot_line : ℕ → List ℕ → ℕ → ℕ → List SpanBox → List ℕ
snapshot_line at counts total width boxes = json_line (snapshot_data at counts total width boxes)

unfoldable pub pair_boxes_line : ℕ → ℕ → ℕ → List ComparedBox → List ℕ
pair_boxes_line before total width boxes = json_line (pair_boxes_data before total width boxes)
