-- The boxes that those with borrowed names stand for.
use Rattle.std.specs.Prelude.{ℕ, Option, None, Some}
use Rattle.flame_layout.specs.declared.boxes.SpanBox.{SpanBox}
use Rattle.flame_layout.specs.declared.boxes.DrawnBox.{DrawnBox}
use Rattle.flame_layout.specs.declared.boxes.ComparedBox.{ComparedBox}
use Rattle.flame_layout.specs.declared.boxes.DrawnPair.{DrawnPair}
use Rattle.flame_layout.specs.declared.boxes.PictureBox.{PictureBox}

abbrev pub span_of : DrawnBox → SpanBox
span_of drawn = record {
  depth = drawn.depth;
  name = drawn.name.now;
  start = drawn.start;
  weight = drawn.weight;
  own = drawn.own;
}

abbrev pub compared_of : DrawnPair → ComparedBox
compared_of pair = record { span = span_of pair.drawn; before = pair.total_before }

-- a box of a picture, and in a comparison the weight of its path in the other profile
pub record SeenBox : Type 0 where
  pub span : SpanBox
  pub before : Option ℕ

abbrev pub seen_of : PictureBox → SeenBox
seen_of box = record { span = span_of box.drawn; before = box.before }

abbrev pub plain_box : SpanBox → SeenBox
plain_box span = record { span = span; before = None }

abbrev pub paired_box : ComparedBox → SeenBox
paired_box compared = record { span = compared.span; before = Some compared.before }
