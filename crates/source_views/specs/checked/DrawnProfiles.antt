-- The profiles of a comparison, as the code has drawn them.
use Rattle.std.specs.Prelude.{◌≡◌, ℕ, List, map, true, Option, None}
use Rattle.sample_tables.specs.declared.samples.Sample.{Sample}
use Rattle.merged_stacks.specs.Timeline.{total_weight}
use denote.Ref.{Bor}
use Rattle.flame_layout.specs.Boxes.{SeenBox, compared_of, paired_box}
use Rattle.flame_layout.specs.declared.boxes.DrawnPair.{DrawnPair}
use Rattle.flame_layout.specs.Comparison.{compared_boxes_of}
use Rattle.page_texts.specs.Page.{PageDrawing}
use Rattle.source_views.specs.declared.drawn_profiles.DrawnProfile.{DrawnProfile}
use Rattle.source_views.specs.Pages.{least_of}

-- the boxes of a list that is lent
abbrev pub pair_list : Bor (List DrawnPair) → List SeenBox
pair_list pairs = map (λ pair. paired_box (compared_of pair)) pairs.now

-- the flame graph of these samples, with the weights of the others
pub record IsDrawnOf (other samples : List Sample) (profile : DrawnProfile) : Type 0 where
  pub boxes : map compared_of profile.boxes.items ≡ compared_boxes_of other samples
  pub total : profile.total ≡ total_weight samples

abbrev pub profile_drawing : Option ℕ → DrawnProfile → PageDrawing
profile_drawing least profile = record {
  moment = None;
  is_compared = true;
  least = least_of least profile.total;
  total = profile.total;
  boxes = map (λ compared. record { span = compared.span; other = compared.before }) (map compared_of profile.boxes.items);
}
