use Rattle.std.proofs.Common.{ap, map, ◌∙◌}
use Rattle.flame_layout.specs.Boxes.{compared_of}
use Rattle.source_views.proofs.PageDrawings.{paired_boxes, with_pairs}
use Rattle.source_views.proofs.drawn_profiles.profile_drawing.Goals as goal

pub returns : goal.returns
returns c =
    c.drawing.ensures
    ∙ with_pairs c.args.heading.now.least c.args.profile.now _ (paired_boxes c.as_slice.result.now ∙ ap (λ pairs. map (λ compared. record { span = compared.span; other = compared.before }) (map compared_of pairs)) c.as_slice.ensures.value)
