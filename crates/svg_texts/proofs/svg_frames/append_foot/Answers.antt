use Rattle.std.proofs.Common.{append_assoc}
use Rattle.std.specs.Prelude.{codes}
use Rattle.svg_texts.specs.Svg.{foot}
use Rattle.view_texts.proofs.Fronts.{on_ok_if}
use Rattle.svg_texts.proofs.svg_frames.append_foot.Goals as goal

pub returns-clause-ok : goal.returns-clause-ok
unfolding foot
returns-clause-ok c =
    on_ok_if c.extend_from_slice.result _ c.append_told_left_out.new.out.items (codes "</text>\n</svg>\n") c.extend_from_slice.ensures.items
    (λ is. rw (is, c.in_ok-append_told_left_out.ensures.ok, c.in_ok-append_weight_in.ensures.ok, c.in_ok-append_text_tag.ensures.ok, c.height_of.ensures) (simp append_assoc))
