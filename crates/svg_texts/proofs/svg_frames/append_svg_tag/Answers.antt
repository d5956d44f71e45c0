use Rattle.std.proofs.Common.{append_assoc}
use Rattle.std.specs.Prelude.{codes}
use Rattle.svg_texts.specs.Svg.{svg_tag}
use Rattle.view_texts.proofs.Fronts.{on_ok_if}
use Rattle.svg_texts.proofs.svg_frames.append_svg_tag.Goals as goal

pub returns-clause-ok : goal.returns-clause-ok
unfolding svg_tag
returns-clause-ok c =
    on_ok_if c.extend_from_slice.result _ c.append_number-4.new.out.items (codes "\" font-family=\"monospace\" font-size=\"12\">") c.extend_from_slice.ensures.items
    (λ is. rw (is, c.in_ok-append_number-4.ensures.ok, c.in_ok-append_number-3.ensures.ok, c.in_ok-append_number-2.ensures.ok, c.in_ok-append_number.ensures.ok) (simp append_assoc))
