use Rattle.std.proofs.Common.{append_assoc}
use Rattle.std.specs.Prelude.{codes}
use Rattle.svg_texts.specs.Svg.{paper_element}
use Rattle.view_texts.proofs.Fronts.{on_ok_if}
use Rattle.svg_texts.proofs.svg_frames.append_paper.Goals as goal

pub returns-clause-ok : goal.returns-clause-ok
unfolding paper_element
returns-clause-ok c =
    on_ok_if c.extend_from_slice.result _ c.append_number-2.new.out.items (codes "\" fill=\"#fbfbf9\"/>") c.extend_from_slice.ensures.items
    (λ is. rw (is, c.in_ok-append_number-2.ensures.ok, c.in_ok-append_number.ensures.ok) (simp append_assoc))
