use Rattle.std.proofs.Common.{append_assoc}
use Rattle.std.specs.Prelude.{codes}
use Rattle.view_texts.proofs.Fronts.{on_ok_if}
use Rattle.svg_texts.proofs.svg_boxes.append_fill_attribute.Goals as goal

pub returns-clause-ok : goal.returns-clause-ok
returns-clause-ok c =
    on_ok_if c.extend_from_slice-2.result _ c.append_fill.new.out.items (codes "\"/>") c.extend_from_slice-2.ensures.items
    (λ is. rw (is, c.in_ok-append_fill.ensures.ok, c.in_ok-extend_from_slice.ensures.items) (simp append_assoc))
