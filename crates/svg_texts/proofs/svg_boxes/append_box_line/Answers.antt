use Rattle.std.proofs.Common.{append_assoc}
use Rattle.std.specs.Prelude.{codes}
use Rattle.svg_texts.specs.Svg.{box_line}
use Rattle.view_texts.proofs.Fronts.{on_ok_if}
use Rattle.svg_texts.proofs.svg_boxes.append_box_line.Goals as goal

pub returns-clause-ok : goal.returns-clause-ok
unfolding box_line
returns-clause-ok c =
    on_ok_if c.extend_from_slice-2.result _ c.append_label_element.new.out.items (codes "</g>\n") c.extend_from_slice-2.ensures.items
    (λ is. rw (
      is,
      c.in_ok-append_label_element.ensures.ok,
      c.in_ok-append_rect_element.ensures.ok,
      c.in_ok-append_tip_element.ensures.ok,
      c.in_ok-extend_from_slice.ensures.items,
      c.change_of-change.ensures,
      c.room_on.ensures,
      c.from-width.ensures,
      c.saturating_sub.ensures,
      c.top_of-top.ensures.top c.args.one.now.before,
      c.from-left.ensures,
      c.requires.left,
      c.requires.right,
    ) (simp append_assoc))
