use Rattle.std.proofs.Common.{append_assoc}
use Rattle.std.specs.Prelude.{codes}
use Rattle.svg_texts.specs.Svg.{heading}
use Rattle.svg_texts.proofs.Appended.{front_either, front_trans, front_more}
use Rattle.view_texts.proofs.Fronts.{on_ok_if}
use Rattle.svg_texts.proofs.svg_frames.append_heading.Goals as goal

pub returns-in_err-append_paper-clause-front : goal.returns-in_err-append_paper-clause-front
returns-in_err-append_paper-clause-front c =
    let start = c.args.out.now.items in
    let one = front_more c.extend_from_slice.new.self.items c.append_svg_tag.new.out.items start (codes "\n") c.in_ok-extend_from_slice.ensures.items c.append_svg_tag.ensures.front in
    let two = front_trans c.append_title_element.new.out.items c.extend_from_slice.new.self.items start c.append_title_element.ensures.front one in
    let three = front_more c.extend_from_slice-2.new.self.items c.append_title_element.new.out.items start (codes "\n") c.in_ok-extend_from_slice-2.ensures.items two in
    front_trans c.append_paper.new.out.items c.extend_from_slice-2.new.self.items start c.append_paper.ensures.front three

pub returns-in_err-append_text_element-clause-front : goal.returns-in_err-append_text_element-clause-front
returns-in_err-append_text_element-clause-front c =
    let start = c.args.out.now.items in
    let one = front_more c.extend_from_slice.new.self.items c.append_svg_tag.new.out.items start (codes "\n") c.in_ok-extend_from_slice.ensures.items c.append_svg_tag.ensures.front in
    let two = front_trans c.append_title_element.new.out.items c.extend_from_slice.new.self.items start c.append_title_element.ensures.front one in
    let three = front_more c.extend_from_slice-2.new.self.items c.append_title_element.new.out.items start (codes "\n") c.in_ok-extend_from_slice-2.ensures.items two in
    let four = front_trans c.append_paper.new.out.items c.extend_from_slice-2.new.self.items start c.append_paper.ensures.front three in
    let five = front_more c.extend_from_slice-3.new.self.items c.append_paper.new.out.items start (codes "\n") c.in_ok-extend_from_slice-3.ensures.items four in
    front_trans c.append_text_element.new.out.items c.extend_from_slice-3.new.self.items start c.append_text_element.ensures.front five

pub returns-clause-ok : goal.returns-clause-ok
unfolding heading
returns-clause-ok c =
    on_ok_if c.extend_from_slice-4.result _ c.append_text_element.new.out.items (codes "\n") c.extend_from_slice-4.ensures.items
    (λ is. rw (
      is,
      c.in_ok-append_text_element.ensures.ok,
      c.in_ok-extend_from_slice-3.ensures.items,
      c.in_ok-append_paper.ensures.ok,
      c.in_ok-extend_from_slice-2.ensures.items,
      c.in_ok-append_title_element.ensures.ok,
      c.in_ok-extend_from_slice.ensures.items,
      c.in_ok-append_svg_tag.ensures.ok,
      c.from-width.ensures,
      c.get.ensures.number,
      c.height_of-height.ensures,
    ) (simp append_assoc))

pub returns-clause-front : goal.returns-clause-front
returns-clause-front c =
    let start = c.args.out.now.items in
    let one = front_more c.extend_from_slice.new.self.items c.append_svg_tag.new.out.items start (codes "\n") c.in_ok-extend_from_slice.ensures.items c.append_svg_tag.ensures.front in
    let two = front_trans c.append_title_element.new.out.items c.extend_from_slice.new.self.items start c.append_title_element.ensures.front one in
    let three = front_more c.extend_from_slice-2.new.self.items c.append_title_element.new.out.items start (codes "\n") c.in_ok-extend_from_slice-2.ensures.items two in
    let four = front_trans c.append_paper.new.out.items c.extend_from_slice-2.new.self.items start c.append_paper.ensures.front three in
    let five = front_more c.extend_from_slice-3.new.self.items c.append_paper.new.out.items start (codes "\n") c.in_ok-extend_from_slice-3.ensures.items four in
    let six = front_trans c.append_text_element.new.out.items c.extend_from_slice-3.new.self.items start c.append_text_element.ensures.front five in
    front_either c.extend_from_slice-4.result c.extend_from_slice-4.new.self.items c.append_text_element.new.out.items start (codes "\n") c.extend_from_slice-4.ensures.items six
