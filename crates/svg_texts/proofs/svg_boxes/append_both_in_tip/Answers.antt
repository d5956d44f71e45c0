use Rattle.std.specs.Prelude.{codes}
use Rattle.svg_texts.proofs.Appended.{front_more, front_trans}
use Rattle.svg_texts.proofs.svg_boxes.append_both_in_tip.Goals as goal

pub returns-in_ok-extend_from_slice-in-Some-clause-front : goal.returns-in_ok-extend_from_slice-in-Some-clause-front
returns-in_ok-extend_from_slice-in-Some-clause-front c =
    let start = c.args.out.now.items in
    let one = front_trans c.append_part_in-in-Some.new.out.items c.append_part_in.new.out.items start c.append_part_in-in-Some.ensures.front c.append_part_in.ensures.front in
    let two = front_more c.extend_from_slice-in-Some.new.self.items c.append_part_in-in-Some.new.out.items start (codes ", points ") c.in_ok-extend_from_slice-in-Some.ensures.items one in
    front_trans c.append_said_change-in-Some.new.out.items c.extend_from_slice-in-Some.new.self.items start c.append_said_change-in-Some.ensures.front two
