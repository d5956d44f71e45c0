use Rattle.std.proofs.Common.{append_assoc, ◌∙◌}
use Rattle.std.specs.Prelude.{codes}
use Rattle.std.proofs.lemmas.Result.{on_ok_weaker}
use Rattle.svg_texts.specs.Svg.{tip}
use Rattle.svg_texts.proofs.Appended.{front_trans, front_more}
use Rattle.svg_texts.proofs.svg_boxes.append_tip.Goals as goal

pub returns-clause-ok : goal.returns-clause-ok
unfolding tip
returns-clause-ok c =
    on_ok_weaker c.append_weight_in.result
    (λ is. is ∙ rw (c.in_ok-append_weights_in_tip.ensures.ok, c.in_ok-extend_from_slice.ensures.items, c.in_ok-append_name_in_tip.ensures.ok) (simp append_assoc))
    c.append_weight_in.ensures.ok

pub returns-clause-front : goal.returns-clause-front
returns-clause-front c =
    let start = c.args.out.now.items in
    let one = front_more c.extend_from_slice.new.self.items c.append_name_in_tip.new.out.items start (codes ": ") c.in_ok-extend_from_slice.ensures.items c.append_name_in_tip.ensures.front in
    let two = front_trans c.append_weights_in_tip.new.out.items c.extend_from_slice.new.self.items start c.append_weights_in_tip.ensures.front one in
    front_trans c.append_weight_in.new.out.items c.append_weights_in_tip.new.out.items start c.append_weight_in.ensures.front two
