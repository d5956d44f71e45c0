use Rattle.std.proofs.Common.{ap, sym, ◌∙◌, arith}
use Rattle.std.proofs.lemmas.List.{get_or-map, length-map}
use Rattle.flame_layout.specs.Boxes.{plain_box, span_of}
use Rattle.flame_layout.proofs.flame_boxes.RefChartFlameBoxes.get.Goals as goal

pub returns : goal.returns
returns g c other =
    let chart = c.args.self.now.now in
    let span = span_of c.get.result in
    ap plain_box (sym (c.get.ensures span)) ∙ sym (get_or-map plain_box chart c.args.place span other (omega (arith, c.requires, length-map chart plain_box)))
