use Rattle.std.proofs.Common.{◌+◌, ◌-◌, ◌≤◌, ◌++◌, sym, ap, ◌∙◌, subst, arith}
use Rattle.std.proofs.lemmas.Result.{on_ok_weaker}
use Rattle.flame_layout.specs.Boxes.{SeenBox, seen_of}
use Rattle.svg_texts.specs.Drawn.{picture_of}
use Rattle.svg_texts.proofs.PicturePieces.{piece_of_box}
use Rattle.svg_texts.proofs.svg.SvgPieces.append_piece.Goals as goal

pub append_box-requires-clause-within : goal.append_box-requires-clause-within
append_box-requires-clause-within g c =
    let one = seen_of c.get.result in
    subst (λ (box : SeenBox). box.span.start + box.span.weight ≤ c.args.self.now.frame.picture.now.total) (sym (c.get.ensures one))
    (c.args.self.now.within (c.args.at - 1) one (omega (arith, c.count.ensures, c.if-at-count.true, c.if-at-eq0.false)))

pub returns-then-at-count-clause-ok : goal.returns-then-at-count-clause-ok
returns-then-at-count-clause-ok g c =
    let svg = c.args.self.now in
    let one = seen_of c.get.result in
    let is = piece_of_box (picture_of svg.frame.picture.now) svg.frame.tally (g.L.FlameBoxes.boxes svg.boxes) c.args.at (c.args.at - 1) one
    (omega (arith, c.if-at-eq0.false)) (omega (arith, c.count.ensures, c.if-at-count.true, c.if-at-eq0.false)) (c.get.ensures one) in
    on_ok_weaker c.append_box.result (λ e. e ∙ ap (λ text. c.args.out.now.items ++ text) (sym is)) c.append_box.ensures.ok
