use Rattle.std.proofs.Common.{◌≡◌, ◌+◌, ◌≤◌, ◌++◌, ◌∙◌, ltb, get_or, map, sym, ap, subst, append_assoc, arith}
use Rattle.std.proofs.lemmas.List.{get_or-map, length-map}
use Rattle.std.proofs.lemmas.Result.{on_ok_weaker}
use Rattle.serde_json.specs.Data.{null}
use Rattle.serde_json.specs.Written.{comma_if, compact_text}
use Rattle.flame_layout.specs.Boxes.{SeenBox, seen_of}
use Rattle.view_texts.specs.Lines.{seen_data}
use Rattle.view_texts.proofs.TextPieces.{value_piece}
use Rattle.view_texts.proofs.json_line.append_item.Goals as goal

pub append_box-requires-clause-within : goal.append_box-requires-clause-within
append_box-requires-clause-within g c =
    let one = seen_of c.get.result in
    subst (λ (box : SeenBox). box.span.start + box.span.weight ≤ c.args.writer.now.total) (sym (c.get.ensures one)) (c.requires.within c.args.place one c.requires.there)

pub returns-clause-ok : goal.returns-clause-ok
returns-clause-ok g c =
    let scale = c.args.writer.now in
    let boxes = g.L.FlameBoxes.boxes c.args.boxes.now in
    let object = seen_data scale.total scale.width in
    let one = seen_of c.get.result in
    let place = c.args.place in
    let start = c.args.out.now.items in
    let text = compact_text (get_or (map object boxes) place null) in
    let is : object one ≡ get_or (map object boxes) place null = ap object (c.get.ensures one) ∙ sym (get_or-map object boxes place one null c.requires.there) in
    on_ok_weaker c.append_box.result
    (λ e. e ∙ (λ i. c.in_ok-append_comma.ensures.ok i ++ compact_text (is i)) ∙ append_assoc start (comma_if (ltb 0 place)) text
    ∙ ap (λ piece. start ++ piece) (sym (value_piece (map object boxes) place null (omega (arith, c.requires.there, length-map boxes object)))))
    c.append_box.ensures.ok
