use Rattle.std.proofs.Common.{◌≡◌, ◌<◌, ◌++◌, [], ◌∷◌, length, ap, sym, ◌∙◌, arith}
use Rattle.std.proofs.lemmas.List.{length-append}
use Rattle.svg_texts.specs.Labels.{front}
use Rattle.svg_texts.specs.Shown.{visible, xml_text}
use Rattle.view_texts.proofs.Fronts.{text_after}
use Rattle.svg_texts.proofs.Cut.{cut-some, cut-none}
use Rattle.svg_texts.proofs.labels.append_cut.Goals as goal

pub returns-in_ok-extend_from_slice-clause-ok : goal.returns-in_ok-extend_from_slice-clause-ok
returns-in_ok-extend_from_slice-clause-ok c =
    let start = c.args.out.now.items in
    let begun = front c.args.room (visible c.args.name.now) in
    let long = ap length c.in_ok-append_front.ensures.ok ∙ length-append start (xml_text begun) in
    let some : 0 < length (xml_text begun) = omega (arith, long, c.args.out.now.ok, c.append_front.new.out.ok, c.len-start.ensures, c.len.ensures, c.if-len-start.true) in
    text_after start c.append_front.new.out.items _ (xml_text begun) (226 ∷ 128 ∷ 166 ∷ []) c.in_ok-append_front.ensures.ok c.in_ok-extend_from_slice.ensures.items ∙ ap (λ text. start ++ text) (sym (cut-some begun some))

pub returns-else-len-start-clause-ok : goal.returns-else-len-start-clause-ok
returns-else-len-start-clause-ok c =
    let start = c.args.out.now.items in
    let begun = front c.args.room (visible c.args.name.now) in
    let long = ap length c.in_ok-append_front.ensures.ok ∙ length-append start (xml_text begun) in
    let none : length (xml_text begun) ≡ 0 = omega (arith, long, c.args.out.now.ok, c.append_front.new.out.ok, c.len-start.ensures, c.len.ensures, c.if-len-start.false) in
    c.in_ok-append_front.ensures.ok ∙ ap (λ text. start ++ text) (sym (cut-none begun none))
