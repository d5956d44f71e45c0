use Rattle.std.proofs.Common.{◌≡◌, ◌<◌, ◌++◌, length, take, ap, ◌∙◌, append_assoc, arith}
use Rattle.std.specs.Prelude.{codes}
use Rattle.std.proofs.lemmas.List.{length-append}
use Rattle.svg_texts.specs.Labels.{label}
use Rattle.svg_texts.specs.Svg.{text_tag}
use Rattle.view_texts.proofs.Fronts.{on_ok_if}
use Rattle.svg_texts.proofs.LabelTexts.{element-some, element-none}
use Rattle.svg_texts.proofs.svg_boxes.append_label_element.Goals as goal

pub returns-then-len-inside-clause-ok : goal.returns-then-len-inside-clause-ok
returns-then-len-inside-clause-ok c =
    let start = c.args.out.now.items in
    let text = label c.args.room c.args.name.now c.args.change in
    let written = c.in_ok-append_label.ensures.ok in
    let long = ap length written ∙ length-append c.append_text_tag.new.out.items text in
    let some : 0 < length text = omega (arith, long, c.append_text_tag.new.out.ok, c.append_label.new.out.ok, c.len-inside.ensures, c.len.ensures, c.if-len-inside.true) in
    on_ok_if c.extend_from_slice.result _ c.append_label.new.out.items (codes "</text>") c.extend_from_slice.ensures.items
    (λ is. is ∙ rw (written, c.in_ok-append_text_tag.ensures.ok, element-some c.args.left c.args.base text some) (simp append_assoc))

pub returns-clause-ok : goal.returns-clause-ok
returns-clause-ok c =
    let start = c.args.out.now.items in
    let tag = text_tag c.args.left c.args.base in
    let text = label c.args.room c.args.name.now c.args.change in
    let written = c.in_ok-append_label.ensures.ok in
    let long = ap length written ∙ length-append c.append_text_tag.new.out.items text in
    let none : length text ≡ 0 = omega (arith, long, c.append_text_tag.new.out.ok, c.append_label.new.out.ok, c.len-inside.ensures, c.len.ensures, c.if-len-inside.false) in
    let begun : c.len-start.result ≡ length start = omega (arith, c.args.out.now.ok, c.len-start.ensures) in
    c.truncate.ensures.items ∙ ((λ i. take (begun i) ((written ∙ ap (λ front. front ++ text) c.in_ok-append_text_tag.ensures.ok) i)) ∙ element-none c.args.left c.args.base start tag text none)
