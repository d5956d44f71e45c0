use Rattle.std.proofs.Common.{[], ◌∙◌, ap}
use Rattle.view_texts.specs.Lines.{line_text}
use Rattle.view_texts.specs.declared.line_kinds.LineKind.TheVariants.{Picture}
use Rattle.view_texts.proofs.JsonFrames.{picture_is}
use Rattle.view_texts.proofs.BoxLists.{plain_data}
use Rattle.view_texts.proofs.json_lines.drawn_line.Goals as goal

pub returns-clause-text : goal.returns-clause-text
returns-clause-text g c spans are =
    let scale = c.args.scale in
    c.of.ensures.text ∙ (ap (line_text Picture [] c.args.view.now scale.total scale.width) (plain_data scale.total scale.width _ spans are) ∙ picture_is [] c.args.view.now scale.total scale.width spans)
