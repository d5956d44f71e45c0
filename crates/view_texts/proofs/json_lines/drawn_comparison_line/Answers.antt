use Rattle.std.proofs.Common.{[], ◌∙◌, ap, codes}
use Rattle.view_texts.specs.Lines.{line_text}
use Rattle.view_texts.specs.declared.line_kinds.LineKind.TheVariants.{Comparison}
use Rattle.view_texts.proofs.JsonFrames.{comparison_is}
use Rattle.view_texts.proofs.BoxLists.{paired_data}
use Rattle.view_texts.proofs.json_lines.drawn_comparison_line.Goals as goal

pub returns-clause-text : goal.returns-clause-text
returns-clause-text g c compared are =
    let scale = c.args.scale in
    c.of.ensures.text ∙ (ap (line_text (Comparison c.args.before) [] (codes "compare") scale.total scale.width) (paired_data scale.total scale.width _ compared are) ∙ comparison_is [] c.args.before scale.total scale.width compared)
