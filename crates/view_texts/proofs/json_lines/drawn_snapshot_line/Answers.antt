use Rattle.std.proofs.Common.{◌∙◌, ap, codes}
use Rattle.view_texts.specs.Lines.{line_text}
use Rattle.view_texts.specs.declared.line_kinds.LineKind.TheVariants.{Snapshot}
use Rattle.view_texts.proofs.JsonFrames.{snapshot_is}
use Rattle.view_texts.proofs.BoxLists.{plain_data}
use Rattle.view_texts.proofs.json_lines.drawn_snapshot_line.Goals as goal

pub returns-clause-text : goal.returns-clause-text
returns-clause-text g c spans are =
    let scale = c.args.scale in
    let counts = c.args.counts.now in
    c.of.ensures.text ∙ (ap (line_text (Snapshot c.args.at) counts (codes "snapshot") scale.total scale.width) (plain_data scale.total scale.width _ spans are) ∙ snapshot_is c.args.at counts scale.total scale.width spans)
