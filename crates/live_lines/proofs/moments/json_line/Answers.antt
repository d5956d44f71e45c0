use Rattle.std.proofs.Common.{◌∙◌, ap, refl, sym}
use Rattle.flame_layout.proofs.DrawnBoxes.{plain_positive, plain_within}
use Rattle.live_lines.specs.checked.Merges.{shown_text}
use Rattle.live_lines.proofs.moments.json_line.Goals as goal

pub drawn_snapshot_line-requires-clause-within : goal.drawn_snapshot_line-requires-clause-within
drawn_snapshot_line-requires-clause-within c = plain_within c.args.chart.now c.args.scale.total c.requires.within

pub drawn_snapshot_line-requires-clause-positive : goal.drawn_snapshot_line-requires-clause-positive
drawn_snapshot_line-requires-clause-positive c = plain_positive c.args.chart.now c.args.scale.total c.requires.positive

pub drawn_line-requires-clause-within : goal.drawn_line-requires-clause-within
drawn_line-requires-clause-within c = plain_within c.args.chart.now c.args.scale.total c.requires.within

pub drawn_line-requires-clause-positive : goal.drawn_line-requires-clause-positive
drawn_line-requires-clause-positive c = plain_positive c.args.chart.now c.args.scale.total c.requires.positive

pub returns-in-Snapshot-clause-text : goal.returns-in-Snapshot-clause-text
returns-in-Snapshot-clause-text c =
    c.drawn_snapshot_line.ensures.text c.args.chart.now refl
    ∙ ap (λ line. shown_text line c.args.at c.args.counts.now c.args.scale.total c.args.scale.width c.args.chart.now) (sym c.in-Snapshot.is)

pub returns-in-Graph-clause-text : goal.returns-in-Graph-clause-text
returns-in-Graph-clause-text c =
    c.drawn_line.ensures.text c.args.chart.now refl
    ∙ ap (λ line. shown_text line c.args.at c.args.counts.now c.args.scale.total c.args.scale.width c.args.chart.now) (sym c.in-Graph.is)
