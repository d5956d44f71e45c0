use Rattle.std.proofs.Common.{◌∙◌, ◌+◌, ◌≤◌, ◌<◌, All, List, OnErr, OnOk, ap, length, refl, subst, sym, ℕ}
use Rattle.std.specs.Io.KnownBytes.{Appends}
use Rattle.merged_stacks.specs.RankedStacks.{ranked_samples}
use Rattle.flame_layout.proofs.DrawnBoxes.{plain_positive, plain_within}
use Rattle.byte_io.specs.Pieces.{AppendsFront}
use Rattle.source_views.proofs.SnapshotLines.{moment_text}
use Rattle.source_views.proofs.snapshot_texts.send_moment.Goals as goal

pub drawn_snapshot_line-line-requires-clause-within : goal.drawn_snapshot_line-line-requires-clause-within
drawn_snapshot_line-line-requires-clause-within g c =
    plain_within c.in_ok-chart.chart c.total-total.result (subst (λ (n : ℕ). All (λ span. span.start + span.weight ≤ n) c.in_ok-chart.chart) (sym c.total-total.ensures) c.in_ok-chart.ensures.within)

pub drawn_snapshot_line-line-requires-clause-positive : goal.drawn_snapshot_line-line-requires-clause-positive
drawn_snapshot_line-line-requires-clause-positive g c =
    plain_positive c.in_ok-chart.chart c.total-total.result (subst (λ (n : ℕ). 0 < length c.in_ok-chart.chart → 0 < n) (sym c.total-total.ensures) c.in_ok-chart.ensures.positive)

pub returns-clause-ok : goal.returns-clause-ok
returns-clause-ok g c =
    subst (λ (text : List ℕ). OnOk c.send_pieces.result (Appends (g.W.Outlet.contents c.args.out.now) (g.W.Outlet.contents c.send_pieces.new.out) text))
    (c.drawn_snapshot_line-line.ensures.text c.in_ok-chart.chart refl
    ∙ moment_text c.args.width c.args.at c.total-total.result c.args.growing.now c.counts.result.now (ranked_samples c.merged-stacks.result.now) c.in_ok-chart.chart (ap ranked_samples c.merged-stacks.ensures ∙ c.requires) c.counts.ensures
    c.total-total.ensures c.in_ok-chart.ensures.graph) c.send_pieces.ensures.ok

pub returns-clause-front : goal.returns-clause-front
returns-clause-front g c =
    subst (λ (text : List ℕ). OnErr c.send_pieces.result (AppendsFront text (g.W.Outlet.contents c.args.out.now) (g.W.Outlet.contents c.send_pieces.new.out)))
    (c.drawn_snapshot_line-line.ensures.text c.in_ok-chart.chart refl
    ∙ moment_text c.args.width c.args.at c.total-total.result c.args.growing.now c.counts.result.now (ranked_samples c.merged-stacks.result.now) c.in_ok-chart.chart (ap ranked_samples c.merged-stacks.ensures ∙ c.requires) c.counts.ensures
    c.total-total.ensures c.in_ok-chart.ensures.graph) c.send_pieces.ensures.front
