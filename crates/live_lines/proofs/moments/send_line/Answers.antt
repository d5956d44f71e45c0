use Rattle.std.proofs.Common.{◌∙◌, List, ℕ, rules, subst}
use Rattle.byte_io.proofs.PieceTexts.{on_err}
use Rattle.merging.specs.Snapshots.{samples_of_pairs}
use Rattle.source_views.proofs.SnapshotLines.{front_of_nothing}
use Rattle.source_views.proofs.TextLemmas.{graph_positive, graph_within}
use Rattle.live_lines.specs.checked.Sends.{WasSent}
use Rattle.live_lines.proofs.MergeLemmas.{same_merged, shown_now}
use Rattle.live_lines.proofs.moments.send_line.Goals as goal

pub json_line-line-requires-clause-within : goal.json_line-line-requires-clause-within
json_line-line-requires-clause-within g c =
    let samples = samples_of_pairs c.args.rows.now in
    graph_within samples c.in_ok-chart.chart c.total.result (c.in_ok-chart.ensures.graph samples (same_merged samples _ c.in_ok-merged.ensures)) c.total.ensures

pub json_line-line-requires-clause-positive : goal.json_line-line-requires-clause-positive
json_line-line-requires-clause-positive g c =
    let samples = samples_of_pairs c.args.rows.now in
    graph_positive samples c.in_ok-chart.chart c.total.result (c.in_ok-chart.ensures.graph samples (same_merged samples _ c.in_ok-merged.ensures)) c.total.ensures

pub returns : goal.returns
returns g c =
    let m = c.args.moment.now in
    let samples = samples_of_pairs c.args.rows.now in
    let drawn = c.in_ok-chart.ensures.graph samples (same_merged samples _ c.in_ok-merged.ensures) in
    let line = shown_now m.line c.args.rows.now m.counts.now m.at m.width c.total.result c.in_ok-chart.chart c.requires c.total.ensures drawn in
    let sent = c.send_pieces.ensures in
    let new = c.send_pieces.new.out in
    subst (λ (text : List ℕ). WasSent text c.send_pieces.result (g.W.Outlet.contents c.args.out.now) (g.W.Outlet.contents new)
    (g.W.Outlet.failures c.args.out.now) (g.W.Outlet.failures new) (g.W.Outlet.is_flushed new)) (c.json_line-line.ensures.text ∙ line)
    (record { ok = sent.ok; flushed = sent.flushed; front = sent.front; output = sent.output; unfailed = sent.unfailed })

pub returns-in_err-chart : goal.returns-in_err-chart
returns-in_err-chart g c = record {
  ok = search rules;
  flushed = search rules;
  front = on_err c.from_residual-in_err-chart.result (front_of_nothing _ _);
  output = search rules;
  unfailed = search rules;
}
