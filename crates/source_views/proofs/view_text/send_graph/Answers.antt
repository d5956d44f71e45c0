use Rattle.std.proofs.Common.{subst, ℕ, List}
use Rattle.merged_stacks.specs.Timeline.{samples_of}
use Rattle.merging.specs.Sums.{all_samples}
use Rattle.source_views.specs.Failures.{Sends}
use Rattle.source_views.proofs.view_text.send_graph.Goals as goal

pub drawn_graph-line-requires : goal.drawn_graph-line-requires
drawn_graph-line-requires g c =
    let samples = all_samples (samples_of c.args.sources.lists) in
    (samples, c.in_ok-chart.ensures.graph samples c.in_ok-merged.ensures, c.total-total.ensures)

pub returns-clause-sent : goal.returns-clause-sent
returns-clause-sent g c =
    let samples = all_samples (samples_of c.args.sources.lists) in
    subst (λ (text : List ℕ). Sends text (g.W.Outlet.contents c.args.out.now) (g.W.Outlet.contents c.send.new.out) c.send.result)
    (c.drawn_graph-line.ensures.text samples (c.in_ok-chart.ensures.graph samples c.in_ok-merged.ensures) c.total-total.ensures) c.send.ensures.sent
