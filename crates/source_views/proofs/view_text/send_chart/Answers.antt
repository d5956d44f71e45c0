use Rattle.std.proofs.Common.{subst, ℕ, List}
use Rattle.source_views.specs.Failures.{Sends}
use Rattle.source_views.proofs.view_text.send_chart.Goals as goal

pub returns-clause-sent : goal.returns-clause-sent
returns-clause-sent g c = subst (λ (text : List ℕ). Sends text (g.W.Outlet.contents c.args.out.now) (g.W.Outlet.contents c.send.new.out) c.send.result) c.drawn_chart-line.ensures.text c.send.ensures.sent
