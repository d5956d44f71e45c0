use Rattle.std.proofs.Common.{List, subst, ℕ}
use Rattle.merged_stacks.specs.Timeline.{samples_of}
use Rattle.source_views.specs.Failures.{Sends}
use Rattle.page_texts.specs.Document.{document_text}
use Rattle.source_views.specs.Pages.{heading_of, snapshots_page}
use Rattle.flame_tool.proofs.sent_pages.send_graph_pages.Goals as goal

pub returns-in_ok-gathered-in-Some-clause-sent : goal.returns-in_ok-gathered-in-Some-clause-sent
returns-in_ok-gathered-in-Some-clause-sent g c =
    let made = c.in_ok-gathered-in-Some.ensures in
    subst (λ (text : List ℕ). Sends text (g.W.Outlet.contents c.args.out.now) (g.W.Outlet.contents c.send_snapshots_page.new.out) c.send_snapshots_page.result)
    (λ i. document_text (snapshots_page (heading_of c.args.heading.now) (samples_of (made.lists i)) (made.order i) (made.every i))) c.send_snapshots_page.ensures.sent
