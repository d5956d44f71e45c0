use Rattle.std.proofs.Common.{◌∙◌, List, ℕ, ap, length, subst}
use Rattle.page_texts.specs.Document.{document_text}
use Rattle.source_views.specs.Pages.{growing_page}
use Rattle.merging.specs.Snapshots.{samples_of_pairs}
use Rattle.live_lines.specs.checked.Sends.{WasSent}
use Rattle.live_lines.proofs.FrameLemmas.{page_now}
use Rattle.live_lines.proofs.moments.send_page.Goals as goal

pub returns : goal.returns
returns g c =
    let m = c.args.moment.now in
    let pairs = c.args.rows.now in
    let samples = samples_of_pairs pairs in
    let text = ap (λ more. document_text (growing_page more samples)) c.has_more.ensures ∙ page_now m.line (length m.counts.now) m.width pairs in
    let sent = c.send_growing_page.ensures in
    let merged = c.in_ok-merged.ensures in
    let new = c.send_growing_page.new.out in
    subst (λ (text : List ℕ). WasSent text c.send_growing_page.result (g.W.Outlet.contents c.args.out.now) (g.W.Outlet.contents new)
    (g.W.Outlet.failures c.args.out.now) (g.W.Outlet.failures new) (g.W.Outlet.is_flushed new)) text
    (record {
      ok = sent.ok samples merged;
      flushed = sent.flushed;
      front = sent.front samples merged;
      output = sent.output;
      unfailed = sent.unfailed;
    })
