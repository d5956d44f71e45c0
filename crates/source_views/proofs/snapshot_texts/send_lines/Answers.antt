use Rattle.std.proofs.Common.{length, subst, List, ℕ}
use Rattle.std.proofs.KnownBytes.{Appends-trans}
use Rattle.std.proofs.lemmas.Result.{on_ok_weaker, on_err_weaker}
use Rattle.std.specs.Io.KnownBytes.{Appends}
use Rattle.byte_io.specs.Pieces.{AppendsFront}
use Rattle.byte_io.proofs.PieceTexts.{on_err}
use Rattle.merged_stacks.specs.Timeline.{samples_of}
use Rattle.merging.specs.Sums.{all_samples}
use Rattle.source_views.specs.Texts.{graph_line}
use Rattle.source_views.proofs.SnapshotLines.{front_after, front_more, lines_upto}
use Rattle.source_views.proofs.snapshot_texts.send_lines.Goals as goal

pub returns-in_err-send_moments-clause-front : goal.returns-in_err-send_moments-clause-front
returns-in_err-send_moments-clause-front g c =
    let run = c.args.sources.now in
    let lists = samples_of run.lists in
    on_err c.from_residual.result (front_more (lines_upto c.args.width c.args.every lists run.order (length run.order)) (graph_line c.args.width (all_samples lists)) _ _ c.in_err-send_moments.ensures.front)

pub returns-clause-ok : goal.returns-clause-ok
returns-clause-ok g c =
    let run = c.args.sources.now in
    let lists = samples_of run.lists in
    on_ok_weaker c.send_pieces.result (λ gone.
    Appends-trans _ _ _ (lines_upto c.args.width c.args.every lists run.order (length run.order)) (graph_line c.args.width (all_samples lists)) c.in_ok-send_moments.ensures.ok
    (subst (λ (text : List ℕ). Appends (g.W.Outlet.contents c.send_moments.new.out) (g.W.Outlet.contents c.send_pieces.new.out) text) (c.drawn_graph-line.ensures.text (all_samples lists) c.requires.boxes c.total.ensures.total) gone)) c.send_pieces.ensures.ok

pub returns-clause-front : goal.returns-clause-front
returns-clause-front g c =
    let run = c.args.sources.now in
    let lists = samples_of run.lists in
    on_err_weaker c.send_pieces.result (λ gone.
    front_after (lines_upto c.args.width c.args.every lists run.order (length run.order)) (graph_line c.args.width (all_samples lists)) _ _ _ c.in_ok-send_moments.ensures.ok
    (subst (λ (text : List ℕ). AppendsFront text (g.W.Outlet.contents c.send_moments.new.out) (g.W.Outlet.contents c.send_pieces.new.out)) (c.drawn_graph-line.ensures.text (all_samples lists) c.requires.boxes c.total.ensures.total) gone)) c.send_pieces.ensures.front

pub drawn_graph-line-requires : goal.drawn_graph-line-requires
drawn_graph-line-requires g c = (all_samples (samples_of c.args.sources.now.lists), c.requires.boxes, c.total.ensures.total)
