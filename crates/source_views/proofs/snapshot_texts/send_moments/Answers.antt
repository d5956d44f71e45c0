use Rattle.std.proofs.Common.{◌≡◌, ◌∙◌, ◌+◌, ap, arith, get_or, length, replicate, rules, subst, sym, List}
use Rattle.std.proofs.KnownBytes.{Appends-nil, Appends-trans}
use Rattle.std.specs.Io.KnownBytes.{Appends}
use Rattle.sample_tables.specs.declared.samples.Sample.{Sample}
use Rattle.stack_core.specs.Ledgers.{ListState}
use Rattle.std.proofs.lemmas.List.{length-map}
use Rattle.stack_core.specs.Interleaving.{list_of}
use Rattle.byte_io.proofs.PieceTexts.{on_err}
use Rattle.merged_stacks.specs.Timeline.{samples_of}
use Rattle.source_views.specs.checked.Moments.{due_line}
use Rattle.source_views.proofs.SnapshotLines.{AreCounted, counted_next, lines_front, none_counted, lines_more, lines_upto, next_lent, no_lines}
use Rattle.source_views.proofs.snapshot_texts.send_moments.Goals as goal

pub loop-source-init : goal.loop-source-init
loop-source-init g c = record {
  lists = c.in_ok-growing.ensures.lists ∙ ap samples_of c.lists.ensures.lists;
  counted = none_counted _ (samples_of c.args.sources.now.lists) c.args.sources.now.order
      (c.in_ok-growing.ensures.counts ∙ ap (λ n. replicate n 0) (ap length c.lists.ensures.lists ∙ sym (length-map c.args.sources.now.lists (λ (list : ListState). list.samples))));
  moment = search rules;
  sent = subst (Appends (g.W.Outlet.contents c.args.out.now) (g.W.Outlet.contents c.args.out.now)) (sym (no_lines c.args.width c.args.every (samples_of c.args.sources.now.lists) c.args.sources.now.order)) (Appends-nil (g.W.Outlet.contents c.args.out.now));
  unfailed = search rules;
}

pub take-requires-clause-source : goal.take-requires-clause-source
take-requires-clause-source g c =
    let run = c.args.sources.now in
    let lent = c.order-source-items.ensures in
    let next = next_lent run.order c.order-source-items.result.now c.loop-source.source-index (samples_of run.lists) lent.ordered lent.order (omega arith) in
    omega (arith, next.0, ap length c.loop-source.invariant.lists)

pub take-requires-clause-more : goal.take-requires-clause-more
take-requires-clause-more g c =
    let run = c.args.sources.now in
    let lent = c.order-source-items.ensures in
    let source = get_or c.order-source-items.result.now c.loop-source.source-index 0 in
    let next = next_lent run.order c.order-source-items.result.now c.loop-source.source-index (samples_of run.lists) lent.ordered lent.order (omega arith) in
    omega (arith, next.1, c.loop-source.invariant.counted.each source next.0, ap (λ (lists : List (List Sample)). length (list_of lists source)) c.loop-source.invariant.lists)

pub returns-in_err-send_due-clause-front : goal.returns-in_err-send_due-clause-front
returns-in_err-send_due-clause-front g c =
    let run = c.args.sources.now in
    let lists = samples_of run.lists in
    let lent = c.order-source-items.ensures in
    let p = c.loop-source.source-index in
    on_err c.from_residual-in_err-send_due.result
    (lines_front c.args.width c.args.every p (c.loop-source.at + 1) (length run.order) c.take.new.self lists run.order _ _ _ c.requires (ap (λ n. n + 1) c.loop-source.invariant.moment) (omega (arith, ap length lent.order))
    (c.take.ensures.lists ∙ c.loop-source.invariant.lists)
    (counted_next c.loop-source.growing.counts c.take.new.self.counts p run.order c.order-source-items.result.now lists lent.ordered lent.order (omega arith) c.take.ensures.counts c.loop-source.invariant.counted) c.loop-source.invariant.sent
    c.in_err-send_due.ensures.front)

pub loop-source-preserved : goal.loop-source-preserved
loop-source-preserved g c =
    let run = c.args.sources.now in
    let lists = samples_of run.lists in
    let lent = c.order-source-items.ensures in
    let p = c.loop-source.source-index in
    let same = c.take.ensures.lists ∙ c.loop-source.invariant.lists in
    let counted = counted_next c.loop-source.growing.counts c.take.new.self.counts p run.order c.order-source-items.result.now lists lent.ordered lent.order (omega arith) c.take.ensures.counts c.loop-source.invariant.counted in
    let moment : c.loop-source.at + 1 ≡ p + 1 = ap (λ n. n + 1) c.loop-source.invariant.moment in
    record {
      lists = c.in_ok-send_due.ensures.lists ∙ same;
      counted = subst (λ counts. AreCounted counts (p + 1) run.order lists) (sym c.in_ok-send_due.ensures.counts) counted;
      moment = moment;
      sent =
          subst (Appends (g.W.Outlet.contents c.args.out.now) (g.W.Outlet.contents c.send_due.new.out)) (lines_more c.args.width c.args.every p (c.loop-source.at + 1) c.take.new.self lists run.order c.requires moment same counted)
          (Appends-trans _ _ _ (lines_upto c.args.width c.args.every lists run.order p) (due_line c.args.width c.args.every (c.loop-source.at + 1) c.take.new.self) c.loop-source.invariant.sent c.in_ok-send_due.ensures.ok);
      unfailed = search rules;
    }
