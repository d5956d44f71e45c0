use Rattle.std.proofs.Common.{◌∙◌, IsTrue, ap, false, inr, refl, subst}
use Rattle.flame_tool.specs.Delivery.{is_whole_live}
use Rattle.flame_tool.specs.KnownRuns.{LiveShows, as_streams, change}
use Rattle.flame_tool.specs.checked.Renewals.{all_bytes, renewal_bytes}
use Rattle.flame_tool.proofs.delivery.deliver_pages.Goals as goal

pub returns-then-close_renewal : goal.returns-then-close_renewal
returns-then-close_renewal g c =
    let shown = c.live-status in
    let streams = c.args.streams.now in
    let begun = c.new-out.result.writer in
    let left = shown.new.out.writer in
    let before = all_bytes (g.D.Outputs.placed begun.start.value) (g.D.Outputs.placed begun.outputs.now) (renewal_bytes g.D.Writer.Outlet.contents begun.renewal) in
    let after = all_bytes (g.D.Outputs.placed left.start.value) (g.D.Outputs.placed left.outputs.now) (renewal_bytes g.D.Writer.Outlet.contents left.renewal) in
    inr (record {
      before = before;
      empty = λ known. ap (λ file. all_bytes (g.D.Outputs.placed file.start.value) (g.D.Outputs.placed file.outputs.now) (renewal_bytes g.D.Writer.Outlet.contents file.renewal)) c.new-out.ensures.inner ∙ c.in-Ok.ensures.empty known;
      after = after;
      failures = shown.new.out.failures;
      is_whole = is_whole_live shown.result;
      is_flushed = shown.new.out.flushed;
      ran = record {
        plan = c.in-Some.plan;
        asked = c.in-Some.ensures.plan;
        live = c.in-Some.ensures.form;
        shows = subst (λ n. LiveShows false c.in-Some.plan (as_streams (g.S.Streams.known_input streams) (g.S.Streams.known_file streams) (g.S.Streams.is_absent streams) g.S.Streams.may_have_terminal) shown.result
            (change before after n shown.new.out.failures) (change (g.E.Outlet.contents c.args.err.now) (g.E.Outlet.contents shown.new.err) (g.E.Outlet.failures c.args.err.now) (g.E.Outlet.failures shown.new.err)) (IsTrue shown.new.out.flushed)) c.new-out.ensures.count shown.ensures;
        whole = refl;
      };
    })
