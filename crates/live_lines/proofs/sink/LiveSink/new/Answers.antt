use Rattle.std.proofs.Common.{ap, arith, length, subst, sym}
use Rattle.std.specs.Prelude.{None}
use Rattle.live_lines.specs.Ends.{has_lost}
use Rattle.live_lines.specs.Lines.{live_lines}
use Rattle.live_lines.specs.checked.Writes.{AreWritten}
use Rattle.live_lines.proofs.LineLemmas.{lines_none}
use Rattle.live_lines.proofs.WriteLemmas.{nothing_written, written_same}
use Rattle.live_lines.proofs.sink.LiveSink.new.Goals as goal

pub invariant_of-result : goal.invariant_of-result
invariant_of-result g c =
    let merge = c.args.merge in
    let out = c.args.out.now in
    let known = g.W.Outlet.contents out in
    let failures = g.W.Outlet.failures out in
    let lines = live_lines merge.form merge.sources c.args.width c.args.every merge.taken in
    let written = written_same _ lines None known known failures failures (lines_none merge.form merge.sources c.args.width c.args.every merge.taken c.requires.nothing) (nothing_written known failures) in
    let here = subst (λ (start : g.row.W.Denot). AreWritten lines None (g.W.Outlet.contents start) known (g.W.Outlet.failures start) failures) (sym c.of-start.ensures) written in
    record { whole = here.whole; front = here.front; counted = here.counted; positive = c.requires.every; flushed = λ none few. absurd (omega (arith, few, c.requires.every, ap length c.requires.nothing)); unlost = λ none. ap has_lost c.requires.untold }
