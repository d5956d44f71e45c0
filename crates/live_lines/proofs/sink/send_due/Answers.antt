use Rattle.std.proofs.Common.{length, rules}
use Rattle.std.specs.Io.KnownBytes.{Appends}
use Rattle.live_lines.specs.Lines.{moment_at}
use Rattle.live_lines.proofs.WriteLemmas.{whole_front}
use Rattle.live_lines.proofs.sink.send_due.Goals as goal

pub returns-in_default-clause-front : goal.returns-in_default-clause-front
returns-in_default-clause-front g c =
    let lines = c.args.lines.now in
    let m = lines.merge in
    let sent : Appends (g.W.Outlet.contents c.args.out.now) (g.W.Outlet.contents c.send.new.out)
    (moment_at c.args.lines.now.merge.form c.args.lines.now.merge.sources c.args.lines.now.width c.args.lines.now.merge.taken (length c.args.lines.now.merge.taken)) = search rules in
    whole_front (moment_at m.form m.sources lines.width m.taken (length m.taken)) _ _ sent
