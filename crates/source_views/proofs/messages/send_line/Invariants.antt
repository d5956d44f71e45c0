-- The parts so far were sent behind the front of the line, and no call failed.
use Rattle.std.proofs.Common.{◌≡◌, ◌++◌, codes, map, take}
use Rattle.std.specs.List.{concat}
use Rattle.std.specs.Io.KnownBytes.{Appends}
use Rattle.source_views.proofs.messages.send_line.Given as goal

abbrev pub invariant-loop-part : goal.invariant-loop-part
invariant-loop-part g l = record {
  sent : Appends (g.E.Outlet.contents l.fn.err) (g.E.Outlet.contents l.err)
      (codes "flamecollect: " ++ concat (map (λ part. part.now) (take l.part-index l.parts)));
  counted : g.E.Outlet.failures l.err ≡ g.E.Outlet.failures l.fn.err;
}
