use Rattle.std.proofs.Common.{rules, ◌≡◌, ◌∙◌, ◌++◌, codes, decimal, ap, subst, append-nil}
use Rattle.source_views.specs.Messages.{Tells, message}
use Rattle.source_views.proofs.messages.report_fault.Goals as goal

pub returns : goal.returns
returns g c =
    let digits : c.format.result.now ≡ decimal c.args.at = search rules in
    let same = ap (λ digits. c.args.path.now ++ (codes ": " ++ (c.args.kind.now ++ (codes " at " ++ digits)))) (append-nil c.format.result.now ∙ digits) in
    record {
      told = subst (λ said. Tells (message said) (g.E.Outlet.contents c.args.err.now) (g.E.Outlet.contents c.write_line.new.err) (g.E.Outlet.failures c.args.err.now) (g.E.Outlet.failures c.write_line.new.err))
          same c.write_line.ensures.told;
    }
