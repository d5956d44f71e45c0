use Rattle.std.proofs.Common.{rules, ◌≡◌, ◌∙◌, ◌++◌, codes, decimal, ap, subst, append-nil}
use Rattle.source_views.specs.Messages.{Tells, message}
use Rattle.source_views.proofs.MessageTexts.{told_of_some}
use Rattle.source_views.proofs.messages.report_ignored.Goals as goal

pub returns-then-ignored-gt0 : goal.returns-then-ignored-gt0
returns-then-ignored-gt0 g c =
    let digits : c.format.result.now ≡ decimal c.args.ignored = search rules in
    let same = ap (λ digits. c.args.path.now ++ (codes ": ignored " ++ digits)) (append-nil c.format.result.now ∙ digits) in
    record {
      told = told_of_some c.args.ignored _ _ _ _ _ c.if-ignored-gt0.true
          (subst (λ said. Tells (message said) (g.E.Outlet.contents c.args.err.now) (g.E.Outlet.contents c.write_line.new.err) (g.E.Outlet.failures c.args.err.now) (g.E.Outlet.failures c.write_line.new.err))
          same c.write_line.ensures.told);
    }
