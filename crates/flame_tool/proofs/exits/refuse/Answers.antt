use Rattle.std.proofs.Common.{inl, inr, refl, rules, subst, sym}
use Rattle.flame_tool.specs.KnownRuns.{RefusalShows, change}
use Rattle.flame_tool.proofs.exits.refuse.Goals as goal

pub returns-in-Words : goal.returns-in-Words
returns-in-Words g c =
    let out = change (g.W.Outlet.contents c.args.out.now) (g.W.Outlet.contents c.args.out.now) (g.W.Outlet.failures c.args.out.now) (g.W.Outlet.failures c.args.out.now) in
    let err = change (g.E.Outlet.contents c.args.err.now) (g.E.Outlet.contents c.send.new.out) (g.E.Outlet.failures c.args.err.now) (g.E.Outlet.failures c.send.new.out) in
    subst (λ fault. RefusalShows fault 2 out err (g.W.Outlet.is_flushed c.args.out.now)) (sym c.in-Words.is) (refl, search rules, search rules)

pub returns-in-Ok : goal.returns-in-Ok
returns-in-Ok g c =
    let out = change (g.W.Outlet.contents c.args.out.now) (g.W.Outlet.contents c.send-in-Help.new.out) (g.W.Outlet.failures c.args.out.now) (g.W.Outlet.failures c.send-in-Help.new.out) in
    let err = change (g.E.Outlet.contents c.args.err.now) (g.E.Outlet.contents c.args.err.now) (g.E.Outlet.failures c.args.err.now) (g.E.Outlet.failures c.args.err.now) in
    subst (λ fault. RefusalShows fault 0 out err (g.W.Outlet.is_flushed c.send-in-Help.new.out)) (sym c.in-Help.is) (inl (refl, search rules, search rules, search rules))

pub returns-in-Help : goal.returns-in-Help
returns-in-Help g c =
    let failed = c.report_failure.new.err in
    let out = change (g.W.Outlet.contents c.args.out.now) (g.W.Outlet.contents c.send-in-Help.new.out) (g.W.Outlet.failures c.args.out.now) (g.W.Outlet.failures c.send-in-Help.new.out) in
    let err = change (g.E.Outlet.contents c.args.err.now) (g.E.Outlet.contents failed) (g.E.Outlet.failures c.args.err.now) (g.E.Outlet.failures failed) in
    subst (λ fault. RefusalShows fault 3 out err (g.W.Outlet.is_flushed c.send-in-Help.new.out)) (sym c.in-Help.is) (inr (refl, (c.in-Err.field-0.written, search rules), search rules))

pub returns : goal.returns
returns g c =
    let failed = c.report_failure-in-OutOfMemory.new.err in
    let out = change (g.W.Outlet.contents c.args.out.now) (g.W.Outlet.contents c.args.out.now) (g.W.Outlet.failures c.args.out.now) (g.W.Outlet.failures c.args.out.now) in
    let err = change (g.E.Outlet.contents c.args.err.now) (g.E.Outlet.contents failed) (g.E.Outlet.failures c.args.err.now) (g.E.Outlet.failures failed) in
    subst (λ fault. RefusalShows fault 3 out err (g.W.Outlet.is_flushed c.args.out.now)) (sym c.in-OutOfMemory.is) (refl, search rules, search rules)
