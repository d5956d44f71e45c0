use Rattle.std.proofs.Common.{List, subst, sym}
use Rattle.std.specs.Arc.{arc_value}
use Rattle.stack_core.specs.Ledgers.{ListState}
use Rattle.ring_collect.specs.Collection.{AreWhole, Collects}
use Rattle.source_lists.specs.Sources.{rests_of}
use Rattle.source_views.proofs.whole_run.views.Goals as goal

pub returns-clause-collected_lists : goal.returns-clause-collected_lists
returns-clause-collected_lists g c =
    subst (λ (lists : List ListState). Collects (g.G.Gate.may_stop (arc_value c.args.gate)) (g.G.Gate.may_go (arc_value c.args.gate)) (rests_of c.args.options.now c.args.sources.items) lists) (sym c.in_ok-of.ensures.lists)
    c.in_ok-run.ensures.reads.collected

pub returns-clause-whole_lists : goal.returns-clause-whole_lists
returns-clause-whole_lists g c = λ open_.
    subst (λ (lists : List ListState). AreWhole (rests_of c.args.options.now c.args.sources.items) lists) (sym c.in_ok-of.ensures.lists) (c.in_ok-run.ensures.reads.whole open_)
