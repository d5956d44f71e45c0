use Rattle.std.proofs.Common.{rules, ◌∙◌, ◌<◌, subst, sym}
use Rattle.ring_collect.proofs.RoundLemmas.{goes_on-alike, goes_on-trans}
use Rattle.ring_collect.proofs.RunLemmas.{as_many}
use Rattle.ring_collect.proofs.rounds.Collector.visit.Goals as goal

pub returns-then-ne : goal.returns-then-ne
returns-then-ne g c = c.look_at-first.ensures

pub loop-taken-init : goal.loop-taken-init
loop-taken-init g c = c.look_at-first.ensures.goes

pub look_at-requires : goal.look_at-requires
look_at-requires g c = subst (λ count. c.args.source < count) (sym (as_many c.args.self.now.sources.items c.loop-taken.self.sources.items c.loop-taken.invariant.handles)) c.requires

pub took-requires : goal.took-requires
took-requires g c =
    subst (λ count. c.args.source < count)
    (sym (as_many c.loop-taken.self.sources.items c.look_at.new.self.sources.items c.look_at.ensures.goes.handles
    ∙ as_many c.args.self.now.sources.items c.loop-taken.self.sources.items c.loop-taken.invariant.handles)) c.requires

pub took-requires-2 : goal.took-requires-2
took-requires-2 g c = subst (λ count. c.args.source < count) (sym (as_many c.args.self.now.sources.items c.loop-taken.self.sources.items c.loop-taken.invariant.handles)) c.requires

pub returns-then-ne-2-clause-goes : goal.returns-then-ne-2-clause-goes
returns-then-ne-2-clause-goes g c =
    goes_on-alike c.took.ensures.sources c.took.ensures.order c.took.ensures.refused (goes_on-trans c.loop-taken.invariant c.look_at.ensures.goes)

pub loop-taken-preserved : goal.loop-taken-preserved
loop-taken-preserved g c = goes_on-trans c.loop-taken.invariant c.look_at.ensures.goes

pub returns-clause-goes : goal.returns-clause-goes
returns-clause-goes g c = goes_on-alike c.took-2.ensures.sources c.took-2.ensures.order c.took-2.ensures.refused c.loop-taken.invariant

pub returns-then-ne-2-clause-closed : goal.returns-then-ne-2-clause-closed
returns-then-ne-2-clause-closed g c = search rules

pub returns-clause-closed : goal.returns-clause-closed
returns-clause-closed g c = search rules
