use Rattle.std.proofs.Common.{◌∙◌, ◌+◌, ◌<◌, ℕ, sym, subst, slice_get, IfSome, IsSome}
use borrow.Author.Count.{below_more}
use Rattle.ring_collect.proofs.RoundLemmas.{goes_on-trans}
use Rattle.ring_collect.proofs.RunLemmas.{as_many}
use Rattle.ring_collect.proofs.rounds.Collector.look_round.Goals as goal

pub loop-source-preserved : goal.loop-source-preserved
loop-source-preserved g c =
    let so_far = c.loop-source.invariant in
    let looked = c.visit-look.ensures in
    record {
      count = as_many c.loop-source.self.sources.items c.visit-look.new.self.sources.items looked.goes.handles ∙ so_far.count;
      goes = goes_on-trans so_far.goes looked.goes;
      closed = λ closed.
          let both = c.and-round.ensures.closed closed in
          let here = looked.closed both.1 in
          subst (λ items. (source : ℕ) → source < c.loop-source.source + 1 → IfSome (slice_get items source) (λ running. IsSome running.intake.close)) (sym here.0)
          (below_more (λ source. IfSome (slice_get c.loop-source.self.sources.items source) (λ running. IsSome running.intake.close)) c.loop-source.source (so_far.closed both.0) here.1);
    }

pub returns-clause-goes : goal.returns-clause-goes
returns-clause-goes g c = c.loop-source.invariant.goes
