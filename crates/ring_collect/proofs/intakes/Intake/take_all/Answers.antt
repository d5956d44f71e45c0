use Rattle.std.proofs.Common.{◌≡◌, ◌∙◌, [], refl}
use Rattle.std.specs.Vec.Iter.{into_iter_items}
use Rattle.ring_collect.specs.checked.Intakes.{Brings}
use Rattle.ring_collect.specs.checked.Rings.{IsGathered}
use Rattle.ring_collect.proofs.FlatLemmas.{along_steps, next_of, one_came}
use Rattle.ring_collect.proofs.IntakeLemmas.{brings_nothing, brings_on}
use Rattle.ring_collect.proofs.intakes.Intake.take_all.Goals as goal

pub loop-step-init : goal.loop-step-init
loop-step-init g c =
    let steps : into_iter_items c.into_iter-step-iterator.result ≡ c.popped.inside.steps.items = c.into_iter-step-iterator.ensures.into_iter_gives.0 in
    record {
      origin = refl;
      consumer = refl;
      unclosed = c.requires.unclosed;
      left = record {
        front = [];
        is_all = rw (steps, c.into_iter.ensures.rest, c.as_slice.ensures.value) c.popped.view_is;
        fit = rw (steps, c.into_iter.ensures.rest, c.as_slice.ensures.value) c.popped.invariant;
        holds = brings_nothing c.args.self.now c.requires.unclosed;
      };
      setting = refl;
    }

pub take_step-requires-clause-limits : goal.take_step-requires-clause-limits
take_step-requires-clause-limits g c = next_of IsGathered (along_steps c.in-Some.ensures.steps.0 c.loop-step.invariant.left) c.requires.limits

pub loop-step-preserved : goal.loop-step-preserved
loop-step-preserved g c =
    let so_far = c.loop-step.invariant in
    let was = c.args.self.now in
    let new = c.take_step.new.self in
    let left = along_steps c.in-Some.ensures.steps.0 so_far.left in
    let step = c.take_step.ensures in
    record {
      origin = step.origin ∙ so_far.origin;
      consumer = step.consumer ∙ so_far.consumer;
      unclosed = step.unclosed;
      left = one_came {Holds' = λ front. Brings front was new (g.F.Feed.taken c.args.sink.now) (g.F.Feed.taken c.take_step.new.sink) c.args.order.now.items c.take_step.new.order.items} left step.names step.frames
          (brings_on was c.loop-step.self new left.front _ so_far.origin so_far.unclosed step.dropping left.holds step.brings);
      setting = step.setting ∙ so_far.setting;
    }
