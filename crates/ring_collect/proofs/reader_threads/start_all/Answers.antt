use Rattle.std.proofs.Common.{◌≡◌, ◌+◌, ◌∙◌, ◌++◌, ◌∷◌, [], Err, sym, ap, subst, rules, map, length, arith, length-append}
use Rattle.std.proofs.lemmas.List.{map-append, length-map}
use Rattle.std.proofs.lemmas.Result.{IfOk-from_err}
use Rattle.std.specs.Arc.{arc_value}
use Rattle.std.specs.Vec.Iter.{into_iter_items}
use Rattle.ring_collect.specs.checked.RunningSources.{ArePromised, AreFresh, IsFresh, IsPromised}
use Rattle.ring_collect.specs.declared.faults.CollectFault.TheVariants.{Unfinished}
use Rattle.ring_collect.proofs.Outcomes.{error_said}
use Rattle.ring_collect.proofs.RunningSourceLemmas.{promised_of_more, promised_push, fresh_push, taken_all, taken_front}
use Rattle.ring_collect.proofs.reader_threads.start_all.Goals as goal

pub returns-in_err-running : goal.returns-in_err-running
returns-in_err-running g c =
    let so_far = c.loop-reader.invariant in
    let before = taken_front c.into_iter-reader-iterator.result c.loop-reader.yielded c.loop-reader.reader-iterator c.loop-reader.yielded_by in
    let gives : into_iter_items c.into_iter-reader-iterator.result ≡ c.args.readers.items = c.into_iter-reader-iterator.ensures.into_iter_gives.0 in
    let whole = sym gives ∙ before in
    record {
      promised = subst (λ readers. ArePromised (arc_value c.args.gate.now) readers (map (λ s. s.handle.promise) c.loop-reader.sources.items)) (sym whole)
          (promised_of_more so_far.promised (into_iter_items c.loop-reader.reader-iterator));
      all = IfOk-from_err _ _ c.from_residual.ensures.0;
      finished = λ source fault. c.in_err-running.ensures.finished source (ap (λ error. Err error) (sym (error_said _ c.from_residual.result (Unfinished source) c.from_residual.ensures.1 fault)));
      fresh = so_far.fresh;
    }

pub loop-reader-preserved : goal.loop-reader-preserved
loop-reader-preserved g c =
    let so_far = c.loop-reader.invariant in
    let all = c.loop-reader.sources.items in
    let started = c.in_ok-running.running in
    let pushed = c.in-Ok.ensures.items in
    let one_more = length-append c.loop-reader.yielded (c.in-Some.reader ∷ []) in
    record {
      ends = (tt, tt);
      started = ap length pushed ∙ length-append all (started ∷ []) ∙ ap (λ n. n + 1) so_far.started ∙ sym one_more;
      source = ap (λ n. n + 1) so_far.source ∙ sym one_more;
      rings = let popped = ap length c.in-Some-pop.ensures.items ∙ length-append c.pop.new.self.items (c.in-Some-pop.ends ∷ []) in let before = so_far.rings in omega arith;
      few = so_far.few;
      room = search rules;
      promised = subst (ArePromised (arc_value c.args.gate.now) (c.loop-reader.yielded ++ c.in-Some.reader ∷ [])) (sym (ap (map (λ s. s.handle.promise)) pushed ∙ map-append (λ s. s.handle.promise) all (started ∷ [])))
          (promised_push so_far.promised c.in-Some.reader started.handle.promise (length-map all (λ s. s.handle.promise) ∙ so_far.started) (subst (λ n. IsPromised (arc_value c.args.gate.now) n c.in-Some.reader started.handle.promise) so_far.source c.in_ok-running.ensures.promised));
      fresh = subst (AreFresh c.args.keeps) (sym (ap (map (λ s. s.intake)) pushed ∙ map-append (λ s. s.intake) all (started ∷ [])))
          (fresh_push started.intake so_far.fresh (subst (λ n. IsFresh c.args.keeps n started.intake) (so_far.source ∙ sym (length-map all (λ s. s.intake) ∙ so_far.started)) c.in_ok-running.ensures.fresh));
    }

-- all readers were given
whole : (g : _) (c : goal.After-drop-rings-2 g) → c.args.readers.items ≡ c.loop-reader.yielded
whole g c =
    taken_all c.into_iter-reader-iterator.result c.loop-reader.yielded c.loop-reader.reader-iterator c.into_iter-reader-iterator.ensures.into_iter_gives.0
    c.loop-reader.yielded_by (let ok = c.loop-reader.reader-iterator.rest.ok.0 in let none = c.in-None.ensures.steps.0 in omega arith)

pub returns : goal.returns
returns g c =
    let so_far = c.loop-reader.invariant in
    record {
      promised = subst (λ readers. ArePromised (arc_value c.args.gate.now) readers (map (λ s. s.handle.promise) c.loop-reader.sources.items)) (sym (whole g c)) so_far.promised;
      all = so_far.started ∙ ap length (sym (whole g c));
      finished = λ source fault. cc;
      fresh = so_far.fresh;
    }

pub loop-reader-init : goal.loop-reader-init
loop-reader-init g c = search rules

pub unreachable-unreachable : goal.unreachable-unreachable
unreachable-unreachable g c = search rules

pub unreachable-unreachable-in_default-push : goal.unreachable-unreachable-in_default-push
unreachable-unreachable-in_default-push g c = search rules

pub overflow_add-source : goal.overflow_add-source
overflow_add-source g c = search rules
