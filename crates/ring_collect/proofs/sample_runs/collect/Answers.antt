use Rattle.std.proofs.Common.{◌≡◌, List, refl, ap, subst}
use Rattle.std.proofs.lemmas.List.{length-map}
use Rattle.std.proofs.lemmas.Result.{IfOk-from_err, IfOk-weaker}
use Rattle.std.specs.Arc.{arc_value}
use Rattle.stack_core.specs.Reading.{Rest}
use Rattle.ring_collect.specs.Collection.{AnswersRun, Unfinishes}
use Rattle.ring_collect.specs.declared.faults.CollectFault.TheVariants.{Unfinished}
use Rattle.ring_collect.specs.checked.Numbering.{with_waiting}
use Rattle.ring_collect.proofs.GivenRests.{known_such}
use Rattle.ring_collect.proofs.Outcomes.{error_said}
use Rattle.ring_collect.proofs.RunLemmas.{allows_nothing, gains_nothing}
use Rattle.ring_collect.proofs.sample_runs.collect.Goals as goal

pub returns-in_err-readers : goal.returns-in_err-readers
returns-in_err-readers g c = record {
  lists = IfOk-from_err _ _ c.from_residual.ensures.0;
  whole = λ _. IfOk-from_err _ _ c.from_residual.ensures.0;
  told = IfOk-from_err _ _ c.from_residual.ensures.0;
  distinct = IfOk-from_err _ _ c.from_residual.ensures.0;
  order = IfOk-from_err _ _ c.from_residual.ensures.0;
  sink = IfOk-from_err _ _ c.from_residual.ensures.0;
  by_source = IfOk-from_err _ _ c.from_residual.ensures.0;
  refused = λ _. gains_nothing _ _;
  popped = λ _. allows_nothing _ _;
  unfinished = λ source fault. let other = error_said _ c.from_residual.result (Unfinished source) c.from_residual.ensures.1 fault in cc;
  setting = refl;
}

pub returns : goal.returns
returns g c =
    let taken = g.S.Sink.taken c.args.sink.now in
    let taken' = g.S.Sink.taken c.collect_by.new.sink in
    let gate = arc_value c.args.gate in
    let rest = g.R.SampleReader.rest in
    let answers = λ (rests : List Rest). AnswersRun (g.G.Gate.may_stop gate) (g.G.Gate.may_go gate) rests taken taken' c.collect_by.result in
    let answer = subst answers c.in_ok-readers.ensures.rests (known_such (λ one given. given ≡ with_waiting one.waiting (rest one.reader)) (λ one. with_waiting one.waiting (rest one.reader)) (λ one other is. is) c.in_ok-readers.readers.items answers c.collect_by.ensures.answer) in
    record {
      lists = IfOk-weaker c.collect_by.result _ _ (λ run collected. collected.lists) answer.run;
      whole = λ never. IfOk-weaker c.collect_by.result _ _ (λ run collected. collected.whole never) answer.run;
      told = IfOk-weaker c.collect_by.result _ _ (λ run collected. collected.told) answer.run;
      distinct = IfOk-weaker c.collect_by.result _ _ (λ run collected. collected.distinct) answer.run;
      order = IfOk-weaker c.collect_by.result _ _ (λ run collected. collected.order) answer.run;
      sink = IfOk-weaker c.collect_by.result _ _ (λ run collected. collected.sink) answer.run;
      by_source = IfOk-weaker c.collect_by.result _ _ (λ run collected. collected.by_source) answer.run;
      refused = answer.refused;
      popped = answer.popped;
      unfinished = λ source fault. subst (λ n. Unfinishes n source taken taken') (length-map c.args.readers.items g.R.SampleReader.rest) (answer.unfinished source fault);
      setting = ap (λ kept. kept.numbers) c.collect_by.ensures.setting;
    }
