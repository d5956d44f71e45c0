use Rattle.std.proofs.Common.{◌≡◌, refl}
use Rattle.std.proofs.lemmas.Result.{IfOk-weaker, on_err_weaker}
use Rattle.stack_core.specs.RowReading.{StepsAmong, StepsByRows}
use Rattle.stack_core.proofs.GivenLemmas.{few_among, rest_among, step_among}
use Rattle.ring_collect.specs.checked.Numbering.{told_of, with_waiting}
use Rattle.ring_collect.proofs.numbering.NumberingReaderRowReader.next_row.Goals as goal

pub returns-clause-step : goal.returns-clause-step
returns-clause-step g c =
    let was = c.args.self.now in
    let now = c.next_step.new.self in
    let old = with_waiting was.waiting (g.R.SampleReader.rest was.reader) in
    let new = with_waiting now.waiting (g.R.SampleReader.rest now.reader) in
    let told = told_of was.names was.stacks in
    let told' = told_of now.names now.stacks in
    IfOk-weaker c.next_step.result (λ step. StepsByRows told old step told' new) (λ step. StepsAmong (λ rest. rest ≡ old) (λ rest. rest ≡ new) told step told') (step_among told told') c.next_step.ensures.step

pub returns-clause-refused : goal.returns-clause-refused
returns-clause-refused g c = on_err_weaker c.next_step.result rest_among c.next_step.ensures.refused

pub returns-clause-few : goal.returns-clause-few
returns-clause-few g c = few_among c.next_step.ensures.few

pub returns-clause-possible : goal.returns-clause-possible
returns-clause-possible g c =
    let now = c.next_step.new.self in
    record { rest = with_waiting now.waiting (g.R.SampleReader.rest now.reader); is_given = refl }
