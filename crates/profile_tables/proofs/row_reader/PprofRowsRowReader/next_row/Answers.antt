use Rattle.std.proofs.Common.{◌≡◌, refl}
use Rattle.std.proofs.lemmas.Result.{IfOk-weaker, on_err_weaker}
use Rattle.stack_core.specs.RowReading.{StepsAmong, StepsByRows}
use Rattle.stack_core.proofs.GivenLemmas.{few_among, rest_among, step_among}
use Rattle.profile_tables.proofs.row_reader.PprofRowsRowReader.next_row.Goals as goal

pub returns-clause-step : goal.returns-clause-step
returns-clause-step c =
    let old = c.args.self.now in
    let new = c.next_step.new.self in
    IfOk-weaker c.next_step.result (λ step. StepsByRows old.told old.rest step new.told new.rest) (λ step. StepsAmong (λ rest. rest ≡ old.rest) (λ rest. rest ≡ new.rest) old.told step new.told)
    (step_among old.told new.told) c.next_step.ensures.step

pub returns-clause-refused : goal.returns-clause-refused
returns-clause-refused c = on_err_weaker c.next_step.result rest_among c.next_step.ensures.refused

pub returns-clause-few : goal.returns-clause-few
returns-clause-few c = few_among c.next_step.ensures.few

pub returns-clause-possible : goal.returns-clause-possible
returns-clause-possible c = record { rest = c.next_step.new.self.rest; is_given = refl }
