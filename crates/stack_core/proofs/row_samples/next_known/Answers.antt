use Rattle.std.proofs.lemmas.Result.{IfOk-weaker, on_err_weaker}
use Rattle.stack_core.specs.RowReading.{StepsAmong, StepsByRows}
use Rattle.stack_core.proofs.GivenLemmas.{rest_known, step_known}
use Rattle.stack_core.proofs.row_samples.next_known.Goals as goal

pub returns-clause-step : goal.returns-clause-step
returns-clause-step g c =
    let r = g.R.RowReader in
    let rest = g.R.KnownRows.rest in
    let old = c.args.reader.now in
    let new = c.next_row.new.self in
    IfOk-weaker c.next_row.result (λ step. StepsAmong (r.gives old) (r.gives new) (r.told old) step (r.told new)) (λ step. StepsByRows (r.told old) (rest old) step (r.told new) (rest new))
    (λ step. step_known g.met.R.KnownRows.gives_rest g.met.R.KnownRows.gives_no_other old new (r.told old) (r.told new) step) c.next_row.ensures.step

pub returns-clause-refused : goal.returns-clause-refused
returns-clause-refused g c =
    on_err_weaker c.next_row.result (rest_known g.met.R.KnownRows.gives_rest g.met.R.KnownRows.gives_no_other c.args.reader.now c.next_row.new.self) c.next_row.ensures.refused

pub returns-clause-few : goal.returns-clause-few
returns-clause-few g c = c.next_row.ensures.few (g.R.KnownRows.rest c.args.reader.now) (g.met.R.KnownRows.gives_rest c.args.reader.now)
