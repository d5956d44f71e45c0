use Rattle.std.proofs.Common.{◌≡◌, ◌<◌, ◌^◌, IfOk, OnErr, length, refl, sym, subst}
use Rattle.std.proofs.lemmas.Result.{IfOk-weaker, on_err_weaker}
use Rattle.stack_core.specs.Reading.{Rest}
use Rattle.stack_core.specs.RowReading.{StepsAmong}
use Rattle.folded_lines.specs.State.{State}
use Rattle.folded_lines.specs.checked.KnownStreams.{known_gives, known_gives_no_other, known_rest}
use Rattle.folded_lines.proofs.StreamRows.{among_known, refused_known}
use Rattle.folded_lines.proofs.rows.FoldedRowsRowReader.next_row.Goals as goal

pub returns-clause-step : goal.returns-clause-step
returns-clause-step c =
    let old = c.self.inside.stream in
    let new = c.next_row.new.self in
    subst (λ (s : State). IfOk c.next_row.result (λ step. StepsAmong (λ (r : Rest). r ≡ s.rest) (λ r. r ≡ known_rest new.lines.inlet new.lines new.counts new.ended) s.told step new.telling)) c.self.view_is
    (IfOk-weaker c.next_row.result _ _
    (among_known (known_gives_no_other old.lines.inlet old.lines old.counts old.ended) (known_gives new.lines.inlet new.lines new.counts new.ended new.place) old.telling new.telling)
    c.next_row.ensures.step)

pub returns-clause-refused : goal.returns-clause-refused
returns-clause-refused c =
    let old = c.self.inside.stream in
    let new = c.next_row.new.self in
    subst (λ (s : State). OnErr c.next_row.result ((r : Rest) → r ≡ known_rest new.lines.inlet new.lines new.counts new.ended → r ≡ s.rest)) c.self.view_is
    (on_err_weaker c.next_row.result
    (refused_known (known_gives_no_other old.lines.inlet old.lines old.counts old.ended) (known_gives new.lines.inlet new.lines new.counts new.ended new.place))
    c.next_row.ensures.refused)

pub returns-clause-few : goal.returns-clause-few
returns-clause-few c = λ rest is.
    let old = c.self.inside.stream in
    let known = c.next_row.ensures.few (known_rest old.lines.inlet old.lines old.counts old.ended) (known_gives old.lines.inlet old.lines old.counts old.ended old.place) in
    subst (λ (r : Rest). length r.samples < 2 ^ 64) (sym is) (subst (λ (s : State). length s.rest.samples < 2 ^ 64) c.self.view_is known)

pub returns-clause-possible : goal.returns-clause-possible
returns-clause-possible c =
    let new = c.next_row.new.self in
    record { rest = known_rest new.lines.inlet new.lines new.counts new.ended; is_given = refl }
