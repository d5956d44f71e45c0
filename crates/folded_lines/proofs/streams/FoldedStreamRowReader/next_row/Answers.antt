use Rattle.std.proofs.Common.{Option, IsSome, sym, subst}
use Rattle.stack_core.specs.declared.endings.SourceEnd.{SourceEnd}
use Rattle.folded_lines.proofs.StreamRows.{few_by, last_by, on_err, possible_by, refused_by, step_by}
use Rattle.folded_lines.proofs.streams.FoldedStreamRowReader.next_row.Goals as goal

pub returns-in-Some-clause-possible : goal.returns-in-Some-clause-possible
returns-in-Some-clause-possible g c =
    let self = c.args.self.now in
    possible_by _ _ self.lines self.counts self.ended self.place

pub returns-in-Some-clause-few : goal.returns-in-Some-clause-few
returns-in-Some-clause-few g c =
    let self = c.args.self.now in
    few_by _ _ self.lines self.counts self.ended

pub returns-in_err-step-clause-refused : goal.returns-in_err-step-clause-refused
returns-in_err-step-clause-refused g c =
    let self = c.args.self.now in
    let new = c.next_stream_step.new in
    on_err _ c.from_residual.result (refused_by _ _ self.lines self.counts _ _ new.lines new.counts self.ended c.in_err-step.ensures.refused)

pub returns-in_err-step-clause-few : goal.returns-in_err-step-clause-few
returns-in_err-step-clause-few g c =
    let self = c.args.self.now in
    few_by _ _ self.lines self.counts self.ended

pub returns-in_err-step-clause-possible : goal.returns-in_err-step-clause-possible
returns-in_err-step-clause-possible g c =
    let new = c.next_stream_step.new in
    possible_by _ _ new.lines new.counts c.args.self.now.ended c.next_stream_step.ensures.place

pub returns-clause-step : goal.returns-clause-step
returns-clause-step g c =
    let self = c.args.self.now in
    let new = c.next_stream_step.new in
    step_by _ _ _ _ self.lines new.lines self.counts new.counts self.telling new.telling c.in_ok-step.step self.ended c.ending_of-self.result c.in_default.is c.ending_of-self.ensures c.in_ok-step.ensures.step

pub returns-clause-few : goal.returns-clause-few
returns-clause-few g c =
    let self = c.args.self.now in
    few_by _ _ self.lines self.counts self.ended

pub returns-clause-possible : goal.returns-clause-possible
returns-clause-possible g c =
    let new = c.next_stream_step.new in
    possible_by _ _ new.lines new.counts c.ending_of-self.result c.next_stream_step.ensures.place

pub returns-clause-ended : goal.returns-clause-ended
returns-clause-ended g c = λ last. subst (λ (e : Option SourceEnd). IsSome e) (sym c.ending_of-self.ensures) (last_by c.in_ok-step.step last)
