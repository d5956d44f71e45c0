use Rattle.std.proofs.Common.{◌≡◌, ◌+◌, ℕ, sym, subst, ◌∙◌}
use Rattle.sample_tables.specs.Rows.{ToldRows}
use Rattle.stack_core.specs.Reading.{Rest}
use Rattle.stack_core.specs.declared.endings.SourceEnd.TheVariants as ends
use Rattle.folded_lines.specs.declared.row_lines.RowLine.TheVariants as row
use Rattle.folded_lines.specs.checked.RowLines.{TellsLine}
use Rattle.folded_lines.specs.checked.Scanning.{ended}
use Rattle.folded_lines.specs.checked.StreamPlaces.{GivesAt}
use Rattle.folded_lines.proofs.StreamPlaceLemmas.{kept_gives, steps_again, steps_end, steps_new}
use Rattle.folded_lines.proofs.StreamSteps.{possible_at}
use Rattle.folded_lines.proofs.stream_steps.next_stream_step.Goals as goal

pub loop-counts-preserved : goal.loop-counts-preserved
loop-counts-preserved g c =
    let line = rw c.in-Ignored.is at c.in_ok-take_line.ensures.line in
    let tells = rw c.in-Ignored.is at c.in_ok-take_line.ensures.tells in
    record {
      place = c.in_ok-take_line.ensures.place;
      gives = λ rest given. c.loop-counts.invariant.gives rest
          (kept_gives _ _ _ _ c.loop-counts.lines c.find_line.new.self c.loop-counts.counts c.find_line.ensures.kept c.find_line.ensures.strictness rest (line rest given));
      told = tells ∙ c.loop-counts.invariant.told;
    }

pub returns-in-Fault-clause-step : goal.returns-in-Fault-clause-step
returns-in-Fault-clause-step g c =
    let line = rw c.in-Fault.is at c.in_ok-take_line.ensures.line in
    let tells = rw c.in-Fault.is at c.in_ok-take_line.ensures.tells in
    let some = possible_at _ _ c.take_line.new.lines c.take_line.new.counts c.in_ok-take_line.ensures.place in
    let fault : ℕ → Rest = λ at. ended (ends.Fault (record { kind = c.in-Fault.kind; at = at })) in
    let old : Rest → Type 0 = GivesAt (g.I.Inlet.remaining c.args.lines.now.inlet) (g.I.Inlet.is_sure c.args.lines.now.inlet) c.args.lines.now c.args.counts.now in
    let here : old (fault (c.loop-counts.counts.taken + 1)) =
    c.loop-counts.invariant.gives (fault (c.loop-counts.counts.taken + 1))
    (kept_gives _ _ _ _ c.loop-counts.lines c.find_line.new.self c.loop-counts.counts c.find_line.ensures.kept c.find_line.ensures.strictness (fault (c.loop-counts.counts.taken + 1)) (line some.rest some.is_given)) in
    steps_end old (λ rest. rest ≡ fault c.take_line.new.counts.taken) c.args.telling.now c.take_line.new.telling (ends.Fault (record { kind = c.in-Fault.kind; at = c.take_line.new.counts.taken }))
    (tells ∙ c.loop-counts.invariant.told) (subst (λ at. old (fault at)) (sym c.in_ok-take_line.ensures.nearer) here)

pub returns-in-New-clause-step : goal.returns-in-New-clause-step
returns-in-New-clause-step g c =
    let line = rw c.in-New.is at c.in_ok-take_line.ensures.line in
    let tells = rw c.in-New.is at c.in_ok-take_line.ensures.tells in
    let lines = c.take_line.new.lines in
    steps_new
    (GivesAt (g.I.Inlet.remaining c.args.lines.now.inlet) (g.I.Inlet.is_sure c.args.lines.now.inlet) c.args.lines.now c.args.counts.now)
    (GivesAt (g.I.Inlet.remaining lines.inlet) (g.I.Inlet.is_sure lines.inlet) lines c.take_line.new.counts)
    c.args.telling.now c.take_line.new.telling c.in-New.names c.in-New.frames c.in-New.weight
    (subst (λ (told : ToldRows). TellsLine told (row.New c.in-New.names c.in-New.frames c.in-New.weight) c.take_line.new.telling) c.loop-counts.invariant.told tells)
    (λ after given. c.loop-counts.invariant.gives _
    (kept_gives _ _ _ _ c.loop-counts.lines c.find_line.new.self c.loop-counts.counts c.find_line.ensures.kept c.find_line.ensures.strictness _ (line after given)))

pub returns-in-Again-clause-step : goal.returns-in-Again-clause-step
returns-in-Again-clause-step g c =
    let line = rw c.in-Again.is at c.in_ok-take_line.ensures.line in
    let tells = rw c.in-Again.is at c.in_ok-take_line.ensures.tells in
    let lines = c.take_line.new.lines in
    steps_again
    (GivesAt (g.I.Inlet.remaining c.args.lines.now.inlet) (g.I.Inlet.is_sure c.args.lines.now.inlet) c.args.lines.now c.args.counts.now)
    (GivesAt (g.I.Inlet.remaining lines.inlet) (g.I.Inlet.is_sure lines.inlet) lines c.take_line.new.counts)
    c.args.telling.now c.take_line.new.telling c.in-Again.row c.in-Again.weight
    (subst (λ (told : ToldRows). TellsLine told (row.Again c.in-Again.row c.in-Again.weight) c.take_line.new.telling) c.loop-counts.invariant.told tells)
    (λ after given. c.loop-counts.invariant.gives _
    (kept_gives _ _ _ _ c.loop-counts.lines c.find_line.new.self c.loop-counts.counts c.find_line.ensures.kept c.find_line.ensures.strictness _ (line after given)))
