use Rattle.folded_lines.specs.Line.{Line}
use Rattle.folded_lines.specs.checked.RowLines.{line_by}
use Rattle.folded_lines.specs.checked.StreamLines.{line_of_found}
use Rattle.folded_lines.specs.checked.StreamReading.{line_at}
use Rattle.std.proofs.Common.{◌≡◌, ap, ◌∙◌}
use Rattle.folded_lines.proofs.StreamPlaceLemmas.{taken_gives, taken_place}
use Rattle.folded_lines.proofs.stream_steps.take_line.Goals as goal

pub returns-clause-line : goal.returns-clause-line
returns-clause-line g c =
    let lines = c.args.lines.now in
    let counts = c.args.counts.now in
    let line = line_of_found lines c.args.found in
    let told = c.read_line.new.self in
    let read : Line = line_by told c.in_ok-line.line in
    let reads : read ≡ line_at counts line = c.in_ok-line.ensures.line ∙ ap (line_at counts) c.line.ensures in
    taken_gives (λ inlet. g.I.Inlet.remaining inlet) (λ inlet. g.I.Inlet.is_sure inlet) lines c.pass.new.self c.end_behind.new.self counts c.after.result line read c.requires.place c.pass.ensures.line
    reads (c.after.ensures told) c.requires.room c.in_ok-line.ensures.within c.pass.ensures.surety c.pass.ensures.strictness (c.end_behind.ensures.kept told) (c.end_behind.ensures.closed told)

pub returns-clause-place : goal.returns-clause-place
returns-clause-place g c =
    let lines = c.args.lines.now in
    let counts = c.args.counts.now in
    let line = line_of_found lines c.args.found in
    let told = c.read_line.new.self in
    let read : Line = line_by told c.in_ok-line.line in
    let reads : read ≡ line_at counts line = c.in_ok-line.ensures.line ∙ ap (line_at counts) c.line.ensures in
    taken_place (λ inlet. g.I.Inlet.remaining inlet) (λ inlet. g.I.Inlet.is_sure inlet) lines c.pass.new.self c.end_behind.new.self counts c.after.result line read c.requires.place c.pass.ensures.line
    reads (c.after.ensures told) c.requires.room c.in_ok-line.ensures.within c.pass.ensures.surety c.pass.ensures.strictness (c.end_behind.ensures.kept told) (c.end_behind.ensures.closed told)
