-- what may be given might have been given before, and nothing is told
use Rattle.std.proofs.Common.{◌≡◌, ◌-◌}
use Rattle.stack_core.specs.Reading.{Rest}
use Rattle.folded_lines.specs.checked.StreamPlaces.{GivesAt, IsStreamPlace}
use Rattle.folded_lines.specs.declared.stream_steps.TheConstants.{LINE_LIMIT}
use Rattle.folded_lines.proofs.stream_steps.next_stream_step.Given as goal

abbrev pub invariant-loop-counts : goal.invariant-loop-counts
invariant-loop-counts g l = record {
  place : IsStreamPlace (g.I.Inlet.remaining l.lines.inlet) (g.I.Inlet.is_sure l.lines.inlet) l.lines l.counts;
  gives : (rest : Rest) → GivesAt (g.I.Inlet.remaining l.lines.inlet) (g.I.Inlet.is_sure l.lines.inlet) l.lines l.counts rest
      → GivesAt (g.I.Inlet.remaining l.fn.lines.inlet) (g.I.Inlet.is_sure l.fn.lines.inlet) l.fn.lines l.fn.counts rest;
  told : l.telling ≡ l.fn.telling;
}

abbrev pub decreases-loop-counts : goal.decreases-loop-counts
decreases-loop-counts g l = LINE_LIMIT - l.counts.taken
