use Rattle.folded_lines.proofs.StreamSteps.{ends_clean, ends_failed}
use Rattle.folded_lines.proofs.stream_steps.ending_at.Goals as goal

pub returns-in-Failed : goal.returns-in-Failed
returns-in-Failed g c = ends_failed _ _ c.args.lines.now c.args.counts.now c.requires.place c.in-Failed.is

pub returns-in-Open : goal.returns-in-Open
returns-in-Open g c = ends_clean _ _ c.args.lines.now c.args.counts.now c.requires.place c.requires.none c.in-Open.is
