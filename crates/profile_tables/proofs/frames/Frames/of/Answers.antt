use Rattle.profile_tables.proofs.FrameLemmas.{lends-span}
use Rattle.profile_tables.proofs.frames.Frames.of.Goals as goal

pub returns : goal.returns
returns c = lends-span c.args.self.now c.args.id c.deref.result.now c.in_ok-span.span c.get.result c.in_ok-span.ensures c.deref.ensures.value c.get.ensures.lookup
