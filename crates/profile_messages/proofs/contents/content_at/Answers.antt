use Rattle.std.proofs.Common.{sym, arith}
use Rattle.profile_messages.proofs.OffsetLemmas.{content_at-past}
use Rattle.profile_messages.proofs.contents.content_at.Goals as goal

pub returns-in_default : goal.returns-in_default
returns-in_default c = let h = c.in_default.ensures.lookup in sym (content_at-past c.args.file.now c.args.at (omega (arith, h.0)))
