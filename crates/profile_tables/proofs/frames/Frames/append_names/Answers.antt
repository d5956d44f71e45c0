use Rattle.profile_tables.specs.checked.Frames.{text_in}
use Rattle.profile_tables.proofs.FrameLemmas.{last-named}
use Rattle.profile_tables.proofs.frames.Frames.append_names.Goals as goal

pub loop-frame-preserved : goal.loop-frame-preserved
loop-frame-preserved c =
    last-named (text_in c.args.self.now) c.loop-frame.stack.items _ c.in_ok-name.field-0 c.loop-frame.left.now c.in-Some.before.now c.in-Some.frame.now _
    c.in_ok-push.ensures.items c.in_ok-name.ensures c.in-Some.ensures.cases.0 c.loop-frame.invariant
