use Rattle.std.proofs.Common.{◌∙◌, ap, length, take, replicate}
use Rattle.std.proofs.Math.Seq.{take-append_seam}
use Rattle.function_sums.proofs.entries.append_spaces.Goals as goal

pub returns-in_err-push-clause-front : goal.returns-in_err-push-clause-front
returns-in_err-push-clause-front c =
    let start = c.args.out.now.items in
    ap (take (length start)) (c.in_err-push.ensures.items ∙ c.loop.invariant) ∙ take-append_seam start (replicate c.loop.counter 32)
