use Rattle.std.proofs.Common.{string_bytes, arith}
use Rattle.folded_lines.proofs.JoinLemmas.{join_with_byte-first, join_with_byte-later}
use Rattle.folded_lines.proofs.writing.joined.Goals as goal
use Rattle.folded_lines.proofs.writing.joined.Goals.{then-i-gt0+in_ok-push, else-i-gt0}

pub loop-i-preserved : goal.loop-i-preserved
loop-i-preserved c =
    let x = c.index-stack-i.result in
    elim c.if-i-gt0.branch [
      | then-i-gt0+in_ok-push w ↦
          let e = join_with_byte-later string_bytes 59 c.args.stack.now c.loop-i.i x (omega arith) (omega arith) c.index-stack-i.is in
          cc (c.in_ok-extend_from_slice.ensures.items, w.in_ok-push.ensures.items)
      | else-i-gt0 w ↦
          let e = join_with_byte-first string_bytes 59 c.args.stack.now c.loop-i.i x w.if-i-gt0.false (omega arith) c.index-stack-i.is in
          cc (c.in_ok-extend_from_slice.ensures.items)
    ]
