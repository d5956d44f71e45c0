use Rattle.byte_io.proofs.PartRows.{follow_more}
use Rattle.byte_io.proofs.piece_threads.row_from.Goals as goal
use Rattle.std.proofs.Common.{ap, ◌+◌, arith, ◌≡◌}

pub each-preserved : goal.each-preserved
each-preserved c =
    let begins : c.part-item.result.from ≡ c.each.row.next = omega arith in
    record {
      parts = ap (λ n. n + 1) c.each.invariant.parts;
      follow = follow_more c.args.parts.now c.each.part-index c.args.from c.each.row.next c.part-item.result (omega arith) c.part-item.is c.each.invariant.follow begins;
    }
