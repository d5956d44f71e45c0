use Rattle.std.proofs.Common.{arith}
use Rattle.wire_fields.proofs.Groups.{within_last}
use Rattle.wire_fields.proofs.varint.varint.Goals as goal

pub returns-in-Some : goal.returns-in-Some
returns-in-Some c = rw (c.in-Some.ensures.cases.0, c.from.ensures)
    (within_last 9 c.in-Some.first.now c.in-Some.rest.now c.if-first-lt128.true (λ none. absurd (omega (arith, none))))
