use Rattle.std.proofs.Common.{◌≡◌, false, true}
use Rattle.std.specs.Prelude.{None}
use Rattle.folded_lines.proofs.StreamTexts.{stream_possible}
use Rattle.collect_tests.proofs.tests.of_ring_collect.runs.streams.reader_over.Goals as goal

pub returns-clause-possible : goal.returns-clause-possible
returns-clause-possible c =
    let some = stream_possible None false (λ (sure : false ≡ true). cc) in
    record { rest = some.rest; is_given = (c.over.ensures.gives some.rest).1 some.is_given }
