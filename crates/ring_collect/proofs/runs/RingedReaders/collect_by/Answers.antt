use Rattle.ring_collect.proofs.CollectionLemmas.{answers_less}
use Rattle.std.proofs.Common.{refl}
use Rattle.ring_collect.proofs.runs.RingedReaders.collect_by.Goals as goal

pub returns-clause-answer : goal.returns-clause-answer
returns-clause-answer g c =
    let given = c.run_by.ensures.answer in
    record { rests = given.rests; are_given = given.are_given; holds = answers_less (λ run found. found.kept refl) given.holds }
