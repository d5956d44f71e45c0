use Rattle.stack_core.specs.Parts.{bytes_of}
use Rattle.folded_lines.proofs.StreamPlaceLemmas.{whole_place, whole_rest}
use Rattle.folded_lines.proofs.streams.«FoldedStream+BytesInlet».whole.Goals as goal

pub invariant_of-result : goal.invariant_of-result
invariant_of-result c = record { place = whole_place _ _ c.whole.result c.whole.ensures.state c.whole.result.short }

pub returns-clause-rest : goal.returns-clause-rest
returns-clause-rest c = whole_rest _ (bytes_of c.args.bytes) c.whole.result c.whole.ensures.state c.whole.ensures.unread c.whole.ensures.strictness
