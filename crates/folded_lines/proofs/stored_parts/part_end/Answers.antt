use Rattle.std.proofs.Common.{arith}
use Rattle.folded_lines.proofs.StoredParts.{known_lines}
use Rattle.folded_lines.proofs.stored_parts.part_end.Goals as goal

pub returns-in-Some-clause-lines : goal.returns-in-Some-clause-lines
returns-in-Some-clause-lines c =
    known_lines c.args.text.now c.args.begin c.in-Some.end (omega (arith, c.place_between.ensures, c.in-Some.ensures.further)) c.in-Some.ensures.line
