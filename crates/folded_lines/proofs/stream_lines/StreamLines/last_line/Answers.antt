use Rattle.std.proofs.Common.{sym, rules}
use denote.Enum.Bare.{same_true}
use Rattle.folded_lines.specs.contracts.stream_lines.StreamState.{the_type}
use Rattle.folded_lines.proofs.FoundLines.{whole_line}
use Rattle.folded_lines.proofs.stream_lines.StreamLines.last_line.Goals as goal

pub returns-then-len-gt0-clause-line : goal.returns-then-len-gt0-clause-line
returns-then-len-gt0-clause-line g c =
    whole_line c.args.self.now.state c.args.self.now.buffer c.len-len.result (same_true the_type (search rules) _ _ (sym c.if-eq.ensures)) c.len-len.ensures c.if-len-gt0.true c.requires.unfed
