use Rattle.std.proofs.Common.{rules}
use Rattle.stack_core.specs.Parts.{bytes_of}
use Rattle.folded_lines.proofs.ReadLemmas.{IsSourceLimited-read_folded}
use Rattle.folded_lines.proofs.UnstoppedLemmas.{unstopped-read_folded}
use Rattle.folded_lines.proofs.rows.FoldedRows.of.Goals as goal

pub returns : goal.returns
returns c = record {
  rest = search rules;
  limits = IsSourceLimited-read_folded (bytes_of c.args.bytes);
  told = search rules;
  unstopped = unstopped-read_folded (bytes_of c.args.bytes);
}
