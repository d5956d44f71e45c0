use Rattle.std.proofs.Common.{rules}
use Rattle.stack_core.specs.Parts.{bytes_of}
use Rattle.profile_tables.proofs.RestLemmas.{pprof-limited}
use Rattle.profile_tables.proofs.UnstoppedLemmas.{unstopped-read_pprof}
use Rattle.profile_tables.proofs.row_reader.PprofRows.unread.Goals as goal

pub returns : goal.returns
returns c = record {
  rest = search rules;
  told = search rules;
  chosen_type = search rules;
  limits = pprof-limited (bytes_of c.args.bytes) c.args.pick c.args.naming;
  unstopped = unstopped-read_pprof (bytes_of c.args.bytes) c.args.pick c.args.naming;
}
