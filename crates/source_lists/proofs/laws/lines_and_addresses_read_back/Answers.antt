use Rattle.source_lists.proofs.BackLemmas.{line-plain, address-plain}
use Rattle.source_lists.proofs.laws.lines_and_addresses_read_back.Goals as goal

pub returns-clause-lines : goal.returns-clause-lines
returns-clause-lines c = line-plain

pub returns-clause-addresses : goal.returns-clause-addresses
returns-clause-addresses c = address-plain
