use Rattle.folded_lines.proofs.TextLemmas.{read_folded-text_of}
use Rattle.folded_lines.proofs.laws.lines_read_back.Goals as goal

pub returns : goal.returns
returns c = read_folded-text_of
