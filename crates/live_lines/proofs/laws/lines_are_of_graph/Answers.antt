use Rattle.live_lines.proofs.GraphLemmas.{lines_are_snapshots, text_is_graph_text}
use Rattle.live_lines.proofs.laws.lines_are_of_graph.Goals as goal

pub returns-clause-lines : goal.returns-clause-lines
returns-clause-lines c = lines_are_snapshots

pub returns-clause-text : goal.returns-clause-text
returns-clause-text c = text_is_graph_text
