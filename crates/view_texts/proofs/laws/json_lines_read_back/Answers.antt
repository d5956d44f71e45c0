use Rattle.view_texts.proofs.JsonValues.{boxes_read_back, snapshots_read_back, pair_boxes_read_back}
use Rattle.view_texts.proofs.laws.json_lines_read_back.Goals as goal

pub returns-clause-boxes : goal.returns-clause-boxes
returns-clause-boxes c = boxes_read_back

pub returns-clause-snapshots : goal.returns-clause-snapshots
returns-clause-snapshots c = snapshots_read_back

pub returns-clause-pairs : goal.returns-clause-pairs
returns-clause-pairs c = pair_boxes_read_back
