use Rattle.std.proofs.Common.{arith}
use Rattle.std.proofs.lemmas.Grind.{common_steps}
use Rattle.serde_json.proofs.OnLiterals.{serde_json_on_literals}
use Rattle.byte_io.proofs.PieceTexts.{further}
use Rattle.view_texts.proofs.json_boxes.append_compared.Goals as goal

pub returns-clause-ok : goal.returns-clause-ok
unfolding serde_json_on_literals
returns-clause-ok c = grind (arith, common_steps)

pub returns-clause-front : goal.returns-clause-front
returns-clause-front c = further _ _ _ _ c.append_members.ensures.front c.in_ok-append_number.ensures.ok
