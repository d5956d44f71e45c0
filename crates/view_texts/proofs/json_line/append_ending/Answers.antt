use Rattle.std.proofs.Common.{arith}
use Rattle.std.proofs.lemmas.Grind.{common_steps}
use Rattle.byte_io.proofs.PieceTexts.{further}
use Rattle.view_texts.proofs.Fronts.{front_either}
use Rattle.view_texts.proofs.JsonFrames.{tail_pieces}
use Rattle.view_texts.proofs.json_line.append_ending.Goals as goal

pub returns-clause-ok : goal.returns-clause-ok
returns-clause-ok c =
    let pieces = tail_pieces c.args.out.now.items c.args.view.now c.args.scale.now.total c.args.scale.now.width in
    grind (arith, common_steps, pieces)

pub returns-in_err-append_text-clause-front : goal.returns-in_err-append_text-clause-front
returns-in_err-append_text-clause-front c = further _ _ _ _ c.append_text.ensures.front c.in_ok-append_number.ensures.ok

pub returns-in_err-append_number-2-clause-front : goal.returns-in_err-append_number-2-clause-front
returns-in_err-append_number-2-clause-front c =
    further _ _ _ _ (further _ _ _ _ c.append_number-2.ensures.front c.in_ok-append_text.ensures.ok) c.in_ok-append_number.ensures.ok

pub returns-clause-front : goal.returns-clause-front
returns-clause-front c =
    further _ _ _ _ (further _ _ _ _ (further _ _ _ _ (front_either c.extend_from_slice.result _ _ _ c.extend_from_slice.ensures.items)
    c.in_ok-append_number-2.ensures.ok) c.in_ok-append_text.ensures.ok) c.in_ok-append_number.ensures.ok
