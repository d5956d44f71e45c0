use Rattle.byte_io.proofs.PieceTexts.{further}
use Rattle.view_texts.proofs.Fronts.{front_either, same_front}
use Rattle.view_texts.proofs.type_lines.append_line.Goals as goal

pub returns-in_err-extend_from_slice-2-clause-front : goal.returns-in_err-extend_from_slice-2-clause-front
returns-in_err-extend_from_slice-2-clause-front c =
    further _ _ _ _ (same_front _ _ c.in_err-extend_from_slice-2.ensures.items) c.in_ok-extend_from_slice.ensures.items

pub returns-in_err-extend_from_slice-3-clause-front : goal.returns-in_err-extend_from_slice-3-clause-front
returns-in_err-extend_from_slice-3-clause-front c =
    further _ _ _ _ (further _ _ _ _ (same_front _ _ c.in_err-extend_from_slice-3.ensures.items)
    c.in_ok-extend_from_slice-2.ensures.items) c.in_ok-extend_from_slice.ensures.items

pub returns-clause-front : goal.returns-clause-front
returns-clause-front c =
    further _ _ _ _ (further _ _ _ _ (further _ _ _ _ (front_either c.extend_from_slice-4.result _ _ _
    c.extend_from_slice-4.ensures.items) c.in_ok-extend_from_slice-3.ensures.items) c.in_ok-extend_from_slice-2.ensures.items)
    c.in_ok-extend_from_slice.ensures.items
