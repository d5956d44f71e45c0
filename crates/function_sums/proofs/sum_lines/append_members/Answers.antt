use Rattle.byte_io.proofs.PieceTexts.{further}
use Rattle.function_sums.proofs.TextPieces.{function_written}
use Rattle.view_texts.proofs.Fronts.{longer_front, same_front}
use Rattle.function_sums.proofs.sum_lines.append_members.Goals as goal

pub returns-clause-ok : goal.returns-clause-ok
returns-clause-ok c =
    function_written c.args.sum.now _ _ _ _ _ _ c.get.ensures c.in_ok-append_text.ensures.ok c.in_ok-append_number.ensures.ok c.in_ok-append_number-2.ensures.ok c.in_ok-push.ensures.items

pub returns-in_err-append_number-clause-front : goal.returns-in_err-append_number-clause-front
returns-in_err-append_number-clause-front c = further _ _ _ _ c.append_number.ensures.front c.in_ok-append_text.ensures.ok

pub returns-in_err-append_number-2-clause-front : goal.returns-in_err-append_number-2-clause-front
returns-in_err-append_number-2-clause-front c = further _ _ _ _ (further _ _ _ _ c.append_number-2.ensures.front c.in_ok-append_number.ensures.ok) c.in_ok-append_text.ensures.ok

pub returns-in_err-push-clause-front : goal.returns-in_err-push-clause-front
returns-in_err-push-clause-front c = further _ _ _ _ (further _ _ _ _ (further _ _ _ _ (same_front _ _ c.in_err-push.ensures.items) c.in_ok-append_number-2.ensures.ok) c.in_ok-append_number.ensures.ok) c.in_ok-append_text.ensures.ok

pub returns-clause-front : goal.returns-clause-front
returns-clause-front c = further _ _ _ _ (further _ _ _ _ (further _ _ _ _ (longer_front _ _ _ c.in_ok-push.ensures.items) c.in_ok-append_number-2.ensures.ok) c.in_ok-append_number.ensures.ok) c.in_ok-append_text.ensures.ok
