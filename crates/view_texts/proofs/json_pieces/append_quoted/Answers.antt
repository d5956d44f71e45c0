use Rattle.std.proofs.Common.{arith}
use Rattle.std.proofs.lemmas.Grind.{common_steps}
use Rattle.byte_io.proofs.PieceTexts.{further}
use Rattle.serde_json.proofs.FreeTexts.{text_of_str}
use Rattle.view_texts.proofs.Fronts.{longer_front, same_front}
use Rattle.view_texts.proofs.PlainTexts.{quoted-plain}
use Rattle.view_texts.proofs.json_pieces.append_quoted.Goals as goal

pub returns-then-is_plain-clause-ok : goal.returns-then-is_plain-clause-ok
returns-then-is_plain-clause-ok c =
    let plain = quoted-plain c.as_bytes.result.now (c.is_plain.ensures.0 c.if-is_plain.true) in
    grind (arith, common_steps, plain)

pub returns-in-Ok-clause-ok : goal.returns-in-Ok-clause-ok
returns-in-Ok-clause-ok c =
    let sent = c.in-Ok.ensures.events in
    let text = text_of_str c.args.text.now sent.0 c.in-Ok.quoted.items sent.1 sent.2 in
    grind (arith, common_steps, text)

pub returns-in_err-extend_from_slice-clause-front : goal.returns-in_err-extend_from_slice-clause-front
returns-in_err-extend_from_slice-clause-front c =
    further _ _ _ _ (same_front _ _ c.in_err-extend_from_slice.ensures.items) c.in_ok-push.ensures.items

pub returns-in_err-push-2-clause-front : goal.returns-in_err-push-2-clause-front
returns-in_err-push-2-clause-front c =
    further _ _ _ _ (further _ _ _ _ (same_front _ _ c.in_err-push-2.ensures.items) c.in_ok-extend_from_slice.ensures.items)
    c.in_ok-push.ensures.items

pub returns-then-is_plain-clause-front : goal.returns-then-is_plain-clause-front
returns-then-is_plain-clause-front c =
    further _ _ _ _ (further _ _ _ _ (longer_front _ _ _ c.in_ok-push-2.ensures.items) c.in_ok-extend_from_slice.ensures.items)
    c.in_ok-push.ensures.items
