use Rattle.std.proofs.Common.{◌++◌, ◌∙◌, ap, sym, append_assoc, arith}
use Rattle.std.proofs.KnownBytes.{Appends-trans}
use Rattle.byte_io.proofs.PieceTexts.{on_err, sent_kept, sent_partly, waits_on}
use Rattle.byte_io.proofs.piece_output.send_pieces.Goals as goal

pub returns-in_err-at-clause-front : goal.returns-in_err-at-clause-front
returns-in_err-at-clause-front g c =
    let sent = c.each.invariant.sent in
    on_err c.from_residual.result (sent_kept (g.P.Pieces.pieces c.args.text.now) c.each.at sent.0 c.each.waiting.items _ _ sent.1 sent.2)

pub returns-in_err-send_long-clause-front : goal.returns-in_err-send_long-clause-front
returns-in_err-send_long-clause-front g c =
    let pieces = g.P.Pieces.pieces c.args.text.now in
    let sent = c.each.invariant.sent in
    on_err c.from_residual-in_err-send_long.result (sent_partly pieces c.in_ok-at.at c.in_err-send_long.field-0.0.written sent.0 c.append_some.new.out.items _ _ _
    (waits_on pieces c.each.at c.in_ok-at.at sent.0 c.each.waiting.items c.append_some.new.out.items (omega (arith, c.in_ok-at.ensures.further)) sent.1 c.in_ok-at.ensures.ok) sent.2 c.in_err-send_long.ensures.front)

pub each-preserved : goal.each-preserved
each-preserved g c =
    let pieces = g.P.Pieces.pieces c.args.text.now in
    let sent = c.each.invariant.sent in
    let more = c.in_ok-send_long.ensures.ok in
    let longer = waits_on pieces c.each.at c.in_ok-at.at sent.0 c.each.waiting.items c.append_some.new.out.items (omega (arith, c.in_ok-at.ensures.further)) sent.1 c.in_ok-at.ensures.ok in
    record {
      within = c.in_ok-at.ensures.within;
      sent = (sent.0 ++ more.0, longer ∙ ap (λ text. sent.0 ++ text) more.1 ∙ sym (append_assoc sent.0 more.0 c.send_long.new.waiting.items), Appends-trans _ _ _ sent.0 more.0 sent.2 more.2);
      unfailed = c.in_ok-send_long.ensures.count ∙ c.each.invariant.unfailed;
    }

pub returns-in_err-send-clause-front : goal.returns-in_err-send-clause-front
returns-in_err-send-clause-front g c =
    let sent = c.each.invariant.sent in
    on_err c.from_residual-in_err-send.result (sent_partly (g.P.Pieces.pieces c.args.text.now) c.each.at c.in_err-send.field-0.0.written sent.0 c.as_slice.result.now _ _ _
    (sent.1 ∙ ap (λ text. sent.0 ++ text) (sym c.as_slice.ensures.value)) sent.2 c.in_err-send.ensures.fault)
