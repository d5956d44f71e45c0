use Rattle.std.proofs.Common.{◌++◌, ◌∙◌, ap, sym, take, append_assoc, arith}
use Rattle.std.specs.List.{concat, slice_range}
use Rattle.byte_io.proofs.PieceTexts.{pieces_on}
use Rattle.byte_io.proofs.piece_output.append_each.Goals as goal

pub each-preserved : goal.each-preserved
each-preserved g c =
    let pieces = g.P.Pieces.pieces c.args.text.now in
    let at = c.each.at in
    let next = c.in_ok-at.at in
    let start = c.args.out.now.items in
    record {
      within = c.in_ok-at.ensures.within;
      appended = c.in_ok-at.ensures.ok ∙ ap (λ text. text ++ concat (slice_range pieces at next)) c.each.invariant.appended
          ∙ append_assoc start (concat (take at pieces)) (concat (slice_range pieces at next))
          ∙ ap (λ text. start ++ text) (sym (pieces_on pieces at next (omega (arith, c.in_ok-at.ensures.further))));
    }
