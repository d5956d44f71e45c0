use Rattle.std.proofs.Common.{◌∷◌, [], false, map, take, arith}
use Rattle.byte_io.proofs.PieceTexts.{further}
use Rattle.std.proofs.lemmas.Grind.{common_steps}
use Rattle.view_texts.specs.Json.{whole_number}
use Rattle.view_texts.proofs.Fronts.{longer_front, same_front}
use Rattle.view_texts.proofs.JsonLists.{values_text, values_text-more, items_text-items_of}
use Rattle.view_texts.proofs.json_pieces.append_numbers.Goals as goal

pub loop-i-preserved : goal.loop-i-preserved
loop-i-preserved c =
    let more = values_text-more whole_number c.args.numbers.now c.loop-i.i 0 (omega arith) in
    grind (arith, common_steps, more)

pub returns-clause-ok : goal.returns-clause-ok
returns-clause-ok c =
    let closed = items_text-items_of false (map whole_number c.args.numbers.now) in
    grind (arith, common_steps, closed)

pub returns-in_err-append_number-clause-front : goal.returns-in_err-append_number-clause-front
returns-in_err-append_number-clause-front c =
    further _ _ _ _ (further _ _ _ _ (further _ _ _ _ c.append_number.ensures.front c.loop-i.invariant) c.in_ok-push.ensures.items)
    c.in_ok-extend_from_slice.ensures.items

pub returns-in_err-push-2-clause-front : goal.returns-in_err-push-2-clause-front
returns-in_err-push-2-clause-front c =
    further _ _ _ _ (further _ _ _ _ (further _ _ _ _ (same_front _ _ c.in_err-push-2.ensures.items) c.loop-i.invariant)
    c.in_ok-push.ensures.items) c.in_ok-extend_from_slice.ensures.items

pub returns-clause-front : goal.returns-clause-front
returns-clause-front c =
    further _ _ _ _ (further _ _ _ _ (further _ _ _ _ (longer_front _ _ _ c.in_ok-push-2.ensures.items) c.loop-i.invariant)
    c.in_ok-push.ensures.items) c.in_ok-extend_from_slice.ensures.items
