use Rattle.std.proofs.Common.{◌<◌, ◌++◌, ◌∙◌, [], false, length, get_or, sym, ap, append_assoc, arith, map}
use Rattle.std.specs.List.{concat, slice_range}
use Rattle.byte_io.proofs.PieceTexts.{further, range_more}
use Rattle.std.proofs.lemmas.List.{length-map}
use Rattle.view_texts.specs.declared.scales.Scale.{Scale}
use Rattle.view_texts.specs.Lines.{seen_data}
use Rattle.view_texts.specs.Pieces.{value_pieces}
use Rattle.view_texts.proofs.TextPieces.{length-value_pieces}
use Rattle.view_texts.proofs.json_line.append_items.Goals as goal

pub returns-in_err-append_item-clause-front : goal.returns-in_err-append_item-clause-front
returns-in_err-append_item-clause-front g c =
    further c.append_item.new.out.items c.loop-place.out.items c.args.out.now.items _ c.append_item.ensures.front c.loop-place.invariant.appended

pub loop-place-preserved : goal.loop-place-preserved
loop-place-preserved g c =
    let scale = c.args.scale.now in
    let objects = λ (s : Scale). map (seen_data s.total s.width) (g.L.FlameBoxes.boxes c.args.boxes.now) in
    let pieces = value_pieces false (objects scale) in
    let place = c.loop-place.place in
    let start = c.args.out.now.items in
    let within : place < length pieces =
    omega (arith, c.loop-place-test.true, c.requires.end, length-value_pieces false (objects scale), length-map (g.L.FlameBoxes.boxes c.args.boxes.now) (seen_data scale.total scale.width)) in
    record {
      appended = c.in_ok-append_item.ensures.ok
          ∙ ap (λ (s : Scale). c.loop-place.out.items ++ get_or (value_pieces false (objects s)) place []) c.loop-place.invariant.scale
          ∙ ap (λ text. text ++ get_or pieces place []) c.loop-place.invariant.appended
          ∙ append_assoc start (concat (slice_range pieces c.args.from place)) (get_or pieces place [])
          ∙ ap (λ text. start ++ text) (sym (range_more pieces c.args.from place (omega (arith, c.loop-place.auto.place)) within));
      scale = c.in_ok-append_item.ensures.scale ∙ c.loop-place.invariant.scale;
    }

pub append_item-requires-clause-within : goal.append_item-requires-clause-within
append_item-requires-clause-within g c = rw c.loop-place.invariant.scale c.requires.within

pub append_item-requires-clause-positive : goal.append_item-requires-clause-positive
append_item-requires-clause-positive g c = rw c.loop-place.invariant.scale c.requires.positive
