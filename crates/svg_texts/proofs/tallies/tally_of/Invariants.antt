use Rattle.std.proofs.Common.{◌≡◌, ◌≤◌, ◌^◌, length, take}
use Rattle.svg_texts.specs.Drawn.{picture_of}
use Rattle.svg_texts.specs.Svg.{drawn, left_out, own_weight, rows_of}
use Rattle.svg_texts.proofs.tallies.tally_of.Given as goal

abbrev pub invariant-loop-place : goal.invariant-loop-place
invariant-loop-place g l =
    let picture = picture_of l.picture in
    let boxes = take l.place (g.L.FlameBoxes.boxes l.boxes) in
    record {
      rows : l.rows ≡ rows_of (drawn picture boxes);
      few : l.rows ≤ 2 ^ 32;
      left_boxes : l.left_boxes ≡ length (left_out picture boxes);
      left_weight : l.left_weight ≡ own_weight (left_out picture boxes);
    }
