-- The boxes so far were appended.
use Rattle.std.proofs.Common.{◌≡◌, ◌++◌, false, map}
use Rattle.std.specs.List.{concat, slice_range}
use Rattle.view_texts.specs.Lines.{seen_data}
use Rattle.view_texts.specs.Pieces.{value_pieces}
use Rattle.view_texts.proofs.json_line.append_items.Given as goal

abbrev pub invariant-loop-place : goal.invariant-loop-place
invariant-loop-place g l =
    let values = map (seen_data l.scale.total l.scale.width) (g.L.FlameBoxes.boxes l.boxes) in
    record {
      appended : l.out.items ≡ l.initial.out.items ++ concat (slice_range (value_pieces false values) l.from l.place);
      scale : l.writer ≡ l.scale;
    }
