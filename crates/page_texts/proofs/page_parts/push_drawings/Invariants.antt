-- the drawings so far
use Rattle.std.proofs.Common.{◌≡◌, ◌++◌, ℕ, List, false, map, take}
use Rattle.page_texts.specs.Page.{drawing_data}
use Rattle.page_texts.specs.Drawn.{drawing_of}
use Rattle.page_texts.specs.checked.Kept.{AreAllKept}
use Rattle.page_texts.specs.checked.Parts.{parts_text}
use Rattle.page_texts.specs.checked.SafeText.{values_text}
use Rattle.page_texts.proofs.page_parts.push_drawings.Given as goal

abbrev pub invariant-loop-at : goal.invariant-loop-at
invariant-loop-at g l =
    let stands_for = drawing_of g.L.FlameBoxes.boxes in
    (names : List (List ℕ)) → AreAllKept names (map stands_for l.drawings) l.kept
    → parts_text l.parts.items ≡ parts_text l.initial.parts.items ++ values_text false (map (λ drawing. drawing_data names (stands_for drawing)) (take l.at l.drawings))
