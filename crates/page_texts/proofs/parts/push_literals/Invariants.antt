-- the pieces so far
use Rattle.std.proofs.Common.{◌≡◌, ◌++◌, take}
use Rattle.std.specs.List.{flat_map}
use Rattle.page_texts.specs.checked.Parts.{parts_text}
use Rattle.page_texts.proofs.parts.push_literals.Given as goal

abbrev pub invariant-loop-piece : goal.invariant-loop-piece
invariant-loop-piece l = parts_text l.parts.items ≡ parts_text l.initial.parts.items ++ flat_map (λ piece. piece.now) (take l.piece-index l.pieces)
