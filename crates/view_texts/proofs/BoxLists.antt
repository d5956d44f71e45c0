-- The values of lists of boxes.
use Rattle.std.proofs.Common.{◌≡◌, ℕ, List, [], ◌∷◌, map, ap, refl, ◌∙◌}
use Rattle.flame_layout.specs.Boxes.{SeenBox, paired_box, plain_box}
use Rattle.flame_layout.specs.declared.boxes.ComparedBox.{ComparedBox}
use Rattle.flame_layout.specs.declared.boxes.SpanBox.{SpanBox}
use Rattle.view_texts.specs.Json.{box_data, compared_box_data}
use Rattle.view_texts.specs.Lines.{seen_data}

module _ (total width : ℕ) where
  plain : (spans : List SpanBox) → map (seen_data total width) (map plain_box spans) ≡ map (box_data total width) spans
  plain [] = refl
  plain (span ∷ spans) = ap (λ more. box_data total width span ∷ more) (plain spans)

  pub plain_data : (boxes : List SeenBox) (spans : List SpanBox) → boxes ≡ map plain_box spans → map (seen_data total width) boxes ≡ map (box_data total width) spans
  plain_data boxes spans are = ap (map (seen_data total width)) are ∙ plain spans

  paired : (compared : List ComparedBox) → map (seen_data total width) (map paired_box compared) ≡ map (compared_box_data total width) compared
  paired [] = refl
  paired (one ∷ more) = ap (λ rest. compared_box_data total width one ∷ rest) (paired more)

  pub paired_data : (boxes : List SeenBox) (compared : List ComparedBox) → boxes ≡ map paired_box compared → map (seen_data total width) boxes ≡ map (compared_box_data total width) compared
  paired_data boxes compared are = ap (map (seen_data total width)) are ∙ paired compared
