-- The texts of the lines round their boxes.
use Rattle.std.proofs.Common.{◌≡◌, ℕ, List, [], ◌∷◌, ◌++◌, map, true, false, codes, decimal, refl, sym, ap, ◌∙◌, append_assoc}
use Rattle.json.specs.Print.{escape_byte}
use Rattle.serde_json.specs.Data.{Data, string}
use Rattle.serde_json.specs.Written.{compact_text, members_text}
use Rattle.std.specs.List.{concat}
use Rattle.flame_layout.specs.declared.boxes.ComparedBox.{ComparedBox}
use Rattle.flame_layout.specs.declared.boxes.SpanBox.{SpanBox}
use Rattle.view_texts.specs.Json.{whole_number, list_data, box_data, compared_box_data, view_members, boxes_line, snapshot_line, pair_boxes_line}
use Rattle.view_texts.specs.Lines.{head_of, ending_of, tail_of, line_text}
use Rattle.view_texts.specs.Pieces.{line_pieces}
use Rattle.view_texts.specs.declared.line_kinds.LineKind.{LineKind}
use Rattle.view_texts.specs.declared.line_kinds.LineKind.TheVariants.{Picture, Snapshot, Comparison}
use Rattle.view_texts.proofs.JsonLists.{values_text, items_text-items_of}
use Rattle.view_texts.proofs.TextPieces.{line_pieces-text}

view_members-text : (view : List ℕ) (total width : ℕ) → members_text true (view_members view total width)
    ≡ codes ",\"total\":" ++ (decimal total ++ (codes ",\"view\":" ++ (compact_text (string view) ++ (codes ",\"width\":" ++ (decimal width ++ 125 ∷ [])))))
unfolding escape_byte
view_members-text view total width = refl

tail_in_turn : (o k1 v1 k2 v2 k3 v3 last end : List ℕ) →
    (((o ++ (k1 ++ v1)) ++ (k2 ++ v2)) ++ (k3 ++ v3)) ++ (last ++ end) ≡ o ++ ((k1 ++ (v1 ++ (k2 ++ (v2 ++ (k3 ++ (v3 ++ last)))))) ++ end)
tail_in_turn o k1 v1 k2 v2 k3 v3 last end = simp append_assoc

-- the members of a tail, appended one after another
pub tail_pieces : (o view : List ℕ) (total width : ℕ) →
    (((o ++ (codes ",\"total\":" ++ decimal total)) ++ (codes ",\"view\":" ++ compact_text (string view))) ++ (codes ",\"width\":" ++ decimal width)) ++ codes "}\n"
    ≡ o ++ ending_of view total width
tail_pieces o view total width =
    tail_in_turn o (codes ",\"total\":") (decimal total) (codes ",\"view\":") (compact_text (string view)) (codes ",\"width\":") (decimal width) (125 ∷ []) (10 ∷ [])
    ∙ ap (λ t. o ++ (t ++ 10 ∷ [])) (sym (view_members-text view total width))

-- ---- whole lines: what stands before the boxes, their list, and what stands after it

-- the list's brackets stand with what is round it
listed : (values : List Data) (after : List ℕ) → compact_text (list_data values) ++ after ≡ 91 ∷ (values_text false values ++ 93 ∷ after)
listed values after = ap (λ text. 91 ∷ (text ++ after)) (items_text-items_of false values) ∙ ap (λ text. 91 ∷ text) (append_assoc (values_text false values) (93 ∷ []) after)

picture : (k1 v2 tail end : List ℕ) → (k1 ++ (v2 ++ tail)) ++ end ≡ k1 ++ (v2 ++ (tail ++ end))
picture k1 v2 tail end = simp append_assoc

counted : (k1 v1 k2 v2 k3 v3 tail end : List ℕ) →
    (k1 ++ (v1 ++ (k2 ++ (v2 ++ (k3 ++ (v3 ++ tail)))))) ++ end ≡ k1 ++ (v1 ++ (k2 ++ (v2 ++ ((k3 ++ v3) ++ (tail ++ end)))))
counted k1 v1 k2 v2 k3 v3 tail end = simp append_assoc

compared : (k1 v1 k2 v2 tail end : List ℕ) → (k1 ++ (v1 ++ (k2 ++ (v2 ++ tail)))) ++ end ≡ k1 ++ (v1 ++ (k2 ++ (v2 ++ (tail ++ end))))
compared k1 v1 k2 v2 tail end = simp append_assoc

in_head : (k1 v1 k2 rest : List ℕ) → (k1 ++ (v1 ++ (k2 ++ 91 ∷ []))) ++ rest ≡ k1 ++ (v1 ++ (k2 ++ 91 ∷ rest))
in_head k1 v1 k2 rest = simp append_assoc

-- the parts of a line are its text
parts : (kind : LineKind) (counts view : List ℕ) (total width : ℕ) (values : List Data) → line_text kind counts view total width values ≡ head_of kind ++ (values_text false values ++ tail_of kind counts view total width)
unfolding escape_byte
parts Picture counts view total width values =
    picture (codes "{\"boxes\":") (compact_text (list_data values)) (members_text true (view_members view total width)) (10 ∷ [])
    ∙ ap (λ text. codes "{\"boxes\":" ++ text) (listed values (ending_of view total width))
parts (Snapshot at) counts view total width values =
    let end = ending_of view total width in
    let numbers = compact_text (list_data (map whole_number counts)) in
    counted (codes "{\"at\":") (decimal at) (codes ",\"boxes\":") (compact_text (list_data values)) (codes ",\"counts\":") numbers (members_text true (view_members view total width)) (10 ∷ [])
    ∙ ap (λ text. codes "{\"at\":" ++ (decimal at ++ (codes ",\"boxes\":" ++ text))) (listed values ((codes ",\"counts\":" ++ numbers) ++ end))
    ∙ sym (in_head (codes "{\"at\":") (decimal at) (codes ",\"boxes\":") (values_text false values ++ 93 ∷ ((codes ",\"counts\":" ++ numbers) ++ end)))
parts (Comparison before) counts view total width values =
    let end = ending_of view total width in
    compared (codes "{\"before\":") (decimal before) (codes ",\"boxes\":") (compact_text (list_data values)) (members_text true (view_members view total width)) (10 ∷ [])
    ∙ ap (λ text. codes "{\"before\":" ++ (decimal before ++ (codes ",\"boxes\":" ++ text))) (listed values end)
    ∙ sym (in_head (codes "{\"before\":") (decimal before) (codes ",\"boxes\":") (values_text false values ++ 93 ∷ end))

-- so its pieces make it
pub line-text : (kind : LineKind) (counts view : List ℕ) (total width : ℕ) (values : List Data)
    → concat (line_pieces (head_of kind) values (tail_of kind counts view total width)) ≡ line_text kind counts view total width values
line-text kind counts view total width values =
    line_pieces-text (head_of kind) (tail_of kind counts view total width) values ∙ sym (parts kind counts view total width values)

-- ---- at the boxes of each kind

pub picture_is : (counts view : List ℕ) (total width : ℕ) (boxes : List SpanBox) → line_text Picture counts view total width (map (box_data total width) boxes) ≡ boxes_line view total width boxes
unfolding boxes_line
picture_is counts view total width boxes = refl

pub snapshot_is : (at : ℕ) (counts : List ℕ) (total width : ℕ) (boxes : List SpanBox)
    → line_text (Snapshot at) counts (codes "snapshot") total width (map (box_data total width) boxes) ≡ snapshot_line at counts total width boxes
unfolding snapshot_line
snapshot_is at counts total width boxes = refl

pub comparison_is : (counts : List ℕ) (before total width : ℕ) (boxes : List ComparedBox)
    → line_text (Comparison before) counts (codes "compare") total width (map (compared_box_data total width) boxes) ≡ pair_boxes_line before total width boxes
unfolding pair_boxes_line
comparison_is counts before total width boxes = refl
