-- The values of the lines: their keys rise, their numbers are whole and have 64 bits, and they nest three deep.
use Rattle.std.proofs.Common.{ℕ, suc, ◌+◌, ◌*◌, ◌/◌, ◌^◌, ◌<◌, ◌≤◌, List, [], ◌∷◌, map, codes, All, refl, arith, rules}
use Rattle.std.proofs.Math.Nat.{div-le_of_le-mul, mul-le-mul_left}
use Rattle.std.specs.List.{AllByRecursion}
use Rattle.std.specs.List.Sorted.{IsStrictlySortedBy}
use Rattle.serde_json.specs.Data.{Data, depth, items_depth}
use Rattle.serde_json.specs.Read.{max_depth}
use Rattle.serde_json.specs.View.{items_of}
use Rattle.serde_json.specs.Written.{compact_text}
use Rattle.flame_layout.specs.declared.boxes.ComparedBox.{ComparedBox}
use Rattle.flame_layout.specs.declared.boxes.SpanBox.{SpanBox}
use Rattle.view_texts.specs.Json.{whole_number, box_data, compared_box_data, boxes_data, snapshot_data, pair_boxes_data, json_line, boxes_line, snapshot_line, pair_boxes_line}
use Rattle.view_texts.specs.JsonLaws.{HasRisingKeys, ItemsHaveRisingKeys, IsWithin, IsJsonLine}
use Rattle.view_texts.proofs.JsonBytes.{text_is_uncontrolled}
use Rattle.view_texts.proofs.JsonReading.{HasWholeNumbers, ItemsHaveWholeNumbers, text_reads_back}

pub each_of : {S : Type 0} (P Q : S → Type 0) (xs : List S) → ((x : S) → P x → Q x) → All P xs → AllByRecursion Q xs
each_of P Q [] f h = tt
each_of P Q (x ∷ xs) f h = (f x (h 0 x (omega arith)), each_of P Q xs f (λ k d l. h (suc k) d (omega arith)))

module _ {S : Type 0} (f : S → Data) where
  pub whole_items : (xs : List S) → AllByRecursion (λ x. HasWholeNumbers (f x)) xs → ItemsHaveWholeNumbers (items_of (map f xs))
  whole_items [] h = tt
  whole_items (x ∷ xs) h = (h.0, whole_items xs h.1)

  pub rising_items : ((x : S) → HasRisingKeys (f x)) → (xs : List S) → ItemsHaveRisingKeys (items_of (map f xs))
  rising_items h [] = tt
  rising_items h (x ∷ xs) = (h x, rising_items h xs)

  pub items_depth-le : (n : ℕ) → ((x : S) → depth (f x) ≤ n) → (xs : List S) → items_depth (items_of (map f xs)) ≤ n
  items_depth-le n h [] = omega arith
  items_depth-le n h (x ∷ xs) = omega (arith, h x, items_depth-le n h xs)

rising_box : (total width : ℕ) (span : SpanBox) → HasRisingKeys (box_data total width span)
unfolding IsStrictlySortedBy
rising_box total width span = search rules

rising_compared_box : (total width : ℕ) (compared : ComparedBox) → HasRisingKeys (compared_box_data total width compared)
unfolding IsStrictlySortedBy
rising_compared_box total width compared = search rules

-- an edge lies in the image
edge-within : (at total width : ℕ) → at ≤ total → at * width / total ≤ width
edge-within at total width within = div-le_of_le-mul total (omega (arith, mul-le-mul_left width within))

whole_box : (total width : ℕ) (span : SpanBox) → total < 2 ^ 64 → width < 2 ^ 64 → IsWithin total span → HasWholeNumbers (box_data total width span)
whole_box total width span t w h =
    let left = edge-within span.start total width (omega (arith, h.end)) in
    let right = edge-within (span.start + span.weight) total width h.end in
    (h.depth, (omega arith, (tt, (h.own, (omega arith, (omega (arith, h.end), (omega (arith, h.end), tt)))))))

whole_compared_box : (total width : ℕ) (compared : ComparedBox) → total < 2 ^ 64 → width < 2 ^ 64 → IsWithin total compared.span × (compared.before < 2 ^ 64) → HasWholeNumbers (compared_box_data total width compared)
whole_compared_box total width compared t w h = (h.1, whole_box total width compared.span t w h.0)

-- ---- lines

-- the line of such a value
pub line_of_value : (d : Data) → HasWholeNumbers d → HasRisingKeys d → depth d ≤ max_depth → IsJsonLine (json_line d) d
line_of_value d w h shallow = record {
  text = compact_text d;
  ended = refl;
  uncontrolled = text_is_uncontrolled d w;
  reads_back = text_reads_back d w h shallow;
  rising = h;
}

whole_boxes : (view : List ℕ) (total width : ℕ) (boxes : List SpanBox) → total < 2 ^ 64 → width < 2 ^ 64 → All (IsWithin total) boxes → HasWholeNumbers (boxes_data view total width boxes)
whole_boxes view total width boxes t w h =
    let each = each_of (IsWithin total) (λ span. HasWholeNumbers (box_data total width span)) boxes (λ span. whole_box total width span t w) h in
    (whole_items (box_data total width) boxes each, (t, (tt, (w, tt))))

rising_boxes : (view : List ℕ) (total width : ℕ) (boxes : List SpanBox) → HasRisingKeys (boxes_data view total width boxes)
unfolding IsStrictlySortedBy
rising_boxes view total width boxes =
    let items = rising_items (box_data total width) (rising_box total width) boxes in
    search (rules, items)

pub boxes_read_back : (view : List ℕ) (total width : ℕ) (boxes : List SpanBox) → total < 2 ^ 64 → width < 2 ^ 64 → All (IsWithin total) boxes
    → IsJsonLine (boxes_line view total width boxes) (boxes_data view total width boxes)
unfolding boxes_line
boxes_read_back view total width boxes t w h =
    line_of_value (boxes_data view total width boxes) (whole_boxes view total width boxes t w h) (rising_boxes view total width boxes)
    (omega (arith, items_depth-le (box_data total width) 1 (λ span. omega arith) boxes))

whole_snapshot : (at : ℕ) (counts : List ℕ) (total width : ℕ) (boxes : List SpanBox) → at < 2 ^ 64 → All (λ count. count < 2 ^ 64) counts → total < 2 ^ 64 → width < 2 ^ 64 → All (IsWithin total) boxes
    → HasWholeNumbers (snapshot_data at counts total width boxes)
whole_snapshot at counts total width boxes a n t w h =
    let each = each_of (λ count. count < 2 ^ 64) (λ count. HasWholeNumbers (whole_number count)) counts (λ count small. small) n in
    let boxed = whole_boxes (codes "snapshot") total width boxes t w h in
    (a, (boxed.0, (whole_items whole_number counts each, boxed.1)))

rising_snapshot : (at : ℕ) (counts : List ℕ) (total width : ℕ) (boxes : List SpanBox) → HasRisingKeys (snapshot_data at counts total width boxes)
unfolding IsStrictlySortedBy
rising_snapshot at counts total width boxes =
    let items = rising_items (box_data total width) (rising_box total width) boxes in
    let numbers = rising_items whole_number (λ count. tt) counts in
    search (rules, items, numbers)

pub snapshots_read_back : (at : ℕ) (counts : List ℕ) (total width : ℕ) (boxes : List SpanBox) → at < 2 ^ 64 → All (λ count. count < 2 ^ 64) counts → total < 2 ^ 64 → width < 2 ^ 64 → All (IsWithin total) boxes
    → IsJsonLine (snapshot_line at counts total width boxes) (snapshot_data at counts total width boxes)
unfolding snapshot_line
snapshots_read_back at counts total width boxes a n t w h =
    line_of_value (snapshot_data at counts total width boxes) (whole_snapshot at counts total width boxes a n t w h) (rising_snapshot at counts total width boxes)
    (omega (arith, items_depth-le (box_data total width) 1 (λ span. omega arith) boxes, items_depth-le whole_number 0 (λ count. omega arith) counts))

whole_pair_boxes : (before total width : ℕ) (boxes : List ComparedBox) → before < 2 ^ 64 → total < 2 ^ 64 → width < 2 ^ 64 → All (λ compared. IsWithin total compared.span × (compared.before < 2 ^ 64)) boxes
    → HasWholeNumbers (pair_boxes_data before total width boxes)
whole_pair_boxes before total width boxes b t w h =
    let each = each_of (λ (compared : ComparedBox). IsWithin total compared.span × (compared.before < 2 ^ 64)) (λ compared. HasWholeNumbers (compared_box_data total width compared)) boxes (λ compared. whole_compared_box total width compared t w) h in
    (b, (whole_items (compared_box_data total width) boxes each, (t, (tt, (w, tt)))))

rising_pair_boxes : (before total width : ℕ) (boxes : List ComparedBox) → HasRisingKeys (pair_boxes_data before total width boxes)
unfolding IsStrictlySortedBy
rising_pair_boxes before total width boxes =
    let items = rising_items (compared_box_data total width) (rising_compared_box total width) boxes in
    search (rules, items)

pub pair_boxes_read_back : (before total width : ℕ) (boxes : List ComparedBox) → before < 2 ^ 64 → total < 2 ^ 64 → width < 2 ^ 64 → All (λ compared. IsWithin total compared.span × (compared.before < 2 ^ 64)) boxes
    → IsJsonLine (pair_boxes_line before total width boxes) (pair_boxes_data before total width boxes)
unfolding pair_boxes_line
pair_boxes_read_back before total width boxes b t w h =
    line_of_value (pair_boxes_data before total width boxes) (whole_pair_boxes before total width boxes b t w h) (rising_pair_boxes before total width boxes)
    (omega (arith, items_depth-le (compared_box_data total width) 1 (λ compared. omega arith) boxes))
