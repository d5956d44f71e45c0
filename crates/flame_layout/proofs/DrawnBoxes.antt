-- boxes with borrowed names, by the boxes that they stand for
use Rattle.std.proofs.Common.{◌≡◌, ℕ, ◌+◌, ◌<◌, ◌≤◌, List, [], ◌∷◌, length, map, refl, get_or, All, sym, ◌∙◌, ap, subst, arith}
use Rattle.std.proofs.lemmas.List.{get_or-map, length-map}
use Rattle.std.proofs.lemmas.List.Elements.{All-map}
use Rattle.flame_layout.specs.Boxes.{SeenBox, compared_of, paired_box, plain_box, span_of}
use Rattle.flame_layout.specs.declared.boxes.ComparedBox.{ComparedBox}
use Rattle.flame_layout.specs.declared.boxes.DrawnPair.{DrawnPair}
use Rattle.flame_layout.specs.declared.boxes.SpanBox.{SpanBox}
use Rattle.flame_layout.specs.declared.boxes.DrawnBox.{DrawnBox}

-- where the spans end within a total, so do the boxes
pub drawn_within : (boxes : List DrawnBox) (spans : List SpanBox) (total : ℕ) → map span_of boxes ≡ spans → All (λ span. span.start + span.weight ≤ total) spans → All (λ drawn. drawn.start + drawn.weight ≤ total) boxes
drawn_within boxes spans total e h k d l =
    subst (λ (span : SpanBox). span.start + span.weight ≤ total) (ap (λ (all : List SpanBox). get_or all k (span_of d)) (sym e) ∙ get_or-map span_of boxes k d (span_of d) l)
    (h k (span_of d) (omega (arith, l, length-map boxes span_of, ap length e)))

pub pairs_within : (pairs : List DrawnPair) (boxes : List ComparedBox) (total : ℕ) → map compared_of pairs ≡ boxes → All (λ compared. compared.span.start + compared.span.weight ≤ total) boxes
    → All (λ pair. pair.drawn.start + pair.drawn.weight ≤ total) pairs
pairs_within pairs boxes total e h k d l =
    subst (λ (compared : ComparedBox). compared.span.start + compared.span.weight ≤ total) (ap (λ (all : List ComparedBox). get_or all k (compared_of d)) (sym e) ∙ get_or-map compared_of pairs k d (compared_of d) l)
    (h k (compared_of d) (omega (arith, l, length-map pairs compared_of, ap length e)))

-- and the other way
pub spans_within : (boxes : List DrawnBox) (spans : List SpanBox) (total : ℕ) → spans ≡ map span_of boxes → All (λ drawn. drawn.start + drawn.weight ≤ total) boxes → All (λ span. span.start + span.weight ≤ total) spans
spans_within boxes spans total e h =
    subst (λ (all : List SpanBox). All (λ span. span.start + span.weight ≤ total) all) (sym e) (All-map (λ (span : SpanBox). span.start + span.weight ≤ total) span_of boxes h)

pub drawn_positive : (boxes : List DrawnBox) (spans : List SpanBox) (total : ℕ) → map span_of boxes ≡ spans → (0 < length spans → 0 < total) → 0 < length boxes → 0 < total
drawn_positive boxes spans total e h l = h (omega (arith, l, length-map boxes span_of, ap length e))

pub spans_positive : (boxes : List DrawnBox) (spans : List SpanBox) (total : ℕ) → spans ≡ map span_of boxes → (0 < length boxes → 0 < total) → 0 < length spans → 0 < total
spans_positive boxes spans total e h l = h (omega (arith, l, length-map boxes span_of, ap length e))

-- the boxes of a list of boxes
abbrev pub spans_in : List SeenBox → List SpanBox
spans_in boxes = map (λ seen. seen.span) boxes

pub plain_spans : (spans : List SpanBox) → spans_in (map plain_box spans) ≡ spans
plain_spans [] = refl
plain_spans (span ∷ spans) = ap (λ more. span ∷ more) (plain_spans spans)

pub drawn_spans : (boxes : List DrawnBox) → spans_in (map (λ drawn. plain_box (span_of drawn)) boxes) ≡ map span_of boxes
drawn_spans [] = refl
drawn_spans (box ∷ boxes) = ap (λ more. span_of box ∷ more) (drawn_spans boxes)

-- a chart is a list of boxes that end within a total where its spans do
pub plain_within : (spans : List SpanBox) (total : ℕ) → All (λ span. span.start + span.weight ≤ total) spans → All (λ box. box.span.start + box.span.weight ≤ total) (map plain_box spans)
plain_within spans total h = All-map (λ (box : SeenBox). box.span.start + box.span.weight ≤ total) plain_box spans h

pub plain_positive : (spans : List SpanBox) (total : ℕ) → (0 < length spans → 0 < total) → 0 < length (map plain_box spans) → 0 < total
plain_positive spans total h some = h (omega (arith, some, length-map spans plain_box))

abbrev pub pairs_in : List DrawnPair → List SeenBox
pairs_in pairs = map (λ pair. paired_box (compared_of pair)) pairs

-- and so are pairs
pub paired_within : (pairs : List DrawnPair) (total : ℕ) → All (λ pair. pair.drawn.start + pair.drawn.weight ≤ total) pairs → All (λ box. box.span.start + box.span.weight ≤ total) (pairs_in pairs)
paired_within pairs total h = All-map (λ (box : SeenBox). box.span.start + box.span.weight ≤ total) (λ pair. paired_box (compared_of pair)) pairs h

pub paired_positive : (pairs : List DrawnPair) (total : ℕ) → (0 < length pairs → 0 < total) → 0 < length (pairs_in pairs) → 0 < total
paired_positive pairs total h some = h (omega (arith, some, length-map pairs (λ pair. paired_box (compared_of pair))))

-- pairs stand for what is compared
pub paired_list : (pairs : List DrawnPair) → pairs_in pairs ≡ map paired_box (map compared_of pairs)
paired_list [] = refl
paired_list (pair ∷ pairs) = ap (λ more. paired_box (compared_of pair) ∷ more) (paired_list pairs)
