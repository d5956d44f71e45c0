-- The tags of a picture, and the characters of its text.
use Rattle.std.proofs.Common.{◌≡◌, ℕ, ◌+◌, ◌-◌, Bool, true, false, cond, ◌&&◌, ◌==◌, List, [], ◌∷◌, ◌++◌, length, map, take, Option, Some, None, All, decimal, refl, ap, ap₂, ◌∙◌, append-nil}
use Rattle.std.proofs.lemmas.Bool.{and_parts}
use Rattle.std.proofs.lemmas.List.Elements.{All-filter, All-head, All-tail, filter-append}
use lib.Utf8.{encode}
use Rattle.std.specs.List.{flat_map, list_all}
use Rattle.std.specs.Prelude.{codes, IsUtf8}
use Rattle.std.specs.Str.{bytes_eq}
use Rattle.view_texts.specs.Shares.{share_text}
use Rattle.flame_layout.specs.Boxes.{SeenBox}
use Rattle.svg_texts.specs.Changes.{said_change}
use Rattle.svg_texts.specs.Fills.{root_fill, name_fill}
use Rattle.svg_texts.specs.Labels.{room_on}
use Rattle.svg_texts.specs.Shown.{shown}
use Rattle.svg_texts.specs.Svg.{Picture, drawn, left_out, rows_of, height_of, left_of, right_of, top_of, is_drawn, weight_in, name_in_tip, part_in, compared_in, both_in_tip, weights_in_tip, tip, change_of, fill_with, fill_of, title_element, rect_element, text_tag, text_element, label_element, rectangle_of, written_on, box_line, svg_tag, paper_element, heading, narrower_boxes, told_left_out, own_weight, foot_text, foot, svg_text}
use Rattle.svg_texts.specs.declared.changes.Compared.{Compared}
use Rattle.svg_texts.specs.SvgLaws.{is_inert, IsXmlText}
use Rattle.svg_texts.specs.SvgTags.{tags, svg_tags, heading_tags, box_tags, label_tags, foot_tags, rectangles}
use Rattle.svg_texts.proofs.Figures.{is_printed, is_inside, AreQuiet, quiet, quiet_inside, quiet-decimal, quiet-name, quiet-compared}
use Rattle.svg_texts.proofs.SaidTexts.{OfXml, is_xml, xml-both, xml-printed, IsSaid, said-both, literal as said-literal, said-quiet, said-none, said-shown, said-weight, said-share, said-compared, said-label}
use Rattle.svg_texts.proofs.Tags.{HasTags, is_closed, is_tag_rest, rest-more, tags-both, tags-inert, tags-tag, printed-rest}

-- ---- what is said

-- that the text of a picture is read from names in UTF-8
pub record AreNamed (picture : Picture) (boxes : List SeenBox) : Type 0 where
  pub title : IsUtf8 picture.title
  pub unit : IsUtf8 picture.unit
  pub names : All (λ box. IsUtf8 box.span.name) boxes

said-in : {given : Type 0} (picture : Picture) (weight : ℕ) → (given → IsUtf8 picture.unit) → IsSaid given (weight_in picture weight)
said-in picture weight unit = said-weight (shown picture.unit) weight (said-shown picture.unit unit)

said-name : {given : Type 0} (name : List ℕ) → (given → IsUtf8 name) → IsSaid given (name_in_tip name)
said-name [] is = said-literal (codes "(empty name)") refl
said-name (byte ∷ rest) is = said-shown (byte ∷ rest) is

said-part : {given : Type 0} (picture : Picture) (whole weight : ℕ) → (given → IsUtf8 picture.unit) → IsSaid given (part_in picture whole weight)
said-part picture whole weight unit =
    said-both (weight_in picture weight) _ (said-in picture weight unit) (said-both (codes ", ") (share_text whole weight) (said-literal (codes ", ") refl) (said-share whole weight))

said-both_in : {given : Type 0} (picture : Picture) (total_before : Option ℕ) (before after : ℕ) → (given → IsUtf8 picture.unit) → IsSaid given (both_in_tip picture total_before before after)
said-both_in picture None before after unit =
    let change = said_change (compared_in picture before after) in
    said-both (codes "before ") _ (said-literal (codes "before ") refl) (said-both (weight_in picture before) _ (said-in picture before unit)
    (said-both (codes ", after ") _ (said-literal (codes ", after ") refl) (said-both (weight_in picture after) _ (said-in picture after unit)
    (said-both (codes ", ") _ (said-literal (codes ", ") refl) (said-both change _ (said-compared (compared_in picture before after))
    (said-both (codes ", ") (share_text picture.total after) (said-literal (codes ", ") refl) (said-share picture.total after)))))))
said-both_in picture (Some total_before) before after unit =
    said-both (codes "before ") _ (said-literal (codes "before ") refl) (said-both (part_in picture total_before before) _ (said-part picture total_before before unit)
    (said-both (codes ", after ") _ (said-literal (codes ", after ") refl) (said-both (part_in picture picture.total after) _ (said-part picture picture.total after unit)
    (said-both (codes ", points ") (said_change (compared_in picture before after)) (said-literal (codes ", points ") refl) (said-compared (compared_in picture before after))))))

said-weights : {given : Type 0} (picture : Picture) (weight : ℕ) (before : Option ℕ) → (given → IsUtf8 picture.unit) → IsSaid given (weights_in_tip picture weight before)
said-weights picture weight None unit = said-part picture picture.total weight unit
said-weights picture weight (Some before) unit = said-both_in picture picture.total_before before weight unit

pub said-tip : {given : Type 0} (picture : Picture) (box : SeenBox) → (given → IsUtf8 picture.unit) → (given → IsUtf8 box.span.name) → IsSaid given (tip picture box)
unfolding tip
said-tip picture box unit name =
    let span = box.span in
    said-both (name_in_tip span.name) _ (said-name span.name name) (said-both (codes ": ") _ (said-literal (codes ": ") refl)
    (said-both (weights_in_tip picture span.weight box.before) _ (said-weights picture span.weight box.before unit)
    (said-both (codes ", own ") (weight_in picture span.own) (said-literal (codes ", own ") refl) (said-in picture span.own unit))))

pub said-written : {given : Type 0} (picture : Picture) (box : SeenBox) → (given → IsUtf8 box.span.name) → IsSaid given (written_on picture box)
said-written picture box name = said-label (room_on (right_of picture box - left_of picture box)) box.span.name (change_of picture box) name

dot : {given : Type 0} → IsSaid given (32 ∷ 194 ∷ 183 ∷ 32 ∷ [])
unfolding encode
dot = record { inert = refl; of_xml = λ names. record { characters = codes " · "; each = refl; encoded = refl } }

said-left_out : {given : Type 0} (picture : Picture) (count weight : ℕ) → (given → IsUtf8 picture.unit) → IsSaid given (told_left_out picture count weight)
said-left_out {given = given} picture count weight unit = by (count == 0)
  where
    boxes : (b : Bool) → IsSaid given (cond b (codes " narrower box") (codes " narrower boxes"))
    boxes true = said-literal (codes " narrower box") refl
    boxes false = said-literal (codes " narrower boxes") refl

    by : (b : Bool) → IsSaid given (cond b [] ((32 ∷ 194 ∷ 183 ∷ 32 ∷ []) ++ (decimal count ++ (narrower_boxes count ++ (codes " left out, in which " ++ (weight_in picture weight ++ codes " ends"))))))
    by true = said-none
    by false =
        said-both (32 ∷ 194 ∷ 183 ∷ 32 ∷ []) _ dot (said-both (decimal count) _ (said-quiet (decimal count) (quiet-decimal count)) (said-both (narrower_boxes count) _ (boxes (count == 1))
        (said-both (codes " left out, in which ") _ (said-literal (codes " left out, in which ") refl)
        (said-both (weight_in picture weight) (codes " ends") (said-in picture weight unit) (said-literal (codes " ends") refl)))))

pub said-foot : {given : Type 0} (picture : Picture) (count weight : ℕ) → (given → IsUtf8 picture.unit) → IsSaid given (foot_text picture count weight)
said-foot picture count weight unit =
    said-both (codes "total ") _ (said-literal (codes "total ") refl)
    (said-both (weight_in picture picture.total) (told_left_out picture count weight) (said-in picture picture.total unit) (said-left_out picture count weight unit))

-- ---- parts of a picture, with their tags

record EndsTag (rest : List ℕ) : Type 0 where
  end : is_tag_rest rest ≡ true

pub record Marks (given : Type 0) (text : List ℕ) (found : List (List ℕ)) : Type 0 where
  pub tags : HasTags text found
  pub of_xml : given → OfXml text

module _ {given : Type 0} where
  marks-both : {first second : List (List ℕ)} (one other : List ℕ) → Marks given one first → Marks given other second → Marks given (one ++ other) (first ++ second)
  marks-both one other has more =
      record {
        tags = tags-both one other has.tags more.tags;
        of_xml = λ names. xml-both one other (has.of_xml names) (more.of_xml names);
      }

  -- a literal part
  literal : (text : List ℕ) → (is_closed text && list_all is_printed text) ≡ true → Marks given text (tags text)
  literal text is =
      let parts = and_parts (is_closed text) (list_all is_printed text) is in
      record {
        tags = record { closed = parts.0; tags = refl };
        of_xml = λ names. xml-printed text parts.1;
      }

  said : (text : List ℕ) → IsSaid given text → Marks given text []
  said text is = record { tags = tags-inert text is.inert; of_xml = is.of_xml }

  -- a tag
  tag : (rest : List ℕ) → EndsTag rest → Marks given (60 ∷ rest) ((60 ∷ rest) ∷ [])
  tag rest is = record { tags = tags-tag rest is.end; of_xml = λ names. xml-printed (60 ∷ rest) (printed-rest rest is.end) }

  title : (text : List ℕ) → IsSaid given text → Marks given (title_element text) (codes "<title>" ∷ codes "</title>" ∷ [])
  unfolding title_element
  title text is = marks-both (codes "<title>") _ (literal (codes "<title>") refl) (marks-both text (codes "</title>") (said text is) (literal (codes "</title>") refl))

-- ---- tags with numbers

ends : (rest : List ℕ) → is_tag_rest rest ≡ true → EndsTag rest
ends rest is = record { end = is }

part : (text rest : List ℕ) → list_all is_inside text ≡ true → EndsTag rest → EndsTag (text ++ rest)
part text rest inside is = record { end = rest-more text rest inside is.end }

number : (n : ℕ) (rest : List ℕ) → EndsTag rest → EndsTag (decimal n ++ rest)
number n rest is = part (decimal n) rest (quiet_inside (decimal n) (quiet-decimal n)) is

text-tag : {given : Type 0} (left base : ℕ) → Marks given (text_tag left base) (text_tag left base ∷ [])
unfolding text_tag
text-tag left base = tag _ (part (codes "text x=\"") _ refl (number left _ (part (codes "\" y=\"") _ refl (number base (codes "\">") (ends (codes "\">") refl)))))

text : {given : Type 0} (left base : ℕ) (shows : List ℕ) → IsSaid given shows → Marks given (text_element left base shows) (text_tag left base ∷ codes "</text>" ∷ [])
text left base shows is = marks-both (text_tag left base) _ (text-tag left base) (marks-both shows (codes "</text>") (said shows is) (literal (codes "</text>") refl))

quiet-fill : (picture : Picture) (box : SeenBox) → AreQuiet (fill_of picture box)
quiet-fill picture box = by (change_of picture box)
  where
    plain : (b : Bool) → AreQuiet (cond b root_fill (name_fill box.span.name))
    plain true = quiet root_fill refl
    plain false = quiet-name box.span.name

    by : (compared : Option Compared) → AreQuiet (fill_with box.span compared)
    by None = plain (box.span.depth == 0)
    by (Some compared) = quiet-compared compared

rect-tag : {given : Type 0} (left top width : ℕ) (fill : List ℕ) → AreQuiet fill → Marks given (rect_element left top width fill) (rect_element left top width fill ∷ [])
unfolding rect_element
rect-tag left top width fill all =
    tag _ (part (codes "rect x=\"") _ refl (number left _ (part (codes "\" y=\"") _ refl (number top _ (part (codes "\" width=\"") _ refl (number width _
    (part (codes "\" height=\"17\" fill=\"") _ refl (part fill (codes "\"/>") (quiet_inside fill all) (ends (codes "\"/>") refl)))))))))

paper-tag : {given : Type 0} (width height : ℕ) → Marks given (paper_element width height) (paper_element width height ∷ [])
unfolding paper_element
paper-tag width height =
    tag _ (part (codes "rect width=\"") _ refl (number width _ (part (codes "\" height=\"") _ refl (number height (codes "\" fill=\"#fbfbf9\"/>") (ends (codes "\" fill=\"#fbfbf9\"/>") refl)))))

svg-tag : {given : Type 0} (width height : ℕ) → Marks given (svg_tag width height) (svg_tag width height ∷ [])
unfolding svg_tag
svg-tag width height =
    tag _ (part (codes "svg xmlns=\"http://www.w3.org/2000/svg\" width=\"") _ refl (number width _ (part (codes "\" height=\"") _ refl (number height _
    (part (codes "\" viewBox=\"0 0 ") _ refl (number width _ (part (codes " ") _ refl (number height (codes "\" font-family=\"monospace\" font-size=\"12\">") (ends (codes "\" font-family=\"monospace\" font-size=\"12\">") refl)))))))))

-- ---- the parts

label-element : {given : Type 0} (left base : ℕ) (shows : List ℕ) → IsSaid given shows → Marks given (label_element left base shows) (label_tags left base shows)
label-element left base [] is = literal [] refl
label-element left base (byte ∷ rest) is = text left base (byte ∷ rest) is

box-marks : {given : Type 0} (picture : Picture) (rows : ℕ) (box : SeenBox) → (given → IsUtf8 picture.unit) → (given → IsUtf8 box.span.name) → Marks given (box_line picture rows box) (box_tags picture rows box)
unfolding box_line
box-marks picture rows box unit name =
    marks-both (codes "<g>") _ (literal (codes "<g>") refl) (marks-both (title_element (tip picture box)) _ (title (tip picture box) (said-tip picture box unit name))
    (marks-both (rectangle_of picture rows box) _ (rect-tag (left_of picture box) (top_of picture rows box) (right_of picture box - left_of picture box) (fill_of picture box) (quiet-fill picture box))
    (marks-both (label_element (left_of picture box + 4) (top_of picture rows box + 13) (written_on picture box)) (codes "</g>\n")
    (label-element (left_of picture box + 4) (top_of picture rows box + 13) (written_on picture box) (said-written picture box name)) (literal (codes "</g>\n") refl))))

boxes-marks : {given : Type 0} (picture : Picture) (rows : ℕ) (boxes : List SeenBox) → (given → IsUtf8 picture.unit) → (given → All (λ box. IsUtf8 box.span.name) boxes)
    → Marks given (flat_map (box_line picture rows) boxes) (flat_map (box_tags picture rows) boxes)
boxes-marks picture rows [] unit names = literal [] refl
boxes-marks {given = given} picture rows (box ∷ boxes) unit names =
    let named : SeenBox → Type 0 = λ (each : SeenBox). IsUtf8 each.span.name in
    marks-both (box_line picture rows box) (flat_map (box_line picture rows) boxes) (box-marks picture rows box unit (λ all. All-head named box boxes (names all)))
    (boxes-marks picture rows boxes unit (λ all. All-tail named box boxes (names all)))

heading-marks : {given : Type 0} (picture : Picture) (rows : ℕ) → (given → IsUtf8 picture.title) → Marks given (heading picture rows) (heading_tags picture rows)
unfolding heading
heading-marks picture rows is =
    let shows = said-shown picture.title is in
    marks-both (svg_tag picture.width (height_of rows)) _ (svg-tag picture.width (height_of rows)) (marks-both (codes "\n") _ (literal (codes "\n") refl)
    (marks-both (title_element (shown picture.title)) _ (title (shown picture.title) shows) (marks-both (codes "\n") _ (literal (codes "\n") refl)
    (marks-both (paper_element picture.width (height_of rows)) _ (paper-tag picture.width (height_of rows)) (marks-both (codes "\n") _ (literal (codes "\n") refl)
    (marks-both (text_element 4 15 (shown picture.title)) (codes "\n") (text 4 15 (shown picture.title) shows) (literal (codes "\n") refl)))))))

foot-marks : {given : Type 0} (picture : Picture) (rows count weight : ℕ) → (given → IsUtf8 picture.unit) → Marks given (foot picture rows count weight) (foot_tags rows)
unfolding foot
foot-marks picture rows count weight unit =
    marks-both (text_element 4 (height_of rows - 5) (foot_text picture count weight)) (codes "\n</svg>\n")
    (text 4 (height_of rows - 5) _ (said-foot picture count weight unit)) (literal (codes "\n</svg>\n") refl)

svg-marks : (picture : Picture) (boxes : List SeenBox) → Marks (AreNamed picture boxes) (svg_text picture boxes) (svg_tags picture boxes)
unfolding svg_text
svg-marks picture boxes =
    let rows = rows_of (drawn picture boxes) in
    let others = left_out picture boxes in
    let lines = flat_map (box_line picture rows) (drawn picture boxes) in
    let end = foot picture rows (length others) (own_weight others) in
    marks-both (heading picture rows) (lines ++ end) (heading-marks picture rows (λ named. named.title))
    (marks-both lines end (boxes-marks picture rows (drawn picture boxes) (λ named. named.unit) (λ named. All-filter (is_drawn picture) (λ (box : SeenBox). IsUtf8 box.span.name) boxes named.names))
    (foot-marks picture rows (length others) (own_weight others) (λ named. named.unit)))

-- ---- the laws

pub text-tags : (picture : Picture) (boxes : List SeenBox) → tags (svg_text picture boxes) ≡ svg_tags picture boxes
text-tags picture boxes = (svg-marks picture boxes).tags.tags

box-rectangle : (picture : Picture) (rows : ℕ) (box : SeenBox) → rectangles (box_tags picture rows box) ≡ rectangle_of picture rows box ∷ []
unfolding rect_element text_tag
box-rectangle picture rows box = ap (λ others. rectangle_of picture rows box ∷ others) (by (written_on picture box))
  where
    by : (shows : List ℕ) → rectangles (label_tags (left_of picture box + 4) (top_of picture rows box + 13) shows ++ codes "</g>" ∷ []) ≡ []
    by [] = refl
    by (byte ∷ rest) = refl

box-rectangles : (picture : Picture) (rows : ℕ) (boxes : List SeenBox) → rectangles (flat_map (box_tags picture rows) boxes) ≡ map (rectangle_of picture rows) boxes
box-rectangles picture rows [] = refl
box-rectangles picture rows (box ∷ boxes) =
    filter-append (λ tag. bytes_eq (take 5 tag) (codes "<rect")) (box_tags picture rows box) (flat_map (box_tags picture rows) boxes)
    ∙ ap₂ (λ s t. s ++ t) (box-rectangle picture rows box) (box-rectangles picture rows boxes)

foot-rectangles : (rows : ℕ) → rectangles (foot_tags rows) ≡ []
unfolding text_tag
foot-rectangles rows = refl

heading-rectangles : (picture : Picture) (rows : ℕ) (more : List (List ℕ)) → rectangles (heading_tags picture rows ++ more) ≡ paper_element picture.width (height_of rows) ∷ rectangles more
unfolding svg_tag paper_element text_tag
heading-rectangles picture rows more = refl

pub text-rectangles : (picture : Picture) (boxes : List SeenBox)
    → rectangles (tags (svg_text picture boxes)) ≡ paper_element picture.width (height_of (rows_of (drawn picture boxes))) ∷ map (rectangle_of picture (rows_of (drawn picture boxes))) (drawn picture boxes)
text-rectangles picture boxes =
    let rows = rows_of (drawn picture boxes) in
    let lines = flat_map (box_tags picture rows) (drawn picture boxes) in
    ap rectangles (text-tags picture boxes) ∙ (heading-rectangles picture rows (lines ++ foot_tags rows)
    ∙ ap (λ others. paper_element picture.width (height_of rows) ∷ others) (filter-append (λ tag. bytes_eq (take 5 tag) (codes "<rect")) lines (foot_tags rows)
    ∙ (ap₂ (λ s t. s ++ t) (box-rectangles picture rows (drawn picture boxes)) (foot-rectangles rows) ∙ append-nil _)))

pub text-xml : (picture : Picture) (boxes : List SeenBox) → IsUtf8 picture.title → IsUtf8 picture.unit → All (λ box. IsUtf8 box.span.name) boxes → IsXmlText (svg_text picture boxes)
text-xml picture boxes title unit names =
    is_xml (svg_text picture boxes) ((svg-marks picture boxes).of_xml (record { title = title; unit = unit; names = names }))

-- what is said has no markup, whatever the bytes of names are
pub inert-tip : (picture : Picture) (box : SeenBox) → is_inert (tip picture box) ≡ true
inert-tip picture box = (said-tip {given = ⊥} picture box (λ never. absurd never) (λ never. absurd never)).inert

pub inert-written : (picture : Picture) (box : SeenBox) → is_inert (written_on picture box) ≡ true
inert-written picture box = (said-written {given = ⊥} picture box (λ never. absurd never)).inert

pub inert-foot : (picture : Picture) (count weight : ℕ) → is_inert (foot_text picture count weight) ≡ true
inert-foot picture count weight = (said-foot {given = ⊥} picture count weight (λ never. absurd never)).inert
