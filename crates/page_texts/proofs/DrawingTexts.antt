-- The text of a drawing, part by part.
use Rattle.std.proofs.Common.{◌≡◌, ℕ, List, [], ◌∷◌, ◌++◌, length, map, Bool, true, false, Option, Some, None, option_map, codes, decimal, refl, sym, ap, ap₂, ◌∙◌, append_assoc}
use Rattle.json.specs.Print.{escape_byte}
use Rattle.serde_json.specs.Data.{Data, object, Members, no_members, member}
use Rattle.page_texts.specs.Columns.{no_span}
use Rattle.page_texts.specs.Page.{PageBox, ToldBox, told_box, told_boxes, is_under, kept, left_out, own_weight, column, whole_number, list_data, drawing_data, moment_members}
use Rattle.page_texts.specs.ScriptSafe.{script_safe}
use Rattle.page_texts.specs.Drawn.{moment_of}
use Rattle.page_texts.specs.declared.drawings.Moment.{Moment}
use Rattle.page_texts.specs.declared.kept_boxes.KeptBox.{KeptBox}
use Rattle.page_texts.specs.declared.kept_boxes.KeptBoxes.{KeptBoxes}
use Rattle.page_texts.specs.declared.kept_boxes.Column.{Column}
use Rattle.page_texts.specs.declared.kept_boxes.Column.TheVariants.{Gap, Name, Other, Rest, Tail, Up}
use Rattle.page_texts.specs.checked.Kept.{Keeps, numbered, no_kept, number_in, numbers_of, is_kept_under, number_text, moment_text, first_text, other_text, last_text}
use Rattle.page_texts.specs.checked.SafeText.{safe_text, safe_members}

-- parts that are appended one after another
five : (o a b c d e : List ℕ) → ((((o ++ a) ++ b) ++ c) ++ d) ++ e ≡ o ++ (a ++ (b ++ (c ++ (d ++ e))))
five o a b c d e = simp append_assoc

pub five_in_turn : (o a b c d e o1 o2 o3 o4 o5 : List ℕ) → o1 ≡ o ++ a → o2 ≡ o1 ++ b → o3 ≡ o2 ++ c → o4 ≡ o3 ++ d → o5 ≡ o4 ++ e → o5 ≡ o ++ (a ++ (b ++ (c ++ (d ++ e))))
five_in_turn o a b c d e o1 o2 o3 o4 o5 e1 e2 e3 e4 e5 = let parts = five o a b c d e in cc

four : (o a b c d : List ℕ) → (((o ++ a) ++ b) ++ c) ++ d ≡ o ++ (a ++ (b ++ (c ++ d)))
four o a b c d = simp append_assoc

pub four_in_turn : (o a b c d whole o1 o2 o3 o4 : List ℕ) → o1 ≡ o ++ a → o2 ≡ o1 ++ b → o3 ≡ o2 ++ c → o4 ≡ o3 ++ d → whole ≡ a ++ (b ++ (c ++ d)) → o4 ≡ o ++ whole
four_in_turn o a b c d whole o1 o2 o3 o4 e1 e2 e3 e4 w = let parts = four o a b c d in cc

three : (o a b c : List ℕ) → ((o ++ a) ++ b) ++ c ≡ o ++ (a ++ (b ++ c))
three o a b c = simp append_assoc

pub three_in_turn : (o a b c o1 o2 o3 : List ℕ) → o1 ≡ o ++ a → o2 ≡ o1 ++ b → o3 ≡ o2 ++ c → o3 ≡ o ++ (a ++ (b ++ c))
three_in_turn o a b c o1 o2 o3 e1 e2 e3 = let parts = three o a b c in cc

-- ---- the members in their order

abbrev last_data : Data → Data → ℕ → Data → Members
last_data rest tail total up =
    member (codes "rest") rest (member (codes "tail") tail (member (codes "total") (whole_number total) (member (codes "up") up no_members)))

abbrev pair : List ℕ → Data → List ℕ
pair key value = key ++ safe_text value

abbrev last_parts : Data → Data → ℕ → Data → List ℕ
last_parts rest tail total up =
    pair (codes ",\"rest\":") rest ++ (pair (codes ",\"tail\":") tail ++ (number_text (codes ",\"total\":") total ++ (pair (codes ",\"up\":") up ++ 125 ∷ [])))

last_shape : (rest tail up : Data) (total : ℕ) → safe_members true (last_data rest tail total up) ≡ last_parts rest tail total up
unfolding script_safe escape_byte
last_shape rest tail up total = refl

abbrev some_other : Bool → Data → Members → Members
some_other true other later = member (codes "other") other later
some_other false other later = later

abbrev other_part : Bool → Data → List ℕ
other_part true other = pair (codes ",\"other\":") other
other_part false other = []

other_shape : (is_compared : Bool) (other : Data) (later : Members) → safe_members true (some_other is_compared other later) ≡ other_part is_compared other ++ safe_members true later
unfolding script_safe escape_byte
other_shape true other later = refl
other_shape false other later = refl

abbrev left_data : ℕ → ℕ → Data
left_data boxes weight = object (member (codes "boxes") (whole_number boxes) (member (codes "weight") (whole_number weight) no_members))

abbrev first_data : Data → ℕ → ℕ → ℕ → Data → Members → Members
first_data gap least boxes weight name later =
    member (codes "gap") gap (member (codes "least") (whole_number least) (member (codes "left_out") (left_data boxes weight) (member (codes "name") name later)))

abbrev first_parts : Data → ℕ → ℕ → ℕ → Data → List ℕ
first_parts gap least boxes weight name =
    pair (codes "\"gap\":") gap ++ (number_text (codes ",\"least\":") least ++ (number_text (codes ",\"left_out\":{\"boxes\":") boxes
    ++ (number_text (codes ",\"weight\":") weight ++ pair (codes "},\"name\":") name)))

first_assoc : (k1 d k2 l k3 b k4 w k5 n rest : List ℕ) (x : ℕ) →
    k1 ++ (d ++ (k2 ++ (l ++ (k3 ++ ((b ++ (k4 ++ (w ++ x ∷ []))) ++ (k5 ++ (n ++ rest)))))))
    ≡ ((k1 ++ d) ++ ((k2 ++ l) ++ ((k3 ++ b) ++ ((k4 ++ w) ++ (x ∷ (k5 ++ n)))))) ++ rest
first_assoc k1 d k2 l k3 b k4 w k5 n rest x = simp append_assoc

first_shape : (gap name : Data) (least boxes weight : ℕ) (later : Members) → safe_members false (first_data gap least boxes weight name later) ≡ first_parts gap least boxes weight name ++ safe_members true later
unfolding script_safe escape_byte
first_shape gap name least boxes weight later =
    first_assoc (codes "\"gap\":") (safe_text gap) (codes ",\"least\":") (decimal least) (codes ",\"left_out\":{\"boxes\":") (decimal boxes) (codes ",\"weight\":") (decimal weight)
    (codes ",\"name\":") (safe_text name) (safe_members true later) 125

moment_assoc : (k1 a k2 c rest : List ℕ) (x : ℕ) → k1 ++ (a ++ (k2 ++ (c ++ x ∷ rest))) ≡ ((k1 ++ a) ++ ((k2 ++ c) ++ x ∷ [])) ++ rest
moment_assoc k1 a k2 c rest x = simp append_assoc

moment_shape : (moment : Option Moment) (gap name : Data) (least boxes weight : ℕ) (later : Members)
    → safe_text (object (moment_members (option_map moment_of moment) (first_data gap least boxes weight name later))) ≡ moment_text moment ++ safe_members false (first_data gap least boxes weight name later)
unfolding script_safe escape_byte
moment_shape None gap name least boxes weight later = refl
moment_shape (Some moment) gap name least boxes weight later =
    moment_assoc (codes "{\"at\":") (decimal moment.at) (codes ",\"counts\":") (safe_text (list_data (map whole_number moment.counts.now))) (safe_members false (first_data gap least boxes weight name later)) 44

whole_shape : (moment : Option Moment) (is_compared : Bool) (gap name other rest tail up : Data) (least boxes left total : ℕ)
    → safe_text (object (moment_members (option_map moment_of moment) (first_data gap least boxes left name (some_other is_compared other (last_data rest tail total up)))))
    ≡ moment_text moment ++ (first_parts gap least boxes left name ++ (other_part is_compared other ++ last_parts rest tail total up))
whole_shape moment is_compared gap name other rest tail up least boxes left total =
    moment_shape moment gap name least boxes left (some_other is_compared other (last_data rest tail total up))
    ∙ ap (λ t. moment_text moment ++ t)
    (first_shape gap name least boxes left (some_other is_compared other (last_data rest tail total up))
    ∙ ap (λ t. first_parts gap least boxes left name ++ t)
    (other_shape is_compared other (last_data rest tail total up) ∙ ap (λ t. other_part is_compared other ++ t) (last_shape rest tail up total)))

-- ---- the columns

module _ (names : List (List ℕ)) (in_column : Column) (number : ToldBox → ℕ)
    (first : (box : PageBox) (is_under : Bool) → number_in in_column no_kept (numbered names box) is_under ≡ number (told_box names no_span box is_under))
    (same : (before box : PageBox) (is_under : Bool) → number_in in_column (numbered names before) (numbered names box) is_under ≡ number (told_box names before.span box is_under)) where
  under_same : (box : PageBox) (later : List PageBox) → is_kept_under (numbered names box) (map (numbered names) later) ≡ is_under box.span later
  under_same box [] = refl
  under_same box (next ∷ later) = refl

  later_same : (before : PageBox) (boxes : List PageBox)
      → map whole_number (numbers_of in_column (numbered names before) (map (numbered names) boxes)) ≡ map (λ box. whole_number (number box)) (told_boxes names before.span boxes)
  later_same before [] = refl
  later_same before (box ∷ boxes) =
      ap₂ (λ n later. whole_number n ∷ later)
      (ap (number_in in_column (numbered names before) (numbered names box)) (under_same box boxes) ∙ same before box (is_under box.span boxes))
      (later_same box boxes)

  numbers_same : (boxes : List PageBox) → map whole_number (numbers_of in_column no_kept (map (numbered names) boxes)) ≡ map (λ box. whole_number (number box)) (told_boxes names no_span boxes)
  numbers_same [] = refl
  numbers_same (box ∷ boxes) =
      ap₂ (λ n later. whole_number n ∷ later)
      (ap (number_in in_column no_kept (numbered names box)) (under_same box boxes) ∙ first box (is_under box.span boxes))
      (later_same box boxes)

  column_same : (boxes : List PageBox) (items : List KeptBox) → items ≡ map (numbered names) boxes
      → list_data (map whole_number (numbers_of in_column no_kept items)) ≡ column number (told_boxes names no_span boxes)
  column_same boxes items are = ap (λ xs. list_data (map whole_number (numbers_of in_column no_kept xs))) are ∙ ap list_data (numbers_same boxes)

-- ---- the whole

pub drawing_text : (names : List (List ℕ)) (moment : Option Moment) (is_compared : Bool) (least total : ℕ) (boxes : List PageBox) (answer : KeptBoxes) → Keeps names least boxes answer
    → safe_text (drawing_data names (record { moment = option_map moment_of moment; is_compared = is_compared; least = least; total = total; boxes = boxes }))
    ≡ moment_text moment ++ (first_text answer least ++ (other_text is_compared answer ++ last_text answer total))
drawing_text names moment true least total boxes answer keeps =
    let items = answer.boxes.items in
    let some = kept least boxes in
    let gap = column_same names Gap (λ box. box.gap) (λ box b. refl) (λ before box b. refl) some items keeps.boxes_are in
    let name = column_same names Name (λ box. box.name) (λ box b. refl) (λ before box b. refl) some items keeps.boxes_are in
    let other = column_same names Other (λ box. box.other) (λ box b. refl) (λ before box b. refl) some items keeps.boxes_are in
    let rest = column_same names Rest (λ box. box.rest) (λ box b. refl) (λ before box b. refl) some items keeps.boxes_are in
    let tail = column_same names Tail (λ box. box.tail) (λ box b. refl) (λ before box b. refl) some items keeps.boxes_are in
    let up = column_same names Up (λ box. box.up) (λ box b. refl) (λ before box b. refl) some items keeps.boxes_are in
    whole_shape moment true _ _ _ _ _ _ least (length (left_out least boxes)) (own_weight (left_out least boxes)) total
    ∙ sym (λ i. moment_text moment ++ (first_parts (gap i) least (keeps.left_boxes i) (keeps.left_weight i) (name i) ++ (other_part true (other i) ++ last_parts (rest i) (tail i) total (up i))))
drawing_text names moment false least total boxes answer keeps =
    let items = answer.boxes.items in
    let some = kept least boxes in
    let gap = column_same names Gap (λ box. box.gap) (λ box b. refl) (λ before box b. refl) some items keeps.boxes_are in
    let name = column_same names Name (λ box. box.name) (λ box b. refl) (λ before box b. refl) some items keeps.boxes_are in
    let rest = column_same names Rest (λ box. box.rest) (λ box b. refl) (λ before box b. refl) some items keeps.boxes_are in
    let tail = column_same names Tail (λ box. box.tail) (λ box b. refl) (λ before box b. refl) some items keeps.boxes_are in
    let up = column_same names Up (λ box. box.up) (λ box b. refl) (λ before box b. refl) some items keeps.boxes_are in
    whole_shape moment false _ _ (column (λ box. box.other) (told_boxes names no_span some)) _ _ _ least (length (left_out least boxes)) (own_weight (left_out least boxes)) total
    ∙ sym (λ i. moment_text moment ++ (first_parts (gap i) least (keeps.left_boxes i) (keeps.left_weight i) (name i) ++ ([] ++ last_parts (rest i) (tail i) total (up i))))
