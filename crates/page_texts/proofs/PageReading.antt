-- The value of a page: its keys rise, and where its numbers have 64 bits, it reads back.
use Rattle.std.proofs.Common.{codes, ◌≡◌, ℕ, suc, ◌+◌, ◌-◌, ◌^◌, ◌<◌, ◌≤◌, Bool, true, false, cond, List, [], ◌∷◌, length, map, Option, Some, None, All, IfSome, ◌∙◌, refl, arith, rules}
use Rattle.std.proofs.lemmas.List.Sums.{prefix_len-le-length}
use Rattle.std.proofs.Math.Nat.{mod-lt}
use Rattle.std.specs.List.{AllByRecursion}
use Rattle.std.specs.List.Sorted.{IsStrictlySortedBy}
use Rattle.std.specs.declared.cmp.Ordering.TheVariants.{Less}
use Rattle.std.specs.Ordering.{nat_cmp}
use Rattle.std.specs.Cmp.Lexicographic.{slice_cmp}
use Rattle.serde_json.specs.Data.{Data, string, object, Members, member, depth, members_depth}
use Rattle.serde_json.specs.Read.{read, max_depth}
use Rattle.view_texts.specs.JsonLaws.{HasRisingKeys, keys_of}
use Rattle.view_texts.proofs.JsonReading.{HasWholeNumbers, MembersHaveWholeNumbers, HasNumbers-outline, text_reads_back}
use Rattle.view_texts.proofs.JsonValues.{each_of, whole_items, rising_items, items_depth-le}
use Rattle.flame_layout.specs.declared.boxes.SpanBox.{SpanBox}
use Rattle.page_texts.specs.Columns.{minus, no_span, end_of, is_on, front_of, tail_of, rest_of}
use Rattle.page_texts.specs.Page.{PageBox, ToldBox, told_boxes, drawing_boxes, is_under, member_if, opening_members, later_members, Moment, PageDrawing, PageSource, Page, whole_number, list_data, kept, left_out, page_names, place_of, column, moment_members, other_members, last_members, box_members, drawing_data, source_data, page_value, page_text}
use Rattle.page_texts.specs.PageLaws.{IsSmallBox, IsSmallMoment, IsSmallDrawing, IsSmallPage}
use Rattle.page_texts.specs.ScriptSafe.{page_data_text}
use Rattle.page_texts.proofs.SafeReading.{reads_as_plain}

-- ---- values

pub value_reads_back : (d : Data) → HasWholeNumbers d → HasRisingKeys d → depth d ≤ max_depth → read (page_data_text d) ≡ Some d
value_reads_back d w h shallow = reads_as_plain d (HasNumbers-outline d w) ∙ text_reads_back d w h shallow

pub string_reads_back : (text : List ℕ) → read (page_data_text (string text)) ≡ Some (string text)
string_reads_back text = value_reads_back (string text) tt tt (omega arith)

-- ---- columns

record IsSmallTold (box : ToldBox) : Type 0 where
  gap : box.gap < 2 ^ 64
  name : box.name < 2 ^ 64
  other : box.other < 2 ^ 64
  rest : box.rest < 2 ^ 64
  tail : box.tail < 2 ^ 64
  up : box.up < 2 ^ 64

module _ (number_of : ToldBox → ℕ) (boxes : List ToldBox) where
  rising_column : HasRisingKeys (column number_of boxes)
  rising_column = rising_items (λ box. whole_number (number_of box)) (λ box. tt) boxes

  shallow_column : depth (column number_of boxes) ≤ 1
  shallow_column = omega (arith, items_depth-le (λ box. whole_number (number_of box)) 0 (λ box. omega arith) boxes)

  whole_column : ((box : ToldBox) → IsSmallTold box → number_of box < 2 ^ 64) → AllByRecursion IsSmallTold boxes → HasWholeNumbers (column number_of boxes)
  whole_column small h = whole_items (λ box. whole_number (number_of box)) boxes (each boxes h)
    where
      each : (some : List ToldBox) → AllByRecursion IsSmallTold some → AllByRecursion (λ box. number_of box < 2 ^ 64) some
      each [] h = tt
      each (box ∷ some) h = (small box h.0, each some h.1)

-- the place of a name is at most their number
place-le : (names : List (List ℕ)) (name : List ℕ) → place_of names name ≤ length names
place-le names name = prefix_len-le-length _ names

minus-lt : (a b : ℕ) → minus a b < 2 ^ 64
minus-lt a b = mod-lt (a + (2 ^ 64 - b)) (omega arith)

tail-lt : (before span : SpanBox) → span.weight < 2 ^ 64 → tail_of before span < 2 ^ 64
tail-lt before span small = go (is_on before span)
  where
    go : (on : Bool) → cond on (minus (end_of before) (end_of span)) span.weight < 2 ^ 64
    go true = minus-lt (end_of before) (end_of span)
    go false = small

rest-lt : (is_under : Bool) (span : SpanBox) → span.own < 2 ^ 64 → rest_of is_under span < 2 ^ 64
rest-lt true span small = small
rest-lt false span small = minus-lt span.weight span.own

small_told : (names : List (List ℕ)) → length names < 2 ^ 64 → (before : SpanBox) (boxes : List PageBox) → All IsSmallBox boxes → AllByRecursion IsSmallTold (told_boxes names before boxes)
small_told names few before [] h = tt
small_told names few before (box ∷ boxes) h =
    let small = h 0 box (omega arith) in (
      record {
        gap = minus-lt box.span.start (front_of (is_on before box.span) before);
        name = omega (arith, few, place-le names box.span.name);
        other = small.other;
        rest = rest-lt (is_under box.span boxes) box.span small.own;
        tail = tail-lt before box.span small.weight;
        up = minus-lt (before.depth + 1) box.span.depth;
      },
      small_told names few box.span boxes (λ k d l. h (suc k) d (omega arith)),
    )

-- ---- drawings

abbrev drawing_with : Option Moment → Bool → ℕ → ℕ → List PageBox → PageDrawing
drawing_with moment is_compared least total boxes = record { moment = moment; is_compared = is_compared; least = least; total = total; boxes = boxes }

rising_counts : (counts : List ℕ) → HasRisingKeys (list_data (map whole_number counts))
rising_counts counts = rising_items whole_number (λ count. tt) counts

module _ (names : List (List ℕ)) (least total : ℕ) (boxes : List PageBox) where
  numbers : (number_of : ToldBox → ℕ) → HasRisingKeys (column number_of (told_boxes names no_span (kept least boxes)))
  numbers number_of = rising_column number_of (told_boxes names no_span (kept least boxes))

  rising_with : (moment : Option Moment) (is_compared : Bool) → HasRisingKeys (drawing_data names (drawing_with moment is_compared least total boxes))
  unfolding IsStrictlySortedBy
  rising_with None false = search (rules, numbers)
  rising_with None true = search (rules, numbers)
  rising_with (Some moment) false = let counts = rising_counts moment.counts in search (rules, numbers, counts)
  rising_with (Some moment) true = let counts = rising_counts moment.counts in search (rules, numbers, counts)

rising_drawing : (names : List (List ℕ)) (drawing : PageDrawing) → HasRisingKeys (drawing_data names drawing)
rising_drawing names drawing = rising_with names drawing.least drawing.total drawing.boxes drawing.moment drawing.is_compared

rising_source : (source : PageSource) → HasRisingKeys (source_data source)
unfolding IsStrictlySortedBy
rising_source source = search rules

-- a key that is below those of the members
abbrev IsBelow : List ℕ → Members → Type 0
IsBelow first later = AllByRecursion (λ key. slice_cmp nat_cmp first key ≡ Less) (keys_of later)

below_if : (is_said : Bool) (first key : List ℕ) (later : Members) → slice_cmp nat_cmp first key ≡ Less → IsBelow first later → IsBelow first (member_if is_said key later)
below_if true first key later less h = (less, h)
below_if false first key later less h = h

rising_if : (is_said : Bool) (key : List ℕ) (later : Members) → IsBelow key later → HasRisingKeys (object later) → HasRisingKeys (object (member_if is_said key later))
unfolding IsStrictlySortedBy
rising_if true key later below h = ((below, h.0), (tt, h.1))
rising_if false key later below h = h

below_opening : (page : Page) (first : List ℕ) (later : Members) → slice_cmp nat_cmp first (codes "root_below") ≡ Less → slice_cmp nat_cmp first (codes "share") ≡ Less → IsBelow first later
    → IsBelow first (opening_members page.is_root_below page.is_share later)
below_opening page first later root share h =
    below_if page.is_root_below first (codes "root_below") (member_if page.is_share (codes "share") later) root (below_if page.is_share first (codes "share") later share h)

pub rising_page : (page : Page) → HasRisingKeys (page_value page)
unfolding IsStrictlySortedBy
rising_page page =
    let names = page_names page.drawings in
    let drawings = rising_items (drawing_data names) (rising_drawing names) page.drawings in
    let texts = rising_items string (λ name. tt) names in
    let sources = rising_items source_data rising_source page.sources in
    let later = later_members page.sources page.title page.view page.whole in
    let last : HasRisingKeys (object later) = search (rules, sources) in
    let shared = rising_if page.is_share (codes "share") later (search rules) last in
    let opening = rising_if page.is_root_below (codes "root_below") (member_if page.is_share (codes "share") later)
    (below_if page.is_share (codes "root_below") (codes "share") later refl (search rules)) shared in
    let named = member (codes "names") (list_data (map string names)) (opening_members page.is_root_below page.is_share later) in
    let rising_named : HasRisingKeys (object named) = ((below_opening page (codes "names") later refl refl (search rules), opening.0), (texts, opening.1)) in
    let more = rising_if page.has_more (codes "more") named (refl, below_opening page (codes "more") later refl refl (search rules)) rising_named in
    ((below_if page.has_more (codes "drawings") (codes "more") named refl (refl, below_opening page (codes "drawings") later refl refl (search rules)), more.0), (drawings, more.1))

-- ---- depths

shallow_last : (boxes : List ToldBox) (total : ℕ) → members_depth (last_members boxes total) ≤ 1
shallow_last boxes total = omega (arith, shallow_column (λ box. box.rest) boxes, shallow_column (λ box. box.tail) boxes, shallow_column (λ box. box.up) boxes)

shallow_others : (is_compared : Bool) (boxes : List ToldBox) (later : Members) → members_depth later ≤ 1 → members_depth (other_members is_compared boxes later) ≤ 1
shallow_others true boxes later h = omega (arith, h, shallow_column (λ box. box.other) boxes)
shallow_others false boxes later h = h

shallow_moment : (moment : Option Moment) (later : Members) → members_depth later ≤ 1 → members_depth (moment_members moment later) ≤ 1
shallow_moment None later h = h
shallow_moment (Some moment) later h = omega (arith, h, items_depth-le whole_number 0 (λ count. omega arith) moment.counts)

shallow_boxes : (drawing : PageDrawing) (boxes : List ToldBox) (others : List PageBox) → members_depth (box_members drawing boxes others) ≤ 1
shallow_boxes drawing boxes others =
    omega (arith, shallow_column (λ box. box.gap) boxes, shallow_column (λ box. box.name) boxes, shallow_others drawing.is_compared boxes (last_members boxes drawing.total) (shallow_last boxes drawing.total))

shallow_drawing : (names : List (List ℕ)) (drawing : PageDrawing) → depth (drawing_data names drawing) ≤ 2
shallow_drawing names drawing =
    let boxes = drawing_boxes names drawing in
    let others = left_out drawing.least drawing.boxes in
    omega (arith, shallow_moment drawing.moment (box_members drawing boxes others) (shallow_boxes drawing boxes others))

shallow_if : (is_said : Bool) (key : List ℕ) (later : Members) → members_depth later ≤ 2 → members_depth (member_if is_said key later) ≤ 2
shallow_if true key later h = omega (arith, h)
shallow_if false key later h = h

shallow_opening : (is_below is_share : Bool) (later : Members) → members_depth later ≤ 2 → members_depth (opening_members is_below is_share later) ≤ 2
shallow_opening is_below is_share later h = shallow_if is_below (codes "root_below") (member_if is_share (codes "share") later) (shallow_if is_share (codes "share") later h)

shallow_later : (sources : List PageSource) (title view : List ℕ) (whole : ℕ) → members_depth (later_members sources title view whole) ≤ 2
shallow_later sources title view whole = omega (arith, items_depth-le source_data 1 (λ source. omega arith) sources)

shallow_names : (names : List (List ℕ)) (later : Members) → members_depth later ≤ 2 → members_depth (member (codes "names") (list_data (map string names)) later) ≤ 2
shallow_names names later h = omega (arith, h, items_depth-le string 0 (λ name. omega arith) names)

shallow_page : (page : Page) → depth (page_value page) ≤ max_depth
shallow_page page =
    let names = page_names page.drawings in
    let later = later_members page.sources page.title page.view page.whole in
    let opening = opening_members page.is_root_below page.is_share later in
    let named = shallow_names names opening (shallow_opening page.is_root_below page.is_share later (shallow_later page.sources page.title page.view page.whole)) in
    omega (
      arith,
      items_depth-le (drawing_data names) 2 (shallow_drawing names) page.drawings,
      shallow_if page.has_more (codes "more") (member (codes "names") (list_data (map string names)) opening) named,
    )

-- ---- numbers

whole_last : (boxes : List ToldBox) (total : ℕ) → AllByRecursion IsSmallTold boxes → total < 2 ^ 64 → MembersHaveWholeNumbers (last_members boxes total)
whole_last boxes total h t =
    (whole_column (λ box. box.rest) boxes (λ box b. b.rest) h, (whole_column (λ box. box.tail) boxes (λ box b. b.tail) h, (t, (whole_column (λ box. box.up) boxes (λ box b. b.up) h, tt))))

whole_others : (is_compared : Bool) (boxes : List ToldBox) (later : Members) → AllByRecursion IsSmallTold boxes → MembersHaveWholeNumbers later → MembersHaveWholeNumbers (other_members is_compared boxes later)
whole_others true boxes later h more = (whole_column (λ box. box.other) boxes (λ box b. b.other) h, more)
whole_others false boxes later h more = more

whole_moment : (moment : Option Moment) (later : Members) → IfSome moment IsSmallMoment → MembersHaveWholeNumbers later → MembersHaveWholeNumbers (moment_members moment later)
whole_moment None later h more = more
whole_moment (Some moment) later h more =
    let each = each_of (λ count. count < 2 ^ 64) (λ count. HasWholeNumbers (whole_number count)) moment.counts (λ count small. small) h.counts in
    (h.at, (whole_items whole_number moment.counts each, more))

whole_drawing : (names : List (List ℕ)) → length names < 2 ^ 64 → (drawing : PageDrawing) → IsSmallDrawing drawing → HasWholeNumbers (drawing_data names drawing)
whole_drawing names few drawing h =
    let boxes = drawing_boxes names drawing in
    let small = small_told names few no_span (kept drawing.least drawing.boxes) h.boxes in
    let gaps = whole_column (λ box. box.gap) boxes (λ box b. b.gap) small in
    let places = whole_column (λ box. box.name) boxes (λ box b. b.name) small in
    let later = whole_others drawing.is_compared boxes (last_members boxes drawing.total) small (whole_last boxes drawing.total small h.total) in
    whole_moment drawing.moment (box_members drawing boxes (left_out drawing.least drawing.boxes)) h.moment (gaps, (h.least, ((h.left_boxes, (h.left_weight, tt)), (places, later))))

whole_page : (page : Page) → IsSmallPage page → HasWholeNumbers (page_value page)
whole_page page h =
    let names = page_names page.drawings in
    let drawings = whole_items (drawing_data names) page.drawings (each_of IsSmallDrawing (λ drawing. HasWholeNumbers (drawing_data names drawing)) page.drawings (whole_drawing names h.names) h.drawings) in
    let texts = whole_items string names (every_text names) in
    let sources = whole_items source_data page.sources (each_of (λ source. source.weight < 2 ^ 64) (λ source. HasWholeNumbers (source_data source)) page.sources (λ source small. (tt, (tt, (tt, (small, tt))))) h.sources) in
    let later = later_members page.sources page.title page.view page.whole in
    let opening = whole_if page.is_root_below (codes "root_below") (member_if page.is_share (codes "share") later) (whole_if page.is_share (codes "share") later (sources, (tt, (tt, (h.whole, tt))))) in
    (drawings, whole_if page.has_more (codes "more") (member (codes "names") (list_data (map string names)) (opening_members page.is_root_below page.is_share later)) (texts, opening))
  where
    whole_if : (is_said : Bool) (key : List ℕ) (later : Members) → MembersHaveWholeNumbers later → MembersHaveWholeNumbers (member_if is_said key later)
    whole_if true key later more = (tt, more)
    whole_if false key later more = more

    every_text : (names : List (List ℕ)) → AllByRecursion (λ name. HasWholeNumbers (string name)) names
    every_text [] = tt
    every_text (name ∷ names) = (tt, every_text names)

pub page_reads_back : (page : Page) → IsSmallPage page → read (page_text page) ≡ Some (page_value page)
unfolding page_text
page_reads_back page h = value_reads_back (page_value page) (whole_page page h) (rising_page page) (shallow_page page)
