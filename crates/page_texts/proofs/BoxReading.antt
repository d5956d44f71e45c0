-- The boxes that are read of columns are those of which they tell.
use Rattle.std.proofs.Common.{◌≡◌, ℕ, zero, suc, ◌+◌, ◌^◌, ◌<◌, ◌≤◌, inl, inr, ◌⊎◌, Bool, true, false, cond, List, [], ◌∷◌, length, get_or, All, refl, sym, ap, ap₂, ◌∙◌, subst, arith}
use Rattle.std.specs.Prelude.{Contains}
use Rattle.std.specs.List.{list_any, flat_map}
use Rattle.std.specs.Str.{bytes_eq}
use Rattle.std.proofs.Math.Nat.{mod-lt}
use Rattle.std.proofs.lemmas.Bool.{cases_Bool, false≢true}
use Rattle.std.proofs.lemmas.List.Elements.{All-contains_itself, Contains-append_left, Contains-append_right}
use Rattle.std.proofs.lemmas.List.Folds.{Any-from_list_any}
use Rattle.std.proofs.lemmas.Slice.Eq.{bytes_eq-Decides}
use Rattle.flame_layout.specs.declared.boxes.SpanBox.{SpanBox}
use Rattle.stack_core.specs.NamesInOrder.{with_name, with_stack}
use Rattle.page_texts.specs.Columns.{plus, minus, no_span, end_of, is_on, front_of, rest_of}
use Rattle.page_texts.specs.Page.{PageBox, PageDrawing, Page, told_box, told_boxes, is_under, kept, kept_names, names_of, page_names, place_of}
use Rattle.page_texts.specs.PageLaws.{IsSmallBox, IsSmallPage, ReadsBack, box_told, boxes_told, weight_told, start_told, is_told_under}
use Rattle.page_texts.proofs.Names.{grown}

-- ---- numbers that go round

plus-minus : (a b : ℕ) → a < 2 ^ 64 → b < 2 ^ 64 → plus b (minus a b) ≡ a
plus-minus a b small less = omega arith

minus-minus : (a b : ℕ) → a < 2 ^ 64 → b ≤ 2 ^ 64 → minus b (minus b a) ≡ a
minus-minus a b small less = omega arith

minus-plus : (start weight : ℕ) → start < 2 ^ 64 → weight < 2 ^ 64 → minus (plus start weight) start ≡ weight
minus-plus start weight small light = omega arith

-- ---- a box behind another

record IsSmallSpan (span : SpanBox) : Type 0 where
  depth : span.depth < 2 ^ 64
  start : span.start < 2 ^ 64

end-lt : (span : SpanBox) → end_of span < 2 ^ 64
end-lt span = mod-lt (span.start + span.weight) (omega arith)

front-lt : (on : Bool) (before : SpanBox) → IsSmallSpan before → front_of on before < 2 ^ 64
front-lt true before h = h.start
front-lt false before h = end-lt before

module _ (names : List (List ℕ)) (before : SpanBox) (small_before : IsSmallSpan before) (box : PageBox) (small : IsSmallBox box) (named : get_or names (place_of names box.span.name) [] ≡ box.span.name) (under : Bool) where
  start-is : start_told before (told_box names before box under) ≡ box.span.start
  start-is = plus-minus box.span.start (front_of (is_on before box.span) before) small.start (front-lt (is_on before box.span) before small_before)

  weight-is : weight_told before (told_box names before box under) ≡ box.span.weight
  weight-is = go (is_on before box.span)
    where
      go : (on : Bool)
          → cond on (minus (minus (end_of before) (cond on (minus (end_of before) (end_of box.span)) box.span.weight)) (start_told before (told_box names before box under))) (cond on (minus (end_of before) (end_of box.span)) box.span.weight)
          ≡ box.span.weight
      go true =
          ap₂ minus (minus-minus (end_of box.span) (end_of before) (end-lt box.span) (omega (arith, end-lt before))) start-is
          ∙ minus-plus box.span.start box.span.weight small.start small.weight
      go false = refl

  own-is : (b : Bool) (weight : ℕ) → weight ≡ box.span.weight → cond b (rest_of b box.span) (minus weight (rest_of b box.span)) ≡ box.span.own
  own-is true weight is = refl
  own-is false weight is = ap (λ w. minus w (minus box.span.weight box.span.own)) is ∙ minus-minus box.span.own box.span.weight small.own (omega (arith, small.weight))

  depth-is : minus (before.depth + 1) (minus (before.depth + 1) box.span.depth) ≡ box.span.depth
  depth-is = minus-minus box.span.depth (before.depth + 1) small.depth (omega (arith, small_before.depth))

  box-is : box_told names before (told_box names before box under) under ≡ box
  box-is = λ i. record {
    span = record { depth = depth-is i; name = named i; start = start-is i; weight = weight-is i; own = own-is under (weight_told before (told_box names before box under)) weight-is i };
    other = box.other;
  }

-- ---- names

named_at : (names : List (List ℕ)) (name : List ℕ) → Contains names name → get_or names (place_of names name) [] ≡ name
named_at [] name h = absurd (omega (arith, h.1))
named_at (x ∷ xs) name h = go (named_at xs name) (cases_Bool (bytes_eq name x)) h
  where
    go : (Contains xs name → get_or xs (place_of xs name) [] ≡ name) → (bytes_eq name x ≡ true) ⊎ (bytes_eq name x ≡ false) → Contains (x ∷ xs) name
        → get_or (x ∷ xs) (place_of (x ∷ xs) name) [] ≡ name
    go later (inl e) k =
        let first : place_of (x ∷ xs) name ≡ 0 = rw e in
        ap (λ n. get_or (x ∷ xs) n []) first ∙ sym ((bytes_eq-Decides name x).0 e)
    go later (inr e) (zero, below, is) = absurd (false≢true (sym e ∙ (bytes_eq-Decides name x).1 (sym is)))
    go later (inr e) (suc k, below, is) =
        let behind : place_of (x ∷ xs) name ≡ 1 + place_of xs name = rw e in
        let next : place_of (x ∷ xs) name ≡ suc (place_of xs name) = omega (arith, behind) in
        ap (λ n. get_or (x ∷ xs) n []) next ∙ later (k, omega arith, is)

-- ---- all boxes

is_under_same : (names : List (List ℕ)) (span : SpanBox) (later : List PageBox) → is_told_under (told_boxes names span later) ≡ is_under span later
is_under_same names span [] = refl
is_under_same names span (next ∷ later) = refl

read_behind : (names : List (List ℕ)) (before : SpanBox) → IsSmallSpan before → (boxes : List PageBox) → All IsSmallBox boxes → All (Contains names) (names_of boxes)
    → boxes_told names before (told_boxes names before boxes) ≡ boxes
read_behind names before h [] small named = refl
read_behind names before h (box ∷ boxes) small named =
    let is_small = small 0 box (omega arith) in
    let told = told_box names before box (is_under box.span boxes) in
    let first : box_told names before told (is_told_under (told_boxes names box.span boxes)) ≡ box =
    ap (box_told names before told) (is_under_same names box.span boxes)
    ∙ box-is names before h box is_small (named_at names box.span.name (named 0 [] (omega arith))) (is_under box.span boxes) in
    let later = read_behind names box.span (record { depth = is_small.depth; start = is_small.start }) boxes (λ k d l. small (suc k) d (omega arith)) (λ k d l. named (suc k) d (omega arith)) in
    ap (λ b. b ∷ boxes_told names b.span (told_boxes names box.span boxes)) first ∙ ap (λ bs. box ∷ bs) later

pub boxes_are_read : (names : List (List ℕ)) (boxes : List PageBox) → All IsSmallBox boxes → All (Contains names) (names_of boxes)
    → boxes_told names no_span (told_boxes names no_span boxes) ≡ boxes
boxes_are_read names boxes small named = read_behind names no_span (record { depth = omega arith; start = omega arith }) boxes small named

-- ---- the names of a page

has_name : (names : List (List ℕ)) (new : List ℕ) → Contains (with_name names new) new
has_name names new = go (cases_Bool (list_any (bytes_eq new) names))
  where
    go : (list_any (bytes_eq new) names ≡ true) ⊎ (list_any (bytes_eq new) names ≡ false) → Contains (with_name names new) new
    go (inl e) =
        let at = Any-from_list_any (bytes_eq new) names e in
        let same : new ≡ at.1 = (bytes_eq-Decides new at.1).0 at.4 in
        rw e (at.0, at.2, subst (λ name. get_or names at.0 name ≡ name) (sym same) at.3)
    go (inr e) = rw e (Contains-append_right names (new ∷ []) new (0, omega arith, refl))

has_still : (names stack : List (List ℕ)) (name : List ℕ) → Contains names name → Contains (with_stack names stack) name
has_still names [] name h = h
has_still names (new ∷ stack) name h =
    let g = grown names new in
    has_still (with_name names new) stack name (subst (λ ns. Contains ns name) (sym g.1) (Contains-append_left names g.0 name h))

has_stack : (names stack : List (List ℕ)) (name : List ℕ) → Contains stack name → Contains (with_stack names stack) name
has_stack names [] name h = absurd (omega (arith, h.1))
has_stack names (new ∷ stack) name (zero, below, is) = has_still (with_name names new) stack name (subst (Contains (with_name names new)) is (has_name names new))
has_stack names (new ∷ stack) name (suc k, below, is) = has_stack (with_name names new) stack name (k, omega arith, is)

-- the names of one drawing are among those of all
has_all : (drawings : List PageDrawing) (k : ℕ) (d : PageDrawing) (name : List ℕ) → k < length drawings → Contains (kept_names (get_or drawings k d)) name → Contains (flat_map kept_names drawings) name
has_all [] k d name within h = absurd (omega arith)
has_all (drawing ∷ drawings) zero d name within h = Contains-append_left (kept_names drawing) (flat_map kept_names drawings) name h
has_all (drawing ∷ drawings) (suc k) d name within h = Contains-append_right (kept_names drawing) (flat_map kept_names drawings) name (has_all drawings k d name (omega arith) h)

pub drawings_are_read : (page : Page) → IsSmallPage page → All (ReadsBack (page_names page.drawings)) page.drawings
drawings_are_read page small k d within =
    let drawing = get_or page.drawings k d in
    boxes_are_read (page_names page.drawings) (kept drawing.least drawing.boxes) (small.drawings k d within).boxes
    (λ j e l. has_stack [] (flat_map kept_names page.drawings) _ (has_all page.drawings k d _ within (All-contains_itself (kept_names drawing) j e l)))
