-- The places of names, and the boxes that are kept so far.
use Rattle.std.proofs.Common.{◌≡◌, ℕ, zero, suc, ◌+◌, ◌<◌, ◌≤◌, inl, inr, ◌⊎◌, Bool, true, false, not, cond, List, [], ◌∷◌, ◌++◌, length, map, get_or, slice_get, Some, refl, sym, ap, ap₂, ◌∙◌, subst, arith}
use Rattle.std.specs.Prelude.{unwrap_or}
use Rattle.std.specs.List.{list_any}
use Rattle.std.specs.Str.{bytes_eq}
use Rattle.std.proofs.lemmas.Bool.{cases_Bool, lt-leb, le-leb}
use Rattle.std.proofs.lemmas.List.{length-append, map-append, append-nil}
use Rattle.std.proofs.lemmas.List.Elements.{filter-append}
use Rattle.std.proofs.lemmas.List.Sums.{sum_by-append}
use Rattle.std.proofs.lemmas.Option.{slice_get-get_or}
use Rattle.std.proofs.lemmas.Slice.Eq.{bytes_eq-Decides}
use Rattle.call_tree.specs.FrameTable.{HasDistinctNames}
use Rattle.stack_core.specs.NamesInOrder.{with_name, with_stack}
use Rattle.page_texts.specs.Page.{PageBox, is_kept, kept, left_out, own_weight, names_of, place_of}
use Rattle.page_texts.specs.declared.kept_boxes.KeptBox.{KeptBox}
use Rattle.page_texts.specs.checked.Kept.{numbered, AreNamed}

-- ---- places

module _ (name : List ℕ) where
  first_place : (names : List (List ℕ)) (n : ℕ) → n < length names → get_or names n [] ≡ name → ((j : ℕ) → j < n → get_or names j [] ≡ name → ⊥) → place_of names name ≡ n
  first_place [] n lt is none = absurd (omega arith)
  first_place (x ∷ xs) zero lt is none = rw ((bytes_eq-Decides name x).1 (sym is))
  first_place (x ∷ xs) (suc n) lt is none = go (first_place xs n (omega arith) is (λ j l. none (suc j) (omega arith))) (cases_Bool (bytes_eq name x))
    where
      go : place_of xs name ≡ n → (bytes_eq name x ≡ true) ⊎ (bytes_eq name x ≡ false) → place_of (x ∷ xs) name ≡ suc n
      go later (inl e) = absurd (none 0 (omega arith) (sym ((bytes_eq-Decides name x).0 e)))
      go later (inr e) = rw e (omega (arith, later))

  pub place_stays : (xs ys : List (List ℕ)) → place_of xs name < length xs → place_of (xs ++ ys) name ≡ place_of xs name
  place_stays [] ys h = absurd (omega arith)
  place_stays (x ∷ xs) ys h = go (place_stays xs ys) (cases_Bool (bytes_eq name x))
    where
      go : (place_of xs name < length xs → place_of (xs ++ ys) name ≡ place_of xs name) → (bytes_eq name x ≡ true) ⊎ (bytes_eq name x ≡ false) → place_of (x ∷ (xs ++ ys)) name ≡ place_of (x ∷ xs) name
      go later (inl e) = rw e
      go later (inr e) =
          let here : place_of (x ∷ xs) name ≡ 1 + place_of xs name = rw e in
          let there : place_of (x ∷ (xs ++ ys)) name ≡ 1 + place_of (xs ++ ys) name = rw e in
          omega (arith, here, there, later (omega (arith, h, here)))

-- the number that a table gives a name is its place
pub place_is_number : (names : List (List ℕ)) (name : List ℕ) (n : ℕ) → HasDistinctNames names → n < length names → slice_get names n ≡ Some name → place_of names name ≡ n
place_is_number names name n distinct below at =
    let is : get_or names n [] ≡ name = ap (λ o. unwrap_or o []) (sym (slice_get-get_or names n [] below) ∙ at) in
    first_place name names n below is (λ j lt same. let e : j ≡ n = distinct j n (omega arith) below (same ∙ sym is) in omega (arith, e, lt))

-- ---- names that are added

pub grown : (names : List (List ℕ)) (new : List ℕ) → (rest : List (List ℕ)) × (with_name names new ≡ names ++ rest)
grown names new = go (cases_Bool (list_any (bytes_eq new) names))
  where
    go : (list_any (bytes_eq new) names ≡ true) ⊎ (list_any (bytes_eq new) names ≡ false) → (rest : List (List ℕ)) × (with_name names new ≡ names ++ rest)
    go (inl e) = ([], rw e (sym (append-nil names)))
    go (inr e) = (new ∷ [], rw e refl)

pub with_stack-append : (names stack more : List (List ℕ)) → with_stack names (stack ++ more) ≡ with_stack (with_stack names stack) more
with_stack-append names [] more = refl
with_stack-append names (name ∷ stack) more = with_stack-append (with_name names name) stack more

pub still_named : (names rest : List (List ℕ)) (boxes : List PageBox) → AreNamed names boxes → AreNamed (names ++ rest) boxes
still_named names rest [] h = tt
still_named names rest (box ∷ boxes) h =
    let same = place_stays box.span.name names rest h.0 in
    (omega (arith, same, h.0, length-append names rest), still_named names rest boxes h.1)

pub still_numbered : (names rest : List (List ℕ)) (boxes : List PageBox) → AreNamed names boxes → map (numbered names) boxes ≡ map (numbered (names ++ rest)) boxes
still_numbered names rest [] h = refl
still_numbered names rest (box ∷ boxes) h =
    let same = place_stays box.span.name names rest h.0 in
    ap₂ (λ n later. record { depth = box.span.depth; name = n; other = box.other; own = box.span.own; start = box.span.start; weight = box.span.weight } ∷ later) (sym same) (still_numbered names rest boxes h.1)

named_append : (names : List (List ℕ)) (xs ys : List PageBox) → AreNamed names xs → AreNamed names ys → AreNamed names (xs ++ ys)
named_append names [] ys h k = k
named_append names (x ∷ xs) ys h k = (h.0, named_append names xs ys h.1 k)

-- ---- the boxes so far

pub record KeptSoFar (before names : List (List ℕ)) (least : ℕ) (done : List PageBox) (boxes : List KeptBox) (left_boxes left_weight : ℕ) : Type 0 where
  pub names_are : names ≡ with_stack before (names_of (kept least done))
  pub boxes_are : boxes ≡ map (numbered names) (kept least done)
  pub named : AreNamed names (kept least done)
  pub left_boxes_are : left_boxes ≡ length (left_out least done)
  pub left_weight_is : left_weight ≡ own_weight (left_out least done)

module _ (before names : List (List ℕ)) (least : ℕ) (done : List PageBox) (boxes : List KeptBox) (left_boxes left_weight : ℕ) (so_far : KeptSoFar before names least done boxes left_boxes left_weight) (box : PageBox) where
  kept_more : (answer : Bool) → is_kept least box ≡ answer → kept least (done ++ box ∷ []) ≡ kept least done ++ cond answer (box ∷ []) []
  kept_more answer is = filter-append (is_kept least) done (box ∷ []) ∙ ap (λ b. kept least done ++ cond b (box ∷ []) []) is

  left_more : (answer : Bool) → is_kept least box ≡ answer → left_out least (done ++ box ∷ []) ≡ left_out least done ++ cond answer [] (box ∷ [])
  left_more true is = filter-append (λ b. not (is_kept least b)) done (box ∷ []) ∙ ap (λ b. left_out least done ++ cond (not b) (box ∷ []) []) is
  left_more false is = filter-append (λ b. not (is_kept least b)) done (box ∷ []) ∙ ap (λ b. left_out least done ++ cond (not b) (box ∷ []) []) is

  pub one_left : is_kept least box ≡ false → KeptSoFar before names least (done ++ box ∷ []) boxes (left_boxes + 1) (left_weight + box.span.own)
  one_left is =
      let same : kept least (done ++ box ∷ []) ≡ kept least done = kept_more false is ∙ append-nil (kept least done) in
      let more = left_more false is in
      record {
        names_are = so_far.names_are ∙ ap (λ bs. with_stack before (names_of bs)) (sym same);
        boxes_are = so_far.boxes_are ∙ ap (map (numbered names)) (sym same);
        named = subst (AreNamed names) (sym same) so_far.named;
        left_boxes_are = omega (arith, so_far.left_boxes_are, ap length more, length-append (left_out least done) (box ∷ []));
        left_weight_is = omega (arith, so_far.left_weight_is, ap own_weight more, sum_by-append (λ b. b.span.own) (left_out least done) (box ∷ []));
      }

  pub one_kept : is_kept least box ≡ true → (names' : List (List ℕ)) → names' ≡ with_name names box.span.name → place_of names' box.span.name < length names'
      → KeptSoFar before names' least (done ++ box ∷ []) (boxes ++ numbered names' box ∷ []) left_boxes left_weight
  one_kept is names' new there =
      let more = kept_more true is in
      let same : left_out least (done ++ box ∷ []) ≡ left_out least done = left_more true is ∙ append-nil (left_out least done) in
      let g = grown names box.span.name in
      let longer : names' ≡ names ++ g.0 = new ∙ g.1 in
      let kept_names : names_of (kept least (done ++ box ∷ [])) ≡ names_of (kept least done) ++ box.span.name ∷ [] = ap names_of more ∙ map-append (λ b. b.span.name) (kept least done) (box ∷ []) in
      record {
        names_are = new ∙ ap (λ ns. with_name ns box.span.name) so_far.names_are
            ∙ sym (with_stack-append before (names_of (kept least done)) (box.span.name ∷ [])) ∙ ap (with_stack before) (sym kept_names);
        boxes_are = ap (λ bs. bs ++ numbered names' box ∷ []) (so_far.boxes_are ∙ still_numbered names g.0 (kept least done) so_far.named ∙ ap (λ ns. map (numbered ns) (kept least done)) (sym longer))
            ∙ sym (ap (map (numbered names')) more ∙ map-append (numbered names') (kept least done) (box ∷ []));
        named = subst (AreNamed names') (sym more) (named_append names' (kept least done) (box ∷ []) (subst (λ ns. AreNamed ns (kept least done)) (sym longer) (still_named names g.0 (kept least done) so_far.named)) (there, tt));
        left_boxes_are = so_far.left_boxes_are ∙ ap length (sym same);
        left_weight_is = so_far.left_weight_is ∙ ap own_weight (sym same);
      }

-- the same, as a loop has them
pub left_step : (before names : List (List ℕ)) (least : ℕ) (done : List PageBox) (boxes : List KeptBox) (left_boxes left_weight : ℕ) → KeptSoFar before names least done boxes left_boxes left_weight
    → (box : PageBox) (weight : ℕ) → weight ≡ box.span.weight → weight < least
    → (names' : List (List ℕ)) (done' : List PageBox) (boxes' : List KeptBox) (left_boxes' left_weight' own : ℕ)
    → names' ≡ names → done' ≡ done ++ box ∷ [] → boxes' ≡ boxes → left_boxes' ≡ left_boxes + 1 → left_weight' ≡ left_weight + own → own ≡ box.span.own
    → KeptSoFar before names' least done' boxes' left_boxes' left_weight'
left_step before names least done boxes left_boxes left_weight so_far box weight is narrow names' done' boxes' left_boxes' left_weight' own n d b l w o =
    rw (n, d, b, l, w, o) (one_left before names least done boxes left_boxes left_weight so_far box (lt-leb least box.span.weight (omega arith)))

pub kept_step : (before names : List (List ℕ)) (least : ℕ) (done : List PageBox) (boxes : List KeptBox) (left_boxes left_weight : ℕ) → KeptSoFar before names least done boxes left_boxes left_weight
    → (box : PageBox) (weight : ℕ) → weight ≡ box.span.weight → least ≤ weight
    → (names' : List (List ℕ)) (done' : List PageBox) (boxes' : List KeptBox) (answer : KeptBox)
    → names' ≡ with_name names box.span.name → place_of names' box.span.name < length names' → answer ≡ numbered names' box → done' ≡ done ++ box ∷ [] → boxes' ≡ boxes ++ answer ∷ []
    → KeptSoFar before names' least done' boxes' left_boxes left_weight
kept_step before names least done boxes left_boxes left_weight so_far box weight is wide names' done' boxes' answer n there a d b =
    rw (d, b, a) (one_kept before names least done boxes left_boxes left_weight so_far box (le-leb least box.span.weight (omega arith)) names' n there)
