-- What is kept of each drawing, while names are added.
use Rattle.std.proofs.Common.{◌≡◌, ℕ, zero, suc, ◌<◌, List, [], ◌∷◌, ◌++◌, length, map, get_or, refl, sym, ap, ◌∙◌, subst, arith}
use Rattle.std.specs.List.{flat_map}
use Rattle.stack_core.specs.NamesInOrder.{with_stack}
use Rattle.page_texts.specs.Page.{PageBox, PageDrawing, kept, kept_names, page_names}
use Rattle.page_texts.specs.declared.kept_boxes.KeptBoxes.{KeptBoxes}
use Rattle.page_texts.specs.checked.Kept.{Keeps, AreAllKept}
use Rattle.page_texts.proofs.Names.{with_stack-append, still_named, still_numbered}
use Rattle.page_texts.proofs.PageTexts.{grown_stack, flat_push}

keeps_still : (names rest : List (List ℕ)) (least : ℕ) (boxes : List PageBox) (answer : KeptBoxes) → Keeps names least boxes answer → Keeps (names ++ rest) least boxes answer
keeps_still names rest least boxes answer keeps = record {
  boxes_are = keeps.boxes_are ∙ still_numbered names rest (kept least boxes) keeps.named;
  named = still_named names rest (kept least boxes) keeps.named;
  left_boxes = keeps.left_boxes;
  left_weight = keeps.left_weight;
}

all_still : (names rest : List (List ℕ)) (drawings : List PageDrawing) (answers : List KeptBoxes) → AreAllKept names drawings answers → AreAllKept (names ++ rest) drawings answers
all_still names rest [] [] all = all
all_still names rest [] (answer ∷ answers) all = absurd all
all_still names rest (drawing ∷ drawings) [] all = absurd all
all_still names rest (drawing ∷ drawings) (answer ∷ answers) all = (keeps_still names rest drawing.least drawing.boxes answer all.0, all_still names rest drawings answers all.1)

all_push : (names : List (List ℕ)) (drawings : List PageDrawing) (answers : List KeptBoxes) (drawing : PageDrawing) (answer : KeptBoxes)
    → AreAllKept names drawings answers → Keeps names drawing.least drawing.boxes answer → AreAllKept names (drawings ++ drawing ∷ []) (answers ++ answer ∷ [])
all_push names [] [] drawing answer all keeps = (keeps, tt)
all_push names [] (one ∷ answers) drawing answer all keeps = absurd all
all_push names (one ∷ drawings) [] drawing answer all keeps = absurd all
all_push names (one ∷ drawings) (first ∷ answers) drawing answer all keeps = (all.0, all_push names drawings answers drawing answer all.1 keeps)

-- one drawing more
pub kept_step : (names : List (List ℕ)) (drawings : List PageDrawing) (answers : List KeptBoxes) → names ≡ page_names drawings → AreAllKept names drawings answers
    → (drawing : PageDrawing) (names' : List (List ℕ)) (answer : KeptBoxes) → names' ≡ with_stack names (kept_names drawing) → Keeps names' drawing.least drawing.boxes answer
    → (drawings' : List PageDrawing) (answers' : List KeptBoxes) → drawings' ≡ drawings ++ drawing ∷ [] → answers' ≡ answers ++ answer ∷ []
    → (names' ≡ page_names drawings') × AreAllKept names' drawings' answers'
kept_step names drawings answers are all drawing names' answer more keeps drawings' answers' d a =
    let g = grown_stack names (kept_names drawing) in
    let still = subst (λ ns. AreAllKept ns drawings answers) (sym (more ∙ g.1)) (all_still names g.0 drawings answers all) in
    let both = all_push names' drawings answers drawing answer still keeps in (
      more ∙ ap (λ ns. with_stack ns (kept_names drawing)) are ∙ sym (with_stack-append [] (flat_map kept_names drawings) (kept_names drawing))
          ∙ ap (with_stack []) (sym (flat_push drawings drawing)) ∙ ap page_names (sym d),
      subst (λ ds. AreAllKept names' ds answers') (sym d) (subst (λ xs. AreAllKept names' (drawings ++ drawing ∷ []) xs) (sym a) both),
    )

pub as_many : (names : List (List ℕ)) (drawings : List PageDrawing) (answers : List KeptBoxes) → AreAllKept names drawings answers → length drawings ≡ length answers
as_many names [] [] all = refl
as_many names [] (answer ∷ answers) all = absurd all
as_many names (drawing ∷ drawings) [] all = absurd all
as_many names (drawing ∷ drawings) (answer ∷ answers) all = ap suc (as_many names drawings answers all.1)

-- what is kept of one of them
pub kept_at : {S : Type 0} (names : List (List ℕ)) (stands_for : S → PageDrawing) (drawings : List S) (answers : List KeptBoxes) (at : ℕ) (drawing : S) (answer : KeptBoxes)
    → AreAllKept names (map stands_for drawings) answers → at < length drawings → drawing ≡ get_or drawings at drawing → answer ≡ get_or answers at answer
    → Keeps names (stands_for drawing).least (stands_for drawing).boxes answer
kept_at names stands_for [] answers at drawing answer all within is are = absurd (omega arith)
kept_at names stands_for (one ∷ drawings) [] at drawing answer all within is are = absurd all
kept_at names stands_for (one ∷ drawings) (first ∷ answers) zero drawing answer all within is are =
    subst (λ k. Keeps names (stands_for drawing).least (stands_for drawing).boxes k) (sym are)
    (subst (λ d. Keeps names (stands_for d).least (stands_for d).boxes first) (sym is) all.0)
kept_at names stands_for (one ∷ drawings) (first ∷ answers) (suc at) drawing answer all within is are =
    kept_at names stands_for drawings answers at drawing answer all.1 (omega arith) is are
