-- The text of a page round its drawings.
use Rattle.std.proofs.Common.{◌≡◌, ℕ, Bool, true, false, List, [], ◌∷◌, ◌++◌, map, codes, refl, sym, ap, ◌∙◌, append_assoc, append-nil}
use Rattle.std.specs.List.{flat_map}
use Rattle.json.specs.Print.{escape_byte, quoted}
use Rattle.serde_json.specs.Data.{Data, string, object, member, no_members}
use Rattle.stack_core.specs.NamesInOrder.{with_name, with_stack}
use Rattle.page_texts.specs.Page.{PageDrawing, PageSource, Page, page_text, page_value, kept_names, member_if, opening_members, page_names, whole_number, list_data, drawing_data, source_data}
use Rattle.page_texts.specs.ScriptSafe.{script_safe}
use Rattle.page_texts.specs.Drawn.{source_of}
use Rattle.page_texts.specs.declared.pages.Source.{Source}
use Rattle.page_texts.specs.checked.Kept.{number_text, opening_text, text_if}
use Rattle.page_texts.specs.checked.SafeText.{safe_text}
use Rattle.page_texts.proofs.SafeText.{safe-value}
use Rattle.page_texts.proofs.Names.{grown}

abbrev pub text_after : List ℕ → List ℕ → List ℕ
text_after key text = key ++ script_safe (quoted text)

pub source_text : (source : PageSource) → safe_text (source_data source)
    ≡ text_after (codes "{\"name\":") source.name ++ (text_after (codes ",\"type\":") source.type_name ++ (text_after (codes ",\"unit\":") source.unit ++ (number_text (codes ",\"weight\":") source.weight ++ 125 ∷ [])))
unfolding script_safe escape_byte
source_text source = refl

regroup : (a b c d : List ℕ) → ((a ++ b) ++ c) ++ d ≡ a ++ (b ++ (c ++ d))
regroup a b c d = simp append_assoc

-- ---- names that are added

pub grown_stack : (names stack : List (List ℕ)) → (rest : List (List ℕ)) × (with_stack names stack ≡ names ++ rest)
grown_stack names [] = ([], sym (append-nil names))
grown_stack names (name ∷ stack) =
    let g = grown names name in
    let h = grown_stack (with_name names name) stack in
    (g.0 ++ h.0, h.1 ∙ ap (λ ns. ns ++ h.0) g.1 ∙ append_assoc names g.0 h.0)

pub flat_push : (drawings : List PageDrawing) (drawing : PageDrawing) → flat_map kept_names (drawings ++ drawing ∷ []) ≡ flat_map kept_names drawings ++ kept_names drawing
flat_push [] drawing = append-nil (kept_names drawing)
flat_push (one ∷ drawings) drawing = ap (λ t. kept_names one ++ t) (flat_push drawings drawing) ∙ sym (append_assoc (kept_names one) (flat_map kept_names drawings) (kept_names drawing))

-- ---- lists that are appended value by value

list_step_parts : (before done comma new : List ℕ) → ((before ++ done) ++ comma) ++ new ≡ before ++ (done ++ (comma ++ new))
list_step_parts before done comma new = simp append_assoc

pub list_step : (before done comma new whole out out1 out2 : List ℕ) → out ≡ before ++ done → out1 ≡ out ++ comma → out2 ≡ out1 ++ new → whole ≡ done ++ (comma ++ new) → out2 ≡ before ++ whole
list_step before done comma new whole out out1 out2 e e1 e2 w = let parts = list_step_parts before done comma new in cc

list_end_parts : (o key values : List ℕ) → ((o ++ key) ++ values) ++ 93 ∷ [] ≡ o ++ (key ++ (values ++ 93 ∷ []))
list_end_parts o key values = simp append_assoc

pub list_end : (o key values items out1 out2 out3 : List ℕ) → out1 ≡ o ++ key → out2 ≡ out1 ++ values → out3 ≡ out2 ++ 93 ∷ [] → items ≡ values ++ 93 ∷ [] → out3 ≡ o ++ (key ++ items)
list_end o key values items out1 out2 out3 e1 e2 e3 i = let parts = list_end_parts o key values in cc

-- ---- the whole

ten : (o a b c d e f g h k l : List ℕ) → (((((((((o ++ a) ++ b) ++ c) ++ d) ++ e) ++ f) ++ g) ++ h) ++ k) ++ l ≡ o ++ (a ++ (b ++ (c ++ (d ++ (e ++ (f ++ (g ++ (h ++ (k ++ l)))))))))
ten o a b c d e f g h k l = simp append_assoc

pub ten_in_turn : (o a b c d e f g h k l whole o1 o2 o3 o4 o5 o6 o7 o8 o9 o10 : List ℕ) → o1 ≡ o ++ a → o2 ≡ o1 ++ b → o3 ≡ o2 ++ c → o4 ≡ o3 ++ d → o5 ≡ o4 ++ e → o6 ≡ o5 ++ f → o7 ≡ o6 ++ g → o8 ≡ o7 ++ h → o9 ≡ o8 ++ k → o10 ≡ o9 ++ l
    → whole ≡ a ++ (b ++ (c ++ (d ++ (e ++ (f ++ (g ++ (h ++ (k ++ l)))))))) → o10 ≡ o ++ whole
ten_in_turn o a b c d e f g h k l whole o1 o2 o3 o4 o5 o6 o7 o8 o9 o10 e1 e2 e3 e4 e5 e6 e7 e8 e9 e10 w = let parts = ten o a b c d e f g h k l in cc

abbrev pub list_after : List ℕ → List Data → List ℕ
list_after key values = key ++ safe_text (list_data values)

-- what stands behind the drawings and the names
abbrev later_text : Bool → Bool → List Data → List ℕ → List ℕ → ℕ → List ℕ
later_text is_below is_share sources title view whole =
    opening_text is_below is_share ++ (list_after (codes ",\"sources\":") sources ++ (text_after (codes ",\"title\":") title ++ (text_after (codes ",\"view\":") view ++ (number_text (codes ",\"whole\":") whole ++ 125 ∷ []))))

-- what stands behind the drawings alone, where more is to come
abbrev pub more_text : Bool → List ℕ
more_text has_more = text_if has_more (codes ",\"more\":true")

page_shape : (drawings names : List Data) (has_more is_below is_share : Bool) (sources : List Data) (title view : List ℕ) (whole : ℕ)
    → safe_text (object (member (codes "drawings") (list_data drawings) (member_if has_more (codes "more") (member (codes "names") (list_data names) (opening_members is_below is_share (member (codes "sources") (list_data sources) (member (codes "title") (string title) (member (codes "view") (string view) (member (codes "whole") (whole_number whole) no_members)))))))))
    ≡ codes "{\"drawings\":" ++ (safe_text (list_data drawings) ++ (more_text has_more ++ (list_after (codes ",\"names\":") names ++ later_text is_below is_share sources title view whole)))
unfolding script_safe escape_byte
page_shape drawings names true true true sources title view whole = refl
page_shape drawings names true true false sources title view whole = refl
page_shape drawings names true false true sources title view whole = refl
page_shape drawings names true false false sources title view whole = refl
page_shape drawings names false true true sources title view whole = refl
page_shape drawings names false true false sources title view whole = refl
page_shape drawings names false false true sources title view whole = refl
page_shape drawings names false false false sources title view whole = refl

pub page_parts : (page : Page) (names : List (List ℕ)) → names ≡ page_names page.drawings → page_text page
    ≡ codes "{\"drawings\":" ++ (safe_text (list_data (map (drawing_data names) page.drawings)) ++ (more_text page.has_more ++ (list_after (codes ",\"names\":") (map string names)
    ++ later_text page.is_root_below page.is_share (map source_data page.sources) page.title page.view page.whole)))
unfolding page_text
page_parts page names are =
    safe-value (page_value page)
    ∙ page_shape (map (drawing_data (page_names page.drawings)) page.drawings) (map string (page_names page.drawings)) page.has_more page.is_root_below page.is_share (map source_data page.sources) page.title page.view page.whole
    ∙ sym (ap (λ ns. codes "{\"drawings\":" ++ (safe_text (list_data (map (drawing_data ns) page.drawings)) ++ (more_text page.has_more ++ (list_after (codes ",\"names\":") (map string ns)
    ++ later_text page.is_root_below page.is_share (map source_data page.sources) page.title page.view page.whole)))) are)

pub sources_same : (sources : List Source) → map (λ source. source_data (source_of source)) sources ≡ map source_data (map source_of sources)
sources_same [] = refl
sources_same (source ∷ sources) = ap (λ ds. source_data (source_of source) ∷ ds) (sources_same sources)

pub maps_are_one : {S T U : Type 0} (f : S → T) (g : T → U) (xs : List S) → map g (map f xs) ≡ map (λ x. g (f x)) xs
maps_are_one f g [] = refl
maps_are_one f g (x ∷ xs) = ap (λ ys. g (f x) ∷ ys) (maps_are_one f g xs)
