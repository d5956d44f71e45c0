-- The pieces of the texts one after another, and each by itself.
use Rattle.std.proofs.Common.{◌≡◌, ℕ, Option, None, Some, suc, ◌+◌, ◌<◌, List, [], ◌∷◌, ◌++◌, false, length, get_or, map, codes, decimal, refl, sym, ap, ◌∙◌, arith, append_assoc}
use Rattle.std.specs.List.{concat, flat_map}
use Rattle.std.proofs.lemmas.List.{length-map, get_or-map}
use Rattle.json.specs.Print.{escape_byte}
use Rattle.serde_json.specs.Data.{Data, string}
use Rattle.serde_json.specs.Written.{compact_text}
use Rattle.function_sums.specs.declared.call_sides.CallSide.{CallSide}
use Rattle.function_sums.specs.declared.call_sides.CallSide.TheVariants.{Callers, Callees}
use Rattle.function_sums.specs.declared.sums.FunctionSum.{FunctionSum}
use Rattle.view_texts.specs.Json.{list_data}
use Rattle.view_texts.proofs.JsonLists.{values_text, items_text-items_of}
use Rattle.view_texts.proofs.TextPieces.{line_pieces-text, length-line_pieces}
use Rattle.function_sums.specs.FunctionJson.{function_data, functions_line}
use Rattle.function_sums.specs.Columns.{Line, line_text, lines_text, widths}
use Rattle.function_sums.specs.Pieces.{table_pieces, functions_end, functions_tail, functions_pieces, unit_member, view_member}
use Rattle.function_sums.specs.Told.{Told}

-- ---- the table

pub lines-text : {Row : Type 0} (line : Row → List ℕ) (rows : List Row) → concat (map line rows) ≡ flat_map line rows
lines-text line [] = refl
lines-text line (row ∷ rows) = ap (λ text. line row ++ text) (lines-text line rows)

pub table-text : (heading : List ℕ) (lines : List Line) → concat (table_pieces heading (widths lines) lines) ≡ heading ++ lines_text lines
unfolding lines_text
table-text heading lines = ap (λ text. heading ++ text) (lines-text (line_text (widths lines)) lines)

-- the piece of a line, after what stands above them
pub piece_of_row : {Row : Type 0} (first : List ℕ) (line : Row → List ℕ) (rows : List Row) (at place : ℕ) (row : Row) → at ≡ place + 1 → place < length rows → get_or (first ∷ map line rows) at [] ≡ line (get_or rows place row)
piece_of_row first line rows at place row e within =
    ap (λ n. get_or (first ∷ map line rows) n []) (e ∙ suc_is place) ∙ get_or-map line rows place row [] within
  where
    suc_is : (n : ℕ) → n + 1 ≡ suc n
    suc_is n = omega arith

-- what stands above the lines is in two parts
pub joined : {heading was shown : List ℕ} {lines wanted : List Line} (whole : List ℕ) → heading ≡ was ++ whole → was ≡ shown → lines ≡ wanted → heading ++ lines_text lines ≡ shown ++ (whole ++ lines_text wanted)
joined {shown = shown} {wanted = wanted} whole is shown_is are = (λ i. is i ++ lines_text (are i)) ∙ ap (λ text. (text ++ whole) ++ lines_text wanted) shown_is ∙ append_assoc shown whole (lines_text wanted)

-- ---- the line of JSON

pub after_value : (key value rest end : List ℕ) → (key ++ (value ++ rest)) ++ end ≡ key ++ (value ++ (rest ++ end))
after_value key value rest end = simp append_assoc

-- the list's brackets stand with what is round it
pub bracketed : (values : List Data) (after : List ℕ) → compact_text (list_data values) ++ after ≡ 91 ∷ (values_text false values ++ 93 ∷ after)
bracketed values after = ap (λ text. 91 ∷ (text ++ after)) (items_text-items_of false values) ∙ ap (λ text. 91 ∷ text) (append_assoc (values_text false values) (93 ∷ []) after)

-- the members after the weight of the samples
abbrev last_members : Option CallSide → Option ℕ → List ℕ
last_members side None = view_member side ++ codes "}"
last_members side (Some all) = view_member side ++ (codes ",\"whole\":" ++ (decimal all ++ codes "}"))

last-line : (side : Option CallSide) (all : Option ℕ) → last_members side all ++ 10 ∷ [] ≡ view_member side ++ functions_end all
last-line side None = append_assoc (view_member side) (codes "}") (10 ∷ [])
last-line side (Some all) =
    append_assoc (view_member side) (codes ",\"whole\":" ++ (decimal all ++ codes "}")) (10 ∷ []) ∙ ap (λ text. view_member side ++ text) (after_value (codes ",\"whole\":") (decimal all) (codes "}") (10 ∷ []))

line-ends : (side : Option CallSide) (all : Option ℕ) (unit : List ℕ) (whole : ℕ) (values : List Data) → (codes "{\"functions\":" ++ (compact_text (list_data values) ++ (codes ",\"total\":" ++ (decimal whole ++ (codes ",\"unit\":" ++ (compact_text (string unit) ++ last_members side all)))))) ++ 10 ∷ []
    ≡ codes "{\"functions\":[" ++ (values_text false values ++ (codes "],\"total\":" ++ (decimal whole ++ (unit_member unit ++ (view_member side ++ functions_end all)))))
line-ends side all unit whole values =
    let told = codes ",\"unit\":" ++ (compact_text (string unit) ++ last_members side all) in
    let end = view_member side ++ functions_end all in
    after_value (codes "{\"functions\":") (compact_text (list_data values)) (codes ",\"total\":" ++ (decimal whole ++ told)) (10 ∷ [])
    ∙ ap (λ text. codes "{\"functions\":" ++ (compact_text (list_data values) ++ text)) (after_value (codes ",\"total\":") (decimal whole) told (10 ∷ []))
    ∙ ap (λ text. codes "{\"functions\":" ++ (compact_text (list_data values) ++ (codes ",\"total\":" ++ (decimal whole ++ text))))
    (after_value (codes ",\"unit\":") (compact_text (string unit)) (last_members side all) (10 ∷ []) ∙ ap (λ text. codes ",\"unit\":" ++ (compact_text (string unit) ++ text)) (last-line side all)
    ∙ sym (append_assoc (codes ",\"unit\":") (compact_text (string unit)) end))
    ∙ ap (λ text. codes "{\"functions\":" ++ text) (bracketed values (codes ",\"total\":" ++ (decimal whole ++ (unit_member unit ++ end))))

line-parts : (side : Option CallSide) (all : Option ℕ) (type_name unit : List ℕ) (whole : ℕ) (sums : List FunctionSum)
    → functions_line side (record { whole = all; type_name = type_name; unit = unit }) whole sums
    ≡ codes "{\"functions\":[" ++ (values_text false (map function_data sums) ++ functions_tail side (record { whole = all; type_name = type_name; unit = unit }) whole)
unfolding functions_line escape_byte
line-parts None None type_name unit whole sums = line-ends None None unit whole (map function_data sums)
line-parts None (Some all) type_name unit whole sums = line-ends None (Some all) unit whole (map function_data sums)
line-parts (Some Callers) None type_name unit whole sums = line-ends (Some Callers) None unit whole (map function_data sums)
line-parts (Some Callers) (Some all) type_name unit whole sums = line-ends (Some Callers) (Some all) unit whole (map function_data sums)
line-parts (Some Callees) None type_name unit whole sums = line-ends (Some Callees) None unit whole (map function_data sums)
line-parts (Some Callees) (Some all) type_name unit whole sums = line-ends (Some Callees) (Some all) unit whole (map function_data sums)

pub functions-text : (side : Option CallSide) (told : Told) (whole : ℕ) (sums : List FunctionSum) → concat (functions_pieces side told whole sums) ≡ functions_line side told whole sums
functions-text side told whole sums =
    line_pieces-text (codes "{\"functions\":[") (functions_tail side told whole) (map function_data sums) ∙ sym (line-parts side told.whole told.type_name told.unit whole sums)

pub length-functions_pieces : (side : Option CallSide) (told : Told) (whole : ℕ) (sums : List FunctionSum) → length (functions_pieces side told whole sums) ≡ length sums + 2
length-functions_pieces side told whole sums =
    length-line_pieces (codes "{\"functions\":[") (functions_tail side told whole) (map function_data sums) ∙ ap (λ n. n + 2) (length-map sums function_data)

-- ---- a function in JSON

function-text : (sum : FunctionSum) → compact_text (function_data sum)
    ≡ codes "{\"name\":" ++ (compact_text (string sum.name) ++ (codes ",\"own\":" ++ (decimal sum.own ++ (codes ",\"total\":" ++ (decimal sum.total ++ 125 ∷ [])))))
unfolding escape_byte
function-text sum = refl

in_turn : (o k1 v1 k2 v2 k3 v3 end : List ℕ) → (((o ++ (k1 ++ v1)) ++ (k2 ++ v2)) ++ (k3 ++ v3)) ++ end ≡ o ++ (k1 ++ (v1 ++ (k2 ++ (v2 ++ (k3 ++ (v3 ++ end))))))
in_turn o k1 v1 k2 v2 k3 v3 end = simp append_assoc

-- its members, each appended by one call
pub function_written : (sum : FunctionSum) (name o o1 o2 o3 o4 : List ℕ) → name ≡ sum.name
    → o1 ≡ o ++ (codes "{\"name\":" ++ compact_text (string name))
    → o2 ≡ o1 ++ (codes ",\"own\":" ++ decimal sum.own)
    → o3 ≡ o2 ++ (codes ",\"total\":" ++ decimal sum.total)
    → o4 ≡ o3 ++ 125 ∷ []
    → o4 ≡ o ++ compact_text (function_data sum)
function_written sum name o o1 o2 o3 o4 n e1 e2 e3 e4 =
    let pieces = in_turn o (codes "{\"name\":") (compact_text (string sum.name)) (codes ",\"own\":") (decimal sum.own) (codes ",\"total\":") (decimal sum.total) (125 ∷ [])
    ∙ ap (λ text. o ++ text) (sym (function-text sum)) in
    cc
