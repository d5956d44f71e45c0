-- The names of functions, one more at a time.
use Rattle.std.proofs.Common.{◌≡◌, [], ◌∷◌, ◌++◌, ℕ, List, ◌+◌, ◌<◌, length, Option, Some, Bool, true, false, cond, refl, sym, ◌∙◌, ap, take, get_or, map, arith}
use Rattle.std.specs.Prelude.{◌==◌, string_bytes}
use Rattle.std.specs.List.{slice_get}
use Rattle.std.specs.Ordering.{nat_cmp, is_eq}
use Rattle.std.specs.BTreeMap.{IsEmpty, get, Updates}
use Rattle.std.proofs.lemmas.List.{take_more, length-map}
use Rattle.std.proofs.lemmas.Grind.{common_steps}
use Rattle.profile_messages.specs.declared.messages.Function.{Function}
use Rattle.profile_tables.specs.declared.functions.MadeNames.{MadeNames}
use Rattle.profile_messages.specs.Tables.{string_at}
use Rattle.profile_tables.specs.Naming.{function_name}
use Rattle.profile_tables.specs.checked.Functions.{text_index, name_or_unknown, AreMade}
use Rattle.profile_messages.proofs.ItemLemmas.{map-push, slice_get-append, slice_get-push, referred-kept}

is_eq-nat_cmp : (a b : ℕ) → is_eq (nat_cmp a b) ≡ (a == b)
is_eq-nat_cmp a b = grind (arith, common_steps)

same-index : (a b : ℕ) → (a == b) ≡ true → a ≡ b
same-index a b same = grind (arith, common_steps)

made-at : (b : Bool) (strings names : List (List ℕ)) (index other place : ℕ) (old : Option ℕ) → cond b (Some (length names)) old ≡ Some place → (old ≡ Some place → slice_get names place ≡ Some (name_or_unknown (string_at strings other))) → (b ≡ true → index ≡ other) → slice_get (names ++ name_or_unknown (string_at strings index) ∷ []) place ≡ Some (name_or_unknown (string_at strings other))
made-at true strings names index other place old got before same =
    let here : length names ≡ place = cc in
    ap (slice_get (names ++ name_or_unknown (string_at strings index) ∷ [])) (sym here)
    ∙ slice_get-push names (name_or_unknown (string_at strings index))
    ∙ ap (λ i. Some (name_or_unknown (string_at strings i))) (same refl)
made-at false strings names index other place old got before same = slice_get-append names _ place _ (before got)

-- no name yet
pub AreMade-none : (strings : List (List ℕ)) (made : MadeNames) → IsEmpty made.places → AreMade strings made
AreMade-none strings made empty = grind (arith, common_steps)

-- one more name, behind the others
pub AreMade-more : (strings : List (List ℕ)) (old new : MadeNames) (index place : ℕ) (name : List ℕ) → AreMade strings old → map string_bytes new.names.items ≡ map string_bytes old.names.items ++ name ∷ [] → name ≡ name_or_unknown (string_at strings index) → place ≡ length old.names.items → Updates nat_cmp old.places new.places index (Some place) → AreMade strings new
AreMade-more strings old new index place name made names name_is place_is updates = record {
  each = λ other at got.
      ap (λ list. slice_get list at) (names ∙ ap (λ last. map string_bytes old.names.items ++ last ∷ []) name_is)
      ∙ made-at (index == other) strings (map string_bytes old.names.items) index other at (get nat_cmp old.places other)
      (ap (λ n. cond (index == other) (Some n) (get nat_cmp old.places other)) (length-map old.names.items string_bytes ∙ sym place_is)
      ∙ ap (λ b. cond b (Some place) (get nat_cmp old.places other)) (sym (is_eq-nat_cmp index other))
      ∙ sym (updates.0 other) ∙ got)
      (made.each other at) (same-index index other);
}

-- a name that was there, and the new one
pub made-kept : (names names' : List (List ℕ)) (name : List ℕ) → names' ≡ names ++ name ∷ [] → (place : ℕ) (old : List ℕ) → slice_get names place ≡ Some old → slice_get names' place ≡ Some old
made-kept names names' name more place old is = ap (λ list. slice_get list place) more ∙ slice_get-append names _ place old is

pub made-new : (names names' : List (List ℕ)) (name : List ℕ) (place : ℕ) → names' ≡ names ++ name ∷ [] → place ≡ length names → slice_get names' place ≡ Some name
made-new names names' name place more is = ap (λ list. slice_get list place) more ∙ ap (slice_get (names ++ name ∷ [])) is ∙ slice_get-push names name

named-by : (b : Bool) (strings : List (List ℕ)) (name system_name : ℕ) → cond b (string_at strings system_name) (string_at strings name) ≡ string_at strings (cond b system_name name)
named-by true strings name system_name = refl
named-by false strings name system_name = refl

-- a function's name is the one that its string makes
function_name-is : (strings : List (List ℕ)) (function : Function) → name_or_unknown (string_at strings (text_index strings function)) ≡ function_name strings function
function_name-is strings function =
    ap name_or_unknown (sym (named-by (length (string_at strings function.name) == 0) strings function.name function.system_name))

-- one more function
pub names-more : (strings names names' : List (List ℕ)) (functions : List Function) (d : Function) (places places' : List ℕ) (k place index : ℕ) → k < length functions → map (slice_get names) places ≡ map (λ function. Some (function_name strings function)) (take k functions) → ((at : ℕ) (name : List ℕ) → slice_get names at ≡ Some name → slice_get names' at ≡ Some name) → slice_get names' place ≡ Some (name_or_unknown (string_at strings index)) → index ≡ text_index strings (get_or functions k d) → places' ≡ places ++ place ∷ [] → map (slice_get names') places' ≡ map (λ function. Some (function_name strings function)) (take (k + 1) functions)
names-more strings names names' functions d places places' k place index lt before kept here index_is more =
    let named : Function → Option (List ℕ) = λ function. Some (function_name strings function) in
    ap (map (slice_get names')) more ∙ map-push (slice_get names') places place
    ∙ ap (λ last. map (slice_get names') places ++ last ∷ []) (here ∙ ap (λ i. Some (name_or_unknown (string_at strings i))) index_is ∙ ap Some (function_name-is strings (get_or functions k d)))
    ∙ ap (λ list. list ++ named (get_or functions k d) ∷ []) (referred-kept (slice_get names) (slice_get names') (function_name strings) places (take k functions) kept before)
    ∙ sym (map-push named (take k functions) (get_or functions k d))
    ∙ sym (ap (map named) (take_more functions k d lt))

-- what no function has
abbrev pub no_function : Function
no_function = record { at = 0; id = 0; name = 0; system_name = 0 }
